use Rattle.std.proofs.Common.{refl, subst, false}
use Rattle.tree_pages.specs.Writers.{paged, sizes_of}
use Rattle.index_delete.specs.UsesLaws.{whenever-none}
use Rattle.tree_index.specs.ReadsLaws.{read-there}
use Rattle.index_removal.proofs.Entries.{leaf-misses, cell-equal}
use Rattle.tree_index.specs.Searches.{IsSought}
use Rattle.index_removal.proofs.removing.delete_in_leaf.Goals as goal

pub returns-in-At-clause-deleted : goal.returns-in-At-clause-deleted
returns-in-At-clause-deleted g c = λ old told. (
  old,
  told,
  λ order payload entry found.
      let S = g.S.PageRead in
      let a = c.args.store.now in
      let z = sizes_of S a in
      let page = c.args.found.page in
      let x = paged S a old in
      (refl, leaf-misses z order payload entry page x (read-there page.number z.usable page old found.decoded) c.requires.page c.requires.kind _ (subst (IsSought old z.size z.usable x.count page order payload) c.in-At.is found.sought)),
)

pub returns-in-At-clause-uses : goal.returns-in-At-clause-uses
returns-in-At-clause-uses g c = whenever-none g.S.PageRead (sizes_of g.S.PageRead c.args.store.now) c.args.store.now c.args.store.now refl refl

pub returns-in_ok-taken-in-Present-clause-deleted : goal.returns-in_ok-taken-in-Present-clause-deleted
returns-in_ok-taken-in-Present-clause-deleted g c = λ old told.
    let S = g.S.PageRead in
    let a = c.args.store.now in
    let z = sizes_of S a in
    let page = c.args.found.page in
    let x = paged S a old in
    let taken = c.in_ok-taken-in-Present.taken in
    let is_row = c.in_ok-taken-in-Present.ensures.row in
    let n = c.in_ok-taken-in-Present.ensures.left old told in (
      n.0,
      n.1,
      λ order payload entry found.
          let there = read-there page.number z.usable page old found.decoded in (
            n.2 false taken.row there is_row (λ e. absurd (let h : ⊥ = cc in h)),
            cell-equal z order payload entry page x there c.requires.page c.in-Present.at (subst (IsSought old z.size z.usable x.count page order payload) c.in-Present.is found.sought) taken.row is_row,
          ),
    )
