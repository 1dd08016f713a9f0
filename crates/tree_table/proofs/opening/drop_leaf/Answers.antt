use Rattle.std.proofs.Common.{arith}
use Rattle.std.proofs.lemmas.Result.{err_from_is_err_and}
use Rattle.put_spec.specs.Steps.{Releases}
use Rattle.tree_pages.specs.UsesLaws.{uses-more}
use Rattle.tree_table.proofs.Used.{always, gives-open}
use Rattle.std.proofs.Common.{ℕ, List}
use Rattle.std.proofs.Math.Path.{subst⁻¹}
use Rattle.tree_pages.specs.Writers.{paged, sizes_of}
use Rattle.tree_table.specs.Deletes.{Opens}
use Rattle.tree_table.proofs.Openings.{leaf-gone}
use Rattle.tree_table.proofs.opening.drop_leaf.Goals as goal

pub returns-clause-opened : goal.returns-clause-opened
returns-clause-opened g c = λ old told.
    let S = g.S.PageRead in
    let a = c.args.store.now in
    let z = sizes_of S a in
    let page = c.args.page.now in
    let change = c.without_child-change.result in
    let n = c.in_ok-give_page.ensures.released old told in
    let x = paged S a old in
    let y = paged S c.give_page.new.store n.0 in (
      n.0,
      n.1,
      λ rowid row base there leaves.
          subst⁻¹ (λ (l : List (List ℕ)). Opens z rowid row page change l base y) c.new.ensures.items
          (leaf-gone z page c.requires.page c.requires.kind c.args.step.at c.args.step.child c.requires.child rowid row base there x y leaves n.2 change c.without_child-change.ensures.lost),
    )

pub returns-clause-uses : goal.returns-clause-uses
returns-clause-uses g c = λ old told new later trunks near.
    let S = g.S.PageRead in
    let a = c.args.store.now in
    let z = sizes_of S a in
    let b = c.give_page.new.store in
    let child = c.args.step.child in
    let x = paged S a old in
    let y = paged S b new in
    let gives : Releases z child x y = always S (Releases z child) a b c.in_ok-give_page.ensures.released old told new later in
    let o = gives-open z child x y gives trunks near.free near.within in (o.0, o.1, uses-more z x y 0 1 (omega arith) o.2)

pub returns-in_err-give_page-clause-sound : goal.returns-in_err-give_page-clause-sound
returns-in_err-give_page-clause-sound g c = λ m trunks told free.
    let p = err_from_is_err_and c.from_residual.result c.from_residual.ensures.1 in
    rw (p.1, p.2) (c.in_err-give_page.ensures.sound m trunks told free)
