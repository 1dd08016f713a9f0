use Rattle.index_delete.specs.UsesLaws.{whenever-none}
use Rattle.std.proofs.Common.{ℕ, List, inl, length, refl, ap, subst, arith}
use Rattle.format_spec.specs.declared.PageKind.TheVariants.{IndexInterior}
use Rattle.tree_pages.specs.Writers.{paged, sizes_of}
use Rattle.index_delete.proofs.Closings.{leaf-emptied, leaf-written}
use Rattle.tree_level.specs.Levels.{AreSpelled}
use Rattle.index_delete.proofs.closing.shrink_leaf.Goals as goal

pub returns-then-as_slice-eq1-clause-left : goal.returns-then-as_slice-eq1-clause-left
returns-then-as_slice-eq1-clause-left g c = λ old told.
    let S = g.S.PageRead in
    let a = c.args.store.now in (
      old,
      told,
      λ ends row there is_row last_goes.
          leaf-emptied (sizes_of S a) c.args.page c.requires.page (paged S a old) there c.requires.kind ends row c.args.at c.requires.at is_row last_goes (omega (arith, c.if-as_slice-eq1.true, ap length c.as_slice.ensures)),
    )

pub returns-then-as_slice-eq1-clause-fit : goal.returns-then-as_slice-eq1-clause-fit
returns-then-as_slice-eq1-clause-fit g c = (inl refl, λ leaf. refl)

pub returns-clause-left : goal.returns-clause-left
returns-clause-left g c = λ old told.
    let S = g.S.PageRead in
    let a = c.args.store.now in
    let n = c.in_ok-write_without.ensures.written old told in (
      n.0,
      n.1,
      λ ends row there is_row last_goes up are.
          leaf-written (sizes_of S a) c.args.page c.requires.page (paged S a old) there c.requires.kind ends row c.args.at c.requires.at is_row last_goes
          (λ one. c.if-as_slice-eq1.false (omega (arith, one, ap length c.as_slice.ensures))) c.args.page.right (paged S c.write_without.new.store n.0) n.2 up
          (subst (λ (l : List (List ℕ)). AreSpelled IndexInterior (S.usable a) up l) c.new.ensures.items are),
    )

pub returns-then-as_slice-eq1-clause-uses : goal.returns-then-as_slice-eq1-clause-uses
returns-then-as_slice-eq1-clause-uses g c = whenever-none g.S.PageRead (sizes_of g.S.PageRead c.args.store.now) c.args.store.now c.args.store.now refl refl
