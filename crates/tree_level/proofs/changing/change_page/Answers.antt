use Rattle.std.proofs.Common.{ℕ, List, ap, inl, arith}
use Rattle.std.proofs.Math.Path.{subst⁻¹}
use Rattle.std.proofs.lemmas.Result.{err_from_is_err_and}
use Rattle.page_spec.specs.FreePages.{due_pages}
use Rattle.tree_spec.specs.Standing.{Paged}
use Rattle.tree_pages.specs.Writers.{Becomes, sizes_of}
use Rattle.tree_pages.specs.WritersLaws.{Becomes-weaken}
use Rattle.tree_level.specs.Changes.{Changes, WritesChange}
use Rattle.tree_level.proofs.Changed.{writes-changed}
use Rattle.tree_level.proofs.changing.change_page.Goals as goal

pub returns-clause-changed : goal.returns-clause-changed
returns-clause-changed g c =
    let S = g.S.PageRead in
    let a = c.args in
    let z = sizes_of S a.store.now in
    subst⁻¹ (λ (l : List (List ℕ)). Becomes S a.store.now c.write_changed.new.store (Changes z a.page a.change a.comes.items l)) c.new.ensures.items
    (Becomes-weaken S a.store.now c.write_changed.new.store (λ (x y : Paged) (w : WritesChange z a.page a.change a.comes.items x y). writes-changed z a.page a.change a.comes.items x y w) c.in_ok-write_changed.ensures.written)

pub returns-clause-rises : goal.returns-clause-rises
returns-clause-rises g c = omega (arith, ap (due_pages (g.S.PageRead.size c.args.store.now)) c.write_changed.ensures.count)

pub returns-in_err-write_changed-clause-refuses : goal.returns-in_err-write_changed-clause-refuses
returns-in_err-write_changed-clause-refuses g c = λ low m trunks told free. let p = err_from_is_err_and c.from_residual.result c.from_residual.ensures.1 in rw (p.1, p.2) (inl c.in_err-write_changed.ensures.other)
