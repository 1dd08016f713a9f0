use Rattle.std.proofs.Common.{ap, inl, arith}
use Rattle.std.proofs.lemmas.Result.{IfErr-weaker}
use Rattle.page_spec.specs.FreePages.{due_pages}
use Rattle.tree_spec.specs.Standing.{Paged}
use Rattle.tree_pages.specs.Writers.{sizes_of}
use Rattle.tree_pages.specs.WritersLaws.{Becomes-weaken}
use Rattle.tree_level.specs.Changes.{WritesChange}
use Rattle.tree_level.proofs.Fronts.{on-ok_all, on-ok_map}
use Rattle.tree_level.proofs.Changed.{writes-root}
use Rattle.tree_level.proofs.changing.change_root.Goals as goal

pub returns-clause-changed : goal.returns-clause-changed
returns-clause-changed g c =
    let S = g.S.PageRead in
    let a = c.args in
    let z = sizes_of S a.store.now in
    on-ok_map c.write_changed.result
    (Becomes-weaken S a.store.now c.write_changed.new.store (λ (x y : Paged) (w : WritesChange z a.page a.change a.comes.items x y). writes-root z a.page a.change a.comes.items x y w)) c.write_changed.ensures.written

pub returns-clause-rises : goal.returns-clause-rises
returns-clause-rises g c = on-ok_all c.write_changed.result (omega (arith, ap (due_pages (g.S.PageRead.size c.args.store.now)) c.write_changed.ensures.count))

pub returns-clause-refuses : goal.returns-clause-refuses
returns-clause-refuses g c = λ m trunks told free. IfErr-weaker c.write_changed.result _ _ (λ fault other. inl other) c.write_changed.ensures.other
