use Rattle.std.proofs.Common.{◌≡◌, ℕ, List, refl, sym, subst}
use Rattle.std.proofs.lemmas.Result.{IfOk-weaker}
use Rattle.format_spec.specs.declared.PageKind.TheVariants.{IndexLeaf}
use Rattle.page_spec.specs.Rooms.{IsOneCell}
use Rattle.tree_pages.specs.Writers.{paged, sizes_of}
use Rattle.index_leaf.specs.Leaves.{TriesAlone}
use Rattle.tree_index.specs.Puts.{MakesCell}
use Rattle.tree_index.proofs.OneLeaf.{tries-into}
use Rattle.tree_index.proofs.alone.put_alone.Goals as goal

pub put_in_leaf-requires-clause-cell : goal.put_in_leaf-requires-clause-cell
put_in_leaf-requires-clause-cell g c =
    let one = rw c.in-Some.is at c.in_ok-made.ensures.cell in
    rw c.as_slice.ensures (subst (λ (u : ℕ). IsOneCell IndexLeaf u c.in-Some.cell) c.usable.ensures one)

pub returns-in_default-clause-tried : goal.returns-in_default-clause-tried
returns-in_default-clause-tried g c = λ old told. (old, told, refl)

pub returns-clause-tried : goal.returns-clause-tried
returns-clause-tried g c =
    let S = g.S.PageRead in
    let a = c.args.store.now in
    let z = sizes_of S a in
    let root = c.args.root in
    let order = c.args.order.now in
    let payload = c.args.payload.now in
    let cell = c.in-Some.cell in
    IfOk-weaker c.put_in_leaf.result _ _ (λ did tried. λ old told.
    let x = paged S a old in
    let makes : MakesCell z payload cell x x = (rw c.in-Some.is at c.in_ok-made.ensures.made) z x (sym c.usable.ensures) in
    let r = tried old told in
    let y = paged S c.put_in_leaf.new.store r.0 in
    let alone = subst (λ (b : List ℕ). TriesAlone order payload z b root did x y) c.as_slice.ensures r.2 in
    (r.0, r.1, tries-into z order payload c.requires.entry cell x y makes root did alone)) c.put_in_leaf.ensures.tried
