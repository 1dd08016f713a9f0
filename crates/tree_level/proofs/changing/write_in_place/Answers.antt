use Rattle.std.proofs.Common.{◌≡◌, ℕ, List, ◌∙◌, subst}
use Rattle.std.proofs.Math.Path.{subst⁻¹}
use Rattle.std.specs.List.{All}
use Rattle.format_spec.specs.Page.{IsPage}
use Rattle.page_layout.specs.Views.{HasKind}
use Rattle.put_spec.specs.Steps.{bytes_in}
use Rattle.page_spec.specs.Rooms.{IsOneCell}
use Rattle.tree_spec.specs.Standing.{Paged}
use Rattle.tree_pages.specs.Writers.{sizes_of}
use Rattle.tree_pages.specs.WritersLaws.{Becomes-weaken}
use Rattle.tree_level.specs.Changes.{bytes_changed}
use Rattle.tree_level.specs.Levels.{WritesPage}
use Rattle.tree_level.proofs.Fronts.{on-ok_map}
use Rattle.tree_level.proofs.Changed.{HasRoom, room-decoded, writes-in_place}
use Rattle.tree_level.proofs.changing.write_in_place.Goals as goal

pub change_bytes-requires-clause-comes : goal.change_bytes-requires-clause-comes
change_bytes-requires-clause-comes g c =
    let a = c.args in
    let bytes : c.as_mut_slice-bytes.result.now ≡ a.page.bytes = c.as_mut_slice-bytes.ensures.value ∙ c.into_vec-buffer.ensures in (
      a.page.kind,
      subst⁻¹ (λ (b : List ℕ). HasKind b a.page.number a.page.kind) bytes c.requires.page.kind_is,
      subst⁻¹ (λ (u : ℕ). All (IsOneCell a.page.kind u) a.comes.now) c.usable.ensures c.requires.comes,
    )

pub change_bytes-requires-clause-room : goal.change_bytes-requires-clause-room
change_bytes-requires-clause-room g c =
    let a = c.args in
    let u = g.S.PageRead.usable a.store.now in
    let bytes : c.as_mut_slice-bytes.result.now ≡ a.page.bytes = c.as_mut_slice-bytes.ensures.value ∙ c.into_vec-buffer.ensures in
    subst⁻¹ (λ (n : ℕ). HasRoom a.page.number a.change a.comes.now c.as_mut_slice-bytes.result.now n) c.usable.ensures
    (subst⁻¹ (λ (b : List ℕ). HasRoom a.page.number a.change a.comes.now b u) bytes (room-decoded u a.page a.change a.comes.now c.requires.page c.requires.room))

pub returns-clause-written : goal.returns-clause-written
returns-clause-written g c =
    let S = g.S.PageRead in
    let a = c.args in
    let z = sizes_of S a.store.now in
    let page = a.page in
    let bytes : c.as_mut_slice-bytes.result.now ≡ page.bytes = c.as_mut_slice-bytes.ensures.value ∙ c.into_vec-buffer.ensures in
    let new = c.change_bytes.new.page in
    on-ok_map c.write_page.result
    (Becomes-weaken S a.store.now c.write_page.new.store (λ (x y : Paged) (w : WritesPage page.number new x y).
    writes-in_place z page a.change a.comes.now new x y c.requires.right (λ cells has.
    subst (λ (u : ℕ). IsPage new page.number u page.kind (bytes_changed cells a.change a.comes.now) page.right) c.usable.ensures
    (c.change_bytes.ensures page.kind (bytes_in cells) page.right
    (subst⁻¹ (λ (u : ℕ). IsPage c.as_mut_slice-bytes.result.now page.number u page.kind (bytes_in cells) page.right) c.usable.ensures
    (subst⁻¹ (λ (b : List ℕ). IsPage b page.number z.usable page.kind (bytes_in cells) page.right) bytes has.is_page)))) w)) c.write_page.ensures.written
