-- A cell of an index keeps its payload and its overflow chain in a page of another kind: crates above cite these facts in their proofs.
use Rattle.std.proofs.Common.{◌≡◌, ℕ, ◌+◌, ◌-◌, ◌^◌, ◌<◌, List, [], ◌++◌, length, take, drop, refl, sym, ap, ◌∙◌, subst, inl, inr, arith, length-append}
use Rattle.std.proofs.Math.Path.{subst⁻¹}
use Rattle.std.proofs.Math.Seq.{take-append_seam, drop-append_seam, drop-append-add}
use Rattle.std.proofs.lemmas.List.{append-nil}
use Rattle.byteorder.specs.Endian.{big_bytes, big_number}
use Rattle.byteorder.specs.Numbers.{length-bytes_high_first, big_number-reads_back}
use Rattle.byte_fields.specs.Bytes.{part_of}
use Rattle.format_spec.specs.declared.PageKind.{PageKind}
use Rattle.format_spec.specs.declared.PageKind.TheVariants.{IndexInterior, IndexLeaf}
use Rattle.format_spec.specs.declared.CellView.{CellView}
use Rattle.format_spec.specs.Cell.{IsCell, IsIndexCell, child_size, local_size}
use Rattle.put_spec.specs.Steps.{IsRaised}
use Rattle.index_delete_spec.specs.Steps.{IsOfIndex}
use Rattle.index_cells.specs.Respelling.{respelled, respelled_view}

behind-front : (front rest : List ℕ) (n : ℕ) → length front ≡ n → drop n (front ++ rest) ≡ rest
behind-front front rest n size = ap (λ (m : ℕ). drop m (front ++ rest)) (sym size) ∙ drop-append_seam front rest

-- a part behind two others
local-part : (a b c d : List ℕ) (at n : ℕ) → at ≡ length a + length b → n ≡ length c → part_of (a ++ (b ++ (c ++ d))) at n ≡ c
local-part a b c d at n at_is n_is =
    ap (λ (m : ℕ). take m (drop at (a ++ (b ++ (c ++ d))))) n_is
    ∙ ap (λ (m : ℕ). take (length c) (drop m (a ++ (b ++ (c ++ d))))) at_is
    ∙ ap (take (length c)) (drop-append-add a (b ++ (c ++ d)) (length b) ∙ drop-append_seam b (c ++ d))
    ∙ take-append_seam c d

number-read : (n x : ℕ) → x < 256 ^ n → big_number n (big_bytes n x) ≡ x
number-read n x fits =
    let back : big_number n (big_bytes n x ++ []) ≡ x = big_number-reads_back n x [] fits in
    ap (big_number n) (sym (append-nil (big_bytes n x))) ∙ back

-- an interior page's cell names the child
pub respelled-child : (kind : PageKind) (child : ℕ) (view : CellView) → child < 2 ^ 32 → (respelled_view kind IndexInterior child view).child ≡ child
respelled-child kind child view fits = ap (λ (n : ℕ). big_number n (big_bytes 4 child)) (length-bytes_high_first 4 child) ∙ number-read 4 child fits

-- The cell in a page of another kind: it is one, and has the payload and the overflow chain that it had.
pub record IsRespelled (usable : ℕ) (kind other : PageKind) (child : ℕ) (bytes : List ℕ) (view : CellView) : Type 0 where
  pub is_cell : IsCell other usable (respelled kind other child bytes) (respelled_view kind other child view)
  pub raised : IsRaised (record { bytes = respelled kind other child bytes; view = respelled_view kind other child view }) (record { bytes = bytes; view = view })

module _ (usable : ℕ) (kind other : PageKind) (child : ℕ) (bytes : List ℕ) (view : CellView) (is : IsIndexCell kind usable bytes view) where
  abbrev rest : List ℕ
  rest = is.payload_bytes ++ (is.local_bytes ++ is.overflow_bytes)

  rest-is : drop (child_size kind) bytes ≡ rest
  rest-is = ap (drop (child_size kind)) is.whole ∙ behind-front is.child_bytes rest (child_size kind) is.child_length

  front-size : length (big_bytes (child_size other) child) ≡ child_size other
  front-size = length-bytes_high_first (child_size other) child

  index-cell : local_size kind usable view.payload ≡ local_size other usable view.payload → IsIndexCell other usable (respelled kind other child bytes) (respelled_view kind other child view)
  index-cell same = record {
    child_bytes = big_bytes (child_size other) child;
    payload_bytes = is.payload_bytes;
    local_bytes = is.local_bytes;
    overflow_bytes = is.overflow_bytes;
    whole = ap (λ (l : List ℕ). big_bytes (child_size other) child ++ l) rest-is;
    child_length = front-size;
    child = refl;
    payload = is.payload;
    limit = is.limit;
    local_at = omega (arith, is.local_at, is.child_length, front-size);
    local = is.local ∙ same;
    local_length = is.local_length;
    overflow_length = is.overflow_length;
    overflow = is.overflow;
    rowid = is.rowid;
    size = omega (
      arith,
      is.size,
      ap length is.whole,
      length-append is.child_bytes rest,
      is.child_length,
      length-append (big_bytes (child_size other) child) (drop (child_size kind) bytes),
      front-size,
      ap length rest-is,
    );
  }

  same-local : part_of (respelled kind other child bytes) (view.local_at + child_size other - child_size kind) view.local ≡ part_of bytes view.local_at view.local
  same-local =
      ap (λ (l : List ℕ). part_of (big_bytes (child_size other) child ++ l) (view.local_at + child_size other - child_size kind) view.local) rest-is
      ∙ local-part (big_bytes (child_size other) child) is.payload_bytes is.local_bytes is.overflow_bytes (view.local_at + child_size other - child_size kind) view.local
      (omega (arith, is.local_at, is.child_length, front-size)) (sym is.local_length)
      ∙ sym
      (
      ap (λ (l : List ℕ). part_of l view.local_at view.local) is.whole
      ∙ local-part is.child_bytes is.payload_bytes is.local_bytes is.overflow_bytes view.local_at view.local is.local_at (sym is.local_length)
      )

  index-raised : IsRaised (record { bytes = respelled kind other child bytes; view = respelled_view kind other child view }) (record { bytes = bytes; view = view })
  index-raised = record {
    rowid = refl;
    payload = refl;
    local = refl;
    overflow = refl;
    same_bytes = same-local;
  }

pub cell-respelled : (usable : ℕ) (kind other : PageKind) (child : ℕ) (bytes : List ℕ) (view : CellView) → IsOfIndex kind → IsOfIndex other → IsCell kind usable bytes view → IsRespelled usable kind other child bytes view
cell-respelled usable kind other child bytes view (inl leaf) (inl also) is =
    let is_leaf : IsIndexCell IndexLeaf usable bytes view = subst (λ (k : PageKind). IsCell k usable bytes view) leaf is in
    subst⁻¹ (λ (k : PageKind). IsRespelled usable k other child bytes view) leaf
    (subst⁻¹ (λ (k : PageKind). IsRespelled usable IndexLeaf k child bytes view) also
    (record { is_cell = index-cell usable IndexLeaf IndexLeaf child bytes view is_leaf refl; raised = index-raised usable IndexLeaf IndexLeaf child bytes view is_leaf }))
cell-respelled usable kind other child bytes view (inl leaf) (inr inner) is =
    let is_leaf : IsIndexCell IndexLeaf usable bytes view = subst (λ (k : PageKind). IsCell k usable bytes view) leaf is in
    subst⁻¹ (λ (k : PageKind). IsRespelled usable k other child bytes view) leaf
    (subst⁻¹ (λ (k : PageKind). IsRespelled usable IndexLeaf k child bytes view) inner
    (record { is_cell = index-cell usable IndexLeaf IndexInterior child bytes view is_leaf refl; raised = index-raised usable IndexLeaf IndexInterior child bytes view is_leaf }))
cell-respelled usable kind other child bytes view (inr inner) (inl leaf) is =
    let is_inner : IsIndexCell IndexInterior usable bytes view = subst (λ (k : PageKind). IsCell k usable bytes view) inner is in
    subst⁻¹ (λ (k : PageKind). IsRespelled usable k other child bytes view) inner
    (subst⁻¹ (λ (k : PageKind). IsRespelled usable IndexInterior k child bytes view) leaf
    (record { is_cell = index-cell usable IndexInterior IndexLeaf child bytes view is_inner refl; raised = index-raised usable IndexInterior IndexLeaf child bytes view is_inner }))
cell-respelled usable kind other child bytes view (inr inner) (inr also) is =
    let is_inner : IsIndexCell IndexInterior usable bytes view = subst (λ (k : PageKind). IsCell k usable bytes view) inner is in
    subst⁻¹ (λ (k : PageKind). IsRespelled usable k other child bytes view) inner
    (subst⁻¹ (λ (k : PageKind). IsRespelled usable IndexInterior k child bytes view) also
    (record { is_cell = index-cell usable IndexInterior IndexInterior child bytes view is_inner refl; raised = index-raised usable IndexInterior IndexInterior child bytes view is_inner }))
