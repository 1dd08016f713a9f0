-- The cell of a row as it is spelled, and what it holds.
use Rattle.std.proofs.Common.{◌≡◌, ℕ, ℤ, ◌+◌, ◌-◌, ◌^◌, ◌<◌, ◌≤◌, List, ◌++◌, length, take, drop, refl, sym, ap, ◌∙◌, subst, arith}
use Rattle.std.proofs.Math.Path.{subst⁻¹}
use Rattle.std.proofs.Math.Seq.{take-append_seam, drop-append_seam, drop-append-add}
use Rattle.std.proofs.lemmas.List.{length-drop, length-take-le, take-append-drop}
use Rattle.std.specs.Int.{w64, cast_unsigned}
use Rattle.std.specs.Int.RustNames.{FitsSigned}
use Rattle.byteorder.specs.Endian.{big_bytes}
use Rattle.byte_fields.specs.Bytes.{part_of}
use Rattle.format_spec.specs.declared.PageKind.TheVariants.{TableLeaf}
use Rattle.format_spec.specs.declared.CellView.{CellView}
use Rattle.format_spec.specs.Cell.{IsCell, cell_bytes, local_size, overflow_size, payload_limit}
use Rattle.format_spec.specs.Varint.{varint}
use Rattle.cell_codec.specs.CellLaws.{cell-written, local_size_within}
use Rattle.page_spec.specs.Chains.{IsChain, chain_bytes, pages_for}
use Rattle.tree_spec.specs.Standing.{Sizes, Paged}
use Rattle.tree_pages.specs.Writers.{WritesOverflow}
use Rattle.tree_table.specs.Puts.{IsRow, MakesRow}

part-of : (a b c d : List ℕ) (at n : ℕ) → at ≡ length a + length b → n ≡ length c → part_of (a ++ (b ++ (c ++ d))) at n ≡ c
part-of a b c d at n at_is n_is =
    ap (λ (m : ℕ). take m (drop at (a ++ (b ++ (c ++ d))))) n_is
    ∙ ap (λ (m : ℕ). take (length c) (drop m (a ++ (b ++ (c ++ d))))) at_is
    ∙ ap (take (length c)) (drop-append-add a (b ++ (c ++ d)) (length b) ∙ drop-append_seam b (c ++ d))
    ∙ take-append_seam c d

module _ (usable : ℕ) (rowid : ℤ) (payload : List ℕ) (first : ℕ) where
  -- how many bytes of the payload the cell keeps
  abbrev kept : ℕ
  kept = local_size TableLeaf usable (length payload)

  abbrev plain : CellView
  plain = record { size = 0; rowid = rowid; child = 0; payload = length payload; local_at = 0; local = kept; overflow = first }

  abbrev bytes : List ℕ
  bytes = cell_bytes TableLeaf plain (take kept payload)

  abbrev view : CellView
  view = record {
    size = length bytes;
    rowid = rowid;
    child = 0;
    payload = length payload;
    local_at = length (varint (length payload)) + length (varint (cast_unsigned w64 rowid));
    local = kept;
    overflow = first;
  }

  -- a view with these fields spells the same
  row-spelled : (v : CellView) (l : List ℕ) → v.payload ≡ length payload → v.rowid ≡ rowid → v.local ≡ kept → v.overflow ≡ first → l ≡ take kept payload → cell_bytes TableLeaf v l ≡ bytes
  unfolding cell_bytes
  row-spelled v l p r k o same = λ i. varint (p i) ++ (varint (cast_unsigned w64 (r i)) ++ (same i ++ big_bytes (overflow_size (k i) (p i)) (o i)))

  kept-long : length (take kept payload) ≡ kept
  kept-long = length-take-le kept payload (local_size_within TableLeaf usable (length payload))

  row-cell : length payload ≤ payload_limit → FitsSigned w64 rowid → first < 2 ^ 32 → (length (drop kept payload) ≡ 0 → first ≡ 0) → IsCell TableLeaf usable bytes view
  row-cell limit fits small none =
      let same : cell_bytes TableLeaf view (take kept payload) ≡ bytes = row-spelled view (take kept payload) refl refl refl refl refl in
      subst (λ (b : List ℕ). IsCell TableLeaf usable b view) same
      (cell-written TableLeaf usable view (take kept payload)
      (record {
        limit = limit;
        rowid = fits;
        child = omega arith;
        local = refl;
        local_length = kept-long;
        overflow = small;
        no_overflow = λ all. none (omega (arith, length-drop kept payload, all));
        lacked = refl;
        local_at = refl;
        size = ap length (sym same);
      }))

  row-local : part_of bytes (length (varint (length payload)) + length (varint (cast_unsigned w64 rowid))) kept ≡ take kept payload
  unfolding cell_bytes
  row-local =
      part-of (varint (length payload)) (varint (cast_unsigned w64 rowid)) (take kept payload) (big_bytes (overflow_size kept (length payload)) first)
      (length (varint (length payload)) + length (varint (cast_unsigned w64 rowid))) kept refl (sym kept-long)

  -- once the chain of the rest is written, the cell holds the payload
  row-made : (sizes : Sizes) (a b : Paged) → sizes.usable ≡ usable → length payload ≤ payload_limit → FitsSigned w64 rowid → first < 2 ^ 32 → (length (drop kept payload) ≡ 0 → first ≡ 0)
      → WritesOverflow sizes first (drop kept payload) a b → MakesRow sizes rowid payload bytes a b
  row-made sizes a b same limit fits small none written trunks free =
      let w = written trunks free in
      let cell : IsCell TableLeaf sizes.usable bytes view = subst⁻¹ (λ (u : ℕ). IsCell TableLeaf u bytes view) same (row-cell limit fits small none) in
      let rest : length (drop kept payload) ≡ length payload - kept = length-drop kept payload in
      record {
        view = view;
        chain = w.chain;
        rest = w.rest;
        turns = w.turns;
        held = record {
          is_cell = cell;
          is_chain = subst (λ (n : ℕ). IsChain b.pages sizes.size sizes.usable b.count first n w.chain) rest w.is_chain;
          whole = sym
              (
              (λ i. row-local i ++ chain_bytes b.pages sizes.usable w.chain (sym rest i))
              ∙ ap (λ (l : List ℕ). take kept payload ++ l) w.holds
              ∙ take-append-drop kept payload
              );
        };
        rowid_is = refl;
        many = w.is_chain.many ∙ ap (pages_for sizes.usable) rest ∙ ap (λ (u : ℕ). pages_for sizes.usable (length payload - local_size TableLeaf u (length payload))) (sym same);
      }

pub row-is : (usable : ℕ) (rowid : ℤ) (payload cell : List ℕ) (first : ℕ) (v : CellView) (l : List ℕ) → cell ≡ cell_bytes TableLeaf v l → v.payload ≡ length payload → v.rowid ≡ rowid
    → v.local ≡ local_size TableLeaf usable (length payload) → v.overflow ≡ first → l ≡ take (local_size TableLeaf usable (length payload)) payload → cell ≡ bytes usable rowid payload first
row-is usable rowid payload cell first v l is p r k o same = is ∙ row-spelled usable rowid payload first v l p r k o same

-- the cell that was made is one of a row
pub is-row : (usable : ℕ) (rowid : ℤ) (payload cell : List ℕ) (first : ℕ) → cell ≡ bytes usable rowid payload first → length payload ≤ payload_limit → FitsSigned w64 rowid → first < 2 ^ 32
    → (length (drop (local_size TableLeaf usable (length payload)) payload) ≡ 0 → first ≡ 0) → IsRow usable rowid cell
is-row usable rowid payload cell first is limit fits small none =
    (view usable rowid payload first, subst⁻¹ (λ (b : List ℕ). IsCell TableLeaf usable b (view usable rowid payload first)) is (row-cell usable rowid payload first limit fits small none), refl)

pub makes-row : (sizes : Sizes) (rowid : ℤ) (payload cell : List ℕ) (first : ℕ) (a b : Paged) → cell ≡ bytes sizes.usable rowid payload first → length payload ≤ payload_limit → FitsSigned w64 rowid
    → first < 2 ^ 32 → (length (drop (local_size TableLeaf sizes.usable (length payload)) payload) ≡ 0 → first ≡ 0)
    → WritesOverflow sizes first (drop (local_size TableLeaf sizes.usable (length payload)) payload) a b → MakesRow sizes rowid payload cell a b
makes-row sizes rowid payload cell first a b is limit fits small none written =
    subst⁻¹ (λ (c : List ℕ). MakesRow sizes rowid payload c a b) is (row-made sizes.usable rowid payload first sizes a b refl limit fits small none written)
