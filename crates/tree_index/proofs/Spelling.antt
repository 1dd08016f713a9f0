-- The cell of an entry as it is spelled, and what it holds.
use Rattle.std.proofs.Common.{◌≡◌, ℕ, pos, ◌-◌, ◌^◌, ◌<◌, ◌≤◌, List, [], ◌++◌, length, take, drop, refl, sym, ap, ◌∙◌, subst, arith}
use Rattle.std.proofs.Math.Path.{subst⁻¹}
use Rattle.std.proofs.Math.Seq.{take-append_seam, drop-append_seam}
use Rattle.std.proofs.lemmas.List.{drop_all, length-drop, length-take-le, take-append-drop}
use Rattle.std.specs.Int.{w64}
use Rattle.std.specs.Int.RustNames.{FitsSigned}
use Rattle.byteorder.specs.Endian.{big_bytes}
use Rattle.byte_fields.specs.Bytes.{part_of}
use Rattle.format_spec.specs.declared.PageKind.TheVariants.{IndexLeaf}
use Rattle.format_spec.specs.declared.CellView.{CellView}
use Rattle.format_spec.specs.Cell.{IsCell, cell_bytes, index_cell_bytes, local_size, overflow_size, payload_limit}
use Rattle.format_spec.specs.Varint.{varint}
use Rattle.cell_codec.specs.CellLaws.{cell-written, local_size_within}
use Rattle.page_spec.specs.Chains.{IsChain, chain_bytes, pages_for}
use Rattle.page_spec.specs.Rooms.{IsOneCell}
use Rattle.tree_spec.specs.Standing.{Sizes, Paged}
use Rattle.tree_pages.specs.Writers.{WritesOverflow}
use Rattle.tree_spec.specs.StandingLaws.{chain-none}
use Rattle.tree_spec.specs.ChangesLaws.{Turns-same}
use Rattle.tree_index.specs.Puts.{MakesCell}

part-of : (a b c : List ℕ) (at n : ℕ) → at ≡ length a → n ≡ length b → part_of (a ++ (b ++ c)) at n ≡ b
part-of a b c at n at_is n_is =
    ap (λ (m : ℕ). take m (drop at (a ++ (b ++ c)))) n_is
    ∙ ap (λ (m : ℕ). take (length b) (drop m (a ++ (b ++ c)))) at_is
    ∙ ap (take (length b)) (drop-append_seam a (b ++ c))
    ∙ take-append_seam b c

module _ (usable : ℕ) (payload : List ℕ) (first : ℕ) where
  -- how many bytes of the payload the cell keeps
  abbrev kept : ℕ
  kept = local_size IndexLeaf usable (length payload)

  abbrev plain : CellView
  plain = record { size = 0; rowid = pos 0; child = 0; payload = length payload; local_at = 0; local = kept; overflow = first }

  abbrev pub bytes : List ℕ
  bytes = cell_bytes IndexLeaf plain (take kept payload)

  abbrev view : CellView
  view = record {
    size = length bytes;
    rowid = pos 0;
    child = 0;
    payload = length payload;
    local_at = length (varint (length payload));
    local = kept;
    overflow = first;
  }

  -- a view with these fields spells the same
  entry-spelled : (v : CellView) (l : List ℕ) → v.payload ≡ length payload → v.child ≡ 0 → v.local ≡ kept → v.overflow ≡ first → l ≡ take kept payload → cell_bytes IndexLeaf v l ≡ bytes
  unfolding cell_bytes index_cell_bytes
  entry-spelled v l p r k o same = λ i. big_bytes 0 (r i) ++ (varint (p i) ++ (same i ++ big_bytes (overflow_size (k i) (p i)) (o i)))

  kept-long : length (take kept payload) ≡ kept
  kept-long = length-take-le kept payload (local_size_within IndexLeaf usable (length payload))

  entry-cell : length payload ≤ payload_limit → first < 2 ^ 32 → (length (drop kept payload) ≡ 0 → first ≡ 0) → IsCell IndexLeaf usable bytes view
  entry-cell limit small none =
      let same : cell_bytes IndexLeaf view (take kept payload) ≡ bytes = entry-spelled view (take kept payload) refl refl refl refl refl in
      let fits : FitsSigned w64 (pos 0) = record { sfits = omega arith } in
      subst (λ (b : List ℕ). IsCell IndexLeaf usable b view) same
      (cell-written IndexLeaf usable view (take kept payload)
      (record {
        limit = limit;
        rowid = fits;
        child = omega arith;
        local = refl;
        local_length = kept-long;
        overflow = small;
        no_overflow = λ all. none (omega (arith, length-drop kept payload, all));
        lacked = (refl, refl);
        local_at = refl;
        size = ap length (sym same);
      }))

  entry-local : part_of bytes (length (varint (length payload))) kept ≡ take kept payload
  unfolding cell_bytes index_cell_bytes
  entry-local = part-of (varint (length payload)) (take kept payload) (big_bytes (overflow_size kept (length payload)) first) (length (varint (length payload))) kept refl (sym kept-long)

  -- once the chain of the rest is written, the cell holds the payload
  entry-made : (sizes : Sizes) (a b : Paged) → sizes.usable ≡ usable → length payload ≤ payload_limit → first < 2 ^ 32 → (length (drop kept payload) ≡ 0 → first ≡ 0)
      → WritesOverflow sizes first (drop kept payload) a b → MakesCell sizes payload bytes a b
  entry-made sizes a b same limit small none written trunks free =
      let w = written trunks free in
      let cell : IsCell IndexLeaf sizes.usable bytes view = subst⁻¹ (λ (u : ℕ). IsCell IndexLeaf u bytes view) same (entry-cell limit small none) in
      let rest : length (drop kept payload) ≡ length payload - kept = length-drop kept payload in
      record {
        view = view;
        chain = w.chain;
        rest = w.rest;
        turns = w.turns;
        held = record {
          is_cell = cell;
          is_chain = subst (λ (n : ℕ). IsChain b.pages sizes.size sizes.usable b.count first n w.chain) rest w.is_chain;
          whole = sym
              (
              (λ i. entry-local i ++ chain_bytes b.pages sizes.usable w.chain (sym rest i))
              ∙ ap (λ (l : List ℕ). take kept payload ++ l) w.holds
              ∙ take-append-drop kept payload
              );
        };
        many = w.is_chain.many ∙ ap (pages_for sizes.usable) rest ∙ ap (λ (u : ℕ). pages_for sizes.usable (length payload - local_size IndexLeaf u (length payload))) (sym same);
      }

pub entry-is : (usable : ℕ) (payload cell : List ℕ) (first : ℕ) (v : CellView) (l : List ℕ) → cell ≡ cell_bytes IndexLeaf v l → v.payload ≡ length payload → v.child ≡ 0
    → v.local ≡ local_size IndexLeaf usable (length payload) → v.overflow ≡ first → l ≡ take (local_size IndexLeaf usable (length payload)) payload → cell ≡ bytes usable payload first
entry-is usable payload cell first v l is p r k o same = is ∙ entry-spelled usable payload first v l p r k o same

-- the cell that was made is one of an index's leaf
pub is-cell : (usable : ℕ) (payload cell : List ℕ) (first : ℕ) → cell ≡ bytes usable payload first → length payload ≤ payload_limit → first < 2 ^ 32
    → (length (drop (local_size IndexLeaf usable (length payload)) payload) ≡ 0 → first ≡ 0) → IsOneCell IndexLeaf usable cell
is-cell usable payload cell first is limit small none =
    (view usable payload first, subst⁻¹ (λ (b : List ℕ). IsCell IndexLeaf usable b (view usable payload first)) is (entry-cell usable payload first limit small none))

pub makes-cell : (sizes : Sizes) (payload cell : List ℕ) (first : ℕ) (a b : Paged) → cell ≡ bytes sizes.usable payload first → length payload ≤ payload_limit
    → first < 2 ^ 32 → (length (drop (local_size IndexLeaf sizes.usable (length payload)) payload) ≡ 0 → first ≡ 0)
    → WritesOverflow sizes first (drop (local_size IndexLeaf sizes.usable (length payload)) payload) a b → MakesCell sizes payload cell a b
makes-cell sizes payload cell first a b is limit small none written =
    subst⁻¹ (λ (c : List ℕ). MakesCell sizes payload c a b) is (entry-made sizes.usable payload first sizes a b refl limit small none written)

-- a cell that needs no chain
pub makes-whole : (sizes : Sizes) (payload cell : List ℕ) (base : Paged) → cell ≡ bytes sizes.usable payload 0 → length payload ≤ payload_limit → length payload ≤ local_size IndexLeaf sizes.usable (length payload)
    → MakesCell sizes payload cell base base
makes-whole sizes payload cell base is limit all =
    let none = drop_all (local_size IndexLeaf sizes.usable (length payload)) payload all in
    makes-cell sizes payload cell 0 base base is limit (omega arith) (λ _. refl) (λ trunks free. record {
      chain = [];
      rest = trunks;
      turns = Turns-same sizes base [] [] trunks (λ n. refl);
      is_chain = subst⁻¹ (λ (l : List ℕ). IsChain base.pages sizes.size sizes.usable base.count 0 (length l) []) none (chain-none sizes base);
      holds = subst⁻¹ (λ (l : List ℕ). chain_bytes base.pages sizes.usable [] (length l) ≡ l) none refl;
    })
