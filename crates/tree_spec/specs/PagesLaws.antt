-- The bytes of a page from its header on say what it is, and they say one thing: crates above cite these facts in their proofs.
use Rattle.std.proofs.Common.{◌≡◌, ℕ, ◌+◌, ◌-◌, ◌*◌, ◌≤◌, List, [], ◌++◌, length, take, drop, slice_index, slice_index_or, sym, ap, ◌∙◌, subst, arith}
use Rattle.std.proofs.Math.Path.{subst⁻¹}
use Rattle.std.proofs.lemmas.Bool.Decides.{nat_tests}
use Rattle.std.proofs.lemmas.List.{take-append-drop, get_or-drop, drop-drop, ext_get_or}
use Rattle.byte_fields.specs.Bytes.{part_of}
use Rattle.byte_fields.specs.Numbers.{number_at}
use Rattle.format_spec.specs.declared.PageKind.{PageKind}
use Rattle.format_spec.specs.declared.PageKind.TheVariants.{IndexInterior, TableInterior, IndexLeaf, TableLeaf}
use Rattle.format_spec.specs.Page.{IsPage, IsCellAt, AreApart, RightChild, header_place, array_place, cell_place, cell_room}
use Rattle.cell_codec.specs.CellLaws.{cell-same}
use Rattle.tree_spec.specs.Standing.{SamePage}

-- only page 1 has a database header
pub header_place-none : (number : ℕ) → 2 ≤ number → header_place number ≡ 0
header_place-none number behind = grind (arith, nat_tests)

-- a page that is not page 1 is the same in all its bytes
pub SamePage-whole : (number : ℕ) (old new : List ℕ) → 2 ≤ number → SamePage number old new → new ≡ old
SamePage-whole number old new behind same = subst (λ (n : ℕ). drop n new ≡ drop n old) (header_place-none number behind) same

module _ (number : ℕ) (old new : List ℕ) (same : SamePage number old new) where
  drop-kept : (place : ℕ) → header_place number ≤ place → drop place new ≡ drop place old
  drop-kept place behind =
      let header = header_place number in
      let whole : header + (place - header) ≡ place = omega arith in
      sym (ap (λ (n : ℕ). drop n new) whole) ∙ sym (drop-drop (place - header) header new) ∙ ap (drop (place - header)) same ∙ drop-drop (place - header) header old
      ∙ ap (λ (n : ℕ). drop n old) whole

  number-kept : (place size : ℕ) → header_place number ≤ place → number_at place size new ≡ number_at place size old
  number-kept place size behind = ap (λ (bytes : List ℕ). number_at 0 size bytes) (drop-kept place behind)

  first-kept : slice_index new (header_place number) ≡ slice_index old (header_place number)
  first-kept =
      let header = header_place number in
      let place : header + 0 ≡ header = omega arith in
      sym (ap (slice_index new) place) ∙ sym (get_or-drop header new 0 0) ∙ ap (λ (bytes : List ℕ). slice_index bytes 0) same ∙ get_or-drop header old 0 0 ∙ ap (slice_index old) place

  place-kept : (kind : PageKind) (k : ℕ) → cell_place new number kind k ≡ cell_place old number kind k
  place-kept kind k = number-kept (array_place number kind + 2 * k) 2 (omega arith)

  right-kept : (kind : PageKind) (right : ℕ) → RightChild kind old (header_place number) right → RightChild kind new (header_place number) right
  right-kept TableLeaf right is = is
  right-kept TableInterior right is = is ∙ sym (number-kept (header_place number + 8) 4 (omega arith))
  right-kept IndexLeaf right is = is
  right-kept IndexInterior right is = is ∙ sym (number-kept (header_place number + 8) 4 (omega arith))

  -- a page is what it was as long as its bytes stay from its header on
  pub page-kept : (usable : ℕ) (kind : PageKind) (cells : List (List ℕ)) (right : ℕ) → IsPage old number usable kind cells right → IsPage new number usable kind cells right
  page-kept usable kind cells right is = record {
    kind_is = first-kept ∙ is.kind_is;
    count = number-kept (header_place number + 3) 2 (omega arith) ∙ is.count;
    each = λ k low.
        let at = is.each k low in
        let place = place-kept kind k in
        let cell = slice_index_or cells k [] in
        record {
          view = at.view;
          is_cell = at.is_cell;
          stands = ap (λ (p : ℕ). part_of new p (length cell)) place
              ∙ ap (take (length cell)) (drop-kept (cell_place old number kind k) (omega (arith, at.behind_array))) ∙ at.stands;
          behind_array = omega (arith, at.behind_array, place);
          inside = omega (arith, at.inside, place);
        };
    apart = λ j k less low.
        let room = λ (i : ℕ). cell_room (slice_index_or cells i []) in
        subst⁻¹ (λ (p : ℕ). AreApart p (room j) (cell_place new number kind k) (room k)) (place-kept kind j)
        (subst⁻¹ (λ (p : ℕ). AreApart (cell_place old number kind j) (room j) p (room k)) (place-kept kind k) (is.apart j k less low));
    right_child = right-kept kind right is.right_child;
  }

module _ (page : List ℕ) (number usable : ℕ) (kind : PageKind) where
  cell-one : (count other k : ℕ) (a b : List ℕ) → IsCellAt page number usable kind count k a → IsCellAt page number usable kind other k b → a ≡ b
  cell-one count other k a b one two =
      let bytes = drop (cell_place page number kind k) page in
      (
      cell-same kind usable a b (drop (length a) bytes) (drop (length b) bytes) one.view two.view one.is_cell two.is_cell
      (
      ap (λ (c : List ℕ). c ++ drop (length a) bytes) (sym one.stands) ∙ take-append-drop (length a) bytes
      ∙ sym (ap (λ (c : List ℕ). c ++ drop (length b) bytes) (sym two.stands) ∙ take-append-drop (length b) bytes)
      )
      ).0

  right-one : (k : PageKind) (right other : ℕ) → RightChild k page (header_place number) right → RightChild k page (header_place number) other → right ≡ other
  right-one TableLeaf right other one two = one ∙ sym two
  right-one TableInterior right other one two = one ∙ sym two
  right-one IndexLeaf right other one two = one ∙ sym two
  right-one IndexInterior right other one two = one ∙ sym two

  -- a page has one list of cells and one right child
  pub page-same : (cells others : List (List ℕ)) (right other : ℕ) → IsPage page number usable kind cells right → IsPage page number usable kind others other → (cells ≡ others) × (right ≡ other)
  page-same cells others right other one two =
      let many : length cells ≡ length others = sym one.count ∙ two.count in (
        ext_get_or [] cells others many
            (λ k low. cell-one (length cells) (length others) k (slice_index_or cells k []) (slice_index_or others k []) (one.each k low) (two.each k (omega (arith, low, many)))),
        right-one kind right other one.right_child two.right_child,
      )
