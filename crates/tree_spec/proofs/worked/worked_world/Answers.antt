use Rattle.std.proofs.Common.{◌≡◌, ℕ, ℤ, zero, suc, pos, ◌+◌, ◌-◌, ◌*◌, ◌^◌, ◌<◌, ◌≤◌, ◌<ℤ◌, ◌==◌, ◌&&◌, Bool, true, nat_le, List, [], ◌∷◌, ◌++◌, length, map, replicate, slice_index, slice_index_or, inr, inl, refl, sym, ap, subst, ◌∙◌, arith, rules}
use Rattle.std.proofs.Math.Path.{subst⁻¹}
use Rattle.std.specs.List.{AllPairs, AllByRecursion, IsDistinct}
use Rattle.std.specs.Int.{w64, cast_signed}
use Rattle.std.specs.Int.RustNames.{FitsSigned}
use Rattle.std.specs.Str.{bytes_eq}
use Rattle.std.proofs.lemmas.Bool.{cases_lt, and_parts, and_from, cond-true, eqb-true, leb-true, le-leb, agree_below, agree_below_at}
use Rattle.std.proofs.lemmas.Bool.Decides.{nat_tests}
use Rattle.std.proofs.lemmas.Int.{ints, to_z-of_z}
use Rattle.std.proofs.lemmas.Slice.Eq.{bytes_eq-Decides}
use Rattle.byteorder.specs.Endian.{big_number}
use Rattle.byte_fields.specs.Bytes.{part_of}
use Rattle.byte_fields.specs.Numbers.{number_at}
use Rattle.format_spec.specs.declared.PageKind.{PageKind}
use Rattle.format_spec.specs.declared.PageKind.TheVariants.{TableInterior, TableLeaf}
use Rattle.format_spec.specs.Varint.{IsVarint}
use Rattle.format_spec.specs.Cell.{IsCell, payload_limit, local_size, overflow_size}
use Rattle.format_spec.specs.Page.{IsPage, IsCellAt, RightChild, header_place, kind_byte, cell_count, cell_place, cell_room}
use Rattle.page_spec.specs.Pages.{IsInRange}
use Rattle.page_spec.specs.Chains.{IsChain}
use Rattle.tree_spec.specs.declared.TreeKind.TheVariants.{Table}
use Rattle.page_spec.specs.Counts.{hit, times}
use Rattle.tree_spec.specs.Trees.{Leaf, IsFull}
use Rattle.tree_spec.specs.Bounds.{BesideIn, InOrder, below_rowids, greatest_rowid}
use Rattle.tree_spec.specs.Standing.{IsHeld, IsBehind, IsRoot, Stands, StandsBefore}
use Rattle.tree_spec.specs.Worlds.{IsFree, IsWorld}
use Rattle.page_spec.specs.FreePages.{due, due_pages}
use Rattle.page_spec.specs.FreePagesLaws.{due-past}
use Rattle.tree_spec.specs.WorldsLaws.{world-tree}
use Rattle.tree_spec.specs.LittleWorld.{little_sizes, little_rowid, little_key, little_schema, little_schema_cell, little_record, little_cell, little_long_cell, little_behind, little_first_page, little_root_page, little_interior, little_remains, little_leaf, little_last_leaf, little_page, little_base, little_schema_tree, little_child, little_children, little_left, little_right, little_table_tree, little_trunks, little_world, little_numbers}
use Rattle.tree_spec.proofs.worked.worked_world.Goals as goal

-- Cells.

-- a number below 128 is spelled by its byte
one_byte : (n : ℕ) → n < 128 → IsVarint (n ∷ []) n
one_byte n low = record { front = []; last = n; whole = refl; at_most_nine = omega arith; high = search rules; low = low; sum = omega arith }

key : (k : ℕ) → k < 256 → IsVarint (little_key k) (2 ^ 63 + k)
key k low = record { front = 192 ∷ 128 ∷ 128 ∷ 128 ∷ 128 ∷ 128 ∷ 128 ∷ 128 ∷ []; last = k; whole = refl; at_most_nine = omega arith; high = search rules; low = low; sum = refl }

rowid_is : (k : ℕ) → k < 256 → little_rowid k ≡ cast_signed w64 (2 ^ 63 + k)
rowid_is k low =
    let bits : 2 ^ 64 - suc (2 ^ 63 - 1 - k) ≡ 2 ^ 63 + k = omega arith in
    let fits : FitsSigned w64 (little_rowid k) = search (rules, ints) in
    sym (subst (λ (n : ℕ). cast_signed w64 n ≡ little_rowid k) bits (to_z-of_z w64 (little_rowid k) fits))

-- a cell of a table's leaf, by its parts
module _ (payload rowid_number local overflow : ℕ) (rowid : ℤ) (payload_bytes rowid_bytes local_bytes overflow_bytes : List ℕ) (payload_is : IsVarint payload_bytes payload)
    (limit : payload ≤ payload_limit) (rowid_varint : IsVarint rowid_bytes rowid_number) (rowid_is : rowid ≡ cast_signed w64 rowid_number) (local_is : local ≡ local_size TableLeaf 512 payload)
    (local_length : length local_bytes ≡ local) (overflow_length : length overflow_bytes ≡ overflow_size local payload)
    (overflow_is : overflow ≡ big_number (length overflow_bytes) overflow_bytes) where
  abbrev leaf_bytes : List ℕ
  leaf_bytes = payload_bytes ++ (rowid_bytes ++ (local_bytes ++ overflow_bytes))

  leaf_cell : IsCell TableLeaf 512 leaf_bytes
      (record { size = length leaf_bytes; rowid = rowid; child = 0; payload = payload; local_at = length payload_bytes + length rowid_bytes; local = local; overflow = overflow })
  leaf_cell = record {
    payload_bytes = payload_bytes;
    rowid_bytes = rowid_bytes;
    rowid_number = rowid_number;
    local_bytes = local_bytes;
    overflow_bytes = overflow_bytes;
    whole = refl;
    payload = payload_is;
    limit = limit;
    rowid_varint = rowid_varint;
    rowid = rowid_is;
    local_at = refl;
    local = local_is;
    local_length = local_length;
    overflow_length = overflow_length;
    overflow = overflow_is;
    child = refl;
    size = refl;
  }

schema_cell : IsCell TableLeaf 512 little_schema_cell.bytes little_schema_cell.view
schema_cell = leaf_cell 53 1 53 0 (pos 1) (53 ∷ []) (1 ∷ []) little_schema [] (one_byte 53 (omega arith)) (omega arith) (one_byte 1 (omega arith)) refl refl refl refl refl

two_bytes : (front last : ℕ) → 128 ≤ front → front < 256 → last < 128 → IsVarint (front ∷ last ∷ []) ((front - 128) * 128 + last)
two_bytes front last high few low = record { front = front ∷ []; last = last; whole = refl; at_most_nine = omega arith; high = ((high, few), tt); low = low; sum = omega arith }

row_cell : (k : ℕ) → k < 256 → IsCell TableLeaf 512 (little_cell k).bytes (little_cell k).view
row_cell k low =
    leaf_cell 464 (2 ^ 63 + k) 464 0 (little_rowid k) (131 ∷ 80 ∷ []) (little_key k) little_record [] (two_bytes 131 80 (omega arith) (omega arith) (omega arith)) (omega arith) (key k low) (rowid_is k low)
    refl refl refl refl

long_cell : IsCell TableLeaf 512 little_long_cell.bytes little_long_cell.view
long_cell =
    leaf_cell 704 (2 ^ 63 + 36) 196 40 (little_rowid 36) (133 ∷ 64 ∷ []) (little_key 36) (4 ∷ 0 ∷ 139 ∷ 4 ∷ replicate 192 0) (0 ∷ 0 ∷ 0 ∷ 40 ∷ []) (two_bytes 133 64 (omega arith) (omega arith) (omega arith))
    (omega arith) (key 36 (omega arith)) (rowid_is 36 (omega arith)) refl refl refl refl

divider : (child k : ℕ) → child < 256 → k < 256 → IsCell TableInterior 512 (little_behind child k).bytes (little_behind child k).view
divider child k few low = record {
  child_bytes = 0 ∷ 0 ∷ 0 ∷ child ∷ [];
  rowid_bytes = little_key k;
  rowid_number = 2 ^ 63 + k;
  whole = refl;
  child_length = refl;
  child = omega arith;
  rowid_varint = key k low;
  rowid = rowid_is k low;
  payload = refl;
  local_at = refl;
  local = refl;
  overflow = refl;
  size = refl;
}

within : (number : ℕ) → 1 < number → number < 43 → IsInRange 512 42 number
within number low high = record { behind_first = omega arith; within = omega arith; not_lock_byte = λ e. omega arith }

-- a cell whose payload lies in it whole has no chain
no_chain : IsChain little_page 512 512 42 0 0 []
no_chain = record { linked = tt; ends = refl; many = refl }

row_held : (k : ℕ) → k < 256 → IsHeld little_sizes little_base TableLeaf (little_cell k)
row_held k low = record { is_cell = row_cell k low; is_chain = no_chain; whole = refl }

long_held : IsHeld little_sizes little_base TableLeaf little_long_cell
long_held = record { is_cell = long_cell; is_chain = record { linked = (refl, within 40 (omega arith) (omega arith), tt); ends = refl; many = refl }; whole = refl }

behind : (child k : ℕ) → 1 < child → child < 43 → k < 256 → IsBehind little_sizes little_base TableInterior (little_behind child k) child
behind child k some few low = record {
  held = record { is_cell = divider child k (omega arith) low; is_chain = no_chain; whole = refl };
  names = refl;
  in_range = within child some few;
}

-- Pages.

-- a page with one cell
module _ (page : List ℕ) (number : ℕ) (kind : PageKind) (cell : List ℕ) (right : ℕ) (kind_is : slice_index page (header_place number) ≡ kind_byte kind)
    (count : cell_count page number ≡ 1) (at : IsCellAt page number 512 kind 1 0 cell) (right_child : RightChild kind page (header_place number) right) where
  each_one : (k : ℕ) → k < 1 → IsCellAt page number 512 kind 1 k (slice_index_or (cell ∷ []) k [])
  each_one zero h = at
  each_one (suc k) h = absurd (omega arith)

  one_cell : IsPage page number 512 kind (cell ∷ []) right
  one_cell = record { kind_is = kind_is; count = count; each = each_one; apart = λ j k l h. absurd (omega arith); right_child = right_child }

first_page : IsPage little_first_page 1 512 TableLeaf (little_schema_cell.bytes ∷ []) 0
first_page =
    let place : cell_place little_first_page 1 TableLeaf 0 ≡ 457 = refl in
    one_cell little_first_page 1 TableLeaf little_schema_cell.bytes 0 refl refl
    (record { view = little_schema_cell.view; is_cell = schema_cell; stands = refl; behind_array = omega (arith, place); inside = omega (arith, place) }) refl

-- a leaf that is not page 1
leaf_page : (number k : ℕ) → k < 256 → header_place number ≡ 0 → IsPage (little_leaf k) number 512 TableLeaf ((little_cell k).bytes ∷ []) 0
leaf_page number k low none =
    let page = little_leaf k in
    let place : cell_place page number TableLeaf 0 ≡ 37 = subst⁻¹ (λ (h : ℕ). number_at (h + 8 + 2 * 0) 2 page ≡ 37) none refl in
    one_cell page number TableLeaf (little_cell k).bytes 0
    (subst⁻¹ (λ (h : ℕ). slice_index page h ≡ 13) none refl)
    (subst⁻¹ (λ (h : ℕ). number_at (h + 3) 2 page ≡ 1) none refl)
    (record {
      view = (little_cell k).view;
      is_cell = row_cell k low;
      stands = ap (λ (p : ℕ). part_of page p 475) place;
      behind_array = omega (arith, place, none);
      inside = omega (arith, place);
    })
    refl

last_page : IsPage little_last_leaf 41 512 TableLeaf (little_long_cell.bytes ∷ []) 0
last_page =
    let place : cell_place little_last_leaf 41 TableLeaf 0 ≡ 301 = refl in
    one_cell little_last_leaf 41 TableLeaf little_long_cell.bytes 0 refl refl
    (record { view = little_long_cell.view; is_cell = long_cell; stands = refl; behind_array = omega (arith, place); inside = omega (arith, place) }) refl

root_page : IsPage little_root_page 2 512 TableInterior ((little_behind 38 18).bytes ∷ []) 39
root_page =
    let place : cell_place little_root_page 2 TableInterior 0 ≡ 499 = refl in
    one_cell little_root_page 2 TableInterior (little_behind 38 18).bytes 39 refl refl
    (record { view = (little_behind 38 18).view; is_cell = divider 38 18 (omega arith) (omega arith); stands = refl; behind_array = omega (arith, place); inside = omega (arith, place) }) refl

-- an interior page over 17 leaves that have the rows from one on; what is computed at each index is given as tests
module _ (page : List ℕ) (number right first : ℕ) (cells : List (List ℕ)) (few : first < 40) (none : header_place number ≡ 0)
    (kind_is : slice_index page (header_place number) ≡ 5) (count : cell_count page number ≡ 17) (many : length cells ≡ 17)
    (places : agree_below (λ k. cell_place page number TableInterior k == 499 - 13 * k) (λ k. true) 17 ≡ true)
    (named : agree_below (λ k. bytes_eq (slice_index_or cells k []) (little_behind (first + k + 2) (first + k)).bytes) (λ k. true) 17 ≡ true)
    (stand : agree_below (λ k. bytes_eq (part_of page (499 - 13 * k) 13) (little_behind (first + k + 2) (first + k)).bytes) (λ k. true) 17 ≡ true)
    (right_child : right ≡ number_at (header_place number + 8) 4 page) where
  place_at : (k : ℕ) → k < 17 → cell_place page number TableInterior k ≡ 499 - 13 * k
  place_at k low = eqb-true (cell_place page number TableInterior k) (499 - 13 * k) (agree_below_at (λ k. cell_place page number TableInterior k == 499 - 13 * k) (λ k. true) 17 k places low)

  cell_at : (k : ℕ) → k < 17 → slice_index_or cells k [] ≡ (little_behind (first + k + 2) (first + k)).bytes
  cell_at k low =
      (bytes_eq-Decides (slice_index_or cells k []) (little_behind (first + k + 2) (first + k)).bytes).0
      (agree_below_at (λ k. bytes_eq (slice_index_or cells k []) (little_behind (first + k + 2) (first + k)).bytes) (λ k. true) 17 k named low)

  part_at : (k : ℕ) → k < 17 → part_of page (499 - 13 * k) 13 ≡ (little_behind (first + k + 2) (first + k)).bytes
  part_at k low =
      (bytes_eq-Decides (part_of page (499 - 13 * k) 13) (little_behind (first + k + 2) (first + k)).bytes).0
      (agree_below_at (λ k. bytes_eq (part_of page (499 - 13 * k) 13) (little_behind (first + k + 2) (first + k)).bytes) (λ k. true) 17 k stand low)

  room_at : (k : ℕ) → k < 17 → cell_room (slice_index_or cells k []) ≡ 13
  room_at k low = ap cell_room (cell_at k low)

  each_behind : (k : ℕ) → k < length cells → IsCellAt page number 512 TableInterior (length cells) k (slice_index_or cells k [])
  each_behind k low =
      let inside : k < 17 = omega (arith, low, many) in
      let place = place_at k inside in
      record {
        view = (little_behind (first + k + 2) (first + k)).view;
        is_cell = subst⁻¹ (λ (c : List ℕ). IsCell TableInterior 512 c (little_behind (first + k + 2) (first + k)).view) (cell_at k inside) (divider (first + k + 2) (first + k) (omega arith) (omega arith));
        stands = subst⁻¹ (λ (c : List ℕ). part_of page (cell_place page number TableInterior k) (length c) ≡ c) (cell_at k inside)
            (ap (λ (p : ℕ). part_of page p 13) place ∙ part_at k inside);
        behind_array = omega (arith, place, none, many);
        inside = omega (arith, place, room_at k inside);
      }

  interior_page : IsPage page number 512 TableInterior cells right
  interior_page = record {
    kind_is = kind_is;
    count = count ∙ sym many;
    each = each_behind;
    apart = λ j k less low.
        inr (let high : k < 17 = omega (arith, low, many) in omega (arith, place_at j (omega arith), place_at k high, room_at k high));
    right_child = right_child;
  }

left_page : IsPage (little_interior 1 20 little_remains) 38 512 TableInterior (map (λ cell. cell.bytes) (map (λ child. child.1) (little_children 1 17))) 20
left_page = interior_page (little_interior 1 20 little_remains) 38 20 1 (map (λ cell. cell.bytes) (map (λ child. child.1) (little_children 1 17))) (omega arith) refl refl refl refl refl refl refl refl

right_page : IsPage (little_interior 19 41 (replicate 245 0)) 39 512 TableInterior (map (λ cell. cell.bytes) (map (λ child. child.1) (little_children 19 17))) 41
right_page =
    interior_page (little_interior 19 41 (replicate 245 0)) 39 41 19 (map (λ cell. cell.bytes) (map (λ child. child.1) (little_children 19 17))) (omega arith) refl refl refl refl refl refl refl refl

-- Trees.

-- the page of the row k
page_is : (k : ℕ) → 1 ≤ k → k ≤ 35 → little_page (k + 2) ≡ little_leaf k
page_is k some few =
    let back : k + 2 - 2 ≡ k = omega arith in
    cond-true (nat_le 3 (k + 2) && nat_le (k + 2) 37) (little_leaf (k + 2 - 2)) _ (and_from (nat_le 3 (k + 2)) (nat_le (k + 2) 37) (le-leb 3 (k + 2) (omega arith)) (le-leb (k + 2) 37 (omega arith)))
    ∙ ap little_leaf back

no_header : (k : ℕ) → 1 ≤ k → header_place (k + 2) ≡ 0
no_header k some = grind (arith, nat_tests)

leaf_stands : (k : ℕ) → 1 ≤ k → k ≤ 35 → Stands little_sizes little_base Table 0 (little_child k)
leaf_stands k some few = (
  subst⁻¹ (λ (page : List ℕ). IsPage page (k + 2) 512 TableLeaf ((little_cell k).bytes ∷ []) 0) (page_is k some few) (leaf_page (k + 2) k (omega arith) (no_header k some)),
  (row_held k (omega arith), tt),
)

children_stand : (k n : ℕ) → 1 ≤ k → k + n ≤ 36 → AllByRecursion (StandsBefore little_sizes little_base Table 0) (little_children k n)
children_stand k zero some few = tt
children_stand k (suc n) some few = ((behind (k + 2) k (omega arith) (omega arith) (omega arith), leaf_stands k some (omega arith)), children_stand (suc k) n (omega arith) (omega arith))

left_stands : Stands little_sizes little_base Table 1 little_left
left_stands = (left_page, (children_stand 1 17 (omega arith) (omega arith), (within 20 (omega arith) (omega arith), leaf_stands 18 (omega arith) (omega arith))))

right_stands : Stands little_sizes little_base Table 1 little_right
right_stands = (right_page, (children_stand 19 17 (omega arith) (omega arith), (within 41 (omega arith) (omega arith), (last_page, (long_held, tt)))))

rowid_rises : (k : ℕ) → k < 256 → little_rowid k <ℤ little_rowid (suc k)
rowid_rises k low = omega (arith, ints)

children_in : (k n end : ℕ) (low high : ℤ) (last : Leaf) → low <ℤ little_rowid k → k + n ≡ end → end < 256 → InOrder 0 (little_rowid end) high last
    → BesideIn (InOrder 0) low high (little_children k (suc n)) last
children_in k zero end low high last above is few rest =
    let same : end ≡ k = omega arith in
    ((above, omega (arith, ints)), subst (λ (e : ℕ). InOrder 0 (little_rowid e) high last) same rest)
children_in k (suc n) end low high last above is few rest =
    ((above, omega (arith, ints)), children_in (suc k) n end (little_rowid k) high last (rowid_rises k (omega arith)) (omega arith) few rest)

children_full : (k n : ℕ) → AllByRecursion (λ child. IsFull 0 child.0) (little_children k n)
children_full k zero = tt
children_full k (suc n) = ((omega arith, tt), children_full (suc k) n)

table_root : IsRoot little_sizes little_base little_table_tree
table_root = record {
  stands = (root_page, (((behind 38 18 (omega arith) (omega arith) (omega arith), left_stands), tt), (within 39 (omega arith) (omega arith), right_stands)));
  ordered = (
    children_in 1 16 17 below_rowids (little_rowid 18) (little_child 18) (omega (arith, ints)) (omega arith) (omega arith) (omega (arith, ints), omega (arith, ints)),
    children_in 19 16 35 (little_rowid 18) greatest_rowid little_right.last (omega (arith, ints)) (omega arith) (omega arith) (omega (arith, ints), omega (arith, ints)),
  );
  full = record {
    below = (((omega arith, (children_full 1 17, (omega arith, tt))), tt), (omega arith, (children_full 19 17, (omega arith, tt))));
    root = λ some other. omega arith;
  };
}

schema_root : IsRoot little_sizes little_base little_schema_tree
schema_root = record {
  stands = (first_page, (record { is_cell = schema_cell; is_chain = no_chain; whole = refl }, tt));
  ordered = (omega (arith, ints), omega (arith, ints));
  full = record { below = tt; root = λ some other. absurd (omega arith) };
}

-- The world.

rise : AllPairs (λ (x y : ℕ). x < y) (1 ∷ 2 ∷ [])
rise zero zero d less h = absurd (omega arith)
rise zero (suc zero) d less h = omega arith
rise (suc i) zero d less h = absurd (omega arith)
rise (suc i) (suc zero) d less h = absurd (omega arith)
rise i (suc (suc j)) d less h = absurd (omega arith)

differ : IsDistinct (λ (x y : ℕ). x == y) (42 ∷ [])
unfolding IsDistinct
differ = search rules

free : IsFree little_sizes little_base little_trunks
free = record {
  named = (
    refl,
    record { in_range = within 42 (omega arith) (omega arith); counts = refl; few = omega arith; names = λ k h. absurd (omega arith); leaves_in_range = λ k d h. absurd (omega arith) },
    refl,
  );
  many = refl;
  differ = differ;
}

abbrev all_within : ℕ → List ℕ → Bool
all_within last [] = true
all_within last (x ∷ xs) = nat_le x last && all_within last xs

times_past : (last n : ℕ) (xs : List ℕ) → last < n → all_within last xs ≡ true → times n xs ≡ 0
times_past last n [] past all = refl
times_past last n (x ∷ xs) past all =
    let both = and_parts (nat_le x last) (all_within last xs) all in
    let low : x ≤ last = leb-true x last both.0 in
    let none : hit x n ≡ 0 = grind (arith, nat_tests) in
    omega (arith, none, times_past last n xs past both.1)

abbrev numbers : List ℕ
numbers = 1 ∷ (little_numbers ++ 42 ∷ [])

counted : agree_below (λ k. times k numbers == due 512 42 k) (λ k. true) 43 ≡ true
unfolding due
counted = refl

once : (n : ℕ) → times n numbers ≡ due 512 42 n
once n =
    elim (cases_lt 42 n) [
      | inl past ↦ times_past 42 n numbers past refl ∙ sym (due-past 512 42 n past)
      | inr few ↦ eqb-true (times n numbers) (due 512 42 n) (agree_below_at (λ k. times k numbers == due 512 42 k) (λ k. true) 43 n counted (omega arith))
    ]

world : IsWorld little_sizes little_base little_world
world = record { trees = (schema_root, (table_root, tt)); rise = rise; freelist = free; once = once; few = omega arith }

pub returns-clause-world : goal.returns-clause-world
returns-clause-world c = world

pub returns-clause-tree : goal.returns-clause-tree
returns-clause-tree c = world-tree little_sizes little_base (little_schema_tree ∷ []) little_table_tree [] little_trunks world

pub returns-clause-slack : goal.returns-clause-slack
unfolding due_pages
returns-clause-slack c = refl
