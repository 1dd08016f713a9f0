use Rattle.std.proofs.Common.{◌≡◌, ℕ, zero, suc, pos, ◌<◌, ◌≤◌, ◌==◌, ◌&&◌, Bool, true, false, nat_le, List, [], ◌∷◌, ◌++◌, length, map, take, drop, slice_index_or, Some, Ok, refl, sym, ap, subst, ◌∙◌, inl, inr, arith, rules}
use Rattle.std.proofs.Math.Path.{subst⁻¹}
use Rattle.std.specs.Prelude.{codes, AllPairs, IsTrue}
use Rattle.std.specs.Fmt.{digits}
use Rattle.std.specs.List.{AllZip, IsDistinct, list_any}
use Rattle.std.specs.declared.cmp.Ordering.{Ordering}
use Rattle.std.specs.declared.cmp.Ordering.TheVariants.{Less, Equal}
use Rattle.std.specs.Int.{w64, cast_signed}
use Rattle.std.proofs.lemmas.Bool.{cases_lt, and_parts, leb-true, eqb-true, agree_below, agree_below_at}
use Rattle.std.proofs.lemmas.Bool.Decides.{nat_tests}
use Rattle.std.proofs.lemmas.Int.{ints}
use Rattle.std.proofs.lemmas.List.{append-nil}
use Rattle.std.proofs.lemmas.List.Sorted.{IsPermutation-refl}
use Rattle.rbu_value.specs.declared.value.Value.TheVariants.{Null, Int, Text}
use Rattle.rbu_value.specs.Order.{value_cmp}
use Rattle.format_spec.specs.declared.PageKind.TheVariants.{TableLeaf, IndexLeaf}
use Rattle.format_spec.specs.Record.{IsRecord}
use Rattle.format_spec.specs.Cell.{IsCell, local_size, overflow_size}
use Rattle.format_spec.specs.Page.{IsPage, IsCellAt, AreApart, cell_place, cell_room}
use Rattle.page_spec.specs.Pages.{IsInRange}
use Rattle.page_spec.specs.Chains.{IsChain}
use Rattle.page_spec.specs.Counts.{hit, times}
use Rattle.page_spec.specs.FreePages.{due}
use Rattle.page_spec.specs.FreePagesLaws.{due-past}
use Rattle.schema_spec.specs.declared.schema.Table.{Table}
use Rattle.schema_spec.specs.Texts.{MeansTable}
use Rattle.tree_spec.specs.declared.TreeKind.TheVariants as tree
use Rattle.tree_spec.specs.Trees.{TreeCell}
use Rattle.tree_spec.specs.Standing.{IsRoot}
use Rattle.tree_spec.specs.Worlds.{IsWorld}
use Rattle.tree_spec.specs.WorldsLaws.{world-tree}
use Rattle.database_spec.specs.Walks.{IsList}
use Rattle.database_spec.specs.TreeWalksLaws.{tree-list}
use Rattle.database_spec.specs.ListsLaws.{beside-one}
use Rattle.database_spec.specs.RightRows.{is_automatic, HasCatalog}
use Rattle.database_spec.specs.Rows.{TableRow, IsRow}
use Rattle.database_spec.specs.RowsLaws.{row-one}
use Rattle.database_spec.specs.Keys.{IsBefore, Clash, IsIndexOf}
use Rattle.database_spec.specs.Databases.{IsWhole, HoldsProjections}
use Rattle.database_spec.specs.LittleTarget.{target_sizes, target_text, table_record, index_record, row_record, row_cell, entry_cell, schema_cells, row_cells, entry_cells, schema_page, table_page, index_page, target_base, target_trees, target_world, table_row, index_row, target_table, target_index, target_entry, target_catalog, target_rows, target_entries, members_in, target_database}
use Rattle.database_spec.specs.LittleTargetLaws.{one_byte, row_values, entry_values, first_values, target-rows, pairs_three}
use Rattle.database_spec.proofs.worked.worked_target.Goals as goal

-- Cells.

no_chain : IsChain target_base.pages 512 512 3 0 0 []
no_chain = record { linked = tt; ends = refl; many = refl }

module _ (rowid : ℕ) (payload : List ℕ) (low : rowid < 128) (short : length payload < 128) (rowid_is : pos rowid ≡ cast_signed w64 rowid)
    (local_is : length payload ≡ local_size TableLeaf 512 (length payload)) (none : overflow_size (length payload) (length payload) ≡ 0) where
  row_is_cell : IsCell TableLeaf 512 (row_cell rowid payload).bytes (row_cell rowid payload).view
  row_is_cell = record {
    payload_bytes = length payload ∷ [];
    rowid_bytes = rowid ∷ [];
    rowid_number = rowid;
    local_bytes = payload;
    overflow_bytes = [];
    whole = ap (λ (p : List ℕ). length payload ∷ rowid ∷ p) (sym (append-nil payload));
    payload = one_byte (length payload) short;
    limit = omega (arith, short);
    rowid_varint = one_byte rowid low;
    rowid = rowid_is;
    local_at = refl;
    local = local_is;
    local_length = refl;
    overflow_length = sym none;
    overflow = refl;
    child = refl;
    size = refl;
  }

module _ (payload : List ℕ) (short : length payload < 128) (local_is : length payload ≡ local_size IndexLeaf 512 (length payload)) (none : overflow_size (length payload) (length payload) ≡ 0) where
  entry_is_cell : IsCell IndexLeaf 512 (entry_cell payload).bytes (entry_cell payload).view
  entry_is_cell = record {
    child_bytes = [];
    payload_bytes = length payload ∷ [];
    local_bytes = payload;
    overflow_bytes = [];
    whole = ap (λ (p : List ℕ). length payload ∷ p) (sym (append-nil payload));
    child_length = refl;
    child = refl;
    payload = one_byte (length payload) short;
    limit = omega (arith, short);
    local_at = refl;
    local = local_is;
    local_length = refl;
    overflow_length = sym none;
    overflow = refl;
    rowid = refl;
    size = refl;
  }

table_cell_is : IsCell TableLeaf 512 (row_cell 1 table_record).bytes (row_cell 1 table_record).view
table_cell_is = row_is_cell 1 table_record (omega arith) (omega arith) refl refl refl

index_cell_is : IsCell TableLeaf 512 (row_cell 2 index_record).bytes (row_cell 2 index_record).view
index_cell_is = row_is_cell 2 index_record (omega arith) (omega arith) refl refl refl

one_is : IsCell TableLeaf 512 (row_cell 1 (row_record 19 (codes "one") 10)).bytes (row_cell 1 (row_record 19 (codes "one") 10)).view
one_is = row_is_cell 1 (row_record 19 (codes "one") 10) (omega arith) (omega arith) refl refl refl

two_is : IsCell TableLeaf 512 (row_cell 2 (row_record 19 (codes "two") 20)).bytes (row_cell 2 (row_record 19 (codes "two") 20)).view
two_is = row_is_cell 2 (row_record 19 (codes "two") 20) (omega arith) (omega arith) refl refl refl

three_is : IsCell TableLeaf 512 (row_cell 3 (row_record 23 (codes "three") 30)).bytes (row_cell 3 (row_record 23 (codes "three") 30)).view
three_is = row_is_cell 3 (row_record 23 (codes "three") 30) (omega arith) (omega arith) refl refl refl

first_is : IsCell IndexLeaf 512 (entry_cell (3 ∷ 1 ∷ 9 ∷ 10 ∷ [])).bytes (entry_cell (3 ∷ 1 ∷ 9 ∷ 10 ∷ [])).view
first_is = entry_is_cell (3 ∷ 1 ∷ 9 ∷ 10 ∷ []) (omega arith) refl refl

second_is : IsCell IndexLeaf 512 (entry_cell (3 ∷ 1 ∷ 1 ∷ 20 ∷ 2 ∷ [])).bytes (entry_cell (3 ∷ 1 ∷ 1 ∷ 20 ∷ 2 ∷ [])).view
second_is = entry_is_cell (3 ∷ 1 ∷ 1 ∷ 20 ∷ 2 ∷ []) (omega arith) refl refl

third_is : IsCell IndexLeaf 512 (entry_cell (3 ∷ 1 ∷ 1 ∷ 30 ∷ 3 ∷ [])).bytes (entry_cell (3 ∷ 1 ∷ 1 ∷ 30 ∷ 3 ∷ [])).view
third_is = entry_is_cell (3 ∷ 1 ∷ 1 ∷ 30 ∷ 3 ∷ []) (omega arith) refl refl

-- Pages.

each_two : (P : ℕ → Type 0) → P 0 → P 1 → (k : ℕ) → k < 2 → P k
each_two P a b zero less = a
each_two P a b (suc zero) less = b
each_two P a b (suc (suc k)) less = absurd (omega (arith, less))

each_three : (P : ℕ → Type 0) → P 0 → P 1 → P 2 → (k : ℕ) → k < 3 → P k
each_three P a b c zero less = a
each_three P a b c (suc zero) less = b
each_three P a b c (suc (suc zero)) less = c
each_three P a b c (suc (suc (suc k))) less = absurd (omega (arith, less))

pairs_two : (P : ℕ → ℕ → Type 0) → P 0 1 → (j k : ℕ) → j < k → k < 2 → P j k
pairs_two P a zero zero less long = absurd (omega (arith, less))
pairs_two P a zero (suc zero) less long = a
pairs_two P a (suc j) zero less long = absurd (omega (arith, less))
pairs_two P a (suc j) (suc zero) less long = absurd (omega (arith, less))
pairs_two P a j (suc (suc k)) less long = absurd (omega (arith, long))

abbrev bytes_in : List TreeCell → List (List ℕ)
bytes_in cells = map (λ cell. cell.bytes) cells

schema_is : IsPage schema_page 1 512 TableLeaf (bytes_in schema_cells) 0
schema_is =
    let first : cell_place schema_page 1 TableLeaf 0 ≡ 393 = refl in
    let second : cell_place schema_page 1 TableLeaf 1 ≡ 467 = refl in
    record {
      kind_is = refl;
      count = refl;
      each = each_two (λ k. IsCellAt schema_page 1 512 TableLeaf 2 k (slice_index_or (bytes_in schema_cells) k []))
          (record { view = (row_cell 1 table_record).view; is_cell = table_cell_is; stands = refl; behind_array = omega (arith, first); inside = omega (arith, first) })
          (record { view = (row_cell 2 index_record).view; is_cell = index_cell_is; stands = refl; behind_array = omega (arith, second); inside = omega (arith, second) });
      apart = pairs_two (λ j k. AreApart (cell_place schema_page 1 TableLeaf j) (cell_room (slice_index_or (bytes_in schema_cells) j [])) (cell_place schema_page 1 TableLeaf k) (cell_room (slice_index_or (bytes_in schema_cells) k [])))
          (inl (omega (arith, first, second)));
      right_child = refl;
    }

table_is : IsPage table_page 2 512 TableLeaf (bytes_in row_cells) 0
table_is =
    let first : cell_place table_page 2 TableLeaf 0 ≡ 502 = refl in
    let second : cell_place table_page 2 TableLeaf 1 ≡ 492 = refl in
    let third : cell_place table_page 2 TableLeaf 2 ≡ 480 = refl in
    record {
      kind_is = refl;
      count = refl;
      each = each_three (λ k. IsCellAt table_page 2 512 TableLeaf 3 k (slice_index_or (bytes_in row_cells) k []))
          (record { view = (row_cell 1 (row_record 19 (codes "one") 10)).view; is_cell = one_is; stands = refl; behind_array = omega (arith, first); inside = omega (arith, first) })
          (record { view = (row_cell 2 (row_record 19 (codes "two") 20)).view; is_cell = two_is; stands = refl; behind_array = omega (arith, second); inside = omega (arith, second) })
          (record { view = (row_cell 3 (row_record 23 (codes "three") 30)).view; is_cell = three_is; stands = refl; behind_array = omega (arith, third); inside = omega (arith, third) });
      apart = pairs_three (λ j k. AreApart (cell_place table_page 2 TableLeaf j) (cell_room (slice_index_or (bytes_in row_cells) j [])) (cell_place table_page 2 TableLeaf k) (cell_room (slice_index_or (bytes_in row_cells) k [])))
          (inr (omega (arith, first, second))) (inr (omega (arith, first, third))) (inr (omega (arith, second, third)));
      right_child = refl;
    }

index_is : IsPage index_page 3 512 IndexLeaf (bytes_in entry_cells) 0
index_is =
    let first : cell_place index_page 3 IndexLeaf 0 ≡ 507 = refl in
    let second : cell_place index_page 3 IndexLeaf 1 ≡ 501 = refl in
    let third : cell_place index_page 3 IndexLeaf 2 ≡ 495 = refl in
    record {
      kind_is = refl;
      count = refl;
      each = each_three (λ k. IsCellAt index_page 3 512 IndexLeaf 3 k (slice_index_or (bytes_in entry_cells) k []))
          (record { view = (entry_cell (3 ∷ 1 ∷ 9 ∷ 10 ∷ [])).view; is_cell = first_is; stands = refl; behind_array = omega (arith, first); inside = omega (arith, first) })
          (record { view = (entry_cell (3 ∷ 1 ∷ 1 ∷ 20 ∷ 2 ∷ [])).view; is_cell = second_is; stands = refl; behind_array = omega (arith, second); inside = omega (arith, second) })
          (record { view = (entry_cell (3 ∷ 1 ∷ 1 ∷ 30 ∷ 3 ∷ [])).view; is_cell = third_is; stands = refl; behind_array = omega (arith, third); inside = omega (arith, third) });
      apart = pairs_three (λ j k. AreApart (cell_place index_page 3 IndexLeaf j) (cell_room (slice_index_or (bytes_in entry_cells) j [])) (cell_place index_page 3 IndexLeaf k) (cell_room (slice_index_or (bytes_in entry_cells) k [])))
          (inr (omega (arith, first, second))) (inr (omega (arith, first, third))) (inr (omega (arith, second, third)));
      right_child = refl;
    }

-- Trees.

schema_root : IsRoot target_sizes target_base (record { kind = tree.Table; levels = 0; tree = record { page = 1; cells = schema_cells } })
schema_root = record {
  stands = (schema_is, (record { is_cell = table_cell_is; is_chain = no_chain; whole = refl }, (record { is_cell = index_cell_is; is_chain = no_chain; whole = refl }, tt)));
  ordered = (omega (arith, ints), (omega (arith, ints), omega (arith, ints)));
  full = record { below = tt; root = λ some other. absurd (omega (arith, some)) };
}

table_root : IsRoot target_sizes target_base (record { kind = tree.Table; levels = 0; tree = record { page = 2; cells = row_cells } })
table_root = record {
  stands = (
    table_is,
    (record { is_cell = one_is; is_chain = no_chain; whole = refl }, (record { is_cell = two_is; is_chain = no_chain; whole = refl }, (record { is_cell = three_is; is_chain = no_chain; whole = refl }, tt))),
  );
  ordered = (omega (arith, ints), (omega (arith, ints), (omega (arith, ints), omega (arith, ints))));
  full = record { below = tt; root = λ some other. absurd (omega (arith, some)) };
}

index_root : IsRoot target_sizes target_base (record { kind = tree.Index; levels = 0; tree = record { page = 3; cells = entry_cells } })
index_root = record {
  stands = (
    index_is,
    (record { is_cell = first_is; is_chain = no_chain; whole = refl }, (record { is_cell = second_is; is_chain = no_chain; whole = refl }, (record { is_cell = third_is; is_chain = no_chain; whole = refl }, tt))),
  );
  ordered = tt;
  full = record { below = tt; root = λ some other. absurd (omega (arith, some)) };
}

rise : AllPairs (λ (x y : ℕ). x < y) (1 ∷ 2 ∷ 3 ∷ [])
rise i j d less long =
    pairs_three (λ i j. slice_index_or (1 ∷ 2 ∷ 3 ∷ []) i d < slice_index_or (1 ∷ 2 ∷ 3 ∷ []) j d) (omega arith) (omega arith) (omega arith) i j less long

differ : IsDistinct (λ (x y : ℕ). x == y) []
unfolding IsDistinct
differ = search rules

abbrev all_within : ℕ → List ℕ → Bool
all_within last [] = true
all_within last (x ∷ xs) = nat_le x last && all_within last xs

times_past : (last n : ℕ) (xs : List ℕ) → last < n → all_within last xs ≡ true → times n xs ≡ 0
times_past last n [] past all = refl
times_past last n (x ∷ xs) past all =
    let both = and_parts (nat_le x last) (all_within last xs) all in
    let low : x ≤ last = leb-true x last both.0 in
    let none : hit x n ≡ 0 = grind (arith, nat_tests) in
    omega (arith, none, times_past last n xs past both.1)

counted : agree_below (λ k. times k (1 ∷ 2 ∷ 3 ∷ []) == due 512 3 k) (λ k. true) 4 ≡ true
unfolding due
counted = refl

once : (n : ℕ) → times n (1 ∷ 2 ∷ 3 ∷ []) ≡ due 512 3 n
once n =
    elim (cases_lt 3 n) [
      | inl past ↦ times_past 3 n (1 ∷ 2 ∷ 3 ∷ []) past refl ∙ sym (due-past 512 3 n past)
      | inr few ↦ eqb-true (times n (1 ∷ 2 ∷ 3 ∷ [])) (due 512 3 n) (agree_below_at (λ k. times k (1 ∷ 2 ∷ 3 ∷ []) == due 512 3 k) (λ k. true) 4 n counted (omega (arith, few)))
    ]

world : IsWorld target_sizes target_base target_world
world = record {
  trees = (schema_root, (table_root, (index_root, tt)));
  rise = rise;
  freelist = record { named = refl; many = refl; differ = differ };
  once = once;
  few = omega arith;
}

schema_list : IsList target_sizes target_base tree.Table 1 (members_in schema_cells)
schema_list =
    tree-list target_sizes target_base 1 tree.Table 1 (members_in schema_cells) (1 ∷ [])
    (world-tree target_sizes target_base [] (record { kind = tree.Table; levels = 0; tree = record { page = 1; cells = schema_cells } }) (drop 1 target_trees) [] world)

table_list : IsList target_sizes target_base tree.Table 2 (members_in row_cells)
table_list =
    tree-list target_sizes target_base 2 tree.Table 1 (members_in row_cells) (2 ∷ [])
    (world-tree target_sizes target_base (take 1 target_trees) (record { kind = tree.Table; levels = 0; tree = record { page = 2; cells = row_cells } }) (drop 2 target_trees) [] world)

-- Records.

table_values : IsRecord table_record (Text (codes "table") ∷ Text (codes "t1") ∷ Text (codes "t1") ∷ Int (pos 2) ∷ Text target_text ∷ [])
table_values = record {
  size = 6 ∷ [];
  types = 23 ∷ 17 ∷ 17 ∷ 1 ∷ 125 ∷ [];
  bodies = codes "tablet1t1" ++ 2 ∷ target_text;
  whole = refl;
  header = one_byte 6 (omega arith);
  fields = (23, 23 ∷ [], codes "table", 17 ∷ 17 ∷ 1 ∷ 125 ∷ [], codes "t1t1" ++ 2 ∷ target_text, one_byte 23 (omega arith), refl, refl, (refl, refl), (17, 17 ∷ [], codes "t1", 17 ∷ 1 ∷ 125 ∷ [], codes "t1" ++ 2 ∷ target_text, one_byte 17 (omega arith), refl, refl, (refl, refl), (17, 17 ∷ [], codes "t1", 1 ∷ 125 ∷ [], 2 ∷ target_text, one_byte 17 (omega arith), refl, refl, (refl, refl), (1, 1 ∷ [], 2 ∷ [], 125 ∷ [], target_text, one_byte 1 (omega arith), refl, refl, (inl (omega arith, omega arith, refl, refl)), (125, 125 ∷ [], target_text, [], [], one_byte 125 (omega arith), refl, refl, (refl, refl), (refl, refl))))));
}

index_values : IsRecord index_record (Text (codes "index") ∷ Text (codes "sqlite_autoindex_t1_1") ∷ Text (codes "t1") ∷ Int (pos 3) ∷ Null ∷ [])
index_values = record {
  size = 6 ∷ [];
  types = 23 ∷ 55 ∷ 17 ∷ 1 ∷ 0 ∷ [];
  bodies = codes "indexsqlite_autoindex_t1_1t1" ++ 3 ∷ [];
  whole = refl;
  header = one_byte 6 (omega arith);
  fields = (23, 23 ∷ [], codes "index", 55 ∷ 17 ∷ 1 ∷ 0 ∷ [], codes "sqlite_autoindex_t1_1t1" ++ 3 ∷ [], one_byte 23 (omega arith), refl, refl, (refl, refl), (55, 55 ∷ [], codes "sqlite_autoindex_t1_1", 17 ∷ 1 ∷ 0 ∷ [], codes "t1" ++ 3 ∷ [], one_byte 55 (omega arith), refl, refl, (refl, refl), (17, 17 ∷ [], codes "t1", 1 ∷ 0 ∷ [], 3 ∷ [], one_byte 17 (omega arith), refl, refl, (refl, refl), (1, 1 ∷ [], 3 ∷ [], 0 ∷ [], [], one_byte 1 (omega arith), refl, refl, (inl (omega arith, omega arith, refl, refl)), (0, 0 ∷ [], [], [], [], one_byte 0 (omega arith), refl, refl, (refl, refl), (refl, refl))))));
}

-- The catalog.

in_range : (number : ℕ) → 1 < number → number < 4 → IsInRange 512 3 number
in_range number low high = record { behind_first = omega (arith, low); within = omega (arith, high); not_lock_byte = λ e. omega (arith, e, high) }

falsity : {A : Type 0} → ◌≡◌ {A = Bool} false true → A
falsity h = absurd (let no : ⊥ = cc in no)

catalog : MeansTable target_text target_table → HasCatalog target_sizes target_base target_catalog
unfolding digits
catalog means = record {
  members = members_in schema_cells;
  is_list = schema_list;
  found = Some table_row ∷ Some index_row ∷ [];
  are_rows = (
    record { root_value = Int (pos 2); sql_value = Text target_text; is_record = table_values; root = refl; sql = refl; rowid = refl },
    (record { root_value = Int (pos 3); sql_value = Null; is_record = index_values; root = refl; sql = refl; rowid = refl }, tt),
  );
  faultless = (
    (
      record {
        meaning = Ok target_table;
        means = means;
        own_name = refl;
        named = refl;
        virtual_root = λ e. falsity e;
        root = λ e. (in_range 2 (omega arith) (omega arith), refl);
        automatic = λ at less. elim at as (λ at. at < 1 → IsTrue (list_any (is_automatic (codes "t1") (suc at)) (table_row ∷ index_row ∷ []))) [ zero ↦ λ h. refl | suc k ↦ λ h. absurd (omega (arith, h)) ] less;
      },
      refl,
    ),
    (
      (
        record {
          table = table_row;
          stands = refl;
          is_real = refl;
          root = (in_range 3 (omega arith) (omega arith), refl);
          meaning = Ok target_table;
          means = means;
          index = Ok target_index;
          index_means = refl;
          named = (refl, refl);
        },
        refl,
      ),
      tt,
    ),
  );
  is_catalog = record {
    tables = (record { name = refl; root = refl; meaning = means; indexes = ((refl, refl), tt) }, tt);
    roots_rise = rise;
    roots_are = IsPermutation-refl (1 ∷ 2 ∷ 3 ∷ []);
  };
}

pub returns-clause-catalog : goal.returns-clause-catalog
returns-clause-catalog c = catalog c.worked_texts.ensures.table

-- Rows.

pub returns-clause-plain : goal.returns-clause-plain
returns-clause-plain c = record { meaning = refl; members = members_in row_cells; is_list = table_list; rows_are = target-rows }

-- Soundness.

whole : MeansTable target_text target_table → IsWhole target_sizes target_base target_catalog target_database
whole means = record {
  world = target_world;
  is_world = world;
  has_catalog = catalog means;
  roots = refl;
  kinds = (
    record { table = λ h. refl; index = λ h. falsity h },
    (record { table = λ h. refl; index = λ h. falsity h }, (record { table = λ h. falsity h; index = λ h. refl }, tt)),
  );
  header = refl;
  lists = refl;
  readable = (
    (inl (_, row_values 19 (omega arith) (codes "one") 10 refl refl), (inl (_, row_values 19 (omega arith) (codes "two") 20 refl refl), (inl (_, row_values 23 (omega arith) (codes "three") 30 refl refl), tt))),
    tt,
  );
}

no_clash : ◌≡◌ {A = Ordering} Less Equal → ⊥
no_clash e = let h : ⊥ = cc in h

sorted : AllPairs (IsBefore target_index) target_entries
unfolding value_cmp
sorted i j d less long =
    pairs_three (λ i j. IsBefore target_index (slice_index_or target_entries i d) (slice_index_or target_entries j d)) refl refl refl i j less long

distinct : AllPairs (λ a b. ¬ Clash target_index a b) target_entries
unfolding value_cmp
distinct i j d less long =
    pairs_three (λ i j. ¬ Clash target_index (slice_index_or target_entries i d) (slice_index_or target_entries j d)) (λ h. no_clash h.0) (λ h. no_clash h.0) (λ h. no_clash h.0) i j less long

index_of : IsIndexOf target_index target_rows (members_in entry_cells)
index_of = record {
  entries = target_entries;
  decoded = (first_values, (entry_values 20 2 refl refl, (entry_values 30 3 refl refl, tt)));
  is_projection = record { all = IsPermutation-refl target_entries; sorted = sorted };
  unique = λ h. distinct;
}

projections : HoldsProjections target_database.lists (record { name = codes "t1"; entry = target_entry })
projections table others meaning are =
    let same : target_table ≡ table = let e : Ok target_table ≡ Ok table = meaning in cc in
    let also = subst⁻¹ (λ (t : Table). AllZip (IsRow t) (members_in row_cells) others) same are in
    let one = beside-one (IsRow target_table) (row-one target_table) (members_in row_cells) target_rows others target-rows also in
    (subst (λ (rs : List TableRow). IsIndexOf target_index rs (members_in entry_cells)) one index_of, tt)

pub returns-clause-sound : goal.returns-clause-sound
returns-clause-sound c = record { whole = whole c.worked_texts.ensures.table; indexes = (projections, tt) }
