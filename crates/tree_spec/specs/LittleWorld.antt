-- A database of 42 pages of 512 bytes, as SQLite 3.40.1 wrote it: a row on which definitions are computed. It has the schema's tree in page 1, a table's tree of three levels with 36 rows at root 2, an overflow page 40, and a free page 42.
use Rattle.std.specs.Prelude.{ℕ, ℤ, zero, suc, pos, negsuc, ◌+◌, ◌-◌, ◌*◌, ◌^◌, ◌==◌, ◌&&◌, nat_le, if◌then◌else◌, List, [], ◌∷◌, ◌++◌, map, reverse, replicate, codes}
use Rattle.std.specs.List.{flat_map}
use Rattle.byteorder.specs.Endian.{big_bytes}
use Rattle.page_spec.specs.Freelists.{Trunk}
use Rattle.tree_spec.specs.declared.TreeKind.TheVariants.{Table}
use Rattle.tree_spec.specs.Trees.{TreeCell, TreeOf, Leaf, Rooted, Member}
use Rattle.tree_spec.specs.Standing.{Sizes, Paged}
use Rattle.tree_spec.specs.Worlds.{World}

abbrev pub little_sizes : Sizes
little_sizes = record { size = 512; usable = 512 }

-- so many numbers from one on
abbrev pub numbers_from : ℕ → ℕ → List ℕ
numbers_from first zero = []
numbers_from first (suc n) = first ∷ numbers_from (suc first) n

-- the rowids of the table are -2^63 + 1 to -2^63 + 36, so that each fills nine bytes
abbrev pub little_rowid : ℕ → ℤ
little_rowid k = negsuc (2 ^ 63 - 1 - k)

abbrev pub little_key : ℕ → List ℕ
little_key k = 192 ∷ 128 ∷ 128 ∷ 128 ∷ 128 ∷ 128 ∷ 128 ∷ 128 ∷ k ∷ []

-- Records, and the cells that hold them.

abbrev pub little_schema : List ℕ
little_schema = 6 ∷ 23 ∷ 15 ∷ 15 ∷ 1 ∷ 91 ∷ (codes "tablett" ++ 2 ∷ codes "CREATE TABLE t(a integer primary key,b)")

abbrev pub little_schema_cell : TreeCell
little_schema_cell = record {
  bytes = 53 ∷ 1 ∷ little_schema;
  view = record { size = 55; rowid = pos 1; child = 0; payload = 53; local_at = 2; local = 53; overflow = 0 };
  payload = little_schema;
  chain = [];
}

-- a row with 460 bytes of zeros
abbrev pub little_record : List ℕ
little_record = 4 ∷ 0 ∷ 135 ∷ 36 ∷ replicate 460 0

abbrev pub little_cell : ℕ → TreeCell
little_cell k = record {
  bytes = 131 ∷ 80 ∷ (little_key k ++ little_record);
  view = record { size = 475; rowid = little_rowid k; child = 0; payload = 464; local_at = 11; local = 464; overflow = 0 };
  payload = little_record;
  chain = [];
}

-- the last row, with 700 bytes of zeros, does not lie in its cell whole
abbrev pub little_long_cell : TreeCell
little_long_cell = record {
  bytes = 133 ∷ 64 ∷ (little_key 36 ++ (4 ∷ 0 ∷ 139 ∷ 4 ∷ replicate 195 0 ++ 40 ∷ []));
  view = record { size = 211; rowid = little_rowid 36; child = 0; payload = 704; local_at = 11; local = 196; overflow = 40 };
  payload = 4 ∷ 0 ∷ 139 ∷ 4 ∷ replicate 700 0;
  chain = 40 ∷ [];
}

-- the cell behind a child
abbrev pub little_behind : ℕ → ℕ → TreeCell
little_behind child k = record {
  bytes = 0 ∷ 0 ∷ 0 ∷ child ∷ little_key k;
  view = record { size = 13; rowid = little_rowid k; child = child; payload = 0; local_at = 0; local = 0; overflow = 0 };
  payload = [];
  chain = [];
}

-- Pages.

abbrev pub little_header : List ℕ
little_header =
    codes "SQLite format 3" ++ 0 ∷ 2 ∷ 0 ∷ 1 ∷ 1 ∷ 0 ∷ 64 ∷ 32 ∷ 32 ∷ 0 ∷ 0 ∷ 0 ∷ 39 ∷ 0 ∷ 0 ∷ 0 ∷ 42 ∷ 0 ∷ 0 ∷ 0 ∷ 42 ∷ 0 ∷ 0 ∷ 0 ∷ 1 ∷ 0 ∷ 0 ∷ 0 ∷ 3
    ∷ 0 ∷ 0 ∷ 0 ∷ 4 ∷ replicate 11 0 ++ 1 ∷ replicate 35 0 ++ 39 ∷ 0 ∷ 46 ∷ 99 ∷ 1 ∷ []

abbrev pub little_first_page : List ℕ
little_first_page = little_header ++ (13 ∷ 0 ∷ 0 ∷ 0 ∷ 1 ∷ 1 ∷ 201 ∷ 0 ∷ 1 ∷ 201 ∷ 1 ∷ 168 ∷ replicate 315 0 ++ 33 ∷ replicate 29 0 ++ little_schema_cell.bytes)

abbrev pub little_root_page : List ℕ
little_root_page = 5 ∷ 0 ∷ 0 ∷ 0 ∷ 1 ∷ 1 ∷ 243 ∷ 0 ∷ 0 ∷ 0 ∷ 0 ∷ 39 ∷ 1 ∷ 243 ∷ replicate 485 0 ++ (little_behind 38 18).bytes

-- an interior page over 17 leaves that have the rows from one on, with what stands between its array and its cells
abbrev pub little_interior : ℕ → ℕ → List ℕ → List ℕ
little_interior first right gap =
    5 ∷ 0 ∷ 0 ∷ 0 ∷ 17 ∷ 1 ∷ 35 ∷ 0 ∷ 0 ∷ 0 ∷ 0 ∷ right
    ∷ (flat_map (λ k. big_bytes 2 (499 - 13 * k)) (numbers_from 0 17) ++ (gap ++ flat_map (λ k. (little_behind (k + 2) k).bytes) (reverse (numbers_from first 17))))

-- what the root left in its first child when that became a page of its own
abbrev pub little_remains : List ℕ
little_remains = flat_map (λ k. big_bytes 2 (499 - 13 * k)) (numbers_from 17 16) ++ (replicate 8 0 ++ 208 ∷ replicate 204 0)

abbrev pub little_leaf : ℕ → List ℕ
little_leaf k = 13 ∷ 0 ∷ 0 ∷ 0 ∷ 1 ∷ 0 ∷ 37 ∷ 0 ∷ 0 ∷ 37 ∷ replicate 27 0 ++ (little_cell k).bytes

abbrev pub little_last_leaf : List ℕ
little_last_leaf = 13 ∷ 0 ∷ 0 ∷ 0 ∷ 1 ∷ 1 ∷ 45 ∷ 0 ∷ 1 ∷ 45 ∷ replicate 291 0 ++ little_long_cell.bytes

abbrev pub little_page : ℕ → List ℕ
little_page n =
    if nat_le 3 n && nat_le n 37 then little_leaf (n - 2)
    else if n == 1 then little_first_page
    else if n == 2 then little_root_page
    else if n == 38 then little_interior 1 20 little_remains
    else if n == 39 then little_interior 19 41 (replicate 245 0)
    else if n == 41 then little_last_leaf
    else replicate 512 0

abbrev pub little_base : Paged
little_base = record { count = 42; pages = little_page }

-- Trees.

abbrev pub little_schema_tree : Rooted
little_schema_tree = record { kind = Table; levels = 0; tree = record { page = 1; cells = little_schema_cell ∷ [] } }

abbrev pub little_child : ℕ → Leaf
little_child k = record { page = k + 2; cells = little_cell k ∷ [] }

abbrev pub little_children : ℕ → ℕ → List (Leaf × TreeCell)
little_children first zero = []
little_children first (suc n) = (little_child first, little_behind (first + 2) first) ∷ little_children (suc first) n

abbrev pub little_left : TreeOf 1
little_left = record { page = 38; children = little_children 1 17; last = little_child 18 }

abbrev pub little_right : TreeOf 1
little_right = record { page = 39; children = little_children 19 17; last = record { page = 41; cells = little_long_cell ∷ [] } }

abbrev pub little_table_tree : Rooted
little_table_tree = record { kind = Table; levels = 2; tree = record { page = 2; children = (little_left, little_behind 38 18) ∷ []; last = little_right } }

abbrev pub little_trunks : List Trunk
little_trunks = record { page = 42; leaves = [] } ∷ []

abbrev pub little_world : World
little_world = record { trees = little_schema_tree ∷ little_table_tree ∷ []; trunks = little_trunks }

-- the rows of the table, and its pages
abbrev pub little_members : List Member
little_members = map (λ k. record { rowid = little_rowid k; payload = little_record }) (numbers_from 1 35) ++ record { rowid = little_rowid 36; payload = little_long_cell.payload } ∷ []

abbrev pub little_numbers : List ℕ
little_numbers = 2 ∷ 38 ∷ (numbers_from 3 18 ++ 39 ∷ (numbers_from 21 17 ++ 41 ∷ 40 ∷ []))
