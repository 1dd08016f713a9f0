-- A database of three pages of 512 bytes, as SQLite 3.40.1 wrote it: a row on which definitions are computed. It has a table of three rows at root 2, and its automatic index at root 3.
use Rattle.std.specs.Prelude.{ℕ, pos, ◌==◌, true, false, if◌then◌else◌, List, [], ◌∷◌, ◌++◌, length, replicate, Some, None, Ok, codes}
use Rattle.rbu_value.specs.declared.value.Value.{Value}
use Rattle.rbu_value.specs.declared.value.Value.TheVariants.{Int, Text}
use Rattle.rbu_value.specs.declared.affinity.Affinity.TheVariants.{Integer as IntegerAffinity, Text as TextAffinity, Blob as BlobAffinity}
use Rattle.rbu_value.specs.declared.order.Collation.TheVariants.{Binary}
use Rattle.schema_spec.specs.declared.schema.Table.{Table}
use Rattle.schema_spec.specs.declared.schema.Index.{Index}
use Rattle.tree_spec.specs.declared.TreeKind.TheVariants as tree
use Rattle.tree_spec.specs.Trees.{TreeCell, Rooted, Member, member}
use Rattle.tree_spec.specs.Standing.{Sizes, Paged}
use Rattle.tree_spec.specs.Worlds.{World}
use Rattle.database_spec.specs.declared.catalog.SchemaKind.TheVariants as kind
use Rattle.database_spec.specs.declared.catalog.Entry.{Entry}
use Rattle.database_spec.specs.declared.catalog.Catalog.{Catalog}
use Rattle.database_spec.specs.declared.catalog.SchemaRow.{SchemaRow}
use Rattle.database_spec.specs.Rows.{TableRow}
use Rattle.database_spec.specs.Databases.{Database}

abbrev pub target_sizes : Sizes
target_sizes = record { size = 512; usable = 512 }

abbrev pub target_text : List ℕ
target_text = codes "CREATE TABLE t1(a INTEGER PRIMARY KEY, b TEXT, c UNIQUE)"

-- Records, and the cells that hold them whole.

abbrev pub table_record : List ℕ
table_record = 6 ∷ 23 ∷ 17 ∷ 17 ∷ 1 ∷ 125 ∷ (codes "tablet1t1" ++ 2 ∷ target_text)

abbrev pub index_record : List ℕ
index_record = 6 ∷ 23 ∷ 55 ∷ 17 ∷ 1 ∷ 0 ∷ (codes "indexsqlite_autoindex_t1_1t1" ++ 3 ∷ [])

abbrev pub row_record : ℕ → List ℕ → ℕ → List ℕ
row_record type text c = 4 ∷ 0 ∷ type ∷ 1 ∷ (text ++ c ∷ [])

abbrev pub row_cell : ℕ → List ℕ → TreeCell
row_cell rowid payload = record {
  bytes = length payload ∷ rowid ∷ payload;
  view = record { size = length (length payload ∷ rowid ∷ payload); rowid = pos rowid; child = 0; payload = length payload; local_at = 2; local = length payload; overflow = 0 };
  payload = payload;
  chain = [];
}

abbrev pub entry_cell : List ℕ → TreeCell
entry_cell payload = record {
  bytes = length payload ∷ payload;
  view = record { size = length (length payload ∷ payload); rowid = pos 0; child = 0; payload = length payload; local_at = 1; local = length payload; overflow = 0 };
  payload = payload;
  chain = [];
}

abbrev pub schema_cells : List TreeCell
schema_cells = row_cell 1 table_record ∷ row_cell 2 index_record ∷ []

abbrev pub row_cells : List TreeCell
row_cells = row_cell 1 (row_record 19 (codes "one") 10) ∷ row_cell 2 (row_record 19 (codes "two") 20) ∷ row_cell 3 (row_record 23 (codes "three") 30) ∷ []

abbrev pub entry_cells : List TreeCell
entry_cells = entry_cell (3 ∷ 1 ∷ 9 ∷ 10 ∷ []) ∷ entry_cell (3 ∷ 1 ∷ 1 ∷ 20 ∷ 2 ∷ []) ∷ entry_cell (3 ∷ 1 ∷ 1 ∷ 30 ∷ 3 ∷ []) ∷ []

-- Pages.

abbrev pub target_header : List ℕ
target_header =
    codes "SQLite format 3" ++ 0 ∷ 2 ∷ 0 ∷ 1 ∷ 1 ∷ 0 ∷ 64 ∷ 32 ∷ 32 ∷ 0 ∷ 0 ∷ 0 ∷ 2 ∷ 0 ∷ 0 ∷ 0 ∷ 3 ∷ replicate 11 0 ++ 1 ∷ 0 ∷ 0 ∷ 0 ∷ 4 ∷ replicate 11 0 ++ 1 ∷ replicate 35 0 ++ 2 ∷ 0 ∷ 46 ∷ 99 ∷ 1 ∷ []

abbrev pub schema_page : List ℕ
schema_page =
    target_header ++ (13 ∷ 1 ∷ 248 ∷ 0 ∷ 2 ∷ 1 ∷ 137 ∷ 0 ∷ 1 ∷ 137 ∷ 1 ∷ 211 ∷ replicate 281 0 ++ 72 ∷ 1 ∷ table_record ++ 35 ∷ 2 ∷ index_record ++ 0 ∷ 0 ∷ 0 ∷ 8 ∷ 0 ∷ 0 ∷ 0 ∷ 0 ∷ [])

abbrev pub table_page : List ℕ
table_page =
    13 ∷ 0 ∷ 0 ∷ 0 ∷ 3 ∷ 1 ∷ 224 ∷ 0 ∷ 1 ∷ 246 ∷ 1 ∷ 236 ∷ 1 ∷ 224 ∷ replicate 466 0
    ++ 10 ∷ 3 ∷ row_record 23 (codes "three") 30 ++ 8 ∷ 2 ∷ row_record 19 (codes "two") 20 ++ 8 ∷ 1 ∷ row_record 19 (codes "one") 10

abbrev pub index_page : List ℕ
index_page =
    10 ∷ 0 ∷ 0 ∷ 0 ∷ 3 ∷ 1 ∷ 239 ∷ 0 ∷ 1 ∷ 251 ∷ 1 ∷ 245 ∷ 1 ∷ 239 ∷ replicate 481 0
    ++ 5 ∷ 3 ∷ 1 ∷ 1 ∷ 30 ∷ 3 ∷ 5 ∷ 3 ∷ 1 ∷ 1 ∷ 20 ∷ 2 ∷ 4 ∷ 3 ∷ 1 ∷ 9 ∷ 10 ∷ []

abbrev pub target_page : ℕ → List ℕ
target_page n = if n == 1 then schema_page else (if n == 2 then table_page else (if n == 3 then index_page else []))

abbrev pub target_base : Paged
target_base = record { count = 3; pages = target_page }

-- Trees.

abbrev pub target_trees : List Rooted
target_trees =
    record { kind = tree.Table; levels = 0; tree = record { page = 1; cells = schema_cells } }
    ∷ record { kind = tree.Table; levels = 0; tree = record { page = 2; cells = row_cells } }
    ∷ record { kind = tree.Index; levels = 0; tree = record { page = 3; cells = entry_cells } } ∷ []

abbrev pub target_world : World
target_world = record { trees = target_trees; trunks = [] }

-- What they say.

abbrev pub table_row : SchemaRow
table_row = record { rowid = pos 1; kind = kind.Table; name = codes "t1"; table = codes "t1"; root = 2; sql = Some target_text }

abbrev pub index_row : SchemaRow
index_row = record { rowid = pos 2; kind = kind.Index; name = codes "sqlite_autoindex_t1_1"; table = codes "t1"; root = 3; sql = None }

abbrev pub target_table : Table
target_table = record {
  name = codes "t1";
  columns = record { name = codes "a"; affinity = IntegerAffinity; collation = Binary; not_null = false } ∷ record { name = codes "b"; affinity = TextAffinity; collation = Binary; not_null = false }
      ∷ record { name = codes "c"; affinity = BlobAffinity; collation = Binary; not_null = false } ∷ [];
  rowid_column = Some 0;
  key = 0 ∷ [];
  unique = ((2, Binary) ∷ []) ∷ [];
}

abbrev pub target_index : Index
target_index = record { name = codes "sqlite_autoindex_t1_1"; table = codes "t1"; unique = true; columns = (2, Binary, false) ∷ [] }

abbrev pub target_entry : Entry
target_entry = record { root = 2; meaning = Ok target_table; indexes = (3, Ok target_index) ∷ [] }

abbrev pub target_catalog : Catalog
target_catalog = record { tables = record { name = codes "t1"; entry = target_entry } ∷ []; roots = 1 ∷ 2 ∷ 3 ∷ [] }

abbrev pub target_row : ℕ → List ℕ → List ℕ → ℕ → TableRow
target_row rowid payload text c = record { rowid = pos rowid; values = Int (pos rowid) ∷ Text text ∷ Int (pos c) ∷ []; payload = payload }

abbrev pub target_rows : List TableRow
target_rows =
    target_row 1 (row_record 19 (codes "one") 10) (codes "one") 10 ∷ target_row 2 (row_record 19 (codes "two") 20) (codes "two") 20
    ∷ target_row 3 (row_record 23 (codes "three") 30) (codes "three") 30 ∷ []

abbrev pub target_entries : List (List Value)
target_entries = (Int (pos 10) ∷ Int (pos 1) ∷ []) ∷ (Int (pos 20) ∷ Int (pos 2) ∷ []) ∷ (Int (pos 30) ∷ Int (pos 3) ∷ []) ∷ []

abbrev pub members_in : List TreeCell → List Member
members_in [] = []
members_in (cell ∷ cells) = member cell ∷ members_in cells

abbrev pub target_database : Database
target_database = record {
  header = codes "SQLite format 3" ++ 0 ∷ 2 ∷ 0 ∷ 1 ∷ 1 ∷ 0 ∷ 64 ∷ 32 ∷ 32 ∷ 0 ∷ 0 ∷ 0 ∷ 2 ∷ 0 ∷ 0 ∷ 0 ∷ 1 ∷ 0 ∷ 0 ∷ 0 ∷ 4 ∷ replicate 11 0 ++ 1 ∷ replicate 35 0 ++ 2 ∷ 0 ∷ 46 ∷ 99 ∷ 1 ∷ [];
  lists = (1, members_in schema_cells) ∷ (2, members_in row_cells) ∷ (3, members_in entry_cells) ∷ [];
}

-- the index's row with the root of the table, and the members of the index with 21 in place of 20
abbrev pub misplaced_row : SchemaRow
misplaced_row = record { rowid = pos 2; kind = kind.Index; name = codes "sqlite_autoindex_t1_1"; table = codes "t1"; root = 2; sql = None }

abbrev pub changed_members : List Member
changed_members = members_in (entry_cell (3 ∷ 1 ∷ 9 ∷ 10 ∷ []) ∷ entry_cell (3 ∷ 1 ∷ 1 ∷ 21 ∷ 2 ∷ []) ∷ entry_cell (3 ∷ 1 ∷ 1 ∷ 30 ∷ 3 ∷ []) ∷ [])
