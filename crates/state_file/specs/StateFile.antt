-- The bytes of a state file: a database of two pages with one table, whose rows are the keys of the state (Database File Format, sections 1.3, 1.6 and 2.6).
use Rattle.std.specs.Prelude.{◌≡◌, ℕ, pos, ◌+◌, ◌-◌, ◌*◌, ◌≤◌, ◌==◌, if◌then◌else◌, List, [], ◌∷◌, ◌++◌, length, replicate, codes, sum_by}
use Rattle.std.specs.List.{AllByRecursion, flat_map}
use Rattle.byteorder.specs.Endian.{big_bytes}
use Rattle.rbu_value.specs.declared.value.Value.{Value}
use Rattle.rbu_value.specs.declared.value.Value.TheVariants.{Null, Int, Text}
use Rattle.format_spec.specs.Cell.{table_leaf_cell}
use Rattle.format_spec.specs.Record.{canonical_record}
use Rattle.format_spec.specs.Page.{packed_header, packed_leaf, places_below, stacked}

-- The header of a new database (section 1.3): pages of 4096 bytes, rollback journal, no reserved bytes, change counter 1, so many pages, no freelist, schema cookie 1, schema format 4, UTF-8, library version 3007000.
abbrev pub new_header : ℕ → List ℕ
new_header pages =
    codes "SQLite format 3" ++ (0 ∷ (big_bytes 2 4096 ++ ((1 ∷ 1 ∷ 0 ∷ 64 ∷ 32 ∷ 32 ∷ [])
    ++ flat_map (big_bytes 4) (1 ∷ pages ∷ 0 ∷ 0 ∷ 1 ∷ 4 ∷ 0 ∷ 0 ∷ 1 ∷ 0 ∷ 0 ∷ 0 ∷ 0 ∷ 0 ∷ 0 ∷ 0 ∷ 0 ∷ 1 ∷ 3007000 ∷ []))))

-- a page of `size` bytes that begins with a front and goes on as a table leaf whose cells lie from its end downwards in order, without gaps; its unused bytes are zero
unfoldable pub packed_behind : List ℕ → ℕ → List (List ℕ) → List ℕ
packed_behind front size cells =
    (front ++ (packed_header size cells ++ flat_map (big_bytes 2) (places_below size cells)))
    ++ (replicate (size - (length front + 8 + 2 * length cells + sum_by length cells)) 0
    ++ stacked cells)

-- the one row of the schema, at rowid 1: the table with root page 2
abbrev pub schema_cell : List ℕ
schema_cell = table_leaf_cell (pos 1) (canonical_record 4
    (Text (codes "table") ∷ Text (codes "rbu_state") ∷ Text (codes "rbu_state") ∷ Int (pos 2) ∷ Text (codes "CREATE TABLE rbu_state(k INTEGER PRIMARY KEY, v)") ∷ []))

-- page 1: the header of a database of two pages, and the schema
abbrev pub first_page : ℕ → List ℕ
first_page size = packed_behind (new_header 2) size (schema_cell ∷ [])

-- the keys are 1 to 8 and 10
abbrev pub next_key : ℕ → ℕ
next_key key = if key == 8 then 10 else key + 1

-- the row of a key: its rowid is the key, and its values are NULL in the key's place and the value
unfoldable pub row_cell : ℕ → Value → List ℕ
row_cell key value = table_leaf_cell (pos key) (canonical_record 4 (Null ∷ value ∷ []))

-- the rows of the values under the keys from one on
abbrev pub rows_from : ℕ → List Value → List (List ℕ)
rows_from key [] = []
rows_from key (value ∷ values) = row_cell key value ∷ rows_from (next_key key) values

-- how many bytes of a page its header, the array of places and the cells take
abbrev pub leaf_room : List (List ℕ) → ℕ
leaf_room cells = 8 + 2 * length cells + sum_by length cells

-- the file with these values under the keys from 1 on
abbrev pub state_file : List Value → List ℕ
state_file values = first_page 4096 ++ packed_leaf 4096 (rows_from 1 values)
