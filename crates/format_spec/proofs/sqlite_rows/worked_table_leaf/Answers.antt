use Rattle.std.proofs.Common.{◌≡◌, ℕ, zero, suc, pos, ◌<◌, List, [], ◌∷◌, ◌++◌, length, replicate, slice_index_or, inl, refl, arith, rules}
use Rattle.format_spec.specs.declared.PageKind.TheVariants.{TableLeaf}
use Rattle.format_spec.specs.Cell.{IsCell}
use Rattle.format_spec.specs.Page.{IsCellAt, AreApart, cell_place, cell_room}
use Rattle.format_spec.proofs.Rows.{varint-one_byte}
use Rattle.format_spec.proofs.sqlite_rows.worked_table_leaf.Goals as goal

abbrev one : List ℕ
one = 6 ∷ 1 ∷ 3 ∷ 0 ∷ 0x13 ∷ 0x6f ∷ 0x6e ∷ 0x65 ∷ []

abbrev two : List ℕ
two = 6 ∷ 2 ∷ 3 ∷ 0 ∷ 0x13 ∷ 0x74 ∷ 0x77 ∷ 0x6f ∷ []

abbrev page : List ℕ
page = 13 ∷ 0x01 ∷ 0xee ∷ 0 ∷ 2 ∷ 0x01 ∷ 0xe6 ∷ 0 ∷ 0x01 ∷ 0xe6 ∷ 0x01 ∷ 0xf8 ∷ replicate 474 0 ++ one ++ 0 ∷ 0 ∷ 0 ∷ 0x0a ∷ 0 ∷ 0 ∷ 0 ∷ 0 ∷ 0 ∷ 0 ∷ two

-- a row of one byte's rowid and six bytes of payload
row-cell : (rowid : ℕ) (payload : List ℕ) → rowid < 128 → length payload ≡ 6
    → IsCell TableLeaf 512 (6 ∷ rowid ∷ payload) (record { size = 8; rowid = pos rowid; child = 0; payload = 6; local_at = 2; local = 6; overflow = 0 })
row-cell rowid payload low long = record {
  payload_bytes = 6 ∷ [];
  rowid_bytes = rowid ∷ [];
  rowid_number = rowid;
  local_bytes = payload;
  overflow_bytes = [];
  whole = search rules;
  payload = varint-one_byte 6 (omega arith);
  limit = omega arith;
  rowid_varint = varint-one_byte rowid low;
  rowid = grind arith;
  local_at = refl;
  local = refl;
  local_length = long;
  overflow_length = refl;
  overflow = refl;
  child = refl;
  size = omega (arith, long);
}

page-each_cell : (k : ℕ) → k < 2 → IsCellAt page 2 512 TableLeaf 2 k (slice_index_or (one ∷ two ∷ []) k [])
page-each_cell zero h =
    let place : cell_place page 2 TableLeaf 0 ≡ 486 = refl in
    record { view = _; is_cell = row-cell 1 (3 ∷ 0 ∷ 0x13 ∷ 0x6f ∷ 0x6e ∷ 0x65 ∷ []) (omega arith) refl; stands = refl; behind_array = omega (arith, place); inside = omega (arith, place) }
page-each_cell (suc zero) h =
    let place : cell_place page 2 TableLeaf 1 ≡ 504 = refl in
    record { view = _; is_cell = row-cell 2 (3 ∷ 0 ∷ 0x13 ∷ 0x74 ∷ 0x77 ∷ 0x6f ∷ []) (omega arith) refl; stands = refl; behind_array = omega (arith, place); inside = omega (arith, place) }
page-each_cell (suc (suc k)) h = absurd (omega arith)

cells-apart : (j k : ℕ) → j < k → k < 2
    → AreApart (cell_place page 2 TableLeaf j) (cell_room (slice_index_or (one ∷ two ∷ []) j [])) (cell_place page 2 TableLeaf k) (cell_room (slice_index_or (one ∷ two ∷ []) k []))
cells-apart zero (suc zero) l h = inl (let place : cell_place page 2 TableLeaf 0 ≡ 486 = refl in let next : cell_place page 2 TableLeaf 1 ≡ 504 = refl in omega (arith, place, next))
cells-apart zero zero l h = absurd (omega arith)
cells-apart (suc j) zero l h = absurd (omega arith)
cells-apart (suc j) (suc zero) l h = absurd (omega arith)
cells-apart j (suc (suc k)) l h = absurd (omega arith)

pub returns : goal.returns
returns c = record { kind_is = refl; count = refl; each = page-each_cell; apart = cells-apart; right_child = refl }
