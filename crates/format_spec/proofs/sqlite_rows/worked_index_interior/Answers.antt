use Rattle.std.proofs.Common.{◌≡◌, ℕ, zero, suc, pos, ◌<◌, List, [], ◌∷◌, ◌++◌, replicate, slice_index_or, refl, arith}
use Rattle.format_spec.specs.declared.PageKind.TheVariants.{IndexInterior}
use Rattle.format_spec.specs.declared.CellView.{CellView}
use Rattle.format_spec.specs.Cell.{IsCell}
use Rattle.format_spec.specs.Page.{IsCellAt, cell_place}
use Rattle.format_spec.proofs.Rows.{varint-one_byte}
use Rattle.format_spec.proofs.sqlite_rows.worked_index_interior.Goals as goal

abbrev entry : List ℕ
entry = 0 ∷ 0 ∷ 0 ∷ 4 ∷ 7 ∷ 3 ∷ 0x13 ∷ 1 ∷ 0x6b ∷ 0x32 ∷ 0x36 ∷ 0x1a ∷ []

abbrev page : List ℕ
page = 2 ∷ 0 ∷ 0 ∷ 0 ∷ 1 ∷ 0x01 ∷ 0xf4 ∷ 0 ∷ 0 ∷ 0 ∷ 0 ∷ 5 ∷ 0x01 ∷ 0xf4 ∷ replicate 486 0 ++ entry

abbrev view : CellView
view = record { size = 12; rowid = pos 0; child = 4; payload = 7; local_at = 5; local = 7; overflow = 0 }

entry-cell : IsCell IndexInterior 512 entry view
entry-cell = record {
  child_bytes = 0 ∷ 0 ∷ 0 ∷ 4 ∷ [];
  payload_bytes = 7 ∷ [];
  local_bytes = 3 ∷ 0x13 ∷ 1 ∷ 0x6b ∷ 0x32 ∷ 0x36 ∷ 0x1a ∷ [];
  overflow_bytes = [];
  whole = refl;
  child_length = refl;
  child = refl;
  payload = varint-one_byte 7 (omega arith);
  limit = omega arith;
  local_at = refl;
  local = refl;
  local_length = refl;
  overflow_length = refl;
  overflow = refl;
  rowid = refl;
  size = refl;
}

page-each_cell : (k : ℕ) → k < 1 → IsCellAt page 3 512 IndexInterior 1 k (slice_index_or (entry ∷ []) k [])
page-each_cell zero h =
    let place : cell_place page 3 IndexInterior 0 ≡ 500 = refl in
    record { view = view; is_cell = entry-cell; stands = refl; behind_array = omega (arith, place); inside = omega (arith, place) }
page-each_cell (suc k) h = absurd (omega arith)

pub returns : goal.returns
returns c = record { kind_is = refl; count = refl; each = page-each_cell; apart = λ j k l h. absurd (omega arith); right_child = refl }
