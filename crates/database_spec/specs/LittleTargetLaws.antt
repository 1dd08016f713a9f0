-- The records of the little target, and lists of three: crates above cite these facts in their proofs.
use Rattle.std.proofs.Common.{◌≡◌, ℕ, zero, suc, pos, ◌+◌, ◌*◌, ◌<◌, List, [], ◌∷◌, ◌++◌, length, refl, inl, inr, arith, rules}
use Rattle.std.specs.Prelude.{codes}
use Rattle.std.specs.List.{AllZip}
use Rattle.byteorder.specs.Endian.{big_number, twos_complement}
use Rattle.rbu_value.specs.declared.value.Value.TheVariants.{Null, Int, Text}
use Rattle.format_spec.specs.Varint.{IsVarint}
use Rattle.format_spec.specs.Record.{IsRecord}
use Rattle.database_spec.specs.Rows.{IsRow}
use Rattle.database_spec.specs.LittleTarget.{row_record, row_cells, members_in, target_table, target_rows}

-- a number below 128 is spelled by its byte
pub one_byte : (n : ℕ) → n < 128 → IsVarint (n ∷ []) n
one_byte n low = record { front = []; last = n; whole = refl; at_most_nine = omega arith; high = search rules; low = low; sum = omega arith }

-- records of rows and of entries
pub row_values : (type : ℕ) → type < 128 → (text : List ℕ) (c : ℕ) → type ≡ 2 * length text + 13 → pos c ≡ twos_complement 1 (big_number 1 (c ∷ []))
    → IsRecord (row_record type text c) (Null ∷ Text text ∷ Int (pos c) ∷ [])
row_values type low text c long same = record {
  size = 4 ∷ [];
  types = 0 ∷ type ∷ 1 ∷ [];
  bodies = text ++ c ∷ [];
  whole = refl;
  header = one_byte 4 (omega arith);
  fields = (0, 0 ∷ [], [], type ∷ 1 ∷ [], text ++ c ∷ [], one_byte 0 (omega arith), refl, refl, (refl, refl), (type, type ∷ [], text, 1 ∷ [], c ∷ [], one_byte type low, refl, refl, (long, refl), (1, 1 ∷ [], c ∷ [], [], [], one_byte 1 (omega arith), refl, refl, (inl (omega arith, omega arith, refl, same)), (refl, refl))));
}

pub entry_values : (c rowid : ℕ) → pos c ≡ twos_complement 1 (big_number 1 (c ∷ [])) → pos rowid ≡ twos_complement 1 (big_number 1 (rowid ∷ []))
    → IsRecord (3 ∷ 1 ∷ 1 ∷ c ∷ rowid ∷ []) (Int (pos c) ∷ Int (pos rowid) ∷ [])
entry_values c rowid p q = record {
  size = 3 ∷ [];
  types = 1 ∷ 1 ∷ [];
  bodies = c ∷ rowid ∷ [];
  whole = refl;
  header = one_byte 3 (omega arith);
  fields = (1, 1 ∷ [], c ∷ [], 1 ∷ [], rowid ∷ [], one_byte 1 (omega arith), refl, refl, (inl (omega arith, omega arith, refl, p)), (1, 1 ∷ [], rowid ∷ [], [], [], one_byte 1 (omega arith), refl, refl, (inl (omega arith, omega arith, refl, q)), (refl, refl)));
}

pub first_values : IsRecord (3 ∷ 1 ∷ 9 ∷ 10 ∷ []) (Int (pos 10) ∷ Int (pos 1) ∷ [])
first_values = record {
  size = 3 ∷ [];
  types = 1 ∷ 9 ∷ [];
  bodies = 10 ∷ [];
  whole = refl;
  header = one_byte 3 (omega arith);
  fields = (1, 1 ∷ [], 10 ∷ [], 9 ∷ [], [], one_byte 1 (omega arith), refl, refl, (inl (omega arith, omega arith, refl, refl)), (9, 9 ∷ [], [], [], [], one_byte 9 (omega arith), refl, refl, (inr (omega arith, omega arith, refl, refl)), (refl, refl)));
}

pub target-rows : AllZip (IsRow target_table) (members_in row_cells) target_rows
target-rows = (
  record { stored = Null ∷ Text (codes "one") ∷ Int (pos 10) ∷ []; is_record = row_values 19 (omega arith) (codes "one") 10 refl refl; many = refl; rowid = refl; values = refl; payload = refl },
  (
    record { stored = Null ∷ Text (codes "two") ∷ Int (pos 20) ∷ []; is_record = row_values 19 (omega arith) (codes "two") 20 refl refl; many = refl; rowid = refl; values = refl; payload = refl },
    (
      record { stored = Null ∷ Text (codes "three") ∷ Int (pos 30) ∷ []; is_record = row_values 23 (omega arith) (codes "three") 30 refl refl; many = refl; rowid = refl; values = refl; payload = refl },
      tt,
    ),
  ),
)

-- pairs of places below three
pub pairs_three : (P : ℕ → ℕ → Type 0) → P 0 1 → P 0 2 → P 1 2 → (j k : ℕ) → j < k → k < 3 → P j k
pairs_three P a b c zero zero less long = absurd (omega (arith, less))
pairs_three P a b c zero (suc zero) less long = a
pairs_three P a b c zero (suc (suc zero)) less long = b
pairs_three P a b c (suc j) zero less long = absurd (omega (arith, less))
pairs_three P a b c (suc j) (suc zero) less long = absurd (omega (arith, less))
pairs_three P a b c (suc zero) (suc (suc zero)) less long = c
pairs_three P a b c (suc (suc j)) (suc (suc zero)) less long = absurd (omega (arith, less))
pairs_three P a b c j (suc (suc (suc k))) less long = absurd (omega (arith, long))
