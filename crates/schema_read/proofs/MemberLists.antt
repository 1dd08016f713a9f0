-- Members that are read one after the other, and what is looked for among them.
use Rattle.std.proofs.Common.{◌≡◌, ℕ, zero, suc, ◌+◌, ◌<◌, ◌≤◌, ◌-◌, ◌||◌, ◌&&◌, Bool, true, false, List, [], ◌∷◌, ◌++◌, length, map, take, drop, get_or, Option, Some, None, refl, sym, ap, ◌∙◌, subst, arith, append_assoc, append-nil}
use Rattle.std.proofs.Math.Path.{subst⁻¹}
use Rattle.std.specs.Prelude.{filter_map, if◌then◌else◌}
use Rattle.std.specs.Prelude.{nat_lt, cond}
use Rattle.std.specs.List.{list_any, position, position_or_len}
use Rattle.std.proofs.lemmas.List.Sums.{fails_before_first}
use Rattle.std.proofs.lemmas.List.{take_rest}
use Rattle.std.proofs.lemmas.Option.{none-some}
use Rattle.std.proofs.lemmas.Bool.Decides.{nat_tests}
use Rattle.schema_spec.specs.Words.{same_name}
use Rattle.tree_walk.specs.declared.cursor.Row.{Row}
use Rattle.database_spec.specs.declared.catalog.SchemaRow.{SchemaRow}
use Rattle.database_spec.specs.Catalogs.{is_table}
use Rattle.database_spec.specs.RightRows.{table_named}
use Rattle.schema_read.specs.Rows.{member_of}
use Rattle.schema_read.specs.Found.{AreFound, IsFound, any_found, found_rows, has_table, option_any, rows_in}
use Rattle.schema_read.specs.declared.found.Found.{Found}

-- a list is its first item and what is left
pub uncons : {A : Type 0} (left : List A) (x : A) → 1 ≤ length left → x ≡ get_or left 0 x → left ≡ x ∷ take (length left - 1) (drop 1 left)
uncons [] x h e = absurd (omega (arith, h))
uncons (y ∷ left) x h e = ap (λ z. z ∷ left) (sym e) ∙ ap (λ z. x ∷ z) (sym (take_rest (y ∷ left) 1))

-- one more member was read
pub found-next : (all left : List Row) (row : Row) (done more : List Found) (one : Found) → 1 ≤ length left → row ≡ get_or left 0 row
    → ((rest : List Found) → AreFound (map member_of left) rest → AreFound (map member_of all) (done ++ rest)) → IsFound (member_of row) one → more ≡ done ++ one ∷ []
    → (rest : List Found) → AreFound (map member_of (take (length left - 1) (drop 1 left))) rest → AreFound (map member_of all) (more ++ rest)
found-next all left row done more one some first keeps is pushed rest are =
    let whole = uncons left row some first in
    let there : AreFound (map member_of left) (one ∷ rest) = subst⁻¹ (λ (l : List Row). AreFound (map member_of l) (one ∷ rest)) whole (is, are) in
    let e : more ++ rest ≡ done ++ one ∷ rest = ap (λ (l : List Found). l ++ rest) pushed ∙ append_assoc done (one ∷ []) rest in
    subst⁻¹ (AreFound (map member_of all)) e (keeps (one ∷ rest) there)

pub found-end : (all left : List Row) (done : List Found) → length left < 1 → ((rest : List Found) → AreFound (map member_of left) rest → AreFound (map member_of all) (done ++ rest)) → AreFound (map member_of all) done
found-end all [] done none keeps = subst (AreFound (map member_of all)) (append-nil done) (keeps [] tt)
found-end all (x ∷ left) done none keeps = absurd (omega (arith, none))

-- some member passes a test where some row does
pub any-rows : (test : SchemaRow → Bool) (found : List Found) → any_found test found ≡ list_any test (rows_in found)
any-rows test [] = refl
any-rows test (one ∷ found) = by one.row (any-rows test found)
  where
    by : (row : Option SchemaRow) → any_found test found ≡ list_any test (rows_in found) → (option_any test row || any_found test found) ≡ list_any test (filter_map (λ r. r) (row ∷ found_rows found))
    by None same = same
    by (Some row) same = ap (λ (b : Bool). test row || b) same

-- the member at a place is the first table or view of a name
pub record IsTableAt (name : List ℕ) (found : List Found) (at : ℕ) (d : Found) : Type 0 where
  pub row : SchemaRow
  pub row_is : (get_or found at d).row ≡ Some row
  pub named : table_named name (rows_in found) ≡ Some row

module _ (name : List ℕ) where
  abbrev test : SchemaRow → Bool
  test row = is_table row && same_name row.name name

  here : (one : Found) (found : List Found) (row : SchemaRow) → one.row ≡ Some row → test row ≡ true → table_named name (rows_in (one ∷ found)) ≡ Some row
  here one found row e has =
      subst⁻¹ (λ (r : Option SchemaRow). table_named name (filter_map (λ x. x) (r ∷ found_rows found)) ≡ Some row) e (ap (λ (b : Bool). if b then Some row else table_named name (rows_in found)) has)

  skip : (one : Found) (found : List Found) (row : Option SchemaRow) → one.row ≡ row → option_any test row ≡ false → table_named name (rows_in (one ∷ found)) ≡ table_named name (rows_in found)
  skip one found None e has = subst⁻¹ (λ (r : Option SchemaRow). table_named name (filter_map (λ x. x) (r ∷ found_rows found)) ≡ table_named name (rows_in found)) e refl
  skip one found (Some row) e has =
      subst⁻¹ (λ (r : Option SchemaRow). table_named name (filter_map (λ x. x) (r ∷ found_rows found)) ≡ table_named name (rows_in found)) e
      (ap (λ (b : Bool). if b then Some row else table_named name (rows_in found)) has)

  first : (one : Found) (found : List Found) (d : Found) (row : Option SchemaRow) → one.row ≡ row → option_any test row ≡ true → IsTableAt name (one ∷ found) zero d
  first one found d None e has = absurd (let h : ⊥ = cc in h)
  first one found d (Some row) e has = record { row = row; row_is = e; named = here one found row e has }

  pub table-at : (found : List Found) (at : ℕ) (d : Found) → at < length found → has_table name (get_or found at d) ≡ true
      → ((k : ℕ) → k < at → has_table name (get_or found k d) ≡ false) → IsTableAt name found at d
  table-at [] at d less has none = absurd (omega (arith, less))
  table-at (one ∷ found) zero d less has none = first one found d one.row refl has
  table-at (one ∷ found) (suc at) d less has none =
      let later = table-at found at d (omega (arith, less)) has (λ k low. none (suc k) (omega (arith, low))) in
      record { row = later.row; row_is = later.row_is; named = skip one found one.row refl (none zero (omega arith)) ∙ later.named }

  -- there is none
  pub table-none : (found : List Found) (d : Found) → ((k : ℕ) → k < length found → has_table name (get_or found k d) ≡ false) → table_named name (rows_in found) ≡ None
  table-none [] d none = refl
  table-none (one ∷ found) d none = skip one found one.row refl (none zero (omega arith)) ∙ table-none found d (λ k low. none (suc k) (omega (arith, low)))

-- no member passes a test that has no place
pub position-none : {A : Type 0} (p : A → Bool) (xs : List A) (d : A) → position p xs ≡ None → (k : ℕ) → k < length xs → p (get_or xs k d) ≡ false
position-none p xs d none k low = by (nat_lt (position_or_len p xs) (length xs)) refl none
  where
    by : (b : Bool) → nat_lt (position_or_len p xs) (length xs) ≡ b → cond b (Some (position_or_len p xs)) None ≡ None → p (get_or xs k d) ≡ false
    by true e some = absurd (none-some (position_or_len p xs) (sym some))
    by false e none = let far : length xs ≤ position_or_len p xs = grind (arith, nat_tests) in fails_before_first p xs k d (omega (arith, low, far))

-- nothing is left
pub none-left : {A : Type 0} (left : List A) → length left < 1 → left ≡ []
none-left [] none = refl
none-left (x ∷ left) none = absurd (omega (arith, none))

-- one item fewer is left
pub gone-on : {A : Type 0} (at : ℕ) (left all : List A) → 1 ≤ length left → at + length left ≡ length all → at + 1 + length (take (length left - 1) (drop 1 left)) ≡ length all
gone-on at [] all some within = absurd (omega (arith, some))
gone-on at (x ∷ left) all some within = let rest : length (take (length (x ∷ left) - 1) (drop 1 (x ∷ left))) ≡ length left = ap length (take_rest (x ∷ left) 1) in omega (arith, within, rest)
