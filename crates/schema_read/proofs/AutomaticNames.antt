-- The names of automatic indexes, and the numbers in them.
use Rattle.std.proofs.Common.{◌≡◌, ℕ, zero, suc, ◌+◌, ◌^◌, ◌<◌, ◌≤◌, Bool, true, false, cond, IsTrue, List, [], ◌∷◌, ◌++◌, length, map, drop, slice_get, Some, None, refl, sym, ap, ◌∙◌, subst, arith, append_assoc, length-append, true≢false}
use Rattle.std.proofs.Math.Seq.{drop-append_seam}
use Rattle.std.proofs.lemmas.Bool.Decides.{nat_tests}
use Rattle.std.proofs.lemmas.List.{drop-map}
use Rattle.std.proofs.lemmas.Fmt.{decimal_is_IsNumeral}
use Rattle.std.proofs.lemmas.Str.Ascii.{lowercase_is}
use Rattle.std.proofs.lemmas.Str.Parse.{tells_digits}
use Rattle.std.specs.Prelude.{codes, decimal, if◌then◌else◌, nat_lt}
use Rattle.std.specs.Char.{to_ascii_lowercase}
use Rattle.std.specs.Cmp.Lexicographic.{bytes_decides}
use Rattle.std.specs.Str.{str_to_ascii_lowercase}
use Rattle.std.specs.Str.Parse.{AllDigits}
use Rattle.schema_spec.specs.Words.{same_name}
use Rattle.rbu_value.specs.declared.order.Collation.{Collation}
use Rattle.database_spec.specs.declared.catalog.SchemaRow.{SchemaRow}
use Rattle.database_spec.specs.Catalogs.{automatic_columns, automatic_name}

same-digit : (b d : ℕ) → d ≤ 57 → to_ascii_lowercase b ≡ to_ascii_lowercase d → b ≡ d
same-digit b d high same = by (nat_lt b 65) (nat_lt b 91) refl refl (same ∙ (lowercase_is d).1 (omega (arith, high)))
  where
    by : (p q : Bool) → nat_lt b 65 ≡ p → nat_lt b 91 ≡ q → cond p b (cond q (b + 32) b) ≡ d → b ≡ d
    by true q e f h = h
    by false false e f h = h
    by false true e f h = let low : 65 ≤ b = grind (arith, nat_tests) in absurd (omega (arith, low, h, high))

-- bytes that are digits without case are these digits
same-digits : (bytes digits : List ℕ) → AllDigits 10 digits → map to_ascii_lowercase bytes ≡ map to_ascii_lowercase digits → bytes ≡ digits
same-digits [] [] all same = refl
same-digits [] (d ∷ digits) all same = absurd (let h : ⊥ = cc in h)
same-digits (b ∷ bytes) [] all same = absurd (let h : ⊥ = cc in h)
same-digits (b ∷ bytes) (d ∷ digits) all same =
    let first : to_ascii_lowercase b ≡ to_ascii_lowercase d = cc in
    let rest : map to_ascii_lowercase bytes ≡ map to_ascii_lowercase digits = cc in
    let parts = tells_digits.parts d digits all in
    let b_is : b ≡ d = same-digit b d parts.0.1 first in
    let bytes_are : bytes ≡ digits = same-digits bytes digits parts.1 rest in
    λ i. b_is i ∷ bytes_are i

-- what stands behind the table's name in that of its automatic index are the digits of its number
pub digits-behind : (name table : List ℕ) (n : ℕ) → n < 2 ^ 64 → IsTrue (same_name name (automatic_name table n)) → drop (length table + 18) name ≡ decimal n
digits-behind name table n fits same =
    let word : List ℕ = codes "sqlite_autoindex_" in
    let mark : List ℕ = codes "_" in
    let place : ℕ = length table + 18 in
    let front : List ℕ = word ++ (table ++ mark) in
    let whole : automatic_name table n ≡ front ++ decimal n = sym (append_assoc word (table ++ mark) (decimal n) ∙ ap (λ (l : List ℕ). word ++ l) (append_assoc table mark (decimal n))) in
    let word_long : length word ≡ 17 = refl in
    let mark_long : length mark ≡ 1 = refl in
    let long : length front ≡ place = omega (arith, length-append word (table ++ mark), length-append table mark, word_long, mark_long) in
    let dropped : drop place (automatic_name table n) ≡ decimal n = ap (drop place) whole ∙ ap (λ (k : ℕ). drop k (front ++ decimal n)) (sym long) ∙ drop-append_seam front (decimal n) in
    let lower : str_to_ascii_lowercase name ≡ str_to_ascii_lowercase (automatic_name table n) = (bytes_decides (str_to_ascii_lowercase name) (str_to_ascii_lowercase (automatic_name table n))).0 same in
    same-digits (drop place name) (decimal n) (decimal_is_IsNumeral n fits).0.1
    (sym (drop-map to_ascii_lowercase place name) ∙ ap (drop place) lower ∙ drop-map to_ascii_lowercase place (automatic_name table n) ∙ ap (map to_ascii_lowercase) dropped)

module _ (row : SchemaRow) where
  abbrev pub is_named : ℕ → Bool
  is_named n = same_name row.name (automatic_name row.table n)

  abbrev Keys : Type 0
  Keys = List (List (ℕ × Collation))

  -- no number from one on is that of the name
  pub columns-none : (from : ℕ) (keys : Keys) → ((m : ℕ) → from ≤ m → m < from + length keys → is_named m ≡ false) → automatic_columns row from keys ≡ None
  columns-none from [] none = refl
  columns-none from (columns ∷ keys) none =
      ap (λ (b : Bool). if b then Some columns else automatic_columns row (suc from) keys) (none from (omega arith) (omega arith))
      ∙ columns-none (suc from) keys (λ m low high. none m (omega (arith, low)) (omega (arith, high)))

  -- one is, and none before
  pub columns-at : (from i : ℕ) (keys : Keys) → i < length keys → is_named (from + i) ≡ true → ((m : ℕ) → from ≤ m → m < from + i → is_named m ≡ false) → automatic_columns row from keys ≡ slice_get keys i
  columns-at from i [] less has none = absurd (omega (arith, less))
  columns-at from zero (columns ∷ keys) less has none =
      let here : from + 0 ≡ from = omega arith in
      ap (λ (b : Bool). if b then Some columns else automatic_columns row (suc from) keys) (subst (λ (n : ℕ). is_named n ≡ true) here has)
  columns-at from (suc i) (columns ∷ keys) less has none =
      let there : from + suc i ≡ suc from + i = omega arith in
      ap (λ (b : Bool). if b then Some columns else automatic_columns row (suc from) keys) (none from (omega arith) (omega arith))
      ∙ columns-at (suc from) i keys (omega (arith, less)) (subst (λ (n : ℕ). is_named n ≡ true) there has) (λ m low high. none m (omega (arith, low)) (omega (arith, high)))

  false-is : (b : Bool) → (b ≡ true → ⊥) → b ≡ false
  false-is true not = absurd (not refl)
  false-is false not = refl

  -- the name is none of a table's automatic indexes
  pub not-automatic : (keys : Keys) → ((m : ℕ) → 1 ≤ m → m ≤ length keys → is_named m ≡ true → ⊥) → automatic_columns row 1 keys ≡ None
  not-automatic keys none = columns-none 1 keys (λ m low high. false-is (is_named m) (none m low (omega (arith, high))))

  module _ (keys : Keys) (number i : ℕ) (place : number ≡ 1 + i) (within : number ≤ length keys) (only : (m : ℕ) → 1 ≤ m → m ≤ length keys → is_named m ≡ true → number ≡ m) where
    -- it is that of the only number that it can be
    pub numbered-is : is_named number ≡ true → automatic_columns row 1 keys ≡ slice_get keys i
    numbered-is has =
        columns-at 1 i keys (omega (arith, place, within)) (subst (λ (n : ℕ). is_named n ≡ true) place has)
        (λ m low high. false-is (is_named m) (λ is. let same : number ≡ m = only m low (omega (arith, high, place, within)) is in omega (arith, same, high, place)))

    -- it is not, and so none
    pub numbered-not : is_named number ≡ false → automatic_columns row 1 keys ≡ None
    numbered-not not = not-automatic keys (λ m low high is. true≢false (sym is ∙ subst (λ (n : ℕ). is_named n ≡ false) (only m low high is) not))
