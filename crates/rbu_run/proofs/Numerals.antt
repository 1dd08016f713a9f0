-- Words that are numbers without sign or leading zero.
use Rattle.std.proofs.Common.{◌≡◌, ◌≢◌, ℕ, zero, suc, ◌+◌, ◌/◌, ◌%◌, ◌^◌, ◌<◌, ◌≤◌, List, [], ◌∷◌, ◌++◌, length, get_or, Result, Ok, Err, IfOk, string_bytes, String, Global, ℤ, pos, negsuc, refl, sym, ap, ◌∙◌, subst, arith, lit<, length-append}
use lib.Signed.{mag}
use mir.Syntax.{w64}
use mir.Val.{SFits}
use Rattle.std.specs.Fmt.{decimal, signed_decimal}
use Rattle.std.specs.Result.{OkIff}
use Rattle.std.specs.Str.Parse.{AllDigits, digits_value, ParsesUnsigned}
use Rattle.std.proofs.lemmas.Str.Parse.{IsNumeralModel, numerals_by_value, tells_digits, parse_plain}
use Rattle.std.proofs.lemmas.Fmt.{decimal-digits_value, decimal_by_steps, parse-decimal, length-decimal-le}

IsNumeralModel-digits : IsNumeralModel (AllDigits 10) (digits_value 10)
IsNumeralModel-digits = numerals_by_value (AllDigits 10) tells_digits

-- the first digit of a number is no sign, and 0 only in 0 itself
record StartsPlain (n : ℕ) (ds : List ℕ) : Type 0 where
  some : 0 < length ds
  digit : 48 ≤ get_or ds 0 0
  leading : 0 < n → 48 < get_or ds 0 0
  zero : n ≡ 0 → length ds ≡ 1

first-append : (xs ys : List ℕ) → 0 < length xs → get_or (xs ++ ys) 0 0 ≡ get_or xs 0 0
first-append [] ys h = absurd (omega arith)
first-append (x ∷ xs) ys h = refl

StartsPlain-one_digit : (n : ℕ) → n < 10 → StartsPlain n ((48 + n) ∷ [])
StartsPlain-one_digit n h = record { some = omega arith; digit = omega arith; leading = λ p. omega arith; zero = λ p. refl }

StartsPlain-one_more : (n : ℕ) (ds : List ℕ) → 10 ≤ n → StartsPlain (n / 10) ds → StartsPlain n (ds ++ ((48 + n % 10) ∷ []))
StartsPlain-one_more n ds h s =
    let first = first-append ds ((48 + n % 10) ∷ []) s.some in
    let high : 0 < n / 10 = omega arith in
    let lead = s.leading high in
    record {
      some = simp length-append (omega arith);
      digit = rw first s.digit;
      leading = λ p. rw first lead;
      zero = λ p. absurd (omega arith);
    }

StartsPlain-decimal : (n : ℕ) → n < 2 ^ 64 → StartsPlain n (decimal n)
StartsPlain-decimal = decimal_by_steps StartsPlain StartsPlain-one_digit StartsPlain-one_more

-- the word has neither a plus sign nor a leading zero
abbrev pub IsPlain : List ℕ → Type 0
IsPlain ds = (get_or ds 0 0 ≢ 43) × (get_or ds 0 0 ≡ 48 → length ds ≤ 1)

StartsPlain-zero_alone : (n : ℕ) (ds : List ℕ) → StartsPlain n ds → get_or ds 0 0 ≡ 48 → length ds ≤ 1
StartsPlain-zero_alone zero ds s e = omega (arith, s.zero refl)
StartsPlain-zero_alone (suc n) ds s e = absurd (omega (arith, s.leading (omega arith), e))

-- a number's digits are plain
pub decimal-is_plain : (n : ℕ) → n < 2 ^ 64 → IsPlain (decimal n)
decimal-is_plain n h =
    let s = StartsPlain-decimal n h in
    ((λ (e : get_or (decimal n) 0 0 ≡ 43). absurd (omega (arith, s.digit, e))), StartsPlain-zero_alone n (decimal n) s)

-- a plain word that is read as a number spells it
pub plain-spells : {E : Type 0} (w : List ℕ) (r : Result ℕ E) (n : ℕ) → ParsesUnsigned 32 10 w r → r ≡ Ok n → IsPlain w → w ≡ decimal n
plain-spells w r n parsed is plain =
    let read : OkIff r (AllDigits 10 w × (0 < length w) × (digits_value 10 w < 2 ^ 32)) (digits_value 10 w) = parse_plain IsNumeralModel-digits 32 w r parsed plain.0 in
    spells (subst (λ x. OkIff x (AllDigits 10 w × (0 < length w) × (digits_value 10 w < 2 ^ 32)) (digits_value 10 w)) is read)
  where
    spells : (AllDigits 10 w × (0 < length w) × (digits_value 10 w < 2 ^ 32)) × (n ≡ digits_value 10 w) → w ≡ decimal n
    spells h =
        let wide : digits_value 10 w < 2 ^ 64 = omega (arith, h.0.2) in
        let leading : get_or w 0 0 ≡ 48 → length w ≡ 1 = λ e. omega (arith, plain.1 e, h.0.1) in
        sym (ap decimal h.1 ∙ decimal-digits_value IsNumeralModel-digits w h.0.0 h.0.1 leading wide)

-- what spells a number is read as it
pub spelled-is_read : {E : Type 0} (w : List ℕ) (r : Result ℕ E) (n : ℕ) → n < 2 ^ 32 → w ≡ decimal n → ParsesUnsigned 32 10 w r → r ≡ Ok n
spelled-is_read w r n h e parsed = parse-decimal 32 n w r h (omega (arith, h)) e parsed

pub spelled-is_plain : (w : List ℕ) (n : ℕ) → n < 2 ^ 32 → w ≡ decimal n → IsPlain w
spelled-is_plain w n h e = subst IsPlain (sym e) (decimal-is_plain n (omega (arith, h)))

-- a number of 64 bits with a sign has at most 20 characters
pub length-signed_decimal : (z : ℤ) → mag z < 2 ^ 63 → length (signed_decimal z) ≤ 20
length-signed_decimal (pos n) h = let e = length-decimal-le 20 n (lit< tt) (omega (arith, h)) (omega (arith, h)) in e
length-signed_decimal (negsuc n) h = let e = length-decimal-le 19 (suc n) (lit< tt) (omega (arith, h)) (omega (arith, h)) in omega (arith, e)

-- so it is with its digits in a text
pub signed_decimal-short_text : {E : Type 0} (z : ℤ) (r : Result (String Global) E) → mag z < 2 ^ 63 → IfOk r (λ text. string_bytes text ≡ signed_decimal z) → IfOk r (λ text. length (string_bytes text) ≤ 20)
signed_decimal-short_text z (Ok text) fits h = rw h (length-signed_decimal z fits)
signed_decimal-short_text z (Err e) fits h = tt

-- a number of 64 bits with a sign, by its distance from 0 or -1
pub mag-fits_64 : (z : ℤ) → mag z < 2 ^ 63 → SFits w64 z
mag-fits_64 (pos n) h = omega (arith, h)
mag-fits_64 (negsuc n) h = omega (arith, h)
