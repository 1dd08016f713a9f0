-- The parts of a number are found where they stand, by taking each off the front of what the one before it left.
use Rattle.std.proofs.Common.{◌≡◌, ℕ, ◌+◌, ◌-◌, ◌<◌, Bool, true, false, ◌&&◌, ◌||◌, cond, eqb, List, [], ◌∷◌, ◌++◌, ◌⊎◌, inl, inr, length, refl, sym, ap, ◌∙◌, subst, eqb-true, append_assoc, arith}
use Rattle.std.proofs.lemmas.Bool.{false≢true, and_parts}
use Rattle.std.proofs.lemmas.Bool.Decides.{nat_tests}
use Rattle.std.proofs.lemmas.List.{append-nil, length-append}
use Rattle.std.proofs.lemmas.List.Folds.{list_all-append}
use Rattle.std.specs.Char.{is_ascii_digit}
use Rattle.std.specs.List.{list_all}
use Rattle.rbu_value.specs.NumericText.{is_space, is_sign, is_exponent_letter, IsOptionalSign, IsDecimal, IsExponent, IsOptionalExponent, IsNumericText}
use Rattle.rbu_value.specs.Scan.{skip_while, skip_one, Stops, Behind, TakesOff, EndsDecimal, EndsExponent}

tail-same : (x y : ℕ) (xs ys : List ℕ) → x ∷ xs ≡ y ∷ ys → xs ≡ ys
tail-same x y xs ys e = cc

-- what is skipped passes
pub skip_while-front : (p : ℕ → Bool) (text : List ℕ) → (front : List ℕ) × (list_all p front ≡ true) × (text ≡ front ++ skip_while p text)
skip_while-front p [] = ([], refl, refl)
skip_while-front p (b ∷ bs) = step (p b) refl (skip_while-front p bs)
  where
    step : (t : Bool) → p b ≡ t → ((front : List ℕ) × (list_all p front ≡ true) × (bs ≡ front ++ skip_while p bs)) → (front : List ℕ) × (list_all p front ≡ true) × (b ∷ bs ≡ front ++ cond t (skip_while p bs) (b ∷ bs))
    step true e h = (b ∷ h.0, ap (λ t. t && list_all p h.0) e ∙ h.1, ap (λ rest. b ∷ rest) h.2)
    step false e h = ([], refl, refl)

-- a front that passes is skipped, where it ends
pub skip_while-all : (p : ℕ → Bool) (front rest : List ℕ) → list_all p front ≡ true → Stops p rest → skip_while p (front ++ rest) ≡ rest
skip_while-all p [] [] h s = refl
skip_while-all p [] (b ∷ bs) h s = ap (λ t. cond t (skip_while p bs) (b ∷ bs)) s
skip_while-all p (x ∷ xs) rest h s =
    let h' = and_parts (p x) (list_all p xs) h in
    ap (λ t. cond t (skip_while p (xs ++ rest)) (x ∷ (xs ++ rest))) h'.0 ∙ skip_while-all p xs rest h'.1 s

-- what `skip_one` leaves is the text, or the text behind a byte that passes
pub skip_one-front : (p : ℕ → Bool) (text : List ℕ) → (text ≡ skip_one p text) ⊎ ((b : ℕ) × (p b ≡ true) × (text ≡ b ∷ skip_one p text))
skip_one-front p [] = inl refl
skip_one-front p (b ∷ bs) = step (p b) refl
  where
    step : (t : Bool) → p b ≡ t → (b ∷ bs ≡ cond t bs (b ∷ bs)) ⊎ ((c : ℕ) × (p c ≡ true) × (b ∷ bs ≡ c ∷ cond t bs (b ∷ bs)))
    step true e = inr (b, e, refl)
    step false e = inl refl

pub skip_one-none : (p : ℕ → Bool) (rest : List ℕ) → Stops p rest → skip_one p rest ≡ rest
skip_one-none p [] s = refl
skip_one-none p (b ∷ bs) s = ap (λ t. cond t bs (b ∷ bs)) s

pub skip_one-some : (p : ℕ → Bool) (b : ℕ) (rest : List ℕ) → p b ≡ true → skip_one p (b ∷ rest) ≡ rest
skip_one-some p b rest e = ap (λ t. cond t rest (b ∷ rest)) e

-- a text stops at more where the test is weaker
pub Stops-weaker : (p q : ℕ → Bool) → ((b : ℕ) → p b ≡ false → q b ≡ false) → (rest : List ℕ) → Stops p rest → Stops q rest
Stops-weaker p q h [] s = tt
Stops-weaker p q h (b ∷ bs) s = h b s

-- a text of bytes that pass one test does not begin with one that passes the other
pub Stops-all : (p q : ℕ → Bool) → ((b : ℕ) → p b ≡ true → q b ≡ false) → (front : List ℕ) → list_all p front ≡ true → (rest : List ℕ) → (0 < length front) ⊎ Stops q rest → Stops q (front ++ rest)
Stops-all p q h [] a rest (inl l) = absurd (omega arith)
Stops-all p q h [] a rest (inr s) = s
Stops-all p q h (x ∷ xs) a rest s = h x (and_parts (p x) (list_all p xs) a).0

-- spaces alone do not begin with what is no space
spaces-stop : (q : ℕ → Bool) → ((b : ℕ) → is_space b ≡ true → q b ≡ false) → (spaces : List ℕ) → list_all is_space spaces ≡ true → Stops q spaces
spaces-stop q h [] a = tt
spaces-stop q h (x ∷ xs) a = h x (and_parts (is_space x) (list_all is_space xs) a).0

-- ---- signs

pub sign-front : (text : List ℕ) → Behind IsOptionalSign text (skip_one is_sign text)
sign-front text =
    elim (skip_one-front is_sign text) [ inl e ↦ ([], inl refl, e) | inr w ↦ (w.0 ∷ [], inr (w.0, w.1, refl), w.2) ]

pub sign-only : (sign rest : List ℕ) → IsOptionalSign sign → Stops is_sign rest → skip_one is_sign (sign ++ rest) ≡ rest
sign-only sign rest (inl e) s = ap (λ front. skip_one is_sign (front ++ rest)) e ∙ skip_one-none is_sign rest s
sign-only sign rest (inr w) s = ap (λ front. skip_one is_sign (front ++ rest)) w.2 ∙ skip_one-some is_sign w.0 rest w.1

-- ---- decimals

abbrev pub is_point : ℕ → Bool
is_point b = eqb b 46

no_digit_or_point-no_digit : (b : ℕ) → (is_ascii_digit b || is_point b) ≡ false → is_ascii_digit b ≡ false
no_digit_or_point-no_digit b h = grind (arith, nat_tests)

no_digit_or_point-no_point : (b : ℕ) → (is_ascii_digit b || is_point b) ≡ false → is_point b ≡ false
no_digit_or_point-no_point b h = grind (arith, nat_tests)

-- the rests behind the whole part, the point and the fraction
pub record IsCut (text behind_whole fraction rest : List ℕ) : Type 0 where
  pub first : behind_whole ≡ skip_while is_ascii_digit text
  pub second : fraction ≡ skip_one is_point behind_whole
  pub third : rest ≡ skip_while is_ascii_digit fraction

abbrev digits : List ℕ → List ℕ → List ℕ → List ℕ → ℕ
digits text behind_whole fraction rest = (length text - length behind_whole) + (length fraction - length rest)

IsCut-same : (text w f r : List ℕ) → IsCut text w f r → (w' f' other : List ℕ) → skip_while is_ascii_digit text ≡ w' → skip_one is_point w' ≡ f' → skip_while is_ascii_digit f' ≡ other → (w ≡ w') × (f ≡ f') × (r ≡ other)
IsCut-same text w f r cut w' f' other a b c =
    let first : w ≡ w' = cut.first ∙ a in
    let second : f ≡ f' = cut.second ∙ ap (skip_one is_point) first ∙ b in
    (first, second, cut.third ∙ ap (skip_while is_ascii_digit) second ∙ c)

EndsDecimal-no_digit : (rest : List ℕ) → EndsDecimal rest → Stops is_ascii_digit rest
EndsDecimal-no_digit rest ends = Stops-weaker (λ b. is_ascii_digit b || is_point b) is_ascii_digit no_digit_or_point-no_digit rest ends

EndsDecimal-no_point : (rest : List ℕ) → EndsDecimal rest → Stops is_point rest
EndsDecimal-no_point rest ends = Stops-weaker (λ b. is_ascii_digit b || is_point b) is_point no_digit_or_point-no_point rest ends

-- a decimal without a point is cut behind its digits
plain_decimal-only : (text w f r other front : List ℕ) → IsCut text w f r → text ≡ front ++ other → list_all is_ascii_digit front ≡ true → 0 < length front → EndsDecimal other → (r ≡ other) × (0 < digits text w f r)
plain_decimal-only text w f r other front cut e all some ends =
    let a : skip_while is_ascii_digit text ≡ other = ap (skip_while is_ascii_digit) e ∙ skip_while-all is_ascii_digit front other all (EndsDecimal-no_digit other ends) in
    let c : skip_while is_ascii_digit other ≡ other = skip_while-all is_ascii_digit [] other refl (EndsDecimal-no_digit other ends) in
    let at = IsCut-same text w f r cut other other other a (skip_one-none is_point other (EndsDecimal-no_point other ends)) c in
    let whole : length text ≡ length front + length other = ap length e ∙ length-append front other in
    (at.2, omega (arith, ap length at.0, ap length at.1, ap length at.2))

-- a decimal with a point is cut behind its whole part, its point and its fraction
pointed_decimal-only : (text w f r other whole fraction : List ℕ) → IsCut text w f r → text ≡ whole ++ (46 ∷ (fraction ++ other)) → list_all is_ascii_digit whole ≡ true → list_all is_ascii_digit fraction ≡ true → 0 < length whole + length fraction → EndsDecimal other → (r ≡ other) × (0 < digits text w f r)
pointed_decimal-only text w f r other whole fraction cut e first second some ends =
    let a : skip_while is_ascii_digit text ≡ 46 ∷ (fraction ++ other) = ap (skip_while is_ascii_digit) e ∙ skip_while-all is_ascii_digit whole (46 ∷ (fraction ++ other)) first refl in
    let c : skip_while is_ascii_digit (fraction ++ other) ≡ other = skip_while-all is_ascii_digit fraction other second (EndsDecimal-no_digit other ends) in
    let at = IsCut-same text w f r cut (46 ∷ (fraction ++ other)) (fraction ++ other) other a refl c in
    let all : length text ≡ length whole + length (46 ∷ (fraction ++ other)) = ap length e ∙ length-append whole (46 ∷ (fraction ++ other)) in
    (at.2, omega (arith, ap length at.0, ap length at.1, ap length at.2, length-append fraction other))

pub decimal-only : (text w f r other : List ℕ) → IsCut text w f r → Behind IsDecimal text other → EndsDecimal other → (r ≡ other) × (0 < digits text w f r)
decimal-only text w f r other cut (decimal, is, e) ends =
    elim is.spelled [
      | inl plain ↦ plain_decimal-only text w f r other (is.whole ++ is.fraction) cut (e ∙ ap (λ front. front ++ other) plain) is.digits is.some ends
      | inr pointed ↦
          let parts = and_parts (list_all is_ascii_digit is.whole) (list_all is_ascii_digit is.fraction) (sym (list_all-append is_ascii_digit is.whole is.fraction) ∙ is.digits) in
          pointed_decimal-only text w f r other is.whole is.fraction cut (e ∙ ap (λ front. front ++ other) pointed ∙ append_assoc is.whole (46 ∷ is.fraction) other) parts.0 parts.1 (omega (arith, is.some, length-append is.whole is.fraction)) ends
    ]

-- what is cut is a decimal, where it has a digit
pub decimal-front : (text w f r : List ℕ) → IsCut text w f r → 0 < digits text w f r → Behind IsDecimal text r
decimal-front text w f r cut some =
    let whole = skip_while-front is_ascii_digit text in
    let fraction = skip_while-front is_ascii_digit f in
    let e : text ≡ whole.0 ++ w = whole.2 ∙ ap (λ rest. whole.0 ++ rest) (sym cut.first) in
    let e' : f ≡ fraction.0 ++ r = fraction.2 ∙ ap (λ rest. fraction.0 ++ rest) (sym cut.third) in
    let all : list_all is_ascii_digit (whole.0 ++ fraction.0) ≡ true = list_all-append is_ascii_digit whole.0 fraction.0 ∙ ap (λ t. t && list_all is_ascii_digit fraction.0) whole.1 ∙ fraction.1 in
    let size : length text ≡ length whole.0 + length w = ap length e ∙ length-append whole.0 w in
    let size' : length f ≡ length fraction.0 + length r = ap length e' ∙ length-append fraction.0 r in
    let digit : 0 < length (whole.0 ++ fraction.0) = omega (arith, length-append whole.0 fraction.0) in
    elim (skip_one-front is_point w) [
      | inl plain ↦
          let same : w ≡ fraction.0 ++ r = plain ∙ sym cut.second ∙ e' in
          (whole.0 ++ fraction.0, record { whole = whole.0; fraction = fraction.0; digits = all; some = digit; spelled = inl refl }, e ∙ ap (λ rest. whole.0 ++ rest) same ∙ sym (append_assoc whole.0 fraction.0 r))
      | inr pointed ↦
          let same : w ≡ 46 ∷ (fraction.0 ++ r) = pointed.2 ∙ (λ i. eqb-true pointed.0 46 pointed.1 i ∷ (sym cut.second ∙ e') i) in
          (whole.0 ++ (46 ∷ fraction.0), record { whole = whole.0; fraction = fraction.0; digits = all; some = digit; spelled = inr refl }, e ∙ ap (λ rest. whole.0 ++ rest) same ∙ sym (append_assoc whole.0 (46 ∷ fraction.0) r))
    ]

-- ---- exponents

no_digit_or_letter-no_letter : (b : ℕ) → (is_ascii_digit b || is_exponent_letter b) ≡ false → is_exponent_letter b ≡ false
no_digit_or_letter-no_letter b h = grind (arith, nat_tests)

no_digit_or_letter-no_digit : (b : ℕ) → (is_ascii_digit b || is_exponent_letter b) ≡ false → is_ascii_digit b ≡ false
no_digit_or_letter-no_digit b h = grind (arith, nat_tests)

digit-no_sign : (b : ℕ) → is_ascii_digit b ≡ true → is_sign b ≡ false
digit-no_sign b h = grind (arith, nat_tests)

-- an exponent is found behind its letter and its sign
pub exponent-only : (text power rest other : List ℕ) (b : ℕ) (behind : List ℕ) → text ≡ b ∷ behind → power ≡ skip_one is_sign behind → rest ≡ skip_while is_ascii_digit power → Behind IsExponent text other → EndsExponent other → (rest ≡ other) × (length rest < length power)
exponent-only text power rest other b behind e p r (front, is, e') ends =
    let same : behind ≡ is.sign ++ (is.power ++ other) = tail-same _ _ _ _ (sym e ∙ e' ∙ ap (λ x. x ++ other) is.spelled ∙ ap (λ x. is.letter ∷ x) (append_assoc is.sign is.power other)) in
    let unsigned : power ≡ is.power ++ other = p ∙ ap (skip_one is_sign) same ∙ sign-only is.sign (is.power ++ other) is.signed (Stops-all is_ascii_digit is_sign digit-no_sign is.power is.digits other (inl is.some)) in
    let left : rest ≡ other = r ∙ ap (skip_while is_ascii_digit) unsigned ∙ skip_while-all is_ascii_digit is.power other is.digits (Stops-weaker (λ c. is_ascii_digit c || is_exponent_letter c) is_ascii_digit no_digit_or_letter-no_digit other ends) in
    (left, omega (arith, is.some, ap length unsigned ∙ length-append is.power other, ap length left))

-- a letter, a sign or none and digits are an exponent
pub exponent-front : (text power rest : List ℕ) (b : ℕ) (behind : List ℕ) → text ≡ b ∷ behind → is_exponent_letter b ≡ true → power ≡ skip_one is_sign behind → rest ≡ skip_while is_ascii_digit power → length rest < length power → Behind IsOptionalExponent text rest
exponent-front text power rest b behind e letter p r some =
    let sign = sign-front behind in
    let digit = skip_while-front is_ascii_digit power in
    let e1 : behind ≡ sign.0 ++ power = sign.2 ∙ ap (λ x. sign.0 ++ x) (sym p) in
    let e2 : power ≡ digit.0 ++ rest = digit.2 ∙ ap (λ x. digit.0 ++ x) (sym r) in
    let size : length power ≡ length digit.0 + length rest = ap length e2 ∙ length-append digit.0 rest in
    let whole : text ≡ (b ∷ (sign.0 ++ digit.0)) ++ rest = e ∙ ap (λ x. b ∷ x) (e1 ∙ ap (λ x. sign.0 ++ x) e2 ∙ sym (append_assoc sign.0 digit.0 rest)) in
    (b ∷ (sign.0 ++ digit.0), inr (record { letter = b; sign = sign.0; power = digit.0; e = letter; signed = sign.1; digits = digit.1; some = omega arith; spelled = refl }), whole)

-- no exponent stands at the front of a text that begins with another byte
pub exponent-needs_letter : (text other : List ℕ) → Stops is_exponent_letter text → Behind IsExponent text other → ⊥
exponent-needs_letter text other s (front, is, e) =
    let s' : Stops is_exponent_letter ((is.letter ∷ (is.sign ++ is.power)) ++ other) = subst (Stops is_exponent_letter) (e ∙ ap (λ x. x ++ other) is.spelled) s in
    false≢true (sym s' ∙ is.e)

-- where no exponent has digits, none is taken
pub exponent-none : (text : List ℕ) → ((other : List ℕ) → Behind IsExponent text other → EndsExponent other → ⊥) → TakesOff IsOptionalExponent EndsExponent text text
exponent-none text none = record { front = ([], inl refl, refl); only = λ other b ends. only other b ends }
  where
    only : (other : List ℕ) → Behind IsOptionalExponent text other → EndsExponent other → text ≡ other
    only other (front, inl e, whole) ends = whole ∙ ap (λ x. x ++ other) e
    only other (front, inr is, whole) ends = absurd (none other (front, is, whole) ends)

-- an exponent that has digits is taken
pub exponent-some : (text power rest : List ℕ) (b : ℕ) (behind : List ℕ) → text ≡ b ∷ behind → is_exponent_letter b ≡ true → power ≡ skip_one is_sign behind → rest ≡ skip_while is_ascii_digit power → length rest < length power → TakesOff IsOptionalExponent EndsExponent text rest
exponent-some text power rest b behind e letter p r some = record { front = exponent-front text power rest b behind e letter p r some; only = λ other b' ends. only other b' ends }
  where
    only : (other : List ℕ) → Behind IsOptionalExponent text other → EndsExponent other → rest ≡ other
    only other (front, inl nothing, whole) ends =
        let begins : Stops (λ c. is_ascii_digit c || is_exponent_letter c) (b ∷ behind) = subst EndsExponent (sym (whole ∙ ap (λ x. x ++ other) nothing) ∙ e) ends in
        absurd (false≢true (sym (no_digit_or_letter-no_letter b begins) ∙ letter))
    only other (front, inr is, whole) ends = (exponent-only text power rest other b behind e p r (front, is, whole) ends).0

-- ---- numbers

space-no_digit_or_point : (b : ℕ) → is_space b ≡ true → (is_ascii_digit b || is_point b) ≡ false
space-no_digit_or_point b h = grind (arith, nat_tests)

space-no_digit_or_letter : (b : ℕ) → is_space b ≡ true → (is_ascii_digit b || is_exponent_letter b) ≡ false
space-no_digit_or_letter b h = grind (arith, nat_tests)

letter-no_digit_or_point : (b : ℕ) → is_exponent_letter b ≡ true → (is_ascii_digit b || is_point b) ≡ false
letter-no_digit_or_point b h = grind (arith, nat_tests)

sign-no_space : (b : ℕ) → is_sign b ≡ true → is_space b ≡ false
sign-no_space b h = grind (arith, nat_tests)

digit-no_space : (b : ℕ) → is_ascii_digit b ≡ true → is_space b ≡ false
digit-no_space b h = grind (arith, nat_tests)

-- a decimal begins with a digit or a point
decimal-begins : (p : ℕ → Bool) → ((b : ℕ) → is_ascii_digit b ≡ true → p b ≡ false) → p 46 ≡ false → (decimal rest : List ℕ) → IsDecimal decimal → Stops p (decimal ++ rest)
decimal-begins p digit point decimal rest is =
    elim is.spelled [
      | inl plain ↦ subst (λ x. Stops p (x ++ rest)) (sym plain) (Stops-all is_ascii_digit p digit (is.whole ++ is.fraction) is.digits rest (inl is.some))
      | inr pointed ↦
          let parts = and_parts (list_all is_ascii_digit is.whole) (list_all is_ascii_digit is.fraction) (sym (list_all-append is_ascii_digit is.whole is.fraction) ∙ is.digits) in
          subst (λ x. Stops p (x ++ rest)) (sym pointed) (subst (Stops p) (sym (append_assoc is.whole (46 ∷ is.fraction) rest)) (Stops-all is_ascii_digit p digit is.whole parts.0 (46 ∷ (is.fraction ++ rest)) (inr point)))
    ]

-- a sign and what begins with no space begin with none
sign-begins : (sign rest : List ℕ) → IsOptionalSign sign → Stops is_space rest → Stops is_space (sign ++ rest)
sign-begins sign rest (inl e) s = subst (λ x. Stops is_space (x ++ rest)) (sym e) s
sign-begins sign rest (inr w) s = subst (λ x. Stops is_space (x ++ rest)) (sym w.2) (sign-no_space w.0 w.1)

-- what follows a decimal in a number ends it
decimal-ends_in_number : (exponent after : List ℕ) → IsOptionalExponent exponent → list_all is_space after ≡ true → EndsDecimal (exponent ++ after)
decimal-ends_in_number exponent after (inl e) spaces =
    subst (λ x. EndsDecimal (x ++ after)) (sym e) (spaces-stop (λ b. is_ascii_digit b || is_point b) space-no_digit_or_point after spaces)
decimal-ends_in_number exponent after (inr is) spaces = subst (λ x. EndsDecimal (x ++ after)) (sym is.spelled) (letter-no_digit_or_point is.letter is.e)

-- a number has its parts where they are looked for
pub record HasParts (text unsigned : List ℕ) : Type 0 where
  pub behind_decimal : List ℕ
  pub after : List ℕ
  pub decimal : Behind IsDecimal unsigned behind_decimal
  pub decimal_ends : EndsDecimal behind_decimal
  pub exponent : Behind IsOptionalExponent behind_decimal after
  pub exponent_ends : EndsExponent after
  pub spaces : skip_while is_space after ≡ []

pub number-has_parts : (text unspaced unsigned : List ℕ) → unspaced ≡ skip_while is_space text → unsigned ≡ skip_one is_sign unspaced → IsNumericText text → HasParts text unsigned
number-has_parts text unspaced unsigned u s is =
    let behind = is.exponent ++ is.after in
    let number = is.decimal ++ behind in
    let begins : Stops is_space (is.sign ++ number) = sign-begins is.sign number is.signed (decimal-begins is_space digit-no_space refl is.decimal behind is.number) in
    let first : unspaced ≡ is.sign ++ number = u ∙ ap (skip_while is_space) is.whole ∙ skip_while-all is_space is.before (is.sign ++ number) is.spaces_before begins in
    let second : unsigned ≡ number = s ∙ ap (skip_one is_sign) first ∙ sign-only is.sign number is.signed (decimal-begins is_sign digit-no_sign refl is.decimal behind is.number) in
    record {
      behind_decimal = behind;
      after = is.after;
      decimal = (is.decimal, is.number, second);
      decimal_ends = decimal-ends_in_number is.exponent is.after is.power is.spaces_after;
      exponent = (is.exponent, is.power, refl);
      exponent_ends = spaces-stop (λ b. is_ascii_digit b || is_exponent_letter b) space-no_digit_or_letter is.after is.spaces_after;
      spaces = ap (skip_while is_space) (sym (append-nil is.after)) ∙ skip_while-all is_space is.after [] is.spaces_after tt;
    }

-- the parts that were taken off make a number
pub number-from_parts : (text unspaced unsigned behind_decimal after : List ℕ) → unspaced ≡ skip_while is_space text → unsigned ≡ skip_one is_sign unspaced → Behind IsDecimal unsigned behind_decimal → Behind IsOptionalExponent behind_decimal after → skip_while is_space after ≡ [] → IsNumericText text
number-from_parts text unspaced unsigned behind_decimal after u s (decimal, is_decimal, d) (exponent, is_exponent, p) empty =
    let before = skip_while-front is_space text in
    let sign = sign-front unspaced in
    let last = skip_while-front is_space after in
    let e4 : after ≡ last.0 = last.2 ∙ ap (λ x. last.0 ++ x) empty ∙ append-nil last.0 in
    let e3 : unsigned ≡ decimal ++ (exponent ++ last.0) = d ∙ ap (λ x. decimal ++ x) (p ∙ ap (λ x. exponent ++ x) e4) in
    let e2 : unspaced ≡ sign.0 ++ (decimal ++ (exponent ++ last.0)) = sign.2 ∙ ap (λ x. sign.0 ++ x) (sym s ∙ e3) in
    record {
      before = before.0;
      sign = sign.0;
      decimal = decimal;
      exponent = exponent;
      after = last.0;
      whole = before.2 ∙ ap (λ x. before.0 ++ x) (sym u ∙ e2);
      spaces_before = before.1;
      signed = sign.1;
      number = is_decimal;
      power = is_exponent;
      spaces_after = last.1;
    }
