-- A text whose first tokens are those of another, and go on with lexemes.
use Rattle.std.proofs.Common.{◌≡◌, ℕ, suc, ◌+◌, ◌-◌, ◌<◌, ◌==◌, ◌&&◌, ◌||◌, Bool, true, false, ◌⊎◌, if◌then◌else◌, List, [], ◌∷◌, ◌++◌, length, get_or, take, drop, refl, sym, ap, ◌∙◌, subst, inl, inr, arith, length-append, append_assoc}
use Rattle.std.proofs.Math.Path.{subst⁻¹}
use Rattle.std.proofs.Math.Bool.{or-false, and-false}
use Rattle.std.proofs.Math.Seq.{drop-append_seam, take-append_seam}
use Rattle.std.proofs.lemmas.Bool.{eqb-true}
use Rattle.std.proofs.lemmas.List.{append-nil}
use Rattle.std.specs.Prelude.{Some, None, IsTrue, IsFalse, not, filter, slice_range, nat_le}
use Rattle.std.specs.Char.{is_ascii_digit}
use Rattle.std.specs.Int.{is_in_range}
use Rattle.std.specs.List.{AllByRecursion, AllZip}
use Rattle.schema_spec.specs.declared.token.TokenKind.{TokenKind}
use Rattle.schema_spec.specs.declared.token.TokenKind.TheVariants.{Space, LineComment, BlockComment, Word, Number, Quoted, Bracketed, Unclosed, Sign}
use Rattle.schema_spec.specs.declared.token.Token.{Token}
use Rattle.schema_spec.specs.Parts.{doubled, NotFirst, IsClosedOrNot}
use Rattle.schema_spec.specs.Tokens.{is_white, is_word_byte, is_quote, begins_number, opening, goes_on, past, past_quoted, behind_first, behind_close, closed, part_of, first_part, is_token, AreParts, tokens_of}
use Rattle.schema_spec.specs.TokensLaws.{past-closed, past-unclosed, quoted-closed_or_not, tokens-are, tokens-one}
use Rattle.grammar_laws.specs.Misfits.{end_of}
use Rattle.grammar_laws.specs.Lexemes.{Lexeme, Opens, is_dark, IsLexeme, is_whole, IsClosed, IsSpelled, GoesOn}

-- a kind that ends before a space
abbrev is_closed : TokenKind → Bool
is_closed Word = true
is_closed Number = true
is_closed Quoted = true
is_closed Bracketed = true
is_closed Sign = true
is_closed _ = false

token-closed : (kind : TokenKind) → IsTrue (is_token kind) → IsTrue (is_whole kind) → is_closed kind ≡ true
token-closed Space e f = absurd (cc)
token-closed LineComment e f = absurd (cc)
token-closed BlockComment e f = absurd (cc)
token-closed Unclosed e f = absurd (cc)
token-closed Word e f = refl
token-closed Number e f = refl
token-closed Quoted e f = refl
token-closed Bracketed e f = refl
token-closed Sign e f = refl

-- the first byte is the same
abbrev SameFirst : List ℕ → List ℕ → Type 0
SameFirst [] more = ⊥
SameFirst (b ∷ left) [] = ⊥
SameFirst (b ∷ left) (c ∷ more) = b ≡ c

-- what comes behind a part in another text
abbrev Follows : TokenKind → List ℕ → List ℕ → Type 0
Follows kind left more = SameFirst left more ⊎ ((is_closed kind ≡ true) × Opens more)

abbrev Ends : (ℕ → ℕ → Bool) → List ℕ → List ℕ → Type 0
Ends p left more = SameFirst left more ⊎ (((b : ℕ) → p b 32 ≡ false) × Opens more)

-- what is dropped at the front of a text, by bytes that go on, and what follows it elsewhere
record Dropped (p : ℕ → ℕ → Bool) (before : ℕ) (text : List ℕ) : Type 0 where
  run : List ℕ
  whole : text ≡ run ++ past p before text
  again : (more : List ℕ) → Ends p (past p before text) more → past p before (run ++ more) ≡ more
  first : run ≡ [] → (p before (get_or text 0 0) ≡ false) ⊎ (text ≡ [])

stops-before : (p : ℕ → ℕ → Bool) (before : ℕ) (left more : List ℕ) → ((b : ℕ) (rest : List ℕ) → left ≡ b ∷ rest → p before b ≡ false) → Ends p left more → past p before more ≡ more
stops-before p before [] more stop (inl h) = absurd h
stops-before p before (b ∷ left) [] stop (inl h) = absurd h
stops-before p before (b ∷ left) (c ∷ more) stop (inl h) = ap (λ t. if t then past p c more else (c ∷ more)) (ap (p before) (sym h) ∙ stop b left refl)
stops-before p before left [] stop (inr h) = refl
stops-before p before left (c ∷ more) stop (inr h) = ap (λ t. if t then past p c more else (c ∷ more)) (ap (p before) h.1 ∙ h.0 before)

dropped : (p : ℕ → ℕ → Bool) (before : ℕ) (text : List ℕ) → Dropped p before text
dropped p before [] = record { run = []; whole = refl; again = λ more h. stops-before p before [] more (λ b rest e. absurd (cc)) h; first = λ e. inr refl }
dropped p before (b ∷ text) = by_test (p before b) refl (dropped p b text)
  where
    by_test : (t : Bool) → p before b ≡ t → Dropped p b text → Dropped p before (b ∷ text)
    by_test true e rest =
        let is : past p before (b ∷ text) ≡ past p b text = ap (λ t. if t then past p b text else (b ∷ text)) e in
        record {
          run = b ∷ rest.run;
          whole = ap (λ x. b ∷ x) rest.whole ∙ ap (λ x. b ∷ (rest.run ++ x)) (sym is);
          again = λ more h. ap (λ t. if t then past p b (rest.run ++ more) else (b ∷ (rest.run ++ more))) e ∙ rest.again more (subst (λ x. Ends p x more) is h);
          first = λ h. absurd (cc);
        }
    by_test false e rest =
        let is : past p before (b ∷ text) ≡ b ∷ text = ap (λ t. if t then past p b text else (b ∷ text)) e in
        record {
          run = [];
          whole = sym is;
          again = λ more h. stops-before p before (b ∷ text) more (λ c others same. let one : b ≡ c = cc in subst (λ x. p before x ≡ false) one e) (subst (λ x. Ends p x more) is h);
          first = λ h. inl e;
        }

-- a kind that goes on does not go on with a space, but for white space, comments and what stands in square brackets
no_space : (kind : TokenKind) → is_closed kind ≡ true → (kind ≡ Bracketed → ⊥) → (b : ℕ) → goes_on kind b 32 ≡ false
unfolding is_word_byte
no_space Word e other b = refl
no_space Number e other b = and-false-32 (b == 101 || b == 69)
  where
    and-false-32 : (t : Bool) → (false && t) ≡ false
    and-false-32 t = refl
no_space Quoted e other b = refl
no_space Bracketed e other b = absurd (other refl)
no_space Sign e other b = refl
no_space Space e other b = absurd (cc)
no_space LineComment e other b = absurd (cc)
no_space BlockComment e other b = absurd (cc)
no_space Unclosed e other b = absurd (cc)

-- what begins at a byte, by its tests
abbrev by_tests : Bool → Bool → Bool → Bool → Bool → Bool → Bool → TokenKind
by_tests white dash slash quote bracket number word =
    if white then Space else (if dash then LineComment else (if slash then BlockComment else (if quote then Quoted else (if bracket then Bracketed else (if number then Number else (if word then Word else Sign))))))

-- a kind of one byte or more that is no comment
abbrev is_short : TokenKind → Bool
is_short Word = true
is_short Number = true
is_short Sign = true
is_short _ = false

by_tests-same : (white dash slash quote bracket number word : Bool) → is_short (by_tests white dash slash quote bracket number word) ≡ true
    → by_tests white false false quote bracket number word ≡ by_tests white dash slash quote bracket number word
by_tests-same true dash slash quote bracket number word e = absurd (cc)
by_tests-same false true slash quote bracket number word e = absurd (cc)
by_tests-same false false true quote bracket number word e = absurd (cc)
by_tests-same false false false quote bracket number word e = refl

by_tests-number : (white dash slash quote bracket word : Bool) → is_short (by_tests white dash slash quote bracket true word) ≡ true → by_tests white dash slash quote bracket true word ≡ Number
by_tests-number true dash slash quote bracket word e = absurd (cc)
by_tests-number false true slash quote bracket word e = absurd (cc)
by_tests-number false false true quote bracket word e = absurd (cc)
by_tests-number false false false true bracket word e = absurd (cc)
by_tests-number false false false false true word e = absurd (cc)
by_tests-number false false false false false word e = refl

digit-goes : (b n : ℕ) → is_ascii_digit n ≡ true → goes_on Number b n ≡ true
unfolding is_word_byte
digit-goes b n e =
    ap (λ t. (((((((t || is_in_range 65 90 n) || is_in_range 97 122 n) || n == 95) || n == 36) || nat_le 128 n) || n == 46) || ((n == 43 || n == 45) && (b == 101 || b == 69)))) e

and-second : (a b : Bool) → (a && b) ≡ true → b ≡ true
and-second true b h = h
and-second false b h = absurd (cc)

or-first : (a b : Bool) → (a || b) ≡ false → a ≡ false
or-first true b h = absurd (cc)
or-first false b h = refl

-- a number begins with a digit, where it does not go on
digit-first : (b n : ℕ) → begins_number b n ≡ true → goes_on Number b n ≡ false → is_ascii_digit b ≡ true
unfolding begins_number
digit-first b n e f = by_digit (is_ascii_digit b) refl
  where
    by_digit : (t : Bool) → is_ascii_digit b ≡ t → t ≡ true
    by_digit true h = refl
    by_digit false h =
        let point : (b == 46 && is_ascii_digit n) ≡ true = sym (ap (λ t. t || (b == 46 && is_ascii_digit n)) h) ∙ e in
        let wrong = sym (digit-goes b n (and-second (b == 46) (is_ascii_digit n) point)) ∙ f in absurd (cc)

number-alone : (b m : ℕ) → is_ascii_digit m ≡ false → begins_number b m ≡ is_ascii_digit b
unfolding begins_number
number-alone b m e = ap (λ t. is_ascii_digit b || (b == 46 && t)) e ∙ ap (λ t. is_ascii_digit b || t) (and-false (b == 46)) ∙ or-false (is_ascii_digit b)

number-first : (b n : ℕ) → begins_number b n ≡ false → is_ascii_digit b ≡ false
unfolding begins_number
number-first b n e = or-first (is_ascii_digit b) (b == 46 && is_ascii_digit n) e

-- a short part that does not go on is the same before another byte that is no digit and opens no comment
opening-alone : (b n m : ℕ) → is_ascii_digit m ≡ false → (m == 45) ≡ false → (m == 42) ≡ false → is_short (opening b n) ≡ true → goes_on (opening b n) b n ≡ false → opening b m ≡ opening b n
opening-alone b n m digit dash star short stop =
    left ∙ ap (λ t. by_tests (is_white b) false false (is_quote b) (b == 91) t (is_word_byte b)) number
    ∙ by_tests-same (is_white b) (b == 45 && n == 45) (b == 47 && n == 42) (is_quote b) (b == 91) (begins_number b n) (is_word_byte b) short
  where
    left : opening b m ≡ by_tests (is_white b) false false (is_quote b) (b == 91) (begins_number b m) (is_word_byte b)
    left =
        ap (λ t. by_tests (is_white b) (b == 45 && t) (b == 47 && m == 42) (is_quote b) (b == 91) (begins_number b m) (is_word_byte b)) dash
        ∙ ap (λ t. by_tests (is_white b) t (b == 47 && m == 42) (is_quote b) (b == 91) (begins_number b m) (is_word_byte b)) (and-false (b == 45))
        ∙ ap (λ t. by_tests (is_white b) false (b == 47 && t) (is_quote b) (b == 91) (begins_number b m) (is_word_byte b)) star
        ∙ ap (λ t. by_tests (is_white b) false t (is_quote b) (b == 91) (begins_number b m) (is_word_byte b)) (and-false (b == 47))

    digit_or_not : (t : Bool) → begins_number b n ≡ t → is_ascii_digit b ≡ t
    digit_or_not true e =
        let is_number : opening b n ≡ Number =
        ap (λ t. by_tests (is_white b) (b == 45 && n == 45) (b == 47 && n == 42) (is_quote b) (b == 91) t (is_word_byte b)) e
        ∙ by_tests-number (is_white b) (b == 45 && n == 45) (b == 47 && n == 42) (is_quote b) (b == 91) (is_word_byte b)
        (subst (λ t. is_short (by_tests (is_white b) (b == 45 && n == 45) (b == 47 && n == 42) (is_quote b) (b == 91) t (is_word_byte b)) ≡ true) e short) in
        digit-first b n e (subst (λ k. goes_on k b n ≡ false) is_number stop)
    digit_or_not false e = number-first b n e

    number : begins_number b m ≡ begins_number b n
    number = number-alone b m digit ∙ digit_or_not (begins_number b n) refl

-- a short part does not go on with a byte 0
short-ends : (b : ℕ) (k : TokenKind) → is_short k ≡ true → goes_on k b 0 ≡ false
unfolding is_word_byte
short-ends b Word e = refl
short-ends b Number e = refl
short-ends b Sign e = refl
short-ends b _ e = absurd (cc)

opens-first : (more : List ℕ) → Opens more → (get_or more 0 0 ≡ 0) ⊎ (get_or more 0 0 ≡ 32)
opens-first [] h = inl refl
opens-first (c ∷ more) h = inr h

same-first : (left more : List ℕ) → SameFirst left more → get_or more 0 0 ≡ get_or left 0 0
same-first [] more h = absurd h
same-first (x ∷ left) [] h = absurd h
same-first (x ∷ left) (y ∷ more) h = sym h

-- a part at the front of a text, and the same elsewhere
record Cut (b : ℕ) (text : List ℕ) (kind : TokenKind) (left : List ℕ) : Type 0 where
  run : List ℕ
  whole : text ≡ run ++ left
  again : (more : List ℕ) → Follows kind left more → first_part (b ∷ (run ++ more)) ≡ (kind, more)

opening-again : (K : TokenKind) (b : ℕ) (text run left more : List ℕ) → text ≡ run ++ left → opening b (get_or text 0 0) ≡ K
    → (run ≡ [] → is_closed K ≡ true → (is_short K ≡ true) × ((goes_on K b (get_or text 0 0) ≡ false) ⊎ (text ≡ []))) → Follows K left more → opening b (get_or (run ++ more) 0 0) ≡ K
opening-again K b text (c ∷ run) left more whole e short follows = ap (λ x. opening b (get_or x 0 0)) (sym whole) ∙ e
opening-again K b text [] left more whole e short (inl same) = ap (opening b) (same-first left more same) ∙ ap (λ x. opening b (get_or x 0 0)) (sym whole) ∙ e
opening-again K b text [] left more whole e short (inr ends) = by_stop (short refl ends.0).1
  where
    to : (m : ℕ) → is_ascii_digit m ≡ false → (m == 45) ≡ false → (m == 42) ≡ false → goes_on K b (get_or text 0 0) ≡ false → opening b m ≡ K
    to m digit dash star stop =
        opening-alone b (get_or text 0 0) m digit dash star (subst⁻¹ (λ k. is_short k ≡ true) e (short refl ends.0).0) (subst⁻¹ (λ k. goes_on k b (get_or text 0 0) ≡ false) e stop) ∙ e

    by_first : goes_on K b (get_or text 0 0) ≡ false → (get_or more 0 0 ≡ 0) ⊎ (get_or more 0 0 ≡ 32) → opening b (get_or more 0 0) ≡ K
    by_first stop (inl none) = ap (opening b) none ∙ to 0 refl refl refl stop
    by_first stop (inr space) = ap (opening b) space ∙ to 32 refl refl refl stop

    by_stop : (goes_on K b (get_or text 0 0) ≡ false) ⊎ (text ≡ []) → opening b (get_or more 0 0) ≡ K
    by_stop (inl stop) = by_first stop (opens-first more ends.1)
    by_stop (inr empty) = by_first (ap (λ x. goes_on K b (get_or x 0 0)) empty ∙ short-ends b K (short refl ends.0).0) (opens-first more ends.1)

-- a part that is a run
run_cut : (K : TokenKind) → (is_closed K ≡ true → (b : ℕ) → goes_on K b 32 ≡ false) → (is_closed K ≡ true → is_short K ≡ true) → (b : ℕ) (text : List ℕ) → opening b (get_or text 0 0) ≡ K
    → ((t : List ℕ) → part_of K b t ≡ (K, past (goes_on K) b t)) → Cut b text K (past (goes_on K) b text)
run_cut K space short b text e part =
    let d = dropped (goes_on K) b text in
    record {
      run = d.run;
      whole = d.whole;
      again = λ more follows.
          ap (λ k. part_of k b (d.run ++ more)) (opening-again K b text d.run (past (goes_on K) b text) more d.whole e (λ empty closed. (short closed, d.first empty)) follows)
          ∙ part (d.run ++ more) ∙ ap (λ x. (K, x)) (d.again more (elim follows [ inl same ↦ inl same | inr ends ↦ inr (space ends.0, ends.1) ]));
    }

space-no_quote : is_quote 32 ≡ true → ⊥
unfolding is_quote
space-no_quote e = absurd (cc)

-- no quote is a space
quote-no_space : (b : ℕ) → is_quote b ≡ true → (32 == b) ≡ false
quote-no_space b e = by_test (32 == b) refl
  where
    by_test : (t : Bool) → (32 == b) ≡ t → t ≡ false
    by_test true h = absurd (space-no_quote (subst⁻¹ (λ n. is_quote n ≡ true) (eqb-true 32 b h) e))
    by_test false h = refl

by_tests-quoted : (white dash slash quote bracket number word : Bool) → by_tests white dash slash quote bracket number word ≡ Quoted → quote ≡ true
by_tests-quoted true dash slash quote bracket number word e = absurd (cc)
by_tests-quoted false true slash quote bracket number word e = absurd (cc)
by_tests-quoted false false true quote bracket number word e = absurd (cc)
by_tests-quoted false false false true bracket number word e = refl
by_tests-quoted false false false false true number word e = absurd (cc)
by_tests-quoted false false false false false true word e = absurd (cc)
by_tests-quoted false false false false false false true e = absurd (cc)
by_tests-quoted false false false false false false false e = absurd (cc)

some-first : (xs ys : List ℕ) (c : ℕ) (more other : List ℕ) → get_or ((xs ++ (c ∷ ys)) ++ more) 0 0 ≡ get_or ((xs ++ (c ∷ ys)) ++ other) 0 0
some-first [] ys c more other = refl
some-first (x ∷ xs) ys c more other = refl

-- a part with a run and a byte that closes it
closed_cut : (kind : TokenKind) (b : ℕ) (text run : List ℕ) (c : ℕ) (left : List ℕ) → text ≡ run ++ (c ∷ left) → (K : TokenKind) → opening b (get_or text 0 0) ≡ K
    → ((more : List ℕ) → Follows kind left more → part_of K b (run ++ (c ∷ more)) ≡ (kind, more)) → Cut b text kind left
closed_cut kind b text run c left whole K e part = record {
  run = run ++ (c ∷ []);
  whole = whole ∙ sym (append_assoc run (c ∷ []) left);
  again = λ more follows.
      ap (λ n. part_of (opening b n) b ((run ++ (c ∷ [])) ++ more)) (some-first run [] c more left ∙ ap (λ x. get_or x 0 0) (append_assoc run (c ∷ []) left ∙ sym whole))
      ∙ ap (λ k. part_of k b ((run ++ (c ∷ [])) ++ more)) e
      ∙ ap (part_of K b) (append_assoc run (c ∷ []) more)
      ∙ part more follows;
}

-- nothing follows what is not closed
open_cut : (kind : TokenKind) (b : ℕ) (text : List ℕ) → is_closed kind ≡ false → Cut b text kind []
open_cut kind b text e = record { run = text; whole = sym (append-nil text); again = λ more follows. absurd (never more follows) }
  where
    never : (more : List ℕ) → Follows kind [] more → ⊥
    never more (inl same) = absurd same
    never more (inr ends) = let wrong = sym ends.0 ∙ e in absurd (cc)

quoted_cut : (b : ℕ) (text : List ℕ) → opening b (get_or text 0 0) ≡ Quoted → Cut b text (closed Quoted (past_quoted b text)).0 (closed Quoted (past_quoted b text)).1
quoted_cut b text e = by_case (quoted-closed_or_not b text)
  where
    quote : is_quote b ≡ true
    quote = by_tests-quoted (is_white b) (b == 45 && get_or text 0 0 == 45) (b == 47 && get_or text 0 0 == 42) (is_quote b) (b == 91) (begins_number b (get_or text 0 0)) (is_word_byte b) e

    not_first : (left more : List ℕ) → NotFirst b left → Follows Quoted left more → NotFirst b more
    not_first [] more h (inl same) = absurd same
    not_first (x ∷ left) [] h (inl same) = absurd same
    not_first (x ∷ left) (y ∷ more) h (inl same) = subst (λ z. IsFalse (z == b)) same h
    not_first left [] h (inr ends) = tt
    not_first left (y ∷ more) h (inr ends) = subst⁻¹ (λ z. IsFalse (z == b)) ends.1 (quote-no_space b quote)

    by_case : IsClosedOrNot b text → Cut b text (closed Quoted (past_quoted b text)).0 (closed Quoted (past_quoted b text)).1
    by_case (inl h) =
        let is : past_quoted b text ≡ Some h.1 = ap (past_quoted b) h.2 ∙ past-closed b h.0 h.1 h.3 in
        subst⁻¹ (λ x. Cut b text (closed Quoted x).0 (closed Quoted x).1) is
        (closed_cut Quoted b text (doubled b h.0) b h.1 h.2 Quoted e (λ more follows. ap (closed Quoted) (past-closed b h.0 more (not_first h.1 more h.3 follows))))
    by_case (inr h) =
        let is : past_quoted b text ≡ None = ap (past_quoted b) h.1 ∙ past-unclosed b h.0 in
        subst⁻¹ (λ x. Cut b text (closed Quoted x).0 (closed Quoted x).1) is (open_cut Unclosed b text refl)

bracketed_cut : (b : ℕ) (text : List ℕ) → opening b (get_or text 0 0) ≡ Bracketed
    → Cut b text (closed Bracketed (behind_close (past (goes_on Bracketed) b text))).0 (closed Bracketed (behind_close (past (goes_on Bracketed) b text))).1
bracketed_cut b text e = by_rest (past (goes_on Bracketed) b text) refl (dropped (goes_on Bracketed) b text)
  where
    by_rest : (x : List ℕ) → past (goes_on Bracketed) b text ≡ x → Dropped (goes_on Bracketed) b text → Cut b text (closed Bracketed (behind_close x)).0 (closed Bracketed (behind_close x)).1
    by_rest [] is d = open_cut Unclosed b text refl
    by_rest (c ∷ left) is d =
        closed_cut Bracketed b text d.run c left (d.whole ∙ ap (λ x. d.run ++ x) is) Bracketed e
        (λ more follows. ap (λ x. closed Bracketed (behind_close x)) (d.again (c ∷ more) (inl (subst⁻¹ (λ x. SameFirst x (c ∷ more)) is refl))))

comment_cut : (b : ℕ) (text : List ℕ) → opening b (get_or text 0 0) ≡ BlockComment → Cut b text BlockComment (behind_first (past (goes_on BlockComment) 0 (behind_first text)))
comment_cut b [] e = open_cut BlockComment b [] refl
comment_cut b (n ∷ text) e = by_rest (past (goes_on BlockComment) 0 text) refl (dropped (goes_on BlockComment) 0 text)
  where
    by_rest : (x : List ℕ) → past (goes_on BlockComment) 0 text ≡ x → Dropped (goes_on BlockComment) 0 text → Cut b (n ∷ text) BlockComment (behind_first x)
    by_rest [] is d = open_cut BlockComment b (n ∷ text) refl
    by_rest (c ∷ left) is d =
        closed_cut BlockComment b (n ∷ text) (n ∷ d.run) c left (ap (λ x. n ∷ x) (d.whole ∙ ap (λ x. d.run ++ x) is)) BlockComment e
        (λ more follows. ap (λ x. (BlockComment, behind_first x)) (d.again (c ∷ more) (inl (subst⁻¹ (λ x. SameFirst x (c ∷ more)) is refl))))

cut : (b : ℕ) (text : List ℕ) → Cut b text (first_part (b ∷ text)).0 (first_part (b ∷ text)).1
cut b text = by_kind (opening b (get_or text 0 0)) refl
  where
    by_kind : (K : TokenKind) → opening b (get_or text 0 0) ≡ K → Cut b text (part_of K b text).0 (part_of K b text).1
    by_kind Space e = run_cut Space (λ h. absurd (cc)) (λ h. absurd (cc)) b text e (λ t. refl)
    by_kind LineComment e = run_cut LineComment (λ h. absurd (cc)) (λ h. absurd (cc)) b text e (λ t. refl)
    by_kind BlockComment e = comment_cut b text e
    by_kind Word e = run_cut Word (λ h. no_space Word h (λ k. absurd (cc))) (λ h. refl) b text e (λ t. refl)
    by_kind Number e = run_cut Number (λ h. no_space Number h (λ k. absurd (cc))) (λ h. refl) b text e (λ t. refl)
    by_kind Quoted e = quoted_cut b text e
    by_kind Bracketed e = bracketed_cut b text e
    by_kind Unclosed e = run_cut Unclosed (λ h. absurd (cc)) (λ h. absurd (cc)) b text e (λ t. refl)
    by_kind Sign e = run_cut Sign (λ h. no_space Sign h (λ k. absurd (cc))) (λ h. refl) b text e (λ t. refl)

-- The tokens at the front of a text, with other parts behind them.

abbrev tokens_in : List Token → List Token
tokens_in parts = filter (λ part. is_token part.kind) parts

filter-yes : (c : Token) (parts : List Token) → is_token c.kind ≡ true → tokens_in (c ∷ parts) ≡ c ∷ tokens_in parts
filter-yes c parts e = ap (λ t. if t then (c ∷ tokens_in parts) else tokens_in parts) e

filter-no : (c : Token) (parts : List Token) → is_token c.kind ≡ false → tokens_in (c ∷ parts) ≡ tokens_in parts
filter-no c parts e = ap (λ t. if t then (c ∷ tokens_in parts) else tokens_in parts) e

-- the bytes from a place on up to the last of some tokens, and the parts of each text that has these bytes there
record Kept (place : ℕ) (left : List ℕ) (front : List Token) : Type 0 where
  kept : List ℕ
  back : List ℕ
  whole : left ≡ kept ++ back
  some : 0 < length kept
  reaches : place + length kept ≡ end_of front
  again : (more : List ℕ) (parts : List Token) → Opens more → AreParts (place + length (kept ++ more)) more parts
      → (all : List Token) × AreParts (place + length (kept ++ more)) (kept ++ more) all × (tokens_in all ≡ front ++ tokens_in parts)

kept-first : (kept back more : List ℕ) → 0 < length kept → SameFirst (kept ++ back) (kept ++ more)
kept-first [] back more some = absurd (omega (arith, some))
kept-first (b ∷ kept) back more some = refl

-- the tokens up to a part and with it: those behind it, and it too where it is a token
abbrev Grows : Token → List Token → List Token → Type 0
Grows part front all =
    ((is_token part.kind ≡ false) × (all ≡ front)) ⊎ ((is_token part.kind ≡ true) × (all ≡ part ∷ front) × ((c : Token) × (others : List Token) × (front ≡ c ∷ others)))

grows-end : (part : Token) (front all : List Token) → Grows part front all → end_of front ≡ end_of all
grows-end part front all (inl same) = ap end_of (sym same.1)
grows-end part front all (inr token) = let shape = token.2.2 in ap end_of shape ∙ sym (ap end_of (token.1 ∙ ap (λ x. part ∷ x) shape))

grows-tokens : (part : Token) (front all behind later : List Token) → Grows part front all → tokens_in behind ≡ front ++ later → tokens_in (part ∷ behind) ≡ all ++ later
grows-tokens part front all behind later (inl same) e = filter-no part behind same.0 ∙ e ∙ ap (λ x. x ++ later) (sym same.1)
grows-tokens part front all behind later (inr token) e = filter-yes part behind token.0 ∙ ap (λ x. part ∷ x) e ∙ ap (λ x. x ++ later) (sym token.1)

-- one part, and what is kept behind it
module _ (place b : ℕ) (text : List ℕ) (part : Token) (parts : List Token) (are : AreParts (place + length (b ∷ text)) (b ∷ text) (part ∷ parts)) where
  abbrev first : TokenKind × List ℕ
  first = first_part (b ∷ text)

  abbrev own : Cut b text first.0 first.1
  own = cut b text

  long : length (b ∷ text) ≡ suc (length own.run) + length first.1
  long = omega (arith, ap length own.whole, length-append own.run first.1)

  start-place : part.start ≡ place
  start-place = omega (arith, are.2)

  end-place : part.end ≡ place + suc (length own.run)
  end-place = omega (arith, are.3, long)

  next_parts : AreParts ((place + suc (length own.run)) + length first.1) first.1 parts
  next_parts = subst (λ n. AreParts n first.1 parts) (omega (arith, long)) are.4

  -- the part before other bytes, and their parts
  before : (more : List ℕ) (later : List Token) → Follows first.0 first.1 more → AreParts (place + length (b ∷ (own.run ++ more))) more later
      → AreParts (place + length (b ∷ (own.run ++ more))) (b ∷ (own.run ++ more)) (part ∷ later)
  before more later follows is =
      let same = own.again more follows in
      let rest : (first_part (b ∷ (own.run ++ more))).1 ≡ more = ap (λ x. x.1) same in (
        λ e. absurd (cc),
        are.1 ∙ sym (ap (λ x. x.0) same),
        omega (arith, start-place),
        end-place ∙ sym (ap (λ x. place + length (b ∷ (own.run ++ more)) - length x) rest ∙ omega (arith, length-append own.run more)),
        subst⁻¹ (λ x. AreParts (place + length (b ∷ (own.run ++ more))) x later) rest is,
      )

  -- the part is the last that is kept
  kept-last : is_token part.kind ≡ true → IsClosed part → Kept place (b ∷ text) (part ∷ [])
  kept-last token closed = record {
    kept = b ∷ own.run;
    back = first.1;
    whole = ap (λ x. b ∷ x) own.whole;
    some = omega arith;
    reaches = sym end-place;
    again = λ more later opens is.
        (part ∷ later, before more later (inr (subst (λ k. is_closed k ≡ true) are.1 (token-closed part.kind token closed), opens)) is, filter-yes part later token);
  }

  -- others are kept behind it
  kept-more : (front all : List Token) → Grows part front all → Kept (place + suc (length own.run)) first.1 front → Kept place (b ∷ text) all
  kept-more front all grows rest = record {
    kept = b ∷ (own.run ++ rest.kept);
    back = rest.back;
    whole = ap (λ x. b ∷ x) (own.whole ∙ ap (λ x. own.run ++ x) rest.whole ∙ sym (append_assoc own.run rest.kept rest.back));
    some = omega arith;
    reaches = let sum : place + length (b ∷ (own.run ++ rest.kept)) ≡ end_of front = omega (arith, length-append own.run rest.kept, rest.reaches) in sum ∙ grows-end part front all grows;
    again = again;
  }
    where
      again : (more : List ℕ) (later : List Token) → Opens more → AreParts (place + length ((b ∷ (own.run ++ rest.kept)) ++ more)) more later
          → (found : List Token) × AreParts (place + length ((b ∷ (own.run ++ rest.kept)) ++ more)) ((b ∷ (own.run ++ rest.kept)) ++ more) found × (tokens_in found ≡ all ++ tokens_in later)
      again more later opens are_more =
          let whole_more : (b ∷ (own.run ++ rest.kept)) ++ more ≡ b ∷ (own.run ++ (rest.kept ++ more)) = ap (λ x. b ∷ x) (append_assoc own.run rest.kept more) in
          let size : place + length (b ∷ (own.run ++ (rest.kept ++ more))) ≡ (place + suc (length own.run)) + length (rest.kept ++ more) = omega (arith, length-append own.run (rest.kept ++ more)) in
          let behind = rest.again more later opens (subst (λ n. AreParts n more later) (ap (λ x. place + length x) whole_more ∙ size) are_more) in
          let found = before (rest.kept ++ more) behind.0 (inl (subst⁻¹ (λ x. SameFirst x (rest.kept ++ more)) rest.whole (kept-first rest.kept rest.back more rest.some)))
          (subst⁻¹ (λ n. AreParts n (rest.kept ++ more) behind.0) size behind.1) in (
            part ∷ behind.0,
            subst⁻¹ (λ x. AreParts (place + length x) x (part ∷ behind.0)) whole_more found,
            grows-tokens part front all behind.0 (tokens_in later) grows behind.2,
          )

kept-parts : (place : ℕ) (left : List ℕ) (parts : List Token) (c : Token) (front rest : List Token) → AreParts (place + length left) left parts → tokens_in parts ≡ (c ∷ front) ++ rest → AllByRecursion IsClosed (c ∷ front)
    → Kept place left (c ∷ front)
kept-parts place left [] c front rest are e closed = absurd (let wrong : ⊥ = cc in wrong)
kept-parts place [] (part ∷ parts) c front rest are e closed = absurd (are.0 refl)
kept-parts place (b ∷ text) (part ∷ parts) c front rest are e closed =
    by_kind (λ d ds later all. kept-parts (place + suc (length (cut b text).run)) (first_part (b ∷ text)).1 parts d ds rest (next_parts place b text part parts are) later all) (is_token part.kind) refl
  where
    by_front : is_token part.kind ≡ true → part ≡ c → (others : List Token) → tokens_in parts ≡ others ++ rest → front ≡ others
        → ((d : Token) (ds : List Token) → tokens_in parts ≡ (d ∷ ds) ++ rest → AllByRecursion IsClosed (d ∷ ds) → Kept (place + suc (length (cut b text).run)) (first_part (b ∷ text)).1 (d ∷ ds))
        → Kept place (b ∷ text) (c ∷ front)
    by_front token same [] left_over is deeper =
        subst⁻¹ (Kept place (b ∷ text)) (ap (λ x. c ∷ x) is ∙ ap (λ x. x ∷ []) (sym same)) (kept-last place b text part parts are token (subst⁻¹ IsClosed same closed.0))
    by_front token same (d ∷ ds) left_over is deeper =
        kept-more place b text part parts are (d ∷ ds) (c ∷ front) (inr (token, ap (λ x. c ∷ x) is ∙ ap (λ x. x ∷ (d ∷ ds)) (sym same), (d, ds, refl)))
        (deeper d ds left_over (subst (AllByRecursion IsClosed) is closed.1))

    split : is_token part.kind ≡ true → (part ≡ c) × (tokens_in parts ≡ front ++ rest)
    split token = let whole : part ∷ tokens_in parts ≡ c ∷ (front ++ rest) = sym (filter-yes part parts token) ∙ e in let one : part ≡ c = cc in let two : tokens_in parts ≡ front ++ rest = cc in (one, two)

    by_kind : ((d : Token) (ds : List Token) → tokens_in parts ≡ (d ∷ ds) ++ rest → AllByRecursion IsClosed (d ∷ ds) → Kept (place + suc (length (cut b text).run)) (first_part (b ∷ text)).1 (d ∷ ds))
        → (t : Bool) → is_token part.kind ≡ t → Kept place (b ∷ text) (c ∷ front)
    by_kind deeper true token = let both = split token in by_front token both.0 front both.1 refl deeper
    by_kind deeper false token = kept-more place b text part parts are (c ∷ front) (c ∷ front) (inl (token, refl)) (deeper c front (sym (filter-no part parts token) ∙ e) closed)

-- The bytes of lexemes, each behind a space.

abbrev text_of : List Lexeme → List ℕ
text_of [] = []
text_of (f ∷ w) = 32 ∷ (f.bytes ++ text_of w)

text-opens : (w : List Lexeme) → Opens (text_of w)
text-opens [] = tt
text-opens (f ∷ w) = refl

dark-first : (b : ℕ) (text : List ℕ) → is_white b ≡ false → first_part (32 ∷ b ∷ text) ≡ (Space, b ∷ text)
unfolding is_white
dark-first b text e = ap (λ t. (Space, if t then past (goes_on Space) b text else (b ∷ text))) e

space-part : (bytes rest : List ℕ) → IsTrue (is_dark bytes) → first_part (32 ∷ (bytes ++ rest)) ≡ (Space, bytes ++ rest)
space-part [] rest e = absurd (cc)
space-part (b ∷ bytes) rest e = dark-first b (bytes ++ rest) (not-true (is_white b) e)
  where
    not-true : (t : Bool) → not t ≡ true → t ≡ false
    not-true true h = absurd (cc)
    not-true false h = refl

long_bytes : (bytes : List ℕ) → IsTrue (is_dark bytes) → 0 < length bytes
long_bytes [] e = absurd (cc)
long_bytes (b ∷ bytes) e = omega arith

-- a part of a text between others
between-range : (xs ys zs : List ℕ) (a e : ℕ) → a ≡ length xs → e ≡ a + length ys → slice_range (xs ++ (ys ++ zs)) a e ≡ ys
between-range xs ys zs a e start stop =
    let many : e - a ≡ length ys = omega (arith, stop) in
    let dropped_to : drop a (xs ++ (ys ++ zs)) ≡ ys ++ zs = ap (λ n. drop n (xs ++ (ys ++ zs))) start ∙ drop-append_seam xs (ys ++ zs) in
    ap (λ n. take n (drop a (xs ++ (ys ++ zs)))) many ∙ ap (take (length ys)) dropped_to ∙ take-append_seam ys zs

-- the parts of lexemes behind some bytes
record Filled (before : List ℕ) (w : List Lexeme) : Type 0 where
  parts : List Token
  are : AreParts (length (before ++ text_of w)) (text_of w) parts
  spelled : AllZip (IsSpelled (before ++ text_of w)) w (tokens_in parts)

filled : (before : List ℕ) (w : List Lexeme) → AllByRecursion IsLexeme w → Filled before w
filled before [] lexemes = record { parts = []; are = refl; spelled = tt }
filled before (f ∷ w) lexemes = joined (filled (before ++ (32 ∷ f.bytes)) w lexemes.1)
  where
    whole : (before ++ (32 ∷ f.bytes)) ++ text_of w ≡ before ++ (32 ∷ (f.bytes ++ text_of w))
    whole = append_assoc before (32 ∷ f.bytes) (text_of w)

    size : length (before ++ (32 ∷ (f.bytes ++ text_of w))) ≡ length before + suc (length f.bytes) + length (text_of w)
    size = omega (arith, length-append before (32 ∷ (f.bytes ++ text_of w)), length-append f.bytes (text_of w))

    some : 0 < length f.bytes
    some = long_bytes f.bytes lexemes.0.dark

    joined : Filled (before ++ (32 ∷ f.bytes)) w → Filled before (f ∷ w)
    joined rest = record {
      parts = record { kind = Space; start = length before; end = length before + 1 } ∷ record { kind = f.kind; start = length before + 1; end = length before + 1 + length f.bytes } ∷ rest.parts;
      are = (
        λ empty. absurd (cc),
        sym (ap (λ x. x.0) space),
        omega (arith, size, length-append f.bytes (text_of w)),
        (let n : length before + 1 ≡ length (before ++ (32 ∷ (f.bytes ++ text_of w))) - length (f.bytes ++ text_of w) = omega (arith, size, length-append f.bytes (text_of w)) in n)
            ∙ sym (ap (λ x. length (before ++ (32 ∷ (f.bytes ++ text_of w))) - length x.1) space),
        subst⁻¹ (λ x. AreParts (length (before ++ (32 ∷ (f.bytes ++ text_of w)))) x (record { kind = f.kind; start = length before + 1; end = length before + 1 + length f.bytes } ∷ rest.parts)) (ap (λ x. x.1) space) own_are,
      );
      spelled = subst⁻¹ (AllZip (IsSpelled (before ++ (32 ∷ (f.bytes ++ text_of w)))) (f ∷ w))
          (filter-no (record { kind = Space; start = length before; end = length before + 1 }) (record { kind = f.kind; start = length before + 1; end = length before + 1 + length f.bytes } ∷ rest.parts) refl
          ∙ filter-yes (record { kind = f.kind; start = length before + 1; end = length before + 1 + length f.bytes }) rest.parts lexemes.0.token)
          ((refl, bytes, refl), subst (λ x. AllZip (IsSpelled x) w (tokens_in rest.parts)) whole rest.spelled);
    }
      where
        own : first_part (f.bytes ++ text_of w) ≡ (f.kind, text_of w)
        own = lexemes.0.part (text_of w) (text-opens w)

        space : first_part (32 ∷ (f.bytes ++ text_of w)) ≡ (Space, f.bytes ++ text_of w)
        space = space-part f.bytes (text_of w) lexemes.0.dark

        own_are : AreParts (length (before ++ (32 ∷ (f.bytes ++ text_of w)))) (f.bytes ++ text_of w) (record { kind = f.kind; start = length before + 1; end = length before + 1 + length f.bytes } ∷ rest.parts)
        own_are = (
          λ empty. absurd (omega (arith, some, length-append f.bytes (text_of w), ap length empty)),
          sym (ap (λ x. x.0) own),
          omega (arith, size, length-append f.bytes (text_of w)),
          (let n : length before + 1 + length f.bytes ≡ length (before ++ (32 ∷ (f.bytes ++ text_of w))) - length (text_of w) = omega (arith, size) in n)
              ∙ sym (ap (λ x. length (before ++ (32 ∷ (f.bytes ++ text_of w))) - length x.1) own),
          subst⁻¹ (λ x. AreParts (length (before ++ (32 ∷ (f.bytes ++ text_of w)))) x rest.parts) (ap (λ x. x.1) own) (subst (λ x. AreParts (length x) (text_of w) rest.parts) whole rest.are),
        )

        bytes : slice_range (before ++ (32 ∷ (f.bytes ++ text_of w))) (length before + 1) (length before + 1 + length f.bytes) ≡ f.bytes
        bytes =
            ap (λ x. slice_range x (length before + 1) (length before + 1 + length f.bytes)) (sym (append_assoc before (32 ∷ []) (f.bytes ++ text_of w)))
            ∙ between-range (before ++ (32 ∷ [])) f.bytes (text_of w) (length before + 1) (length before + 1 + length f.bytes) (sym (length-append before (32 ∷ []))) refl

tokens-of : (text : List ℕ) (parts : List Token) → AreParts (length text) text parts → tokens_of text ≡ tokens_in parts
tokens-of text parts are = tokens-one text (tokens_of text) (tokens_in parts) (tokens-are text) (parts, are, refl)

same-take : (n : ℕ) (text kept back more : List ℕ) → text ≡ kept ++ back → n ≡ length kept → take n text ≡ take n (kept ++ more)
same-take n text kept back more whole far =
    ap (take n) whole ∙ ap (λ k. take k (kept ++ back)) far ∙ take-append_seam kept back ∙ sym (ap (λ k. take k (kept ++ more)) far ∙ take-append_seam kept more)

-- a text can go on behind any of its tokens that something closes
pub goes-on : (text : List ℕ) (front behind : List Token) (lexemes : List Lexeme) → tokens_of text ≡ front ++ behind → AllByRecursion IsClosed front → AllByRecursion IsLexeme lexemes → GoesOn text front behind lexemes
goes-on text [] behind w e closed lexemes =
    let own = filled [] w lexemes in
    record {
      other = text_of w;
      tokens = tokens_in own.parts;
      begin = record { tokens = e; other_tokens = tokens-of (text_of w) own.parts own.are; bytes = refl };
      spelled = own.spelled;
    }
goes-on text (c ∷ front) behind w e closed lexemes =
    let are = tokens-are text in
    let same : 0 + length text ≡ length text = omega arith in
    let kept = kept-parts 0 text are.0 c front behind (subst⁻¹ (λ n. AreParts n text are.0) same are.1) (sym are.2 ∙ e) closed in
    let own = filled kept.kept w lexemes in
    let size : 0 + length (kept.kept ++ text_of w) ≡ length (kept.kept ++ text_of w) = omega arith in
    let all = kept.again (text_of w) own.parts (text-opens w) (subst⁻¹ (λ n. AreParts n (text_of w) own.parts) size own.are) in
    let far : end_of (c ∷ front) ≡ length kept.kept = omega (arith, kept.reaches) in
    record {
      other = kept.kept ++ text_of w;
      tokens = tokens_in own.parts;
      begin = record {
        tokens = e;
        other_tokens = tokens-of (kept.kept ++ text_of w) all.0 (subst (λ n. AreParts n (kept.kept ++ text_of w) all.0) size all.1) ∙ all.2;
        bytes = same-take (end_of (c ∷ front)) text kept.kept kept.back (text_of w) kept.whole far;
      };
      spelled = own.spelled;
    }
