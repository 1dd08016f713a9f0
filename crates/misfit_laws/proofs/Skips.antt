-- What is skipped: texts in brackets, tokens to an end, and words of a type.
use Rattle.std.proofs.Common.{◌≡◌, ℕ, zero, suc, ◌+◌, ◌-◌, ◌≤◌, Bool, true, false, List, [], ◌∷◌, ◌++◌, length, refl, sym, ap, ◌∙◌, inl, inr, arith, length-append}
use Rattle.std.proofs.lemmas.List.{append-nil}
use Rattle.std.specs.Prelude.{IsTrue, if◌then◌else◌, codes}
use Rattle.schema_spec.specs.declared.token.Token.{Token}
use Rattle.schema_spec.specs.Words.{is_sign, is_sql, is_type_word}
use Rattle.schema_spec.specs.Fronts.{Front, Behind, Stops, begins}
use Rattle.schema_spec.specs.Brackets.{open_behind, to_close, bracketed, to_end, some_to_end}
use Rattle.schema_spec.specs.ColumnGrammar.{last_type_word}
use Rattle.grammar_laws.specs.Lexemes.{is_whole}
use Rattle.grammar_laws.specs.TestsLaws.{Alike, none, sql-respects, sign-respects, type-respects, open-respects, sign-whole, sql-whole, type-whole}
use Rattle.grammar_laws.specs.ProductionsLaws.{Alikes, Same, Next, Outcome, Part}
use Rattle.misfit_laws.proofs.Fillers.{Filler, Capitals, Opening, Closing, lexeme, token_of, IsFiller, AreFillers}
use Rattle.misfit_laws.proofs.Continuing.{Anything, Ends, Apart, Passed, OneTaken, Continues, longer, nothing-left, taken, behind-same, continues-one, continues-then}
use Rattle.misfit_laws.proofs.Following.{apart-type}

-- a token, and what a production takes behind it
pub taken-first : {A : Type 0} (P before : List ℕ → List Token → Front A) (text : List ℕ) (c : Token) (tokens : List Token) → IsTrue (is_whole c.kind)
    → ((other : List ℕ) → Alike text c other c → (rest : List Token) → before other (c ∷ rest) ≡ P other rest)
    → (x : Front A) → Outcome is_whole none none P text tokens x → Outcome is_whole none none before text (c ∷ tokens) x
taken-first P before text c tokens whole same (Behind a rest) p = record {
  front = c ∷ p.front;
  parted = ap (λ x. c ∷ x) p.parted;
  kinds = (whole, p.kinds);
  first = λ h. refl;
  local = λ other others alikes next. same other alikes.0 (p.front ++ others) ∙ p.local other others alikes.1 next;
}
taken-first P before text c tokens whole same (Stops rest) p = record {
  front = c ∷ p.front;
  parted = ap (λ x. c ∷ x) p.parted;
  kinds = (whole, p.kinds);
  first = λ h. refl;
  local = λ other others alikes next. same other alikes.0 (p.front ++ others) ∙ p.local other others alikes.1 next;
}

-- a stop at the first token, at which a production stops in every text
pub stops-first : {A : Type 0} (before : List ℕ → List Token → Front A) (text : List ℕ) (c : Token) (tokens : List Token)
    → ((other : List ℕ) → Alike text c other c → (rest : List Token) → before other (c ∷ rest) ≡ Stops (c ∷ rest)) → Outcome is_whole none none before text (c ∷ tokens) (Stops (c ∷ tokens))
stops-first {A} before text c tokens same = record { front = []; parted = refl; kinds = tt; first = λ h. refl; local = stops }
  where
    stops : (other : List ℕ) (others : List Token) → Alikes text other [] → Same text other (c ∷ tokens) others → before other others ≡ Stops others
    stops other [] alikes next = absurd next
    stops other (d ∷ others) alikes next =
        ap (λ x. before other (x ∷ others)) (sym next.0) ∙ same other next.1 others ∙ ap (λ x. Stops (x ∷ others)) next.0

-- a first token that is left
pub leaves-first : {A : Type 0} (a : A) (before : List ℕ → List Token → Front A) (text : List ℕ) (c : Token) (tokens : List Token)
    → ((other : List ℕ) → Alike text c other c → (rest : List Token) → before other (c ∷ rest) ≡ Behind a (c ∷ rest)) → Outcome is_whole none none before text (c ∷ tokens) (Behind a (c ∷ tokens))
leaves-first {A} a before text c tokens same = record { front = []; parted = refl; kinds = tt; first = λ h. refl; local = leaves }
  where
    leaves : (other : List ℕ) (others : List Token) → Alikes text other [] → Next none text other (c ∷ tokens) others → before other others ≡ Behind a others
    leaves other [] alikes next = absurd next
    leaves other (d ∷ others) alikes next =
        ap (λ x. before other (x ∷ others)) (sym next.0) ∙ same other next.1 others ∙ ap (λ x. Behind a (x ∷ others)) next.0

-- nothing is left to stop at
pub stops-empty : {A : Type 0} (before : List ℕ → List Token → Front A) (text : List ℕ) → Outcome is_whole none none before text [] (Stops [])
stops-empty before text = record { front = []; parted = refl; kinds = tt; first = λ h. refl; local = λ other others alikes next. absurd next }

leaves-empty : {A : Type 0} (a : A) (before : List ℕ → List Token → Front A) (text : List ℕ) → Outcome is_whole none none before text [] (Behind a [])
leaves-empty a before text = record { front = []; parted = refl; kinds = tt; first = λ h. refl; local = λ other others alikes next. absurd next }

-- what comes of a first token by how many brackets are open behind it, and whether it is one of SQL
abbrev closing_sql : List ℕ → Token → List Token → ℕ → Bool → Front Token
closing_sql text c tokens less sql = elim sql as (λ _. Front Token) [ true ↦ to_close text (suc less) tokens | false ↦ Stops (c ∷ tokens) ]

abbrev closing : List ℕ → Token → List Token → ℕ → Front Token
closing text c tokens depth = elim depth as (λ _. Front Token) [ zero ↦ Behind c tokens | suc less ↦ closing_sql text c tokens less (is_sql text c) ]

-- a token behind which no bracket is open closes one
closes-sign : (text : List ℕ) (less : ℕ) (c : Token) → open_behind text (suc less) c ≡ zero → is_sign 41 text c ≡ true
closes-sign text less c e = by_tests (is_sign 40 text c) (is_sign 41 text c) e
  where
    by_tests : (opens closes : Bool) → (if opens then suc less + 1 else (if closes then suc less - 1 else suc less)) ≡ zero → closes ≡ true
    by_tests true closes e = absurd (omega (arith, e))
    by_tests false true e = refl
    by_tests false false e = absurd (omega (arith, e))

opened : (text : List ℕ) (depth n : ℕ) (c : Token) → open_behind text depth c ≡ n → (other : List ℕ) → Alike text c other c → open_behind other depth c ≡ n
opened text depth n c e other alike = sym (open-respects depth text other c c alike) ∙ e

closed-again : (text other : List ℕ) (less : ℕ) (c : Token) (rest : List Token) → open_behind text (suc less) c ≡ zero → Alike text c other c → to_close other (suc less) (c ∷ rest) ≡ Behind c rest
closed-again text other less c rest e alike = ap (closing other c rest) (opened text (suc less) zero c e other alike)

open-again : (text other : List ℕ) (depth less : ℕ) (c : Token) (rest : List Token) (b : Bool) → open_behind text depth c ≡ suc less → is_sql text c ≡ b → Alike text c other c
    → to_close other depth (c ∷ rest) ≡ closing_sql other c rest less b
open-again text other depth less c rest b e f alike =
    ap (closing other c rest) (opened text depth (suc less) c e other alike) ∙ ap (closing_sql other c rest less) (sym (sql-respects text other c c alike) ∙ f)

to_close-run : (text : List ℕ) (depth : ℕ) (tokens : List Token) → Outcome is_whole none none (λ text. to_close text (suc depth)) text tokens (to_close text (suc depth) tokens)
to_close-run text depth [] = stops-empty (λ text. to_close text (suc depth)) text
to_close-run text depth (c ∷ tokens) = by_depth (λ n. to_close-run text n tokens) (open_behind text (suc depth) c) refl
  where
    by_sql : ((n : ℕ) → Outcome is_whole none none (λ text. to_close text (suc n)) text tokens (to_close text (suc n) tokens)) → (less : ℕ) → open_behind text (suc depth) c ≡ suc less → (b : Bool) → is_sql text c ≡ b
        → Outcome is_whole none none (λ text. to_close text (suc depth)) text (c ∷ tokens) (closing_sql text c tokens less b)
    by_sql others less e true f =
        taken-first (λ text. to_close text (suc less)) (λ text. to_close text (suc depth)) text c tokens (sql-whole text c f)
        (λ other alike rest. open-again text other (suc depth) less c rest true e f alike) (to_close text (suc less) tokens) (others less)
    by_sql others less e false f =
        stops-first (λ text. to_close text (suc depth)) text c tokens (λ other alike rest. open-again text other (suc depth) less c rest false e f alike)

    by_depth : ((n : ℕ) → Outcome is_whole none none (λ text. to_close text (suc n)) text tokens (to_close text (suc n) tokens)) → (n : ℕ) → open_behind text (suc depth) c ≡ n
        → Outcome is_whole none none (λ text. to_close text (suc depth)) text (c ∷ tokens) (closing text c tokens n)
    by_depth others zero e = record {
      front = c ∷ [];
      parted = refl;
      kinds = (sign-whole 41 text c (closes-sign text depth c e), tt);
      first = λ h. refl;
      local = λ other rest alikes next. closed-again text other depth c rest e alikes.0;
    }
    by_depth others (suc less) e = by_sql others less e (is_sql text c) refl

to_close-part : (depth : ℕ) → Part is_whole none none (λ text. to_close text (suc depth))
to_close-part depth = record { run = λ text tokens. to_close-run text depth tokens }

-- as many closing brackets as are open
abbrev pub closings : ℕ → List Filler
closings zero = []
closings (suc n) = Closing ∷ closings n

pub close-filler : (other : List ℕ) (depth : ℕ) (c : Token) → IsFiller other Closing c → open_behind other (suc depth) c ≡ depth
close-filler other depth c filler =
    let one : suc depth - 1 ≡ depth = omega arith in open-respects (suc depth) other (lexeme Closing).bytes c (token_of (lexeme Closing)) filler ∙ one

close-all : (other : List ℕ) (depth : ℕ) (others more : List Token) → AreFillers other (closings (suc depth)) others → Passed (to_close other (suc depth) (others ++ more)) more
close-all other depth [] more fillers = absurd fillers
close-all other zero (c ∷ []) more fillers = (c, ap (closing other c more) (close-filler other zero c fillers.0))
close-all other zero (c ∷ d ∷ others) more fillers = absurd fillers.1
close-all other (suc depth) (c ∷ others) more fillers =
    let (a, is) = close-all other depth others more fillers.1 in (
      a,
      ap (closing other c (others ++ more)) (close-filler other (suc depth) c fillers.0)
          ∙ ap (closing_sql other c (others ++ more) depth) (sql-respects other (lexeme Closing).bytes c (token_of (lexeme Closing)) fillers.0)
          ∙ is,
    )

close-kept : (text other : List ℕ) (depth : ℕ) (front rest more : List Token) (a : Token) → to_close text (suc depth) (front ++ rest) ≡ Behind a rest → Alikes text other front
    → to_close other (suc depth) (front ++ more) ≡ Behind a more
close-kept text other depth [] rest more a e alikes = absurd (close-some text depth rest rest a e (omega arith))
  where
    close-some : (text : List ℕ) (depth : ℕ) (tokens rest : List Token) (a : Token) → to_close text (suc depth) tokens ≡ Behind a rest → length tokens ≤ length rest → ⊥
    close-some text depth [] rest a e long = absurd (cc)
    close-some text depth (c ∷ tokens) rest a e long =
        by_depth (λ n is. close-some text n tokens rest a is (omega (arith, long))) (open_behind text (suc depth) c) e
      where
        by_sql : ((n : ℕ) → to_close text (suc n) tokens ≡ Behind a rest → ⊥) → (less : ℕ) (b : Bool) → closing_sql text c tokens less b ≡ Behind a rest → ⊥
        by_sql others less true e = others less e
        by_sql others less false e = absurd (cc)

        by_depth : ((n : ℕ) → to_close text (suc n) tokens ≡ Behind a rest → ⊥) → (n : ℕ) → closing text c tokens n ≡ Behind a rest → ⊥
        by_depth others zero e = let (same, left) = behind-same c a tokens rest e in let as_long : length tokens ≡ length rest = ap length left in omega (arith, as_long, long)
        by_depth others (suc less) e = by_sql others less (is_sql text c) e
close-kept text other depth (c ∷ front) rest more a e alikes =
    by_depth (λ n is. close-kept text other n front rest more a is alikes.1) (open_behind text (suc depth) c) refl e
  where
    by_sql : ((n : ℕ) → to_close text (suc n) (front ++ rest) ≡ Behind a rest → to_close other (suc n) (front ++ more) ≡ Behind a more) → (less : ℕ) → open_behind text (suc depth) c ≡ suc less
        → (b : Bool) → is_sql text c ≡ b → closing_sql text c (front ++ rest) less b ≡ Behind a rest → to_close other (suc depth) (c ∷ (front ++ more)) ≡ Behind a more
    by_sql others less opens true f e = open-again text other (suc depth) less c (front ++ more) true opens f alikes.0 ∙ others less e
    by_sql others less opens false f e = absurd (cc)

    by_depth : ((n : ℕ) → to_close text (suc n) (front ++ rest) ≡ Behind a rest → to_close other (suc n) (front ++ more) ≡ Behind a more) → (n : ℕ) → open_behind text (suc depth) c ≡ n
        → closing text c (front ++ rest) n ≡ Behind a rest → to_close other (suc depth) (c ∷ (front ++ more)) ≡ Behind a more
    by_depth others zero opens e =
        let (same, left) = behind-same c a (front ++ rest) rest e in
        closed-again text other depth c (front ++ more) opens alikes.0 ∙ ap (λ f. Behind c (f ++ more)) (nothing-left front rest left) ∙ ap (λ x. Behind x more) same
    by_depth others (suc less) opens e = by_sql others less opens (is_sql text c) refl e

abbrev ClosesBehind : List ℕ → ℕ → List Token → Type 0
ClosesBehind text depth front =
    (w : List Filler) × ((other : List ℕ) (others more : List Token) → Alikes text other front → AreFillers other w others → Passed (to_close other (suc depth) (front ++ (others ++ more))) more)

close-mended : (text : List ℕ) (depth : ℕ) (front rest : List Token) → to_close text (suc depth) (front ++ rest) ≡ Stops rest → ClosesBehind text depth front
close-mended text depth [] rest e = (closings (suc depth), λ other others more alikes fillers. close-all other depth others more fillers)
close-mended text depth (c ∷ front) rest e = by_depth (λ n is. close-mended text n front rest is) (open_behind text (suc depth) c) refl e
  where
    by_sql : ((n : ℕ) → to_close text (suc n) (front ++ rest) ≡ Stops rest → ClosesBehind text n front) → (less : ℕ) → open_behind text (suc depth) c ≡ suc less
        → (b : Bool) → is_sql text c ≡ b → closing_sql text c (front ++ rest) less b ≡ Stops rest → ClosesBehind text depth (c ∷ front)
    by_sql others less opens true f e =
        let (w, go) = others less e in (
          w,
          λ other others more alikes fillers.
              let (a, is) = go other others more alikes.1 fillers in (a, open-again text other (suc depth) less c (front ++ (others ++ more)) true opens f alikes.0 ∙ is),
        )
    by_sql others less opens false f e = let same : (c ∷ front) ++ rest ≡ rest = cc in absurd (longer c front rest same)

    by_depth : ((n : ℕ) → to_close text (suc n) (front ++ rest) ≡ Stops rest → ClosesBehind text n front) → (n : ℕ) → open_behind text (suc depth) c ≡ n
        → closing text c (front ++ rest) n ≡ Stops rest → ClosesBehind text depth (c ∷ front)
    by_depth others zero opens e = absurd (cc)
    by_depth others (suc less) opens e = by_sql others less opens (is_sql text c) refl e

to_close-continues : Continues is_whole none none Anything false (Closing ∷ []) (λ text. to_close text 1)
to_close-continues = record {
  part = to_close-part 0;
  fresh = λ other others more fillers follows. close-all other 0 others more fillers;
  kept = λ text other front rest more a e alikes follows. close-kept text other 0 front rest more a e alikes;
  empty = λ text rest a e. absurd (close-nothing text rest a e);
  mended = λ text c front rest e. let (w, go) = close-mended text 0 (c ∷ front) rest e in (w, λ other others more alikes fillers follows. go other others more alikes fillers);
}
  where
    -- what would be taken of nothing would be taken before nothing too
    close-nothing : (text : List ℕ) (rest : List Token) (a : Token) → to_close text 1 rest ≡ Behind a rest → ⊥
    close-nothing text rest a e =
        let none : ◌≡◌ {A = Front Token} (Stops []) (Behind a []) = close-kept text text 0 [] rest [] a e tt in absurd (cc)

pub bracketed-continues : Continues is_whole none (is_sign 40) Anything false (Opening ∷ Closing ∷ []) bracketed
bracketed-continues = continues-then (continues-one (is_sign 40) (sign-respects 40) (sign-whole 40) Opening refl) (λ opening. to_close-continues)

abbrev ending_sql : List ℕ → Token → List Token → Bool → Front (List Token)
ending_sql text c tokens sql = elim sql as (λ _. Front (List Token)) [ true ↦ to_end text tokens | false ↦ Stops (c ∷ tokens) ]

ending-again : (text other : List ℕ) (c : Token) (rest : List Token) (b : Bool) → is_sql text c ≡ b → Alike text c other c → to_end other (c ∷ rest) ≡ ending_sql other c rest b
ending-again text other c rest b f alike = ap (ending_sql other c rest) (sym (sql-respects text other c c alike) ∙ f)

to_end-run : (text : List ℕ) (tokens : List Token) → Outcome is_whole none none to_end text tokens (to_end text tokens)
to_end-run text [] = leaves-empty [] to_end text
to_end-run text (c ∷ tokens) = by_sql (to_end-run text tokens) (is_sql text c) refl
  where
    by_sql : Outcome is_whole none none to_end text tokens (to_end text tokens) → (b : Bool) → is_sql text c ≡ b → Outcome is_whole none none to_end text (c ∷ tokens) (ending_sql text c tokens b)
    by_sql others true f = taken-first to_end to_end text c tokens (sql-whole text c f) (λ other alike rest. ending-again text other c rest true f alike) (to_end text tokens) others
    by_sql others false f = stops-first to_end text c tokens (λ other alike rest. ending-again text other c rest false f alike)

-- all is taken, and nothing is made of it
end-left : (text : List ℕ) (tokens : List Token) (all rest : List Token) → to_end text tokens ≡ Behind all rest → (all ≡ []) × (rest ≡ [])
end-left text [] all rest e = let (same, left) = behind-same [] all [] rest e in (sym same, sym left)
end-left text (c ∷ tokens) all rest e = by_sql (end-left text tokens all rest) (is_sql text c) e
  where
    by_sql : (to_end text tokens ≡ Behind all rest → (all ≡ []) × (rest ≡ [])) → (b : Bool) → ending_sql text c tokens b ≡ Behind all rest → (all ≡ []) × (rest ≡ [])
    by_sql others true e = others e
    by_sql others false e = absurd (cc)

end-again : (text other : List ℕ) (front rest : List Token) → OneTaken (to_end text (front ++ rest)) rest → Alikes text other front → to_end other front ≡ Behind [] []
end-again text other [] rest one alikes = refl
end-again text other (c ∷ front) rest one alikes = by_sql (λ is. end-again text other front rest is alikes.1) (is_sql text c) refl one
  where
    by_sql : (OneTaken (to_end text (front ++ rest)) rest → to_end other front ≡ Behind [] []) → (b : Bool) → is_sql text c ≡ b → OneTaken (ending_sql text c (front ++ rest) b) rest → to_end other (c ∷ front) ≡ Behind [] []
    by_sql others true f one = ending-again text other c front true f alikes.0 ∙ others one
    by_sql others false f (inl (a, e)) = absurd (cc)
    by_sql others false f (inr e) = let same : (c ∷ front) ++ rest ≡ rest = cc in absurd (longer c front rest same)

to_end-continues : Continues is_whole none none Ends true [] to_end
to_end-continues = record {
  part = record { run = to_end-run };
  fresh = fresh_end;
  kept = λ text other front rest more all e alikes follows.
      ap (λ m. to_end other (front ++ m)) follows ∙ ap (to_end other) (append-nil front) ∙ end-again text other front rest (inl (all, e)) alikes
      ∙ ap (λ x. Behind x []) (sym (end-left text (front ++ rest) all rest e).0) ∙ ap (λ x. Behind all x) (sym follows);
  empty = λ text rest all e. refl;
  mended = λ text c front rest e. ([], λ other others more alikes fillers follows. mended_end text other (c ∷ front) rest others more e alikes fillers follows);
}
  where
    fresh_end : (other : List ℕ) (others more : List Token) → AreFillers other [] others → Ends other more → Passed (to_end other (others ++ more)) more
    fresh_end other [] more fillers follows = ([], ap (to_end other) follows ∙ ap (λ x. Behind [] x) (sym follows))
    fresh_end other (c ∷ others) more fillers follows = absurd fillers

    mended_end : (text other : List ℕ) (front rest others more : List Token) → to_end text (front ++ rest) ≡ Stops rest → Alikes text other front → AreFillers other [] others → Ends other more
        → Passed (to_end other (front ++ (others ++ more))) more
    mended_end text other front rest [] more e alikes fillers follows =
        ([], ap (λ m. to_end other (front ++ m)) follows ∙ ap (to_end other) (append-nil front) ∙ end-again text other front rest (inr e) alikes ∙ ap (λ x. Behind [] x) (sym follows))
    mended_end text other front rest (c ∷ others) more e alikes fillers follows = absurd fillers

pub some_to_end-continues : Continues is_whole none is_sql Ends false (Capitals (codes "A") refl ∷ []) some_to_end
some_to_end-continues = continues-then (continues-one is_sql sql-respects sql-whole (Capitals (codes "A") refl) refl) (λ token. to_end-continues)

abbrev typing : Token → List ℕ → Token → List Token → Bool → Front Token
typing last text c tokens test = elim test as (λ _. Front Token) [ true ↦ last_type_word text c tokens | false ↦ Behind last (c ∷ tokens) ]

typing-again : (text other : List ℕ) (last c : Token) (rest : List Token) (b : Bool) → is_type_word text c ≡ b → Alike text c other c → last_type_word other last (c ∷ rest) ≡ typing last other c rest b
typing-again text other last c rest b f alike = ap (typing last other c rest) (sym (type-respects text other c c alike) ∙ f)

last_type_word-run : (text : List ℕ) (last : Token) (tokens : List Token) → Outcome is_whole none none (λ text. last_type_word text last) text tokens (last_type_word text last tokens)
last_type_word-run text last [] = leaves-empty last (λ text. last_type_word text last) text
last_type_word-run text last (c ∷ tokens) = by_word (last_type_word-run text c tokens) (is_type_word text c) refl
  where
    by_word : Outcome is_whole none none (λ text. last_type_word text c) text tokens (last_type_word text c tokens) → (b : Bool) → is_type_word text c ≡ b
        → Outcome is_whole none none (λ text. last_type_word text last) text (c ∷ tokens) (typing last text c tokens b)
    by_word others true f =
        taken-first (λ text. last_type_word text c) (λ text. last_type_word text last) text c tokens (type-whole text c f)
        (λ other alike rest. typing-again text other last c rest true f alike) (last_type_word text c tokens) others
    by_word others false f = leaves-first last (λ text. last_type_word text last) text c tokens (λ other alike rest. typing-again text other last c rest false f alike)

last_type_word-part : (last : Token) → Part is_whole none none (λ text. last_type_word text last)
last_type_word-part last = record { run = λ text tokens. last_type_word-run text last tokens }

type-ends : (text : List ℕ) (last : Token) (rest : List Token) → begins (is_type_word text) rest ≡ false → last_type_word text last rest ≡ Behind last rest
type-ends text last [] e = refl
type-ends text last (c ∷ rest) e = ap (typing last text c rest) e

type-kept : (text other : List ℕ) (last : Token) (front rest more : List Token) (a : Token) → last_type_word text last (front ++ rest) ≡ Behind a rest → Alikes text other front → Apart other more
    → last_type_word other last (front ++ more) ≡ Behind a more
type-kept text other last [] rest more a e alikes follows = type-ends other last more (apart-type other more follows) ∙ ap (λ x. Behind x more) (same rest e)
  where
    by_word : (c : Token) (rest : List Token) (b : Bool) → typing last text c rest b ≡ Behind a (c ∷ rest) → last ≡ a
    by_word c rest true e = let (front, is) = taken (last_type_word-part c) text rest (c ∷ rest) a e in let long : length rest ≡ length (front ++ (c ∷ rest)) = ap length is in absurd (omega (arith, long, length-append front (c ∷ rest)))
    by_word c rest false e = (behind-same last a (c ∷ rest) (c ∷ rest) e).0

    same : (rest : List Token) → last_type_word text last rest ≡ Behind a rest → last ≡ a
    same [] e = (behind-same last a [] [] e).0
    same (c ∷ rest) e = by_word c rest (is_type_word text c) e
type-kept text other last (c ∷ front) rest more a e alikes follows = by_word (λ is. type-kept text other c front rest more a is alikes.1 follows) (is_type_word text c) refl e
  where
    by_word : (last_type_word text c (front ++ rest) ≡ Behind a rest → last_type_word other c (front ++ more) ≡ Behind a more) → (b : Bool) → is_type_word text c ≡ b
        → typing last text c (front ++ rest) b ≡ Behind a rest → last_type_word other last (c ∷ (front ++ more)) ≡ Behind a more
    by_word others true f e = typing-again text other last c (front ++ more) true f alikes.0 ∙ others e
    by_word others false f e = absurd (longer c front rest (behind-same last a ((c ∷ front) ++ rest) rest e).1)

type-goes : (text : List ℕ) (last : Token) (tokens rest : List Token) → last_type_word text last tokens ≡ Stops rest → ⊥
type-goes text last [] rest e = absurd (cc)
type-goes text last (c ∷ tokens) rest e = by_word (type-goes text c tokens rest) (is_type_word text c) e
  where
    by_word : (last_type_word text c tokens ≡ Stops rest → ⊥) → (b : Bool) → typing last text c tokens b ≡ Stops rest → ⊥
    by_word others true e = others e
    by_word others false e = absurd (cc)

pub last_type_word-continues : (last : Token) → Continues is_whole none none Apart true [] (λ text. last_type_word text last)
last_type_word-continues last = record {
  part = last_type_word-part last;
  fresh = fresh_type;
  kept = λ text other front rest more a e alikes follows. type-kept text other last front rest more a e alikes follows;
  empty = λ text rest a e. refl;
  mended = λ text c front rest e. absurd (type-goes text last ((c ∷ front) ++ rest) rest e);
}
  where
    fresh_type : (other : List ℕ) (others more : List Token) → AreFillers other [] others → Apart other more → Passed (last_type_word other last (others ++ more)) more
    fresh_type other [] more fillers follows = (last, type-ends other last more (apart-type other more follows))
    fresh_type other (c ∷ others) more fillers follows = absurd fillers
