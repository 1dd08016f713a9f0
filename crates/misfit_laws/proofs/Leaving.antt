-- A text leaves a grammar before the tokens at which its production stops.
use Rattle.std.proofs.Common.{◌≡◌, ℕ, Bool, false, ◌⊎◌, List, [], ◌∷◌, ◌++◌, refl, sym, ap, ◌∙◌, subst, inl, inr}
use Rattle.std.proofs.lemmas.List.{append_assoc, append-nil}
use Rattle.std.specs.Prelude.{map}
use Rattle.schema_spec.specs.declared.token.Token.{Token}
use Rattle.schema_spec.specs.Tokens.{tokens_of}
use Rattle.schema_spec.specs.Fronts.{Front, Behind, Stops, ◌>>=◌, ended}
use Rattle.grammar_laws.specs.Misfits.{BeginAlike}
use Rattle.grammar_laws.specs.Lexemes.{is_whole, GoesOn}
use Rattle.grammar_laws.specs.LexemesLaws.{goes-on}
use Rattle.grammar_laws.specs.AlikeLaws.{begun-alike, begun-fewer}
use Rattle.grammar_laws.specs.TestsLaws.{none}
use Rattle.grammar_laws.specs.ProductionsLaws.{Alikes, alikes-front, alikes-back, Outcome}
use Rattle.misfit_laws.specs.Beginnings.{Begins, NoneGoesOn, LeavesBefore}
use Rattle.misfit_laws.proofs.Fillers.{Filler, lexeme, AreFillers, fillers-lexemes, spelled-fillers}
use Rattle.misfit_laws.proofs.Continuing.{Ends, Passed, Continues, bind-passed, stops-again}

-- a production takes the whole of a text
pub record TakesAll {A : Type 0} (P : List ℕ → List Token → Front A) : Type 0 where
  pub all : (text : List ℕ) (tokens rest : List Token) (a : A) → P text tokens ≡ Behind a rest → rest ≡ []

pub ended-all : {A : Type 0} (a : A) → TakesAll (λ text. ended a)
ended-all {A} a = record { all = λ text tokens rest b e. left tokens rest b e }
  where
    left : (tokens rest : List Token) (b : A) → ended a tokens ≡ Behind b rest → rest ≡ []
    left [] rest b e = let same : ◌≡◌ {A = List Token} [] rest = cc in sym same
    left (c ∷ tokens) rest b e = absurd (cc)

pub then-all : {A B : Type 0} (P : List ℕ → List Token → Front A) {Q : A → List ℕ → List Token → Front B} → ((a : A) → TakesAll (Q a)) → TakesAll (λ text tokens. P text tokens >>= λ a rest. Q a text rest)
then-all {A} {B} P {Q} q = record {
  all = λ text tokens rest b e. let (a, middle, first, second) = bind-passed (P text tokens) (λ a rest. Q a text rest) b rest e in (q a).all text middle rest b second;
}

-- of two ways to part some tokens one is the earlier, or they are one
fronts : (f g rest left : List Token) → f ++ rest ≡ g ++ left
    → ((c : Token) × (m : List Token) × (g ≡ f ++ (c ∷ m)) × (rest ≡ (c ∷ m) ++ left)) ⊎ (((c : Token) × (m : List Token) × (f ≡ g ++ (c ∷ m)) × (left ≡ (c ∷ m) ++ rest)) ⊎ (rest ≡ left))
fronts [] [] rest left e = inr (inr e)
fronts [] (c ∷ g) rest left e = inl (c, g, refl, e)
fronts (c ∷ f) [] rest left e = inr (inl (c, f, refl, sym e))
fronts (c ∷ f) (d ∷ g) rest left e = by_tails (fronts f g rest left tail)
  where
    head : c ≡ d
    head = cc

    tail : f ++ rest ≡ g ++ left
    tail = cc

    by_tails : ((x : Token) × (m : List Token) × (g ≡ f ++ (x ∷ m)) × (rest ≡ (x ∷ m) ++ left)) ⊎ (((x : Token) × (m : List Token) × (f ≡ g ++ (x ∷ m)) × (left ≡ (x ∷ m) ++ rest)) ⊎ (rest ≡ left))
        → ((x : Token) × (m : List Token) × (d ∷ g ≡ (c ∷ f) ++ (x ∷ m)) × (rest ≡ (x ∷ m) ++ left)) ⊎ (((x : Token) × (m : List Token) × (c ∷ f ≡ (d ∷ g) ++ (x ∷ m)) × (left ≡ (x ∷ m) ++ rest)) ⊎ (rest ≡ left))
    by_tails (inl (x, m, longer, more)) = inl (x, m, ap (λ y. y ∷ g) (sym head) ∙ ap (λ y. c ∷ y) longer, more)
    by_tails (inr (inl (x, m, longer, more))) = inr (inl (x, m, ap (λ y. y ∷ f) head ∙ ap (λ y. d ∷ y) longer, more))
    by_tails (inr (inr same)) = inr (inr same)

-- a production that takes the whole of a text
module _ {A : Type 0} (at : List ℕ → Token → Bool) (short : List Filler) (P : List ℕ → List Token → Front A) (p : Continues is_whole none at Ends false short P) where
  -- a text with the same tokens up to the first that does not fit stops there too
  pub same-stop : (text other : List ℕ) (front : List Token) (misfit : Token) (behind others : List Token) → BeginAlike text other (front ++ (misfit ∷ [])) behind others
      → P text (tokens_of text) ≡ Stops (misfit ∷ behind) → P other (tokens_of other) ≡ Stops (misfit ∷ others)
  same-stop text other front misfit behind others begin e =
      let alikes = begun-alike text other (front ++ (misfit ∷ [])) behind others begin in
      let last = alikes-back text other front (misfit ∷ []) alikes in
      let parted : tokens_of text ≡ front ++ (misfit ∷ behind) = begin.tokens ∙ append_assoc front (misfit ∷ []) behind in
      ap (P other) (begin.other_tokens ∙ append_assoc front (misfit ∷ []) others)
      ∙ stops-again p.part text other front (misfit ∷ behind) (misfit ∷ others) (ap (P text) (sym parted) ∙ e) (alikes-front text other front (misfit ∷ []) alikes) (refl, last.0)

  abbrev IsText : List ℕ → Type 0
  IsText text = Passed (P text (tokens_of text)) []

  mended-all : (text : List ℕ) (front rest : List Token) → P text (front ++ rest) ≡ Stops rest
      → (w : List Filler) × ((other : List ℕ) (others : List Token) → Alikes text other front → AreFillers other w others → Passed (P other (front ++ others)) [])
  mended-all text [] rest e =
      (short, λ other others alikes fillers. let (a, is) = p.fresh other others [] fillers refl in (a, ap (P other) (sym (append-nil others)) ∙ is))
  mended-all text (c ∷ front) rest e =
      let (w, go) = p.mended text c front rest e in
      (w, λ other others alikes fillers. let (a, is) = go other others [] alikes fillers refl in (a, ap (λ o. P other ((c ∷ front) ++ o)) (sym (append-nil others)) ∙ is))

  -- the text that is filled
  filled : (text : List ℕ) (front rest : List Token) (w : List Filler) → ((other : List ℕ) (others : List Token) → Alikes text other front → AreFillers other w others → Passed (P other (front ++ others)) [])
      → GoesOn text front rest (map lexeme w) → Begins IsText text front rest
  filled text front rest w go goes =
      let (a, is) = go goes.other goes.tokens (begun-alike text goes.other front rest goes.tokens goes.begin) (spelled-fillers goes.other w goes.tokens goes.spelled) in
      record { other = goes.other; others = goes.tokens; begin = goes.begin; is_of_grammar = (a, ap (P goes.other) goes.begin.other_tokens ∙ is) }

  none-goes : (text : List ℕ) (front rest : List Token) → P text (tokens_of text) ≡ Stops rest → NoneGoesOn IsText text front rest
  none-goes text front [] e = λ (a, is). let wrong = sym e ∙ is in absurd (cc)
  none-goes text front (misfit ∷ behind) e = λ goes.
      let wrong = sym (same-stop text goes.other front misfit behind goes.others goes.begin e) ∙ goes.is_of_grammar.1 in absurd (cc)

  pub stop-leaves : (text : List ℕ) (rest : List Token) → P text (tokens_of text) ≡ Stops rest → LeavesBefore IsText text rest
  stop-leaves text rest e =
      let stop = subst (λ x. Outcome is_whole none at P text (tokens_of text) x) e (p.part.run text (tokens_of text)) in
      let (w, go) = mended-all text stop.front rest (ap (P text) (sym stop.parted) ∙ e) in
      record {
        front = stop.front;
        parted = stop.parted;
        begins = filled text stop.front rest w go (goes-on text stop.front rest (map lexeme w) stop.parted stop.kinds (fillers-lexemes w));
        misfit = none-goes text stop.front rest e;
      }

  -- a text of the grammar leaves it nowhere
  text-stays : (text : List ℕ) (front rest : List Token) → tokens_of text ≡ front ++ rest → NoneGoesOn IsText text front rest → IsText text → ⊥
  text-stays text front [] parted none_goes is = none_goes is
  text-stays text front (c ∷ rest) parted none_goes is =
      let both : tokens_of text ≡ (front ++ (c ∷ [])) ++ rest = parted ∙ sym (append_assoc front (c ∷ []) rest) in
      none_goes (record { other = text; others = rest; begin = record { tokens = both; other_tokens = both; bytes = refl }; is_of_grammar = is })

  -- no text of the grammar begins with more
  never-more : (text : List ℕ) (f g rest left : List Token) (c : Token) (m : List Token) → NoneGoesOn IsText text f rest → Begins IsText text g left → g ≡ f ++ (c ∷ m) → rest ≡ (c ∷ m) ++ left → ⊥
  never-more text f g rest left c m none_goes begins longer more =
      let whole : g ≡ (f ++ (c ∷ [])) ++ m = longer ∙ sym (append_assoc f (c ∷ []) m) in
      let begin = subst (λ x. BeginAlike text begins.other x left begins.others) whole begins.begin in
      let none : NoneGoesOn IsText text f (c ∷ (m ++ left)) = subst (NoneGoesOn IsText text f) more none_goes in
      none (record { other = begins.other; others = m ++ begins.others; begin = begun-fewer text begins.other (f ++ (c ∷ [])) m left begins.others begin; is_of_grammar = begins.is_of_grammar })

  pub leaves-once : (text : List ℕ) (rest left : List Token) → LeavesBefore IsText text rest → LeavesBefore IsText text left → rest ≡ left
  leaves-once text rest left a b = by_fronts (fronts a.front b.front rest left (sym a.parted ∙ b.parted))
    where
      by_fronts : ((c : Token) × (m : List Token) × (b.front ≡ a.front ++ (c ∷ m)) × (rest ≡ (c ∷ m) ++ left)) ⊎ (((c : Token) × (m : List Token) × (a.front ≡ b.front ++ (c ∷ m)) × (left ≡ (c ∷ m) ++ rest)) ⊎ (rest ≡ left)) → rest ≡ left
      by_fronts (inl (c, m, longer, more)) = absurd (never-more text a.front b.front rest left c m a.misfit b.begins longer more)
      by_fronts (inr (inl (c, m, longer, more))) = absurd (never-more text b.front a.front left rest c m b.misfit a.begins longer more)
      by_fronts (inr (inr same)) = same

  pub leaves-stop : TakesAll P → (text : List ℕ) (rest : List Token) → LeavesBefore IsText text rest → P text (tokens_of text) ≡ Stops rest
  leaves-stop takes text rest leaves = by_outcome (P text (tokens_of text)) refl
    where
      by_outcome : (x : Front A) → P text (tokens_of text) ≡ x → P text (tokens_of text) ≡ Stops rest
      by_outcome (Behind a left) e =
          absurd (text-stays text leaves.front rest leaves.parted leaves.misfit (a, e ∙ ap (λ x. Behind a x) (takes.all text (tokens_of text) left a e)))
      by_outcome (Stops left) e = e ∙ ap (λ x. Stops x) (leaves-once text left rest (stop-leaves text left e) leaves)

  -- a text that is not of the grammar leaves it
  pub outside-leaves : TakesAll P → (text : List ℕ) → ¬ IsText text → (rest : List Token) × LeavesBefore IsText text rest
  outside-leaves takes text not_text = by_outcome (P text (tokens_of text)) refl
    where
      by_outcome : (x : Front A) → P text (tokens_of text) ≡ x → (rest : List Token) × LeavesBefore IsText text rest
      by_outcome (Behind a left) e = absurd (not_text (a, e ∙ ap (λ x. Behind a x) (takes.all text (tokens_of text) left a e)))
      by_outcome (Stops left) e = (left, stop-leaves text left e)
