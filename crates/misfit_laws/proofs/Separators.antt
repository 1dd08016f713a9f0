-- Tokens up to a separator: an expression in the list of an index.
use Rattle.std.proofs.Common.{◌≡◌, ℕ, zero, suc, Bool, true, false, List, [], ◌∷◌, ◌++◌, length, refl, sym, ap, ◌∙◌, arith, length-append}
use Rattle.std.specs.Prelude.{IsTrue}
use Rattle.std.specs.List.{AllByRecursion}
use Rattle.schema_spec.specs.declared.token.Token.{Token}
use Rattle.schema_spec.specs.Words.{is_sql}
use Rattle.schema_spec.specs.Fronts.{Front, Behind, Stops, begins}
use Rattle.schema_spec.specs.Brackets.{open_behind, ends_part, to_separator}
use Rattle.grammar_laws.specs.Lexemes.{is_whole}
use Rattle.grammar_laws.specs.TestsLaws.{Alike, none, is_wordy, sql-respects, ends-respects, open-respects, sql-whole, wordy-not_end, wordy-sql, wordy-open}
use Rattle.grammar_laws.specs.ProductionsLaws.{Alikes, Outcome, Part}
use Rattle.misfit_laws.proofs.Fillers.{Filler, Closing, lexeme, token_of, AreFillers}
use Rattle.misfit_laws.proofs.Continuing.{longer, taken, behind-same}
use Rattle.misfit_laws.proofs.Skips.{taken-first, stops-first, leaves-first, stops-empty, closings, close-filler}

module _ {A : Type 0} (a : A) where
  abbrev parting_sql : List ℕ → Token → List Token → ℕ → Bool → Front A
  parting_sql text c tokens depth sql = elim sql as (λ _. Front A) [ true ↦ to_separator a text depth tokens | false ↦ Stops (c ∷ tokens) ]

  abbrev parting : List ℕ → Token → List Token → Bool → Front A
  parting text c tokens ends = elim ends as (λ _. Front A) [ true ↦ Behind a (c ∷ tokens) | false ↦ parting_sql text c tokens (open_behind text 0 c) (is_sql text c) ]

  abbrev separated : ℕ → List ℕ → List Token → Front A
  separated depth text = to_separator a text depth

  same_end : (text other : List ℕ) (c : Token) (rest : List Token) → ends_part text c ≡ true → Alike text c other c → to_separator a other zero (c ∷ rest) ≡ Behind a (c ∷ rest)
  same_end text other c rest e alike = ap (parting other c rest) (sym (ends-respects text other c c alike) ∙ e)

  same_zero : (text : List ℕ) (c : Token) → ends_part text c ≡ false → (b : Bool) → is_sql text c ≡ b → (other : List ℕ) → Alike text c other c → (rest : List Token)
      → to_separator a other zero (c ∷ rest) ≡ parting_sql other c rest (open_behind text 0 c) b
  same_zero text c e b f other alike rest =
      ap (parting other c rest) (sym (ends-respects text other c c alike) ∙ e)
      ∙ ap (λ n. parting_sql other c rest n (is_sql other c)) (sym (open-respects 0 text other c c alike))
      ∙ ap (parting_sql other c rest (open_behind text 0 c)) (sym (sql-respects text other c c alike) ∙ f)

  same_more : (text : List ℕ) (depth : ℕ) (c : Token) (b : Bool) → is_sql text c ≡ b → (other : List ℕ) → Alike text c other c → (rest : List Token)
      → to_separator a other (suc depth) (c ∷ rest) ≡ parting_sql other c rest (open_behind text (suc depth) c) b
  same_more text depth c b f other alike rest =
      ap (λ n. parting_sql other c rest n (is_sql other c)) (sym (open-respects (suc depth) text other c c alike))
      ∙ ap (parting_sql other c rest (open_behind text (suc depth) c)) (sym (sql-respects text other c c alike) ∙ f)

  pub to_separator-run : (text : List ℕ) (depth : ℕ) (tokens : List Token) → Outcome is_whole none none (separated depth) text tokens (to_separator a text depth tokens)
  to_separator-run text zero [] = stops-empty (separated zero) text
  to_separator-run text (suc depth) [] = stops-empty (separated (suc depth)) text
  to_separator-run text zero (c ∷ tokens) = by_end (to_separator-run text (open_behind text 0 c) tokens) (ends_part text c) refl
    where
      by_sql : Outcome is_whole none none (separated (open_behind text 0 c)) text tokens (to_separator a text (open_behind text 0 c) tokens) → ends_part text c ≡ false → (b : Bool) → is_sql text c ≡ b
          → Outcome is_whole none none (separated zero) text (c ∷ tokens) (parting_sql text c tokens (open_behind text 0 c) b)
      by_sql others e true f = taken-first (separated (open_behind text 0 c)) (separated zero) text c tokens (sql-whole text c f) (same_zero text c e true f) (to_separator a text (open_behind text 0 c) tokens) others
      by_sql others e false f = stops-first (separated zero) text c tokens (same_zero text c e false f)

      by_end : Outcome is_whole none none (separated (open_behind text 0 c)) text tokens (to_separator a text (open_behind text 0 c) tokens) → (b : Bool) → ends_part text c ≡ b
          → Outcome is_whole none none (separated zero) text (c ∷ tokens) (parting text c tokens b)
      by_end others true e = leaves-first a (separated zero) text c tokens (λ other alike rest. same_end text other c rest e alike)
      by_end others false e = by_sql others e (is_sql text c) refl
  to_separator-run text (suc depth) (c ∷ tokens) = by_sql (to_separator-run text (open_behind text (suc depth) c) tokens) (is_sql text c) refl
    where
      by_sql : Outcome is_whole none none (separated (open_behind text (suc depth) c)) text tokens (to_separator a text (open_behind text (suc depth) c) tokens) → (b : Bool) → is_sql text c ≡ b
          → Outcome is_whole none none (separated (suc depth)) text (c ∷ tokens) (parting_sql text c tokens (open_behind text (suc depth) c) b)
      by_sql others true f = taken-first (separated (open_behind text (suc depth) c)) (separated (suc depth)) text c tokens (sql-whole text c f) (same_more text depth c true f) (to_separator a text (open_behind text (suc depth) c) tokens) others
      by_sql others false f = stops-first (separated (suc depth)) text c tokens (same_more text depth c false f)

  -- what is left is a separator, no token of SQL, or nothing
  abbrev pub IsLeft : List ℕ → Front A → Type 0
  IsLeft text (Behind b rest) = begins (ends_part text) rest ≡ true
  IsLeft text (Stops rest) = begins (is_sql text) rest ≡ false

  pub separator-left : (text : List ℕ) (depth : ℕ) (tokens : List Token) → IsLeft text (to_separator a text depth tokens)
  separator-left text zero [] = refl
  separator-left text (suc depth) [] = refl
  separator-left text zero (c ∷ tokens) = by_end (separator-left text (open_behind text 0 c) tokens) (ends_part text c) refl
    where
      by_sql : IsLeft text (to_separator a text (open_behind text 0 c) tokens) → (b : Bool) → is_sql text c ≡ b → IsLeft text (parting_sql text c tokens (open_behind text 0 c) b)
      by_sql others true e = others
      by_sql others false e = e

      by_end : IsLeft text (to_separator a text (open_behind text 0 c) tokens) → (b : Bool) → ends_part text c ≡ b → IsLeft text (parting text c tokens b)
      by_end others true e = e
      by_end others false e = by_sql others (is_sql text c) refl
  separator-left text (suc depth) (c ∷ tokens) = by_sql (separator-left text (open_behind text (suc depth) c) tokens) (is_sql text c) refl
    where
      by_sql : IsLeft text (to_separator a text (open_behind text (suc depth) c) tokens) → (b : Bool) → is_sql text c ≡ b → IsLeft text (parting_sql text c tokens (open_behind text (suc depth) c) b)
      by_sql others true e = others
      by_sql others false e = e

  pub separator-part : (depth : ℕ) → Part is_whole none none (separated depth)
  separator-part depth = record { run = λ text tokens. to_separator-run text depth tokens }

  -- what is made is given
  separator-value : (text : List ℕ) (depth : ℕ) (tokens rest : List Token) (b : A) → to_separator a text depth tokens ≡ Behind b rest → a ≡ b
  separator-value text zero [] rest b e = absurd (cc)
  separator-value text (suc depth) [] rest b e = absurd (cc)
  separator-value text zero (c ∷ tokens) rest b e = by_end (λ is. separator-value text (open_behind text 0 c) tokens rest b is) (ends_part text c) e
    where
      by_sql : (to_separator a text (open_behind text 0 c) tokens ≡ Behind b rest → a ≡ b) → (sql : Bool) → parting_sql text c tokens (open_behind text 0 c) sql ≡ Behind b rest → a ≡ b
      by_sql others true e = others e
      by_sql others false e = absurd (cc)

      by_end : (to_separator a text (open_behind text 0 c) tokens ≡ Behind b rest → a ≡ b) → (ends : Bool) → parting text c tokens ends ≡ Behind b rest → a ≡ b
      by_end others true e = (behind-same a b (c ∷ tokens) rest e).0
      by_end others false e = by_sql others (is_sql text c) e
  separator-value text (suc depth) (c ∷ tokens) rest b e = by_sql (λ is. separator-value text (open_behind text (suc depth) c) tokens rest b is) (is_sql text c) e
    where
      by_sql : (to_separator a text (open_behind text (suc depth) c) tokens ≡ Behind b rest → a ≡ b) → (sql : Bool) → parting_sql text c tokens (open_behind text (suc depth) c) sql ≡ Behind b rest → a ≡ b
      by_sql others true e = others e
      by_sql others false e = absurd (cc)

  -- in brackets something is taken
  separator-some : (text : List ℕ) (depth : ℕ) (rest : List Token) (b : A) → to_separator a text (suc depth) rest ≡ Behind b rest → ⊥
  separator-some text depth [] b e = absurd (cc)
  separator-some text depth (c ∷ rest) b e = by_sql (is_sql text c) e
    where
      by_sql : (sql : Bool) → parting_sql text c rest (open_behind text (suc depth) c) sql ≡ Behind b (c ∷ rest) → ⊥
      by_sql true e =
          let (front, is) = taken (separator-part (open_behind text (suc depth) c)) text rest (c ∷ rest) b e in
          let long : length rest ≡ length (front ++ (c ∷ rest)) = ap length is in omega (arith, long, length-append front (c ∷ rest))
      by_sql false e = absurd (cc)

  ends-now : (other : List ℕ) (more : List Token) → begins (ends_part other) more ≡ true → to_separator a other zero more ≡ Behind a more
  ends-now other [] e = absurd (cc)
  ends-now other (c ∷ more) e = ap (parting other c more) e

  pub separator-kept : (text other : List ℕ) (depth : ℕ) (front rest more : List Token) (b : A) → to_separator a text depth (front ++ rest) ≡ Behind b rest → Alikes text other front → begins (ends_part other) more ≡ true
      → to_separator a other depth (front ++ more) ≡ Behind b more
  separator-kept text other zero [] rest more b e alikes ends = ends-now other more ends ∙ ap (λ v. Behind v more) (separator-value text zero rest rest b e)
  separator-kept text other (suc depth) [] rest more b e alikes ends = absurd (separator-some text depth rest b e)
  separator-kept text other zero (c ∷ front) rest more b e alikes ends =
      by_end (λ is. separator-kept text other (open_behind text 0 c) front rest more b is alikes.1 ends) (ends_part text c) refl e
    where
      by_sql : (to_separator a text (open_behind text 0 c) (front ++ rest) ≡ Behind b rest → to_separator a other (open_behind text 0 c) (front ++ more) ≡ Behind b more) → ends_part text c ≡ false
          → (sql : Bool) → is_sql text c ≡ sql → parting_sql text c (front ++ rest) (open_behind text 0 c) sql ≡ Behind b rest → to_separator a other zero (c ∷ (front ++ more)) ≡ Behind b more
      by_sql others no_end true f e = same_zero text c no_end true f other alikes.0 (front ++ more) ∙ others e
      by_sql others no_end false f e = absurd (cc)

      by_end : (to_separator a text (open_behind text 0 c) (front ++ rest) ≡ Behind b rest → to_separator a other (open_behind text 0 c) (front ++ more) ≡ Behind b more)
          → (end : Bool) → ends_part text c ≡ end → parting text c (front ++ rest) end ≡ Behind b rest → to_separator a other zero (c ∷ (front ++ more)) ≡ Behind b more
      by_end others true f e = absurd (longer c front rest (behind-same a b ((c ∷ front) ++ rest) rest e).1)
      by_end others false f e = by_sql others f (is_sql text c) refl e
  separator-kept text other (suc depth) (c ∷ front) rest more b e alikes ends =
      by_sql (λ is. separator-kept text other (open_behind text (suc depth) c) front rest more b is alikes.1 ends) (is_sql text c) refl e
    where
      by_sql : (to_separator a text (open_behind text (suc depth) c) (front ++ rest) ≡ Behind b rest → to_separator a other (open_behind text (suc depth) c) (front ++ more) ≡ Behind b more)
          → (sql : Bool) → is_sql text c ≡ sql → parting_sql text c (front ++ rest) (open_behind text (suc depth) c) sql ≡ Behind b rest → to_separator a other (suc depth) (c ∷ (front ++ more)) ≡ Behind b more
      by_sql others true f e = same_more text depth c true f other alikes.0 (front ++ more) ∙ others e
      by_sql others false f e = absurd (cc)

  -- the closing brackets that are left
  separator-closed : (other : List ℕ) (depth : ℕ) (others more : List Token) → AreFillers other (closings depth) others → begins (ends_part other) more ≡ true → to_separator a other depth (others ++ more) ≡ Behind a more
  separator-closed other zero [] more fillers ends = ends-now other more ends
  separator-closed other zero (c ∷ others) more fillers ends = absurd fillers
  separator-closed other (suc depth) [] more fillers ends = absurd fillers
  separator-closed other (suc depth) (c ∷ others) more fillers ends =
      ap (parting_sql other c (others ++ more) (open_behind other (suc depth) c)) (sql-respects other (lexeme Closing).bytes c (token_of (lexeme Closing)) fillers.0)
      ∙ ap (λ n. to_separator a other n (others ++ more)) (close-filler other depth c fillers.0)
      ∙ separator-closed other depth others more fillers.1 ends

  abbrev ClosedBefore : List ℕ → ℕ → List Token → Type 0
  ClosedBefore text depth front =
      (w : List Filler) × ((other : List ℕ) (others more : List Token) → Alikes text other front → AreFillers other w others → begins (ends_part other) more ≡ true
      → to_separator a other depth (front ++ (others ++ more)) ≡ Behind a more)

  pub separator-mended : (text : List ℕ) (depth : ℕ) (front rest : List Token) → to_separator a text depth (front ++ rest) ≡ Stops rest → ClosedBefore text depth front
  separator-mended text depth [] rest e = (closings depth, λ other others more alikes fillers ends. separator-closed other depth others more fillers ends)
  separator-mended text zero (c ∷ front) rest e = by_end (λ is. separator-mended text (open_behind text 0 c) front rest is) (ends_part text c) refl e
    where
      by_sql : (to_separator a text (open_behind text 0 c) (front ++ rest) ≡ Stops rest → ClosedBefore text (open_behind text 0 c) front) → ends_part text c ≡ false
          → (sql : Bool) → is_sql text c ≡ sql → parting_sql text c (front ++ rest) (open_behind text 0 c) sql ≡ Stops rest → ClosedBefore text zero (c ∷ front)
      by_sql others no_end true f e =
          let (w, go) = others e in
          (w, λ other others more alikes fillers ends. same_zero text c no_end true f other alikes.0 (front ++ (others ++ more)) ∙ go other others more alikes.1 fillers ends)
      by_sql others no_end false f e = let same : (c ∷ front) ++ rest ≡ rest = cc in absurd (longer c front rest same)

      by_end : (to_separator a text (open_behind text 0 c) (front ++ rest) ≡ Stops rest → ClosedBefore text (open_behind text 0 c) front)
          → (end : Bool) → ends_part text c ≡ end → parting text c (front ++ rest) end ≡ Stops rest → ClosedBefore text zero (c ∷ front)
      by_end others true f e = absurd (cc)
      by_end others false f e = by_sql others f (is_sql text c) refl e
  separator-mended text (suc depth) (c ∷ front) rest e = by_sql (λ is. separator-mended text (open_behind text (suc depth) c) front rest is) (is_sql text c) refl e
    where
      by_sql : (to_separator a text (open_behind text (suc depth) c) (front ++ rest) ≡ Stops rest → ClosedBefore text (open_behind text (suc depth) c) front)
          → (sql : Bool) → is_sql text c ≡ sql → parting_sql text c (front ++ rest) (open_behind text (suc depth) c) sql ≡ Stops rest → ClosedBefore text (suc depth) (c ∷ front)
      by_sql others true f e =
          let (w, go) = others e in
          (w, λ other others more alikes fillers ends. same_more text depth c true f other alikes.0 (front ++ (others ++ more)) ∙ go other others more alikes.1 fillers ends)
      by_sql others false f e = let same : (c ∷ front) ++ rest ≡ rest = cc in absurd (longer c front rest same)

  -- words and names before a separator
  pub words-parted : (text : List ℕ) (front rest : List Token) → AllByRecursion (λ c. IsTrue (is_wordy c.kind)) front → begins (ends_part text) rest ≡ true → to_separator a text zero (front ++ rest) ≡ Behind a rest
  words-parted text [] rest words ends = ends-now text rest ends
  words-parted text (c ∷ front) rest words ends =
      ap (parting text c (front ++ rest)) (wordy-not_end text c words.0)
      ∙ ap (parting_sql text c (front ++ rest) (open_behind text 0 c)) (wordy-sql text c words.0)
      ∙ ap (λ n. to_separator a text n (front ++ rest)) (wordy-open text 0 c words.0)
      ∙ words-parted text front rest words.1 ends
