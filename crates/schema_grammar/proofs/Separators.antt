-- One step of an expression of an index.
use Rattle.std.proofs.Common.{◌≡◌, ℕ, zero, suc, ◌==◌, ◌&&◌, Bool, true, false, List, [], ◌∷◌, refl, sym, ap, ◌∙◌, eqb-true, arith}
use Rattle.schema_spec.specs.declared.token.Token.{Token}
use Rattle.schema_spec.specs.Fronts.{Front, Behind, Stops}
use Rattle.schema_spec.specs.Words.{is_sql}
use Rattle.schema_spec.specs.Brackets.{ends_part, open_behind, to_separator}

not-zero : (depth : ℕ) → (suc depth == 0) ≡ false
not-zero depth = at (suc depth == 0) (λ e. eqb-true (suc depth) 0 e)
  where
    at : (test : Bool) → (test ≡ true → suc depth ≡ 0) → test ≡ false
    at true h = absurd (let e = h refl in omega (arith, e))
    at false h = refl

-- behind a token of SQL, or at one that is none
abbrev goes_on : {A : Type 0} → A → List ℕ → ℕ → Token → List Token → Bool → Front A
goes_on {A} a text depth token tokens sql = elim sql as (λ _. Front A) [ true ↦ to_separator a text (open_behind text depth token) tokens | false ↦ Stops (token ∷ tokens) ]

separator-inside : {A : Type 0} (a : A) (text : List ℕ) (depth : ℕ) (token : Token) (tokens : List Token) → ((depth == 0) && ends_part text token) ≡ false
    → to_separator a text depth (token ∷ tokens) ≡ goes_on a text depth token tokens (is_sql text token)
separator-inside {A} a text zero token tokens e = ap (λ t. elim t as (λ _. Front A) [ true ↦ Behind a (token ∷ tokens) | false ↦ goes_on a text 0 token tokens (is_sql text token) ]) e
separator-inside a text (suc depth) token tokens e = refl

pub separator_next : {A : Type 0} (a : A) (text : List ℕ) (depth : ℕ) (token : Token) (tokens : List Token) → ((depth == 0) && ends_part text token) ≡ false → is_sql text token ≡ true
    → to_separator a text depth (token ∷ tokens) ≡ to_separator a text (open_behind text depth token) tokens
separator_next a text depth token tokens e f = separator-inside a text depth token tokens e ∙ ap (goes_on a text depth token tokens) f

pub separator_stops : {A : Type 0} (a : A) (text : List ℕ) (depth : ℕ) (token : Token) (tokens : List Token) → ((depth == 0) && ends_part text token) ≡ false → is_sql text token ≡ false
    → to_separator a text depth (token ∷ tokens) ≡ Stops (token ∷ tokens)
separator_stops a text depth token tokens e f = separator-inside a text depth token tokens e ∙ ap (goes_on a text depth token tokens) f

pub separator_ends : {A : Type 0} (a : A) (text : List ℕ) (depth : ℕ) (token : Token) (tokens : List Token) → ((depth == 0) && ends_part text token) ≡ true
    → to_separator a text depth (token ∷ tokens) ≡ Behind a (token ∷ tokens)
separator_ends {A} a text zero token tokens e = ap (λ t. elim t as (λ _. Front A) [ true ↦ Behind a (token ∷ tokens) | false ↦ goes_on a text 0 token tokens (is_sql text token) ]) e
separator_ends a text (suc depth) token tokens e = let f : ◌≡◌ {A = Bool} false true = ap (λ t. t && ends_part text token) (sym (not-zero depth)) ∙ e in absurd (cc)
