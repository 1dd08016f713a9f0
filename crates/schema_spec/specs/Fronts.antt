-- What stands at the front of some tokens: the form of the grammar's productions.
use Rattle.std.specs.Prelude.{ℕ, zero, suc, Bool, true, false, List, [], ◌∷◌, length, Option, Some, None}
use Rattle.schema_spec.specs.declared.token.Token.{Token}

-- What is looked for, and the tokens that are left behind it. Or it does not stand there: what is left from the first token on that does not fit, which is nothing where the tokens end too early.
pub data Front (A : Type 0) : Type 0 where
  Behind : A → List Token → Front A
  Stops : List Token → Front A

-- one thing, and the next behind it
infixl 10 ◌>>=◌
abbrev pub ◌>>=◌ : {A B : Type 0} → Front A → (A → List Token → Front B) → Front B
(Behind a rest) >>= next = next a rest
(Stops at) >>= next = Stops at

-- a first token that passes
abbrev pub begins : (Token → Bool) → List Token → Bool
begins test [] = false
begins test (token ∷ tokens) = test token

-- one token that passes
abbrev pub one : (Token → Bool) → List Token → Front Token
one test [] = Stops []
one test (token ∷ tokens) = elim (test token) as (λ _. Front Token) [ true ↦ Behind token tokens | false ↦ Stops (token ∷ tokens) ]

-- the one where a test of the tokens passes, and else the other
abbrev pub either : {A : Type 0} → (List Token → Bool) → (List Token → Front A) → (List Token → Front A) → List Token → Front A
either {A} test some other tokens = elim (test tokens) as (λ _. Front A) [ true ↦ some tokens | false ↦ other tokens ]

-- nothing, which always stands there
abbrev pub nothing : {A : Type 0} → A → List Token → Front A
nothing a tokens = Behind a tokens

-- what fits nowhere
abbrev pub misfit : {A : Type 0} → List Token → Front A
misfit tokens = Stops tokens

-- one token that passes, or none
abbrev pub optional : (Token → Bool) → List Token → Front (Option Token)
optional test = either (begins test) (λ tokens. one test tokens >>= λ token rest. Behind (Some token) rest) (nothing None)

-- one thing behind the other, as long as one begins; at most so many
abbrev pub at_most : {A : Type 0} → ℕ → (List Token → Bool) → (List Token → Front A) → List Token → Front (List A)
at_most zero test item tokens = Behind [] tokens
at_most {A} (suc n) test item tokens =
    either test (λ all. item all >>= λ a rest. at_most n test item rest >>= λ others behind. Behind (a ∷ others) behind) (nothing []) tokens

-- one thing behind the other, as long as one begins. Each has a token, so there are no more than tokens.
abbrev pub many : {A : Type 0} → (List Token → Bool) → (List Token → Front A) → List Token → Front (List A)
many test item tokens = at_most (length tokens) test item tokens

-- the end of the text
abbrev pub ended : {A : Type 0} → A → List Token → Front A
ended a [] = Behind a []
ended a (token ∷ tokens) = Stops (token ∷ tokens)
