-- Tokens that name a column wrongly, as loops find them.
use Rattle.std.proofs.Common.{◌≡◌, ℕ, Bool, true, false, List, [], ◌∷◌, map, filter, Option, Some, None, refl, ap, arith}
use Rattle.schema_spec.specs.declared.token.Token.{Token}
use Rattle.schema_spec.specs.declared.syntax.Key.{Key}
use Rattle.schema_spec.specs.Names.{lesser, first_start, further_primaries}

-- the first words of all PRIMARY KEYs
abbrev pub primaries : List Key → List Token
primaries keys = map (λ key. key.word) (filter (λ key. key.primary) keys)

-- those but the first, or all where one stands before
abbrev pub primaries_behind : Bool → List Key → List Token
primaries_behind true keys = primaries keys
primaries_behind false keys = further_primaries keys

-- the lesser of two places, where each may lack
abbrev pub earlier : Option ℕ → Option ℕ → Option ℕ
earlier None other = other
earlier (Some start) other = lesser start other

pub earlier_next : (start : ℕ) (first rest : Option ℕ) → earlier first (lesser start rest) ≡ earlier (lesser start first) rest
earlier_next start None rest = refl
earlier_next start (Some a) None = ap Some (omega arith)
earlier_next start (Some a) (Some b) = ap Some (omega arith)

pub earlier_last : (first : Option ℕ) → earlier first None ≡ first
earlier_last None = refl
earlier_last (Some start) = refl

-- tokens of which none stands first are none
pub start-empty : (tokens : List Token) → first_start tokens ≡ None → tokens ≡ []
start-empty [] e = refl
start-empty (token ∷ tokens) e = some (first_start tokens) e
  where
    some : (first : Option ℕ) → lesser token.start first ≡ None → token ∷ tokens ≡ []
    some None h = absurd (let f : ◌≡◌ {A = Option ℕ} (Some token.start) None = h in cc)
    some (Some other) h = absurd (let f : ◌≡◌ {A = Option ℕ} (lesser token.start (Some other)) None = h in cc)
