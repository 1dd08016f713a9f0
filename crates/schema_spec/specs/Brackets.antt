-- What the grammar skips: texts in brackets, and tokens to an end.
use Rattle.std.specs.Prelude.{ℕ, zero, suc, ◌+◌, ◌-◌, ◌||◌, Bool, true, false, if◌then◌else◌, List, [], ◌∷◌}
use Rattle.schema_spec.specs.declared.token.Token.{Token}
use Rattle.schema_spec.specs.Fronts.{Front, Behind, Stops, ◌>>=◌, one}
use Rattle.schema_spec.specs.Words.{is_sign, is_sql}

-- how many brackets are open behind a token, of those that were open before it
abbrev pub open_behind : List ℕ → ℕ → Token → ℕ
open_behind text depth token = if is_sign 40 text token then depth + 1 else (if is_sign 41 text token then depth - 1 else depth)

-- any tokens up to the bracket that closes the first of so many open ones, which is given
abbrev pub to_close : List ℕ → ℕ → List Token → Front Token
to_close text depth [] = Stops []
to_close text depth (token ∷ tokens) =
    elim (open_behind text depth token) as (λ _. Front Token) [
      | zero ↦ Behind token tokens
      | suc less ↦ elim (is_sql text token) as (λ _. Front Token) [ true ↦ to_close text (suc less) tokens | false ↦ Stops (token ∷ tokens) ]
    ]

-- any tokens between two brackets
abbrev pub bracketed : List ℕ → List Token → Front Token
bracketed text tokens = one (is_sign 40 text) tokens >>= λ opening rest. to_close text 1 rest

-- any tokens to the end of the text
abbrev pub to_end : List ℕ → List Token → Front (List Token)
to_end text [] = Behind [] []
to_end text (token ∷ tokens) = elim (is_sql text token) as (λ _. Front (List Token)) [ true ↦ to_end text tokens | false ↦ Stops (token ∷ tokens) ]

-- at least one token, and any to the end
abbrev pub some_to_end : List ℕ → List Token → Front (List Token)
some_to_end text tokens = one (is_sql text) tokens >>= λ token rest. to_end text rest

-- a comma or a closing bracket
abbrev pub ends_part : List ℕ → Token → Bool
ends_part text token = is_sign 44 text token || is_sign 41 text token

-- any tokens up to a comma or a closing bracket outside of all brackets, where so many are open
abbrev pub to_separator : {A : Type 0} → A → List ℕ → ℕ → List Token → Front A
to_separator a text depth [] = Stops []
to_separator {A} a text zero (token ∷ tokens) =
    elim (ends_part text token) as (λ _. Front A) [
      | true ↦ Behind a (token ∷ tokens)
      | false ↦ elim (is_sql text token) as (λ _. Front A) [ true ↦ to_separator a text (open_behind text 0 token) tokens | false ↦ Stops (token ∷ tokens) ]
    ]
to_separator {A} a text (suc depth) (token ∷ tokens) =
    elim (is_sql text token) as (λ _. Front A) [ true ↦ to_separator a text (open_behind text (suc depth) token) tokens | false ↦ Stops (token ∷ tokens) ]
