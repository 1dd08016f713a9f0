-- What the functions of the reader answer, each for a production of the grammar.
use Rattle.std.specs.Prelude.{◌≡◌, ℕ, Bool, true, false, List, [], ◌++◌, Result, Ok, Err, ⊤, codes}
use denote.Ref.{Bor}
use Rattle.schema_spec.specs.declared.token.Token.{Token}
use Rattle.schema_spec.specs.declared.schema.SqlFault.{SqlFault}
use Rattle.schema_spec.specs.declared.schema.SqlFault.TheVariants.{SqlSyntax, OutsideProfile, Memory}
use Rattle.schema_spec.specs.Fronts.{Front, Behind, Stops, ◌>>=◌, either, nothing}
use Rattle.schema_spec.specs.Brackets.{some_to_end}
use Rattle.schema_spec.specs.ColumnGrammar.{at_word, sign, word}
use Rattle.schema_spec.specs.Texts.{offset_of}

-- the fault tells where the production stops, or memory is wanting
abbrev pub StopsBy : {A : Type 0} → List ℕ → Front A → SqlFault → Type 0
StopsBy text front (SqlSyntax offset) = (at : List Token) × (front ≡ Stops at) × (offset ≡ offset_of text at)
StopsBy text front (OutsideProfile clause) = ⊥
StopsBy text front (Memory error) = ⊤

-- what is read stands at the front, and the rest is what is left behind it; or the fault tells where the production stops
abbrev pub Parses : {A : Type 0} → List ℕ → Front A → Result (A × Bor (List Token)) SqlFault → Type 0
Parses text front (Ok (read, rest)) = front ≡ Behind read rest.now
Parses text front (Err fault) = StopsBy text front fault

-- what is read is all that stands there; or the fault tells where the production stops
abbrev pub ParsesWhole : {A : Type 0} → List ℕ → Front A → Result A SqlFault → Type 0
ParsesWhole text front (Ok read) = front ≡ Behind read []
ParsesWhole text front (Err fault) = StopsBy text front fault

-- something stands at the front, and the rest is what is left behind it; or the fault tells where the production stops
abbrev pub Skips : {A : Type 0} → List ℕ → Front A → Result (Bor (List Token)) SqlFault → Type 0
Skips {A} text front (Ok rest) = (read : A) × (front ≡ Behind read rest.now)
Skips text front (Err fault) = StopsBy text front fault

-- the things at the front are put behind those that were there, and the rest is what is left; or the fault tells where the production stops
abbrev pub ParsesMore : {A : Type 0} → List ℕ → List A → Front (List A) → Result (List A × Bor (List Token)) SqlFault → Type 0
ParsesMore {A} text before front (Ok (read, rest)) = (others : List A) × (read ≡ before ++ others) × (front ≡ Behind others rest.now)
ParsesMore text before front (Err fault) = StopsBy text front fault

-- a comma, and what stands behind it
abbrev pub behind_comma : {A : Type 0} → List ℕ → (List Token → Front A) → List Token → Front A
behind_comma text item tokens = sign text 44 tokens >>= λ comma rest. item rest

-- WHERE and a condition, or nothing: whether it stands there
abbrev pub condition : List ℕ → List Token → Front Bool
condition text =
    either (at_word text (codes "WHERE"))
    (λ tokens. word text (codes "WHERE") tokens >>= λ where_word rest. some_to_end text rest >>= λ condition rest. Behind true rest)
    (nothing false)
