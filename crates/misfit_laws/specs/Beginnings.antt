-- Texts of a grammar that begin with the tokens of another text, and where that one leaves the grammar.
use Rattle.std.specs.Prelude.{◌≡◌, ℕ, List, [], ◌∷◌, ◌++◌}
use Rattle.schema_spec.specs.declared.token.Token.{Token}
use Rattle.schema_spec.specs.declared.syntax.TableStatement.{TableStatement}
use Rattle.schema_spec.specs.declared.syntax.IndexText.{IndexText}
use Rattle.schema_spec.specs.Tokens.{tokens_of}
use Rattle.schema_spec.specs.Fronts.{Behind}
use Rattle.schema_spec.specs.TableGrammar.{table_statement, index_statement}
use Rattle.schema_spec.specs.Texts.{offset_of}
use Rattle.grammar_laws.specs.Misfits.{BeginAlike}

-- a text of the grammar of tables, virtual tables and views, and one of the grammar of indexes
abbrev pub IsTableText : List ℕ → Type 0
IsTableText text = (statement : TableStatement) × (table_statement text (tokens_of text) ≡ Behind statement [])

abbrev pub IsIndexText : List ℕ → Type 0
IsIndexText text = (index : IndexText) × (index_statement text (tokens_of text) ≡ Behind index [])

-- some text of a grammar begins with the first tokens of this one, and has the same bytes up to their end
pub record Begins (IsOfGrammar : List ℕ → Type 0) (text : List ℕ) (front behind : List Token) : Type 0 where
  pub other : List ℕ
  pub others : List Token
  pub begin : BeginAlike text other front behind others
  pub is_of_grammar : IsOfGrammar other

-- no text of the grammar begins with the next token too; or there is none, and the text is not of the grammar
abbrev pub NoneGoesOn : (List ℕ → Type 0) → List ℕ → List Token → List Token → Type 0
NoneGoesOn IsOfGrammar text front [] = ¬ IsOfGrammar text
NoneGoesOn IsOfGrammar text front (misfit ∷ behind) = ¬ Begins IsOfGrammar text (front ++ (misfit ∷ [])) behind

-- a text leaves the grammar before these tokens: the first of them is the first with which no text of the grammar begins
pub record LeavesBefore (IsOfGrammar : List ℕ → Type 0) (text : List ℕ) (rest : List Token) : Type 0 where
  pub front : List Token
  pub parted : tokens_of text ≡ front ++ rest
  pub begins : Begins IsOfGrammar text front rest
  pub misfit : NoneGoesOn IsOfGrammar text front rest

-- where the first of these tokens begins, which is at the text's end where there is none
abbrev pub LeavesAt : (List ℕ → Type 0) → List ℕ → ℕ → Type 0
LeavesAt IsOfGrammar text offset = (rest : List Token) × LeavesBefore IsOfGrammar text rest × (offset ≡ offset_of text rest)
