-- The texts of tables and of indexes, each by its production.
use Rattle.std.proofs.Common.{◌≡◌, ℕ, true, false, List, [], ◌∷◌, ◌++◌, refl, sym, ap, ◌∙◌, inl, inr}
use Rattle.std.specs.Prelude.{◌↔◌, is_some, codes}
use Rattle.schema_spec.specs.declared.token.Token.{Token}
use Rattle.schema_spec.specs.declared.schema.Table.{Table}
use Rattle.schema_spec.specs.declared.schema.SqlFault.TheVariants.{SqlSyntax}
use Rattle.schema_spec.specs.declared.syntax.TableStatement.TheVariants.{Table as TableStatementOf}
use Rattle.schema_spec.specs.Tokens.{tokens_of}
use Rattle.schema_spec.specs.TokensLaws.{tokens-one, tokens-are}
use Rattle.schema_spec.specs.Words.{is_keyword}
use Rattle.schema_spec.specs.Fronts.{Behind, Stops, ◌>>=◌, either, nothing, optional}
use Rattle.schema_spec.specs.Brackets.{some_to_end}
use Rattle.schema_spec.specs.ColumnGrammar.{word, name, at_word, list_in_brackets}
use Rattle.schema_spec.specs.TableGrammar.{virtual_table, view, table, table_statement, indexed_part, index_statement}
use Rattle.schema_spec.specs.Texts.{TokensHaveFault, HasTableFault, IndexTokensHaveFault, HasIndexFault}
use Rattle.grammar_laws.specs.Misfits.{BeginAlike}
use Rattle.misfit_laws.specs.Beginnings.{IsTableText, IsIndexText, LeavesBefore, LeavesAt}
use Rattle.misfit_laws.proofs.Fillers.{Capitals}
use Rattle.misfit_laws.proofs.Tables.{a_table, table_statement-continues}
use Rattle.misfit_laws.proofs.Indexes.{an_index, index_statement-continues}
use Rattle.misfit_laws.proofs.Leaving.{TakesAll, ended-all, then-all, same-stop, stop-leaves, leaves-once, leaves-stop, outside-leaves}

table-all : TakesAll (λ text. table_statement text)
table-all =
    then-all (λ text. word text (codes "CREATE")) (λ create.
    then-all (λ text. either (at_word text (codes "VIRTUAL")) (virtual_table text) (either (at_word text (codes "VIEW")) (view text) (table text))) (λ statement. ended-all statement))

index-all : TakesAll (λ text. index_statement text)
index-all =
    then-all (λ text. word text (codes "CREATE")) (λ create. then-all (λ text. optional (is_keyword (codes "UNIQUE") text)) (λ unique.
    then-all (λ text. word text (codes "INDEX")) (λ index. then-all (λ text. name text) (λ index_name.
    then-all (λ text. word text (codes "ON")) (λ on. then-all (λ text. name text) (λ table_name.
    then-all (λ text. list_in_brackets text (indexed_part text)) (λ parts.
    then-all
    (λ text. either (at_word text (codes "WHERE")) (λ all. word text (codes "WHERE") all >>= λ where_word rest. some_to_end text rest >>= λ condition rest. Behind true rest) (nothing false))
    (λ partial. ended-all (record { unique = is_some unique; name = index_name; table = table_name; parts = parts; partial = partial })))))))))

pub same-table_stop : (text other : List ℕ) (front : List Token) (misfit : Token) (behind others : List Token) → BeginAlike text other (front ++ (misfit ∷ [])) behind others
    → table_statement text (tokens_of text) ≡ Stops (misfit ∷ behind) → table_statement other (tokens_of other) ≡ Stops (misfit ∷ others)
same-table_stop = same-stop (is_keyword (codes "CREATE")) (Capitals (codes "CREATE") refl ∷ a_table) (λ text. table_statement text) table_statement-continues

pub same-index_stop : (text other : List ℕ) (front : List Token) (misfit : Token) (behind others : List Token) → BeginAlike text other (front ++ (misfit ∷ [])) behind others
    → index_statement text (tokens_of text) ≡ Stops (misfit ∷ behind) → index_statement other (tokens_of other) ≡ Stops (misfit ∷ others)
same-index_stop = same-stop (is_keyword (codes "CREATE")) an_index (λ text. index_statement text) index_statement-continues

pub table-stops : (text : List ℕ) (rest : List Token) → (table_statement text (tokens_of text) ≡ Stops rest) ↔ LeavesBefore IsTableText text rest
table-stops text rest = (
  stop-leaves (is_keyword (codes "CREATE")) (Capitals (codes "CREATE") refl ∷ a_table) (λ text. table_statement text) table_statement-continues text rest,
  leaves-stop (is_keyword (codes "CREATE")) (Capitals (codes "CREATE") refl ∷ a_table) (λ text. table_statement text) table_statement-continues table-all text rest,
)

pub index-stops : (text : List ℕ) (rest : List Token) → (index_statement text (tokens_of text) ≡ Stops rest) ↔ LeavesBefore IsIndexText text rest
index-stops text rest = (
  stop-leaves (is_keyword (codes "CREATE")) an_index (λ text. index_statement text) index_statement-continues text rest,
  leaves-stop (is_keyword (codes "CREATE")) an_index (λ text. index_statement text) index_statement-continues index-all text rest,
)

pub table-once : (text : List ℕ) (rest left : List Token) → LeavesBefore IsTableText text rest → LeavesBefore IsTableText text left → rest ≡ left
table-once = leaves-once (is_keyword (codes "CREATE")) (Capitals (codes "CREATE") refl ∷ a_table) (λ text. table_statement text) table_statement-continues

pub index-once : (text : List ℕ) (rest left : List Token) → LeavesBefore IsIndexText text rest → LeavesBefore IsIndexText text left → rest ≡ left
index-once = leaves-once (is_keyword (codes "CREATE")) an_index (λ text. index_statement text) index_statement-continues

pub table-leaves : (text : List ℕ) → ¬ IsTableText text → (rest : List Token) × LeavesBefore IsTableText text rest
table-leaves = outside-leaves (is_keyword (codes "CREATE")) (Capitals (codes "CREATE") refl ∷ a_table) (λ text. table_statement text) table_statement-continues table-all

pub index-leaves : (text : List ℕ) → ¬ IsIndexText text → (rest : List Token) × LeavesBefore IsIndexText text rest
index-leaves = outside-leaves (is_keyword (codes "CREATE")) an_index (λ text. index_statement text) index_statement-continues index-all

pub table-fault : (text : List ℕ) → ¬ IsTableText text → (offset : ℕ) → HasTableFault text (SqlSyntax offset) ↔ LeavesAt IsTableText text offset
table-fault text not_text offset = (to, from)
  where
    by_fault : (tokens : List Token) → tokens ≡ tokens_of text → TokensHaveFault text tokens (SqlSyntax offset) → LeavesAt IsTableText text offset
    by_fault tokens is (inl (rest, stops, at)) = (rest, (table-stops text rest).0 (ap (table_statement text) (sym is) ∙ stops), at)
    by_fault tokens is (inr (definition, profiled, wrong)) = absurd (not_text (TableStatementOf definition, ap (table_statement text) (sym is) ∙ profiled.0))

    to : HasTableFault text (SqlSyntax offset) → LeavesAt IsTableText text offset
    to (tokens, are, fault) = by_fault tokens (tokens-one text tokens (tokens_of text) are (tokens-are text)) fault

    from : LeavesAt IsTableText text offset → HasTableFault text (SqlSyntax offset)
    from (rest, leaves, at) = (tokens_of text, tokens-are text, inl (rest, (table-stops text rest).1 leaves, at))

pub index-fault : (text : List ℕ) → ¬ IsIndexText text → (table : Table) (offset : ℕ) → HasIndexFault text table (SqlSyntax offset) ↔ LeavesAt IsIndexText text offset
index-fault text not_text table offset = (to, from)
  where
    by_fault : (tokens : List Token) → tokens ≡ tokens_of text → IndexTokensHaveFault text table tokens (SqlSyntax offset) → LeavesAt IsIndexText text offset
    by_fault tokens is (inl (rest, stops, at)) = (rest, (index-stops text rest).0 (ap (index_statement text) (sym is) ∙ stops), at)
    by_fault tokens is (inr (definition, profiled, wrong)) = absurd (not_text (definition, ap (index_statement text) (sym is) ∙ profiled.0))

    to : HasIndexFault text table (SqlSyntax offset) → LeavesAt IsIndexText text offset
    to (tokens, are, fault) = by_fault tokens (tokens-one text tokens (tokens_of text) are (tokens-are text)) fault

    from : LeavesAt IsIndexText text offset → HasIndexFault text table (SqlSyntax offset)
    from (rest, leaves, at) = (tokens_of text, tokens-are text, inl (rest, (index-stops text rest).1 leaves, at))
