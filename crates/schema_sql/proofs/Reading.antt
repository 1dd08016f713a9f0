-- What is known of a text is its one answer.
use Rattle.std.proofs.Common.{◌≡◌, ℕ, List, [], Result, Ok, Err, refl, sym, subst, inl, inr}
use Rattle.common_spec.specs.Reading.{OrFault, ReadsOrWants}
use Rattle.common_spec.specs.ReadingLaws.{Reads-one}
use Rattle.schema_spec.specs.declared.token.Token.{Token}
use Rattle.schema_spec.specs.declared.schema.Clause.TheVariants.{Virtual as VirtualClause, View as ViewClause}
use Rattle.schema_spec.specs.declared.schema.SqlFault.{SqlFault}
use Rattle.schema_spec.specs.declared.schema.SqlFault.TheVariants.{SqlSyntax, OutsideProfile, Memory}
use Rattle.schema_spec.specs.declared.schema.Table.{Table}
use Rattle.schema_spec.specs.declared.schema.Index.{Index}
use Rattle.schema_spec.specs.declared.syntax.TableText.{TableText}
use Rattle.schema_spec.specs.declared.syntax.TableStatement.{TableStatement}
use Rattle.schema_spec.specs.declared.syntax.TableStatement.TheVariants.{Table as TableOf, Virtual as VirtualOf, View as ViewOf}
use Rattle.schema_spec.specs.declared.syntax.IndexText.{IndexText}
use Rattle.schema_spec.specs.Tokens.{AreTokens}
use Rattle.schema_spec.specs.Fronts.{Behind}
use Rattle.schema_spec.specs.TableGrammar.{table_statement, index_statement}
use Rattle.schema_spec.specs.Texts.{IsMemory, MeansTable, HasTableFault, MeansIndex, HasIndexFault}
use Rattle.schema_spec.specs.TextsLaws.{one_table_answer, one_index_answer}
use Rattle.schema_grammar.specs.Parses.{StopsBy}
use Rattle.schema_sql.specs.Parts.{IsTableAnswer, IsStatementAnswer, IsIndexAnswer}
use Rattle.schema_sql.proofs.WrongTokens.{start-empty}

-- the one answer of a text, or want of memory
abbrev pub ReadsTable : List ℕ → Result Table SqlFault → Type 0
ReadsTable text answer = ReadsOrWants (λ (table : Table). table) IsMemory (OrFault (MeansTable text) (HasTableFault text)) answer

abbrev pub ReadsIndex : List ℕ → Table → Result Index SqlFault → Type 0
ReadsIndex text table answer = ReadsOrWants (λ (index : Index). index) IsMemory (OrFault (MeansIndex text table) (HasIndexFault text table)) answer

module _ (text : List ℕ) where
  table_fault : (fault : SqlFault) → HasTableFault text fault → ReadsTable text (Err fault)
  table_fault fault h = inr (Reads-one (OrFault (MeansTable text) (HasTableFault text)) (Err fault) (one_table_answer text) h)

  module _ (tokens : List Token) (are : AreTokens text tokens) where
    table-answered : (table : TableText) (answer : Result Table SqlFault) → table_statement text tokens ≡ Behind (TableOf table) [] → IsTableAnswer text table answer → ReadsTable text answer
    table-answered table (Ok found) e h =
        Reads-one (OrFault (MeansTable text) (HasTableFault text)) (Ok found) (one_table_answer text) (record { tokens = tokens; are_tokens = are; definition = table; profiled = (e, h.0); names = h.1; is_table = h.2 })
    table-answered table (Err (SqlSyntax offset)) e h = table_fault (SqlSyntax offset) (tokens, are, inr (table, (e, h.0), h.1))
    table-answered table (Err (OutsideProfile clause)) e h = table_fault (OutsideProfile clause) (tokens, are, (TableOf table, e, h))
    table-answered table (Err (Memory error)) e h = inl tt

    pub statement-answered : (statement : TableStatement) (answer : Result Table SqlFault) → table_statement text tokens ≡ Behind statement [] → IsStatementAnswer text statement answer → ReadsTable text answer
    statement-answered (TableOf table) answer e h = table-answered table answer e h
    statement-answered VirtualOf answer e h = subst (ReadsTable text) (sym h) (table_fault (OutsideProfile VirtualClause) (tokens, are, (VirtualOf, e, refl)))
    statement-answered ViewOf answer e h = subst (ReadsTable text) (sym h) (table_fault (OutsideProfile ViewClause) (tokens, are, (ViewOf, e, refl)))

    pub table-stopped : (fault : SqlFault) → StopsBy text (table_statement text tokens) fault → ReadsTable text (Err fault)
    table-stopped (SqlSyntax offset) h = table_fault (SqlSyntax offset) (tokens, are, inl h)
    table-stopped (OutsideProfile clause) h = absurd h
    table-stopped (Memory error) h = inl tt

  module _ (table : Table) where
    index_fault : (fault : SqlFault) → HasIndexFault text table fault → ReadsIndex text table (Err fault)
    index_fault fault h = inr (Reads-one (OrFault (MeansIndex text table) (HasIndexFault text table)) (Err fault) (one_index_answer text table) h)

    module _ (tokens : List Token) (are : AreTokens text tokens) where
      pub index-answered : (definition : IndexText) (answer : Result Index SqlFault) → index_statement text tokens ≡ Behind definition [] → IsIndexAnswer text table definition answer → ReadsIndex text table answer
      index-answered definition (Ok index) e h =
          Reads-one (OrFault (MeansIndex text table) (HasIndexFault text table)) (Ok index) (one_index_answer text table)
          (record {
            tokens = tokens;
            are_tokens = are;
            definition = definition;
            profiled = (e, h.0);
            names = start-empty _ h.1;
            name = h.2.name;
            table_name = h.2.table_name;
            unique = h.2.unique;
            columns = h.2.columns;
          })
      index-answered definition (Err (SqlSyntax offset)) e h = index_fault (SqlSyntax offset) (tokens, are, inr (definition, (e, h.0), h.1))
      index-answered definition (Err (OutsideProfile clause)) e h = index_fault (OutsideProfile clause) (tokens, are, (definition, e, h))
      index-answered definition (Err (Memory error)) e h = inl tt

      pub index-stopped : (fault : SqlFault) → StopsBy text (index_statement text tokens) fault → ReadsIndex text table (Err fault)
      index-stopped (SqlSyntax offset) h = index_fault (SqlSyntax offset) (tokens, are, inl h)
      index-stopped (OutsideProfile clause) h = absurd h
      index-stopped (Memory error) h = inl tt
