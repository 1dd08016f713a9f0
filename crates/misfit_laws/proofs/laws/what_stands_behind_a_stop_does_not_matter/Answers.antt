use Rattle.std.proofs.Common.{◌∷◌, refl, inl}
use Rattle.schema_spec.specs.Tokens.{tokens_of}
use Rattle.schema_spec.specs.TokensLaws.{tokens-are}
use Rattle.misfit_laws.proofs.Statements.{same-table_stop, same-index_stop}
use Rattle.misfit_laws.proofs.laws.what_stands_behind_a_stop_does_not_matter.Goals as goal

pub returns-clause-table : goal.returns-clause-table
returns-clause-table c = same-table_stop

pub returns-clause-index : goal.returns-clause-index
returns-clause-index c = same-index_stop

pub returns-clause-table_fault : goal.returns-clause-table_fault
returns-clause-table_fault c text other front misfit behind others begin e =
    (tokens_of other, tokens-are other, inl (misfit ∷ others, same-table_stop text other front misfit behind others begin e, refl))

pub returns-clause-index_fault : goal.returns-clause-index_fault
returns-clause-index_fault c text other front misfit behind others begin e table =
    (tokens_of other, tokens-are other, inl (misfit ∷ others, same-index_stop text other front misfit behind others begin e, refl))
