use Rattle.schema_spec.specs.TokensLaws.{tokens-one, past-run, past-closed, past-unclosed, quoted-closed_or_not}
use Rattle.schema_spec.proofs.laws.token_parts.Goals as goal

pub returns-clause-one : goal.returns-clause-one
returns-clause-one c = tokens-one

pub returns-clause-runs : goal.returns-clause-runs
returns-clause-runs c = past-run

pub returns-clause-quoted : goal.returns-clause-quoted
returns-clause-quoted c = past-closed

pub returns-clause-unclosed : goal.returns-clause-unclosed
returns-clause-unclosed c = past-unclosed

pub returns-clause-either : goal.returns-clause-either
returns-clause-either c = quoted-closed_or_not
