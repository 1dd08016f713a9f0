use Rattle.std.proofs.Common.{◌≡◌}
use Rattle.std.proofs.lemmas.Option.{MatchOption-at_some, MatchOption-at_none}
use Rattle.small_file.specs.Records.{prepared_values}
use Rattle.small_file.proofs.Records.{prepared_values-have_record, insert-found}
use Rattle.small_file.proofs.record.read_prepared.Goals as goal

pub returns-in-Some-clause-only : goal.returns-in-Some-clause-only
returns-in-Some-clause-only c = λ key value f p e.
    let read = c.in_ok-values.ensures.only (prepared_values key value) (prepared_values-have_record c.args.payload.now key value c.requires f p e) e in
    insert-found c.inserted_values.result c.in-Some.values.items key value c.inserted_values.ensures.found c.inserted_values.ensures.none p
    (MatchOption-at_some _ (λ v. v.items ≡ prepared_values key value) c.in-Some.values c.in-Some.is read)

pub returns-in-None-clause-only : goal.returns-in-None-clause-only
returns-in-None-clause-only c = λ key value f p e.
    MatchOption-at_none _ _ c.in-None.is (c.in_ok-values.ensures.only (prepared_values key value) (prepared_values-have_record c.args.payload.now key value c.requires f p e) e)
