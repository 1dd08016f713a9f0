use Rattle.pass_spec.specs.StepListsLaws.{put-stepped, taken-stepped, left-stepped}
use Rattle.pass_spec.proofs.laws.puts_and_deletes_make_steps.Goals as goal

pub returns-clause-put : goal.returns-clause-put
returns-clause-put c = λ format table g taken prepared old row members puts meets_it is rises. put-stepped format table g taken prepared old row members puts meets_it is rises

pub returns-clause-delete : goal.returns-clause-delete
returns-clause-delete c = λ format table g taken prepared old gone members puts meets_it is rises. taken-stepped format table g taken prepared old gone members puts meets_it is rises

pub returns-clause-neither : goal.returns-clause-neither
returns-clause-neither c = λ format table g taken prepared old put met rises. left-stepped format table g taken prepared old put met rises
