use Rattle.std.proofs.Common.{map, string_bytes, inl, refl}
use Rattle.update_spec.specs.ViewLaws.{KeepsView-same}
use Rattle.format_spec.specs.Log.{pair_of}
use Rattle.rbu_run.specs.Commands.{EndsCommand}
use Rattle.rbu_run.specs.Status.{IsCounted}
use Rattle.rbu_run.proofs.Endings.{sees-ends, others-ends, log-ends}
use Rattle.rbu_run.proofs.Answering as answering
use Rattle.rbu_run.proofs.Answering.{counted-told, ended-told, ended-however, ended-idle, ended-owed}
use Rattle.rbu_run.proofs.CrashAnswers as crash
use Rattle.rbu_run.proofs.run.run_command.Given as given
use Rattle.rbu_run.proofs.run.run_command.Goals as goal

-- how the command ended, said of the answer that is told
ended : (g : given.Over) (c : goal.Joined-answer g) → EndsCommand g.D.Disk (pair_of c.args.salt) (map string_bytes c.args.words.now) c.args.disk c.answer_of-answer.new.disk c.tellable-answer.result.0
ended g c = ended-told (pair_of c.args.salt) (map string_bytes c.args.words.now) c.args.disk c.answer_of-answer.new.disk c.answer_of-answer.result c.tellable-answer.result.0 c.answer_of-answer.ensures.ends c.tellable-answer.ensures.answer

counted : (g : given.Over) (c : goal.Joined-answer g) → IsCounted g.D.Disk c.args.disk c.answer_of-answer.new.disk c.tellable-answer.result.0
counted g c = counted-told c.answer_of-answer.result c.tellable-answer.result.0 c.answer_of-answer.ensures.calls c.tellable-answer.ensures.answer

pub returns-clause-headline : goal.returns-clause-headline
returns-clause-headline g c =
    ended-however (pair_of c.args.salt) (map string_bytes c.args.words.now) c.args.disk c.answer_of-answer.new.disk c.tellable-answer.result.0 (ended g c) (sees-ends (pair_of c.args.salt) c.tellable-answer.result.0) (λ f. inl (KeepsView-same f f refl))

pub returns-clause-others : goal.returns-clause-others
returns-clause-others g c =
    ended-however (pair_of c.args.salt) (map string_bytes c.args.words.now) c.args.disk c.answer_of-answer.new.disk c.tellable-answer.result.0 (ended g c) (others-ends (pair_of c.args.salt) c.tellable-answer.result.0) (λ f name x y z. refl)

pub returns-clause-log : goal.returns-clause-log
returns-clause-log g c =
    ended-however (pair_of c.args.salt) (map string_bytes c.args.words.now) c.args.disk c.answer_of-answer.new.disk c.tellable-answer.result.0 (ended g c) (log-ends (pair_of c.args.salt) c.tellable-answer.result.0) (λ f. inl refl)

pub returns-clause-images : goal.returns-clause-images
returns-clause-images g c = crash.images-old_or_new (pair_of c.args.salt) (map string_bytes c.args.words.now) c.args.disk c.answer_of-answer.new.disk c.tellable-answer.result.0 (ended g c)

pub returns-clause-kept : goal.returns-clause-kept
returns-clause-kept g c = crash.images-no_more (pair_of c.args.salt) (map string_bytes c.args.words.now) c.args.disk c.answer_of-answer.new.disk c.tellable-answer.result.0 (ended g c)

pub returns-clause-names : goal.returns-clause-names
returns-clause-names g c = crash.told-names (pair_of c.args.salt) (map string_bytes c.args.words.now) c.args.disk c.answer_of-answer.new.disk c.tellable-answer.result.0 (ended g c) c.args.out.now c.write_text-status.new.out c.write_text-status.result c.write_text-status.ensures

pub returns-clause-target : goal.returns-clause-target
returns-clause-target g c = crash.told-target (pair_of c.args.salt) (map string_bytes c.args.words.now) c.args.disk c.answer_of-answer.new.disk c.tellable-answer.result.0 (ended g c) c.args.out.now c.write_text-status.new.out c.write_text-status.result c.write_text-status.ensures

pub returns-clause-finished : goal.returns-clause-finished
returns-clause-finished g c = answering.told-done (pair_of c.args.salt) (map string_bytes c.args.words.now) c.args.disk c.answer_of-answer.new.disk c.args.out.now c.write_text-status.new.out c.write_text-status.result c.tellable-answer.result.0 (ended g c) c.write_text-status.ensures

pub returns-clause-constraint : goal.returns-clause-constraint
returns-clause-constraint g c = answering.told-constraint (pair_of c.args.salt) (map string_bytes c.args.words.now) c.args.disk c.answer_of-answer.new.disk c.args.out.now c.write_text-status.new.out c.write_text-status.result c.tellable-answer.result.0 (ended g c) c.write_text-status.ensures

pub returns-clause-refused : goal.returns-clause-refused
returns-clause-refused g c = answering.told-refused (pair_of c.args.salt) (map string_bytes c.args.words.now) c.args.disk c.answer_of-answer.new.disk c.args.out.now c.write_text-status.new.out c.write_text-status.result c.tellable-answer.result.0 (ended g c) c.write_text-status.ensures

pub returns-clause-memory : goal.returns-clause-memory
returns-clause-memory g c = answering.told-memory (pair_of c.args.salt) (map string_bytes c.args.words.now) c.args.disk c.answer_of-answer.new.disk c.args.out.now c.write_text-status.new.out c.write_text-status.result c.tellable-answer.result.0 (ended g c) c.write_text-status.ensures

pub returns-clause-usage : goal.returns-clause-usage
returns-clause-usage g c = answering.told-usage (pair_of c.args.salt) (map string_bytes c.args.words.now) c.args.disk c.answer_of-answer.new.disk c.args.out.now c.write_text-status.new.out c.write_text-status.result c.tellable-answer.result.0 (ended g c) c.write_text-status.ensures

pub returns-clause-usage_only : goal.returns-clause-usage_only
returns-clause-usage_only g c = answering.told-usage_only (pair_of c.args.salt) (map string_bytes c.args.words.now) c.args.disk c.answer_of-answer.new.disk c.args.out.now c.write_text-status.new.out c.write_text-status.result c.tellable-answer.result.0 (ended g c) c.write_text-status.ensures

pub returns-clause-not_built : goal.returns-clause-not_built
returns-clause-not_built g c = answering.told-not_built (pair_of c.args.salt) (map string_bytes c.args.words.now) c.args.disk c.answer_of-answer.new.disk c.args.out.now c.write_text-status.new.out c.write_text-status.result c.tellable-answer.result.0 (ended g c) c.write_text-status.ensures

pub returns-clause-complete : goal.returns-clause-complete
returns-clause-complete g c = answering.told-complete (pair_of c.args.salt) (map string_bytes c.args.words.now) c.args.disk c.answer_of-answer.new.disk c.args.out.now c.write_text-status.new.out c.write_text-status.result c.tellable-answer.result.0 (ended g c) c.write_text-status.ensures

pub returns-clause-dumped : goal.returns-clause-dumped
returns-clause-dumped g c = answering.told-dump (pair_of c.args.salt) (map string_bytes c.args.words.now) c.args.disk c.answer_of-answer.new.disk c.args.out.now c.write_text-status.new.out c.write_text-status.result c.tellable-answer.result.0 (ended g c) c.write_text-status.ensures

pub returns-clause-checked : goal.returns-clause-checked
returns-clause-checked g c = answering.told-check (pair_of c.args.salt) (map string_bytes c.args.words.now) c.args.disk c.answer_of-answer.new.disk c.args.out.now c.write_text-status.new.out c.write_text-status.result c.tellable-answer.result.0 (ended g c) c.write_text-status.ensures

pub returns-clause-fault : goal.returns-clause-fault
returns-clause-fault g c = answering.told-fault (pair_of c.args.salt) (map string_bytes c.args.words.now) c.args.disk c.answer_of-answer.new.disk c.args.out.now c.write_text-status.new.out c.write_text-status.result c.tellable-answer.result.0 (ended g c) (counted g c) c.write_text-status.ensures

pub returns-clause-calls : goal.returns-clause-calls
returns-clause-calls g c = answering.told-counts_calls (pair_of c.args.salt) (map string_bytes c.args.words.now) c.args.disk c.answer_of-answer.new.disk c.args.out.now c.write_text-status.new.out c.write_text-status.result c.tellable-answer.result.0 (counted g c) c.write_text-status.ensures

pub returns-clause-idle : goal.returns-clause-idle
returns-clause-idle g c other also = ended-idle (pair_of c.args.salt) (map string_bytes c.args.words.now) c.args.disk c.answer_of-answer.new.disk c.tellable-answer.result.0 other also (ended g c)

pub returns-clause-told : goal.returns-clause-told
returns-clause-told g c = (c.tellable-answer.result.0, ended-owed (pair_of c.args.salt) (map string_bytes c.args.words.now) c.args.disk c.answer_of-answer.new.disk c.tellable-answer.result.0 (ended g c) (counted g c), c.write_text-status.ensures)

pub returns-clause-writes : goal.returns-clause-writes
returns-clause-writes g c = answering.told-counts_writes c.args.out.now c.write_text-status.new.out c.tellable-answer.result.0 c.write_text-status.result c.write_text-status.ensures

pub returns-clause-status : goal.returns-clause-status
returns-clause-status g c = answering.status-told c.args.out.now c.write_text-status.new.out c.tellable-answer.result.0 c.write_text-status.result c.write_text-status.ensures
