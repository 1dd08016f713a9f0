use Rattle.std.proofs.Common.{refl}
use Rattle.database_spec.specs.ItemsLaws.{true-false}
use Rattle.db_check.proofs.Taken.{entry-disordered, entry-none, entry-taken}
use Rattle.db_check.proofs.members.take_entry.Goals as goal

pub returns-in-Err-clause-steps : goal.returns-in-Err-clause-steps
returns-in-Err-clause-steps g c = λ flags.
    entry-none c.args.tree.now c.requires c.args.page c.args.payload.now flags c.args.walk.now c.in-Err.fault c.in-Err.ensures.answer

pub returns-then-not-is_behind-clause-steps : goal.returns-then-not-is_behind-clause-steps
returns-then-not-is_behind-clause-steps g c = λ flags.
    entry-disordered c.args.tree.now c.requires c.args.page c.args.payload.now c.in-Ok.entry c.in-Ok.ensures.answer flags c.args.walk.now g.row.F.Denot
    (λ behind. true-false c.is_behind.result (c.is_behind.ensures.1 behind) c.if-not-is_behind.true)

pub returns-clause-steps : goal.returns-clause-steps
returns-clause-steps g c = λ flags.
    entry-taken c.args.tree.now c.requires c.args.page c.args.payload.now c.in-Ok.entry c.in-Ok.ensures.answer flags c.args.walk.now (record { leaf = c.args.walk.now.leaf; compared = c.compare_entry.new.compared }) c.compare_entry.ensures refl
    (c.is_behind.ensures.0 c.if-not-is_behind.false)
