use Rattle.std.proofs.Common.{rules, IsTrue, refl, take}
use Rattle.schema_spec.specs.Words.{same_name}
use Rattle.schema_read.proofs.Rights.{keys-answer, fault-answer, root-answer}
use Rattle.schema_read.proofs.check.is_right_table.Goals as goal

pub returns-then-not-is_right_root : goal.returns-then-not-is_right_root
returns-then-not-is_right_root c =
    root-answer c.args.basis c.args.members.now (take c.args.at c.args.members.now) c.args.row.now c.args.meaning.now c.is_right_root.result c.if-not-is_right_root.true c.is_right_root.ensures c.requires.means

pub returns-in-Ok : goal.returns-in-Ok
returns-in-Ok c =
    let own : IsTrue (same_name c.args.row.now.table c.args.row.now.name) = search rules in
    keys-answer c.args.basis c.args.members.now (take c.args.at c.args.members.now) c.args.row.now c.args.meaning.now c.in-Ok.table c.in-Ok.is c.requires.means own (c.if-not-is_right_root.ensures.0 refl) c.keys_stand.result c.keys_stand.ensures

pub returns-in-Err : goal.returns-in-Err
returns-in-Err c =
    let own : IsTrue (same_name c.args.row.now.table c.args.row.now.name) = search rules in
    fault-answer c.args.basis c.args.members.now (take c.args.at c.args.members.now) c.args.row.now c.args.meaning.now c.in-Err.field-0 c.in-Err.is c.requires.means own (c.if-not-is_right_root.ensures.0 refl)
