-- What is known of a fault goes on to what follows from it: crates above cite these facts in their proofs.
use Rattle.std.proofs.Common.{ℕ, ℤ, List}
use Rattle.tree_spec.specs.declared.fault.TreeFault.{TreeFault}
use Rattle.prepared_spec.specs.declared.input_fault.RecordCause.{RecordCause}
use Rattle.pass_fault.specs.declared.fault.PassFault.{PassFault}
use Rattle.pass_fault.specs.declared.fault.PassFault.TheVariants.{Tree, TargetRecord}
use Rattle.pass_fault.specs.Faults.{IsRecordFault, IsTreeFault}

pub tree-then : {F : Type 0} {P Q : TreeFault F → Type 0} (fault : PassFault F) → ((f : TreeFault F) → P f → Q f) → IsTreeFault P fault → IsTreeFault Q fault
tree-then (Tree fault) step is = step fault is
tree-then (TargetRecord name rowid cause) step is = absurd is

pub record-then : {F : Type 0} {P Q : List ℕ → ℤ → RecordCause → Type 0} (fault : PassFault F) → ((name : List ℕ) (rowid : ℤ) (cause : RecordCause) → P name rowid cause → Q name rowid cause) → IsRecordFault P fault → IsRecordFault Q fault
record-then (Tree fault) step is = absurd is
record-then (TargetRecord name rowid cause) step is = step name rowid cause is
