use Rattle.std.proofs.Common.{◌≡◌, ◌++◌, take}
use Rattle.format_spec.specs.Record.{serial_types}
use Rattle.record_codec.proofs.write.push_header.Given as goal

abbrev pub invariant-loop-value : goal.invariant-loop-value
invariant-loop-value l = l.into.items ≡ l.initial.into.items ++ serial_types l.format (take l.value-index l.values)
