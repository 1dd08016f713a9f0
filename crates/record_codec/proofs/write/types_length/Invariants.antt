use Rattle.std.proofs.Common.{◌≡◌, length, take}
use Rattle.format_spec.specs.Record.{serial_types}
use Rattle.record_codec.proofs.write.types_length.Given as goal

abbrev pub invariant-loop-value : goal.invariant-loop-value
invariant-loop-value l = l.total ≡ length (serial_types l.format (take l.value-index l.values))
