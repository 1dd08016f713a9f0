use Rattle.std.proofs.Common.{◌≡◌, length, take}
use Rattle.std.specs.List.{flat_map}
use Rattle.format_spec.specs.Record.{body}
use Rattle.record_codec.proofs.write.bodies_length.Given as goal

abbrev pub invariant-loop-value : goal.invariant-loop-value
invariant-loop-value l = l.total ≡ length (flat_map (body l.format) (take l.value-index l.values))
