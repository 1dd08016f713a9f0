use Rattle.std.proofs.Common.{◌≡◌, ◌++◌, take}
use Rattle.std.specs.List.{flat_map}
use Rattle.format_spec.specs.Record.{record_header, body}
use Rattle.record_codec.proofs.write.write_record.Given as goal

abbrev pub invariant-loop-value : goal.invariant-loop-value
invariant-loop-value l = l.record.items ≡ record_header l.format l.values ++ flat_map (body l.format) (take l.value-index l.values)
