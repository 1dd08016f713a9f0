use Rattle.std.proofs.Common.{◌≡◌, length}
use Rattle.format_spec.specs.Log.{pair_of}
use Rattle.format_spec.specs.Log.{checksum}
use Rattle.wal_codec.proofs.sums.checksum.Given as goal

abbrev pub invariant-loop-left : goal.invariant-loop-left
invariant-loop-left l = checksum l.big (l.one, l.two) l.left ≡ checksum l.big (pair_of l.fn.sums) l.fn.bytes

abbrev pub decreases-loop-left : goal.decreases-loop-left
decreases-loop-left l = length l.left
