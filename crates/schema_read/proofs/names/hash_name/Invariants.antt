use Rattle.std.proofs.Common.{◌≡◌, fold, length}
use Rattle.schema_read.specs.Names.{hashed_name}
use Rattle.schema_read.proofs.names.hash_name.Given as goal

abbrev pub invariant-loop-left : goal.invariant-loop-left
invariant-loop-left g l = fold g.H.Hasher.write l.state (hashed_name l.left) ≡ fold g.H.Hasher.write l.initial.state (hashed_name l.name)

abbrev pub decreases-loop-left : goal.decreases-loop-left
decreases-loop-left g l = length l.left
