-- What the freelist's faults are for a writer of trees.
use Rattle.free_list.specs.declared.fault.FreeFault.{FreeFault}
use Rattle.free_list.specs.declared.fault.FreeFault.TheVariants as free
use Rattle.tree_spec.specs.declared.fault.TreeFault.{TreeFault}
use Rattle.tree_spec.specs.declared.fault.TreeFault.TheVariants.{TrunkDamaged, TargetFull, Store, Memory}

-- the same fault of a change of the freelist
abbrev pub from_freelist : {F : Type 0} → FreeFault F → TreeFault F
from_freelist (free.TrunkDamaged page) = TrunkDamaged page
from_freelist (free.TargetFull pages limit) = TargetFull pages limit
from_freelist (free.Store fault) = Store fault
from_freelist (free.Memory error) = Memory error
