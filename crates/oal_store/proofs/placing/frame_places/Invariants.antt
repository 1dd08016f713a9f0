use Rattle.std.proofs.Common.{◌≡◌, ◌+◌, ◌*◌, ◌^◌, ◌<◌, ℕ, length}
use Rattle.std.specs.Option.{option_or}
use Rattle.std.specs.BTreeMap.{get}
use Rattle.std.specs.Ordering.{nat_cmp}
use Rattle.oal_store.specs.OalLog.{last_place}
use Rattle.oal_store.proofs.placing.frame_places.Given as goal

abbrev pub invariant-loop-left : goal.invariant-loop-left
invariant-loop-left l = record {
  placed : (n : ℕ) → option_or (last_place l.page_size l.at n l.left) (get nat_cmp l.places n) ≡ last_place l.page_size 32 n l.numbers;
  fits : l.at + length l.left * (24 + l.page_size) < 2 ^ 64;
}

abbrev pub decreases-loop-left : goal.decreases-loop-left
decreases-loop-left l = length l.left
