use Rattle.std.proofs.Common.{◌≡◌, ◌+◌, ◌*◌, ◌^◌, ◌<◌, ℕ, length}
use Rattle.std.specs.Option.{option_or}
use Rattle.std.specs.BTreeMap.{get, keys}
use Rattle.std.specs.Ordering.{nat_cmp}
use Rattle.oal_store.specs.OalLog.{last_place}
use Rattle.oal_store.proofs.placing.place_pages.Given as goal

abbrev pub invariant-loop-number : goal.invariant-loop-number
invariant-loop-number l = record {
  placed : (n : ℕ) → option_or (last_place l.page_size l.at n l.number-iterator) (get nat_cmp l.places n)
      ≡ option_or (last_place l.page_size l.size n (keys l.pages)) (get nat_cmp l.fn.places n);
  fits : l.at + length l.number-iterator * (24 + l.page_size) < 2 ^ 64;
}
