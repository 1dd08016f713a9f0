-- What a commit makes of the log that is kept.
use Rattle.std.specs.Prelude.{◌≡◌, ℕ, ◌+◌, List, length, Vec}
use Rattle.std.specs.Global.{Global}
use Rattle.std.specs.Option.{option_or}
use Rattle.std.specs.Map.{keys_of}
use Rattle.std.specs.BTreeMap.{get}
use Rattle.std.specs.Ordering.{nat_cmp}
use Rattle.format_spec.specs.Log.{pair_of, frames_bytes, sums_behind}
use Rattle.oal_store.specs.declared.log.OalLog.{OalLog}
use Rattle.oal_store.specs.Appending.{frames_of}
use Rattle.oal_store.specs.OalLog.{last_place}

-- a frame of each of these pages has come, the last of them a commit of so many pages
pub record Grows (old new : OalLog) (count : ℕ) (written : List (ℕ × Vec ℕ Global)) : Type 0 where
  pub big : new.big ≡ old.big
  pub page_size : new.page_size ≡ old.page_size
  pub usable : new.usable ≡ old.usable
  pub salt : new.salt ≡ old.salt
  pub target_pages : new.target_pages ≡ old.target_pages
  pub sums : pair_of new.sums ≡ sums_behind old.big (pair_of old.sums) (frames_of count written)
  pub size : new.size ≡ old.size + length (frames_bytes old.big (pair_of old.salt) (pair_of old.sums) (frames_of count written))
  pub pages : new.pages ≡ count
  pub places : (n : ℕ) → get nat_cmp new.places n ≡ option_or (last_place old.page_size old.size n (keys_of written)) (get nat_cmp old.places n)
