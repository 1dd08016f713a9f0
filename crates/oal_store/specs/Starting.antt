-- A log that was read, and the store that keeps it.
use Rattle.std.specs.Prelude.{◌≡◌, ℕ, ◌+◌, ◌-◌, ◌*◌, ◌≤◌, ◌==◌, if◌then◌else◌, List, [], length, take}
use Rattle.std.specs.BTreeMap.{get}
use Rattle.std.specs.Ordering.{nat_cmp}
use Rattle.format_spec.specs.Log.{pair_of}
use Rattle.db_header.specs.declared.fields.Header.{Header}
use Rattle.wal_codec.specs.declared.log.Log.{Log}
use Rattle.wal_codec.specs.LogReading.{HasLog}
use Rattle.oal_store.specs.declared.fault.OalFault.{OalFault}
use Rattle.oal_store.specs.declared.store.OalStore.{OalStore}
use Rattle.oal_store.specs.OalLog.{last_place}
use Rattle.oal_store.specs.Saved.{Saved, HasOalFault}

-- what was read up to the saved length is the log that was saved
pub record IsRight (saved : Saved) (log : Log) : Type 0 where
  pub page_size : log.page_size ≡ saved.page_size
  pub whole : 32 + length log.frames * (24 + log.page_size) ≡ saved.size
  pub closed : log.committed ≡ length log.frames
  pub sums : pair_of log.sums ≡ saved.sums

-- or any bytes of which it was read have this fault
abbrev pub IsWrongLog : Saved → Log → OalFault → Type 0
IsWrongLog saved log fault = (bytes : List ℕ) → saved.size ≤ length bytes → HasLog (take saved.size bytes) 0 log → HasOalFault saved bytes fault

-- how many pages there are after the last commit, or in the target where there is none
abbrev pub pages_after : Log → ℕ → ℕ
pages_after log target_pages = if log.committed == 0 then target_pages else log.commit_pages

-- the store over a log that was read
pub record IsOpened (log : Log) (header : Header) (saved_size : ℕ) (saved_sums : List ℕ) (store : OalStore) : Type 0 where
  pub big : store.log.big ≡ log.big
  pub page_size : store.log.page_size ≡ log.page_size
  pub usable : store.log.usable ≡ log.page_size - header.reserved
  pub salt : store.log.salt ≡ log.salt
  pub sums : store.log.sums ≡ saved_sums
  pub size : store.log.size ≡ saved_size
  pub target_pages : store.log.target_pages ≡ header.pages
  pub pages : store.log.pages ≡ pages_after log header.pages
  pub places : (n : ℕ) → get nat_cmp store.log.places n ≡ last_place log.page_size 32 n log.frames
  pub count : store.count ≡ pages_after log header.pages
  pub unchanged : store.changed.entries ≡ []
