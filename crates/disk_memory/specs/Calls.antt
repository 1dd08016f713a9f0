-- What a device in memory counts: its calls, its faults, and the calls that found no memory.
use Rattle.std.specs.Prelude.{◌≡◌, ◌==◌, ℕ, Bool, true, false, IsTrue, if◌then◌else◌, List}
use Rattle.std.specs.List.{list_any}
use Rattle.common_spec.specs.Counts.{one_more}

-- the numbers of the calls that are to fail, and the counts so far, each of them in 64 bits
pub record CallCounts : Type 0 where
  pub fail_list : List ℕ
  pub calls : ℕ
  pub faults : ℕ
  pub refused : ℕ

-- whether the number of the next call stands in the list; calls are numbered from 0
abbrev pub is_listed : CallCounts → Bool
is_listed counts = list_any (λ n. n == counts.calls) counts.fail_list

-- the counts after a call, given whether it failed
abbrev pub after_call : Bool → CallCounts → CallCounts
after_call failed counts = record counts { calls = one_more counts.calls; faults = if failed then one_more counts.faults else counts.faults }

-- the counts after a call that failed since it found no memory
abbrev pub after_refusal : CallCounts → CallCounts
after_refusal counts = record counts { calls = one_more counts.calls; faults = one_more counts.faults; refused = one_more counts.refused }

-- The counts after a call that takes memory, given whether it must fail and whether it failed. Where it must, it fails and is not refused memory; else it fails only where it is refused memory.
abbrev pub CountsRefusal : Bool → Bool → CallCounts → CallCounts → Type 0
CountsRefusal true failed before after = IsTrue failed × (after ≡ after_call true before)
CountsRefusal false failed before after = after ≡ (if failed then after_refusal before else after_call false before)
