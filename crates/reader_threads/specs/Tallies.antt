-- What a reader has done.
use Rattle.std.specs.Prelude.{◌≡◌, ℕ, ◌+◌, Bool, true, false}
use Rattle.reader_threads.specs.declared.turns.Begun.{Begun}
use Rattle.reader_threads.specs.declared.turns.Begun.TheVariants as begun
use Rattle.reader_threads.specs.declared.turns.Stepped.{Stepped}
use Rattle.reader_threads.specs.declared.turns.Stepped.TheVariants as stepped

-- whether a read is open, how many were begun and how many ended, and whether Stop was answered
pub record Tally : Type 0 where
  pub is_open : Bool
  pub begun : ℕ
  pub ended : ℕ
  pub is_stopped : Bool

-- no read is open, and Stop was not answered
abbrev pub CanBegin : Tally → Type 0
CanBegin r = (r.is_open ≡ false) × (r.is_stopped ≡ false)

-- a read is open
abbrev pub CanStep : Tally → Type 0
CanStep r = r.is_open ≡ true

-- Stop closes a read that is open, and is kept
abbrev pub stopped : Tally → Tally
stopped r = record { is_open = false; begun = r.begun; ended = r.ended; is_stopped = true }

-- Yes opens a read and counts it as begun, and NotYet leaves all as it was
abbrev pub after_begin : Begun → Tally → Tally
after_begin begun.Yes r = record { is_open = true; begun = r.begun + 1; ended = r.ended; is_stopped = r.is_stopped }
after_begin begun.NotYet r = r
after_begin begun.Stop r = stopped r

-- Ended closes the read and counts it as ended, and More leaves all as it was
abbrev pub after_step : Stepped → Tally → Tally
after_step stepped.More r = r
after_step stepped.Ended r = record { is_open = false; begun = r.begun; ended = r.ended + 1; is_stopped = r.is_stopped }
after_step stepped.Stop r = stopped r

-- so many reads were begun and ended, each once, with none left open
abbrev pub after_reads : ℕ → Tally → Tally
after_reads n r = record { is_open = r.is_open; begun = r.begun + n; ended = r.ended + n; is_stopped = r.is_stopped }
