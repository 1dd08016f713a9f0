-- Bytes are the log that was saved or have one fault: crates above cite these facts in their proofs.
use Rattle.std.specs.Prelude.{◌≡◌, ℕ, List, refl}
use Rattle.std.proofs.Common.{sym, ap, ap₂, ◌∙◌, subst, arith, inl, inr}
use Rattle.common_spec.specs.ReadingLaws.{IsOne, OrFault-one}
use Rattle.format_spec.specs.Log.{Frame, LogReading, reading_of, committed}
use Rattle.format_spec.specs.LogLaws.{log-same_reading}
use Rattle.wal_codec.specs.LogReadingLaws.{log-head}
use Rattle.oal_store.specs.declared.fault.OalFault.{OalFault}
use Rattle.oal_store.specs.declared.fault.OalFault.TheVariants.{LogHeader, OalShort, OalFrame, Disk, Memory}
use Rattle.oal_store.specs.Saved.{Saved, IsLogUpTo, end_of, IsSavedLog, IsWrong, HasWrongFrame, HasOalFault, SaysOfLog}

-- bytes are one log up to the saved length
same_reading : (saved : Saved) (bytes : List ℕ) (frames others : List Frame) (p : IsLogUpTo saved bytes frames) (q : IsLogUpTo saved bytes others) → reading_of p.is_log ≡ reading_of q.is_log
same_reading saved bytes frames others p q = log-same_reading p.is_log q.is_log

same_frames : (saved : Saved) (bytes : List ℕ) (frames others : List Frame) → IsLogUpTo saved bytes frames → IsLogUpTo saved bytes others → frames ≡ others
same_frames saved bytes frames others p q = ap (λ (r : LogReading). r.frames) (same_reading saved bytes frames others p q)

one_log : (saved : Saved) (bytes : List ℕ) → IsOne (IsSavedLog saved bytes)
one_log saved bytes a b p q = same_frames saved bytes a b p.log q.log

-- of frames one number is wrong
wrong-one : (saved : Saved) (reading : LogReading) (a b : ℕ) → IsWrong saved reading a → IsWrong saved reading b → a ≡ b
wrong-one saved reading a b (inl x) (inl y) = x.1 ∙ sym y.1
wrong-one saved reading a b (inl x) (inr y) = absurd (omega (arith, x.0, y.0))
wrong-one saved reading a b (inr x) (inl y) = absurd (omega (arith, x.0, y.0))
wrong-one saved reading a b (inr x) (inr y) = x.1 ∙ sym y.1

one_wrong : (saved : Saved) (bytes : List ℕ) (a b : ℕ) → HasWrongFrame saved bytes a → HasWrongFrame saved bytes b → a ≡ b
one_wrong saved bytes a b p q =
    wrong-one saved (reading_of p.log.is_log) a b p.wrong (subst (λ (r : LogReading). IsWrong saved r b) (same_reading saved bytes q.frames p.frames q.log p.log) q.wrong)

-- and of frames that are whole, closed and summed none is
never_wrong : (saved : Saved) (reading : LogReading) (number : ℕ) → end_of saved reading.frames ≡ saved.size → committed reading.frames ≡ reading.frames → reading.sums ≡ saved.sums
    → ¬ IsWrong saved reading number
never_wrong saved reading number whole closed sums (inl x) = omega (arith, x.0, whole)
never_wrong saved reading number whole closed sums (inr x) = elim x.2 [
  | inl unended ↦ unended closed
  | inr other ↦ other sums
]

not_wrong : (saved : Saved) (bytes : List ℕ) (frames : List Frame) (number : ℕ) → IsSavedLog saved bytes frames → ¬ HasWrongFrame saved bytes number
not_wrong saved bytes frames number p q =
    never_wrong saved (reading_of p.log.is_log) number p.whole p.closed p.sums (subst (λ (r : LogReading). IsWrong saved r number) (same_reading saved bytes q.frames frames q.log p.log) q.wrong)

one_fault : (saved : Saved) (bytes : List ℕ) → IsOne (HasOalFault saved bytes)
one_fault saved bytes LogHeader LogHeader p q = refl
one_fault saved bytes LogHeader (OalShort has needs) p q = absurd (omega (arith, p.0, q.2))
one_fault saved bytes LogHeader (OalFrame b) p q = absurd (p.1 _ (log-head q.log.is_log) q.log.sized refl)
one_fault saved bytes LogHeader (Disk f) p q = absurd q
one_fault saved bytes LogHeader (Memory e) p q = absurd q
one_fault saved bytes (OalShort has needs) LogHeader p q = absurd (omega (arith, q.0, p.2))
one_fault saved bytes (OalShort has needs) (OalShort other also) p q = ap₂ (λ (h n : ℕ). OalShort h n) (p.0 ∙ sym q.0) (p.1 ∙ sym q.1)
one_fault saved bytes (OalShort has needs) (OalFrame b) p q = absurd (let long = q.log.long in omega (arith, long, p.2))
one_fault saved bytes (OalShort has needs) (Disk f) p q = absurd q
one_fault saved bytes (OalShort has needs) (Memory e) p q = absurd q
one_fault saved bytes (OalFrame a) LogHeader p q = absurd (q.1 _ (log-head p.log.is_log) p.log.sized refl)
one_fault saved bytes (OalFrame a) (OalShort has needs) p q = absurd (let long = p.log.long in omega (arith, long, q.2))
one_fault saved bytes (OalFrame a) (OalFrame b) p q = ap OalFrame (one_wrong saved bytes a b p q)
one_fault saved bytes (OalFrame a) (Disk f) p q = absurd q
one_fault saved bytes (OalFrame a) (Memory e) p q = absurd q
one_fault saved bytes (Disk f) b p q = absurd p
one_fault saved bytes (Memory e) b p q = absurd p

-- the log that was saved has no fault
no_fault : (saved : Saved) (bytes : List ℕ) (frames : List Frame) (fault : OalFault) → IsSavedLog saved bytes frames → ¬ HasOalFault saved bytes fault
no_fault saved bytes frames LogHeader p q = q.1 _ (log-head p.log.is_log) p.log.sized refl
no_fault saved bytes frames (OalShort has needs) p q = let long = p.log.long in omega (arith, long, q.2)
no_fault saved bytes frames (OalFrame number) p q = not_wrong saved bytes frames number p q
no_fault saved bytes frames (Disk f) p q = q
no_fault saved bytes frames (Memory e) p q = q

-- bytes are the log that was saved, or have one fault
pub saved_log-one : (saved : Saved) (bytes : List ℕ) → IsOne (SaysOfLog saved bytes)
saved_log-one saved bytes = OrFault-one (IsSavedLog saved bytes) (HasOalFault saved bytes) (one_log saved bytes) (one_fault saved bytes) (no_fault saved bytes)
