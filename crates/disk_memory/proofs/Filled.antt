-- Files whose pending places are filled.
use Rattle.std.proofs.Common.{◌≡◌, ◌⊎◌, ℕ, ◌+◌, ◌-◌, ◌<◌, ◌≤◌, min, max, List, length, replicate, slice_index, inl, inr, sym, ◌∙◌, arith, subst}
use Rattle.std.proofs.lemmas.Bool.{cases_lt}
use Rattle.std.proofs.lemmas.List.{places}
use Rattle.byte_fields.specs.Bytes.{overwritten}
use Rattle.file_spec.specs.Records.{Range, Stored}
use Rattle.file_spec.specs.Steps.{pending}
use Rattle.disk_memory.specs.Volume.{written}
use Rattle.disk_memory.specs.Crash.{IsFilled, IsPending}

-- a place outside of the range of a change was pending before it, if it is after it
pending-outside : (s : Stored) (range : Range) (n : ℕ) (shown : List ℕ) (i : ℕ) → (i < range.from) ⊎ (range.to ≤ i) → IsPending (pending s range n shown) i → IsPending s i
pending-outside s range n shown i outside (inl behind) = inl behind
pending-outside s range n shown i outside (inr touched) = inr (λ untouched. touched (outside, untouched))

-- the bytes change in a range alone, and the marked ones have a mark there
record Marks (from to : ℕ) (old new marked new_marked : List ℕ) : Type 0 where
  long : length new_marked ≡ length new
  inside : (i : ℕ) → from ≤ i → i < to → i < length new → slice_index new_marked i ≡ 165
  short : (i : ℕ) → (i < from) ⊎ (to ≤ i) → i < length new → i < length old
  same : (i : ℕ) → (i < from) ⊎ (to ≤ i) → i < length new → slice_index new_marked i ≡ slice_index marked i
  shows : (i : ℕ) → (i < from) ⊎ (to ≤ i) → i < length new → slice_index new i ≡ slice_index old i

filled-changed : (s : Stored) (range : Range) (n : ℕ) (new marked new_marked : List ℕ) → Marks range.from range.to s.shown new marked new_marked → IsFilled (λ _. 165) s marked
    → IsFilled (λ _. 165) (pending s range n new) new_marked
filled-changed s range n new marked new_marked marks filled = record {
  long = marks.long;
  pending = λ i inside is. elim (cases_lt i range.from) [
    | inl before ↦ outside i inside (inl before) is
    | inr after ↦ elim (cases_lt i range.to) [ inl within ↦ marks.inside i after within inside | inr behind ↦ outside i inside (inr behind) is ]
  ];
  rest = λ i inside synced untouched.
      marks.same i untouched.0 inside ∙ filled.rest i (marks.short i untouched.0 inside) synced untouched.1 ∙ sym (marks.shows i untouched.0 inside);
}
  where
    outside : (i : ℕ) → i < length new → (i < range.from) ⊎ (range.to ≤ i) → IsPending (pending s range n new) i → slice_index new_marked i ≡ 165
    outside i inside apart is = marks.same i apart inside ∙ filled.pending i (marks.short i apart inside) (pending-outside s range n new i apart is)

-- a write, whose range begins at the end where that is earlier
marks-written : (at from : ℕ) (bytes old marked : List ℕ) → from ≡ min at (length old) → length marked ≡ length old →
    Marks from (at + length bytes) old (overwritten old at bytes) marked (overwritten marked from (replicate (at + length bytes - from) 165))
marks-written at from bytes old marked begins long = record {
  long = grind (arith, places);
  inside = λ i after within inside. grind (arith, places);
  short = λ i apart inside. elim apart [ inl before ↦ omega (arith, before, begins) | inr behind ↦ grind (arith, places) ];
  same = λ i apart inside. elim apart [ inl before ↦ grind (arith, places) | inr behind ↦ grind (arith, places) ];
  shows = λ i apart inside. elim apart [ inl before ↦ grind (arith, places) | inr behind ↦ grind (arith, places) ];
}

pub filled-written : (at from : ℕ) (bytes : List ℕ) (s : Stored) (marked : List ℕ) → from ≡ min at (length s.shown) → IsFilled (λ _. 165) s marked →
    IsFilled (λ _. 165) (written at bytes s) (overwritten marked from (replicate (at + length bytes - from) 165))
filled-written at from bytes s marked begins filled =
    filled-changed s (record { from = min at (length s.shown); to = at + length bytes }) (max (length s.shown) (at + length bytes)) (overwritten s.shown at bytes) marked
    (overwritten marked from (replicate (at + length bytes - from) 165))
    (subst (λ k. Marks k (at + length bytes) s.shown (overwritten s.shown at bytes) marked (overwritten marked from (replicate (at + length bytes - from) 165))) begins
    (marks-written at from bytes s.shown marked begins filled.long)) filled
