-- A page has one last frame: crates above cite this fact in their proofs.
use Rattle.std.specs.Prelude.{ℕ, List}
use Rattle.std.proofs.Common.{arith, inl, inr}
use Rattle.std.proofs.lemmas.Bool.{cases_lt}
use Rattle.common_spec.specs.ReadingLaws.{IsOne}
use Rattle.wal_index.specs.FrameIndex.{IsLastFrame}

-- a page has one last frame at most
pub last_frame-one : (frames : List ℕ) (page mark : ℕ) → IsOne (IsLastFrame frames page mark)
last_frame-one frames page mark a b p q =
    let a_below = p.below in
    let b_below = q.below in
    elim (cases_lt a b) [
      | inl before ↦ absurd (p.last b before b_below q.is_frame)
      | inr not_before ↦ elim (cases_lt b a) [
        | inl before ↦ absurd (q.last a before a_below p.is_frame)
        | inr not_behind ↦ omega arith
      ]
    ]
