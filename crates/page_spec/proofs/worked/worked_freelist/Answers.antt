use Rattle.std.proofs.Common.{◌≡◌, ℕ, zero, suc, ◌<◌, [], ◌∷◌, ◌++◌, replicate, slice_index, ◌==◌, refl, arith, rules}
use Rattle.std.specs.List.{IsDistinct, All}
use Rattle.page_spec.specs.Pages.{Pages, IsInRange, with_page}
use Rattle.page_spec.specs.Freelists.{IsTrunk, leaf_at}
use Rattle.page_spec.proofs.worked.worked_freelist.Goals as goal

abbrev pages : Pages
pages = with_page (with_page (with_page (λ _. []) 1 (replicate 32 7 ++ 0 ∷ 0 ∷ 0 ∷ 2 ∷ 0 ∷ 0 ∷ 0 ∷ 4 ∷ 7 ∷ []))
    2 (0 ∷ 0 ∷ 0 ∷ 3 ∷ 0 ∷ 0 ∷ 0 ∷ 2 ∷ 0 ∷ 0 ∷ 0 ∷ 5 ∷ 0 ∷ 0 ∷ 0 ∷ 4 ∷ 9 ∷ 9 ∷ [])) 3 (0 ∷ 0 ∷ 0 ∷ 0 ∷ 0 ∷ 0 ∷ 0 ∷ 0 ∷ 9 ∷ 9 ∷ [])

within : (number : ℕ) → 1 < number → number < 6 → IsInRange 512 5 number
within number low high = record { behind_first = omega arith; within = omega arith; not_lock_byte = λ e. omega arith }

names : (k : ℕ) → k < 2 → leaf_at (pages 2) k ≡ slice_index (5 ∷ 4 ∷ []) k
names zero h = refl
names (suc zero) h = refl
names (suc (suc k)) h = absurd (omega arith)

leaves : All (IsInRange 512 5) (5 ∷ 4 ∷ [])
leaves zero d h = within 5 (omega arith) (omega arith)
leaves (suc zero) d h = within 4 (omega arith) (omega arith)
leaves (suc (suc k)) d h = absurd (omega arith)

second : IsTrunk pages 512 512 5 (record { page = 2; leaves = 5 ∷ 4 ∷ [] })
second = record { in_range = within 2 (omega arith) (omega arith); counts = refl; few = omega arith; names = names; leaves_in_range = leaves }

third : IsTrunk pages 512 512 5 (record { page = 3; leaves = [] })
third = record { in_range = within 3 (omega arith) (omega arith); counts = refl; few = omega arith; names = λ k h. absurd (omega arith); leaves_in_range = λ k d h. absurd (omega arith) }

differ : IsDistinct (λ (x y : ℕ). x == y) (2 ∷ 5 ∷ 4 ∷ 3 ∷ [])
unfolding IsDistinct
differ = search rules

pub returns-clause-list : goal.returns-clause-list
returns-clause-list c = record { named = (refl, second, (refl, third, refl)); many = refl; differ = differ }
