use Rattle.std.proofs.Common.{◌≡◌, ℕ, zero, suc, ◌<◌, ◌≤◌, [], ◌∷◌, refl, arith}
use Rattle.format_spec.specs.PageMap.{PageMap, pages_of}
use Rattle.format_spec.specs.Log.{overlay}
use Rattle.format_spec.proofs.sqlite_rows.worked_overlay.Goals as goal

abbrev logged : PageMap
logged =
    overlay (pages_of 2 2 (1 ∷ 2 ∷ 3 ∷ 4 ∷ 5 ∷ []))
    (record { number = 2; commit = 0; page = 9 ∷ 9 ∷ [] } ∷ record { number = 1; commit = 3; page = 7 ∷ 8 ∷ [] } ∷ record { number = 1; commit = 0; page = 5 ∷ 5 ∷ [] } ∷ [])

-- the pages up to the commit, one by one
page-logged : (n : ℕ) → 0 < n → n ≤ 3 → logged.page n ≡ (pages_of 2 3 (7 ∷ 8 ∷ 9 ∷ 9 ∷ 5 ∷ 0 ∷ 6 ∷ 6 ∷ [])).page n
page-logged zero low high = absurd (omega arith)
page-logged (suc zero) low high = refl
page-logged (suc (suc zero)) low high = refl
page-logged (suc (suc (suc zero))) low high = refl
page-logged (suc (suc (suc (suc n)))) low high = absurd (omega arith)

-- without a commit those of the file
page-plain : (n : ℕ) → 0 < n → n ≤ 2 → (pages_of 2 2 (1 ∷ 2 ∷ 3 ∷ 4 ∷ 5 ∷ [])).page n ≡ (pages_of 2 2 (1 ∷ 2 ∷ 3 ∷ 4 ∷ [])).page n
page-plain zero low high = absurd (omega arith)
page-plain (suc zero) low high = refl
page-plain (suc (suc zero)) low high = refl
page-plain (suc (suc (suc n))) low high = absurd (omega arith)

pub returns-clause-logged : goal.returns-clause-logged
returns-clause-logged c = record { size = refl; count = refl; each = page-logged }

pub returns-clause-uncommitted : goal.returns-clause-uncommitted
returns-clause-uncommitted c = record { size = refl; count = refl; each = page-plain }
