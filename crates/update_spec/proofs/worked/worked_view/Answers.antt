use Rattle.std.proofs.Common.{◌≡◌, ℕ, zero, suc, ◌<◌, ◌≤◌, List, [], ◌∷◌, ◌++◌, replicate, refl, arith}
use Rattle.format_spec.specs.PageMap.{pages_of}
use Rattle.format_spec.specs.Log.{overlay}
use Rattle.format_spec.specs.LittleLog.{little_page, little_frame}
use Rattle.update_spec.proofs.worked.worked_view.Goals as goal

abbrev first : List ℕ
first = replicate 16 0 ++ 2 ∷ 0 ∷ replicate 494 0

-- the one page of the file by itself
page-alone : (n : ℕ) → 0 < n → n ≤ 1 → (pages_of 512 1 (first ++ 1 ∷ [])).page n ≡ (pages_of 512 1 first).page n
page-alone zero low high = absurd (omega arith)
page-alone (suc zero) low high = refl
page-alone (suc (suc n)) low high = absurd (omega arith)

-- the pages up to the commit
page-logged : (n : ℕ) → 0 < n → n ≤ 2 → (overlay (pages_of 512 1 first) (little_frame ∷ [])).page n ≡ (pages_of 512 2 (first ++ little_page)).page n
page-logged zero low high = absurd (omega arith)
page-logged (suc zero) low high = refl
page-logged (suc (suc zero)) low high = refl
page-logged (suc (suc (suc n))) low high = absurd (omega arith)

pub returns-clause-alone : goal.returns-clause-alone
returns-clause-alone c = record { size = refl; count = refl; each = page-alone }

pub returns-clause-logged : goal.returns-clause-logged
returns-clause-logged c = (512, little_frame ∷ [], c.worked_log.ensures, record { size = refl; count = refl; each = page-logged })

pub returns-clause-hidden : goal.returns-clause-hidden
returns-clause-hidden c = λ pages. ((λ seen. seen), (λ seen. seen))
