use Rattle.std.proofs.Common.{◌≡◌, codes, false, [], ◌∷◌, ℕ, refl, inl, inr, arith}
use Rattle.rbu_value.specs.declared.value.Value.TheVariants.{Text}
use Rattle.rbu_rows.specs.declared.control.ControlFault.TheVariants.{ControlLetter, DeltaColumn}
use Rattle.rbu_rows.specs.Controls.{LetterHasFault, HasFault}
use Rattle.rbu_rows.specs.ControlsLaws.{one_fault}
use Rattle.rbu_rows.proofs.worked.worked_controls.Goals as goal

-- y is a letter of no kind
other : (place : ℕ) → LetterHasFault 121 place (ControlLetter place)
other place = (refl, λ e. omega (arith, e), λ e. omega (arith, e), λ d. elim d [ inl e ↦ omega (arith, e) | inr e ↦ omega (arith, e) ])

pub returns-clause-delta : goal.returns-clause-delta
returns-clause-delta c = inr (refl, (false ∷ false ∷ [], 100, [], refl, (refl, inl refl)))

pub returns-clause-letter : goal.returns-clause-letter
returns-clause-letter c = inr (refl, (false ∷ false ∷ [], 121, [], refl, other 2))

pub returns-clause-later : goal.returns-clause-later
returns-clause-later c h =
    let first : HasFault (Text (codes "y.d")) 3 (ControlLetter 0) = inr (refl, ([], 121, 46 ∷ 100 ∷ [], refl, other 0)) in
    let e : DeltaColumn 2 ≡ ControlLetter 0 = one_fault (Text (codes "y.d")) 3 (DeltaColumn 2) (ControlLetter 0) h first in absurd (cc)
