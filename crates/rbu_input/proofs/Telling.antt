-- A chain of checks tells of its first fault.
use Rattle.std.proofs.Common.{◌≡◌, List, [], ◌∷◌, ◌++◌, map, Option, Some, None, Result, Ok, Err, refl, ◌∙◌}
use Rattle.std.proofs.Math.Path.{subst⁻¹}
use Rattle.std.proofs.lemmas.List.{map-append}
use Rattle.prepared_spec.specs.declared.input_fault.InputFault.{InputFault}
use Rattle.prepared_spec.specs.DataTables.{first_fault}
use Rattle.rbu_input.specs.declared.fault.InputError.{InputError}
use Rattle.rbu_input.specs.declared.fault.InputError.TheVariants.{Refused, Memory}
use Rattle.rbu_input.specs.Tables.{Tells}

-- the first fault of some and of those behind them
fault-passed : (a : Option InputFault) (rest : List (Option InputFault)) → a ≡ None → first_fault (a ∷ rest) ≡ first_fault rest
fault-passed a rest none = subst⁻¹ (λ (o : Option InputFault). first_fault (o ∷ rest) ≡ first_fault rest) none refl

fault-here : (a : Option InputFault) (rest : List (Option InputFault)) (fault : InputFault) → a ≡ Some fault → first_fault (a ∷ rest) ≡ Some fault
fault-here a rest fault some = subst⁻¹ (λ (o : Option InputFault). first_fault (o ∷ rest) ≡ Some fault) some refl

faults-passed : (those others : List (Option InputFault)) → first_fault those ≡ None → first_fault (those ++ others) ≡ first_fault others
faults-passed [] others none = refl
faults-passed (None ∷ those) others none = faults-passed those others none
faults-passed (Some fault ∷ those) others none = absurd (let h : ⊥ = cc in h)

fault-among : (those others : List (Option InputFault)) (fault : InputFault) → first_fault those ≡ Some fault → first_fault (those ++ others) ≡ Some fault
fault-among [] others fault some = absurd (let h : ⊥ = cc in h)
fault-among (None ∷ those) others fault some = fault-among those others fault some
fault-among (Some other ∷ those) others fault some = some

along : (a b : Option InputFault) (result : Result Unit InputError) → b ≡ a → Tells a result → Tells b result
along a b (Ok done) e told = e ∙ told
along a b (Err (Refused fault)) e told = e ∙ told
along a b (Err (Memory error)) e told = told

-- what a check tells, and those behind it
pub tells-first : (a : Option InputFault) (rest : List (Option InputFault)) (fault : InputError) → Tells a (Err fault) → Tells (first_fault (a ∷ rest)) (Err fault)
tells-first a rest (Refused fault) told = fault-here a rest fault told
tells-first a rest (Memory error) told = told

pub tells-next : (a : Option InputFault) (rest : List (Option InputFault)) (result : Result Unit InputError) → a ≡ None → Tells (first_fault rest) result → Tells (first_fault (a ∷ rest)) result
tells-next a rest result none told = along (first_fault rest) (first_fault (a ∷ rest)) result (fault-passed a rest none) told

pub tells-alone : (a : Option InputFault) (result : Result Unit InputError) → Tells a result → Tells (first_fault (a ∷ [])) result
tells-alone None result told = told
tells-alone (Some fault) result told = told

pub tells-front : (those others : List (Option InputFault)) (fault : InputError) → Tells (first_fault those) (Err fault) → Tells (first_fault (those ++ others)) (Err fault)
tells-front those others (Refused fault) told = fault-among those others fault told
tells-front those others (Memory error) told = told

pub tells-behind : (those others : List (Option InputFault)) (result : Result Unit InputError) → first_fault those ≡ None → Tells (first_fault others) result → Tells (first_fault (those ++ others)) result
tells-behind those others result none told = along (first_fault others) (first_fault (those ++ others)) result (faults-passed those others none) told

-- the same of the faults of items
pub tells-front_of : {A : Type 0} (f : A → Option InputFault) (xs ys : List A) (fault : InputError) → Tells (first_fault (map f xs)) (Err fault) → Tells (first_fault (map f (xs ++ ys))) (Err fault)
tells-front_of f xs ys fault told = subst⁻¹ (λ (l : List (Option InputFault)). Tells (first_fault l) (Err fault)) (map-append f xs ys) (tells-front (map f xs) (map f ys) fault told)

pub tells-behind_of : {A : Type 0} (f : A → Option InputFault) (xs ys : List A) (result : Result Unit InputError) → first_fault (map f xs) ≡ None → Tells (first_fault (map f ys)) result
    → Tells (first_fault (map f (xs ++ ys))) result
tells-behind_of f xs ys result none told = subst⁻¹ (λ (l : List (Option InputFault)). Tells (first_fault l) result) (map-append f xs ys) (tells-behind (map f xs) (map f ys) result none told)
