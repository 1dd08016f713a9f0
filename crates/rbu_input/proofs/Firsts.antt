-- The first thing that is wrong, in one list behind another.
use Rattle.std.proofs.Common.{◌≡◌, List, [], ◌∷◌, ◌++◌, refl, ap, inl, inr, append_assoc, append-nil}
use Rattle.std.proofs.Math.Path.{subst, subst⁻¹}
use Rattle.database_spec.specs.declared.catalog.Catalog.{Catalog}
use Rattle.prepared_spec.specs.declared.input_fault.InputFault.{InputFault}
use Rattle.rbu_rows.specs.declared.prepared.Batch.{Batch}
use Rattle.prepared_spec.specs.Inputs.{Input, Opens, Reads, Damages, Closes, FirstWrongInput, AllRight, batches_in}
use Rattle.prepared_spec.specs.TargetRecords.{TargetFinding, FirstWrongTarget, AllRightTargets}

module _ (catalog : Catalog) where
  pub right-join : (before xs ys : List Input) → AllRight catalog before xs → AllRight catalog (before ++ xs) ys → AllRight catalog before (xs ++ ys)
  right-join before [] ys right later = subst (λ (b : List Input). AllRight catalog b ys) (append-nil before) later
  right-join before (x ∷ xs) ys right later = (right.0, right-join (before ++ x ∷ []) xs ys right.1 (subst⁻¹ (λ (b : List Input). AllRight catalog b ys) (append_assoc before (x ∷ []) xs) later))

  pub first-behind : (before xs ys : List Input) (fault : InputFault) → AllRight catalog before xs → FirstWrongInput catalog (before ++ xs) ys fault → FirstWrongInput catalog before (xs ++ ys) fault
  first-behind before [] ys fault right later = subst (λ (b : List Input). FirstWrongInput catalog b ys fault) (append-nil before) later
  first-behind before (x ∷ xs) ys fault right later =
      inr (right.0, first-behind (before ++ x ∷ []) xs ys fault right.1 (subst⁻¹ (λ (b : List Input). FirstWrongInput catalog b ys fault) (append_assoc before (x ∷ []) xs) later))

  pub first-front : (before xs ys : List Input) (fault : InputFault) → FirstWrongInput catalog before xs fault → FirstWrongInput catalog before (xs ++ ys) fault
  first-front before [] ys fault first = absurd first
  first-front before (x ∷ xs) ys fault (inl wrong) = inl wrong
  first-front before (x ∷ xs) ys fault (inr (right, later)) = inr (right, first-front (before ++ x ∷ []) xs ys fault later)

pub targets-join : (xs ys : List TargetFinding) → AllRightTargets xs → AllRightTargets ys → AllRightTargets (xs ++ ys)
targets-join [] ys right later = later
targets-join (x ∷ xs) ys right later = (right.0, targets-join xs ys right.1 later)

pub target-behind : (xs ys : List TargetFinding) (fault : InputFault) → AllRightTargets xs → FirstWrongTarget ys fault → FirstWrongTarget (xs ++ ys) fault
target-behind [] ys fault right later = later
target-behind (x ∷ xs) ys fault right later = inr (right.0, target-behind xs ys fault right.1 later)

pub target-front : (xs ys : List TargetFinding) (fault : InputFault) → FirstWrongTarget xs fault → FirstWrongTarget (xs ++ ys) fault
target-front [] ys fault first = absurd first
target-front (x ∷ xs) ys fault (inl wrong) = inl wrong
target-front (x ∷ xs) ys fault (inr (right, later)) = inr (right, target-front xs ys fault later)

-- the batches of two lists of what is found
pub batches-append : (xs ys : List Input) → batches_in (xs ++ ys) ≡ batches_in xs ++ batches_in ys
batches-append [] ys = refl
batches-append (Opens source ∷ xs) ys = batches-append xs ys
batches-append (Reads opened member prepared ∷ xs) ys = batches-append xs ys
batches-append (Damages stop ∷ xs) ys = batches-append xs ys
batches-append (Closes opened rows ∷ xs) ys = ap (λ (bs : List Batch). record { table = opened.name; source = opened.source; rows = rows } ∷ bs) (batches-append xs ys)
