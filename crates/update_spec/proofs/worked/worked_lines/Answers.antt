use Rattle.std.proofs.Common.{ℕ, List, [], ◌∷◌, ◌++◌, codes, ap, ap₂, ◌∙◌, arith}
use Rattle.std.specs.Fmt.{decimal}
use Rattle.std.proofs.lemmas.Fmt.{decimal_digit}
use Rattle.update_spec.proofs.worked.worked_lines.Goals as goal

pub returns-clause-constraint : goal.returns-clause-constraint
returns-clause-constraint c = ap (λ (s : List ℕ). codes "constraint key-present t1 -" ++ (s ++ 10 ∷ [])) (decimal_digit 5 (omega arith))

pub returns-clause-chain : goal.returns-clause-chain
returns-clause-chain c = ap (λ (s : List ℕ). codes "refused 45 ChainBroken " ++ ((s ++ []) ++ 10 ∷ [])) (decimal_digit 7 (omega arith))

pub returns-clause-full : goal.returns-clause-full
returns-clause-full c =
    ap₂ (λ (s t : List ℕ). (codes "refused 51 TargetFull " ++ (s ++ (codes " " ++ (t ++ [])))) ++ 10 ∷ []) (decimal_digit 3 (omega arith)) (decimal_digit 4 (omega arith))

pub returns-clause-tree : goal.returns-clause-tree
returns-clause-tree c = ap (λ (s : List ℕ). (codes "refused 55 TreeDamaged " ++ (s ++ codes " depth")) ++ 10 ∷ []) (decimal_digit 2 (omega arith))

pub returns-clause-control : goal.returns-clause-control
returns-clause-control c =
    let five : List ℕ → List ℕ → List ℕ → List ℕ = λ s t u. (codes "refused 81 ControlLength data_t1 -" ++ (s ++ (codes " " ++ (t ++ (codes " " ++ (u ++ [])))))) ++ 10 ∷ [] in
    ap (λ (s : List ℕ). five s (decimal 2) (decimal 3)) (decimal_digit 5 (omega arith)) ∙ ap₂ (five (codes "5")) (decimal_digit 2 (omega arith)) (decimal_digit 3 (omega arith))

pub returns-clause-much : goal.returns-clause-much
returns-clause-much c =
    ap₂ (λ (s t : List ℕ). (codes "refused 93 TooMuch rows " ++ (s ++ (codes " " ++ (t ++ [])))) ++ 10 ∷ []) (decimal_digit 8 (omega arith)) (decimal_digit 7 (omega arith))
