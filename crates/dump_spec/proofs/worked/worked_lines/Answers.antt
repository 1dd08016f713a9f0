use Rattle.std.proofs.Common.{ℕ, List, ◌∷◌, ◌++◌, codes, refl, ap, arith}
use Rattle.std.proofs.lemmas.Fmt.{decimal_digit}
use Rattle.hex.specs.Hex.{encode_with}
use Rattle.dump_spec.proofs.worked.worked_lines.Goals as goal

pub returns-clause-integer : goal.returns-clause-integer
returns-clause-integer c = ap (λ (s : List ℕ). 45 ∷ s) (decimal_digit 7 (omega arith))

pub returns-clause-blob : goal.returns-clause-blob
unfolding encode_with
returns-clause-blob c = refl

pub returns-clause-row : goal.returns-clause-row
returns-clause-row c = ap (λ (s : List ℕ). s ++ codes "|NULL|'drei'\n") (decimal_digit 3 (omega arith))
