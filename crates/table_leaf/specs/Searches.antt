-- The search for a rowid among the cells of a page that is not decoded.
use Rattle.std.specs.Prelude.{ℕ, ℤ, ◌<◌, ◌≤◌, ◌<ℤ◌, ◌≤ℤ◌, List, [], ◌∷◌, length, map, slice_index_or}
use Rattle.put_spec.specs.Steps.{Spelled}

abbrev pub rowids_in : List Spelled → List ℤ
rowids_in cells = map (λ cell. cell.view.rowid) cells

-- numbers that do not fall, and none of them below a bound
abbrev pub Climbs : ℤ → List ℤ → Type 0
Climbs low [] = Unit {0}
Climbs low (x ∷ xs) = (low ≤ℤ x) × Climbs x xs

-- of these numbers those in front of one index are less than another number, and those from a second index on are not
pub record IsNarrowed (number : ℤ) (xs : List ℤ) (low high : ℕ) : Type 0 where
  pub less : (k : ℕ) (d : ℤ) → k < low → k < length xs → slice_index_or xs k d <ℤ number
  pub rest : (k : ℕ) (d : ℤ) → high ≤ k → k < length xs → number ≤ℤ slice_index_or xs k d
