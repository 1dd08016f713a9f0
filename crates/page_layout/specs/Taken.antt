-- What the bytes of a page are after one cell was taken out of it.
use Rattle.std.specs.Prelude.{◌≡◌, ℕ, ◌+◌, ◌*◌, ◌%◌, ◌<◌, ◌≤◌, ◌⊎◌, List, length, slice_index}
use Rattle.byte_fields.specs.Numbers.{number_at}
use Rattle.page_spec.specs.PlacesLaws.{SameBytes}

-- A cell's place moves up by so much where it is below a place.
abbrev pub Moves : ℕ → ℕ → ℕ → ℕ → Type 0
Moves place by old new = ((old < place) × (new ≡ old + by)) ⊎ ((place ≤ old) × (new ≡ old))

-- so do all places of an array of so many; nothing else changes
pub record MovesPlaces (old new : List ℕ) (array count place by : ℕ) : Type 0 where
  pub long : length new ≡ length old
  pub moves : (k : ℕ) → k < count → Moves place by (number_at (array + 2 * k) 2 old) (number_at (array + 2 * k) 2 new)
  pub rest : (k : ℕ) → (k < array) ⊎ (array + 2 * count ≤ k) → slice_index new k ≡ slice_index old k

-- the place at an index was taken out of an array of so many; those behind it moved down
pub record DropsPlace (old new : List ℕ) (array count at : ℕ) : Type 0 where
  pub long : length new ≡ length old
  pub moved : (k : ℕ) → at ≤ k → k + 1 < count → SameBytes 2 new (array + 2 * k) old (array + 2 * (k + 1))
  pub in_front : (k : ℕ) → k < array + 2 * at → slice_index new k ≡ slice_index old k
  pub behind : (k : ℕ) → array + 2 * count ≤ k → slice_index new k ≡ slice_index old k

-- The cell at an index was taken out of a page of so many, of which the lowest begins at `bottom`: the bytes in front of the cell moved up over its room, their places with them, and its own place is gone.
pub record TakesCell (old new : List ℕ) (header array count at bottom place room : ℕ) : Type 0 where
  pub long : length new ≡ length old
  pub in_front : (k : ℕ) → k < at → Moves place room (number_at (array + 2 * k) 2 old) (number_at (array + 2 * k) 2 new)
  pub above : (k : ℕ) → at ≤ k → k + 1 < count → Moves place room (number_at (array + 2 * (k + 1)) 2 old) (number_at (array + 2 * k) 2 new)
  pub moved : (k : ℕ) → bottom ≤ k → k < place → slice_index new (k + room) ≡ slice_index old k
  pub behind : (k : ℕ) → place + room ≤ k → slice_index new k ≡ slice_index old k
  pub front : (k : ℕ) → k ≤ header → slice_index new k ≡ slice_index old k
  pub no_freeblock : number_at (header + 1) 2 new ≡ 0
  pub counts : number_at (header + 3) 2 new + 1 ≡ count
  pub content : number_at (header + 5) 2 new ≡ (bottom + room) % 65536
  pub no_fragment : number_at (header + 7) 1 new ≡ 0
  pub rest : (k : ℕ) → header + 8 ≤ k → k < array → slice_index new k ≡ slice_index old k
