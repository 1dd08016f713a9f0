-- The rule, which holds between any two steps.
use Rattle.std.specs.Prelude.{◌≡◌, zero, suc, ◌⊎◌, ℕ, ◌*◌, ◌<◌, ◌≤◌, ◌==◌, List, [], ◌∷◌, ◌++◌, length, if◌then◌else◌, Option, Some, None}
use mathlib.Core.Option.{some}
use mathlib.Core.Option as maybe
use lib.ListN.{get_elem?}
use Rattle.atomic_table.specs.Table.{State}
use Rattle.frame_pool.specs.declared.frame.Frame.{Frame}
use Rattle.frame_pool.specs.declared.view.View.{View}
use Rattle.frame_pool.specs.Bits.{stands}
use Rattle.frame_pool.specs.Claims.{Has}
use Rattle.frame_pool.specs.Frames.{number_of, size_of}
use Rattle.frame_pool.specs.Views.{whole, total}

-- what a slot holds
abbrev pub Slot : Type 0
Slot = Option Frame

-- the frame k is at home
abbrev pub Lies : ℕ → List (maybe.Option Slot) → ℕ → Type 0
Lies size homes k = (f : Frame) × (get_elem? homes k ≡ some (some (Some f))) × (number_of f ≡ k) × (size_of f ≡ size)

-- each slot has the frame of its number
abbrev pub Filled : ℕ → List Slot → Type 0
Filled size slots = (k : ℕ) → k < length slots → (f : Frame) × (get_elem? slots k ≡ some (Some f)) × (number_of f ≡ k) × (size_of f ≡ size)

-- some seat has claimed the frame k
abbrev pub IsLent : List View → ℕ → Type 0
IsLent views k = (j : ℕ) × (v : View) × (get_elem? views j ≡ some v) × Has v.claimed k

-- no frame is claimed by two seats
abbrev pub Disjoint : List View → Type 0
Disjoint views = (i j : ℕ) (u v : View) (k : ℕ) → get_elem? views i ≡ some u → get_elem? views j ≡ some v → Has u.claimed k → Has v.claimed k → i ≡ j

-- what the rule knows of one view
pub record Known (size : ℕ) (words : List ℕ) (homes : List (maybe.Option Slot)) (v : View) : Type 0 where
  -- a seat that was not joined to another knows the size of the frames
  pub sized : 0 < v.parts → v.size ≡ size
  pub owns : (k : ℕ) → Has v.claimed k → 0 < v.parts
  -- the bit of a claimed frame stands, and its slot is empty or out with the seat
  pub claims : (k : ℕ) → Has v.claimed k → (k < length homes) × (stands words k ≡ 1) × ((v.out ≡ Some k) ⊎ (get_elem? homes k ≡ some (some None)))

-- the rule, where the seats have so many parts
pub record KeptAt (parts size : ℕ) (s : State Slot View) : Type 0 where
  -- there is a bit for each frame
  pub covered : length s.homes ≤ length s.words * 64
  -- a frame whose bit does not stand is at home
  pub free : (k : ℕ) → k < length s.homes → stands s.words k ≡ 0 → Lies size s.homes k
  -- a frame whose bit stands is claimed by some seat
  pub lent : (k : ℕ) → k < length s.homes → stands s.words k ≡ 1 → IsLent s.views k
  pub each : (j : ℕ) (v : View) → get_elem? s.views j ≡ some v → Known size s.words s.homes v
  pub alone : Disjoint s.views
  pub shared : total s.views ≡ parts

-- the rule
abbrev pub Kept : ℕ → State Slot View → Type 0
Kept size s = KeptAt whole size s

-- the numbers below n whose bit does not stand, in order
abbrev pub unlent : List ℕ → ℕ → List ℕ
unlent words zero = []
unlent words (suc n) = unlent words n ++ (if stands words n == 0 then (n ∷ []) else [])
