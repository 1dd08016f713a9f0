-- What a value of the column `rbu_control` says of its row (The RBU Extension, section 2.1).
use Rattle.std.specs.Prelude.{◌≡◌, ◌≢◌, ℕ, pos, ◌⊎◌, Bool, true, false, List, ◌∷◌, ◌++◌, map, length}
use Rattle.rbu_value.specs.declared.value.Value.{Value}
use Rattle.rbu_value.specs.declared.value.Value.TheVariants.{Int, Text}
use Rattle.rbu_rows.specs.declared.control.Control.{Control}
use Rattle.rbu_rows.specs.declared.control.Control.TheVariants.{Insert, Replace, Delete, Update}
use Rattle.rbu_rows.specs.declared.control.ControlFault.{ControlFault}
use Rattle.rbu_rows.specs.declared.control.ControlFault.TheVariants.{ControlValue, ControlLength, ControlLetter, DeltaColumn, Memory}

-- there was no memory
abbrev pub IsMemory : ControlFault → Type 0
IsMemory ControlValue = ⊥
IsMemory (ControlLength has needs) = ⊥
IsMemory (ControlLetter place) = ⊥
IsMemory (DeltaColumn place) = ⊥
IsMemory (Memory error) = Unit {0}

-- the letter of a column that an update changes, which is `x`, and of one that it leaves, which is `.`
abbrev pub letter_of : Bool → ℕ
letter_of true = 120
letter_of false = 46

-- what the value says: 0 inserts, 1 deletes, 2 inserts and replaces, and a text of a letter for each column updates
abbrev pub IsControl : Value → ℕ → Control → Type 0
IsControl value columns Insert = value ≡ Int (pos 0)
IsControl value columns Delete = value ≡ Int (pos 1)
IsControl value columns Replace = value ≡ Int (pos 2)
IsControl value columns (Update marks) = (value ≡ Text (map letter_of marks)) × (length marks ≡ columns)

-- `d` and `f` ask for a delta
abbrev pub IsDelta : ℕ → Type 0
IsDelta letter = (letter ≡ 100) ⊎ (letter ≡ 102)

-- the fault of a letter at a place
abbrev pub LetterHasFault : ℕ → ℕ → ControlFault → Type 0
LetterHasFault letter at (ControlLetter place) = (place ≡ at) × (letter ≢ 120) × (letter ≢ 46) × ¬ IsDelta letter
LetterHasFault letter at (DeltaColumn place) = (place ≡ at) × IsDelta letter
LetterHasFault letter at _ = ⊥

-- behind letters of marks stands one that has the fault
abbrev pub FirstHasFault : List ℕ → ControlFault → Type 0
FirstHasFault text fault =
    (marks : List Bool) × (letter : ℕ) × (rest : List ℕ) × (text ≡ map letter_of marks ++ (letter ∷ rest)) × LetterHasFault letter (length marks) fault

-- the fault of a text: its length is another than that of the columns, or else that of its first letter of no mark
abbrev pub TextHasFault : List ℕ → ℕ → ControlFault → Type 0
TextHasFault text columns fault =
    ((length text ≢ columns) × (fault ≡ ControlLength (length text) columns)) ⊎ ((length text ≡ columns) × FirstHasFault text fault)

-- the fault of a value: a text's own, and that it is neither a text nor 0, 1 or 2
abbrev pub HasFault : Value → ℕ → ControlFault → Type 0
HasFault (Text text) columns fault = TextHasFault text columns fault
HasFault value columns fault = (fault ≡ ControlValue) × (value ≢ Int (pos 0)) × (value ≢ Int (pos 1)) × (value ≢ Int (pos 2))
