-- The words of each command.
use Rattle.std.specs.Prelude.{◌≡◌, ℕ, ◌≤◌, List, [], ◌∷◌, codes}
use Rattle.std.specs.Fmt.{decimal}
use Rattle.update_spec.specs.declared.Command.{Command}
use Rattle.update_spec.specs.declared.Command.TheVariants.{Apply, State, Check, Dump, Make, Trial, Beside}

-- the word is a number in decimal digits, without sign or leading zero, from least to most
pub record IsNumber (word : List ℕ) (least most n : ℕ) : Type 0 where
  pub spelled : word ≡ decimal n
  pub least_is : least ≤ n
  pub most_is : n ≤ most

-- the numbers that each word of a command may be: units of work, rows, the generator's start, readers, and reads of each
abbrev pub IsSteps : List ℕ → ℕ → Type 0
IsSteps word = IsNumber word 1 4294967295

abbrev pub IsCount : List ℕ → ℕ → Type 0
IsCount word = IsNumber word 1 200000

abbrev pub IsSeed : List ℕ → ℕ → Type 0
IsSeed word = IsNumber word 0 4294967295

abbrev pub IsReaders : List ℕ → ℕ → Type 0
IsReaders word = IsNumber word 1 16

abbrev pub IsReads : List ℕ → ℕ → Type 0
IsReads word = IsNumber word 1 1000

-- the words are those of the command
abbrev pub AreWords : List (List ℕ) → Command → Type 0
AreWords words (Apply steps) = (word : List ℕ) × (words ≡ codes "apply" ∷ word ∷ []) × IsSteps word steps
AreWords words State = words ≡ codes "state" ∷ []
AreWords words Check = words ≡ codes "check" ∷ []
AreWords words Dump = (name : List ℕ) × (words ≡ codes "dump" ∷ name ∷ [])
AreWords words (Make count seed) =
    (first : List ℕ) × (second : List ℕ) × (words ≡ codes "make" ∷ first ∷ second ∷ []) × IsCount first count × IsSeed second seed
AreWords words (Trial count seed steps) =
    (first : List ℕ) × (second : List ℕ) × (third : List ℕ)
    × (words ≡ codes "trial" ∷ first ∷ second ∷ third ∷ []) × IsCount first count × IsSeed second seed × IsSteps third steps
AreWords words (Beside readers reads) =
    (first : List ℕ) × (second : List ℕ) × (words ≡ codes "beside" ∷ first ∷ second ∷ []) × IsReaders first readers × IsReads second reads

-- no command has the words
abbrev pub IsUsage : List (List ℕ) → Type 0
IsUsage words = (command : Command) → ¬ AreWords words command

-- the update as far as it is built: all of it in one call
abbrev pub AsksUpdate : List (List ℕ) → Type 0
AsksUpdate words = AreWords words (Apply 4294967295)

-- the dump of the table with a name
abbrev pub AsksDump : List (List ℕ) → Type 0
AsksDump words = AreWords words Dump

-- the check
abbrev pub AsksCheck : List (List ℕ) → Type 0
AsksCheck words = AreWords words Check

-- What a command asks that only reads: for the table with a name, or whether the database is sound.
pub data Question : Type 0 where
  Dumps : List ℕ → Question
  Checks : Question

-- the words ask it
abbrev pub Ask : List (List ℕ) → Question → Type 0
Ask words (Dumps name) = words ≡ codes "dump" ∷ name ∷ []
Ask words Checks = AsksCheck words

-- a dump or the check
abbrev pub AsksQuestion : List (List ℕ) → Type 0
AsksQuestion words = (question : Question) × Ask words question

-- the words of a command that is not built
abbrev pub AsksMore : List (List ℕ) → Type 0
AsksMore words = (¬ AsksUpdate words) × (¬ AsksQuestion words) × ((command : Command) × AreWords words command)
