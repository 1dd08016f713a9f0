-- What the files answer to a command that only reads a database: a text that it prints, or the first refusal.
use Rattle.std.specs.Prelude.{◌≡◌, ◌≢◌, ◌⊎◌, ℕ, ◌-◌, List, ◌∷◌, length, take, None, IsSome, Result, Err}
use Rattle.byte_fields.specs.Numbers.{page_at}
use Rattle.file_spec.specs.declared.FileName.TheVariants.{Target, Wal, Journal}
use Rattle.file_spec.specs.Files.{Files, content}
use Rattle.db_header.specs.declared.fields.Header.{Header}
use Rattle.db_header.specs.declared.fields.HeaderFault.{HeaderFault}
use Rattle.db_header.specs.Reading.{IsHeaderOf, IsFirstFault}
use Rattle.refusal.specs.declared.Part.TheVariants as part
use Rattle.refusal.specs.declared.Refusal.{Refusal}
use Rattle.refusal.specs.declared.Refusal.TheVariants.{NotYet, JournalPresent}
use Rattle.tree_spec.specs.Standing.{Sizes, Paged}
use Rattle.dump_spec.specs.Refusals.{header_refusal}

-- a rollback journal is to be played back: it is not empty, and begins with another byte than 0 (Database File Format, section 3)
abbrev pub HasJournal : Files → Type 0
HasJournal files = (byte : ℕ) × (rest : List ℕ) × (content files Journal ≡ byte ∷ rest) × (byte ≢ 0)

-- the pages of a database by its header
abbrev pub sizes_by : Header → Sizes
sizes_by header = record { size = header.page_size; usable = header.page_size - header.reserved }

abbrev pub pages_by : Header → List ℕ → Paged
pages_by header bytes = record { count = header.pages; pages = λ n. page_at header.page_size n bytes }

-- what the pages of a database answer
abbrev pub PagesAnswer : Type 1
PagesAnswer = Sizes → Paged → Result (List ℕ) Refusal → Type 0

-- the answer of the bytes of a target: the first refusal of its header, else that of its pages
abbrev pub IsTargetAnswer : PagesAnswer → List ℕ → Result (List ℕ) Refusal → Type 0
IsTargetAnswer OfPages bytes answer =
    ((fault : HeaderFault) × IsFirstFault (take 100 bytes) (length bytes) fault × (answer ≡ Err (header_refusal fault)))
    ⊎ ((header : Header) × IsHeaderOf (take 100 bytes) (length bytes) header × OfPages (sizes_by header) (pages_by header bytes) answer)

-- The answer of the files: a journal, else a write-ahead log, else what the target says.
abbrev pub IsFilesAnswer : PagesAnswer → Files → Result (List ℕ) Refusal → Type 0
IsFilesAnswer OfPages files answer =
    (HasJournal files × (answer ≡ Err JournalPresent))
    ⊎ (((¬ HasJournal files) × IsSome (files Wal) × (answer ≡ Err (NotYet part.Log)))
    ⊎ ((¬ HasJournal files) × (files Wal ≡ None) × IsTargetAnswer OfPages (content files Target) answer))
