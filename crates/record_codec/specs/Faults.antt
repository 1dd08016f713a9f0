-- Why bytes are no record (Database File Format, section 2.1).
use Rattle.std.specs.Prelude.{◌≡◌, ◌≢◌, ℕ, ◌+◌, ◌-◌, ◌/◌, ◌<◌, ◌⊎◌, nat_lt, if◌then◌else◌, List, [], ◌∷◌, ◌++◌, length}
use Rattle.std.specs.List.{sum_by}
use Rattle.format_spec.specs.Varint.{IsVarint}
use Rattle.cell_codec.specs.Varints.{IsCut}
use Rattle.format_spec.specs.Record.{int_size}
use Rattle.record_codec.specs.declared.read.RecordFault.{RecordFault}
use Rattle.record_codec.specs.declared.read.RecordFault.TheVariants.{ShortHeader, ReservedType, RealValue, BodyLength, Memory}

-- there was no memory
abbrev pub IsMemory : RecordFault → Type 0
IsMemory ShortHeader = ⊥
IsMemory ReservedType = ⊥
IsMemory RealValue = ⊥
IsMemory BodyLength = ⊥
IsMemory (Memory error) = Unit {0}

-- the serial type of a float
abbrev pub IsReal : ℕ → Type 0
IsReal type = type ≡ 7

-- the serial types that no value has
abbrev pub IsReserved : ℕ → Type 0
IsReserved type = (type ≡ 10) ⊎ (type ≡ 11)

-- the serial types of NULL, integers, texts and blobs
abbrev pub IsValueType : ℕ → Type 0
IsValueType type = (type ≢ 7) × (type ≢ 10) × (type ≢ 11)

-- how many bytes a value of such a serial type has behind the header
abbrev pub body_size : ℕ → ℕ
body_size type =
    if nat_lt type 1 then 0 else if nat_lt type 7 then int_size type else if nat_lt type 12 then 0 else (type - 12) / 2

-- a varint of which P holds stands at the front
pub record BeginsWith (P : ℕ → Type 0) (bytes : List ℕ) : Type 0 where
  pub type : ℕ
  pub spelling : List ℕ
  pub rest : List ℕ
  pub whole : bytes ≡ spelling ++ rest
  pub varint : IsVarint spelling type
  pub holds : P type

-- these serial types, all of values, stand at the front, and of what follows them P holds
abbrev pub After : (List ℕ → Type 0) → List ℕ → List ℕ → Type 0
After P [] bytes = P bytes
After P (type ∷ types) bytes =
    (spelling : List ℕ) × (rest : List ℕ) × IsVarint spelling type × IsValueType type × (bytes ≡ spelling ++ rest) × After P types rest

-- the fault of the serial type at the front of what is left of a header; at its end only the bodies can have one
abbrev pub StopsWith : RecordFault → List ℕ → Type 0
StopsWith ShortHeader bytes = (bytes ≢ []) × IsCut bytes
StopsWith ReservedType bytes = BeginsWith IsReserved bytes
StopsWith RealValue bytes = BeginsWith IsReal bytes
StopsWith BodyLength bytes = bytes ≡ []
StopsWith (Memory error) bytes = ⊥

-- the first serial type of no value has the fault; or all are of values, and the bodies are not exactly as long as theirs
pub record FieldsHaveFault (types bodies : List ℕ) (fault : RecordFault) : Type 0 where
  pub read : List ℕ
  pub stop : After (StopsWith fault) read types
  pub sizes : fault ≡ BodyLength → length bodies ≢ sum_by body_size read

-- the bytes are a header, which begins with its size, and bodies
pub record HasHeader (bytes types bodies : List ℕ) : Type 0 where
  pub size : List ℕ
  pub whole : bytes ≡ size ++ (types ++ bodies)
  pub header : IsVarint size (length size + length types)

-- the header's size is less than its own bytes, or more than all bytes
abbrev pub IsWrongSize : List ℕ → Type 0
IsWrongSize bytes =
    (size : List ℕ) × (rest : List ℕ) × (header : ℕ) × (bytes ≡ size ++ rest) × IsVarint size header
    × ((header < length size) ⊎ (length bytes < header))

-- the header's size is not whole, or wrong
abbrev pub HasNoHeader : List ℕ → Type 0
HasNoHeader bytes = IsCut bytes ⊎ IsWrongSize bytes

-- the fault of bytes that are no record, the first in its order
abbrev pub HasFault : List ℕ → RecordFault → Type 0
HasFault bytes fault =
    ((fault ≡ ShortHeader) × HasNoHeader bytes)
    ⊎ ((types : List ℕ) × (bodies : List ℕ) × HasHeader bytes types bodies × FieldsHaveFault types bodies fault)
