-- Records (Database File Format, section 2.1).
use Rattle.std.specs.Prelude.{◌≡◌, ℕ, ◌+◌, ◌-◌, ◌*◌, ◌^◌, ◌≤◌, ◌⊎◌, ℤ, pos, negsuc, ◌==◌, ◌&&◌, nat_lt, if◌then◌else◌, List, [], ◌++◌, ◌∷◌, length}
use Rattle.std.specs.Int.{w64}
use Rattle.std.specs.List.{flat_map}
use Rattle.byteorder.specs.Endian.{big_bytes, big_number, twos_complement, low_bytes}
use Rattle.rbu_value.specs.declared.value.Value.{Value}
use Rattle.rbu_value.specs.declared.value.Value.TheVariants.{Null, Int, Text, Blob}
use Rattle.format_spec.specs.Varint.{IsVarint, varint}

-- how far an integer is from 0, or from -1 where it is negative
abbrev pub magnitude : ℤ → ℕ
magnitude (pos n) = n
magnitude (negsuc n) = n

-- the serial type of the shortest two's complement form of an integer of 64 bits
abbrev pub int_type : ℤ → ℕ
int_type z =
    let m = magnitude z in
    if nat_lt m (2 ^ 7) then 1 else if nat_lt m (2 ^ 15) then 2 else if nat_lt m (2 ^ 23) then 3
    else if nat_lt m (2 ^ 31) then 4 else if nat_lt m (2 ^ 47) then 5 else 6

-- how many bytes an integer of serial type 1 to 6 has
abbrev pub int_size : ℕ → ℕ
int_size type = if nat_lt type 5 then type else if type == 5 then 6 else 8

-- 0 and 1 have serial types of their own in schema format 4
abbrev pub int_serial_type : ℕ → ℤ → ℕ
int_serial_type format (pos n) = if (format == 4) && nat_lt n 2 then 8 + n else int_type (pos n)
int_serial_type format (negsuc n) = int_type (negsuc n)

-- the serial type that the canonical record gives a value
abbrev pub serial_type : ℕ → Value → ℕ
serial_type format Null = 0
serial_type format (Int z) = int_serial_type format z
serial_type format (Text bytes) = 2 * length bytes + 13
serial_type format (Blob bytes) = 2 * length bytes + 12

-- an integer's two's complement form of this serial type; types 8 and 9 have no bytes
abbrev pub int_body : ℕ → ℤ → List ℕ
int_body type z = if nat_lt type 7 then big_bytes (int_size type) (low_bytes w64 (int_size type) z) else []

-- the bytes that follow the header for a value
abbrev pub body : ℕ → Value → List ℕ
body format Null = []
body format (Int z) = int_body (int_serial_type format z) z
body format (Text bytes) = bytes
body format (Blob bytes) = bytes

-- the bytes of the size at the front of a header whose serial types take n bytes; the size counts itself
abbrev pub header_size_bytes : ℕ → ℕ
header_size_bytes n =
    if nat_lt (n + 1) (2 ^ 7) then 1 else if nat_lt (n + 2) (2 ^ 14) then 2 else if nat_lt (n + 3) (2 ^ 21) then 3
    else if nat_lt (n + 4) (2 ^ 28) then 4 else if nat_lt (n + 5) (2 ^ 35) then 5 else if nat_lt (n + 6) (2 ^ 42) then 6
    else if nat_lt (n + 7) (2 ^ 49) then 7 else if nat_lt (n + 8) (2 ^ 56) then 8 else 9

-- the serial types of the canonical record
abbrev pub serial_types : ℕ → List Value → List ℕ
serial_types format = flat_map (λ value. varint (serial_type format value))

-- the header of the canonical record
abbrev pub record_header : ℕ → List Value → List ℕ
record_header format values =
    let types = serial_types format values in
    varint (length types + header_size_bytes (length types)) ++ types

-- The canonical record of values under a schema format: the shortest integers and varints. Its integers have 64 bits; of another it would keep the low ones.
unfoldable pub canonical_record : ℕ → List Value → List ℕ
canonical_record format values = record_header format values ++ flat_map (body format) values

-- a serial type and the bytes behind the header stand for a value
abbrev pub IsField : ℕ → List ℕ → Value → Type 0
IsField type bytes Null = (type ≡ 0) × (bytes ≡ [])
IsField type bytes (Int z) =
    ((1 ≤ type) × (type ≤ 6) × (length bytes ≡ int_size type) × (z ≡ twos_complement (int_size type) (big_number (int_size type) bytes)))
    ⊎ ((8 ≤ type) × (type ≤ 9) × (bytes ≡ []) × (z ≡ pos (type - 8)))
IsField type bytes (Text text) = (type ≡ 2 * length text + 13) × (bytes ≡ text)
IsField type bytes (Blob blob) = (type ≡ 2 * length blob + 12) × (bytes ≡ blob)

-- serial types and bodies, one after the other, stand for values
abbrev pub AreFields : List ℕ → List ℕ → List Value → Type 0
AreFields types bodies [] = (types ≡ []) × (bodies ≡ [])
AreFields types bodies (value ∷ values) =
    (type : ℕ) × (spelling : List ℕ) × (bytes : List ℕ) × (other_types : List ℕ) × (other_bodies : List ℕ)
    × IsVarint spelling type × (types ≡ spelling ++ other_types) × (bodies ≡ bytes ++ other_bodies)
    × IsField type bytes value × AreFields other_types other_bodies values

-- The bytes are a record of the values: a header of its own size and the serial types, and then the bodies. Longer spellings of varints and integers count too.
pub record IsRecord (bytes : List ℕ) (values : List Value) : Type 0 where
  pub size : List ℕ
  pub types : List ℕ
  pub bodies : List ℕ
  pub whole : bytes ≡ size ++ (types ++ bodies)
  pub header : IsVarint size (length size + length types)
  pub fields : AreFields types bodies values
