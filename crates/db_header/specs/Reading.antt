-- What the database header says, and when a file is refused by it (Database File Format, section 1.3).
use Rattle.std.specs.Prelude.{◌≡◌, ℕ, ◌-◌, ◌*◌, ◌/◌, ◌^◌, ◌<◌, ◌≤◌, ◌==◌, ◌&&◌, nat_lt, if◌then◌else◌, List, length}
use Rattle.format_spec.specs.Sizes.{IsPageSize, IsUsable, least_usable}
use Rattle.format_spec.specs.Header.{HasMagic, page_size, page_bytes, write_version, read_version, reserved, max_fraction, min_fraction, leaf_fraction, change_counter, pages, freelist_trunk, freelist_pages, schema_cookie, schema_format, largest_root, text_encoding, version_valid_for}
use Rattle.common_spec.specs.Reading.{IsFirst}
use Rattle.db_header.specs.declared.fields.Header.{Header}
use Rattle.db_header.specs.declared.fields.HeaderFault.{HeaderFault}
use Rattle.db_header.specs.declared.fields.HeaderFault.TheVariants.{NotADatabase, PageSize, WalMode, Encoding, AutoVacuum, SizeMismatch, ReservedSpace, SchemaFormat}

-- the bytes begin as each database does (sections 1.3.1 and 1.3.5)
pub record IsDatabase (bytes : List ℕ) : Type 0 where
  pub long : 100 ≤ length bytes
  pub magic : HasMagic bytes
  pub max_fraction_is : max_fraction bytes ≡ 64
  pub min_fraction_is : min_fraction bytes ≡ 32
  pub leaf_fraction_is : leaf_fraction bytes ≡ 32

-- the file is written and read with a rollback journal (section 1.3.3)
pub record HasRollbackVersions (bytes : List ℕ) : Type 0 where
  pub write : write_version bytes ≡ 1
  pub read : read_version bytes ≡ 1

-- how many pages the file of this length has: the size in the header where it is valid, else the whole pages of the file (section 1.3.7)
abbrev pub counted_pages : List ℕ → ℕ → ℕ
counted_pages bytes file_len =
    if nat_lt 0 (pages bytes) && (version_valid_for bytes == change_counter bytes) then pages bytes else file_len / page_bytes bytes

-- The file of this length has as many pages as count. What lies behind them is ignored.
pub record HasItsPages (bytes : List ℕ) (file_len : ℕ) : Type 0 where
  pub some : 0 < counted_pages bytes file_len
  pub limit : counted_pages bytes file_len ≤ 2 ^ 24
  pub long : counted_pages bytes file_len * page_bytes bytes ≤ file_len

-- the schema format that a number stands for: 0 reads as 1
abbrev pub read_format : ℕ → ℕ
read_format number = if number == 0 then 1 else number

-- the header of a database that can be read
pub record IsSupported (bytes : List ℕ) : Type 0 where
  pub database : IsDatabase bytes
  pub size : IsPageSize (page_bytes bytes)
  pub versions : HasRollbackVersions bytes
  pub usable : IsUsable (page_bytes bytes - reserved bytes)
  pub known_format : schema_format bytes ≤ 4
  pub utf8 : text_encoding bytes ≤ 1
  pub no_auto_vacuum : largest_root bytes ≡ 0

-- The first bytes of a file of this length are not refused, and their fields are those of the header.
pub record IsHeaderOf (bytes : List ℕ) (file_len : ℕ) (header : Header) : Type 0 where
  pub supported : IsSupported bytes
  pub whole : HasItsPages bytes file_len
  pub page_size_is : header.page_size ≡ page_bytes bytes
  pub reserved_is : header.reserved ≡ reserved bytes
  pub change_counter_is : header.change_counter ≡ change_counter bytes
  pub pages_is : header.pages ≡ counted_pages bytes file_len
  pub freelist_trunk_is : header.freelist_trunk ≡ freelist_trunk bytes
  pub freelist_pages_is : header.freelist_pages ≡ freelist_pages bytes
  pub schema_cookie_is : header.schema_cookie ≡ schema_cookie bytes
  pub format_is : header.format ≡ read_format (schema_format bytes)

-- the fault is one of the file's, whatever other faults it has
abbrev pub HasFault : List ℕ → ℕ → HeaderFault → Type 0
HasFault bytes file_len NotADatabase = ¬ IsDatabase bytes
HasFault bytes file_len (PageSize value) = (value ≡ page_size bytes) × ¬ IsPageSize (page_bytes bytes)
HasFault bytes file_len WalMode = ¬ HasRollbackVersions bytes
HasFault bytes file_len (ReservedSpace value) = (value ≡ reserved bytes) × (page_bytes bytes - value < least_usable)
HasFault bytes file_len (SchemaFormat value) = (value ≡ schema_format bytes) × (4 < value)
HasFault bytes file_len (Encoding value) = (value ≡ text_encoding bytes) × (1 < value)
HasFault bytes file_len (AutoVacuum value) = (value ≡ largest_root bytes) × (0 < value)
HasFault bytes file_len (SizeMismatch pages length) =
    (pages ≡ counted_pages bytes file_len) × (length ≡ file_len) × ¬ HasItsPages bytes file_len

-- the order in which faults are answered
abbrev pub fault_order : HeaderFault → ℕ
fault_order NotADatabase = 0
fault_order (PageSize value) = 1
fault_order WalMode = 2
fault_order (ReservedSpace value) = 3
fault_order (SchemaFormat value) = 4
fault_order (Encoding value) = 5
fault_order (AutoVacuum value) = 6
fault_order (SizeMismatch pages length) = 7

-- the first fault of a file
abbrev pub IsFirstFault : List ℕ → ℕ → HeaderFault → Type 0
IsFirstFault bytes file_len = IsFirst fault_order (HasFault bytes file_len)
