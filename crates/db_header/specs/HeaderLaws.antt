-- What follows from the definitions of the header alone: crates above cite these facts in their proofs.
use Rattle.std.proofs.Common.{slice_index, ◌/◌, ◌≤◌, ◌==◌, ◌&&◌, nat_lt, if◌then◌else◌, ◌*◌, [], ◌∷◌, length, take, drop, ◌≡◌, ℕ, ◌<◌, List, inl, inr, refl, sym, ap, ap₂, ◌∙◌, subst, arith}
use Rattle.std.proofs.lemmas.Bool.Decides.{nat_tests}
use Rattle.byte_fields.specs.NumbersLaws.{number_at-lt}
use Rattle.byte_fields.specs.Numbers.{number_at}
use Rattle.format_spec.specs.Sizes.{IsPageSize, size_field, size_from_field}
use Rattle.format_spec.specs.Header.{page_bytes, reserved, change_counter, pages, version_valid_for, largest_root, text_encoding, schema_format}
use Rattle.byte_fields.specs.Fields.{AllUpTo, AllFit, number_of}
use Rattle.byte_fields.specs.FieldsLaws.{number_at-with_fields, length-with_fields, take-with_fields, drop-with_fields}
use Rattle.common_spec.specs.Reading.{OrFault}
use Rattle.common_spec.specs.ReadingLaws.{IsOne, OrFault-one, IsFirst-one}
use Rattle.db_header.specs.Writing.{header_fields, header_written, IsHeader}
use Rattle.std.proofs.lemmas.Bool.{cases_lt}
use Rattle.db_header.specs.declared.fields.Header.{Header}
use Rattle.db_header.specs.declared.fields.HeaderFault.{HeaderFault}
use Rattle.db_header.specs.declared.fields.HeaderFault.TheVariants.{NotADatabase, PageSize, WalMode, Encoding, AutoVacuum, SizeMismatch, ReservedSpace, SchemaFormat}
use Rattle.db_header.specs.Reading.{IsDatabase, HasRollbackVersions, read_format, IsSupported, HasItsPages, HasFault, fault_order, IsHeaderOf, IsFirstFault, counted_pages}

-- a header that can be read has no fault but that of its size
pub supported-no_fault : (bytes : List ℕ) (file_len : ℕ) (fault : HeaderFault) → IsSupported bytes → fault_order fault < 7 → ¬ HasFault bytes file_len fault
supported-no_fault bytes file_len NotADatabase ok early fault = fault ok.database
supported-no_fault bytes file_len (PageSize value) ok early fault = fault.1 ok.size
supported-no_fault bytes file_len WalMode ok early fault = fault ok.versions
supported-no_fault bytes file_len (ReservedSpace value) ok early fault = omega (arith, fault.0, fault.1, ok.usable.least)
supported-no_fault bytes file_len (SchemaFormat value) ok early fault = omega (arith, fault.0, fault.1, ok.known_format)
supported-no_fault bytes file_len (Encoding value) ok early fault = omega (arith, fault.0, fault.1, ok.utf8)
supported-no_fault bytes file_len (AutoVacuum value) ok early fault = omega (arith, fault.0, fault.1, ok.no_auto_vacuum)
supported-no_fault bytes file_len (SizeMismatch pages length) ok early fault = absurd (omega arith)

-- a file that is read has no fault
pub reads-no_fault : (bytes : List ℕ) (file_len : ℕ) (header : Header) (fault : HeaderFault) → IsHeaderOf bytes file_len header → ¬ HasFault bytes file_len fault
reads-no_fault bytes file_len header (SizeMismatch pages length) ok fault = fault.2 ok.whole
reads-no_fault bytes file_len header fault ok has = supported-no_fault bytes file_len fault ok.supported (omega arith) has

-- two faults of one file in one place of the order are one
same_order : (bytes : List ℕ) (file_len : ℕ) (f g : HeaderFault) → HasFault bytes file_len f → HasFault bytes file_len g → fault_order f ≡ fault_order g → f ≡ g
same_order bytes file_len NotADatabase NotADatabase hf hg e = refl
same_order bytes file_len NotADatabase g hf hg e = absurd (omega arith)
same_order bytes file_len (PageSize v) (PageSize w) hf hg e = ap PageSize (hf.0 ∙ sym hg.0)
same_order bytes file_len (PageSize v) g hf hg e = absurd (omega arith)
same_order bytes file_len WalMode WalMode hf hg e = refl
same_order bytes file_len WalMode g hf hg e = absurd (omega arith)
same_order bytes file_len (ReservedSpace v) (ReservedSpace w) hf hg e = ap ReservedSpace (hf.0 ∙ sym hg.0)
same_order bytes file_len (ReservedSpace v) g hf hg e = absurd (omega arith)
same_order bytes file_len (SchemaFormat v) (SchemaFormat w) hf hg e = ap SchemaFormat (hf.0 ∙ sym hg.0)
same_order bytes file_len (SchemaFormat v) g hf hg e = absurd (omega arith)
same_order bytes file_len (Encoding v) (Encoding w) hf hg e = ap Encoding (hf.0 ∙ sym hg.0)
same_order bytes file_len (Encoding v) g hf hg e = absurd (omega arith)
same_order bytes file_len (AutoVacuum v) (AutoVacuum w) hf hg e = ap AutoVacuum (hf.0 ∙ sym hg.0)
same_order bytes file_len (AutoVacuum v) g hf hg e = absurd (omega arith)
same_order bytes file_len (SizeMismatch p l) (SizeMismatch q m) hf hg e = ap₂ SizeMismatch (hf.0 ∙ sym hg.0) (hf.1 ∙ sym hg.1)
same_order bytes file_len (SizeMismatch p l) g hf hg e = absurd (omega arith)

-- a file reads as one header
pub header-same : (bytes : List ℕ) (file_len : ℕ) (h k : Header) → IsHeaderOf bytes file_len h → IsHeaderOf bytes file_len k → h ≡ k
header-same bytes file_len h k rh rk = λ i. record {
  page_size = (rh.page_size_is ∙ sym rk.page_size_is) i;
  reserved = (rh.reserved_is ∙ sym rk.reserved_is) i;
  change_counter = (rh.change_counter_is ∙ sym rk.change_counter_is) i;
  pages = (rh.pages_is ∙ sym rk.pages_is) i;
  freelist_trunk = (rh.freelist_trunk_is ∙ sym rk.freelist_trunk_is) i;
  freelist_pages = (rh.freelist_pages_is ∙ sym rk.freelist_pages_is) i;
  schema_cookie = (rh.schema_cookie_is ∙ sym rk.schema_cookie_is) i;
  format = (rh.format_is ∙ sym rk.format_is) i;
}

-- a file has one header or one first fault
pub answer-one : (bytes : List ℕ) (file_len : ℕ) → IsOne (OrFault (IsHeaderOf bytes file_len) (IsFirstFault bytes file_len))
answer-one bytes file_len =
    OrFault-one (IsHeaderOf bytes file_len) (IsFirstFault bytes file_len)
    (header-same bytes file_len)
    (IsFirst-one fault_order (HasFault bytes file_len) (same_order bytes file_len))
    (λ header fault reads first. reads-no_fault bytes file_len header fault reads first.holds)

-- where the size does not fit, that is the first fault of a header that can be read
pub first-size_mismatch : (bytes : List ℕ) (file_len : ℕ) → IsSupported bytes → ¬ HasItsPages bytes file_len → IsFirstFault bytes file_len (SizeMismatch (counted_pages bytes file_len) file_len)
first-size_mismatch bytes file_len ok wrong = record {
  holds = (refl, refl, wrong);
  first = λ other early has. supported-no_fault bytes file_len other ok early has;
}

-- the fields lie in the first 100 bytes
header_fields_inside : (header : Header) (long : ℕ) → 100 ≤ long → AllUpTo long (header_fields header)
header_fields_inside header long room = (omega arith, (omega arith, (omega arith, (omega arith, (omega arith, (omega arith, (omega arith, (omega arith, (omega arith, tt)))))))))

-- a page size has a field of two bytes
size_field-fits : (size : ℕ) → size ≤ 65536 → size_field size < 65536
size_field-fits size most = grind (arith, nat_tests)

-- the field of a page size says it
size_from_field-size_field : (size : ℕ) → 512 ≤ size → size_from_field (size_field size) ≡ size
size_from_field-size_field size least = grind (arith, nat_tests)

-- the fields' numbers fit their sizes
header_fields_fit : (header : Header) → IsHeader header → AllFit (header_fields header)
header_fields_fit header ok = (
  ok.change_counter,
  (
    omega (arith, ok.most_format),
    (
      ok.schema_cookie,
      (
        ok.freelist_pages,
        (
          ok.freelist_trunk,
          (
            omega (arith, ok.page_limit),
            (
              ok.change_counter,
              (
                ok.reserved,
                (
                  size_field-fits header.page_size ok.size.most,
                  tt,
                ),
              ),
            ),
          ),
        ),
      ),
    ),
  ),
)

-- the number at a place after a header is written
pub number_at-header_written : (place size : ℕ) (header : Header) (bytes : List ℕ) → IsHeader header → 100 ≤ length bytes
    → number_at place size (header_written header bytes) ≡ number_of place size (header_fields header) bytes
unfolding header_written
number_at-header_written place size header bytes ok long =
    number_at-with_fields place size (header_fields header) bytes (header_fields_inside header (length bytes) long) (header_fields_fit header ok)

-- the size that is written is valid
pub valid-header_written : (header : Header) (bytes : List ℕ) → IsHeader header → 100 ≤ length bytes
    → version_valid_for (header_written header bytes) ≡ change_counter (header_written header bytes)
valid-header_written header bytes ok long =
    let written : version_valid_for (header_written header bytes) ≡ header.change_counter = number_at-header_written 92 4 header bytes ok long in
    written ∙ sym (number_at-header_written 24 4 header bytes ok long)

-- a header leaves the length
pub length-header_written : (header : Header) (bytes : List ℕ) → 100 ≤ length bytes → length (header_written header bytes) ≡ length bytes
unfolding header_written
length-header_written header bytes long = length-with_fields (header_fields header) bytes (header_fields_inside header (length bytes) long)

-- a header leaves the bytes behind it
pub drop-header_written : (header : Header) (bytes : List ℕ) → 100 ≤ length bytes → drop 100 (header_written header bytes) ≡ drop 100 bytes
unfolding header_written
drop-header_written header bytes long =
    drop-with_fields 100 (header_fields header) bytes (header_fields_inside header (length bytes) long) (header_fields_inside header 100 (omega arith))

-- a header leaves the magic text
take-header_written : (header : Header) (bytes : List ℕ) → 100 ≤ length bytes → take 16 (header_written header bytes) ≡ take 16 bytes
unfolding header_written
take-header_written header bytes long =
    take-with_fields 16 (header_fields header) bytes (header_fields_inside header (length bytes) long)
    (omega arith, (omega arith, (omega arith, (omega arith, (omega arith, (omega arith, (omega arith, (omega arith, (omega arith, tt)))))))))

-- a size that is valid counts
counted-valid : (pages valid_for counter quotient : ℕ) → 0 < pages → valid_for ≡ counter
    → (if nat_lt 0 pages && (valid_for == counter) then pages else quotient) ≡ pages
counted-valid pages valid_for counter quotient some valid = grind (arith, nat_tests)

-- a format that is written is read
read_format-some : (number : ℕ) → 1 ≤ number → read_format number ≡ number
read_format-some number some = grind (arith, nat_tests)

-- a header that was written is read again
pub reads-header_written : (header : Header) (bytes : List ℕ) (file_len : ℕ)
    → IsDatabase bytes → HasRollbackVersions bytes → text_encoding bytes ≤ 1 → largest_root bytes ≡ 0
    → IsHeader header → header.pages * header.page_size ≤ file_len
    → IsHeaderOf (header_written header bytes) file_len header
reads-header_written header bytes file_len database versions utf8 no_auto_vacuum ok long =
    let new = header_written header bytes in
    let stays = λ (place size : ℕ). number_at-header_written place size header bytes ok database.long in
    let page_size_is : page_bytes new ≡ header.page_size = ap size_from_field (stays 16 2) ∙ size_from_field-size_field header.page_size ok.size.least in
    let reserved_is : reserved new ≡ header.reserved = stays 20 1 in
    let change_counter_is : change_counter new ≡ header.change_counter = stays 24 4 in
    let pages_is : pages new ≡ header.pages = stays 28 4 in
    let format_is : schema_format new ≡ header.format = stays 44 4 in
    let valid : version_valid_for new ≡ header.change_counter = stays 92 4 in
    let encoding_is : text_encoding new ≡ text_encoding bytes = stays 56 4 in
    let counted : counted_pages new file_len ≡ header.pages =
    counted-valid (pages new) (version_valid_for new) (change_counter new) (file_len / page_bytes new) (omega (arith, ok.some_page)) (valid ∙ sym change_counter_is) ∙ pages_is in
    let product : counted_pages new file_len * page_bytes new ≡ header.pages * header.page_size = ap₂ (λ (a b : ℕ). a * b) counted page_size_is in
    let P : ℕ → Type 0 = IsPageSize in
    record {
      supported = record {
        database = record {
          long = omega (arith, length-header_written header bytes database.long, database.long);
          magic = take-header_written header bytes database.long ∙ database.magic;
          max_fraction_is = stays 21 1 ∙ database.max_fraction_is;
          min_fraction_is = stays 22 1 ∙ database.min_fraction_is;
          leaf_fraction_is = stays 23 1 ∙ database.leaf_fraction_is;
        };
        size = subst P (sym page_size_is) ok.size;
        versions = record { write = stays 18 1 ∙ versions.write; read = stays 19 1 ∙ versions.read };
        usable = record { least = omega (arith, ok.usable.least); most = omega (arith, ok.usable.most) };
        known_format = omega (arith, ok.most_format);
        utf8 = omega arith;
        no_auto_vacuum = stays 52 4 ∙ no_auto_vacuum;
      };
      whole = record {
        some = omega (arith, ok.some_page);
        limit = omega (arith, ok.page_limit);
        long = omega arith;
      };
      page_size_is = sym page_size_is;
      reserved_is = sym reserved_is;
      change_counter_is = sym change_counter_is;
      pages_is = sym counted;
      freelist_trunk_is = sym (stays 32 4);
      freelist_pages_is = sym (stays 36 4);
      schema_cookie_is = sym (stays 40 4);
      format_is = sym (read_format-some header.format ok.least_format) ∙ ap read_format (sym format_is);
    }

-- a format that is read is one that can be written
read_format-range : (number : ℕ) → number ≤ 4 → (1 ≤ read_format number) × (read_format number ≤ 4)
read_format-range number most = (grind (arith, nat_tests), grind (arith, nat_tests))

-- a header that is read can be written
pub is_header-read : (bytes : List ℕ) (file_len : ℕ) (header : Header) → ((k : ℕ) → slice_index bytes k < 256) → IsHeaderOf bytes file_len header → IsHeader header
is_header-read bytes file_len header each reads =
    let format = read_format-range (schema_format bytes) reads.supported.known_format in
    let P : ℕ → Type 0 = IsPageSize in
    record {
      size = subst P (sym reads.page_size_is) reads.supported.size;
      reserved = omega (arith, reads.reserved_is, number_at-lt 20 1 bytes each);
      usable = record { least = omega (arith, reads.page_size_is, reads.reserved_is, reads.supported.usable.least); most = omega (arith, reads.page_size_is, reads.reserved_is, reads.supported.usable.most) };
      change_counter = omega (arith, reads.change_counter_is, number_at-lt 24 4 bytes each);
      some_page = omega (arith, reads.pages_is, reads.whole.some);
      page_limit = omega (arith, reads.pages_is, reads.whole.limit);
      freelist_trunk = omega (arith, reads.freelist_trunk_is, number_at-lt 32 4 bytes each);
      freelist_pages = omega (arith, reads.freelist_pages_is, number_at-lt 36 4 bytes each);
      schema_cookie = omega (arith, reads.schema_cookie_is, number_at-lt 40 4 bytes each);
      least_format = omega (arith, reads.format_is, format.0);
      most_format = omega (arith, reads.format_is, format.1);
    }
