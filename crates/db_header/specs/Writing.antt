-- What a header leaves of the bytes of page 1 (Database File Format, section 1.3).
use Rattle.std.specs.Prelude.{ℕ, ◌-◌, ◌^◌, ◌<◌, ◌≤◌, List, [], ◌∷◌}
use Rattle.byte_fields.specs.Fields.{Field, with_fields}
use Rattle.db_header.specs.declared.fields.Header.{Header}
use Rattle.format_spec.specs.Sizes.{IsPageSize, IsUsable, size_field}

-- The numbers that a header writes at their places. The change counter also stands at offset 92, so that the size is valid.
abbrev pub header_fields : Header → List Field
header_fields header =
    record { at = 92; size = 4; value = header.change_counter }
    ∷ record { at = 44; size = 4; value = header.format }
    ∷ record { at = 40; size = 4; value = header.schema_cookie }
    ∷ record { at = 36; size = 4; value = header.freelist_pages }
    ∷ record { at = 32; size = 4; value = header.freelist_trunk }
    ∷ record { at = 28; size = 4; value = header.pages }
    ∷ record { at = 24; size = 4; value = header.change_counter }
    ∷ record { at = 20; size = 1; value = header.reserved }
    ∷ record { at = 16; size = 2; value = size_field header.page_size }
    ∷ []

-- the bytes with the header's fields at their places
unfoldable pub header_written : Header → List ℕ → List ℕ
header_written header bytes = with_fields (header_fields header) bytes

-- the header is one that a file can have
pub record IsHeader (header : Header) : Type 0 where
  pub size : IsPageSize header.page_size
  pub reserved : header.reserved < 2 ^ 8
  pub usable : IsUsable (header.page_size - header.reserved)
  pub change_counter : header.change_counter < 2 ^ 32
  pub some_page : 0 < header.pages
  pub page_limit : header.pages ≤ 2 ^ 24
  pub freelist_trunk : header.freelist_trunk < 2 ^ 32
  pub freelist_pages : header.freelist_pages < 2 ^ 32
  pub schema_cookie : header.schema_cookie < 2 ^ 32
  pub least_format : 1 ≤ header.format
  pub most_format : header.format ≤ 4
