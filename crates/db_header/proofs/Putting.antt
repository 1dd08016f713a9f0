-- The writes of a header, one after the other.
use Rattle.std.proofs.Common.{◌≡◌, ℕ, List, ap, ◌∙◌}
use Rattle.byte_fields.specs.Numbers.{with_number_at}
use Rattle.format_spec.specs.Sizes.{size_field}
use Rattle.db_header.specs.declared.fields.Header.{Header}
use Rattle.db_header.specs.Writing.{header_written}

pub header_written-steps : (header : Header) (page a b c d e f g h i : List ℕ)
    → a ≡ with_number_at 16 2 (size_field header.page_size) page
    → b ≡ with_number_at 20 1 header.reserved a
    → c ≡ with_number_at 24 4 header.change_counter b
    → d ≡ with_number_at 28 4 header.pages c
    → e ≡ with_number_at 32 4 header.freelist_trunk d
    → f ≡ with_number_at 36 4 header.freelist_pages e
    → g ≡ with_number_at 40 4 header.schema_cookie f
    → h ≡ with_number_at 44 4 header.format g
    → i ≡ with_number_at 92 4 header.change_counter h
    → i ≡ header_written header page
unfolding header_written
header_written-steps header page a b c d e f g h i a_is b_is c_is d_is e_is f_is g_is h_is i_is =
    let c_is = c_is ∙ ap (with_number_at 24 4 header.change_counter) (b_is ∙ ap (with_number_at 20 1 header.reserved) a_is) in
    let e_is = e_is ∙ ap (with_number_at 32 4 header.freelist_trunk) (d_is ∙ ap (with_number_at 28 4 header.pages) c_is) in
    let g_is = g_is ∙ ap (with_number_at 40 4 header.schema_cookie) (f_is ∙ ap (with_number_at 36 4 header.freelist_pages) e_is) in
    i_is ∙ ap (with_number_at 92 4 header.change_counter) (h_is ∙ ap (with_number_at 44 4 header.format) g_is)
