-- The order of values (Datatypes In SQLite, sections 4.1 and 7; Database File Format, section 2.2).
use Rattle.std.specs.Prelude.{ℕ, ◌-◌, ◌==◌, ℤ, pos, List, [], map, take, length}
use Rattle.std.specs.List.{suffix_len}
use Rattle.std.specs.Char.{to_ascii_lowercase}
use Rattle.std.specs.Ordering.{nat_cmp, int_cmp, on, then_cmp}
use Rattle.std.specs.declared.cmp.Ordering.{Ordering}
use Rattle.std.specs.Cmp.Lexicographic.{slice_cmp}
use Rattle.rbu_value.specs.declared.value.Value.{Value}
use Rattle.rbu_value.specs.declared.value.Value.TheVariants.{Null, Int, Text, Blob}
use Rattle.rbu_value.specs.declared.order.Collation.{Collation}
use Rattle.rbu_value.specs.declared.order.Collation.TheVariants.{Binary, NoCase, RTrim}

-- NULL stands first, then integers, then texts, then blobs (section 4.1)
abbrev pub class_place : Value → ℕ
class_place Null = 0
class_place (Int z) = 1
class_place (Text text) = 2
class_place (Blob blob) = 3

-- a text without the spaces, bytes of 32, at its end
abbrev pub without_end_spaces : List ℕ → List ℕ
without_end_spaces text = take (length text - suffix_len (λ b. b == 32) text) text

-- the bytes by which a text compares: BINARY takes them as they are, NOCASE with the 26 ASCII letters in lower case, RTRIM without the spaces at the end (section 7). Bytes behind a byte 0 count too, where SQLite's NOCASE passes over them.
abbrev pub collated : Collation → List ℕ → List ℕ
collated Binary text = text
collated NoCase text = map to_ascii_lowercase text
collated RTrim text = without_end_spaces text

-- the number by which an integer compares; no other value has one
abbrev pub integer_key : Value → ℤ
integer_key Null = pos 0
integer_key (Int z) = z
integer_key (Text text) = pos 0
integer_key (Blob blob) = pos 0

-- the bytes by which a text or a blob compares, a blob by its own under every collation; no other value has any
abbrev pub bytes_key : Collation → Value → List ℕ
bytes_key collation Null = []
bytes_key collation (Int z) = []
bytes_key collation (Text text) = collated collation text
bytes_key collation (Blob blob) = blob

-- Values compare by their class, then integers by value, and texts and blobs byte by byte, where a proper prefix is less (section 4.1).
unfoldable pub value_cmp : Collation → Value → Value → Ordering
value_cmp collation =
    then_cmp (on class_place nat_cmp) (then_cmp (on integer_key int_cmp) (on (bytes_key collation) (slice_cmp nat_cmp)))
