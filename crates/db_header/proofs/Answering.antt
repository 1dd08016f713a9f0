-- What an answer of `read_header` leaves no room for.
use Rattle.std.proofs.Common.{◌≡◌, ℕ, ◌*◌, ◌^◌, ◌<◌, ◌≤◌, max, List, Result, Ok, Err, sym, ap, ap₂, subst, arith}
use Rattle.std.proofs.lemmas.Bool.Decides.{nat_tests}
use Rattle.common_spec.specs.Reading.{Reads, OrFault}
use Rattle.common_spec.specs.ReadingLaws.{Reads-one}
use Rattle.format_spec.specs.Header.{page_bytes}
use Rattle.db_header.specs.declared.fields.Header.{Header}
use Rattle.db_header.specs.declared.fields.HeaderFault.{HeaderFault}
use Rattle.db_header.specs.declared.fields.HeaderFault.TheVariants.{SizeMismatch}
use Rattle.db_header.specs.Reading.{IsSupported, HasItsPages, counted_pages, read_format, IsHeaderOf, IsFirstFault}
use Rattle.db_header.specs.HeaderLaws.{answer-one, first-size_mismatch}

-- the answer of a file
abbrev pub Answers : List ℕ → ℕ → Result Header HeaderFault → Type 0
Answers bytes file_len = OrFault (IsHeaderOf bytes file_len) (IsFirstFault bytes file_len)

pub Answers-reads : (bytes : List ℕ) (file_len : ℕ) (result : Result Header HeaderFault) → Answers bytes file_len result → Reads (Answers bytes file_len) result
Answers-reads bytes file_len result = Reads-one (Answers bytes file_len) result (answer-one bytes file_len)

-- the pages that count, as they were computed
abbrev pub HasPages : ℕ → ℕ → ℕ → Type 0
HasPages pages size file_len = (0 < pages) × (pages ≤ 2 ^ 24) × (pages * size ≤ file_len)

pub HasPages-its_pages : (bytes : List ℕ) (file_len pages size : ℕ) → pages ≡ counted_pages bytes file_len → size ≡ page_bytes bytes → HasPages pages size file_len → HasItsPages bytes file_len
HasPages-its_pages bytes file_len pages size pages_is size_is has =
    let product : pages * size ≡ counted_pages bytes file_len * page_bytes bytes = ap₂ (λ (a b : ℕ). a * b) pages_is size_is in
    record { some = omega (arith, has.0); limit = omega (arith, has.1); long = omega (arith, has.2) }

pub pages-size_mismatch : (bytes : List ℕ) (file_len pages size : ℕ) → pages ≡ counted_pages bytes file_len → size ≡ page_bytes bytes
    → IsSupported bytes → (HasPages pages size file_len → ⊥) → IsFirstFault bytes file_len (SizeMismatch pages file_len)
pages-size_mismatch bytes file_len pages size pages_is size_is ok lacks =
    let product : pages * size ≡ counted_pages bytes file_len * page_bytes bytes = ap₂ (λ (a b : ℕ). a * b) pages_is size_is in
    let first : IsFirstFault bytes file_len (SizeMismatch (counted_pages bytes file_len) file_len) =
    first-size_mismatch bytes file_len ok (λ has. lacks (omega (arith, has.some), omega (arith, has.limit), omega (arith, has.long))) in
    let P : ℕ → Type 0 = λ n. IsFirstFault bytes file_len (SizeMismatch n file_len) in
    subst P (sym pages_is) first

-- the greater of a schema format and 1
pub read_format-max : (number : ℕ) → max number 1 ≡ read_format number
read_format-max number = grind (arith, nat_tests)
