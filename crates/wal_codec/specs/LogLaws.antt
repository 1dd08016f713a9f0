-- Laws about the definitions of the write-ahead log.
use Rattle.std.proofs.Common.{◌≡◌, ℕ, ◌%◌, ◌<◌, ◌≤◌, Bool, List, [], ◌∷◌, ◌++◌, length, unwrap_or, zero, suc, refl, sym, ap, ◌∙◌, arith}
use Rattle.std.proofs.lemmas.List.{append-nil}
use Rattle.byte_fields.specs.NumbersLaws.{page_at-whole}
use Rattle.byte_fields.specs.Numbers.{page_at}
use Rattle.format_spec.specs.Log.{checksum, word, sums_after, last_frame_of, IsOverlay}
use Rattle.format_spec.specs.PageMap.{PageMap, pages_of}
use Rattle.wal_codec.specs.Frames.{two_pages}

-- the checksum of whole pairs of words goes on over what follows them
pub checksum-append : (big : Bool) (sums : ℕ × ℕ) (a b : List ℕ) → length a % 8 ≡ 0
    → checksum big sums (a ++ b) ≡ checksum big (checksum big sums a) b
checksum-append big sums [] b whole = refl
checksum-append big sums (a ∷ []) rest whole = absurd (omega arith)
checksum-append big sums (a ∷ b ∷ []) rest whole = absurd (omega arith)
checksum-append big sums (a ∷ b ∷ c ∷ []) rest whole = absurd (omega arith)
checksum-append big sums (a ∷ b ∷ c ∷ d ∷ []) rest whole = absurd (omega arith)
checksum-append big sums (a ∷ b ∷ c ∷ d ∷ e ∷ []) rest whole = absurd (omega arith)
checksum-append big sums (a ∷ b ∷ c ∷ d ∷ e ∷ f ∷ []) rest whole = absurd (omega arith)
checksum-append big sums (a ∷ b ∷ c ∷ d ∷ e ∷ f ∷ g ∷ []) rest whole = absurd (omega arith)
checksum-append big sums (a ∷ b ∷ c ∷ d ∷ e ∷ f ∷ g ∷ h ∷ more) rest whole =
    checksum-append big (sums_after sums (word big (a ∷ b ∷ c ∷ d ∷ [])) (word big (e ∷ f ∷ g ∷ h ∷ []))) more rest (omega arith)

-- both pages of bytes that are two pages
page-of_two : (page1 page2 : List ℕ) (size : ℕ) → length page1 ≡ size → length page2 ≡ size → (page_at size 1 (page1 ++ page2) ≡ page1) × (page_at size 2 (page1 ++ page2) ≡ page2)
page-of_two page1 page2 size long1 long2 = (
  page_at-whole size 1 [] page1 page2 (omega arith) long1,
  ap (λ (b : List ℕ). page_at size 2 (page1 ++ b)) (sym (append-nil page2)) ∙ page_at-whole size 2 page1 page2 [] (omega arith) long2,
)

-- each of two pages comes from its frame
each-of_two_pages : (base : PageMap) (page1 page2 : List ℕ) (size : ℕ) → (page_at size 1 (page1 ++ page2) ≡ page1) × (page_at size 2 (page1 ++ page2) ≡ page2)
    → (n : ℕ) → 0 < n → n ≤ 2 → unwrap_or (last_frame_of n (two_pages page1 page2)) (base.page n) ≡ page_at size n (page1 ++ page2)
each-of_two_pages base page1 page2 size are zero low high = absurd (omega arith)
each-of_two_pages base page1 page2 size are (suc zero) low high = sym are.0
each-of_two_pages base page1 page2 size are (suc (suc zero)) low high = sym are.1
each-of_two_pages base page1 page2 size are (suc (suc (suc n))) low high = absurd (omega arith)

-- a log of both pages of a file of two pages lays that file over any other
pub overlay-of_two_pages : (base : PageMap) (page1 page2 : List ℕ) (size : ℕ) → base.size ≡ size → length page1 ≡ size → length page2 ≡ size
    → IsOverlay base (two_pages page1 page2) (pages_of size 2 (page1 ++ page2))
overlay-of_two_pages base page1 page2 size sized long1 long2 = record {
  size = sized;
  count = refl;
  each = each-of_two_pages base page1 page2 size (page-of_two page1 page2 size long1 long2);
}
