-- What a number that is written at a place leaves of the bytes, and what equal bytes say of numbers and pages: crates above cite these facts in their proofs.
use Rattle.std.proofs.Common.{◌≡◌, ℕ, zero, suc, ◌+◌, ◌-◌, ◌*◌, ◌^◌, ◌<◌, ◌≤◌, ◌⊎◌, List, [], ◌++◌, length, take, drop, replicate, slice_index, refl, sym, ap, ap₂, ◌∙◌, subst, append_assoc, inl, inr, arith, length-append, length-drop}
use Rattle.std.proofs.Math.Nat.{add-mul}
use Rattle.std.proofs.lemmas.List.{append-nil, take_at, take_rest, drop_at, drop_all, drop-drop, length-take, nil_from_length, take-append-drop, take-append-le, take-take, get_or_append_left, get_or-append_right, get_or-take, get_or-drop}
use borrow.Rule.Slice.PartMut.{put_mid}
use Rattle.byteorder.specs.Endian.{big_from, big_bytes, big_number}
use Rattle.byteorder.specs.Numbers.{length-bytes_high_first, big_number-reads_back, big_from-lt}
use Rattle.byte_fields.specs.Bytes.{resized}
use Rattle.byte_fields.specs.Numbers.{number_at, with_number_at, page_at}

-- the length stays
pub length-with_number_at : (at n x : ℕ) (bytes : List ℕ) → at + n ≤ length bytes → length (with_number_at at n x bytes) ≡ length bytes
length-with_number_at at n x bytes room =
    let front : length (take at bytes) ≡ at = length-take at bytes ∙ omega arith in
    omega (arith, length-append (take at bytes) (big_bytes n x ++ drop (at + n) bytes), length-append (big_bytes n x) (drop (at + n) bytes), length-bytes_high_first n x, length-drop (at + n) bytes)

-- the number that was written
pub number_at-written : (at n x : ℕ) (bytes : List ℕ) → at + n ≤ length bytes → x < 256 ^ n → number_at at n (with_number_at at n x bytes) ≡ x
number_at-written at n x bytes room fits =
    let front : length (take at bytes) ≡ at = length-take at bytes ∙ omega arith in
    ap (λ (b : List ℕ). big_from 0 n b) (drop_at (take at bytes) (big_bytes n x ++ drop (at + n) bytes) at front)
    ∙ big_number-reads_back n x (drop (at + n) bytes) fits

-- a byte in front of the number
slice_index-before_number : (at n x k : ℕ) (bytes : List ℕ) → at + n ≤ length bytes → k < at → slice_index (with_number_at at n x bytes) k ≡ slice_index bytes k
slice_index-before_number at n x k bytes room before =
    let front : length (take at bytes) ≡ at = length-take at bytes ∙ omega arith in
    get_or_append_left (take at bytes) (big_bytes n x ++ drop (at + n) bytes) 0 k (omega arith) ∙ get_or-take at bytes k 0 before

-- a byte behind the number
slice_index-behind_number : (at n x k : ℕ) (bytes : List ℕ) → at + n ≤ length bytes → at + n ≤ k → slice_index (with_number_at at n x bytes) k ≡ slice_index bytes k
slice_index-behind_number at n x k bytes room behind =
    let front : length (take at bytes) ≡ at = length-take at bytes ∙ omega arith in
    let place : at + n + (k - at - n) ≡ k = omega arith in
    get_or-append_right (take at bytes) (big_bytes n x ++ drop (at + n) bytes) at k 0 front (omega arith)
    ∙ get_or-append_right (big_bytes n x) (drop (at + n) bytes) n (k - at) 0 (length-bytes_high_first n x) (omega arith)
    ∙ get_or-drop (at + n) bytes (k - at - n) 0
    ∙ ap (slice_index bytes) place

-- a byte that is none of the number's stays
pub slice_index-apart_from_number : (at n x k : ℕ) (bytes : List ℕ) → at + n ≤ length bytes → (k < at) ⊎ (at + n ≤ k) → slice_index (with_number_at at n x bytes) k ≡ slice_index bytes k
slice_index-apart_from_number at n x k bytes room (inl before) = slice_index-before_number at n x k bytes room before
slice_index-apart_from_number at n x k bytes room (inr behind) = slice_index-behind_number at n x k bytes room behind

-- numbers of the same bytes are the same
pub big_from-same : (i n : ℕ) (a b : List ℕ) → ((k : ℕ) → i ≤ k → k < i + n → slice_index a k ≡ slice_index b k) → big_from i n a ≡ big_from i n b
big_from-same i zero a b same = refl
big_from-same i (suc n) a b same =
    ap₂ (λ (x y : ℕ). x * 256 ^ n + y) (same i (omega arith) (omega arith)) (big_from-same (suc i) n a b (λ k low high. same k (omega arith) (omega arith)))

-- a number at another place stays
pub number_at-apart : (at n x place size : ℕ) (bytes : List ℕ) → at + n ≤ length bytes → (place + size ≤ at) ⊎ (at + n ≤ place)
    → number_at place size (with_number_at at n x bytes) ≡ number_at place size bytes
number_at-apart at n x place size bytes room (inl before) =
    big_from-same 0 size (drop place (with_number_at at n x bytes)) (drop place bytes) (λ k low high.
    get_or-drop place (with_number_at at n x bytes) k 0 ∙ slice_index-before_number at n x (place + k) bytes room (omega arith) ∙ sym (get_or-drop place bytes k 0))
number_at-apart at n x place size bytes room (inr behind) =
    big_from-same 0 size (drop place (with_number_at at n x bytes)) (drop place bytes) (λ k low high.
    get_or-drop place (with_number_at at n x bytes) k 0 ∙ slice_index-behind_number at n x (place + k) bytes room (omega arith) ∙ sym (get_or-drop place bytes k 0))

-- the bytes in front of the number stay
pub take-with_number_at : (at n x m : ℕ) (bytes : List ℕ) → at + n ≤ length bytes → m ≤ at → take m (with_number_at at n x bytes) ≡ take m bytes
take-with_number_at at n x m bytes room before =
    let front : length (take at bytes) ≡ at = length-take at bytes ∙ omega arith in
    take-append-le m (take at bytes) (big_bytes n x ++ drop (at + n) bytes) (omega arith) ∙ take-take m at bytes before

-- the bytes behind the number stay
pub drop-with_number_at : (at n x m : ℕ) (bytes : List ℕ) → at + n ≤ length bytes → at + n ≤ m → drop m (with_number_at at n x bytes) ≡ drop m bytes
drop-with_number_at at n x m bytes room behind =
    let front : length (take at bytes ++ big_bytes n x) ≡ at + n =
    length-append (take at bytes) (big_bytes n x) ∙ ap₂ (λ (a b : ℕ). a + b) (length-take at bytes ∙ omega arith) (length-bytes_high_first n x) in
    let k : ℕ = m - (at + n) in
    let m_is : m ≡ at + n + k = omega arith in
    let whole : with_number_at at n x bytes ≡ (take at bytes ++ big_bytes n x) ++ drop (at + n) bytes = sym (append_assoc (take at bytes) (big_bytes n x) (drop (at + n) bytes)) in
    ap (λ (j : ℕ). drop j (with_number_at at n x bytes)) m_is
    ∙ sym (drop-drop k (at + n) (with_number_at at n x bytes))
    ∙ ap (drop k) (ap (drop (at + n)) whole ∙ drop_at (take at bytes ++ big_bytes n x) (drop (at + n) bytes) (at + n) front)
    ∙ drop-drop k (at + n) bytes
    ∙ ap (λ (j : ℕ). drop j bytes) (sym m_is)

-- a number in n bytes
pub number_at-lt : (place n : ℕ) (bytes : List ℕ) → ((k : ℕ) → slice_index bytes k < 256) → number_at place n bytes < 256 ^ n
number_at-lt place n bytes each = big_from-lt 0 n (drop place bytes) (λ k.
    let e = get_or-drop place bytes k 0 in
    let P : ℕ → Type 0 = λ b. b < 256 in
    subst P (sym e) (each (place + k)))

-- a number that ends in the first of two parts
pub number_at-append : (place n : ℕ) (front rest : List ℕ) → place + n ≤ length front → number_at place n (front ++ rest) ≡ number_at place n front
number_at-append place n front rest inside =
    big_from-same 0 n (drop place (front ++ rest)) (drop place front) (λ k low high.
    get_or-drop place (front ++ rest) k 0 ∙ get_or_append_left front rest 0 (place + k) (omega arith) ∙ sym (get_or-drop place front k 0))

-- a number that ends in the bytes that are taken
pub number_at-take : (place n size : ℕ) (bytes : List ℕ) → place + n ≤ size → number_at place n (take size bytes) ≡ number_at place n bytes
number_at-take place n size bytes inside =
    big_from-same 0 n (drop place (take size bytes)) (drop place bytes) (λ k low high.
    get_or-drop place (take size bytes) k 0 ∙ get_or-take size bytes (place + k) 0 (omega arith) ∙ sym (get_or-drop place bytes k 0))

-- a number written through a part that is lent from its place on
pub put_mid-number : (at n x : ℕ) (bytes rest : List ℕ) → at + n ≤ length bytes
    → rest ≡ big_bytes n x ++ drop n (take (length bytes - at) (drop at bytes))
    → put_mid at (length bytes - at) bytes rest ≡ with_number_at at n x bytes
put_mid-number at n x bytes rest room rest_is =
    let none : drop (length bytes - at) (drop at bytes) ≡ [] = drop_all (length bytes - at) (drop at bytes) (omega (arith, length-drop at bytes)) in
    let behind : drop n (take (length bytes - at) (drop at bytes)) ≡ drop (at + n) bytes = ap (drop n) (take_rest bytes at) ∙ drop-drop n at bytes in
    let all : rest ≡ big_bytes n x ++ drop (at + n) bytes = rest_is ∙ ap (λ (b : List ℕ). big_bytes n x ++ b) behind in
    ap₂ (λ (a b : List ℕ). take at bytes ++ (a ++ b)) all none
    ∙ ap (λ (b : List ℕ). take at bytes ++ b) (append-nil (big_bytes n x ++ drop (at + n) bytes))

-- bytes are those of one number that they have room for
pub big_bytes-same : (n x y : ℕ) → x < 256 ^ n → y < 256 ^ n → big_bytes n x ≡ big_bytes n y → x ≡ y
big_bytes-same n x y fits also e =
    sym (big_number-reads_back n x [] fits) ∙ ap (λ (b : List ℕ). big_number n (b ++ [])) e ∙ big_number-reads_back n y [] also

-- one more page
pages-suc : (size count : ℕ) → suc count * size ≡ size + count * size
pages-suc size count =
    let more : suc count ≡ 1 + count = omega arith in
    ap (λ (n : ℕ). n * size) more ∙ add-mul 1 count size ∙ ap (λ (n : ℕ). n + count * size) (omega arith)

-- the first page, of bytes that have it whole
page_at-first : (size : ℕ) (bytes : List ℕ) → size ≤ length bytes → page_at size 1 bytes ≡ take size bytes
page_at-first size bytes room =
    let front : (1 - 1) * size ≡ 0 = omega arith in
    let none : size - length bytes ≡ 0 = omega arith in
    ap (λ (at : ℕ). resized (drop at bytes) size) front
    ∙ ap (λ (n : ℕ). take size bytes ++ replicate n 0) none
    ∙ append-nil (take size bytes)

-- the pages behind the first
page_at-behind : (size n : ℕ) (bytes : List ℕ) → 0 < n → page_at size (suc n) bytes ≡ page_at size n (drop size bytes)
page_at-behind size n bytes some =
    let before : suc n - 1 ≡ suc (n - 1) = omega arith in
    let place : (suc n - 1) * size ≡ size + (n - 1) * size = ap (λ (k : ℕ). k * size) before ∙ pages-suc size (n - 1) in
    ap (λ (at : ℕ). resized (drop at bytes) size) place
    ∙ ap (λ (b : List ℕ). resized b size) (sym (drop-drop ((n - 1) * size) size bytes))

-- whole pages, as many in both, are the same bytes where each page is the same
pub pages-same : (size count : ℕ) (a b : List ℕ) → length a ≡ count * size → length b ≡ count * size
    → ((n : ℕ) → 0 < n → n ≤ count → page_at size n a ≡ page_at size n b) → a ≡ b
pages-same size zero a b long also each = nil_from_length a (omega (arith, long)) ∙ sym (nil_from_length b (omega (arith, also)))
pages-same size (suc count) a b long also each =
    let more = pages-suc size count in
    let first : take size a ≡ take size b =
    sym (page_at-first size a (omega (arith, long, more))) ∙ each 1 (omega arith) (omega arith) ∙ page_at-first size b (omega (arith, also, more)) in
    let rest : drop size a ≡ drop size b =
    pages-same size count (drop size a) (drop size b)
    (omega (arith, length-drop size a, long, more)) (omega (arith, length-drop size b, also, more))
    (λ n low high. sym (page_at-behind size n a low) ∙ each (suc n) (omega arith) (omega arith) ∙ page_at-behind size n b low) in
    sym (take-append-drop size a) ∙ ap₂ (λ (x y : List ℕ). x ++ y) first rest ∙ take-append-drop size b

-- the page at a place, as the bytes that stand there
pub page_at-whole : (size number : ℕ) (front page rest : List ℕ) → length front ≡ (number - 1) * size → length page ≡ size
    → page_at size number (front ++ (page ++ rest)) ≡ page
page_at-whole size number front page rest before long =
    let from : drop ((number - 1) * size) (front ++ (page ++ rest)) ≡ page ++ rest = drop_at front (page ++ rest) ((number - 1) * size) before in
    let cut : take size (page ++ rest) ≡ page = take_at page rest size long in
    let none : size - length (page ++ rest) ≡ 0 = omega (arith, length-append page rest) in
    ap (λ (b : List ℕ). resized b size) from
    ∙ ap₂ (λ (a : List ℕ) (n : ℕ). a ++ replicate n 0) cut none
    ∙ append-nil page
