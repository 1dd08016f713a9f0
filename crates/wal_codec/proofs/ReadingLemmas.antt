-- Bytes that begin with a header of a log or of a frame are told by what is read and written again.
use Rattle.std.proofs.Common.{◌≡◌, ℕ, ◌+◌, ◌^◌, ◌<◌, ◌==◌, Bool, true, false, List, [], ◌++◌, length, take, drop, sym, ap, ap₂, ◌∙◌, arith, append_assoc, length-append, length-take, lit<}
use Rattle.std.proofs.lemmas.Bool.{eq-eqb}
use Rattle.std.proofs.lemmas.List.{drop_at, drop_all, take_at, drop-drop, take-append-drop, append-nil}
use Rattle.byteorder.specs.Numbers.{big_number-reads_back}
use Rattle.byte_fields.specs.Numbers.{number_at}
use Rattle.format_spec.specs.Log.{magic, log_header, frame_header, frame_bytes, Frame, IsFrame}
use Rattle.format_spec.specs.LogLaws.{length-log_header, length-frame_header}
use Rattle.wal_codec.specs.LogReading.{Head, HasHead, HasNoFrame}
use Rattle.wal_codec.specs.LogReadingLaws.{head-size_field}

-- the byte order that a magic number says
order-magic : (big : Bool) (number : ℕ) → number ≡ magic big → (number == magic true) ≡ big
order-magic true number is = eq-eqb number (magic true) is
order-magic false number is = ap (λ (n : ℕ). n == magic true) is

-- a magic number has four bytes
magic-lt : (big : Bool) → magic big < 2 ^ 32
magic-lt true = lit< tt
magic-lt false = lit< tt

-- what stands in a log's header
record HasFields (bytes : List ℕ) (head : Head) : Type 0 where
  magics : number_at 0 4 bytes ≡ magic head.big
  page_sizes : number_at 8 4 bytes ≡ head.page_size
  sequences : number_at 12 4 bytes ≡ head.sequence
  firsts : number_at 16 4 bytes ≡ head.salt.0
  seconds : number_at 20 4 bytes ≡ head.salt.1

head-fields : (bytes : List ℕ) (head : Head) → HasHead bytes head → HasFields bytes head
unfolding log_header
head-fields bytes head has = record {
  magics = ap (number_at 0 4) has.whole ∙ big_number-reads_back 4 (magic head.big) [] (magic-lt head.big);
  page_sizes = head-size_field bytes head has;
  sequences = ap (number_at 12 4) has.whole ∙ big_number-reads_back 4 head.sequence [] has.sequence_fits;
  firsts = ap (number_at 16 4) has.whole ∙ big_number-reads_back 4 head.salt.0 [] has.salt_fits.0;
  seconds = ap (number_at 20 4) has.whole ∙ big_number-reads_back 4 head.salt.1 [] has.salt_fits.1;
}

-- a log's header is what is read of it, written again
pub head-again : (bytes : List ℕ) (head : Head) (has : HasHead bytes head) (number page_size sequence one two : ℕ) (header : List ℕ)
    → number ≡ number_at 0 4 bytes → page_size ≡ number_at 8 4 bytes → sequence ≡ number_at 12 4 bytes → one ≡ number_at 16 4 bytes → two ≡ number_at 20 4 bytes
    → header ≡ log_header (number == magic true) page_size sequence (one, two) → bytes ≡ header ++ has.rest
head-again bytes head has number page_size sequence one two header number_is size_is sequence_is one_is two_is header_is =
    let fields = head-fields bytes head has in
    let order : (number == magic true) ≡ head.big = order-magic head.big number (number_is ∙ fields.magics) in
    let sizes : page_size ≡ head.page_size = size_is ∙ fields.page_sizes in
    let sequences : sequence ≡ head.sequence = sequence_is ∙ fields.sequences in
    let firsts : one ≡ head.salt.0 = one_is ∙ fields.firsts in
    let seconds : two ≡ head.salt.1 = two_is ∙ fields.seconds in
    let same : header ≡ log_header head.big head.page_size head.sequence head.salt =
    header_is ∙ (λ i. log_header (order i) (sizes i) (sequences i) (firsts i, seconds i)) in
    has.whole ∙ ap (λ (b : List ℕ). b ++ has.rest) (sym same)

-- the number and the commit at the beginning of a frame
frame-fields : (big : Bool) (salt sums : ℕ × ℕ) (number commit : ℕ) (page rest bytes : List ℕ) → number < 2 ^ 32 → commit < 2 ^ 32
    → bytes ≡ frame_header big salt sums number commit page ++ rest → (number_at 0 4 bytes ≡ number) × (number_at 4 4 bytes ≡ commit)
unfolding frame_header
frame-fields big salt sums number commit page rest bytes fits also is = (
  ap (number_at 0 4) is ∙ big_number-reads_back 4 number [] fits,
  ap (number_at 4 4) is ∙ big_number-reads_back 4 commit [] also,
)

-- a frame's header is what is read of it, written again
pub frame-again : (big : Bool) (salt sums : ℕ × ℕ) (page_size size : ℕ) (frame : Frame) (more bytes : List ℕ) (number commit : ℕ) (page header : List ℕ)
    → IsFrame page_size frame → bytes ≡ frame_bytes big salt sums frame ++ more → size ≡ page_size
    → number ≡ number_at 0 4 bytes → commit ≡ number_at 4 4 bytes → page ≡ take size (drop 24 bytes)
    → header ≡ frame_header big salt sums number commit page → (number ≡ frame.number) × (bytes ≡ header ++ (frame.page ++ more))
frame-again big salt sums page_size size frame more bytes number commit page header is bytes_is size_is number_is commit_is page_is header_is =
    let front : List ℕ = frame_header big salt sums frame.number frame.commit frame.page in
    let long : length front ≡ 24 = length-frame_header big salt sums frame.number frame.commit frame.page in
    let whole : bytes ≡ front ++ (frame.page ++ more) = bytes_is ∙ append_assoc front frame.page more in
    let fields = frame-fields big salt sums frame.number frame.commit frame.page (frame.page ++ more) bytes is.number_fits is.commit_fits whole in
    let numbers : number ≡ frame.number = number_is ∙ fields.0 in
    let commits : commit ≡ frame.commit = commit_is ∙ fields.1 in
    let behind : drop 24 bytes ≡ frame.page ++ more = ap (drop 24) whole ∙ drop_at front (frame.page ++ more) 24 long in
    let pages : page ≡ frame.page = page_is ∙ ap (take size) behind ∙ take_at frame.page more size (is.whole ∙ sym size_is) in
    let same : header ≡ front = header_is ∙ (λ i. frame_header big salt sums (numbers i) (commits i) (pages i)) in
    (numbers, whole ∙ ap (λ (b : List ℕ). b ++ (frame.page ++ more)) (sym same))

-- a header that is followed by a page, and what lies behind
pub frame-parts : (page_size size : ℕ) (header front bytes : List ℕ) → length header ≡ 24 → header ≡ front → size ≡ page_size → bytes ≡ header ++ drop (length header) bytes
    → bytes ≡ (front ++ take size (drop 24 bytes)) ++ drop (24 + page_size) bytes
frame-parts page_size size header front bytes long header_is size_is is =
    let page : List ℕ = take size (drop 24 bytes) in
    let rest : drop (length header) bytes ≡ page ++ drop (24 + page_size) bytes =
    ap (λ (n : ℕ). drop n bytes) long ∙ sym (take-append-drop size (drop 24 bytes))
    ∙ ap (λ (b : List ℕ). page ++ b) (drop-drop size 24 bytes ∙ ap (λ (n : ℕ). drop (24 + n) bytes) size_is) in
    is ∙ ap₂ (λ (a b : List ℕ). a ++ b) header_is rest ∙ sym (append_assoc front page (drop (24 + page_size) bytes))

-- a header in the first bytes is that of all
pub head-front : (bytes header : List ℕ) (head : Head) → take 32 bytes ≡ header → HasHead header head → HasHead bytes head
head-front bytes header head front has = record {
  rest = has.rest ++ drop 32 bytes;
  page_size_fits = has.page_size_fits;
  sequence_fits = has.sequence_fits;
  salt_fits = has.salt_fits;
  whole = sym (take-append-drop 32 bytes) ∙ ap (λ (b : List ℕ). b ++ drop 32 bytes) (front ∙ has.whole)
      ∙ append_assoc (log_header head.big head.page_size head.sequence head.salt) has.rest (drop 32 bytes);
}

-- and stands in these
pub head-within : (bytes header : List ℕ) (head : Head) → take 32 bytes ≡ header → HasHead bytes head → HasHead header head
head-within bytes header head front has =
    let written : List ℕ = log_header head.big head.page_size head.sequence head.salt in
    record {
      rest = [];
      page_size_fits = has.page_size_fits;
      sequence_fits = has.sequence_fits;
      salt_fits = has.salt_fits;
      whole = sym front ∙ ap (take 32) has.whole ∙ take_at written has.rest 32 (length-log_header head.big head.page_size head.sequence head.salt) ∙ sym (append-nil written);
    }

-- how many bytes a frame takes
length-frame : (big : Bool) (salt sums : ℕ × ℕ) (page_size : ℕ) (frame : Frame) → IsFrame page_size frame → length (frame_bytes big salt sums frame) ≡ 24 + page_size
length-frame big salt sums page_size frame is =
    let header : List ℕ = frame_header big salt sums frame.number frame.commit frame.page in
    omega (arith, length-append header frame.page, length-frame_header big salt sums frame.number frame.commit frame.page, is.whole)

-- where the first bytes, as many as a frame takes, are a frame, all begin with it
pub frame-front : (big : Bool) (salt sums : ℕ × ℕ) (page_size : ℕ) (frame : Frame) (left bytes : List ℕ) → take (24 + page_size) left ≡ bytes → IsFrame page_size frame
    → bytes ≡ frame_bytes big salt sums frame ++ drop (24 + page_size) bytes → left ≡ frame_bytes big salt sums frame ++ drop (24 + page_size) left
frame-front big salt sums page_size frame left bytes front is whole =
    let size : ℕ = 24 + page_size in
    let written : List ℕ = frame_bytes big salt sums frame in
    let behind : drop size bytes ≡ [] = drop_all size bytes (omega (arith, length-take size left, ap length front)) in
    let all : bytes ≡ written = whole ∙ ap (λ (b : List ℕ). written ++ b) behind ∙ append-nil written in
    sym (take-append-drop size left) ∙ ap (λ (b : List ℕ). b ++ drop size left) (front ∙ all)

-- and where they are none, neither do all
pub no_frame-front : (big : Bool) (salt sums : ℕ × ℕ) (page_size : ℕ) (left bytes : List ℕ) → take (24 + page_size) left ≡ bytes
    → HasNoFrame big salt sums page_size bytes → HasNoFrame big salt sums page_size left
no_frame-front big salt sums page_size left bytes front none frame more is e =
    let written : List ℕ = frame_bytes big salt sums frame in
    none frame [] is (sym front ∙ ap (take (24 + page_size)) e ∙ take_at written more (24 + page_size) (length-frame big salt sums page_size frame is) ∙ sym (append-nil written))
