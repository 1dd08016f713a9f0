-- A cell that is put into a page, byte by byte.
use Rattle.std.proofs.Common.{◌≡◌, ℕ, ◌+◌, ◌-◌, ◌*◌, ◌<◌, ◌≤◌, ◌⊎◌, List, length, slice_index, ap, ◌∙◌, inl, inr, arith}
use Rattle.std.specs.List.{CopiedTo, SameBelow, SameFrom}
use Rattle.byte_fields.specs.Numbers.{with_number_at}
use Rattle.byte_fields.specs.NumbersLaws.{length-with_number_at, number_at-written, slice_index-apart_from_number}
use Rattle.page_layout.specs.Written.{PutsCounts, PutsPlace, PutsCell}
use Rattle.page_spec.specs.PlacesLaws.{number_at-same, with_part, length-with_part, part_of-written, slice_index-apart_from_part}

-- an array whose last places moved up, and a place written in front of them
pub PutsPlace-from_copy : (old shifted : List ℕ) (array count at place : ℕ) → at ≤ count → array + 2 * (count + 1) ≤ length old → place < 65536 → length shifted ≡ length old
    → CopiedTo old shifted (array + 2 * at) (array + 2 * at + 2) (array + 2 * count - (array + 2 * at)) → SameBelow old shifted (array + 2 * at + 2)
    → SameFrom old shifted (array + 2 * at + 2 + (array + 2 * count - (array + 2 * at)))
    → PutsPlace old (with_number_at (array + 2 * at) 2 place shifted) array count at place
PutsPlace-from_copy old shifted array count at place inside room fits long copied below from =
    let pointer = array + 2 * at in
    let fit : pointer + 2 ≤ length shifted = omega arith in
    let other = λ (k : ℕ) (apart : (k < pointer) ⊎ (pointer + 2 ≤ k)). slice_index-apart_from_number pointer 2 place k shifted fit apart in
    record {
      long = length-with_number_at pointer 2 place shifted fit ∙ long;
      here = number_at-written pointer 2 place shifted fit fits;
      moved = λ k low high j small.
          let index : array + 2 * at + (array + 2 * (k + 1) + j - (array + 2 * at + 2)) ≡ array + 2 * k + j = omega arith in
          other (array + 2 * (k + 1) + j) (inr (omega arith))
          ∙ copied (array + 2 * (k + 1) + j) 0 (omega arith) (omega arith)
          ∙ ap (slice_index old) index;
      before = λ k low. other k (inl low) ∙ below k 0 (omega arith);
      behind = λ k high. other k (inr (omega arith)) ∙ from k 0 (omega arith);
    }

-- and the numbers in the header, and the cell's bytes
pub PutCell-from_parts : (old pointed counted : List ℕ) (header array count at place : ℕ) (cell : List ℕ) → at ≤ count → header + 8 ≤ array → array + 2 * (count + 1) ≤ place
    → place + length cell ≤ length old → PutsPlace old pointed array count at place → PutsCounts pointed counted header (count + 1) place
    → PutsCell old (with_part place cell counted) header array count at place cell
PutCell-from_parts old pointed counted header array count at place cell inside front room within puts counts =
    let whole : place + length cell ≤ length counted = omega (arith, counts.long, puts.long) in
    let new = with_part place cell counted in
    let cell_apart = λ (k : ℕ) (apart : (k < place) ⊎ (place + length cell ≤ k)). slice_index-apart_from_part place cell counted whole k apart in
    let high_apart = λ (k : ℕ) (high : header + 8 ≤ k) (apart : (k < place) ⊎ (place + length cell ≤ k)). cell_apart k apart ∙ counts.rest k (inr high) in
    let number_stays = λ (n size : ℕ) (low : n + size ≤ place). number_at-same size new n counted n (λ j small. cell_apart (n + j) (inl (omega arith))) in
    record {
      long = length-with_part place cell counted whole ∙ counts.long ∙ puts.long;
      here = number_at-same 2 new (array + 2 * at) pointed (array + 2 * at) (λ j small. high_apart (array + 2 * at + j) (omega arith) (inl (omega arith))) ∙ puts.here;
      moved = λ k low high j small. high_apart (array + 2 * (k + 1) + j) (omega arith) (inl (omega arith)) ∙ puts.moved k low high j small;
      stays = λ k low j small. high_apart (array + 2 * k + j) (omega arith) (inl (omega arith)) ∙ puts.before (array + 2 * k + j) (omega arith);
      cell_is = part_of-written place cell counted whole;
      behind = λ k high. high_apart k (omega arith) (inr high) ∙ puts.behind k (omega arith);
      front = λ k low. cell_apart k (inl (omega arith)) ∙ counts.rest k (inl low) ∙ puts.before k (omega arith);
      no_freeblock = number_stays (header + 1) 2 (omega arith) ∙ counts.no_freeblock;
      counts = number_stays (header + 3) 2 (omega arith) ∙ counts.counts;
      content = number_stays (header + 5) 2 (omega arith) ∙ counts.content;
      no_fragment = number_stays (header + 7) 1 (omega arith) ∙ counts.no_fragment;
      rest = λ k low high. high_apart k low (inl (omega arith)) ∙ puts.before k (omega arith);
    }
