-- A page without cells.
use Rattle.std.proofs.Common.{◌≡◌, ℕ, ◌+◌, ◌%◌, ◌^◌, ◌<◌, ◌≤◌, ◌⊎◌, List, length, drop, slice_index, sym, ap, ◌∙◌, inl, inr, arith, lit<}
use Rattle.std.proofs.Math.Path.{subst⁻¹}
use Rattle.std.proofs.lemmas.List.{get_or-drop}
use Rattle.byte_fields.specs.Numbers.{number_at, with_number_at}
use Rattle.byte_fields.specs.NumbersLaws.{length-with_number_at, number_at-written, slice_index-apart_from_number}
use Rattle.format_spec.specs.declared.PageKind.{PageKind}
use Rattle.format_spec.specs.declared.PageKind.TheVariants.{IndexInterior, TableInterior, IndexLeaf, TableLeaf}
use Rattle.format_spec.specs.Page.{kind_byte}
use Rattle.page_spec.specs.PlacesLaws.{number_at-same}
use Rattle.page_layout.specs.Written.{PutsCounts, HasEmptyHeader}

-- a number of one byte is that byte
pub number_at-byte : (place : ℕ) (bytes : List ℕ) → number_at place 1 bytes ≡ slice_index bytes place
number_at-byte place bytes =
    let here : slice_index bytes (place + 0) ≡ slice_index bytes place = ap (slice_index bytes) (omega arith) in
    let front : slice_index (drop place bytes) 0 ≡ slice_index bytes (place + 0) = get_or-drop place bytes 0 0 in
    omega arith

pub kind_byte-lt : (kind : PageKind) → kind_byte kind < 256 ^ 1
kind_byte-lt TableLeaf = lit< tt
kind_byte-lt TableInterior = lit< tt
kind_byte-lt IndexLeaf = lit< tt
kind_byte-lt IndexInterior = lit< tt

-- a number was written at a place
pub record Writes (at size x : ℕ) (before after : List ℕ) : Type 0 where
  pub long : length after ≡ length before
  pub here : number_at at size after ≡ x
  pub other : (k : ℕ) → (k < at) ⊎ (at + size ≤ k) → slice_index after k ≡ slice_index before k

pub Writes-with_number_at : (at size x : ℕ) (before after : List ℕ) → at + size ≤ length before → x < 256 ^ size → after ≡ with_number_at at size x before → Writes at size x before after
Writes-with_number_at at size x before after room fits e =
    let P : List ℕ → Type 0 = λ bytes. Writes at size x before bytes in
    subst⁻¹ P e (record {
      long = length-with_number_at at size x before room;
      here = number_at-written at size x before room fits;
      other = λ k apart. slice_index-apart_from_number at size x k before room apart;
    })

-- a number in front of the place, or behind it, stays
Writes-in_front : {at size x : ℕ} {before after : List ℕ} → Writes at size x before after → (place n : ℕ) → place + n ≤ at → number_at place n after ≡ number_at place n before
Writes-in_front {at} {size} {x} {before} {after} w place n front = number_at-same n after place before place (λ j small. w.other (place + j) (inl (omega arith)))

-- the four numbers of a header behind its kind, one after the other
pub PutsCounts-from_writes : (old a b c new : List ℕ) (header count bottom : ℕ)
    → Writes (header + 1) 2 0 old a → Writes (header + 3) 2 count a b → Writes (header + 5) 2 (bottom % 65536) b c → Writes (header + 7) 1 0 c new
    → PutsCounts old new header count bottom
PutsCounts-from_writes old a b c new header count bottom first second third fourth = record {
  long = fourth.long ∙ third.long ∙ second.long ∙ first.long;
  no_freeblock = Writes-in_front fourth (header + 1) 2 (omega arith) ∙ Writes-in_front third (header + 1) 2 (omega arith) ∙ Writes-in_front second (header + 1) 2 (omega arith) ∙ first.here;
  counts = Writes-in_front fourth (header + 3) 2 (omega arith) ∙ Writes-in_front third (header + 3) 2 (omega arith) ∙ second.here;
  content = Writes-in_front fourth (header + 5) 2 (omega arith) ∙ third.here;
  no_fragment = fourth.here;
  rest = λ k apart. rest k apart;
}
  where
    rest : (k : ℕ) → (k ≤ header) ⊎ (header + 8 ≤ k) → slice_index new k ≡ slice_index old k
    rest k (inl low) = fourth.other k (inl (omega arith)) ∙ third.other k (inl (omega arith)) ∙ second.other k (inl (omega arith)) ∙ first.other k (inl (omega arith))
    rest k (inr high) = fourth.other k (inr (omega arith)) ∙ third.other k (inr (omega arith)) ∙ second.other k (inr (omega arith)) ∙ first.other k (inr (omega arith))

-- a header's kind, and the four numbers behind it
pub HasEmptyHeader-from_writes : (old a new : List ℕ) (header usable : ℕ) (kind : PageKind) → Writes header 1 (kind_byte kind) old a → PutsCounts a new header 0 usable
    → HasEmptyHeader old new header usable kind
HasEmptyHeader-from_writes old a new header usable kind first puts = record {
  kind_is = puts.rest header (inl (omega arith)) ∙ sym (number_at-byte header a) ∙ first.here;
  no_freeblock = puts.no_freeblock;
  counts = puts.counts;
  content = puts.content;
  no_fragment = puts.no_fragment;
  rest = λ k apart. rest k apart;
}
  where
    rest : (k : ℕ) → (k < header) ⊎ (header + 8 ≤ k) → slice_index new k ≡ slice_index old k
    rest k (inl low) = puts.rest k (inl (omega arith)) ∙ first.other k (inl low)
    rest k (inr high) = puts.rest k (inr high) ∙ first.other k (inr (omega arith))
