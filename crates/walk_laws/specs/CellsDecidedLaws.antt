-- Whether bytes are a varint, or a cell, is decided: crates above cite these facts in their proofs.
use Rattle.std.proofs.Common.{◌≡◌, ℕ, zero, suc, ◌+◌, ◌-◌, ◌*◌, ◌<◌, ◌≤◌, ◌⊎◌, List, [], ◌∷◌, ◌++◌, length, take, drop, pos, refl, sym, ap, ◌∙◌, subst, inl, inr, arith, length-append}
use Rattle.std.proofs.Math.Path.{subst⁻¹}
use Rattle.std.proofs.lemmas.Bool.{cases_lt, cases_eq}
use Rattle.std.proofs.lemmas.List.{drop_at, length-drop, length-take-le, length_push, take-append-drop, take_at}
use Rattle.std.specs.List.{AllByRecursion}
use Rattle.std.specs.Int.{w64, cast_signed}
use Rattle.byteorder.specs.Endian.{big_number}
use Rattle.byte_fields.specs.BytesLaws.{append-same}
use Rattle.format_spec.specs.declared.PageKind.{PageKind}
use Rattle.format_spec.specs.declared.PageKind.TheVariants.{IndexInterior, TableInterior, IndexLeaf, TableLeaf}
use Rattle.format_spec.specs.declared.CellView.{CellView}
use Rattle.format_spec.specs.Cell.{IsCell, IsIndexCell, IsTableInteriorCell, IsTableLeafCell, child_size, local_size, overflow_size, payload_limit}
use Rattle.format_spec.specs.Varint.{HasHighBit, IsVarint, groups_value, last_weight}
use Rattle.cell_codec.specs.VarintLaws.{varint-same}

-- it is so, or it is not
abbrev pub Decided : Type 0 → Type 0
Decided A = A ⊎ (A → ⊥)

pub decided-by : {A B : Type 0} → (A → B) → (B → A) → Decided A → Decided B
decided-by to from (inl a) = inl (to a)
decided-by to from (inr not_so) = inr (λ b. not_so (from b))

-- some number below a bound
pub record SomeBelow (P : ℕ → Type 0) (n : ℕ) : Type 0 where
  pub at : ℕ
  pub low : at < n
  pub is : P at

below_or_at : (P : ℕ → Type 0) (n : ℕ) → (P n → ⊥) → (SomeBelow P n → ⊥) → SomeBelow P (suc n) → ⊥
below_or_at P n not_at none below =
    elim (cases_lt below.at n) [
      | inl low ↦ none (record { at = below.at; low = low; is = below.is })
      | inr past ↦ not_at (subst P (let e : below.at ≡ n = omega (arith, below.low) in e) below.is)
    ]

pub below-decided : (P : ℕ → Type 0) → ((n : ℕ) → Decided (P n)) → (n : ℕ) → Decided (SomeBelow P n)
below-decided P each zero = inr (λ below. omega (arith, below.low))
below-decided P each (suc n) = by (each n) (below-decided P each n)
  where
    by : Decided (P n) → Decided (SomeBelow P n) → Decided (SomeBelow P (suc n))
    by (inl so) below = inl (record { at = n; low = omega arith; is = so })
    by (inr not_so) (inl below) = inl (record { at = below.at; low = omega (arith, below.low); is = below.is })
    by (inr not_so) (inr none) = inr (below_or_at P n not_so none)

-- all numbers below a bound
pub all-decided : (P : ℕ → Type 0) → ((n : ℕ) → Decided (P n)) → (n : ℕ) → Decided ((k : ℕ) → k < n → P k)
all-decided P each zero = inl (λ k low. absurd (omega (arith, low)))
all-decided P each (suc n) = by (each n) (all-decided P each n)
  where
    by : Decided (P n) → Decided ((k : ℕ) → k < n → P k) → Decided ((k : ℕ) → k < suc n → P k)
    by (inl so) (inl all) = inl (λ k low. elim (cases_lt k n) [ inl less ↦ all k less | inr past ↦ subst P (let e : n ≡ k = omega (arith, low, past) in e) so ])
    by (inr not_so) below = inr (λ all. not_so (all n (omega arith)))
    by (inl so) (inr not_so) = inr (λ all. not_so (λ k low. all k (omega (arith, low))))

-- Varints.

high-decided : (bytes : List ℕ) → Decided (AllByRecursion HasHighBit bytes)
high-decided [] = inl tt
high-decided (b ∷ bytes) = by (cases_lt b 128) (cases_lt b 256) (high-decided bytes)
  where
    by : ((b < 128) ⊎ (128 ≤ b)) → ((b < 256) ⊎ (256 ≤ b)) → Decided (AllByRecursion HasHighBit bytes) → Decided (AllByRecursion HasHighBit (b ∷ bytes))
    by (inl low) fits rest = inr (λ all. omega (arith, low, all.0.0))
    by (inr high) (inr big) rest = inr (λ all. omega (arith, big, all.0.1))
    by (inr high) (inl fits) (inl all) = inl ((high, fits), all)
    by (inr high) (inl fits) (inr not_so) = inr (λ all. not_so all.1)

record Ending (bytes : List ℕ) : Type 0 where
  front : List ℕ
  last : ℕ
  whole : bytes ≡ front ++ last ∷ []

ending : (b : ℕ) (bytes : List ℕ) → Ending (b ∷ bytes)
ending b [] = record { front = []; last = b; whole = refl }
ending b (c ∷ bytes) = let rest = ending c bytes in record { front = b ∷ rest.front; last = rest.last; whole = ap (λ (bs : List ℕ). b ∷ bs) rest.whole }

-- the bytes are a varint
abbrev pub IsSpelling : List ℕ → Type 0
IsSpelling bytes = (value : ℕ) × IsVarint bytes value

module _ (bytes : List ℕ) (end : Ending bytes) where
  same_ending : (value : ℕ) → (v : IsVarint bytes value) → (v.front ≡ end.front) × (v.last ≡ end.last)
  same_ending value v =
      let whole : v.front ++ v.last ∷ [] ≡ end.front ++ end.last ∷ [] = sym v.whole ∙ end.whole in
      let lengths : length v.front ≡ length end.front = omega (arith, ap length whole, length_push v.front v.last, length_push end.front end.last) in
      let same = append-same v.front end.front (v.last ∷ []) (end.last ∷ []) lengths whole in
      let lasts : v.last ∷ [] ≡ end.last ∷ [] = same.1 in
      (same.0, let e : v.last ≡ end.last = cc in e)

  ending-decided : Decided (AllByRecursion HasHighBit end.front) → ((length end.front < 9) ⊎ (9 ≤ length end.front)) → ((end.last < last_weight (length end.front)) ⊎ (last_weight (length end.front) ≤ end.last)) → Decided (IsSpelling bytes)
  ending-decided (inl high) (inl few) (inl low) =
      inl (
        groups_value end.front * last_weight (length end.front) + end.last,
        record { front = end.front; last = end.last; whole = end.whole; at_most_nine = omega (arith, few); high = high; low = low; sum = refl },
      )
  ending-decided (inr not_so) few low = inr (λ s. not_so (subst (AllByRecursion HasHighBit) (same_ending s.0 s.1).0 s.1.high))
  ending-decided (inl high) (inr many) low = inr (λ s. omega (arith, many, s.1.at_most_nine, ap length (same_ending s.0 s.1).0))
  ending-decided (inl high) (inl few) (inr big) =
      inr (λ s.
      let same = same_ending s.0 s.1 in
      let low : end.last < last_weight (length end.front) = subst (λ (l : ℕ). l < last_weight (length end.front)) same.1 (subst (λ (f : List ℕ). s.1.last < last_weight (length f)) same.0 s.1.low) in
      omega (arith, low, big))

pub spelling-decided : (bytes : List ℕ) → Decided (IsSpelling bytes)
spelling-decided [] = inr (λ s. omega (arith, ap length s.1.whole, length_push s.1.front s.1.last))
spelling-decided (b ∷ bytes) =
    let end = ending b bytes in
    ending-decided (b ∷ bytes) end (high-decided end.front) (cases_lt (length end.front) 9) (cases_lt end.last (last_weight (length end.front)))

pub spelling-one : {bytes : List ℕ} {m n : ℕ} → IsVarint bytes m → IsVarint bytes n → m ≡ n
spelling-one v w = (varint-same [] [] v w refl).1

-- Cells.

-- the bytes are a payload's length, its local part, and the first overflow page where there is one, behind what stands before
pub record HasPart (kind : PageKind) (usable : ℕ) (payload_bytes part : List ℕ) : Type 0 where
  pub payload : ℕ
  pub is_payload : IsVarint payload_bytes payload
  pub limit : payload ≤ payload_limit
  pub long : length part ≡ local_size kind usable payload + overflow_size (local_size kind usable payload) payload

part-decided : (kind : PageKind) (usable : ℕ) (payload_bytes part : List ℕ) → Decided (HasPart kind usable payload_bytes part)
part-decided kind usable payload_bytes part = by (spelling-decided payload_bytes)
  where
    within : (s : IsSpelling payload_bytes) → ((s.0 < payload_limit + 1) ⊎ (payload_limit + 1 ≤ s.0))
        → ((length part ≡ local_size kind usable s.0 + overflow_size (local_size kind usable s.0) s.0) ⊎ ((length part ≡ local_size kind usable s.0 + overflow_size (local_size kind usable s.0) s.0) → ⊥))
        → Decided (HasPart kind usable payload_bytes part)
    within s (inl few) (inl long) = inl (record { payload = s.0; is_payload = s.1; limit = omega (arith, few); long = long })
    within s (inr many) long = inr (λ h. omega (arith, many, h.limit, spelling-one s.1 h.is_payload))
    within s (inl few) (inr not_so) =
        inr (λ h. not_so (subst (λ (n : ℕ). length part ≡ local_size kind usable n + overflow_size (local_size kind usable n) n) (sym (spelling-one s.1 h.is_payload)) h.long))

    by : Decided (IsSpelling payload_bytes) → Decided (HasPart kind usable payload_bytes part)
    by (inl s) = within s (cases_lt s.0 (payload_limit + 1)) (cases_eq (length part) (local_size kind usable s.0 + overflow_size (local_size kind usable s.0) s.0))
    by (inr not_so) = inr (λ h. not_so (h.payload, h.is_payload))

-- the first i bytes are a payload's length, the next j a rowid, and the rest is the part of the payload
pub record IsLeafCut (usable : ℕ) (bytes : List ℕ) (i j : ℕ) : Type 0 where
  pub part : HasPart TableLeaf usable (take i bytes) (drop j (drop i bytes))
  pub rowid : IsSpelling (take j (drop i bytes))

leaf_cut-decided : (usable : ℕ) (bytes : List ℕ) (i j : ℕ) → Decided (IsLeafCut usable bytes i j)
leaf_cut-decided usable bytes i j = by (part-decided TableLeaf usable (take i bytes) (drop j (drop i bytes))) (spelling-decided (take j (drop i bytes)))
  where
    by : Decided (HasPart TableLeaf usable (take i bytes) (drop j (drop i bytes))) → Decided (IsSpelling (take j (drop i bytes))) → Decided (IsLeafCut usable bytes i j)
    by (inl part) (inl rowid) = inl (record { part = part; rowid = rowid })
    by (inr not_so) rowid = inr (λ c. not_so c.part)
    by (inl part) (inr not_so) = inr (λ c. not_so c.rowid)

leaf-made : (usable : ℕ) (bytes : List ℕ) (i j : ℕ) → IsLeafCut usable bytes i j → (view : CellView) × IsTableLeafCell usable bytes view
leaf-made usable bytes i j cut =
    let rest = drop j (drop i bytes) in
    let local = local_size TableLeaf usable cut.part.payload in
    let behind = drop local rest in (
      record {
        size = length bytes;
        rowid = cast_signed w64 cut.rowid.0;
        child = 0;
        payload = cut.part.payload;
        local_at = length (take i bytes) + length (take j (drop i bytes));
        local = local;
        overflow = big_number (length behind) behind;
      },
      record {
        payload_bytes = take i bytes;
        rowid_bytes = take j (drop i bytes);
        rowid_number = cut.rowid.0;
        local_bytes = take local rest;
        overflow_bytes = behind;
        whole = sym (ap (λ (s : List ℕ). take i bytes ++ s) (ap (λ (s : List ℕ). take j (drop i bytes) ++ s) (take-append-drop local rest) ∙ take-append-drop j (drop i bytes)) ∙ take-append-drop i bytes);
        payload = cut.part.is_payload;
        limit = cut.part.limit;
        rowid_varint = cut.rowid.1;
        rowid = refl;
        local_at = refl;
        local = refl;
        local_length = length-take-le local rest (omega (arith, cut.part.long));
        overflow_length = omega (arith, length-drop local rest, cut.part.long);
        overflow = refl;
        child = refl;
        size = refl;
      },
    )

-- the parts of a list
pub front_of : (a b bytes : List ℕ) → bytes ≡ a ++ b → take (length a) bytes ≡ a
front_of a b bytes whole = ap (take (length a)) whole ∙ take_at a b (length a) refl

pub back_of : (a b bytes : List ℕ) → bytes ≡ a ++ b → drop (length a) bytes ≡ b
back_of a b bytes whole = ap (drop (length a)) whole ∙ drop_at a b (length a) refl

leaf-cut : (usable : ℕ) (bytes : List ℕ) (view : CellView) (is : IsTableLeafCell usable bytes view) → IsLeafCut usable bytes (length is.payload_bytes) (length is.rowid_bytes)
leaf-cut usable bytes view is =
    let p = is.payload_bytes in
    let q = is.rowid_bytes in
    let part = is.local_bytes ++ is.overflow_bytes in
    let front = front_of p (q ++ part) bytes is.whole in
    let back = back_of p (q ++ part) bytes is.whole in
    let second = front_of q part (drop (length p) bytes) back in
    let third = back_of q part (drop (length p) bytes) back in
    let long : length part ≡ local_size TableLeaf usable view.payload + overflow_size (local_size TableLeaf usable view.payload) view.payload =
    subst (λ (n : ℕ). length part ≡ n + overflow_size n view.payload) is.local (omega (arith, length-append is.local_bytes is.overflow_bytes, is.local_length, is.overflow_length)) in
    record {
      part = record {
        payload = view.payload;
        is_payload = subst⁻¹ (λ (b : List ℕ). IsVarint b view.payload) front is.payload;
        limit = is.limit;
        long = ap length third ∙ long;
      };
      rowid = (is.rowid_number, subst⁻¹ (λ (b : List ℕ). IsVarint b is.rowid_number) second is.rowid_varint);
    }

abbrev SomeLeafCut : ℕ → List ℕ → Type 0
SomeLeafCut usable bytes = SomeBelow (λ i. SomeBelow (IsLeafCut usable bytes i) (length bytes + 1)) (length bytes + 1)

leaf-some : (usable : ℕ) (bytes : List ℕ) → SomeLeafCut usable bytes → (view : CellView) × IsTableLeafCell usable bytes view
leaf-some usable bytes some = leaf-made usable bytes some.at some.is.at some.is.is

some-leaf : (usable : ℕ) (bytes : List ℕ) → (view : CellView) × IsTableLeafCell usable bytes view → SomeLeafCut usable bytes
some-leaf usable bytes (view, is) =
    let rest = is.local_bytes ++ is.overflow_bytes in
    let long = ap length is.whole in
    record {
      at = length is.payload_bytes;
      low = omega (arith, long, length-append is.payload_bytes (is.rowid_bytes ++ rest));
      is = record {
        at = length is.rowid_bytes;
        low = omega (arith, long, length-append is.payload_bytes (is.rowid_bytes ++ rest), length-append is.rowid_bytes rest);
        is = leaf-cut usable bytes view is;
      };
    }

leaf-decided : (usable : ℕ) (bytes : List ℕ) → Decided ((view : CellView) × IsTableLeafCell usable bytes view)
leaf-decided usable bytes =
    decided-by (leaf-some usable bytes) (some-leaf usable bytes)
    (below-decided (λ i. SomeBelow (IsLeafCut usable bytes i) (length bytes + 1)) (λ i. below-decided (IsLeafCut usable bytes i) (leaf_cut-decided usable bytes i) (length bytes + 1)) (length bytes + 1))

-- a table interior page's cell: four bytes and a varint
record IsInteriorCut (bytes : List ℕ) : Type 0 where
  long : 4 ≤ length bytes
  rowid : IsSpelling (drop 4 bytes)

interior-made : (bytes : List ℕ) → IsInteriorCut bytes → (view : CellView) × IsTableInteriorCell bytes view
interior-made bytes cut = (
  record { size = length bytes; rowid = cast_signed w64 cut.rowid.0; child = big_number 4 (take 4 bytes); payload = 0; local_at = 0; local = 0; overflow = 0 },
  record {
    child_bytes = take 4 bytes;
    rowid_bytes = drop 4 bytes;
    rowid_number = cut.rowid.0;
    whole = sym (take-append-drop 4 bytes);
    child_length = length-take-le 4 bytes cut.long;
    child = refl;
    rowid_varint = cut.rowid.1;
    rowid = refl;
    payload = refl;
    local_at = refl;
    local = refl;
    overflow = refl;
    size = refl;
  },
)

interior-cut : (bytes : List ℕ) → (view : CellView) × IsTableInteriorCell bytes view → IsInteriorCut bytes
interior-cut bytes (view, is) =
    let back = back_of is.child_bytes is.rowid_bytes bytes is.whole in
    let four : drop 4 bytes ≡ is.rowid_bytes = ap (λ (n : ℕ). drop n bytes) (sym is.child_length) ∙ back in
    record {
      long = omega (arith, ap length is.whole, length-append is.child_bytes is.rowid_bytes, is.child_length);
      rowid = (is.rowid_number, subst⁻¹ (λ (b : List ℕ). IsVarint b is.rowid_number) four is.rowid_varint);
    }

interior-decided : (bytes : List ℕ) → Decided ((view : CellView) × IsTableInteriorCell bytes view)
interior-decided bytes = decided-by (interior-made bytes) (interior-cut bytes) (by (cases_lt (length bytes) 4) (spelling-decided (drop 4 bytes)))
  where
    by : ((length bytes < 4) ⊎ (4 ≤ length bytes)) → Decided (IsSpelling (drop 4 bytes)) → Decided (IsInteriorCut bytes)
    by (inr long) (inl rowid) = inl (record { long = long; rowid = rowid })
    by (inl short) rowid = inr (λ c. omega (arith, short, c.long))
    by (inr long) (inr not_so) = inr (λ c. not_so c.rowid)

-- an index page's cell: the child, and i bytes of a payload's length
record IsIndexCut (kind : PageKind) (usable : ℕ) (bytes : List ℕ) (i : ℕ) : Type 0 where
  long : child_size kind ≤ length bytes
  part : HasPart kind usable (take i (drop (child_size kind) bytes)) (drop i (drop (child_size kind) bytes))

index_cut-decided : (kind : PageKind) (usable : ℕ) (bytes : List ℕ) (i : ℕ) → Decided (IsIndexCut kind usable bytes i)
index_cut-decided kind usable bytes i = by (cases_lt (length bytes) (child_size kind)) (part-decided kind usable (take i (drop (child_size kind) bytes)) (drop i (drop (child_size kind) bytes)))
  where
    by : ((length bytes < child_size kind) ⊎ (child_size kind ≤ length bytes)) → Decided (HasPart kind usable (take i (drop (child_size kind) bytes)) (drop i (drop (child_size kind) bytes)))
        → Decided (IsIndexCut kind usable bytes i)
    by (inr long) (inl part) = inl (record { long = long; part = part })
    by (inl short) part = inr (λ c. omega (arith, short, c.long))
    by (inr long) (inr not_so) = inr (λ c. not_so c.part)

index-made : (kind : PageKind) (usable : ℕ) (bytes : List ℕ) (i : ℕ) → IsIndexCut kind usable bytes i → (view : CellView) × IsIndexCell kind usable bytes view
index-made kind usable bytes i cut =
    let child = take (child_size kind) bytes in
    let after = drop (child_size kind) bytes in
    let rest = drop i after in
    let local = local_size kind usable cut.part.payload in
    let behind = drop local rest in (
      record {
        size = length bytes;
        rowid = pos 0;
        child = big_number (length child) child;
        payload = cut.part.payload;
        local_at = length child + length (take i after);
        local = local;
        overflow = big_number (length behind) behind;
      },
      record {
        child_bytes = child;
        payload_bytes = take i after;
        local_bytes = take local rest;
        overflow_bytes = behind;
        whole = sym (ap (λ (s : List ℕ). child ++ s) (ap (λ (s : List ℕ). take i after ++ s) (take-append-drop local rest) ∙ take-append-drop i after) ∙ take-append-drop (child_size kind) bytes);
        child_length = length-take-le (child_size kind) bytes cut.long;
        child = refl;
        payload = cut.part.is_payload;
        limit = cut.part.limit;
        local_at = refl;
        local = refl;
        local_length = length-take-le local rest (omega (arith, cut.part.long));
        overflow_length = omega (arith, length-drop local rest, cut.part.long);
        overflow = refl;
        rowid = refl;
        size = refl;
      },
    )

index-cut : (kind : PageKind) (usable : ℕ) (bytes : List ℕ) (view : CellView) (is : IsIndexCell kind usable bytes view) → IsIndexCut kind usable bytes (length is.payload_bytes)
index-cut kind usable bytes view is =
    let c = is.child_bytes in
    let p = is.payload_bytes in
    let part = is.local_bytes ++ is.overflow_bytes in
    let behind : drop (child_size kind) bytes ≡ p ++ part = ap (λ (n : ℕ). drop n bytes) (sym is.child_length) ∙ back_of c (p ++ part) bytes is.whole in
    let second = front_of p part (drop (child_size kind) bytes) behind in
    let third = back_of p part (drop (child_size kind) bytes) behind in
    let long : length part ≡ local_size kind usable view.payload + overflow_size (local_size kind usable view.payload) view.payload =
    subst (λ (n : ℕ). length part ≡ n + overflow_size n view.payload) is.local (omega (arith, length-append is.local_bytes is.overflow_bytes, is.local_length, is.overflow_length)) in
    record {
      long = omega (arith, ap length is.whole, length-append c (p ++ part), is.child_length);
      part = record {
        payload = view.payload;
        is_payload = subst⁻¹ (λ (b : List ℕ). IsVarint b view.payload) second is.payload;
        limit = is.limit;
        long = ap length third ∙ long;
      };
    }

index-decided : (kind : PageKind) (usable : ℕ) (bytes : List ℕ) → Decided ((view : CellView) × IsIndexCell kind usable bytes view)
index-decided kind usable bytes = decided-by to from (below-decided (IsIndexCut kind usable bytes) (index_cut-decided kind usable bytes) (length bytes + 1))
  where
    to : SomeBelow (IsIndexCut kind usable bytes) (length bytes + 1) → (view : CellView) × IsIndexCell kind usable bytes view
    to some = index-made kind usable bytes some.at some.is

    from : (view : CellView) × IsIndexCell kind usable bytes view → SomeBelow (IsIndexCut kind usable bytes) (length bytes + 1)
    from (view, is) = record {
      at = length is.payload_bytes;
      low = omega (arith, ap length is.whole, length-append is.child_bytes (is.payload_bytes ++ (is.local_bytes ++ is.overflow_bytes)), length-append is.payload_bytes (is.local_bytes ++ is.overflow_bytes));
      is = index-cut kind usable bytes view is;
    }

-- the bytes are exactly one cell, or none
pub cell-decided : (kind : PageKind) (usable : ℕ) (bytes : List ℕ) → Decided ((view : CellView) × IsCell kind usable bytes view)
cell-decided TableLeaf usable bytes = leaf-decided usable bytes
cell-decided TableInterior usable bytes = interior-decided bytes
cell-decided IndexLeaf usable bytes = index-decided IndexLeaf usable bytes
cell-decided IndexInterior usable bytes = index-decided IndexInterior usable bytes
