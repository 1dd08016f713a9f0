-- Whether bytes are a record with a floating point value, and whether a member can be read, is decided: crates above cite these facts in their proofs.
use Rattle.std.proofs.Common.{◌≡◌, ℕ, zero, suc, ◌+◌, ◌-◌, ◌≤◌, ◌⊎◌, List, [], ◌∷◌, ◌++◌, length, take, drop, refl, sym, ap, ◌∙◌, subst, inl, inr, arith, length-append}
use Rattle.std.proofs.Math.Path.{subst⁻¹}
use Rattle.std.proofs.lemmas.Bool.{cases_lt, cases_eq}
use Rattle.std.proofs.lemmas.List.{length-drop, length-take-le, take-append-drop}
use Rattle.rbu_value.specs.declared.value.Value.{Value}
use Rattle.format_spec.specs.Varint.{IsVarint}
use Rattle.format_spec.specs.Record.{IsRecord}
use Rattle.cell_codec.specs.VarintLaws.{spelling-one_to_nine, varint-same}
use Rattle.record_codec.specs.declared.read.RecordFault.TheVariants.{ShortHeader, RealValue}
use Rattle.record_codec.specs.Faults.{IsValueType, After, StopsWith, HasFault}
use Rattle.record_codec.specs.RecordLaws.{varint-not_empty}
use Rattle.tree_spec.specs.Trees.{Member}
use Rattle.database_spec.specs.Databases.{IsReadable}
use Rattle.walk_laws.specs.CellsDecidedLaws.{Decided, SomeBelow, IsSpelling, back_of, below-decided, decided-by, front_of, spelling-decided, spelling-one}
use Rattle.walk_laws.specs.RecordsDecidedLaws.{record-decided}

-- serial types of values, and then that of a float
abbrev HasReal : List ℕ → Type 0
HasReal types = (read : List ℕ) × After (StopsWith RealValue) read types

no-real : HasReal [] → ⊥
no-real ([], stop) = varint-not_empty [] stop.spelling stop.rest stop.type stop.varint stop.whole refl
no-real (type ∷ read, stop) = varint-not_empty [] stop.0 stop.1 type stop.2 stop.4 refl

-- what a header with a float begins with
real-first : (types : List ℕ) → HasReal types → SomeBelow (λ n. IsSpelling (take n types)) (length types + 1)
real-first types ([], stop) = record {
  at = length stop.spelling;
  low = omega (arith, ap length stop.whole, length-append stop.spelling stop.rest);
  is = (stop.type, subst⁻¹ (λ (s : List ℕ). IsVarint s stop.type) (front_of stop.spelling stop.rest types stop.whole) stop.varint);
}
real-first types (type ∷ read, stop) = record {
  at = length stop.0;
  low = omega (arith, ap length stop.4, length-append stop.0 stop.1);
  is = (type, subst⁻¹ (λ (s : List ℕ). IsVarint s type) (front_of stop.0 stop.1 types stop.4) stop.2);
}

-- behind a serial type that is read of the first n bytes
module _ (types : List ℕ) (n type : ℕ) (low : n ≤ length types) (v : IsVarint (take n types) type) where
  -- it is that of a float, or of a value, with a float behind it
  abbrev Goes : Type 0
  Goes = (type ≡ 7) ⊎ (IsValueType type × HasReal (drop n types))

  goes-real : Goes → HasReal types
  goes-real (inl e) = ([], record { type = type; spelling = take n types; rest = drop n types; whole = sym (take-append-drop n types); varint = v; holds = e })
  goes-real (inr goes) = (type ∷ goes.1.0, (take n types, drop n types, v, goes.0, sym (take-append-drop n types), goes.1.1))

  real-goes : HasReal types → Goes
  real-goes ([], stop) =
      let same = varint-same (drop n types) stop.rest v stop.varint (take-append-drop n types ∙ stop.whole) in inl (same.1 ∙ stop.holds)
  real-goes (other ∷ read, stop) =
      let same = varint-same (drop n types) stop.1 v stop.2 (take-append-drop n types ∙ stop.4) in
      let many : length stop.0 ≡ n = sym (ap length same.0) ∙ length-take-le n types low in
      let later : drop n types ≡ stop.1 = ap (λ (k : ℕ). drop k types) (sym many) ∙ back_of stop.0 stop.1 types stop.4 in
      inr (subst⁻¹ IsValueType same.1 stop.3, (read, subst⁻¹ (After (StopsWith RealValue) read) later stop.5))

  goes-decided : Decided (HasReal (drop n types)) → Decided Goes
  goes-decided rest = by (cases_eq type 7) (cases_eq type 10) (cases_eq type 11) rest
    where
      by : Decided (type ≡ 7) → Decided (type ≡ 10) → Decided (type ≡ 11) → Decided (HasReal (drop n types)) → Decided Goes
      by (inl seven) ten eleven rest = inl (inl seven)
      by (inr no_seven) (inl ten) eleven rest = inr (λ goes. elim goes [ inl seven ↦ no_seven seven | inr later ↦ later.0.1 ten ])
      by (inr no_seven) (inr no_ten) (inl eleven) rest = inr (λ goes. elim goes [ inl seven ↦ no_seven seven | inr later ↦ later.0.2 eleven ])
      by (inr no_seven) (inr no_ten) (inr no_eleven) (inl real) = inl (inr ((no_seven, no_ten, no_eleven), real))
      by (inr no_seven) (inr no_ten) (inr no_eleven) (inr none) = inr (λ goes. elim goes [ inl seven ↦ no_seven seven | inr later ↦ none later.1 ])

types-decided : (fuel : ℕ) (types : List ℕ) → length types ≤ fuel → Decided (HasReal types)
types-decided fuel [] few = inr no-real
types-decided zero (t ∷ types) few = absurd (omega (arith, few))
types-decided (suc fuel) (t ∷ types) few =
    by (λ ts less. types-decided fuel ts less) (below-decided (λ n. IsSpelling (take n (t ∷ types))) (λ n. spelling-decided (take n (t ∷ types))) (length (t ∷ types) + 1))
  where
    some : (n type : ℕ) → IsVarint (take n (t ∷ types)) type → 1 ≤ n
    some zero type v = omega (arith, spelling-one_to_nine [] type v)
    some (suc n) type v = omega arith

    by : ((ts : List ℕ) → length ts ≤ fuel → Decided (HasReal ts)) → Decided (SomeBelow (λ n. IsSpelling (take n (t ∷ types))) (length (t ∷ types) + 1)) → Decided (HasReal (t ∷ types))
    by rest (inr none) = inr (λ real. none (real-first (t ∷ types) real))
    by rest (inl found) =
        let n = found.at in
        let type = found.is.0 in
        let low : n ≤ length (t ∷ types) = omega (arith, found.low) in
        let one = some n type found.is.1 in
        decided-by (goes-real (t ∷ types) n type low found.is.1) (real-goes (t ∷ types) n type low found.is.1)
        (goes-decided (t ∷ types) n type low found.is.1 (rest (drop n (t ∷ types)) (omega (arith, few, one, length-drop n (t ∷ types)))))

-- the first i bytes are a header's size, and a float stands in the header
record IsRealCut (bytes : List ℕ) (i : ℕ) : Type 0 where
  low : i ≤ length bytes
  size : ℕ
  is_size : IsVarint (take i bytes) size
  own : i ≤ size
  within : size ≤ length bytes
  real : HasReal (take (size - i) (drop i bytes))

le-or : (a b : ℕ) → Decided (a ≤ b)
le-or a b = elim (cases_lt b a) [ inl more ↦ inr (λ less. omega (arith, more, less)) | inr less ↦ inl less ]

real_cut-decided : (bytes : List ℕ) (i : ℕ) → Decided (IsRealCut bytes i)
real_cut-decided bytes i = by (le-or i (length bytes)) (spelling-decided (take i bytes))
  where
    inside : i ≤ length bytes → (s : IsSpelling (take i bytes)) → Decided (i ≤ s.0) → Decided (s.0 ≤ length bytes) → Decided (HasReal (take (s.0 - i) (drop i bytes))) → Decided (IsRealCut bytes i)
    inside low s (inl own) (inl within) (inl real) = inl (record { low = low; size = s.0; is_size = s.1; own = own; within = within; real = real })
    inside low s (inr none) within real = inr (λ c. none (subst (λ (n : ℕ). i ≤ n) (spelling-one c.is_size s.1) c.own))
    inside low s (inl own) (inr none) real = inr (λ c. none (subst (λ (n : ℕ). n ≤ length bytes) (spelling-one c.is_size s.1) c.within))
    inside low s (inl own) (inl within) (inr none) = inr (λ c. none (subst (λ (n : ℕ). HasReal (take (n - i) (drop i bytes))) (spelling-one c.is_size s.1) c.real))

    by : Decided (i ≤ length bytes) → Decided (IsSpelling (take i bytes)) → Decided (IsRealCut bytes i)
    by (inl low) (inl s) =
        inside low s (le-or i s.0) (le-or s.0 (length bytes)) (types-decided (length (take (s.0 - i) (drop i bytes))) (take (s.0 - i) (drop i bytes)) (omega arith))
    by (inr none) s = inr (λ c. none c.low)
    by (inl low) (inr none) = inr (λ c. none (c.size, c.is_size))

real-made : (bytes : List ℕ) (i : ℕ) → IsRealCut bytes i → HasFault bytes RealValue
real-made bytes i cut =
    let rest = drop i bytes in
    let types = take (cut.size - i) rest in
    let first = length-take-le i bytes cut.low in
    let second = length-take-le (cut.size - i) rest (omega (arith, cut.within, length-drop i bytes)) in
    inr (
      types,
      drop (cut.size - i) rest,
      record {
        size = take i bytes;
        whole = sym (ap (λ (s : List ℕ). take i bytes ++ s) (take-append-drop (cut.size - i) rest) ∙ take-append-drop i bytes);
        header = subst (IsVarint (take i bytes)) (let e : cut.size ≡ length (take i bytes) + length types = omega (arith, first, second, cut.own) in e) cut.is_size;
      },
      record { read = cut.real.0; stop = cut.real.1; sizes = λ e. absurd (let no : ⊥ = cc in no) },
    )

real-cut : (bytes : List ℕ) → HasFault bytes RealValue → SomeBelow (IsRealCut bytes) (length bytes + 1)
real-cut bytes (inl fault) = absurd (let e : RealValue ≡ ShortHeader = fault.0 in let no : ⊥ = cc in no)
real-cut bytes (inr (types, bodies, is, fields)) =
    let front = front_of is.size (types ++ bodies) bytes is.whole in
    let back = back_of is.size (types ++ bodies) bytes is.whole in
    let long = ap length is.whole in
    let parts = length-append is.size (types ++ bodies) in
    let behind = length-append types bodies in
    let left : length types ≡ length is.size + length types - length is.size = omega arith in
    let own_types = front_of types bodies (drop (length is.size) bytes) back in
    record {
      at = length is.size;
      low = omega (arith, long, parts);
      is = record {
        low = omega (arith, long, parts);
        size = length is.size + length types;
        is_size = subst⁻¹ (λ (s : List ℕ). IsVarint s (length is.size + length types)) front is.header;
        own = omega arith;
        within = omega (arith, long, parts, behind);
        real = subst (λ (n : ℕ). HasReal (take n (drop (length is.size) bytes))) left (subst⁻¹ HasReal own_types (fields.read, fields.stop));
      };
    }

-- the bytes are a record up to a float, or not
pub real-decided : (bytes : List ℕ) → Decided (HasFault bytes RealValue)
real-decided bytes = decided-by (λ some. real-made bytes some.at some.is) (real-cut bytes) (below-decided (IsRealCut bytes) (real_cut-decided bytes) (length bytes + 1))

-- a member can be read, or not
pub readable-decided : (member : Member) → Decided (IsReadable member)
readable-decided member = by (record-decided member.payload) (real-decided member.payload)
  where
    by : Decided ((values : List Value) × IsRecord member.payload values) → Decided (HasFault member.payload RealValue) → Decided (IsReadable member)
    by (inl values) real = inl (inl values)
    by (inr none) (inl real) = inl (inr real)
    by (inr none) (inr no_real) = inr (λ readable. elim readable [ inl values ↦ none values | inr real ↦ no_real real ])
