-- A state file is read as one state, or has one first fault.
use Rattle.std.proofs.Common.{◌≡◌, ℕ, pos, ◌+◌, ◌*◌, ◌^◌, ◌<◌, ◌≤◌, List, [], ◌∷◌, ◌++◌, length, slice_index, slice_index_or, Option, Some, None, Result, Ok, Err, refl, sym, ap, ap₂, ◌∙◌, subst, inl, inr, arith}
use Rattle.std.proofs.lemmas.Bool.{cases_lt}
use Rattle.std.proofs.lemmas.Int.{of_z-to_z}
use Rattle.std.specs.Int.{w64, cast_signed, cast_unsigned}
use Rattle.common_spec.specs.Reading.{Reads, OrNone, OrFault, IsFirst}
use Rattle.common_spec.specs.ReadingLaws.{IsFirst-one}
use Rattle.rbu_value.specs.declared.value.Value.{Value}
use Rattle.rbu_value.specs.declared.value.Value.TheVariants as value
use Rattle.state_file.specs.declared.state.SavedState.{SavedState}
use Rattle.state_file.specs.declared.state.DataKey.{DataKey}
use Rattle.state_file.specs.declared.state.DataKey.TheVariants.{Absent, Null, Name}
use Rattle.state_file.specs.declared.state.KeyValues.{KeyValues}
use Rattle.state_file.specs.declared.keys.StateKey.{StateKey}
use Rattle.state_file.specs.declared.keys.StateKey.TheVariants.{Stage, Table, Index, Row, Progress, Sums, ChangeCounter, LogSize, Batch}
use Rattle.state_file.specs.declared.keys.StateFault.{StateFault}
use Rattle.state_file.specs.declared.keys.StateFault.TheVariants as fault
use Rattle.state_file.specs.State.{text_or_null, batch_value, sums_number, state_values, values_by_key}
use Rattle.state_file.specs.Keys.{IsSpelled, IsStateFile, IsFirstFault, HasFault, Meets, AreTwoWords, key_number, fault_order}
use Rattle.state_file.proofs.Payloads.{Some-same}

-- ---- a state has values of its own

name-one : (a b : Option (List ℕ)) → text_or_null a ≡ text_or_null b → a ≡ b
name-one None None e = refl
name-one None (Some y) e = absurd (cc)
name-one (Some x) None e = absurd (cc)
name-one (Some x) (Some y) e = let same : x ≡ y = cc in ap Some same

batch-one : (a b : DataKey) → batch_value a ≡ batch_value b → a ≡ b
batch-one Absent Absent e = refl
batch-one Absent Null e = absurd (cc)
batch-one Absent (Name y) e = absurd (cc)
batch-one Null Absent e = absurd (cc)
batch-one Null Null e = refl
batch-one Null (Name y) e = absurd (let f : value.Null ≡ value.Text y = Some-same e in cc)
batch-one (Name x) Absent e = absurd (cc)
batch-one (Name x) Null e = absurd (let f : value.Text x ≡ value.Null = Some-same e in cc)
batch-one (Name x) (Name y) e = let f : value.Text x ≡ value.Text y = Some-same e in let same : x ≡ y = cc in ap Name same

count-one : (m n : ℕ) → value.Int (pos m) ≡ value.Int (pos n) → m ≡ n
count-one m n e = cc

two_words : (words : List ℕ) → length words ≡ 2 → words ≡ slice_index words 0 ∷ slice_index words 1 ∷ []
two_words [] e = absurd (omega arith)
two_words (a ∷ []) e = absurd (omega arith)
two_words (a ∷ b ∷ []) e = refl
two_words (a ∷ b ∷ c ∷ rest) e = absurd (omega arith)

both-fit : (a b : ℕ) → a < 2 ^ 32 → b < 2 ^ 32 → a * 2 ^ 32 + b < 2 ^ 64
both-fit a b h k = omega arith

sums-one : (a b : List ℕ) → AreTwoWords a → AreTwoWords b → sums_number a ≡ sums_number b → a ≡ b
sums-one a b h k e =
    let m : ℕ = slice_index a 0 * 2 ^ 32 + slice_index a 1 in
    let n : ℕ = slice_index b 0 * 2 ^ 32 + slice_index b 1 in
    let same : m ≡ n =
    sym (of_z-to_z w64 m (both-fit (slice_index a 0) (slice_index a 1) h.first h.second)) ∙ ap (cast_unsigned w64) e ∙ of_z-to_z w64 n (both-fit (slice_index b 0) (slice_index b 1) k.first k.second) in
    let first : slice_index a 0 ≡ slice_index b 0 = omega (arith, same, h.first, h.second, k.first, k.second) in
    let second : slice_index a 1 ≡ slice_index b 1 = omega (arith, same, h.first, h.second, k.first, k.second) in
    two_words a h.two ∙ ap₂ (λ (x y : ℕ). x ∷ y ∷ []) first second ∙ sym (two_words b k.two)

integer-same : (x y : ℕ) (a b : List ℕ) → value.Int (sums_number a) ≡ value.Int (sums_number b) → sums_number a ≡ sums_number b
integer-same x y a b e = cc

states-one : (s t : SavedState) → s.stage ≡ t.stage → s.table ≡ t.table → s.index ≡ t.index → s.row ≡ t.row → s.progress ≡ t.progress → s.sums ≡ t.sums → s.change_counter ≡ t.change_counter → s.log_size ≡ t.log_size → s.batch ≡ t.batch → s ≡ t
states-one s t a b c d e f g h k = λ i. record { stage = a i; table = b i; index = c i; row = d i; progress = e i; sums = f i; change_counter = g i; log_size = h i; batch = k i }

pub state-one : (s t : SavedState) → AreTwoWords s.sums → AreTwoWords t.sums → state_values s ≡ state_values t → s ≡ t
state-one s t h k e =
    states-one s t
    (count-one s.stage t.stage (ap (λ (v : KeyValues). v.stage) e))
    (name-one s.table t.table (ap (λ (v : KeyValues). v.table) e))
    (name-one s.index t.index (ap (λ (v : KeyValues). v.index) e))
    (count-one s.row t.row (ap (λ (v : KeyValues). v.row) e))
    (count-one s.progress t.progress (ap (λ (v : KeyValues). v.progress) e))
    (sums-one s.sums t.sums h k (integer-same 0 0 s.sums t.sums (ap (λ (v : KeyValues). v.sums) e)))
    (count-one s.change_counter t.change_counter (ap (λ (v : KeyValues). v.change_counter) e))
    (count-one s.log_size t.log_size (ap (λ (v : KeyValues). v.log_size) e))
    (batch-one s.batch t.batch (ap (λ (v : KeyValues). v.batch) e))

-- ---- a key has a number of its own

keys_by_number : List StateKey
keys_by_number = Stage ∷ Stage ∷ Table ∷ Index ∷ Row ∷ Progress ∷ Sums ∷ ChangeCounter ∷ LogSize ∷ Stage ∷ Batch ∷ []

key-at : (key : StateKey) → slice_index_or keys_by_number (key_number key) Stage ≡ key
unfolding keys_by_number
key-at Stage = refl
key-at Table = refl
key-at Index = refl
key-at Row = refl
key-at Progress = refl
key-at Sums = refl
key-at ChangeCounter = refl
key-at LogSize = refl
key-at Batch = refl

key-one : (a b : StateKey) → key_number a ≡ key_number b → a ≡ b
key-one a b e = sym (key-at a) ∙ ap (λ (n : ℕ). slice_index_or keys_by_number n Stage) e ∙ key-at b

-- the values under all keys below a number may stand there
pub MeetsBelow : KeyValues → ℕ → Type 0
MeetsBelow values n = (other : StateKey) → key_number other < n → Meets values other

key-positive : (key : StateKey) → 1 ≤ key_number key
key-positive Stage = omega arith
key-positive Table = omega arith
key-positive Index = omega arith
key-positive Row = omega arith
key-positive Progress = omega arith
key-positive Sums = omega arith
key-positive ChangeCounter = omega arith
key-positive LogSize = omega arith
key-positive Batch = omega arith

key-not_nine : (key : StateKey) → key_number key < 10 → key_number key < 9
key-not_nine Stage h = omega arith
key-not_nine Table h = omega arith
key-not_nine Index h = omega arith
key-not_nine Row h = omega arith
key-not_nine Progress h = omega arith
key-not_nine Sums h = omega arith
key-not_nine ChangeCounter h = omega arith
key-not_nine LogSize h = omega arith
key-not_nine Batch h = absurd (omega arith)

key-most : (key : StateKey) → key_number key < 11
key-most Stage = omega arith
key-most Table = omega arith
key-most Index = omega arith
key-most Row = omega arith
key-most Progress = omega arith
key-most Sums = omega arith
key-most ChangeCounter = omega arith
key-most LogSize = omega arith
key-most Batch = omega arith

pub below-none : (values : KeyValues) → MeetsBelow values 1
unfolding MeetsBelow
below-none values other before = absurd (omega (arith, key-positive other))

pub below-next : (values : KeyValues) (key : StateKey) (n : ℕ) → n ≡ key_number key + 1 → MeetsBelow values (key_number key) → Meets values key → MeetsBelow values n
unfolding MeetsBelow
below-next values key n is below meets other before =
    elim (cases_lt (key_number other) (key_number key)) [
      | inl less ↦ below other less
      | inr not_less ↦ subst (Meets values) (key-one key other (omega arith)) meets
    ]

pub below-ten : (values : KeyValues) → MeetsBelow values 9 → MeetsBelow values 10
unfolding MeetsBelow
below-ten values below other before = below other (key-not_nine other before)

pub below-all : (values : KeyValues) → MeetsBelow values 11 → (key : StateKey) → Meets values key
unfolding MeetsBelow
below-all values below key = below key (key-most key)

-- the value under a key may not stand there, and those below may
pub first-broken : (values : KeyValues) (key : StateKey) → MeetsBelow values (key_number key) → ¬ Meets values key → IsFirst key_number (λ k. ¬ Meets values k) key
unfolding MeetsBelow
first-broken values key below broken = record { holds = broken; first = λ other before not. not (below other before) }

-- keyed values are one where each value is
pub keyed-same : (a b : KeyValues) → a.stage ≡ b.stage → a.table ≡ b.table → a.index ≡ b.index → a.row ≡ b.row → a.progress ≡ b.progress → a.sums ≡ b.sums → a.change_counter ≡ b.change_counter → a.log_size ≡ b.log_size → a.batch ≡ b.batch → a ≡ b
keyed-same a b c d e f g h j k l = λ i. record { stage = c i; table = d i; index = e i; row = f i; progress = g i; sums = h i; change_counter = j i; log_size = k i; batch = l i }

-- ---- the readings

module _ (bytes : List ℕ) where
  pub read-none : Reads (OrNone (IsSpelled bytes)) None → Reads (OrFault (IsStateFile bytes) (IsFirstFault bytes)) (Err fault.NotState)
  read-none reads = record {
    holds = record { holds = reads.holds; first = λ other before. absurd (omega arith) };
    only = only;
  }
    where
      only : (other : Result SavedState StateFault) → OrFault (IsStateFile bytes) (IsFirstFault bytes) other → Err fault.NotState ≡ other
      only (Ok state) file = absurd (reads.holds (state_values state) file.spelled)
      only (Err fault.NotState) first = refl
      only (Err (fault.StateKey key)) first = absurd (reads.holds first.holds.0 first.holds.1)
      only (Err (fault.Memory error)) first = absurd first.holds

  module _ (values : KeyValues) (reads : Reads (OrNone (IsSpelled bytes)) (Some values)) where
    same : (other : KeyValues) → IsSpelled bytes other → values ≡ other
    same other spelled = Some-same (reads.only (Some other) spelled)

    pub read-state : (state : SavedState) → state_values state ≡ values → ((key : StateKey) → Meets values key) → AreTwoWords state.sums
        → Reads (OrFault (IsStateFile bytes) (IsFirstFault bytes)) (Ok state)
    read-state state is meets sums = record {
      holds = record { spelled = subst (IsSpelled bytes) (sym is) reads.holds; meets = λ key. subst (λ (v : KeyValues). Meets v key) (sym is) (meets key); sums = sums };
      only = only;
    }
      where
        only : (other : Result SavedState StateFault) → OrFault (IsStateFile bytes) (IsFirstFault bytes) other → Ok state ≡ other
        only (Ok t) file = ap Ok (state-one state t sums file.sums (is ∙ same (state_values t) file.spelled))
        only (Err fault.NotState) first = absurd (first.holds values reads.holds)
        only (Err (fault.StateKey key)) first = absurd (first.holds.2 (subst (λ (v : KeyValues). Meets v key) (same first.holds.0 first.holds.1) (meets key)))
        only (Err (fault.Memory error)) first = absurd first.holds

    pub read-broken : (key : StateKey) → IsFirst key_number (λ k. ¬ Meets values k) key → Reads (OrFault (IsStateFile bytes) (IsFirstFault bytes)) (Err (fault.StateKey key))
    read-broken key broken = record {
      holds = record { holds = (values, reads.holds, broken.holds); first = first };
      only = only;
    }
      where
        first : (other : StateFault) → fault_order other < key_number key → ¬ HasFault bytes other
        first fault.NotState before has = has values reads.holds
        first (fault.StateKey k) before has = broken.first k before (λ meets. has.2 (subst (λ (v : KeyValues). Meets v k) (same has.0 has.1) meets))
        first (fault.Memory error) before has = has

        only : (other : Result SavedState StateFault) → OrFault (IsStateFile bytes) (IsFirstFault bytes) other → Err (fault.StateKey key) ≡ other
        only (Ok t) file = absurd (broken.holds (subst (λ (v : KeyValues). Meets v key) (sym (same (state_values t) file.spelled)) (file.meets key)))
        only (Err fault.NotState) has = absurd (has.holds values reads.holds)
        only (Err (fault.StateKey k)) has =
            let also : IsFirst key_number (λ k. ¬ Meets values k) k =
            record {
              holds = λ meets. has.holds.2 (subst (λ (v : KeyValues). Meets v k) (same has.holds.0 has.holds.1) meets);
              first = λ other before broke. has.first (fault.StateKey other) before (values, reads.holds, broke);
            } in
            let one : key ≡ k = IsFirst-one key_number (λ k. ¬ Meets values k) (λ a b f g e. key-one a b e) key k broken also in
            ap (λ (a : StateKey). Err (fault.StateKey a)) one
        only (Err (fault.Memory error)) has = absurd has.holds
