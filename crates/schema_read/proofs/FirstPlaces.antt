-- What maps from keys to first places have, item by item.
use Rattle.std.proofs.Common.{◌≡◌, ℕ, zero, suc, ◌+◌, ◌≤◌, ◌||◌, Bool, true, false, cond, List, [], ◌∷◌, take, is_some, Option, Some, None, refl, sym, ap, ◌∙◌, true≢false, arith}
use Rattle.std.specs.Prelude.{nat_lt}
use Rattle.std.proofs.lemmas.Bool.Decides.{nat_tests}
use Rattle.std.specs.Cmp.{IsEquivalence}
use Rattle.std.specs.List.{list_any, position_from}
use Rattle.std.specs.Option.{option_or}
use Rattle.std.specs.Map.{lookup}
use Rattle.indexmap.specs.IndexMap.{IndexMap, get}
use Rattle.schema_read.specs.Firsts.{HasFirsts, Notes, NotesKey, WillHaveFirsts, is_before}

or-none : {A : Type 0} (o : Option A) → option_or o None ≡ o
or-none None = refl
or-none (Some x) = refl

or-some : {A : Type 0} (o p : Option A) → is_some o ≡ true → option_or o p ≡ o
or-some None p is = absurd (true≢false (sym is))
or-some (Some x) p is = refl

none-is : {A : Type 0} (o : Option A) → is_some o ≡ false → o ≡ None
none-is None is = refl
none-is (Some x) is = absurd (true≢false is)

module _ {K S : Type 0} (eq : K → K → Bool) (laws : IsEquivalence eq) (old : IndexMap K ℕ S) (key : K) (at : ℕ) where
  get-same : (k : K) → eq k key ≡ true → get eq old k ≡ get eq old key
  get-same k same i = lookup (λ y. laws.congr k key y same i) old.entries

  -- a key that had a place keeps it
  pub note-kept : is_some (get eq old key) ≡ true → NotesKey eq old old key at
  note-kept some k = by (eq k key) refl
    where
      by : (b : Bool) → eq k key ≡ b → get eq old k ≡ option_or (get eq old k) (cond b (Some at) None)
      by true same = sym (or-some (get eq old k) (Some at) (ap is_some (get-same k same) ∙ some))
      by false other = sym (or-none (get eq old k))

  -- one that had none gets this
  pub note-new : (new : IndexMap K ℕ S) → is_some (get eq old key) ≡ false → ((k : K) → get eq new k ≡ cond (eq key k) (Some at) (get eq old k)) → NotesKey eq old new key at
  note-new new none updates k = updates k ∙ ap (λ (b : Bool). cond b (Some at) (get eq old k)) (laws.symm key k) ∙ by (eq k key) refl
    where
      by : (b : Bool) → eq k key ≡ b → cond b (Some at) (get eq old k) ≡ option_or (get eq old k) (cond b (Some at) None)
      by true same = sym (ap (λ (o : Option ℕ). option_or o (Some at)) (get-same k same ∙ none-is (get eq old key) none))
      by false other = sym (or-none (get eq old k))

module _ {K S A : Type 0} (eq : K → K → Bool) (test : K → A → Bool) (firsts : IndexMap K ℕ S) where
  -- of no items there are none
  pub firsts-start : firsts.entries ≡ [] → (items : List A) → WillHaveFirsts eq test firsts 0 items items
  firsts-start none items k = ap (λ es. option_or (lookup (eq k) es) (position_from (test k) 0 items)) none

  -- one more item was noted
  pub firsts-next : (new : IndexMap K ℕ S) (at : ℕ) (one : A) (rest left items : List A) → left ≡ one ∷ rest → Notes eq test firsts new at one → WillHaveFirsts eq test firsts at left items
      → WillHaveFirsts eq test new (at + 1) rest items
  firsts-next new at one rest left items split notes will k =
      ap (λ (o : Option ℕ). option_or o (position_from (test k) (at + 1) rest)) (notes k) ∙ by (get eq firsts k) (test k one)
      ∙ sym (ap (λ (l : List A). option_or (get eq firsts k) (position_from (test k) at l)) split) ∙ will k
    where
      by : (o : Option ℕ) (b : Bool) → option_or (option_or o (cond b (Some at) None)) (position_from (test k) (at + 1) rest) ≡ option_or o (cond b (Some at) (position_from (test k) (at + 1) rest))
      by (Some x) b = refl
      by None true = refl
      by None false = refl

  -- all were noted
  pub firsts-end : (at : ℕ) (left items : List A) → left ≡ [] → WillHaveFirsts eq test firsts at left items → HasFirsts eq test firsts items
  firsts-end at left items none will k =
      sym (or-none (get eq firsts k)) ∙ sym (ap (λ (l : List A). option_or (get eq firsts k) (position_from (test k) at l)) none) ∙ will k

  -- an item whose key was noted was noted
  pub notes-key : (new : IndexMap K ℕ S) (key : K) (at : ℕ) (one : A) → ((k : K) → test k one ≡ eq k key) → NotesKey eq firsts new key at → Notes eq test firsts new at one
  notes-key new key at one same notes k = notes k ∙ ap (λ (b : Bool). option_or (get eq firsts k) (cond b (Some at) None)) (sym (same k))

  -- one that passes no test needs no note
  pub notes-none : (at : ℕ) (one : A) → ((k : K) → test k one ≡ false) → Notes eq test firsts firsts at one
  notes-none at one none k = sym (or-none (get eq firsts k)) ∙ ap (λ (b : Bool). option_or (get eq firsts k) (cond b (Some at) None)) (sym (none k))

module _ {A : Type 0} (test : A → Bool) where
  not-before : (items : List A) (from n : ℕ) → n ≤ from → is_before n (position_from test from items) ≡ false
  not-before [] from n low = refl
  not-before (x ∷ items) from n low = by (test x) (not-before items (from + 1) n (omega (arith, low)))
    where
      by : (b : Bool) → is_before n (position_from test (from + 1) items) ≡ false → is_before n (cond b (Some from) (position_from test (from + 1) items)) ≡ false
      by true later = let h : nat_lt from n ≡ false = grind (arith, nat_tests) in h
      by false later = later

  any_from : (items : List A) (from n : ℕ) → list_any test (take n items) ≡ is_before (from + n) (position_from test from items)
  any_from [] from zero = refl
  any_from [] from (suc n) = refl
  any_from (x ∷ items) from zero = let low : from + 0 ≤ from = omega arith in sym (not-before (x ∷ items) from (from + 0) low)
  any_from (x ∷ items) from (suc n) =
      let moved : from + 1 + n ≡ from + suc n = omega arith in
      by (test x) (any_from items (from + 1) n ∙ ap (λ (m : ℕ). is_before m (position_from test (from + 1) items)) moved)
    where
      by : (b : Bool) → list_any test (take n items) ≡ is_before (from + suc n) (position_from test (from + 1) items)
          → (b || list_any test (take n items)) ≡ is_before (from + suc n) (cond b (Some from) (position_from test (from + 1) items))
      by true later = let h : nat_lt from (from + suc n) ≡ true = grind (arith, nat_tests) in sym h
      by false later = later

  -- some item at the front passes a test where the first place that does lies there
  pub any-front : (items : List A) (n : ℕ) → list_any test (take n items) ≡ is_before n (position_from test 0 items)
  any-front items n =
      let same : 0 + n ≡ n = omega arith in
      any_from items 0 n ∙ ap (λ (m : ℕ). is_before m (position_from test 0 items)) same

  -- some item passes a test where there is a first place that does
  pub any-place : (items : List A) (from : ℕ) → list_any test items ≡ is_some (position_from test from items)
  any-place [] from = refl
  any-place (x ∷ items) from = by (test x) (any-place items (from + 1))
    where
      by : (b : Bool) → list_any test items ≡ is_some (position_from test (from + 1) items) → (b || list_any test items) ≡ is_some (cond b (Some from) (position_from test (from + 1) items))
      by true e = refl
      by false e = e
