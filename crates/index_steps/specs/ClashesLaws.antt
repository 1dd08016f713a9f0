-- That an addition has a fault exactly where an entry stands by then that agrees with it in the columns: crates above cite these facts in their proofs.
use Rattle.std.proofs.Common.{◌≡◌, ◌≢◌, ℕ, ◌+◌, ◌≤◌, ◌⊎◌, ◌||◌, Bool, true, false, List, [], ◌∷◌, ◌++◌, length, map, take, Some, None, refl, sym, ap, ap₂, ◌∙◌, subst, inl, inr, arith, append-nil, append_assoc}
use Rattle.std.proofs.Math.Path.{subst⁻¹}
use Rattle.std.specs.Prelude.{Contains, IsTrue}
use Rattle.std.specs.List.{list_any}
use Rattle.std.specs.Ordering.{ordering_reverse}
use Rattle.std.specs.declared.cmp.Ordering.{Ordering}
use Rattle.std.specs.declared.cmp.Ordering.TheVariants.{Less, Equal, Greater}
use Rattle.std.proofs.lemmas.List.{length-map}
use Rattle.rbu_value.specs.declared.order.Collation.{Collation}
use Rattle.rbu_value.specs.declared.value.Value.{Value}
use Rattle.rbu_value.specs.declared.value.Value.TheVariants.{Null, Int, Text, Blob}
use Rattle.rbu_value.specs.Order.{value_cmp}
use Rattle.format_spec.specs.Record.{IsRecord, canonical_record}
use Rattle.record_codec.specs.RecordLaws.{canonical_record_read}
use Rattle.schema_spec.specs.declared.schema.Index.{Index}
use Rattle.tree_spec.specs.Trees.{Member}
use Rattle.database_spec.specs.Rows.{TableRow}
use Rattle.database_spec.specs.RowsLaws.{record-one}
use Rattle.database_spec.specs.Keys.{Clash, IsBefore, column_cmp, columns_cmp, entry_cmp, has_null, is_null, order_of}
use Rattle.database_spec.specs.KeysLaws.{columns-reverse}
use Rattle.index_changes.specs.ListsLaws.{pairs-at}
use Rattle.prepared_spec.specs.declared.violation.Violation.TheVariants.{NotUnique}
use Rattle.prepared_spec.specs.declared.violation.Change.{Change}
use Rattle.prepared_spec.specs.declared.violation.Change.TheVariants.{Remove, Add}
use Rattle.prepared_spec.specs.MembersLaws.{Has, has-from, has-to, has-left, has-either, has-map, map-has, member-or, values-same, values-itself, decide, true-false}
use Rattle.prepared_spec.specs.Outcomes.{AreEntered, Entered, IsIndexAfter, written_entry}
use Rattle.prepared_spec.specs.StepFaults.{AddsClash, IsAlike, IsChangeFault, change_cmp, entries_of}
use Rattle.prepared_spec.specs.Tables.{same_values}
use Rattle.prepared_laws.specs.PaddedKeysLaws.{padded-same, padded-total}
use Rattle.key_order.specs.declared.order.KeyOrder.{KeyOrder}
use Rattle.key_order.specs.Orders.{HasEqual, IsEqual, key_cmp}
use Rattle.index_steps.specs.IndexSteps.{AreChangesOf, AreFaultless, IsColumnsOrderOf}
use Rattle.index_steps.specs.ListsLaws.{pairs-two}
use Rattle.index_steps.specs.StandingLaws.{Stands, after-stands, before-old, done-first, due-change, entered-are, entry-many, first-done, has-change, in-changes, is-change, lesser-first, not-done, old-before, removal-first, stands-after, stands-decoded, stored-of, then-equal}

-- Columns.

-- entries that agree in the columns compare alike with others
pub columns-alike : (index : Index) (a b z : List Value) → length a ≡ length (order_of index) + 1 → length b ≡ length (order_of index) + 1 → length z ≡ length (order_of index) + 1
    → columns_cmp (order_of index) a b ≡ Equal → columns_cmp (order_of index) a z ≡ columns_cmp (order_of index) b z
columns-alike index a b z la lb lz equal =
    let order = order_of index in
    let ma : length order ≤ length a = omega (arith, la) in
    let mb : length order ≤ length b = omega (arith, lb) in
    let mz : length order ≤ length z = omega (arith, lz) in
    padded-same order a z ma mz ∙ (padded-total order).congr a b z (sym (padded-same order a b ma mb) ∙ equal) ∙ sym (padded-same order b z mb mz)

pub columns-turned : (index : Index) (a b : List Value) → columns_cmp (order_of index) a b ≡ Equal → columns_cmp (order_of index) b a ≡ Equal
columns-turned index a b equal = columns-reverse (order_of index) b a ∙ ap ordering_reverse equal

reverse-equal : (o : Ordering) → ordering_reverse o ≡ Equal → o ≡ Equal
reverse-equal Less e = absurd (let h : ⊥ = cc in h)
reverse-equal Equal e = refl
reverse-equal Greater e = absurd (let h : ⊥ = cc in h)

value-null : (collation : Collation) (x y : Value) → value_cmp collation x y ≡ Equal → is_null x ≡ is_null y
unfolding value_cmp
value-null collation Null Null e = refl
value-null collation Null (Int y) e = cc
value-null collation Null (Text y) e = cc
value-null collation Null (Blob y) e = cc
value-null collation (Int x) Null e = cc
value-null collation (Int x) (Int y) e = refl
value-null collation (Int x) (Text y) e = refl
value-null collation (Int x) (Blob y) e = refl
value-null collation (Text x) Null e = cc
value-null collation (Text x) (Int y) e = refl
value-null collation (Text x) (Text y) e = refl
value-null collation (Text x) (Blob y) e = refl
value-null collation (Blob x) Null e = cc
value-null collation (Blob x) (Int y) e = refl
value-null collation (Blob x) (Text y) e = refl
value-null collation (Blob x) (Blob y) e = refl

column-null : (collation : Collation) (descends : Bool) (x y : Value) → column_cmp (collation, descends) x y ≡ Equal → is_null x ≡ is_null y
column-null collation true x y e = value-null collation x y (reverse-equal (value_cmp collation x y) e)
column-null collation false x y e = value-null collation x y e

nulls-alike : (columns : List (ℕ × Collation × Bool)) (a b : List Value) → length columns ≤ length a → length columns ≤ length b
    → columns_cmp (map (λ column. (column.1, column.2)) columns) a b ≡ Equal → list_any is_null (take (length columns) a) ≡ list_any is_null (take (length columns) b)
nulls-alike [] a b la lb e = refl
nulls-alike (c ∷ columns) [] b la lb e = absurd (omega (arith, la))
nulls-alike (c ∷ columns) (x ∷ a) [] la lb e = absurd (omega (arith, lb))
nulls-alike (c ∷ columns) (x ∷ a) (y ∷ b) la lb e =
    let parts = then-equal (column_cmp (c.1, c.2) x y) (columns_cmp (map (λ column. (column.1, column.2)) columns) a b) e in
    ap₂ (λ s t. s || t) (column-null c.1 c.2 x y parts.0) (nulls-alike columns a b (omega (arith, la)) (omega (arith, lb)) parts.1)

-- and have a NULL alike
pub null-alike : (index : Index) (a b : List Value) → length a ≡ length (order_of index) + 1 → length b ≡ length (order_of index) + 1 → columns_cmp (order_of index) a b ≡ Equal → has_null index a ≡ has_null index b
null-alike index a b la lb e =
    let pair : ℕ × Collation × Bool → Collation × Bool = λ column. (column.1, column.2) in
    let many = length-map index.columns pair in
    nulls-alike index.columns a b (omega (arith, la, many)) (omega (arith, lb, many)) e

-- No two entries that stand clash.
abbrev pub Free : ℕ → Index → List Entered → List Change → Type 0
Free format index before done = (a b : Entered) → Stands format before done a → Stands format before done b → (a.entry ≡ b.entry → ⊥) → Clash index a.entry b.entry → ⊥

-- An addition that is due.
module _ (format : ℕ) (index : Index) (old_rows new_rows : List TableRow) (old : List Member) (done : List Change) (e : List Value) (left : List Change)
    (of : AreChangesOf format index old_rows new_rows old (done ++ Add e ∷ left)) (before : List Entered) (are : AreEntered old before) where
  abbrev S : Entered → Type 0
  S one = Stands format before done one

  abbrev Cols : List Value → List Value → Ordering
  Cols a b = columns_cmp (order_of index) a b

  abbrev New : List Value → Type 0
  New a = Contains (entries_of index new_rows) a

  abbrev Old : List Value → Type 0
  Old a = Contains (entries_of index old_rows) a

  abbrev Many : List Value → Type 0
  Many a = length a ≡ length (order_of index) + 1

  due : New e × (Old e → ⊥)
  due = is-change format index old_rows new_rows old done (Add e) left of (Add e) (due-change format index old_rows new_rows old done (Add e) left of)

  new-many : (a : List Value) → New a → Many a
  new-many a h = entry-many index new_rows a h

  -- an entry of both sides stands
  both-stand : (a : List Value) → New a → Old a → (one : Entered) × Has one before × (one.entry ≡ a) × (Has (Remove one.entry) done → ⊥)
  both-stand a new_ old_ =
      let from = old-before format index old_rows new_rows old done (Add e) left of before are a old_ in (
        from.0,
        from.1,
        from.2,
        λ h.
            let is = is-change format index old_rows new_rows old done (Add e) left of (Remove from.0.entry) (in-changes format index old_rows new_rows old done (Add e) left of (Remove from.0.entry) h) in
            is.1 (subst⁻¹ New from.2 new_),
      )

  -- an addition that goes before the one that is due stands
  first-stands : (a : List Value) → New a → (Old a → ⊥) → change_cmp index (Add a) (Add e) ≡ Less → Has (Add a) done
  first-stands a new_ none less = first-done format index old_rows new_rows old done (Add e) left of (Add a) (has-change format index old_rows new_rows old done (Add e) left of (Add a) (new_, none)) less

  old-or : (a : List Value) → Old a ⊎ (Old a → ⊥)
  old-or a = elim (member-or a (entries_of index old_rows)) [ inl h ↦ inl (has-to (entries_of index old_rows) a h) | inr none ↦ inr (λ h. none (has-from (entries_of index old_rows) a h)) ]

  -- so does each new entry of lesser columns
  lesser-stands : (a : List Value) → New a → Cols a e ≡ Less → (one : Entered) × S one × (one.entry ≡ a)
  lesser-stands a new_ less =
      elim (old-or a) [
        | inl stood ↦ let both = both-stand a new_ stood in (both.0, inl (both.1, both.3), both.2)
        | inr none ↦ (written_entry format a, inr (a, first-stands a new_ none (lesser-first index (Add a) (Add e) less), refl), refl)
      ]

  -- an entry that stands and agrees with the one that is due is one of the new ones
  stands-new : (one : Entered) → S one → Cols one.entry e ≡ Equal → New one.entry × (one.entry ≡ e → ⊥)
  stands-new one (inl (h, none)) equal = (
    elim (member-or one.entry (entries_of index new_rows)) [
      | inl stays ↦ has-to (entries_of index new_rows) one.entry stays
      | inr goes ↦
          let is = has-change format index old_rows new_rows old done (Add e) left of (Remove one.entry)
          (before-old format index old_rows new_rows old done (Add e) left of before are one h, λ k. goes (has-from (entries_of index new_rows) one.entry k)) in
          absurd (none (first-done format index old_rows new_rows old done (Add e) left of (Remove one.entry) is (removal-first index one.entry e equal)))
    ],
    λ same. due.1 (subst Old same (before-old format index old_rows new_rows old done (Add e) left of before are one h)),
  )
  stands-new one (inr (x, h, same)) equal = (
    subst (λ (o : Entered). New o.entry) same (is-change format index old_rows new_rows old done (Add e) left of (Add x) (in-changes format index old_rows new_rows old done (Add e) left of (Add x) h)).0,
    λ entries. not-done format index old_rows new_rows old done (Add e) left of (subst (λ (v : List Value). Has (Add v) done) (ap (λ (o : Entered). o.entry) same ∙ entries) h),
  )

  -- Where nothing clashes that stands, an entry that clashes with the one that is due makes its fault.
  module _ (unique : IsTrue index.unique) (free : Free format index before done) (whole : has_null index e ≡ false) where
    -- of two entries that agree with the one that is due only one stands
    alike-one : (a b : Entered) → S a → S b → Cols a.entry e ≡ Equal → Cols b.entry e ≡ Equal → Many a.entry → Many b.entry → a.entry ≡ b.entry
    alike-one a b sa sb ea eb la lb =
        let le = new-many e due.0 in
        elim (decide (same_values a.entry b.entry)) [
          | inl same ↦ values-same a.entry b.entry same
          | inr fails ↦
              let unlike : a.entry ≡ b.entry → ⊥ = λ same. true-false (same_values a.entry b.entry) (subst (λ (v : List Value). same_values a.entry v ≡ true) same (values-itself a.entry)) fails in
              let equal = columns-alike index a.entry e b.entry la le lb ea ∙ columns-turned index b.entry e eb in
              let na = null-alike index a.entry e la le ea ∙ whole in
              let nb = null-alike index b.entry e lb le eb ∙ whole in
              absurd (free a b sa sb unlike (equal, na, nb))
        ]

    module _ (one : Entered) (s : S one) (equal : Cols one.entry e ≡ Equal) where
      is_new : New one.entry × (one.entry ≡ e → ⊥)
      is_new = stands-new one s equal

      turned : Cols e one.entry ≡ Equal
      turned = columns-turned index one.entry e equal

      many : Many one.entry
      many = new-many one.entry is_new.0

      le : Many e
      le = new-many e due.0

      no_null : has_null index one.entry ≡ false
      no_null = null-alike index one.entry e many le equal ∙ whole

      least : (a b : List Value) → New a → New b → a ≢ b → Clash index a b → Cols a e ≢ Less
      least a b na nb differ clash less =
          let first = lesser-stands a na less in
          let second = lesser-stands b nb (sym (columns-alike index a b e (new-many a na) (new-many b nb) le clash.0) ∙ less) in
          free first.0 second.0 first.1 second.1 (λ same. differ (sym first.2 ∙ same ∙ second.2))
          (subst⁻¹ (λ (v : List Value). Clash index v second.0.entry) first.2 (subst⁻¹ (λ (v : List Value). Clash index a v) second.2 clash))

      -- the additions of alike entries before stand
      alike-added : (other : List Value) → IsAlike index new_rows e other → (Old other → ⊥) → IsBefore index other e → S (written_entry format other)
      alike-added other alike none before_ = inr (other, first-stands other alike.0 none before_, refl)

      alike-same : (other : List Value) → IsAlike index new_rows e other → (two : Entered) → S two → two.entry ≡ other → one.entry ≡ other
      alike-same other alike two st is =
          let eb : Cols two.entry e ≡ Equal = subst⁻¹ (λ (v : List Value). Cols v e ≡ Equal) is (columns-turned index e other alike.1) in
          let mb : Many two.entry = subst⁻¹ Many is (new-many other alike.0) in
          alike-one one two s st equal eb many mb ∙ is

      at-fault : (Old one.entry ⊎ ((x : List Value) × Has (Add x) done × (x ≡ one.entry)))
          → (((kept : List Value) × IsAlike index new_rows e kept × Old kept) × (Old e → ⊥) × ((other : List Value) → IsAlike index new_rows e other → IsBefore index other e → Old other))
          ⊎ (((other : List Value) → IsAlike index new_rows e other → Old other → ⊥)
          × ((first : List Value) × IsAlike index new_rows e first × IsBefore index first e × ((other : List Value) → IsAlike index new_rows e other → IsBefore index other e → other ≡ first)))
      at-fault (inl stood) = inl (
        (one.entry, (is_new.0, turned), stood),
        due.1,
        λ other alike before_. elim (old-or other) [
          | inl there ↦ there
          | inr none ↦ subst Old (alike-same other alike (written_entry format other) (alike-added other alike none before_) refl) stood
        ],
      )
      at-fault (inr (x, h, same)) =
          let is = is-change format index old_rows new_rows old done (Add e) left of (Add x) (in-changes format index old_rows new_rows old done (Add e) left of (Add x) h) in
          let none : Old one.entry → ⊥ = λ stood. is.1 (subst⁻¹ Old same stood) in
          let apart : (other : List Value) → IsAlike index new_rows e other → Old other → ⊥ = λ other alike stood.
          let both = both-stand other alike.0 stood in
          none (subst⁻¹ Old (alike-same other alike both.0 (inl (both.1, both.3)) both.2) stood) in
          let first : entry_cmp (order_of index) x e ≡ Less = done-first format index old_rows new_rows old done (Add e) left of (Add x) h in
          inr (
            apart,
            (
              one.entry,
              (is_new.0, turned),
              subst (λ (v : List Value). IsBefore index v e) same first,
              λ other alike before_. sym (alike-same other alike (written_entry format other) (alike-added other alike (apart other alike) before_) refl),
            ),
          )

      stood-or : S one → Old one.entry ⊎ ((x : List Value) × Has (Add x) done × (x ≡ one.entry))
      stood-or (inl (h, none)) = inl (before-old format index old_rows new_rows old done (Add e) left of before are one h)
      stood-or (inr (x, h, same)) = inr (x, h, ap (λ (o : Entered). o.entry) same)

      pub clash-made : AddsClash index old_rows new_rows e
      clash-made = (
        unique,
        (
          one.entry,
          record { entry_stands = due.0; other_stands = is_new.0; differ = λ same. is_new.1 (sym same); clash = (turned, whole, no_null); least = least },
        ),
        at-fault (stood-or s),
      )

  -- An addition with a fault agrees with an entry that stands.
  clash-at : IsTrue index.unique → AddsClash index old_rows new_rows e → (one : Entered) × S one × (Cols one.entry e ≡ Equal)
  clash-at unique (is, clash, inl (kept, none, rest)) =
      let both = both-stand kept.0 kept.1.0 kept.2 in
      (both.0, inl (both.1, both.3), subst⁻¹ (λ (v : List Value). Cols v e ≡ Equal) both.2 (columns-turned index e kept.0 kept.1.1))
  clash-at unique (is, clash, inr (none, (first, alike, before_, only))) =
      (written_entry format first, inr (first, first-stands first alike.0 (none first alike) before_, refl), columns-turned index e first alike.1)

  pub clash-stands : AddsClash index old_rows new_rows e → (one : Entered) × S one × (Cols one.entry e ≡ Equal)
  clash-stands clash = clash-at clash.0 clash

  pub clash-whole : AddsClash index old_rows new_rows e → has_null index e ≡ false
  clash-whole (is, clash, at) = clash.1.clash.1

-- An addition that clashes with nothing that stands leaves it so.
module _ (format : ℕ) (index : Index) (before : List Entered) where
  clash-turned : (a b : List Value) → Clash index a b → Clash index b a
  clash-turned a b clash = (columns-turned index a b clash.0, clash.2, clash.1)

  last-stands : (done : List Change) (e : List Value) (one : Entered) → Stands format before (done ++ Add e ∷ []) one → Stands format before done one ⊎ (e ≡ one.entry)
  last-stands done e one (inl (h, gone)) = inl (inl (h, λ r. gone (has-left done (Add e ∷ []) (Remove one.entry) r)))
  last-stands done e one (inr (x, h, same)) =
      elim (has-either done (Add e ∷ []) (Add x) h) [
        | inl there ↦ inl (inr (x, there, same))
        | inr last ↦ elim last [ inl is ↦ (let entries : e ≡ x = cc in inr (entries ∙ ap (λ (o : Entered). o.entry) same)) | inr none ↦ absurd none ]
      ]

  free-add : (done : List Change) (e : List Value) → Free format index before done → ((one : Entered) → Stands format before done one → Clash index one.entry e → ⊥) → Free format index before (done ++ Add e ∷ [])
  free-add done e free none a b sa sb differ clash =
      elim (last-stands done e a sa) [
        | inl x ↦ elim (last-stands done e b sb) [
          | inl y ↦ free a b x y differ clash
          | inr y ↦ none a x (subst⁻¹ (λ (v : List Value). Clash index a.entry v) y clash)
        ]
        | inr x ↦ elim (last-stands done e b sb) [
          | inl y ↦ none b y (clash-turned e b.entry (subst⁻¹ (λ (v : List Value). Clash index v b.entry) x clash))
          | inr y ↦ differ (sym x ∙ y)
        ]
      ]

  fewer-stands : (done : List Change) (e : List Value) (one : Entered) → Stands format before (done ++ Remove e ∷ []) one → Stands format before done one
  fewer-stands done e one (inl (h, gone)) = inl (h, λ r. gone (has-left done (Remove e ∷ []) (Remove one.entry) r))
  fewer-stands done e one (inr (x, h, same)) =
      elim (has-either done (Remove e ∷ []) (Add x) h) [
        | inl there ↦ inr (x, there, same)
        | inr last ↦ elim last [ inl is ↦ absurd (let no : ⊥ = cc in no) | inr none ↦ absurd none ]
      ]

  free-remove : (done : List Change) (e : List Value) → Free format index before done → Free format index before (done ++ Remove e ∷ [])
  free-remove done e free a b sa sb differ clash = free a b (fewer-stands done e a sa) (fewer-stands done e b sb) differ clash

-- Behind changes without a fault nothing clashes that stands.
module _ (format : ℕ) (index : Index) (old_rows new_rows : List TableRow) (old : List Member) (before : List Entered) (are : AreEntered old before) (unique : IsTrue index.unique) where
  free-step : (gone : List Change) (c : Change) (later : List Change) → AreChangesOf format index old_rows new_rows old (gone ++ c ∷ later) → IsChangeFault index old_rows new_rows c None → Free format index before gone
      → Free format index before (gone ++ c ∷ [])
  free-step gone (Remove e) later of fault free = free-remove format index before gone e free
  free-step gone (Add e) later of (inl bad) free = absurd (let wrong = bad.1 in let no : ⊥ = cc in no)
  free-step gone (Add e) later of (inr none) free =
      free-add format index before gone e free (λ one s clash. none.0 (clash-made format index old_rows new_rows old gone e later of before are unique free clash.2 one s clash.0))

  free-all : (gone todo tail : List Change) → AreChangesOf format index old_rows new_rows old (gone ++ (todo ++ tail)) → AreFaultless index old_rows new_rows todo → Free format index before gone → Free format index before (gone ++ todo)
  free-all gone [] tail of faults free = subst⁻¹ (Free format index before) (append-nil gone) free
  free-all gone (c ∷ todo) tail of faults free =
      let more = gone ++ c ∷ [] in
      let here = free-step gone c (todo ++ tail) of faults.0 free in
      let later = free-all more todo tail (subst⁻¹ (AreChangesOf format index old_rows new_rows old) (append_assoc gone (c ∷ []) (todo ++ tail)) of) faults.1 here in
      subst (Free format index before) (append_assoc gone (c ∷ []) todo) later

  free-none : (changes : List Change) → AreChangesOf format index old_rows new_rows old changes → Free format index before []
  free-none changes of a b (inl x) (inl y) differ clash =
      let Apart = λ (u v : List Value). Clash index u v → ⊥ in
      let held = of.held.entries in
      let are_entries = entered-are old before held are of.held.decoded in
      let ha = subst (Has a.entry) are_entries (has-map (λ (o : Entered). o.entry) before a x.0) in
      let hb = subst (Has b.entry) are_entries (has-map (λ (o : Entered). o.entry) before b y.0) in
      elim (pairs-two Apart held a.entry b.entry (pairs-at Apart held (of.held.unique unique)) ha hb) [
        | inl same ↦ differ same
        | inr apart ↦ elim apart [ inl p ↦ p clash | inr q ↦ q (clash-turned format index before a.entry b.entry clash) ]
      ]
  free-none changes of a b (inr x) sb differ clash = absurd x.1
  free-none changes of a b (inl x) (inr y) differ clash = absurd y.1

  pub free-done : (done left : List Change) → AreChangesOf format index old_rows new_rows old (done ++ left) → AreFaultless index old_rows new_rows done → Free format index before done
  free-done done left of faults = free-all [] done left of faults (free-none (done ++ left) of)

-- The fault of an addition that is due, behind changes without one.
module _ (format : ℕ) (index : Index) (old_rows new_rows : List TableRow) (old : List Member) (done : List Change) (e : List Value) (left : List Change)
    (of : AreChangesOf format index old_rows new_rows old (done ++ Add e ∷ left)) (alike : KeyOrder) (by_columns : IsColumnsOrderOf alike index) (now : List Member) (mid : IsIndexAfter format index done old now) where
  abbrev record_of : List ℕ
  record_of = canonical_record format e

  cmp-is : (a b : List Value) → key_cmp alike a b ≡ columns_cmp (order_of index) a b
  cmp-is a b = ap (λ (o : KeyOrder). key_cmp o a b) (λ i. record { columns = by_columns.columns i; rowid_last = by_columns.last i })

  e-record : IsRecord record_of e
  e-record = canonical_record_read format e (stored-of format index old_rows new_rows old done (Add e) left of (Add e) (due-change format index old_rows new_rows old done (Add e) left of))

  -- an entry that agrees, as a member of the list
  alike-stands : HasEqual alike record_of now → (one : Entered) × Stands format mid.before done one × (columns_cmp (order_of index) one.entry e ≡ Equal)
  alike-stands (m, has, equal) =
      let f : Entered → Member = λ o. o.member in
      let from = map-has f mid.after m (has-from (map f mid.after) m (subst (λ (l : List Member). Contains l m) mid.members_are has)) in
      let one = from.0 in
      let s = after-stands format index old_rows new_rows old done (Add e) left of now mid one from.1 in
      let decoded = stands-decoded format index old_rows new_rows old done (Add e) left of mid.before mid.are_before one s in
      (one, s, sym (cmp-is one.entry e) ∙ subst⁻¹ (λ (n : Member). IsEqual alike record_of n) from.2 equal one.entry e decoded e-record)

  stands-alike : (one : Entered) → Stands format mid.before done one → columns_cmp (order_of index) one.entry e ≡ Equal → HasEqual alike record_of now
  stands-alike one s equal =
      let f : Entered → Member = λ o. o.member in
      let has = stands-after format index old_rows new_rows old done (Add e) left of now mid one s in
      let decoded = stands-decoded format index old_rows new_rows old done (Add e) left of mid.before mid.are_before one s in (
        one.member,
        subst⁻¹ (λ (l : List Member). Contains l one.member) mid.members_are (has-to (map f mid.after) one.member (has-map f mid.after one has)),
        λ a b ra rb.
            cmp-is a b
            ∙ subst (λ (v : List Value). columns_cmp (order_of index) v b ≡ Equal) (record-one one.member.payload one.entry a decoded ra)
            (subst (λ (w : List Value). columns_cmp (order_of index) one.entry w ≡ Equal) (record-one record_of e b e-record rb) equal),
      )

  -- where an entry agrees that stands, the index is unique and no NULL is in the columns, this is its fault
  pub addition-faults : AreFaultless index old_rows new_rows done → IsTrue index.unique → has_null index e ≡ false → HasEqual alike record_of now → IsChangeFault index old_rows new_rows (Add e) (Some (NotUnique index.name e))
  addition-faults faults unique whole equal =
      let found = alike-stands equal in
      let free = free-done format index old_rows new_rows old mid.before mid.are_before unique done (Add e ∷ left) of faults in
      inl (clash-made format index old_rows new_rows old done e left of mid.before mid.are_before unique free whole found.0 found.1 found.2, refl)

  -- and where one of these is not so it has none
  pub addition-faultless : ((IsTrue index.unique → ⊥) ⊎ ((has_null index e ≡ false → ⊥) ⊎ (HasEqual alike record_of now → ⊥))) → IsChangeFault index old_rows new_rows (Add e) None
  addition-faultless cause =
      inr (
        λ clash.
            let found = clash-stands format index old_rows new_rows old done e left of mid.before mid.are_before clash in
            elim cause [
              | inl many ↦ many clash.0
              | inr rest ↦ elim rest [
                | inl null ↦ null (clash-whole format index old_rows new_rows old done e left of mid.before mid.are_before clash)
                | inr none ↦ none (stands-alike found.0 found.1 found.2)
              ]
            ],
        refl,
      )
