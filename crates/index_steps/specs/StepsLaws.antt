-- What a step makes of an index behind some of its changes: crates above cite these facts in their proofs.
use Rattle.std.proofs.Common.{◌≡◌, ◌≢◌, ℕ, ◌+◌, not, List, [], ◌∷◌, ◌++◌, length, map, refl, sym, ap, ap₂, ◌∙◌, subst, inl, inr, arith, append_assoc}
use Rattle.std.proofs.Math.Path.{subst⁻¹}
use Rattle.std.specs.Prelude.{Contains, IsPermutation, filter}
use Rattle.std.specs.List.{AllByRecursion}
use Rattle.std.specs.Ordering.{ordering_reverse}
use Rattle.std.specs.declared.cmp.Ordering.{Ordering}
use Rattle.std.specs.declared.cmp.Ordering.TheVariants.{Less, Equal}
use Rattle.std.proofs.lemmas.List.Sorted.{IsPermutation-cons, IsPermutation-middle, IsPermutation-sym, IsPermutation-to_front, IsPermutation-trans}
use Rattle.rbu_value.specs.declared.order.Collation.TheVariants.{Binary}
use Rattle.rbu_value.specs.declared.value.Value.{Value}
use Rattle.rbu_value.specs.Order.{value_cmp}
use Rattle.format_spec.specs.Record.{IsRecord, canonical_record}
use Rattle.record_codec.specs.RecordLaws.{canonical_record_read}
use Rattle.schema_spec.specs.declared.schema.Index.{Index}
use Rattle.tree_spec.specs.Trees.{Member}
use Rattle.database_spec.specs.Rows.{TableRow}
use Rattle.database_spec.specs.RowsLaws.{record-one}
use Rattle.database_spec.specs.Keys.{IsBefore, columns_cmp, entry_cmp, last_value, order_of}
use Rattle.database_spec.specs.KeysLaws.{before-apart, entry-reverse}
use Rattle.database_spec.specs.ListsLaws.{PairsByRecursion, pairs-from}
use Rattle.prepared_spec.specs.declared.violation.Change.{Change}
use Rattle.prepared_spec.specs.declared.violation.Change.TheVariants.{Remove, Add}
use Rattle.prepared_spec.specs.MembersLaws.{Has, has-from, has-to, has-left, has-right, has-either, has-map, map-has, filter-has, member-or, has-added}
use Rattle.prepared_spec.specs.ChangesLaws.{all-has}
use Rattle.prepared_spec.specs.Outcomes.{Entered, IsIndexAfter, added_entries, is_removed, written_entry}
use Rattle.prepared_spec.specs.StepFaults.{change_cmp, changed_entry, entries_of}
use Rattle.prepared_laws.specs.ChangesMadeLaws.{pairs-filter}
use Rattle.prepared_laws.specs.TablesMadeLaws.{pairs-join, pairs-weaken}
use Rattle.key_order.specs.declared.order.KeyOrder.{KeyOrder}
use Rattle.key_order.specs.Orders.{Compares, HasEqual, IsEntry, IsEqual, IsRising, key_cmp, key_length}
use Rattle.key_order.specs.ProjectionsLaws.{IsOrderOf}
use Rattle.index_steps.specs.IndexSteps.{AreChangesOf, Gains, IsStepped, Loses, change_record, entry_member}
use Rattle.index_steps.specs.ListsLaws.{Differ, IsSplit, any-more, differ-permutes, filter-same, has-all, has-fewer, has-middle, has-more, map-append, map-parts, map-split, pairs-front, pairs-high, pairs-low, pairs-two, pairs-without}
use Rattle.index_steps.specs.StandingLaws.{Stands, after-decoded, after-rises, after-stands, before-old, before-sorted, change-apart, done-first, due-change, changed-many, entry-alone, entry-itself, first-done, has-change, in-changes, is-change, made, made-stands, not-done, old-before, removal-first, rising, stands-after, stands-made, stands-many, stays, stored-of, then-equal}

-- The order of an index, by the entries that its members decode to.
module _ (order : KeyOrder) (index : Index) (of : IsOrderOf order index) where
  pub compares-is : (a b : List Value) → key_cmp order a b ≡ entry_cmp (order_of index) a b
  compares-is a b = ap (λ (o : KeyOrder). key_cmp o a b) (λ i. record { columns = of.columns i; rowid_last = of.last i })

  length-is : key_length order ≡ length (order_of index) + 1
  length-is = ap key_length (λ i. let o : KeyOrder = record { columns = of.columns i; rowid_last = of.last i } in o)

  pub is-entry : (payload : List ℕ) (entry : List Value) → IsRecord payload entry → length entry ≡ length (order_of index) + 1 → IsEntry order payload
  is-entry payload entry is many = record { values = entry; is_record = is; long = omega (arith, length-is, many) }

  -- what records say of the order of what they decode to, and the other way round
  pub compares-to : (found : Ordering) (x y : List ℕ) (a b : List Value) → IsRecord x a → IsRecord y b → entry_cmp (order_of index) a b ≡ found → Compares order found x y
  compares-to found x y a b one two is c d rc rd =
      compares-is c d ∙ subst (λ (v : List Value). entry_cmp (order_of index) v d ≡ found) (record-one x a c one rc) (subst (λ (w : List Value). entry_cmp (order_of index) a w ≡ found) (record-one y b d two rd) is)

  pub compares-from : (found : Ordering) (x y : List ℕ) (a b : List Value) → IsRecord x a → IsRecord y b → Compares order found x y → entry_cmp (order_of index) a b ≡ found
  compares-from found x y a b one two is = sym (compares-is a b) ∙ is a b one two

  abbrev IsDecoded : Entered → Type 0
  IsDecoded one = IsRecord one.member.payload one.entry

  abbrev member_of : Entered → Member
  member_of one = one.member

  -- members rise as their entries do
  pub entered-rise : (xs : List Entered) → ((one : Entered) → Has one xs → IsDecoded one × (length one.entry ≡ length (order_of index) + 1)) → PairsByRecursion (λ (a b : Entered). IsBefore index a.entry b.entry) xs
      → IsRising order (map member_of xs)
  entered-rise [] each pairs = tt
  entered-rise (x ∷ xs) each pairs =
      let here = each x (inl refl) in (
        is-entry x.member.payload x.entry here.0 here.1,
        has-all (λ (n : Member). Compares order Less x.member.payload n.payload) (map member_of xs) (λ n h.
            let from = map-has member_of xs n h in
            let less = all-has (λ (y : Entered). IsBefore index x.entry y.entry) xs from.0 pairs.0 from.1 in
            subst (λ (m : Member). Compares order Less x.member.payload m.payload) from.2
            (compares-to Less x.member.payload from.0.member.payload x.entry from.0.entry here.0 (each from.0 (inr from.1)).0 less)),
        entered-rise xs (λ one h. each one (inr h)) pairs.1,
      )

  pub rise-entered : (xs : List Entered) → ((one : Entered) → Has one xs → IsDecoded one) → IsRising order (map member_of xs) → PairsByRecursion (λ (a b : Entered). IsBefore index a.entry b.entry) xs
  rise-entered [] each rises = tt
  rise-entered (x ∷ xs) each rises = (
    has-all (λ (y : Entered). IsBefore index x.entry y.entry) xs (λ y h.
        compares-from Less x.member.payload y.member.payload x.entry y.entry (each x (inl refl)) (each y (inr h))
        (all-has (λ (n : Member). Compares order Less x.member.payload n.payload) (map member_of xs) y.member rises.1 (has-map member_of xs y h))),
    rise-entered xs (λ one h. each one (inr h)) rises.2,
  )

added-more : (done : List Change) (e : List Value) → added_entries (done ++ Add e ∷ []) ≡ added_entries done ++ e ∷ []
added-more [] e = refl
added-more (Remove x ∷ done) e = added-more done e
added-more (Add x ∷ done) e = ap (λ (l : List (List Value)). x ∷ l) (added-more done e)

module _ (format : ℕ) (index : Index) (old_rows new_rows : List TableRow) (old : List Member) (done : List Change) (change : Change) (left : List Change)
    (of : AreChangesOf format index old_rows new_rows old (done ++ change ∷ left)) (order : KeyOrder) (ordered : IsOrderOf order index) where
  -- the record of each change's entry is an entry
  pub change-entry : IsEntry order (change_record format change)
  change-entry =
      let due = due-change format index old_rows new_rows old done change left of in
      is-entry order index ordered (change_record format change) (changed_entry change) (canonical_record_read format (changed_entry change) (stored-of format index old_rows new_rows old done change left of change due))
      (changed-many format index old_rows new_rows old done change left of change due)

  module _ (now : List Member) (mid : IsIndexAfter format index done old now) where
    abbrev S : Entered → Type 0
    S one = Stands format mid.before done one

    abbrev after : List Entered
    after = mid.after

    abbrev mem : Entered → Member
    mem one = one.member

    decoded : (one : Entered) → Has one after → IsRecord one.member.payload one.entry
    decoded = after-decoded format index old_rows new_rows old done change left of now mid

    stands : (one : Entered) → Has one after → S one
    stands = after-stands format index old_rows new_rows old done change left of now mid

    rises : PairsByRecursion (λ (a b : Entered). IsBefore index a.entry b.entry) after
    rises = after-rises format index old_rows new_rows old done change left of now mid

    -- the list of the index strictly rises
    pub mid-rises : IsRising order now
    mid-rises =
        subst⁻¹ (IsRising order) mid.members_are
        (entered-rise order index ordered after (λ one h. (decoded one h, stands-many format index old_rows new_rows old done change left of mid.before mid.are_before one (stands one h))) rises)

    abbrev record_of : List Value → List ℕ
    record_of e = canonical_record format e

    due_record : IsRecord (change_record format change) (changed_entry change)
    due_record = canonical_record_read format (changed_entry change) (stored-of format index old_rows new_rows old done change left of change (due-change format index old_rows new_rows old done change left of))

    -- an entry that stands, and is equal to that of the change
    equal-is : (m : Member) → Contains now m → IsEqual order (change_record format change) m → (one : Entered) × Has one after × (one.member ≡ m) × (entry_cmp (order_of index) one.entry (changed_entry change) ≡ Equal)
    equal-is m h equal =
        let from = map-has mem after m (has-from (map mem after) m (subst (λ (l : List Member). Contains l m) mid.members_are h)) in
        let one = from.0 in
        let same = subst⁻¹ (λ (n : Member). IsEqual order (change_record format change) n) from.2 equal in
        (one, from.1, from.2, compares-from order index ordered Equal one.member.payload (change_record format change) one.entry (changed_entry change) (decoded one from.1) due_record same)

-- What is made of an index by changes in order has each entry once.
module _ (format : ℕ) (index : Index) where
  added-differ : (cs : List Change) → PairsByRecursion (λ a b. change_cmp index a b ≡ Less) cs → Differ (map (written_entry format) (added_entries cs))
  added-differ [] pairs = tt
  added-differ (Remove x ∷ cs) pairs = added-differ cs pairs.1
  added-differ (Add x ∷ cs) pairs = (
    has-all (λ (z : Entered). written_entry format x ≢ z) (map (written_entry format) (added_entries cs)) (λ z h same.
        let from = map-has (written_entry format) (added_entries cs) z h in
        let entries : x ≡ from.0 = ap (λ (o : Entered). o.entry) (same ∙ sym from.2) in
        let less = all-has (λ b. change_cmp index (Add x) b ≡ Less) cs (Add from.0) pairs.0 (has-added cs from.0 from.1) in
        let itself = subst⁻¹ (λ (v : List Value). change_cmp index (Add x) (Add v) ≡ Less) entries less in
        change-apart index (Add x) (Add x) itself itself),
    added-differ cs pairs.1,
  )

  entered-differ : (xs : List Entered) → PairsByRecursion (λ (a b : Entered). IsBefore index a.entry b.entry) xs → Differ xs
  entered-differ xs pairs =
      pairs-weaken (λ (a b : Entered). IsBefore index a.entry b.entry) (λ (a b : Entered). a ≢ b) xs
      (λ a b less same. let itself = subst (λ (o : Entered). IsBefore index o.entry b.entry) same less in before-apart index b.entry b.entry itself itself) pairs

  made-differ : (before : List Entered) (cs : List Change) → Differ before → PairsByRecursion (λ a b. change_cmp index a b ≡ Less) cs
      → ((one : Entered) (e : List Value) → Has one before → Has (Add e) cs → one.entry ≢ e) → Differ (made format before cs)
  made-differ before cs differ pairs unlike =
      let kept = filter (stays format before cs) before in
      let added = map (written_entry format) (added_entries cs) in
      pairs-join (λ (a b : Entered). a ≢ b) kept added (pairs-filter (λ (a b : Entered). a ≢ b) (stays format before cs) before differ) (added-differ cs pairs)
      (has-all (λ (x : Entered). AllByRecursion (λ (y : Entered). x ≢ y) added) kept (λ x h.
      has-all (λ (y : Entered). x ≢ y) added (λ y k same.
      let from = map-has (written_entry format) (added_entries cs) y k in
      unlike x from.0 (filter-has (stays format before cs) before x h).0 (has-added cs from.0 from.1) (ap (λ (o : Entered). o.entry) (same ∙ sym from.2)))))

-- A removal that is due.
module _ (format : ℕ) (index : Index) (old_rows new_rows : List TableRow) (old : List Member) (done : List Change) (e : List Value) (left : List Change)
    (of : AreChangesOf format index old_rows new_rows old (done ++ Remove e ∷ left)) (order : KeyOrder) (ordered : IsOrderOf order index) (now : List Member) (mid : IsIndexAfter format index done old now) where
  gone-is : Contains (entries_of index old_rows) e × (Contains (entries_of index new_rows) e → ⊥)
  gone-is = is-change format index old_rows new_rows old done (Remove e) left of (Remove e) (due-change format index old_rows new_rows old done (Remove e) left of)

  gone-record : IsRecord (canonical_record format e) e
  gone-record = canonical_record_read format e (stored-of format index old_rows new_rows old done (Remove e) left of (Remove e) (due-change format index old_rows new_rows old done (Remove e) left of))

  -- the entry stands, with the record that it had
  gone-stands : (one : Entered) × Stands format mid.before done one × (one.entry ≡ e)
  gone-stands =
      let from = old-before format index old_rows new_rows old done (Remove e) left of mid.before mid.are_before e gone-is.0 in
      (from.0, inl (from.1, λ h. not-done format index old_rows new_rows old done (Remove e) left of (subst (λ (v : List Value). Has (Remove v) done) from.2 h)), from.2)

  gone-after : Has gone-stands.0 mid.after
  gone-after = stands-after format index old_rows new_rows old done (Remove e) left of now mid gone-stands.0 gone-stands.1

  -- so an equal entry stands in the list
  pub removal-stands : HasEqual order (canonical_record format e) now
  removal-stands =
      let one = gone-stands.0 in (
        one.member,
        subst⁻¹ (λ (l : List Member). Contains l one.member) mid.members_are
            (has-to (map (λ (o : Entered). o.member) mid.after) one.member (has-map (λ (o : Entered). o.member) mid.after one gone-after)),
        compares-to order index ordered Equal one.member.payload (canonical_record format e) one.entry e (after-decoded format index old_rows new_rows old done (Remove e) left of now mid one gone-after) gone-record
            (subst⁻¹ (λ (v : List Value). entry_cmp (order_of index) v e ≡ Equal) gone-stands.2 (entry-itself index e)),
      )

  -- an entry that is equal is that one
  equal-one : (one : Entered) → Has one mid.after → entry_cmp (order_of index) one.entry e ≡ Equal → one.entry ≡ e
  equal-one one h equal =
      let other = gone-stands.0 in
      let Before : Entered → Entered → Type 0 = λ a b. IsBefore index a.entry b.entry in
      elim (pairs-two Before mid.after one other (after-rises format index old_rows new_rows old done (Remove e) left of now mid) h gone-after) [
        | inl same ↦ ap (λ (o : Entered). o.entry) same ∙ gone-stands.2
        | inr apart ↦ elim apart [
          | inl less ↦
              let here : entry_cmp (order_of index) one.entry e ≡ Less = subst (λ (v : List Value). entry_cmp (order_of index) one.entry v ≡ Less) gone-stands.2 less in
              absurd (let no : ⊥ = cc in no)
          | inr more ↦
              let here : entry_cmp (order_of index) e one.entry ≡ Less = subst (λ (v : List Value). entry_cmp (order_of index) v one.entry ≡ Less) gone-stands.2 more in
              let turned : entry_cmp (order_of index) e one.entry ≡ Equal = entry-reverse (order_of index) e one.entry ∙ ap ordering_reverse equal in
              absurd (let no : ⊥ = cc in no)
        ]
      ]

  module _ (new : List Member) (loses : Loses order (canonical_record format e) now new) (rising_new : IsRising order new) where
    split : IsSplit (λ (o : Entered). o.member) mid.after loses.front loses.gone loses.back
    split = map-split (λ (o : Entered). o.member) mid.after loses.front loses.gone loses.back (sym mid.members_are ∙ loses.old_is)

    abbrev lost : Entered
    lost = split.item

    abbrev rest : List Entered
    rest = split.front ++ split.back

    lost-has : Has lost mid.after
    lost-has = subst⁻¹ (Has lost) split.is (has-middle split.front lost split.back)

    rest-has : (one : Entered) → Has one rest → Has one mid.after
    rest-has one h = subst⁻¹ (Has one) split.is (has-more split.front lost split.back one h)

    lost-is : lost.entry ≡ e
    lost-is =
        equal-one lost lost-has
        (compares-from order index ordered Equal lost.member.payload (canonical_record format e) lost.entry e (after-decoded format index old_rows new_rows old done (Remove e) left of now mid lost lost-has) gone-record
        (subst⁻¹ (λ (m : Member). IsEqual order (canonical_record format e) m) split.item_is loses.equal))

    rest-members : map (λ (o : Entered). o.member) rest ≡ new
    rest-members = map-append (λ (o : Entered). o.member) split.front split.back ∙ ap₂ (λ (a b : List Member). a ++ b) split.front_is split.back_is ∙ sym loses.new_is

    rest-rises : PairsByRecursion (λ (a b : Entered). IsBefore index a.entry b.entry) rest
    rest-rises =
        pairs-without (λ (a b : Entered). IsBefore index a.entry b.entry) split.front lost split.back
        (subst (PairsByRecursion (λ (a b : Entered). IsBefore index a.entry b.entry)) split.is (after-rises format index old_rows new_rows old done (Remove e) left of now mid))

    abbrev more : List Change
    more = done ++ Remove e ∷ []

    more-changes : (c : Change) → Has c more → Has c (done ++ Remove e ∷ left)
    more-changes c h = elim (has-either done (Remove e ∷ []) c h) [ inl a ↦ has-left done (Remove e ∷ left) c a | inr b ↦ has-right done (Remove e ∷ left) c (elim b [ inl same ↦ inl same | inr none ↦ absurd none ]) ]

    more-rises : PairsByRecursion (λ a b. change_cmp index a b ≡ Less) more
    more-rises =
        pairs-front (λ a b. change_cmp index a b ≡ Less) more left
        (subst⁻¹ (PairsByRecursion (λ a b. change_cmp index a b ≡ Less)) (append_assoc done (Remove e ∷ []) left) (rising format index old_rows new_rows old done (Remove e) left of))

    added-done : (x : List Value) → Has (Add x) more → Has (Add x) done
    added-done x h = elim (has-either done (Remove e ∷ []) (Add x) h) [ inl a ↦ a | inr b ↦ elim b [ inl same ↦ absurd (let no : ⊥ = cc in no) | inr none ↦ absurd none ] ]

    made-rest : (one : Entered) → Has one (made format mid.before more) → Has one rest
    made-rest one h =
        elim (made-stands format mid.before more one h) [
          | inl kept ↦
              let stood : Stands format mid.before done one = inl (kept.0, λ r. kept.1 (has-left done (Remove e ∷ []) (Remove one.entry) r)) in
              elim (has-fewer split.front lost split.back one (subst (Has one) split.is (stands-after format index old_rows new_rows old done (Remove e) left of now mid one stood))) [
                | inl same ↦
                    let is : one.entry ≡ e = ap (λ (o : Entered). o.entry) (sym same) ∙ lost-is in
                    absurd (kept.1 (has-right done (Remove e ∷ []) (Remove one.entry) (inl (ap Remove (sym is)))))
                | inr there ↦ there
              ]
          | inr added ↦
              let here = added-done added.0 added.1 in
              let stood : Stands format mid.before done one = inr (added.0, here, added.2) in
              elim (has-fewer split.front lost split.back one (subst (Has one) split.is (stands-after format index old_rows new_rows old done (Remove e) left of now mid one stood))) [
                | inl same ↦
                    let is : added.0 ≡ e = ap (λ (o : Entered). o.entry) (added.2 ∙ sym same) ∙ lost-is in
                    let new_is = is-change format index old_rows new_rows old done (Remove e) left of (Add added.0) (in-changes format index old_rows new_rows old done (Remove e) left of (Add added.0) here) in
                    absurd (gone-is.1 (subst (Contains (entries_of index new_rows)) is new_is.0))
                | inr there ↦ there
              ]
        ]

    rest-made : (one : Entered) → Has one rest → Has one (made format mid.before more)
    rest-made one h =
        stands-made format mid.before more one (elim (after-stands format index old_rows new_rows old done (Remove e) left of now mid one (rest-has one h)) [
          | inl kept ↦ inl (
            kept.0,
            λ r. elim (has-either done (Remove e ∷ []) (Remove one.entry) r) [
              | inl gone ↦ kept.1 gone
              | inr last ↦ elim last [
                | inl same ↦
                    let is : e ≡ one.entry = cc in
                    let whole = subst (PairsByRecursion (λ (a b : Entered). IsBefore index a.entry b.entry)) split.is (after-rises format index old_rows new_rows old done (Remove e) left of now mid) in
                    never one h (lost-is ∙ is) whole
                | inr none ↦ none
              ]
            ],
          )
          | inr added ↦ inr (added.0, has-left done (Remove e ∷ []) (Add added.0) added.1, added.2)
        ])
      where
        never : (one : Entered) → Has one rest → lost.entry ≡ one.entry → PairsByRecursion (λ (a b : Entered). IsBefore index a.entry b.entry) (split.front ++ lost ∷ split.back) → ⊥
        never one h same pairs =
            elim (has-either split.front split.back one h) [
              | inl a ↦
                  let less = all-has (λ (u : Entered). IsBefore index u.entry lost.entry) split.front one (pairs-low (λ (a b : Entered). IsBefore index a.entry b.entry) split.front lost split.back pairs) a in
                  apart one.entry lost.entry (sym same) less
              | inr b ↦
                  let more_ = all-has (λ (v : Entered). IsBefore index lost.entry v.entry) split.back one (pairs-high (λ (a b : Entered). IsBefore index a.entry b.entry) split.front lost split.back pairs) b in
                  apart lost.entry one.entry same more_
            ]
          where
            apart : (a b : List Value) → a ≡ b → IsBefore index a b → ⊥
            apart a b equal less = let itself = subst (λ (v : List Value). IsBefore index v b) equal less in before-apart index b b itself itself

    before-rises : Differ mid.before
    before-rises =
        entered-differ format index mid.before (before-sorted format index old_rows new_rows old done (Remove e) left of mid.before mid.are_before)

    -- the index stands behind one change more
    pub removal-leads : IsIndexAfter format index more old new
    removal-leads = record {
      before = mid.before;
      are_before = mid.are_before;
      after = rest;
      all = differ-permutes (made format mid.before more) rest
          (made-differ format index mid.before more before-rises more-rises (λ one x h k same.
          let here = added-done x k in
          let is = is-change format index old_rows new_rows old done (Remove e) left of (Add x) (in-changes format index old_rows new_rows old done (Remove e) left of (Add x) here) in
          is.1 (subst (Contains (entries_of index old_rows)) same (before-old format index old_rows new_rows old done (Remove e) left of mid.before mid.are_before one h))))
          (entered-differ format index rest rest-rises) made-rest rest-made;
      sorted = pairs-from (λ (a b : Entered). IsBefore index a.entry b.entry) rest rest-rises;
      members_are = sym rest-members;
    }

made-more : (format : ℕ) (before : List Entered) (done : List Change) (e : List Value) → made format before (done ++ Add e ∷ []) ≡ made format before done ++ written_entry format e ∷ []
made-more format before done e =
    let w = written_entry format in
    let kept = filter (stays format before done) before in
    ap₂ (λ (a b : List Entered). a ++ b)
    (filter-same (stays format before (done ++ Add e ∷ [])) (stays format before done) before (λ one. ap not (any-more (is_removed one.entry) done (Add e) refl)))
    (ap (map w) (added-more done e) ∙ map-append w (added_entries done) (e ∷ []))
    ∙ sym (append_assoc kept (map w (added_entries done)) (w e ∷ []))

-- An addition that is due.
module _ (format : ℕ) (index : Index) (old_rows new_rows : List TableRow) (old : List Member) (done : List Change) (e : List Value) (left : List Change)
    (of : AreChangesOf format index old_rows new_rows old (done ++ Add e ∷ left)) (order : KeyOrder) (ordered : IsOrderOf order index) (now : List Member) (mid : IsIndexAfter format index done old now) where
  pub comes-is : Contains (entries_of index new_rows) e × (Contains (entries_of index old_rows) e → ⊥)
  comes-is = is-change format index old_rows new_rows old done (Add e) left of (Add e) (due-change format index old_rows new_rows old done (Add e) left of)

  pub comes-record : IsRecord (canonical_record format e) e
  comes-record = canonical_record_read format e (stored-of format index old_rows new_rows old done (Add e) left of (Add e) (due-change format index old_rows new_rows old done (Add e) left of))

  -- an entry of equal columns that stood before and stands still is kept
  pub kept-new : (one : Entered) → Has one mid.before → (Has (Remove one.entry) done → ⊥) → columns_cmp (order_of index) one.entry e ≡ Equal → Contains (entries_of index new_rows) one.entry
  kept-new one h none equal =
      elim (member-or one.entry (entries_of index new_rows)) [
        | inl stays_ ↦ has-to (entries_of index new_rows) one.entry stays_
        | inr goes ↦
            let is = has-change format index old_rows new_rows old done (Add e) left of (Remove one.entry)
            (before-old format index old_rows new_rows old done (Add e) left of mid.before mid.are_before one h, λ k. goes (has-from (entries_of index new_rows) one.entry k)) in
            absurd (none (first-done format index old_rows new_rows old done (Add e) left of (Remove one.entry) is (removal-first index one.entry e equal)))
      ]

  -- no equal entry stands in the list
  pub addition-absent : HasEqual order (canonical_record format e) now → ⊥
  addition-absent (m, has, equal) =
      let found = equal-is format index old_rows new_rows old done (Add e) left of order ordered now mid m has equal in
      let one = found.0 in
      let order_ = order_of index in
      let parts = then-equal (columns_cmp order_ one.entry e) (value_cmp Binary (last_value order_ one.entry) (last_value order_ e)) found.3 in
      elim (after-stands format index old_rows new_rows old done (Add e) left of now mid one found.1) [
        | inl kept ↦
            let same = entry-alone index new_rows of.apart one.entry e (kept-new one kept.0 kept.1 parts.0) comes-is.0 parts.1 in
            comes-is.1 (subst (Contains (entries_of index old_rows)) same (before-old format index old_rows new_rows old done (Add e) left of mid.before mid.are_before one kept.0))
        | inr added ↦
            let less : entry_cmp order_ added.0 e ≡ Less = done-first format index old_rows new_rows old done (Add e) left of (Add added.0) added.1 in
            let equal_ : entry_cmp order_ added.0 e ≡ Equal = subst⁻¹ (λ (o : Entered). entry_cmp order_ o.entry e ≡ Equal) added.2 found.3 in
            let no : ⊥ = cc in no
      ]

  -- the index stands behind one change more
  pub addition-leads : (new : List Member) → Gains (canonical_record format e) now new → IsRising order new → IsIndexAfter format index (done ++ Add e ∷ []) old new
  addition-leads new gains rises_new =
      let f : Entered → Member = λ o. o.member in
      let w = written_entry format e in
      let parts = map-parts f mid.after gains.less gains.greater (sym mid.members_are ∙ gains.old_is) in
      let us = parts.0 in
      let vs = parts.1 in
      let members : map f (us ++ w ∷ vs) ≡ new = map-append f us (w ∷ vs) ∙ ap₂ (λ (a b : List Member). a ++ entry_member (canonical_record format e) ∷ b) parts.3 parts.4 ∙ sym gains.new_is in
      let has : (one : Entered) → Has one (us ++ w ∷ vs) → IsRecord one.member.payload one.entry = λ one h. elim (has-fewer us w vs one h) [
        | inl same ↦ subst (λ (o : Entered). IsRecord o.member.payload o.entry) same comes-record
        | inr k ↦ after-decoded format index old_rows new_rows old done (Add e) left of now mid one (subst⁻¹ (Has one) parts.2 k)
      ] in
      let pairs = rise-entered order index ordered (us ++ w ∷ vs) has (subst⁻¹ (IsRising order) members rises_new) in
      let stood = made format mid.before done in
      record {
        before = mid.before;
        are_before = mid.are_before;
        after = us ++ w ∷ vs;
        all = subst⁻¹ (λ (l : List Entered). IsPermutation l (us ++ w ∷ vs)) (made-more format mid.before done e)
            (IsPermutation-trans (stood ++ w ∷ []) (w ∷ stood) (us ++ w ∷ vs) (IsPermutation-to_front stood w)
            (IsPermutation-trans (w ∷ stood) (w ∷ (us ++ vs)) (us ++ w ∷ vs) (IsPermutation-cons w stood (us ++ vs) (subst (IsPermutation stood) parts.2 mid.all))
            (IsPermutation-sym (us ++ w ∷ vs) (w ∷ (us ++ vs)) (IsPermutation-middle us w vs))));
        sorted = pairs-from (λ (a b : Entered). IsBefore index a.entry b.entry) (us ++ w ∷ vs) pairs;
        members_are = sym members;
      }

-- a step brings the index behind one change more
pub step-leads : (format : ℕ) (index : Index) (old_rows new_rows : List TableRow) (old : List Member) (done : List Change) (change : Change) (left : List Change) (order : KeyOrder) (now new : List Member)
    → AreChangesOf format index old_rows new_rows old (done ++ change ∷ left) → IsOrderOf order index → IsIndexAfter format index done old now → IsStepped format order change now new → IsRising order new
    → IsIndexAfter format index (done ++ change ∷ []) old new
step-leads format index old_rows new_rows old done (Remove e) left order now new of ordered mid stepped rising = removal-leads format index old_rows new_rows old done e left of order ordered now mid new stepped rising
step-leads format index old_rows new_rows old done (Add e) left order now new of ordered mid stepped rising = addition-leads format index old_rows new_rows old done e left of order ordered now mid new stepped rising
