-- Entries of an index beside those of the rows of its table, both in order: what the first ones have in common, the first that disagrees, and what is known of it by the entries that were found.
use Rattle.std.proofs.Common.{◌≡◌, ◌≢◌, ℕ, ℤ, suc, ◌+◌, ◌<◌, ◌≤◌, ◌||◌, ◌⊎◌, Bool, true, false, List, [], ◌∷◌, ◌++◌, length, map, take, Option, Some, None, slice_get, slice_index_or, refl, sym, ap, ap₂, ◌∙◌, subst, inl, inr, arith, append_assoc, is_some, length-append}
use Rattle.std.proofs.Math.Path.{subst⁻¹}
use Rattle.std.specs.Prelude.{AllPairs, Contains, IsTrue}
use Rattle.std.specs.List.{AllZip, AllByRecursion, list_any}
use Rattle.std.specs.Ordering.{ordering_then, ordering_reverse}
use Rattle.std.specs.Cmp.{IsTotalOrder}
use Rattle.std.specs.declared.cmp.Ordering.{Ordering}
use Rattle.std.specs.declared.cmp.Ordering.TheVariants.{Less, Equal, Greater}
use Rattle.std.proofs.lemmas.Bool.{cases_lt}
use Rattle.std.proofs.lemmas.List.{append-nil, length-map, get_or_default}
use Rattle.std.proofs.lemmas.List.Sorted.{Contains-permutation, IsPermutation-sym}
use Rattle.rbu_value.specs.declared.order.Collation.{Collation}
use Rattle.rbu_value.specs.declared.order.Collation.TheVariants.{Binary}
use Rattle.rbu_value.specs.declared.value.Value.{Value}
use Rattle.rbu_value.specs.declared.value.Value.TheVariants.{Null, Int, Text, Blob}
use Rattle.rbu_value.specs.Order.{value_cmp}
use Rattle.rbu_value.specs.OrderLaws.{value_cmp-itself, value_cmp-same}
use Rattle.schema_spec.specs.declared.schema.Index.{Index}
use Rattle.tree_spec.specs.Trees.{Member}
use Rattle.database_spec.specs.Rows.{TableRow}
use Rattle.database_spec.specs.ItemsLaws.{Has, has-from, has-to, has-left, has-right, has-either, map-has}
use Rattle.database_spec.specs.ListsLaws.{PairsByRecursion, pairs-from}
use Rattle.database_spec.specs.Keys.{IsBefore, IsProjection, IsIndexOf, Clash, column_cmp, columns_cmp, entry_cmp, entry_of, has_null, is_null, last_value, order_of}
use Rattle.database_spec.specs.KeysLaws.{before-apart}
use Rattle.database_spec.specs.FileFaults.{Disagrees, FirstDisagrees, IsEntry}
use Rattle.prepared_laws.specs.PaddedKeysLaws.{padded_cmp, padded-same, padded-total}
use Rattle.database_laws.specs.FaultlessFilesLaws.{HasRowid, before-then, entries-long, entries-decode, row-long}
use Rattle.database_laws.specs.RightFilesLaws.{all-of}
use Rattle.database_laws.specs.SoundFilesLaws.{pairs-to}
use Rattle.db_check.specs.declared.walk.CheckedTree.{CheckedTree}
use Rattle.db_check.specs.declared.walk.Comparison.{Comparison}
use Rattle.db_check.specs.Compares.{Agree, AreMembersOf, ClashIn, ClashesWith, FirstOf, IsComparison, IsLast, Tells, TellsBy, TellsOfFirst}

-- Lists in order.

module _ {A : Type 0} (R : A → A → Type 0) where
  pairs-cross : (xs ys : List A) → PairsByRecursion R (xs ++ ys) → (x y : A) → Has x xs → Has y ys → R x y
  pairs-cross [] ys pairs x y h k = absurd h
  pairs-cross (z ∷ xs) ys pairs x y (inl e) k = subst (λ v. R v y) e (all-of (R z) (xs ++ ys) y pairs.0 (has-right xs ys y k))
  pairs-cross (z ∷ xs) ys pairs x y (inr h) k = pairs-cross xs ys pairs.1 x y h k

  pairs-back : (xs ys : List A) → PairsByRecursion R (xs ++ ys) → PairsByRecursion R ys
  pairs-back [] ys pairs = pairs
  pairs-back (x ∷ xs) ys pairs = pairs-back xs ys pairs.1

  all-with-push : (P : A → Type 0) (xs : List A) (y : A) → AllByRecursion P xs → P y → AllByRecursion P (xs ++ y ∷ [])
  all-with-push P [] y all p = (p, tt)
  all-with-push P (x ∷ xs) y all p = (all.0, all-with-push P xs y all.1 p)

  pairs-push : (xs : List A) (y : A) → PairsByRecursion R xs → ((x : A) → Has x xs → R x y) → PairsByRecursion R (xs ++ y ∷ [])
  pairs-push [] y pairs each = (tt, tt)
  pairs-push (x ∷ xs) y pairs each = (all-with-push (R x) xs y pairs.0 (each x (inl refl)), pairs-push xs y pairs.1 (λ z h. each z (inr h)))

-- NULLs of keys that agree.

null-same : (collation : Collation) (x y : Value) → value_cmp collation x y ≡ Equal → is_null x ≡ is_null y
unfolding value_cmp
null-same collation Null Null e = refl
null-same collation Null (Int z) e = absurd (let no : ⊥ = cc in no)
null-same collation Null (Text t) e = absurd (let no : ⊥ = cc in no)
null-same collation Null (Blob t) e = absurd (let no : ⊥ = cc in no)
null-same collation (Int z) Null e = absurd (let no : ⊥ = cc in no)
null-same collation (Text t) Null e = absurd (let no : ⊥ = cc in no)
null-same collation (Blob t) Null e = absurd (let no : ⊥ = cc in no)
null-same collation (Int z) (Int w) e = refl
null-same collation (Int z) (Text t) e = refl
null-same collation (Int z) (Blob t) e = refl
null-same collation (Text t) (Int w) e = refl
null-same collation (Text t) (Text u) e = refl
null-same collation (Text t) (Blob u) e = refl
null-same collation (Blob t) (Int w) e = refl
null-same collation (Blob t) (Text u) e = refl
null-same collation (Blob t) (Blob u) e = refl

then-equal : (o p : Ordering) → ordering_then o p ≡ Equal → (o ≡ Equal) × (p ≡ Equal)
then-equal Less p e = let no : ⊥ = cc in absurd no
then-equal Equal p e = (refl, e)
then-equal Greater p e = let no : ⊥ = cc in absurd no

column-null : (column : Collation × Bool) (x y : Value) → column_cmp column x y ≡ Equal → is_null x ≡ is_null y
column-null (collation, false) x y e = null-same collation x y e
column-null (collation, true) x y e = null-same collation x y (turned (value_cmp collation x y) e)
  where
    turned : (o : Ordering) → ordering_reverse o ≡ Equal → o ≡ Equal
    turned Less e = let no : ⊥ = cc in absurd no
    turned Equal e = refl
    turned Greater e = let no : ⊥ = cc in absurd no

-- keys that agree have NULLs in the same columns
columns-null : (columns : List (Collation × Bool)) (a b : List Value) → length columns ≤ length a → length columns ≤ length b → columns_cmp columns a b ≡ Equal
    → list_any is_null (take (length columns) a) ≡ list_any is_null (take (length columns) b)
columns-null [] a b long also e = refl
columns-null (column ∷ columns) [] b long also e = absurd (omega (arith, long))
columns-null (column ∷ columns) (x ∷ a) [] long also e = absurd (omega (arith, also))
columns-null (column ∷ columns) (x ∷ a) (y ∷ b) long also e =
    let parts = then-equal (column_cmp column x y) (columns_cmp columns a b) e in
    ap₂ (λ (s t : Bool). s || t) (column-null column x y parts.0) (columns-null columns a b (omega (arith, long)) (omega (arith, also)) parts.1)

not-greater : (o p : Ordering) → ordering_then o p ≡ Less → o ≢ Greater
not-greater Less p e is = let no : ⊥ = cc in no
not-greater Equal p e is = let no : ⊥ = cc in no
not-greater Greater p e is = let no : ⊥ = cc in no

-- Between keys that agree all agree.
module _ (columns : List (Collation × Bool)) where
  abbrev Long : List Value → Type 0
  Long entry = length columns ≤ length entry

  -- what is between two keys that agree agrees with the second
  between-agrees : (a b c : List Value) → Long a → Long b → Long c → columns_cmp columns a b ≢ Greater → columns_cmp columns b c ≢ Greater → columns_cmp columns a c ≡ Equal → columns_cmp columns b c ≡ Equal
  between-agrees a b c p q r first second ends = padded-same columns b c q r ∙ by (padded_cmp columns a b) (padded_cmp columns b c) refl refl
    where
      total : IsTotalOrder (padded_cmp columns)
      total = padded-total columns

      all : padded_cmp columns a c ≡ Equal
      all = sym (padded-same columns a c p r) ∙ ends

      by : (o u : Ordering) → padded_cmp columns a b ≡ o → padded_cmp columns b c ≡ u → padded_cmp columns b c ≡ Equal
      by o Equal is also = also
      by o Greater is also = absurd (second (padded-same columns b c q r ∙ also))
      by Less Less is also = absurd (let less = total.trans a b c is also in let clash : Less ≡ Equal = sym less ∙ all in let no : ⊥ = cc in no)
      by Equal Less is also = absurd (let less = total.congr a b c is ∙ also in let clash : Less ≡ Equal = sym less ∙ all in let no : ⊥ = cc in no)
      by Greater Less is also = absurd (first (padded-same columns a b p q ∙ is))

module _ (index : Index) (rows : List TableRow) (members : List Member) (entries expected : List (List Value)) (zip : AllZip (IsEntry index) members entries) (pairs : AllPairs (IsBefore index) entries)
    (proj : IsProjection index rows expected) where
  abbrev own : List (List Value)
  own = map (entry_of index) rows

  abbrev order : List (Collation × Bool)
  order = order_of index

  abbrev Fits : List Value → Type 0
  Fits = HasRowid index

  to-own : (x : List Value) → Has x expected → Contains own x
  to-own x h = Contains-permutation expected own x (IsPermutation-sym own expected proj.all) (has-to expected x h)

  from-own : (x : List Value) → Contains own x → Has x expected
  from-own x h = has-from expected x (Contains-permutation own expected x proj.all h)

  entry-fits : (x : List Value) → Has x entries → Fits x
  entry-fits x h = all-of Fits entries x (entries-long index members entries zip) h

  row-fits : (x : List Value) → Has x expected → Fits x
  row-fits x h = let row = map-has (entry_of index) rows x (has-from own x (to-own x h)) in subst Fits row.2 (row-long index row.0)

  long-of : (x : List Value) → Fits x → length order ≤ length x
  long-of x fits = fits.0

  -- what both have in front, and that no two of these clash
  pub record Agreed (gone es ps : List (List Value)) : Type 0 where
    pub entries_are : entries ≡ gone ++ es
    pub expected_are : expected ≡ gone ++ ps
    pub apart : IsTrue index.unique → PairsByRecursion (λ (a b : List Value). ¬ Clash index a b) gone

  module _ (gone es ps : List (List Value)) (agreed : Agreed gone es ps) where
    in-entries : (x : List Value) → Has x gone ⊎ Has x es → Has x entries
    in-entries x h = subst⁻¹ (λ (list : List (List Value)). Has x list) agreed.entries_are (elim h [ inl g ↦ has-left gone es x g | inr e ↦ has-right gone es x e ])

    in-expected : (x : List Value) → Has x gone ⊎ Has x ps → Has x expected
    in-expected x h = subst⁻¹ (λ (list : List (List Value)). Has x list) agreed.expected_are (elim h [ inl g ↦ has-left gone ps x g | inr e ↦ has-right gone ps x e ])

    of-entries : (x : List Value) → Has x entries → Has x gone ⊎ Has x es
    of-entries x h = has-either gone es x (subst (λ (list : List (List Value)). Has x list) agreed.entries_are h)

    of-expected : (x : List Value) → Has x expected → Has x gone ⊎ Has x ps
    of-expected x h = has-either gone ps x (subst (λ (list : List (List Value)). Has x list) agreed.expected_are h)

    entries-sorted : PairsByRecursion (IsBefore index) (gone ++ es)
    entries-sorted = subst (PairsByRecursion (IsBefore index)) agreed.entries_are (pairs-to (IsBefore index) entries pairs)

    expected-sorted : PairsByRecursion (IsBefore index) (gone ++ ps)
    expected-sorted = subst (PairsByRecursion (IsBefore index)) agreed.expected_are (pairs-to (IsBefore index) expected proj.sorted)

    gone-no_clash : (a b : List Value) → IsTrue index.unique → Has a gone → Has b gone → IsBefore index a b → Clash index a b → ⊥
    gone-no_clash a b unique h k before clash = by gone entries-front (agreed.apart unique) h k
      where
        entries-front : PairsByRecursion (IsBefore index) gone
        entries-front = front gone entries-sorted
          where
            all-front : (P : List Value → Type 0) (xs ys : List (List Value)) → AllByRecursion P (xs ++ ys) → AllByRecursion P xs
            all-front P [] ys all = tt
            all-front P (x ∷ xs) ys all = (all.0, all-front P xs ys all.1)

            front : (xs : List (List Value)) → PairsByRecursion (IsBefore index) (xs ++ es) → PairsByRecursion (IsBefore index) xs
            front [] all = tt
            front (x ∷ xs) all = (all-front (IsBefore index x) xs es all.0, front xs all.1)

        by : (xs : List (List Value)) → PairsByRecursion (IsBefore index) xs → PairsByRecursion (λ (x y : List Value). ¬ Clash index x y) xs → Has a xs → Has b xs → ⊥
        by [] sorted apart p q = p
        by (x ∷ xs) sorted apart (inl p) (inl q) =
            let same : a ≡ b = sym p ∙ q in before-apart index a b before (subst (λ (v : List Value). IsBefore index v a) same (subst⁻¹ (IsBefore index a) same before))
        by (x ∷ xs) sorted apart (inl p) (inr q) = all-of (λ (y : List Value). ¬ Clash index x y) xs b apart.0 q (subst⁻¹ (λ v. Clash index v b) p clash)
        by (x ∷ xs) sorted apart (inr p) (inl q) = before-apart index a b before (subst (λ v. IsBefore index v a) q (all-of (IsBefore index x) xs a sorted.0 p))
        by (x ∷ xs) sorted apart (inr p) (inr q) = by xs sorted.1 apart.1 p q

    -- whatever disagrees is not among those in front
    later : (x : List Value) → Disagrees index rows entries x → Has x es ⊎ Has x ps
    later x (inl wrong) = elim (of-entries x (has-from entries x wrong.0)) [
      | inl g ↦ absurd (wrong.1 (to-own x (in-expected x (inl g))))
      | inr e ↦ inl e
    ]
    later x (inr (inl wrong)) = elim (of-expected x (from-own x wrong.1)) [
      | inl g ↦ absurd (wrong.0 (has-to entries x (in-entries x (inl g))))
      | inr p ↦ inr p
    ]
    later x (inr (inr wrong)) = elim (of-entries x (has-from entries x wrong.1)) [
      | inl g ↦
          let other = wrong.2.0 in
          elim (of-entries other (has-from entries other wrong.2.1)) [
            | inl h ↦ absurd (gone-no_clash other x wrong.0 h g wrong.2.2 wrong.2.3)
            | inr h ↦ absurd (before-apart index other x wrong.2.2 (pairs-cross (IsBefore index) gone es entries-sorted x other g h))
          ]
      | inr e ↦ inl e
    ]

    -- an entry that disagrees, before which none of those behind the front stands
    pub first-disagrees : (entry : List Value) (rowid : ℤ) → Fits entry → last_value order entry ≡ Int rowid → Disagrees index rows entries entry
        → ((x : List Value) → Has x es → ¬ IsBefore index x entry) → ((x : List Value) → Has x ps → ¬ IsBefore index x entry) → FirstDisagrees index rows members rowid
    first-disagrees entry rowid fits last disagrees first also = record {
      entries = entries;
      decoded = entries-decode index members entries zip;
      entry = entry;
      disagrees = disagrees;
      rowid_is = last;
      first = λ other wrong. elim (later other wrong) [ inl e ↦ first other e | inr p ↦ also other p ];
    }

  itself-not : (x : List Value) → ¬ IsBefore index x x
  itself-not x before = before-apart index x x before before

  -- those behind a first one are not before it
  head-first : (gone : List (List Value)) (e : List Value) (es : List (List Value)) → PairsByRecursion (IsBefore index) (gone ++ (e ∷ es)) → (x : List Value) → Has x (e ∷ es) → ¬ IsBefore index x e
  head-first gone e es sorted x (inl same) before = itself-not e (subst⁻¹ (λ v. IsBefore index v e) same before)
  head-first gone e es sorted x (inr h) before = before-apart index x e before (all-of (IsBefore index e) es x (pairs-back (IsBefore index) gone (e ∷ es) sorted).0 h)

  behind-head : (gone : List (List Value)) (e : List Value) (es : List (List Value)) → PairsByRecursion (IsBefore index) (gone ++ (e ∷ es)) → (x : List Value) → Has x es → IsBefore index e x
  behind-head gone e es sorted x h = all-of (IsBefore index e) es x (pairs-back (IsBefore index) gone (e ∷ es) sorted).0 h

  front-head : (gone : List (List Value)) (e : List Value) (es : List (List Value)) → PairsByRecursion (IsBefore index) (gone ++ (e ∷ es)) → (x : List Value) → Has x gone → IsBefore index x e
  front-head gone e es sorted x h = pairs-cross (IsBefore index) gone (e ∷ es) sorted x e h (inl refl)

  not-front : (gone : List (List Value)) (e : List Value) (es : List (List Value)) → PairsByRecursion (IsBefore index) (gone ++ (e ∷ es)) → ¬ Has e gone
  not-front gone e es sorted h = itself-not e (front-head gone e es sorted e h)

  module _ (gone : List (List Value)) where
    -- an entry behind which no row is left
    pub entry-alone : (e : List Value) (es : List (List Value)) (rowid : ℤ) → Agreed gone (e ∷ es) [] → last_value order e ≡ Int rowid → FirstDisagrees index rows members rowid
    entry-alone e es rowid agreed last =
        let sorted = entries-sorted gone (e ∷ es) [] agreed in
        first-disagrees gone (e ∷ es) [] agreed e rowid (entry-fits e (in-entries gone (e ∷ es) [] agreed e (inr (inl refl)))) last
        (inl (
          has-to entries e (in-entries gone (e ∷ es) [] agreed e (inr (inl refl))),
          λ c. elim (of-expected gone (e ∷ es) [] agreed e (from-own e c)) [ inl g ↦ not-front gone e es sorted g | inr p ↦ p ],
        ))
        (head-first gone e es sorted) (λ x h. absurd h)

    -- a row behind which no entry is left
    pub row-alone : (p : List Value) (ps : List (List Value)) (rowid : ℤ) → Agreed gone [] (p ∷ ps) → last_value order p ≡ Int rowid → FirstDisagrees index rows members rowid
    row-alone p ps rowid agreed last =
        let sorted = expected-sorted gone [] (p ∷ ps) agreed in
        let stands = in-expected gone [] (p ∷ ps) agreed p (inr (inl refl)) in
        first-disagrees gone [] (p ∷ ps) agreed p rowid (row-fits p stands) last
        (inr (inl (λ c. elim (of-entries gone [] (p ∷ ps) agreed p (has-from entries p c)) [ inl g ↦ not-front gone p ps sorted g | inr e ↦ e ], to-own p stands)))
        (λ x h. absurd h) (head-first gone p ps sorted)

    module _ (e p : List Value) (es ps : List (List Value)) (agreed : Agreed gone (e ∷ es) (p ∷ ps)) where
      entries-in : PairsByRecursion (IsBefore index) (gone ++ (e ∷ es))
      entries-in = entries-sorted gone (e ∷ es) (p ∷ ps) agreed

      expected-in : PairsByRecursion (IsBefore index) (gone ++ (p ∷ ps))
      expected-in = expected-sorted gone (e ∷ es) (p ∷ ps) agreed

      e-stands : Has e entries
      e-stands = in-entries gone (e ∷ es) (p ∷ ps) agreed e (inr (inl refl))

      p-stands : Has p expected
      p-stands = in-expected gone (e ∷ es) (p ∷ ps) agreed p (inr (inl refl))

      -- the entry is not the row's, and the row does not stand before it
      pub entry-first : (rowid : ℤ) → e ≢ p → ¬ IsBefore index p e → last_value order e ≡ Int rowid → FirstDisagrees index rows members rowid
      entry-first rowid unlike not_before last =
          first-disagrees gone (e ∷ es) (p ∷ ps) agreed e rowid (entry-fits e e-stands) last (inl (has-to entries e e-stands, λ c. none (from-own e c)))
          (head-first gone e es entries-in) (λ x h before. first x h before)
        where
          none : ¬ Has e expected
          none h = elim (of-expected gone (e ∷ es) (p ∷ ps) agreed e h) [
            | inl g ↦ not-front gone e es entries-in g
            | inr k ↦ elim k [ inl same ↦ unlike (sym same) | inr more ↦ not_before (behind-head gone p ps expected-in e more) ]
          ]

          first : (x : List Value) → Has x (p ∷ ps) → IsBefore index x e → ⊥
          first x (inl same) before = not_before (subst⁻¹ (λ v. IsBefore index v e) same before)
          first x (inr h) before =
              let stands = in-expected gone (e ∷ es) (p ∷ ps) agreed x (inr (inr h)) in
              not_before (before-then index p x e (row-fits p p-stands) (row-fits x stands) (entry-fits e e-stands) (behind-head gone p ps expected-in x h) before)

      -- the row stands before the entry
      pub row-first : (rowid : ℤ) → IsBefore index p e → last_value order p ≡ Int rowid → FirstDisagrees index rows members rowid
      row-first rowid before last =
          first-disagrees gone (e ∷ es) (p ∷ ps) agreed p rowid (row-fits p p-stands) last (inr (inl (λ c. none (has-from entries p c), to-own p p-stands)))
          first (head-first gone p ps expected-in)
        where
          none : ¬ Has p entries
          none h = elim (of-entries gone (e ∷ es) (p ∷ ps) agreed p h) [
            | inl g ↦ not-front gone p ps expected-in g
            | inr k ↦ head-first gone e es entries-in p k before
          ]

          first : (x : List Value) → Has x (e ∷ es) → ¬ IsBefore index x p
          first x (inl same) less = before-apart index p e before (subst⁻¹ (λ v. IsBefore index v p) same less)
          first x (inr h) less =
              let stands = in-entries gone (e ∷ es) (p ∷ ps) agreed x (inr (inr h)) in
              before-apart index p e before (before-then index e x p (entry-fits e e-stands) (entry-fits x stands) (row-fits p p-stands) (behind-head gone e es entries-in x h) less)

      module _ (same : e ≡ p) where
        -- the entry clashes with one in front
        pub clash-first : (rowid : ℤ) (other : List Value) → IsTrue index.unique → Has other gone → Clash index other e → last_value order e ≡ Int rowid → FirstDisagrees index rows members rowid
        clash-first rowid other unique h clash last =
            first-disagrees gone (e ∷ es) (p ∷ ps) agreed e rowid (entry-fits e e-stands) last
            (inr (inr (unique, has-to entries e e-stands, (other, has-to entries other (in-entries gone (e ∷ es) (p ∷ ps) agreed other (inl h)), front-head gone e es entries-in other h, clash))))
            (head-first gone e es entries-in) (λ x k before. head-first gone p ps expected-in x k (subst (IsBefore index x) same before))

        -- it goes in front
        pub agreed-more : (IsTrue index.unique → (x : List Value) → Has x gone → ¬ Clash index x e) → Agreed (gone ++ e ∷ []) es ps
        agreed-more apart = record {
          entries_are = agreed.entries_are ∙ sym (append_assoc gone (e ∷ []) es);
          expected_are = agreed.expected_are ∙ ap (λ (v : List Value). gone ++ (v ∷ ps)) (sym same) ∙ sym (append_assoc gone (e ∷ []) ps);
          apart = λ unique. pairs-push (λ (a b : List Value). ¬ Clash index a b) gone e (agreed.apart unique) (apart unique);
        }

    -- one that does not clash with the last in front clashes with none
    pub last-apart : (front : List (List Value)) (last e p : List Value) (es ps : List (List Value)) → gone ≡ front ++ last ∷ [] → Agreed gone (e ∷ es) (p ∷ ps) → ¬ Clash index last e → (x : List Value) → Has x gone → ¬ Clash index x e
    last-apart front last e p es ps is agreed apart x h clash =
        elim (has-either front (last ∷ []) x (subst (λ (list : List (List Value)). Has x list) is h)) [
          | inr own ↦ elim own [ inl same ↦ apart (subst⁻¹ (λ v. Clash index v e) same clash) | inr none ↦ none ]
          | inl early ↦ apart (joined early)
        ]
      where
        sorted : PairsByRecursion (IsBefore index) (gone ++ (e ∷ es))
        sorted = entries-sorted gone (e ∷ es) (p ∷ ps) agreed

        has-last : Has last gone
        has-last = subst⁻¹ (λ (list : List (List Value)). Has last list) is (has-right front (last ∷ []) last (inl refl))

        joined : Has x front → Clash index last e
        joined early =
            let parts = subst (λ (list : List (List Value)). PairsByRecursion (IsBefore index) (list ++ (e ∷ es))) is sorted in
            let one = pairs-cross (IsBefore index) front (last ∷ (e ∷ es)) (subst (PairsByRecursion (IsBefore index)) (append_assoc front (last ∷ []) (e ∷ es)) parts) x last early (inl refl) in
            let two = front-head gone e es sorted last has-last in
            let fit_x = entry-fits x (in-entries gone (e ∷ es) (p ∷ ps) agreed x (inl h)) in
            let fit_l = entry-fits last (in-entries gone (e ∷ es) (p ∷ ps) agreed last (inl has-last)) in
            let fit_e = entry-fits e (in-entries gone (e ∷ es) (p ∷ ps) agreed e (inr (inl refl))) in
            let agrees = between-agrees order x last e fit_x.0 fit_l.0 fit_e.0 (not-greater (columns_cmp order x last) (value_cmp Binary (last_value order x) (last_value order last)) one)
            (not-greater (columns_cmp order last e) (value_cmp Binary (last_value order last) (last_value order e)) two) clash.0 in
            let columns : length order ≡ length index.columns = length-map index.columns (λ (column : ℕ × Collation × Bool). (column.1, column.2)) in
            let nulls = columns-null order last e fit_l.0 fit_e.0 agrees in
            let at_columns : has_null index last ≡ has_null index e = subst (λ (n : ℕ). list_any is_null (take n last) ≡ list_any is_null (take n e)) columns nulls in
            (agrees, at_columns ∙ clash.2, clash.2)

    -- nothing is left on either side
    pub all-agree : Agreed gone [] [] → IsIndexOf index rows members
    all-agree agreed =
        let same : entries ≡ expected = agreed.entries_are ∙ sym agreed.expected_are in
        let whole : gone ≡ entries = sym (agreed.entries_are ∙ append-nil gone) in
        record {
          entries = entries;
          decoded = entries-decode index members entries zip;
          is_projection = subst⁻¹ (IsProjection index rows) same proj;
          unique = λ unique. subst (λ (list : List (List Value)). AllPairs (λ (a b : List Value). ¬ Clash index a b) list) whole (pairs-from (λ (a b : List Value). ¬ Clash index a b) gone (agreed.apart unique));
        }

-- Lists of values that are the same at each place.

pub same-each : (xs ys : List Value) → length xs ≡ length ys → ((k : ℕ) (d : Value) → k < length xs → slice_index_or xs k d ≡ slice_index_or ys k d) → xs ≡ ys
same-each [] [] long each = refl
same-each [] (y ∷ ys) long each = absurd (omega (arith, long))
same-each (x ∷ xs) [] long each = absurd (omega (arith, long))
same-each (x ∷ xs) (y ∷ ys) long each = ap₂ (λ (v : Value) (vs : List Value). v ∷ vs) (each 0 x (omega arith)) (same-each xs ys (omega (arith, long)) (λ k d low. each (suc k) d (omega (arith, low))))

-- Values at one place of two lists.
module _ (xs ys : List Value) (at : ℕ) (x y : Value) (low : at < length xs) (long : length xs ≡ length ys) (is : x ≡ slice_index_or xs at x) (also : y ≡ slice_index_or ys at y) where
  low-also : at < length ys
  low-also = omega (arith, low, long)

  pub same-at : xs ≡ ys → x ≡ y
  same-at same = is ∙ ap (λ (list : List Value). slice_index_or list at x) same ∙ get_or_default ys at x y low-also ∙ sym also

  pub unlike-at : ¬ (value_cmp Binary x y ≡ Equal) → xs ≢ ys
  unlike-at unlike same = unlike (subst (λ (v : Value). value_cmp Binary x v ≡ Equal) (same-at same) (value_cmp-itself Binary x))

  pub next-same : value_cmp Binary x y ≡ Equal → ((k : ℕ) (d : Value) → k < at → slice_index_or xs k d ≡ slice_index_or ys k d) → (k : ℕ) (d : Value) → k < at + 1 → slice_index_or xs k d ≡ slice_index_or ys k d
  next-same equal each k d less = elim (cases_lt k at) [
    | inl before ↦ each k d before
    | inr not_before ↦
        let here : k ≡ at = omega (arith, less, not_before) in
        ap (λ (n : ℕ). slice_index_or xs n d) here ∙ get_or_default xs at d x low ∙ sym is ∙ value_cmp-same x y equal ∙ also ∙ get_or_default ys at y d low-also ∙ sym (ap (λ (n : ℕ). slice_index_or ys n d) here)
  ]

-- What stands at the end of a front.

pub same-some : (x y : List Value) → Some x ≡ Some y → x ≡ y
same-some x y e = cc

next-some : (gone rest : List (List Value)) (p : List Value) → slice_get (gone ++ rest) (length gone) ≡ Some p → (more : List (List Value)) × (rest ≡ p ∷ more)
next-some [] [] p get = absurd (let no : ⊥ = cc in no)
next-some [] (x ∷ rest) p get = (rest, ap (λ (v : List Value). v ∷ rest) (same-some x p get))
next-some (x ∷ gone) rest p get = next-some gone rest p get

next-none : (gone rest : List (List Value)) → slice_get (gone ++ rest) (length gone) ≡ None → rest ≡ []
next-none [] [] get = refl
next-none [] (x ∷ rest) get = absurd (let no : ⊥ = cc in no)
next-none (x ∷ gone) rest get = next-none gone rest get

-- A number that is the rowid of an entry, if it has one.
abbrev pub IsRowidIn : List (Collation × Bool) → List Value → ℤ → Type 0
IsRowidIn columns entry result = (z : ℤ) → last_value columns entry ≡ Int z → result ≡ z

-- A clash by the columns of an index.
module _ (index : Index) (columns : List (Collation × Bool)) (a b : List Value) (same : order_of index ≡ columns) where
  many : length (order_of index) ≡ length index.columns
  many = length-map index.columns (λ (column : ℕ × Collation × Bool). (column.1, column.2))

  clash-of : ClashIn columns a b → Clash index a b
  clash-of clash =
      let own : ClashIn (order_of index) a b = subst⁻¹ (λ (cs : List (Collation × Bool)). ClashIn cs a b) same clash in
      (own.0, subst (λ (n : ℕ). list_any is_null (take n a) ≡ false) many own.1, subst (λ (n : ℕ). list_any is_null (take n b) ≡ false) many own.2)

  of-clash : Clash index a b → ClashIn columns a b
  of-clash clash = subst (λ (cs : List (Collation × Bool)). ClashIn cs a b) same
      (clash.0, subst⁻¹ (λ (n : ℕ). list_any is_null (take n a) ≡ false) many clash.1, subst⁻¹ (λ (n : ℕ). list_any is_null (take n b) ≡ false) many clash.2)

-- Where an index ends, all of whose entries were found in order.
module _ (index : Index) (rows : List TableRow) (members : List Member) (entries expected : List (List Value)) (zip : AllZip (IsEntry index) members entries) (pairs : AllPairs (IsBefore index) entries)
    (proj : IsProjection index rows expected) where
  -- a number that is the rowid of an entry that disagrees is told
  told-rowid : (columns : List (Collation × Bool)) (entry : List Value) (result : ℤ) → order_of index ≡ columns → HasRowid index entry → IsRowidIn columns entry result
      → ((z : ℤ) → last_value (order_of index) entry ≡ Int z → FirstDisagrees index rows members z) → FirstDisagrees index rows members result
  told-rowid columns entry result same fits is tells =
      let own : IsRowidIn (order_of index) entry result = subst⁻¹ (λ (cs : List (Collation × Bool)). IsRowidIn cs entry result) same is in
      subst⁻¹ (FirstDisagrees index rows members) (own fits.1.0 fits.1.1) (tells fits.1.0 fits.1.1)

  module _ (agree : Agree index entries expected) where
    ended : (rest : List (List Value)) → agree.rest ≡ rest → Agreed index rows members entries expected zip pairs proj entries [] rest
    ended rest is = record {
      entries_are = sym (append-nil entries);
      expected_are = agree.whole ∙ ap (λ (more : List (List Value)). entries ++ more) is;
      apart = agree.apart;
    }

    -- a row is left
    ends-row : (columns : List (Collation × Bool)) (p : List Value) (result : ℤ) → order_of index ≡ columns → slice_get expected (length entries) ≡ Some p → IsRowidIn columns p result → FirstDisagrees index rows members result
    ends-row columns p result same get is =
        let next = next-some entries agree.rest p (subst (λ (list : List (List Value)). slice_get list (length entries) ≡ Some p) agree.whole get) in
        let left = ended (p ∷ next.0) next.1 in
        let stands = subst⁻¹ (λ (list : List (List Value)). Has p list) left.expected_are (has-right entries (p ∷ next.0) p (inl refl)) in
        told-rowid columns p result same (row-fits index rows members entries expected zip pairs proj p stands) is
        (λ z last. row-alone index rows members entries expected zip pairs proj entries p next.0 z left last)

    -- nothing is left
    ends-none : slice_get expected (length entries) ≡ None → IsIndexOf index rows members
    ends-none get =
        let none = next-none entries agree.rest (subst (λ (list : List (List Value)). slice_get list (length entries) ≡ None) agree.whole get) in
        all-agree index rows members entries expected zip pairs proj entries (ended [] none)

pub none-there : (told : Option ℤ) → is_some told ≡ false → told ≡ None
none-there None e = refl
none-there (Some rowid) e = absurd (let no : ⊥ = cc in no)

-- A comparison once all entries were found.
module _ (tree : CheckedTree) (index : Index) (rows : List TableRow) (members : List Member) (entries : List (List Value)) (same : order_of index ≡ tree.columns) (unique : index.unique ≡ tree.unique)
    (are : AreMembersOf index members entries) (proj : IsProjection index rows tree.expected.now) (compared : Comparison) (is : IsComparison tree entries compared) where
  tells-by : (told : Option ℤ) → compared.told ≡ told → TellsBy index rows members entries tree.expected.now compared.agreed told
  tells-by told is_told =
      subst (TellsBy index rows members entries tree.expected.now compared.agreed) is_told
      (is.tells index rows members [] same unique (subst⁻¹ (AreMembersOf index members) (append-nil entries) are) proj)

  pub tells-told : (told : Option ℤ) → compared.told ≡ told → is_some told ≡ true → Tells index rows members told
  tells-told None is_told some = absurd (let no : ⊥ = cc in no)
  tells-told (Some rowid) is_told some = tells-by (Some rowid) is_told

  pub tells-row : compared.told ≡ None → (p : List Value) (result : ℤ) → slice_get tree.expected.now compared.agreed ≡ Some p → IsRowidIn tree.columns p result → Tells index rows members (Some result)
  tells-row none p result get rowid =
      let by = tells-by None none in
      ends-row index rows members entries tree.expected.now are.0 are.1 proj by.1 tree.columns p result same (subst (λ (n : ℕ). slice_get tree.expected.now n ≡ Some p) by.0 get) rowid

  pub tells-none : compared.told ≡ None → slice_get tree.expected.now compared.agreed ≡ None → Tells index rows members None
  tells-none none get =
      let by = tells-by None none in
      ends-none index rows members entries tree.expected.now are.0 are.1 proj by.1 (subst (λ (n : ℕ). slice_get tree.expected.now n ≡ None) by.0 get)

-- One entry more of an index, where all before agree.
module _ (tree : CheckedTree) (gone : List (List Value)) (was : Comparison) (is : IsComparison tree gone was) (none : was.told ≡ None) (e : List Value) where
  abbrev TellsNext : Option ℤ → Type 0
  TellsNext told = TellsOfFirst tree (gone ++ e ∷ []) (was.agreed + 1) told

  module _ (index : Index) (rows : List TableRow) (members : List Member) (later : List (List Value)) (same : order_of index ≡ tree.columns) (unique : index.unique ≡ tree.unique)
      (are : AreMembersOf index members ((gone ++ e ∷ []) ++ later)) (proj : IsProjection index rows tree.expected.now) where
    abbrev all_entries : List (List Value)
    all_entries = gone ++ (e ∷ later)

    abbrev all_expected : List (List Value)
    all_expected = tree.expected.now

    are_own : AreMembersOf index members all_entries
    are_own = subst (AreMembersOf index members) (append_assoc gone (e ∷ []) later) are

    begun : (was.agreed ≡ length gone) × Agree index gone all_expected
    begun = subst (TellsBy index rows members gone all_expected was.agreed) none (is.tells index rows members (e ∷ later) same unique are_own proj)

    abbrev Beside : List (List Value) → Type 0
    Beside ps = Agreed index rows members all_entries all_expected are_own.0 are_own.1 proj gone (e ∷ later) ps

    both : (ps : List (List Value)) → begun.1.rest ≡ ps → Beside ps
    both ps left = record { entries_are = refl; expected_are = begun.1.whole ∙ ap (λ (more : List (List Value)). gone ++ more) left; apart = begun.1.apart }

    at-next : (found : Option (List Value)) → slice_get all_expected was.agreed ≡ found → slice_get (gone ++ begun.1.rest) (length gone) ≡ found
    at-next found get = subst (λ (n : ℕ). slice_get (gone ++ begun.1.rest) n ≡ found) begun.0 (subst (λ (list : List (List Value)). slice_get list was.agreed ≡ found) begun.1.whole get)

    fits-own : HasRowid index e
    fits-own = entry-fits index rows members all_entries all_expected are_own.0 are_own.1 proj e (has-right gone (e ∷ later) e (inl refl))

    told-own : (result : ℤ) → IsRowidIn tree.columns e result → ((z : ℤ) → last_value (order_of index) e ≡ Int z → FirstDisagrees index rows members z) → FirstDisagrees index rows members result
    told-own result rowid tells = told-rowid index rows members all_entries all_expected are_own.0 are_own.1 proj tree.columns e result same fits-own rowid tells

    own-entry : (result : ℤ) → slice_get all_expected was.agreed ≡ None → IsRowidIn tree.columns e result → FirstDisagrees index rows members result
    own-entry result get rowid =
        let left = both [] (next-none gone begun.1.rest (at-next None get)) in
        told-own result rowid (λ z last. entry-alone index rows members all_entries all_expected are_own.0 are_own.1 proj gone e later z left last)

    module _ (p : List Value) (get : slice_get all_expected was.agreed ≡ Some p) where
      row_next : (more : List (List Value)) × (begun.1.rest ≡ p ∷ more)
      row_next = next-some gone begun.1.rest p (at-next (Some p) get)

      abbrev more : List (List Value)
      more = row_next.0

      pair : Beside (p ∷ more)
      pair = both (p ∷ more) row_next.1

      own-first : (result : ℤ) → e ≢ p → FirstOf tree.columns e p result → FirstDisagrees index rows members result
      own-first result unlike first = by (entry_cmp (order_of index) p e) refl
        where
          of : FirstOf (order_of index) e p result
          of = subst⁻¹ (λ (cs : List (Collation × Bool)). FirstOf cs e p result) same first

          entry : ¬ (entry_cmp (order_of index) p e ≡ Less) → FirstDisagrees index rows members result
          entry not_before =
              told-rowid index rows members all_entries all_expected are_own.0 are_own.1 proj (order_of index) e result refl fits-own (of.1 not_before)
              (λ z last. entry-first index rows members all_entries all_expected are_own.0 are_own.1 proj gone e p later more pair z unlike not_before last)

          stands : Has p all_expected
          stands = subst⁻¹ (λ (list : List (List Value)). Has p list) pair.expected_are (has-right gone (p ∷ more) p (inl refl))

          by : (o : Ordering) → entry_cmp (order_of index) p e ≡ o → FirstDisagrees index rows members result
          by Less before =
              told-rowid index rows members all_entries all_expected are_own.0 are_own.1 proj (order_of index) p result refl (row-fits index rows members all_entries all_expected are_own.0 are_own.1 proj p stands) (of.0 before)
              (λ z last. row-first index rows members all_entries all_expected are_own.0 are_own.1 proj gone e p later more pair z before last)
          by Equal equal = entry (λ less. let clash : Less ≡ Equal = sym less ∙ equal in let no : ⊥ = cc in no)
          by Greater greater = entry (λ less. let clash : Less ≡ Greater = sym less ∙ greater in let no : ⊥ = cc in no)

      own-clash : (result : ℤ) → e ≡ p → IsTrue tree.unique → (last : Option (List Value)) → IsLast last gone → ClashesWith tree.columns last e → IsRowidIn tree.columns e result → FirstDisagrees index rows members result
      own-clash result agrees only None at clash rowid = absurd clash
      own-clash result agrees only (Some last) at clash rowid =
          told-own result rowid
          (λ z rowid_is. clash-first index rows members all_entries all_expected are_own.0 are_own.1 proj gone e p later more pair agrees z last (unique ∙ only)
          (subst⁻¹ (λ (list : List (List Value)). Has last list) at.1 (has-right at.0 (last ∷ []) last (inl refl))) (clash-of index tree.columns last e same clash) rowid_is)

      apart-none : (last : Option (List Value)) → IsLast last gone → (IsTrue tree.unique → ¬ ClashesWith tree.columns last e) → IsTrue index.unique → (x : List Value) → Has x gone → ¬ Clash index x e
      apart-none None at apart only x has = absurd (subst (λ (list : List (List Value)). Has x list) at has)
      apart-none (Some last) at apart only x has =
          last-apart index rows members all_entries all_expected are_own.0 are_own.1 proj gone at.0 last e p later more at.1 pair (λ clash. apart (sym unique ∙ only) (of-clash index tree.columns last e same clash)) x has

      own-more : e ≡ p → (IsTrue tree.unique → ¬ ClashesWith tree.columns was.last e) → (was.agreed + 1 ≡ length (gone ++ e ∷ [])) × Agree index (gone ++ e ∷ []) all_expected
      own-more agrees apart =
          let on = agreed-more index rows members all_entries all_expected are_own.0 are_own.1 proj gone e p later more pair agrees (apart-none was.last is.last apart) in
          (omega (arith, begun.0, length-append gone (e ∷ [])), record { rest = more; whole = on.expected_are; apart = on.apart })

  -- no row is left
  pub next-entry : (result : ℤ) → slice_get tree.expected.now was.agreed ≡ None → IsRowidIn tree.columns e result → TellsNext (Some result)
  next-entry result get rowid = λ index rows members later same unique are proj. own-entry index rows members later same unique are proj result get rowid

  -- the entry and the row differ
  pub next-first : (p : List Value) (result : ℤ) → slice_get tree.expected.now was.agreed ≡ Some p → e ≢ p → FirstOf tree.columns e p result → TellsNext (Some result)
  next-first p result get unlike first = λ index rows members later same unique are proj. own-first index rows members later same unique are proj p get result unlike first

  -- two entries of a unique index clash
  pub next-clash : (p : List Value) (result : ℤ) → slice_get tree.expected.now was.agreed ≡ Some p → e ≡ p → IsTrue tree.unique → ClashesWith tree.columns was.last e → IsRowidIn tree.columns e result → TellsNext (Some result)
  next-clash p result get agrees only clash rowid = λ index rows members later same unique are proj. own-clash index rows members later same unique are proj p get result agrees only was.last is.last clash rowid

  -- one entry more agrees
  pub next-agrees : (p : List Value) → slice_get tree.expected.now was.agreed ≡ Some p → e ≡ p → (IsTrue tree.unique → ¬ ClashesWith tree.columns was.last e) → TellsNext None
  next-agrees p get agrees apart = λ index rows members later same unique are proj. own-more index rows members later same unique are proj p get agrees apart

-- one disagrees already
pub next-told : (tree : CheckedTree) (gone : List (List Value)) (was : Comparison) (e : List Value) → IsComparison tree gone was → is_some was.told ≡ true → TellsOfFirst tree (gone ++ e ∷ []) was.agreed was.told
next-told tree gone was e is some = by was.told refl some
  where
    by : (told : Option ℤ) → was.told ≡ told → is_some told ≡ true → TellsOfFirst tree (gone ++ e ∷ []) was.agreed told
    by None told_is there = absurd (let no : ⊥ = cc in no)
    by (Some rowid) told_is there = λ index rows members later same unique are proj.
        subst (TellsBy index rows members gone tree.expected.now was.agreed) told_is
        (is.tells index rows members (e ∷ later) same unique (subst (AreMembersOf index members) (append_assoc gone (e ∷ []) later) are) proj)

-- nothing was found
pub compared-none : (tree : CheckedTree) (compared : Comparison) → compared.last ≡ None → compared.agreed ≡ 0 → compared.told ≡ None → IsComparison tree [] compared
compared-none tree compared no_last zero_agreed none = record {
  last = subst⁻¹ (λ (last : Option (List Value)). IsLast last []) no_last refl;
  tells = λ index rows members later same unique are proj.
      subst⁻¹ (TellsBy index rows members [] tree.expected.now compared.agreed) none (zero_agreed, record { rest = tree.expected.now; whole = refl; apart = λ only. tt });
}
