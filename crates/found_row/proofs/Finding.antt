-- A row that is sought is the first that is not less.
use Rattle.std.proofs.Common.{◌≡◌, ◌≢◌, ℕ, ℤ, suc, ◌<◌, ◌<ℤ◌, ◌≤ℤ◌, int_le, ◌⊎◌, Bool, T, true, false, List, [], ◌∷◌, Option, Some, None, Result, Ok, Err, cond, refl, sym, ap, ◌∙◌, subst, inl, inr, arith}
use Rattle.std.proofs.Math.Path.{subst⁻¹}
use Rattle.std.specs.Int.Signed.{le_z_yes}
use Rattle.std.specs.Prelude.{AllPairs, Contains}
use Rattle.std.specs.List.{AllByRecursion, filter}
use Rattle.std.proofs.lemmas.Int.{ints}
use Rattle.tree_spec.specs.declared.TreeKind.TheVariants.{Table}
use Rattle.tree_spec.specs.declared.fault.TreeFault.{TreeFault}
use Rattle.tree_spec.specs.Trees.{Member}
use Rattle.tree_spec.specs.Standing.{Sizes, Paged, IsTree}
use Rattle.tree_spec.specs.StandingLaws.{IsTree-rises}
use Rattle.database_spec.specs.ItemsLaws.{Has, has-from, has-to, has-filter, filter-has}
use Rattle.tree_walk.specs.declared.path.Cursor.{Cursor}
use Rattle.tree_walk.specs.declared.cursor.Row.{Row}
use Rattle.tree_walk.specs.Seeks.{not_less, StandsFrom}
use Rattle.tree_walk.specs.Walks.{IsFirstRow, ReadsRow, StandsAt}
use Rattle.found_row.specs.Finds.{FindsRow, IsRowOf, IsSameOf}

yes : (b : Bool) → T b → b ≡ true
yes true t = refl
yes false t = absurd t

le-true : (a b : ℤ) → a ≤ℤ b → int_le a b ≡ true
le-true a b le = yes (int_le a b) le.le

true-le : (a b : ℤ) → int_le a b ≡ true → a ≤ℤ b
true-le a b e = le_z_yes (subst⁻¹ T e tt)

-- a member of a rowid is the first of those that are not less
first-least : (members : List Member) → AllPairs (λ (a b : Member). a.rowid <ℤ b.rowid) members → (rowid : ℤ) (first : Member) (rest : List Member) → not_less rowid members ≡ first ∷ rest
    → (m : Member) → Has m members → m.rowid ≡ rowid → m ≡ first
first-least [] rise rowid first rest e m h same = absurd h
first-least (x ∷ members) rise rowid first rest e m (inl here) same =
    let low : int_le rowid x.rowid ≡ true = le-true rowid x.rowid (let own = ap (λ (y : Member). y.rowid) here in omega (arith, ints, own, same)) in
    let head : x ∷ not_less rowid members ≡ first ∷ rest = sym (ap (λ t. cond t (x ∷ not_less rowid members) (not_less rowid members)) low) ∙ e in
    let one : x ≡ first = cc in
    sym here ∙ one
first-least (x ∷ members) rise rowid first rest e m (inr h) same = by (int_le rowid x.rowid) refl e (λ g. first-least members tail rowid first rest g m h same)
  where
    tail : AllPairs (λ (a b : Member). a.rowid <ℤ b.rowid) members
    tail = λ i j d less long. rise (suc i) (suc j) d (omega (arith, less)) (omega (arith, long))

    by : (t : Bool) → int_le rowid x.rowid ≡ t → cond t (x ∷ not_less rowid members) (not_less rowid members) ≡ first ∷ rest → (not_less rowid members ≡ first ∷ rest → m ≡ first) → m ≡ first
    by false f g later = later g
    by true f g later =
        let c = has-to members m h in
        let below : x.rowid <ℤ m.rowid = subst (λ (y : Member). x.rowid <ℤ y.rowid) c.2 (rise 0 (suc c.0) m (omega arith) (omega (arith, c.1))) in
        let least = true-le rowid x.rowid f in
        absurd (omega (arith, ints, below, least, same))

module _ (sizes : Sizes) (base : Paged) (F : Type 0) (root : ℕ) (rowid : ℤ) where
  found-first : (members : List Member) → AllPairs (λ (a b : Member). a.rowid <ℤ b.rowid) members → (row same : Option Row) → IsFirstRow (not_less rowid members) row → IsSameOf rowid row same → IsRowOf rowid members same
  found-first members rise row same is kept = by (not_less rowid members) refl row is kept
    where
      none : not_less rowid members ≡ [] → (m : Member) → Contains members m → m.rowid ≢ rowid
      none e m c here =
          let stands = has-filter (λ (y : Member). int_le rowid y.rowid) members m (has-from members m c) (le-true rowid m.rowid (omega (arith, ints, here))) in
          subst (Has m) e stands

      by : (list : List Member) → not_less rowid members ≡ list → (row : Option Row) → IsFirstRow list row → IsSameOf rowid row same → IsRowOf rowid members same
      by [] e None is kept = subst⁻¹ (IsRowOf rowid members) kept (none e)
      by [] e (Some row) is kept = absurd is
      by (first ∷ rest) e None is kept = absurd is
      by (first ∷ rest) e (Some row) is (inl there) =
          let member : first ≡ record { rowid = row.rowid; payload = row.payload } = λ i. record { rowid = sym is.0 i; payload = sym is.1 i } in
          let stands = (filter-has (λ (y : Member). int_le rowid y.rowid) members first (subst⁻¹ (Has first) e (inl refl))).0 in
          subst⁻¹ (IsRowOf rowid members) there.1 (there.0, subst (Contains members) member (has-to members first stands))
      by (first ∷ rest) e (Some row) is (inr other) =
          subst⁻¹ (IsRowOf rowid members) other.1
          (λ m c here. other.0 (is.0 ∙ ap (λ (y : Member). y.rowid) (sym (first-least members rise rowid first rest e m (has-from members m c) here)) ∙ here))

  pub row-found : (cursor : Cursor) (row same : Option Row) → StandsFrom {F = F} sizes base root rowid (Ok cursor) → ReadsRow {F = F} sizes base cursor (Ok row) → IsSameOf rowid row same → FindsRow {F = F} sizes base root rowid (Ok same)
  row-found cursor row same stands reads kept = λ depth members numbers is.
      found-first members (IsTree-rises sizes base root depth members numbers is) row same (reads Table (not_less rowid members) (stands depth members numbers is)) kept

  pub row-refused : (cursor : Cursor) (fault : TreeFault F) → StandsFrom {F = F} sizes base root rowid (Ok cursor) → ReadsRow sizes base cursor (Err fault) → FindsRow sizes base root rowid (Err fault)
  row-refused cursor fault stands reads = λ depth members numbers is. reads Table (not_less rowid members) (stands depth members numbers is)

  pub seek-refused : (fault : TreeFault F) → StandsFrom sizes base root rowid (Err fault) → FindsRow sizes base root rowid (Err fault)
  seek-refused fault stands = λ depth members numbers is. stands depth members numbers is
