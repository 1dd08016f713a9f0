-- A database midway at the first step is the old one, and an update without groups changes only the counters: crates above cite these facts in their proofs.
use Rattle.std.proofs.Common.{◌≡◌, ℕ, ℤ, ◌+◌, ◌-◌, ◌<◌, ◌<ℤ◌, ◌==◌, Bool, true, false, List, [], ◌∷◌, ◌++◌, length, map, if◌then◌else◌, refl, sym, ap, ap₂, ◌∙◌, subst, arith, eqb-true, eq-eqb}
use Rattle.std.proofs.Math.Path.{subst⁻¹}
use Rattle.std.specs.Prelude.{AllPairs, IsPermutation, filter, filter_map, flat_map}
use Rattle.std.specs.List.{AllZip, AllByRecursion}
use Rattle.std.proofs.lemmas.Int.{ints}
use Rattle.std.proofs.lemmas.List.{append-nil}
use Rattle.std.proofs.lemmas.List.Sorted.{IsPermutation-refl}
use Rattle.rbu_rows.specs.declared.prepared.Prepared.{Prepared}
use Rattle.rbu_rows.specs.declared.prepared.Batch.{Batch}
use Rattle.schema_spec.specs.declared.schema.Table.{Table}
use Rattle.schema_spec.specs.declared.schema.Index.{Index}
use Rattle.tree_spec.specs.Trees.{Member}
use Rattle.tree_spec.specs.WorldsLaws.{all-join}
use Rattle.database_spec.specs.declared.catalog.Catalog.{Catalog}
use Rattle.database_spec.specs.Rows.{TableRow}
use Rattle.database_spec.specs.Keys.{IsBefore}
use Rattle.database_spec.specs.KeysLaws.{before-apart}
use Rattle.database_spec.specs.ListsLaws.{order-one}
use Rattle.database_spec.specs.Databases.{Database, list_at}
use Rattle.prepared_spec.specs.Tables.{row_after, count_new, greatest_of, IsAfterBatch, IsAfterBatches}
use Rattle.prepared_spec.specs.Plans.{IndexPlan, TablePlan, row_steps, plan_steps, firsts}
use Rattle.prepared_spec.specs.Outcomes.{format_in, next_header, row_member, Entered, AreEntered, IsIndexAfter, TreesAfter, IsIndexList, beside, IsMidway, AreMidway, trees_by_root, replaced, with_trees, IsMid, IsNewTrees, IsNew}

-- a database without one that is written is the old one
replaced-none : (lists : List (ℕ × List Member)) → map (replaced []) lists ≡ lists
replaced-none [] = refl
replaced-none (list ∷ lists) = ap (λ (ls : List (ℕ × List Member)). list ∷ ls) (replaced-none lists)

-- An update without groups changes only the counters.
pub new-none : (catalog : Catalog) (old new : Database) → IsNew catalog old [] new → (new.header ≡ next_header old.header) × (new.lists ≡ old.lists)
new-none catalog old new is = (is.header, by_trees is.trees is.are_trees is.lists)
  where
    by_trees : (trees : List TreesAfter) → AllZip (IsNewTrees (format_in old) old.lists) [] trees → new.lists ≡ with_trees old.lists [] trees → new.lists ≡ old.lists
    by_trees [] are e = e ∙ replaced-none old.lists
    by_trees (t ∷ trees) are e = absurd are

filter_map-some : (before : List TableRow) (format : ℕ) (table : Table) → filter_map (row_after format table []) before ≡ before
filter_map-some [] format table = refl
filter_map-some (row ∷ before) format table = ap (λ (rs : List TableRow). row ∷ rs) (filter_map-some before format table)

filter-all : {A : Type 0} (list : List A) → filter (λ x. true) list ≡ list
filter-all [] = refl
filter-all (x ∷ list) = ap (λ xs. x ∷ xs) (filter-all list)

rise-apart : (x y : TableRow) → x.rowid <ℤ y.rowid → y.rowid <ℤ x.rowid → ⊥
rise-apart x y less more = omega (arith, ints, less, more)

-- a batch without rows leaves the table
after_batch-none : (format : ℕ) (table : Table) (g : ℤ) (taken : ℕ) (before after : List TableRow) → AllPairs (λ (a b : TableRow). a.rowid <ℤ b.rowid) before
    → IsAfterBatch format table g taken before [] after → after ≡ before
after_batch-none format table g taken before after rise is =
    let all = filter_map (row_after format table []) before ++ [] in
    let same : all ≡ before = append-nil (filter_map (row_after format table []) before) ∙ filter_map-some before format table in
    order-one (λ (x y : TableRow). x.rowid <ℤ y.rowid) rise-apart before after before (subst (λ (l : List TableRow). IsPermutation l after) same is.all, is.rise) (IsPermutation-refl before, rise)

-- and so do the first none of all rows of a group
pub after-none : (format : ℕ) (table : Table) (g : ℤ) (batches : List (List Prepared)) (taken : ℕ) (before after : List TableRow) → AllPairs (λ (a b : TableRow). a.rowid <ℤ b.rowid) before
    → IsAfterBatches format table g taken before (firsts 0 batches) after → after ≡ before
after-none format table g [] taken before after rise is = is
after-none format table g (rows ∷ batches) taken before after rise (between, first, rest) =
    let same = after_batch-none format table g taken before between rise first in
    let none : 0 - length rows ≡ 0 = omega arith in
    let more = taken + count_new table before [] in
    let there = subst (λ (n : ℕ). IsAfterBatches format table g more between (firsts n batches) after) none rest in
    after-none format table g batches more before after rise (subst (λ (b : List TableRow). IsAfterBatches format table g more b (firsts 0 batches) after) same there)

members-entered : (members : List Member) (entered : List Entered) → AreEntered members entered → map (λ (one : Entered). one.member) entered ≡ members
members-entered [] [] are = refl
members-entered [] (one ∷ entered) are = absurd are
members-entered (m ∷ members) [] are = absurd are
members-entered (m ∷ members) (one ∷ entered) are = ap₂ (λ (x : Member) (xs : List Member). x ∷ xs) are.0.1 (members-entered members entered are.1)

-- an index without changes is the old one, where its entries were in order
pub index-none : (format : ℕ) (index : Index) (old new : List Member) (is : IsIndexAfter format index [] old new) → AllPairs (λ (a b : Entered). IsBefore index a.entry b.entry) is.before → new ≡ old
index-none format index old new is sorted =
    let all : filter (λ (one : Entered). true) is.before ++ [] ≡ is.before = append-nil (filter (λ (one : Entered). true) is.before) ∙ filter-all is.before in
    let same : is.after ≡ is.before =
    order-one (λ (x y : Entered). IsBefore index x.entry y.entry) (λ x y. before-apart index x.entry y.entry) is.before is.after is.before
    (subst (λ (l : List Entered). IsPermutation l is.after) all is.all, is.sorted) (IsPermutation-refl is.before, sorted) in
    is.members_are ∙ ap (map (λ (one : Entered). one.member)) same ∙ members-entered old is.before is.are_before

-- a plan whose table and indexes are in order
pub record IsSettled (lists : List (ℕ × List Member)) (plan : TablePlan) : Type 0 where
  pub rise : AllPairs (λ (a b : TableRow). a.rowid <ℤ b.rowid) plan.old
  pub rows : list_at lists plan.root ≡ map row_member plan.old
  pub sorted : AllByRecursion (λ index. (entered : List Entered) → AreEntered (list_at lists index.root) entered → AllPairs (λ (a b : Entered). IsBefore index.index a.entry b.entry) entered) plan.indexes

abbrev IsList : List (ℕ × List Member) → ℕ × List Member → Type 0
IsList lists written = written.1 ≡ list_at lists written.0

module _ (format : ℕ) (lists : List (ℕ × List Member)) where
  indexes-none : (indexes : List IndexPlan) (members : List (List Member))
      → AllByRecursion (λ index. (entered : List Entered) → AreEntered (list_at lists index.root) entered → AllPairs (λ (a b : Entered). IsBefore index.index a.entry b.entry) entered) indexes
      → AllZip (IsIndexList format lists) (beside indexes (firsts 0 (map (λ (index : IndexPlan). index.changes) indexes))) members
      → AllByRecursion (IsList lists) (beside (map (λ (index : IndexPlan). index.root) indexes) members)
  indexes-none [] members sorted are = tt
  indexes-none (index ∷ indexes) [] sorted are = tt
  indexes-none (index ∷ indexes) (m ∷ members) sorted are =
      let none : 0 - length index.changes ≡ 0 = omega arith in
      let rest = subst (λ (n : ℕ). AllZip (IsIndexList format lists) (beside indexes (firsts n (map (λ (i : IndexPlan). i.changes) indexes))) members) none are.1 in (
        index-none format index.index (list_at lists index.root) m are.0 (sorted.0 are.0.before are.0.are_before),
        indexes-none indexes members sorted.1 rest,
      )

  trees-none : (plan : TablePlan) (trees : TreesAfter) → IsSettled lists plan → IsMidway format lists 0 plan trees → AllByRecursion (IsList lists) (trees_by_root (plan, trees))
  trees-none plan trees settled is =
      let rows = after-none format plan.table (greatest_of plan.old) plan.batches 0 plan.old is.rows settled.rise is.rows_are in
      let none : 0 - row_steps plan ≡ 0 = omega arith in
      let indexes = subst (λ (n : ℕ). AllZip (IsIndexList format lists) (beside plan.indexes (firsts n (map (λ (i : IndexPlan). i.changes) plan.indexes))) trees.indexes) none is.indexes_are in
      (is.table_is ∙ ap (map row_member) rows ∙ sym settled.rows, indexes-none plan.indexes trees.indexes settled.sorted indexes)

  midway-none : (plans : List TablePlan) (trees : List TreesAfter) → AllByRecursion (IsSettled lists) plans → AreMidway format lists 0 plans trees → AllByRecursion (IsList lists) (flat_map trees_by_root (beside plans trees))
  midway-none [] trees settled are = tt
  midway-none (plan ∷ plans) trees settled (own, later, is, rest, e) =
      let none : 0 - plan_steps plan ≡ 0 = omega arith in
      let there = subst (λ (n : ℕ). AreMidway format lists n plans later) none rest in
      subst⁻¹ (λ (t : List TreesAfter). AllByRecursion (IsList lists) (flat_map trees_by_root (beside (plan ∷ plans) t))) e
      (all-join (IsList lists) (trees_by_root (plan, own)) (flat_map trees_by_root (beside plans later)) (trees-none plan own settled.0 is) (midway-none plans later settled.1 there))

  if-same : {A : Type 0} (t : Bool) (a b c : A) → (t ≡ true → a ≡ c) → b ≡ c → (if t then a else b) ≡ c
  if-same true a b c p q = p refl
  if-same false a b c p q = q

  replaced-same : (written : List (ℕ × List Member)) (list : ℕ × List Member) → AllByRecursion (IsList lists) written → list_at lists list.0 ≡ list.1 → replaced written list ≡ list
  replaced-same [] list all own = refl
  replaced-same (w ∷ written) list all own =
      if-same (w.0 == list.0) (list.0, w.1) (replaced written list) list
      (λ e. let root = eqb-true w.0 list.0 e in let members : w.1 ≡ list.1 = all.0 ∙ ap (list_at lists) root ∙ own in λ i. (list.0, members i))
      (replaced-same written list all.1 own)

  replaced-all : (written more : List (ℕ × List Member)) → AllByRecursion (IsList lists) written → AllByRecursion (λ list. list_at lists list.0 ≡ list.1) more → map (replaced written) more ≡ more
  replaced-all written [] all own = refl
  replaced-all written (list ∷ more) all own = ap₂ (λ (x : ℕ × List Member) (xs : List (ℕ × List Member)). x ∷ xs) (replaced-same written list all own.0) (replaced-all written more all own.1)

if-not : {A : Type 0} (t : Bool) (a b c : A) → (t ≡ true → ⊥) → b ≡ c → (if t then a else b) ≡ c
if-not true a b c p q = absurd (p refl)
if-not false a b c p q = q

behind-list : (x : ℕ × List Member) (lists more : List (ℕ × List Member)) → AllByRecursion (λ list. x.0 < list.0) more → AllByRecursion (λ list. list_at lists list.0 ≡ list.1) more
    → AllByRecursion (λ list. list_at (x ∷ lists) list.0 ≡ list.1) more
behind-list x lists [] above all = tt
behind-list x lists (list ∷ more) above all = (
  if-not (x.0 == list.0) x.1 (list_at lists list.0) list.1 (λ e. omega (arith, eqb-true x.0 list.0 e, above.0)) all.0,
  behind-list x lists more above.1 all.1,
)

-- lists whose roots rise, item by item
abbrev pub RootsRise : List (ℕ × List Member) → Type 0
RootsRise [] = Unit {0}
RootsRise (list ∷ lists) = AllByRecursion (λ other. list.0 < other.0) lists × RootsRise lists

if-first : {A : Type 0} (n : ℕ) (a b : A) → (if n == n then a else b) ≡ a
if-first n a b = ap (λ t. if t then a else b) (eq-eqb n n refl)

-- each list is found by its root
lists-found : (lists : List (ℕ × List Member)) → RootsRise lists → AllByRecursion (λ list. list_at lists list.0 ≡ list.1) lists
lists-found [] rise = tt
lists-found (list ∷ lists) rise = (if-first list.0 list.1 (list_at lists list.0), behind-list list lists lists rise.0 (lists-found lists rise.1))

-- The database midway at the first step is the old one, where its roots rise and its tables and indexes are in order.
pub mid-none : (catalog : Catalog) (old mid : Database) (groups : List (List Batch)) (is : IsMid catalog old groups 0 mid) → RootsRise old.lists → AllByRecursion (IsSettled old.lists) is.plans → mid ≡ old
mid-none catalog old mid groups is rise settled =
    let format = format_in old in
    let written = flat_map trees_by_root (beside is.plans is.trees) in
    let lists : mid.lists ≡ old.lists =
    is.lists ∙ replaced-all format old.lists written old.lists (midway-none format old.lists is.plans is.trees settled is.are_trees) (lists-found old.lists rise) in
    let header : mid.header ≡ old.header = is.header in
    λ i. record { header = header i; lists = lists i }
