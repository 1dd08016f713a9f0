-- What is read of a table for an index, row by row, and that its entries, sorted, are a projection.
use Rattle.std.proofs.Common.{◌≡◌, ◌≢◌, ℕ, ◌≤◌, ◌<◌, ◌-◌, take, drop, get_or, Bool, true, false, List, [], ◌∷◌, ◌++◌, length, map, Option, Some, None, Result, Ok, Err, refl, sym, ap, ap₂, ◌∙◌, subst, append_assoc, arith}
use Rattle.std.proofs.Math.Path.{subst⁻¹}
use Rattle.std.proofs.lemmas.Fn.{always_returns_same}
use Rattle.std.proofs.lemmas.List.{append-nil, take_rest}
use Rattle.std.proofs.lemmas.List.MinMax.{ranks_by}
use Rattle.std.proofs.lemmas.List.Sorted.{All-permutation, sorted_far}
use Rattle.std.proofs.lemmas.Map.Keys.{IsDistinct-IsPermutation}
use Rattle.std.specs.Global.{Global}
use Rattle.std.specs.Prelude.{IfNone, IfSome, Vec, slice_index_or}
use Rattle.std.specs.Cmp.{IsTotalOrder, IsStrictWeakOrder, on_total, then_total}
use Rattle.std.specs.Fn.{Called, ComparesAs}
use Rattle.std.specs.List.{AllByRecursion, AllZip, IsDistinct}
use Rattle.std.specs.List.Sorted.{IsPermutation, IsSortedBy}
use Rattle.std.specs.Ordering.{is_eq, is_lt, ordering_reverse, ordering_then}
use Rattle.std.specs.declared.cmp.Ordering.{Ordering}
use Rattle.std.specs.declared.cmp.Ordering.TheVariants.{Less, Equal, Greater}
use denote.Param.Members.{Mut}
use denote.Ref.{Bor}
use Rattle.rbu_value.specs.declared.order.Collation.{Collation}
use Rattle.rbu_value.specs.declared.order.Collation.TheVariants.{Binary}
use Rattle.rbu_value.specs.declared.value.Value.{Value}
use Rattle.rbu_value.specs.declared.value.Value.TheVariants.{Int}
use Rattle.rbu_value.specs.Order.{value_cmp}
use Rattle.rbu_value.specs.OrderLaws.{value_cmp-total, value_cmp-same}
use Rattle.format_spec.specs.Record.{IsRecord}
use Rattle.schema_spec.specs.declared.schema.Table.{Table}
use Rattle.schema_spec.specs.declared.schema.Index.{Index}
use Rattle.tree_spec.specs.declared.TreeKind.TheVariants.{Table as TableTree}
use Rattle.tree_spec.specs.declared.fault.TreeFault.{TreeFault}
use Rattle.tree_spec.specs.declared.fault.TreeFault.TheVariants.{TreeDamaged, TrunkDamaged, TargetFull, Store, Memory}
use Rattle.tree_spec.specs.Faults.{IsDamageOrOther}
use Rattle.tree_spec.specs.Standing.{Sizes, Paged}
use Rattle.tree_spec.specs.Trees.{Member}
use Rattle.tree_walk.specs.declared.cursor.Row.{Row}
use Rattle.tree_rows.specs.Rows.{member_of, members_of}
use Rattle.database_spec.specs.ListsLaws.{PairsByRecursion, all-from, pairs-from}
use Rattle.database_spec.specs.Rows.{TableRow, IsRow, with_rowid}
use Rattle.database_spec.specs.CatalogsLaws.{list-not_stop, list-one}
use Rattle.database_spec.specs.RowsLaws.{record-one}
use Rattle.database_spec.specs.Walks.{IsList, StopsAt}
use Rattle.database_spec.specs.Keys.{entry_of, last_value, order_of}
use Rattle.prepared_laws.specs.ChangesMadeLaws.{entry-long, last-is}
use Rattle.prepared_laws.specs.PaddedKeysLaws.{padded_cmp, padded-same, padded-total}
use Rattle.prepared_laws.specs.TablesMadeLaws.{Apart}
use Rattle.database_laws.specs.SoundFilesLaws.{pairs-to}
use Rattle.db_check.specs.declared.fault.CheckFault.{CheckFault}
use Rattle.db_check.specs.Projections.{HasEntry, HaveEntries, IsProjectionOf, Projects, TellsUnread, by_entry, entry_over, row_with}

-- Lists in loops.

-- a list is its first item and what is left
pub uncons : {A : Type 0} (left : List A) (x : A) → 1 ≤ length left → x ≡ get_or left 0 x → left ≡ x ∷ take (length left - 1) (drop 1 left)
uncons [] x h e = absurd (omega (arith, h))
uncons (y ∷ left) x h e = ap (λ z. z ∷ left) (sym e) ∙ ap (λ z. x ∷ z) (sym (take_rest (y ∷ left) 1))

pub none-left : {A : Type 0} (left : List A) → length left < 1 → left ≡ []
none-left [] h = refl
none-left (x ∷ left) h = absurd (omega (arith, h))

-- Rows.

module _ (table : Table) (row : Row) where
  -- a record with a value for each column is a row
  pub row-read : (stored values : List Value) → IsRecord row.payload stored → length stored ≡ length table.columns → values ≡ with_rowid table.rowid_column row.rowid stored → IsRow table (member_of row) (row_with row values)
  row-read stored values is many e = record { stored = stored; is_record = is; many = many; rowid = refl; values = e; payload = refl }

  pub row-none : ((values : List Value) → ¬ IsRecord row.payload values) → (other : TableRow) → ¬ IsRow table (member_of row) other
  row-none none other is = none is.stored is.is_record

  pub row-unlike : (stored : List Value) → IsRecord row.payload stored → length stored ≢ length table.columns → (other : TableRow) → ¬ IsRow table (member_of row) other
  row-unlike stored is unlike other own = unlike (ap length (record-one row.payload stored own.stored is own.is_record) ∙ own.many)

module _ (table : Table) (index : Index) where
  pub entry-has : (row : Row) (values entry : List Value) → IsRow table (member_of row) (row_with row values) → entry ≡ entry_over index.columns values row.rowid → HasEntry table index (member_of row) entry
  entry-has row values entry is e = (row_with row values, is, sym e)

  -- the entries of the first members of a list, and what is left of it
  pub record KeepsEntries (whole left : List Member) (entries : List (List Value)) : Type 0 where
    pub made : (more : List (List Value)) → HaveEntries table index left more → HaveEntries table index whole (entries ++ more)
    pub rest : (others : List TableRow) → AllZip (IsRow table) whole others → (rows : List TableRow) × AllZip (IsRow table) left rows

  pub keeps-start : (whole : List Member) (entries : List (List Value)) → entries ≡ [] → KeepsEntries whole whole entries
  keeps-start whole entries e = record {
    made = λ more have. subst⁻¹ (λ (es : List (List Value)). HaveEntries table index whole (es ++ more)) e have;
    rest = λ others zip. (others, zip);
  }

  behind : (member : Member) (left : List Member) → (rows : List TableRow) × AllZip (IsRow table) (member ∷ left) rows → (row : TableRow) × IsRow table member row × ((rows : List TableRow) × AllZip (IsRow table) left rows)
  behind member left ([], zip) = absurd zip
  behind member left (row ∷ rows, zip) = (row, zip.0, (rows, zip.1))

  pub keeps-next : (whole : List Member) (left : List Row) (row : Row) (rest : List Row) (entries now : List (List Value)) (entry : List Value) → left ≡ row ∷ rest → KeepsEntries whole (members_of left) entries
      → HasEntry table index (member_of row) entry → now ≡ entries ++ entry ∷ [] → KeepsEntries whole (members_of rest) now
  keeps-next whole left row rest entries now entry split before has e =
      let keeps = subst (λ (l : List Row). KeepsEntries whole (members_of l) entries) split before in record {
        made = λ more have.
            subst⁻¹ (λ (es : List (List Value)). HaveEntries table index whole (es ++ more)) e
            (subst⁻¹ (HaveEntries table index whole) (append_assoc entries (entry ∷ []) more) (keeps.made (entry ∷ more) (has.0 ∷ have.0, (has.1, have.1), ap₂ (λ (x : List Value) (xs : List (List Value)). x ∷ xs) has.2 have.2)));
        rest = λ others zip. (behind (member_of row) (members_of rest) (keeps.rest others zip)).2;
      }

  pub keeps-none : (whole : List Member) (left : List Row) (row : Row) (rest : List Row) (entries : List (List Value)) → left ≡ row ∷ rest → KeepsEntries whole (members_of left) entries
      → ((other : TableRow) → ¬ IsRow table (member_of row) other) → (others : List TableRow) → ¬ AllZip (IsRow table) whole others
  keeps-none whole left row rest entries split before none others zip =
      let keeps = subst (λ (l : List Row). KeepsEntries whole (members_of l) entries) split before in
      let found = behind (member_of row) (members_of rest) (keeps.rest others zip) in none found.0 found.1

  pub keeps-end : (whole : List Member) (left : List Row) (entries : List (List Value)) → left ≡ [] → KeepsEntries whole (members_of left) entries → HaveEntries table index whole entries
  keeps-end whole left entries none before =
      let keeps = subst (λ (l : List Row). KeepsEntries whole (members_of l) entries) none before in
      subst (HaveEntries table index whole) (append-nil entries) (keeps.made [] ([], tt, refl))

-- What a sort leaves of items of which no two are equal in its order.

not-equal : (o : Ordering) → o ≢ Equal → is_eq o ≡ false
not-equal Less unequal = refl
not-equal Equal unequal = absurd (unequal refl)
not-equal Greater unequal = refl

less-than : (o p : Ordering) → p ≡ ordering_reverse o → is_lt p ≡ false → is_eq o ≡ false → o ≡ Less
less-than Less p e not_less unequal = refl
less-than Equal p e not_less unequal = absurd (let h : ◌≡◌ {A = Bool} true false = unequal in let no : ⊥ = cc in no)
less-than Greater p e not_less unequal = absurd (let h : ◌≡◌ {A = Bool} true false = sym (ap is_lt e) ∙ not_less in let no : ⊥ = cc in no)

reversed-eq : (o : Ordering) → is_eq (ordering_reverse o) ≡ is_eq o
reversed-eq Less = refl
reversed-eq Equal = refl
reversed-eq Greater = refl

module _ {A : Type 0} (R : A → A → Ordering) (total : IsTotalOrder R) where
  same : A → A → Bool
  same a b = is_eq (R a b)

  same-flips : (a b : A) → same a b ≡ same b a
  unfolding same
  same-flips a b = ap is_eq (total.antisymm a b) ∙ reversed-eq (R b a)

  differ-all : (a : A) (xs : List A) → AllByRecursion (λ b. R a b ≢ Equal) xs → AllByRecursion (λ b. same a b ≡ false) xs
  unfolding same
  differ-all a [] all = tt
  differ-all a (b ∷ xs) all = (not-equal (R a b) all.0, differ-all a xs all.1)

  differ-distinct : (xs : List A) → PairsByRecursion (λ a b. R a b ≢ Equal) xs → IsDistinct same xs
  unfolding IsDistinct
  differ-distinct [] pairs = tt
  differ-distinct (a ∷ xs) pairs = (differ-all a xs pairs.0, differ-distinct xs pairs.1)

  less-all : (a : A) (xs : List A) → AllByRecursion (λ b. is_lt (R b a) ≡ false) xs → AllByRecursion (λ b. same a b ≡ false) xs → AllByRecursion (λ b. R a b ≡ Less) xs
  unfolding same
  less-all a [] all apart = tt
  less-all a (b ∷ xs) all apart = (less-than (R a b) (R b a) (total.antisymm b a) all.0 apart.0, less-all a xs all.1 apart.1)

  distinct-rise : (xs : List A) → PairsByRecursion (λ a b. is_lt (R b a) ≡ false) xs → IsDistinct same xs → PairsByRecursion (λ a b. R a b ≡ Less) xs
  unfolding IsDistinct
  distinct-rise [] pairs distinct = tt
  distinct-rise (a ∷ xs) pairs distinct = (less-all a xs pairs.0 distinct.0, distinct-rise xs pairs.1 distinct.1)

  -- they rise
  sorted-rise : (xs ys : List A) → PairsByRecursion (λ a b. R a b ≢ Equal) xs → IsPermutation xs ys → IsSortedBy (λ a b. is_lt (R a b)) ys → PairsByRecursion (λ a b. R a b ≡ Less) ys
  sorted-rise xs ys differ permutes sorted =
      distinct-rise ys
      (pairs-to (λ (a b : A). is_lt (R b a) ≡ false) ys (λ i j d less long. sorted_far (λ (a b : A). is_lt (R a b)) (ranks_by total (λ (a : A). a)) ys sorted i j d (omega (arith, less)) long))
      (IsDistinct-IsPermutation same same-flips xs ys permutes (differ-distinct xs differ))

-- Entries.

by_entry-total : (columns : List (Collation × Bool)) → IsTotalOrder (by_entry columns)
by_entry-total columns = then_total (padded-total columns) (on_total (last_value columns) (value_cmp-total Binary))

-- what a sort by the order of entries leaves
pub sorted-from : (columns : List (Collation × Bool)) {F : Type 0} {g : Mut F (Bor (List Value) × (Bor (List Value) × Unit {0})) Ordering} {f : F} (entries : List (List Value))
    → ((lt : List Value → List Value → Bool) → IsStrictWeakOrder lt → ComparesAs g lt f → IsSortedBy lt entries)
    → ((a : Bor (List Value) × (Bor (List Value) × Unit {0})) (r : Ordering) (f' : F) → Called g f a r f' → (r ≡ by_entry columns a.0.now a.1.0.now) × (f' ≡ f))
    → IsSortedBy (λ (a b : List Value). is_lt (by_entry columns a b)) entries
sorted-from columns {g = g} {f = f} entries sorted calls =
    let lt = λ (a b : List Value). is_lt (by_entry columns a b) in
    sorted lt (ranks_by (by_entry-total columns) (λ (e : List Value). e))
    (always_returns_same g (λ a r. is_lt r ≡ lt a.0.now a.1.0.now) f (λ a r f' k. (ap is_lt (calls a r f' k).0, (calls a r f' k).1)))

then-equal : (o p : Ordering) → ordering_then o p ≡ Equal → p ≡ Equal
then-equal Less p e = let h : ⊥ = cc in absurd h
then-equal Equal p e = e
then-equal Greater p e = let h : ⊥ = cc in absurd h

module _ (index : Index) where
  abbrev order : List (Collation × Bool)
  order = order_of index

  abbrev Long : List Value → Type 0
  Long entry = length order ≤ length entry

  rows-differ : (a b : TableRow) → a.rowid ≢ b.rowid → by_entry order (entry_of index a) (entry_of index b) ≢ Equal
  rows-differ a b unlike e =
      let last = λ (row : TableRow). last_value order (entry_of index row) in
      let same : last a ≡ last b = value_cmp-same (last a) (last b) (then-equal (padded_cmp order (entry_of index a) (entry_of index b)) (value_cmp Binary (last a) (last b)) e) in
      let both : Int a.rowid ≡ Int b.rowid = sym (last-is index a) ∙ same ∙ last-is index b in
      let one : a.rowid ≡ b.rowid = cc in unlike one

  row-differs : (a : TableRow) (rows : List TableRow) → AllByRecursion (λ (b : TableRow). a.rowid ≢ b.rowid) rows → AllByRecursion (λ (e : List Value). by_entry order (entry_of index a) e ≢ Equal) (map (entry_of index) rows)
  row-differs a [] all = tt
  row-differs a (b ∷ rows) all = (rows-differ a b all.0, row-differs a rows all.1)

  entries-differ : (rows : List TableRow) → Apart rows → PairsByRecursion (λ (a b : List Value). by_entry order a b ≢ Equal) (map (entry_of index) rows)
  entries-differ [] apart = tt
  entries-differ (row ∷ rows) apart = (row-differs row rows apart.0, entries-differ rows apart.1)

  rows-long : (rows : List TableRow) → AllByRecursion Long (map (entry_of index) rows)
  rows-long [] = tt
  rows-long (row ∷ rows) = (entry-long index row, rows-long rows)

  -- the entries of rows, sorted, are their projection
  pub sorted-projection : (table : Table) (members : List Member) (entries sorted : List (List Value)) → HaveEntries table index members entries → IsPermutation entries sorted
      → IsSortedBy (λ (a b : List Value). is_lt (by_entry order a b)) sorted → IsProjectionOf table index members sorted
  sorted-projection table members entries sorted (rows, are, e) permutes rise = (
    rows,
    are,
    λ apart.
        let own = map (entry_of index) rows in
        let all : IsPermutation own sorted = subst⁻¹ (λ (es : List (List Value)). IsPermutation es sorted) e permutes in
        let less = pairs-from (λ (a b : List Value). by_entry order a b ≡ Less) sorted (sorted-rise (by_entry order) (by_entry-total order) own sorted (entries-differ rows apart) all rise) in
        let long = All-permutation Long own sorted all (all-from Long own (rows-long rows)) in record {
          all = all;
          sorted = λ i j d low high.
              let a = slice_index_or sorted i d in
              let b = slice_index_or sorted j d in
              ap (λ (o : Ordering). ordering_then o (value_cmp Binary (last_value order a) (last_value order b))) (padded-same order a b (long i d (omega (arith, low, high))) (long j d high)) ∙ less i j d low high;
        },
  )

-- Tables.

module _ (sizes : Sizes) (base : Paged) (root : ℕ) (table : Table) (index : Index) where
  -- a tree that is not read to its end is of no plain table
  pub unread-projects : (F : Type 0) (fault : TreeFault F) (result : Result (Option (Vec (List Value) Global)) (CheckFault F)) → IsDamageOrOther (λ page rule. StopsAt sizes base TableTree root (page, rule)) fault → TellsUnread fault result
      → Projects sizes base root table index result
  unread-projects F fault (Ok (Some entries)) stop tells = absurd tells
  unread-projects F (TreeDamaged page rule) (Ok None) stop tells = λ entry root_is meaning other rows plain.
      list-not_stop sizes base TableTree entry.root plain.members (page, rule) plain.is_list (subst⁻¹ (λ (r : ℕ). StopsAt sizes base TableTree r (page, rule)) root_is stop)
  unread-projects F (TrunkDamaged page) (Ok None) stop tells = absurd stop
  unread-projects F (TargetFull pages limit) (Ok None) stop tells = absurd stop
  unread-projects F (Store fault) (Ok None) stop tells = absurd (tells.1 tt)
  unread-projects F (Memory error) (Ok None) stop tells = absurd (tells.1 tt)
  unread-projects F fault (Err other) stop tells = tells.1

  -- the rows that were read are those of a plain table, or it is not plain
  pub rows-project : (F : Type 0) (members : List Member) (found : Option (Vec (List Value) Global)) → IsList sizes base TableTree root members → IfSome found (λ entries. IsProjectionOf table index members entries.items)
      → IfNone found ((others : List TableRow) → ¬ AllZip (IsRow table) members others) → Projects {F = F} sizes base root table index (Ok found)
  rows-project F members (Some entries) list are none = λ entry root_is meaning. (
    are.0,
    record { meaning = meaning; members = members; is_list = subst⁻¹ (λ (r : ℕ). IsList sizes base TableTree r members) root_is list; rows_are = are.1 },
    are.2,
  )
  rows-project F members None list are none = λ entry root_is meaning other rows plain.
      let both : Ok other ≡ Ok table = sym plain.meaning ∙ meaning in
      let one : other ≡ table = cc in
      let own = subst (λ (r : ℕ). IsList sizes base TableTree r plain.members) root_is plain.is_list in
      let same = list-one sizes base TableTree root plain.members members own list in
      none rows (subst (λ (t : Table). AllZip (IsRow t) members rows) one (subst (λ (m : List Member). AllZip (IsRow other) m rows) same plain.rows_are))
