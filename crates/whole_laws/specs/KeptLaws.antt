-- What a change of one tree of a world leaves whole: crates above cite these facts in their proofs.
use Rattle.std.proofs.Common.{◌≡◌, ◌≢◌, ℕ, zero, ◌+◌, ◌≤◌, ◌==◌, Bool, true, false, if◌then◌else◌, List, [], ◌∷◌, ◌++◌, map, refl, sym, ap, ◌∙◌, subst, inl, inr, arith}
use Rattle.std.proofs.Math.Path.{subst⁻¹}
use Rattle.std.specs.Prelude.{Option, Some, None, Result, Ok, Err, IfOk, IsTrue}
use Rattle.std.specs.List.{AllByRecursion}
use Rattle.std.proofs.lemmas.List.Sorted.{Contains-permutation}
use Rattle.page_spec.specs.Freelists.{Trunk}
use Rattle.page_spec.specs.PlacesLaws.{number_at-same}
use Rattle.schema_spec.specs.declared.schema.SqlFault.{SqlFault}
use Rattle.schema_spec.specs.declared.schema.Table.{Table}
use Rattle.tree_spec.specs.Changes.{SameHeader}
use Rattle.tree_spec.specs.declared.TreeKind.{TreeKind}
use Rattle.tree_spec.specs.declared.TreeKind.TheVariants as tree
use Rattle.tree_spec.specs.Trees.{Rooted, Member, root_of, list_in, pages_in, depth_of}
use Rattle.tree_spec.specs.Standing.{Sizes, Paged}
use Rattle.tree_spec.specs.Worlds.{World, IsWorld, with_tree}
use Rattle.tree_spec.specs.WorldsLaws.{all-front, all-back, all-join, world-tree}
use Rattle.put_spec.specs.Children.{PutIn}
use Rattle.delete_spec.specs.Deletes.{TakenOut}
use Rattle.tree_table.specs.Puts.{HasPut}
use Rattle.tree_table.specs.Deletes.{HasDeleted}
use Rattle.database_spec.specs.declared.catalog.SchemaKind.{SchemaKind}
use Rattle.database_spec.specs.declared.catalog.SchemaKind.TheVariants as kind
use Rattle.database_spec.specs.declared.catalog.SchemaRow.{SchemaRow}
use Rattle.database_spec.specs.declared.catalog.NamedEntry.{NamedEntry}
use Rattle.database_spec.specs.declared.catalog.Catalog.{Catalog}
use Rattle.database_spec.specs.Walks.{IsList}
use Rattle.database_spec.specs.ItemsLaws.{Has, has-from, has-either, has-left, has-right, map-has}
use Rattle.database_spec.specs.TreeWalksLaws.{tree-list}
use Rattle.database_spec.specs.CatalogsLaws.{list-one}
use Rattle.database_spec.specs.Catalogs.{IsCatalog, IsIndexMeaning, format_of, roots_named}
use Rattle.database_spec.specs.RightRows.{IsOwnRoot, IsRightTable, IsRightIndex, IsRight, AreFaultless, rows_of, HasCatalog}
use Rattle.database_spec.specs.Databases.{list_at, is_among, table_roots, index_roots, HasItsKind, IsReadable}
use Rattle.whole_laws.specs.WholeWorlds.{rooted_list, lists_of, IsWholeWorld}

-- The rows of a schema are right over more pages, under the same header.
module _ (sizes : Sizes) (old new : Paged) (grows : old.count ≤ new.count) (header : SameHeader (old.pages 1) (new.pages 1)) where
  pub format-kept : format_of new ≡ format_of old
  format-kept =
      ap (λ (n : ℕ). if n == 0 then 1 else n)
      (number_at-same 4 (new.pages 1) 44 (old.pages 1) 44 (λ k low. header (44 + k) (omega (arith, low)) (inr (omega (arith, low)))))

  right-kept : (rows before : List SchemaRow) (row : SchemaRow) → IsRight sizes old rows before row → IsRight sizes new rows before row
  right-kept rows before row = by row.kind
    where
      own_root : (root : ℕ) → IsOwnRoot sizes old rows before root → IsOwnRoot sizes new rows before root
      own_root root is = (record { behind_first = is.0.behind_first; within = omega (arith, is.0.within, grows); not_lock_byte = is.0.not_lock_byte }, is.1)

      table : IsRightTable sizes old rows before row → IsRightTable sizes new rows before row
      table is = record {
        meaning = is.meaning;
        means = is.means;
        own_name = is.own_name;
        named = is.named;
        virtual_root = is.virtual_root;
        root = λ e. own_root row.root (is.root e);
        automatic = is.automatic;
      }

      index : IsRightIndex sizes old rows before row → IsRightIndex sizes new rows before row
      index is = record {
        table = is.table;
        stands = is.stands;
        is_real = is.is_real;
        root = own_root row.root is.root;
        meaning = is.meaning;
        means = is.means;
        index = is.index;
        index_means = subst⁻¹ (λ (format : ℕ). IsIndexMeaning format row is.meaning is.index) format-kept is.index_means;
        named = is.named;
      }

      by : (k : SchemaKind) → (elim k as (λ _. Type 0) [ kind.Table ↦ IsRightTable sizes old rows before row | kind.Index ↦ IsRightIndex sizes old rows before row | kind.View ↦ row.root ≡ 0 | kind.Trigger ↦ row.root ≡ 0 ])
          → elim k as (λ _. Type 0) [ kind.Table ↦ IsRightTable sizes new rows before row | kind.Index ↦ IsRightIndex sizes new rows before row | kind.View ↦ row.root ≡ 0 | kind.Trigger ↦ row.root ≡ 0 ]
      by kind.Table is = table is
      by kind.Index is = index is
      by kind.View is = is
      by kind.Trigger is = is

  faultless-kept : (rows before : List SchemaRow) (found : List (Option SchemaRow)) → AreFaultless sizes old rows before found → AreFaultless sizes new rows before found
  faultless-kept rows before [] are = tt
  faultless-kept rows before (None ∷ found) are = absurd are.0.0
  faultless-kept rows before (Some row ∷ found) are = ((right-kept rows before row are.0.0, are.0.1), faultless-kept rows (before ++ rows_of (Some row ∷ [])) found are.1)

  -- where the schema's tree has the same list there is the same catalog
  catalog-kept : (catalog : Catalog) → ((members : List Member) → IsList sizes old tree.Table 1 members → IsList sizes new tree.Table 1 members) → HasCatalog sizes old catalog → HasCatalog sizes new catalog
  catalog-kept catalog lists is = record {
    members = is.members;
    is_list = lists is.members is.is_list;
    found = is.found;
    are_rows = is.are_rows;
    faultless = faultless-kept (rows_of is.found) [] is.found is.faultless;
    is_catalog = subst⁻¹ (λ (format : ℕ). IsCatalog format (rows_of is.found) catalog) format-kept is.is_catalog;
  }

-- Lists of which one changes.

all-has : {A : Type 0} (P : A → Type 0) (xs : List A) (x : A) → AllByRecursion P xs → Has x xs → P x
all-has P [] x all h = absurd h
all-has P (y ∷ xs) x all (inl e) = subst P e all.0
all-has P (y ∷ xs) x all (inr h) = all-has P xs x all.1 h

has-split : {A : Type 0} (xs : List A) (x : A) → Has x xs → (front : List A) × (back : List A) × (xs ≡ front ++ x ∷ back)
has-split [] x h = absurd h
has-split (y ∷ xs) x (inl e) = ([], xs, ap (λ z. z ∷ xs) e)
has-split (y ∷ xs) x (inr h) = let found = has-split xs x h in (y ∷ found.0, found.1, ap (λ zs. y ∷ zs) found.2)

map-split : {A B : Type 0} (f : A → B) (front : List A) (x : A) (back : List A) → map f (front ++ x ∷ back) ≡ map f front ++ f x ∷ map f back
map-split f [] x back = refl
map-split f (y ∷ front) x back = ap (λ zs. f y ∷ zs) (map-split f front x back)

roots-same : (front back : List Rooted) (a b : Rooted) → root_of a ≡ root_of b → map root_of (front ++ a ∷ back) ≡ map root_of (front ++ b ∷ back)
roots-same [] back a b e = ap (λ (r : ℕ). r ∷ map root_of back) e
roots-same (x ∷ front) back a b e = ap (λ (rs : List ℕ). root_of x ∷ rs) (roots-same front back a b e)

-- the list at a root has P, where a list that changes keeps it
change-kept : (P : Member → Type 0) (front back : List (ℕ × List Member)) (root : ℕ) (was now : List Member) → (AllByRecursion P was → AllByRecursion P now) → (at : ℕ)
    → AllByRecursion P (list_at (front ++ (root, was) ∷ back) at) → AllByRecursion P (list_at (front ++ (root, now) ∷ back) at)
change-kept P [] back root was now keeps at = by (root == at)
  where
    by : (b : Bool) → AllByRecursion P (if b then was else list_at back at) → AllByRecursion P (if b then now else list_at back at)
    by true all = keeps all
    by false all = all
change-kept P (list ∷ front) back root was now keeps at = by (change-kept P front back root was now keeps at) (list.0 == at)
  where
    by : (AllByRecursion P (list_at (front ++ (root, was) ∷ back) at) → AllByRecursion P (list_at (front ++ (root, now) ∷ back) at)) → (b : Bool)
        → AllByRecursion P (if b then list.1 else list_at (front ++ (root, was) ∷ back) at) → AllByRecursion P (if b then list.1 else list_at (front ++ (root, now) ∷ back) at)
    by rest true all = all
    by rest false all = rest all

if-ok : (A B : Type 0) (meaning : Result Table SqlFault) → (A → B) → IfOk meaning (λ _. A) → IfOk meaning (λ _. B)
if-ok A B (Ok table) f h = f h
if-ok A B (Err fault) f h = tt

readable-kept : (tables : List NamedEntry) (was now : List (ℕ × List Member)) → ((at : ℕ) → AllByRecursion IsReadable (list_at was at) → AllByRecursion IsReadable (list_at now at))
    → AllByRecursion (λ (named : NamedEntry). IfOk named.entry.meaning (λ _. AllByRecursion IsReadable (list_at was named.entry.root))) tables
    → AllByRecursion (λ (named : NamedEntry). IfOk named.entry.meaning (λ _. AllByRecursion IsReadable (list_at now named.entry.root))) tables
readable-kept [] was now keeps all = tt
readable-kept (named ∷ tables) was now keeps all = (
  if-ok (AllByRecursion IsReadable (list_at was named.entry.root)) (AllByRecursion IsReadable (list_at now named.entry.root)) named.entry.meaning (keeps named.entry.root) all.0,
  readable-kept tables was now keeps all.1,
)

-- The schema's tree is one of a whole world.

-- a cursor gives the list of each tree of a world
world-list : (sizes : Sizes) (base : Paged) (world : World) (rooted : Rooted) → IsWorld sizes base world → Has rooted world.trees → IsList sizes base rooted.kind (root_of rooted) (list_in rooted)
world-list sizes base world rooted is h =
    let split = has-split world.trees rooted h in
    let same = subst (λ (trees : List Rooted). IsWorld sizes base (record { trees = trees; trunks = world.trunks })) split.2 is in
    tree-list sizes base (root_of rooted) rooted.kind (depth_of rooted) (list_in rooted) (pages_in rooted) (world-tree sizes base split.0 rooted split.1 world.trunks same)

table-list : (sizes : Sizes) (base : Paged) (world : World) (rooted : Rooted) → IsWorld sizes base world → Has rooted world.trees → rooted.kind ≡ tree.Table → root_of rooted ≡ 1
    → IsList sizes base tree.Table 1 (list_in rooted)
table-list sizes base world rooted is h table one =
    subst (λ (k : TreeKind). IsList sizes base k 1 (list_in rooted)) table
    (subst (λ (root : ℕ). IsList sizes base rooted.kind root (list_in rooted)) one (world-list sizes base world rooted is h))

schema-tree : (sizes : Sizes) (base : Paged) (catalog : Catalog) (world : World) → IsWholeWorld sizes base catalog world → (rooted : Rooted) × Has rooted world.trees × (root_of rooted ≡ 1) × (rooted.kind ≡ tree.Table)
schema-tree sizes base catalog world whole =
    let rows = rows_of whole.has_catalog.found in
    let first : Has 1 catalog.roots =
    has-from catalog.roots 1 (Contains-permutation (1 ∷ roots_named (format_of base) rows) catalog.roots 1 whole.has_catalog.is_catalog.roots_are (zero, omega arith, refl)) in
    let found = map-has root_of world.trees 1 (subst⁻¹ (Has 1) whole.roots first) in
    let its = all-has (HasItsKind catalog) world.trees found.0 whole.kinds found.1 in
    (found.0, found.1, found.2, its.table (subst⁻¹ (λ (root : ℕ). IsTrue (is_among root (table_roots catalog))) found.2 refl))

-- One tree of a whole world has become another, of the same root and kind, and of a list that can be read if the old one could.
pub whole-kept : (sizes : Sizes) (old new : Paged) → old.count ≤ new.count → SameHeader (old.pages 1) (new.pages 1) → (catalog : Catalog) (front : List Rooted) (table now : Rooted) (back : List Rooted) (trunks rest : List Trunk)
    → IsWholeWorld sizes old catalog (with_tree front table back trunks) → root_of table ≢ 1 → IsWorld sizes new (with_tree front now back rest) → root_of now ≡ root_of table → now.kind ≡ table.kind
    → (AllByRecursion IsReadable (list_in table) → AllByRecursion IsReadable (list_in now)) → IsWholeWorld sizes new catalog (with_tree front now back rest)
whole-kept sizes old new grows header catalog front table now back trunks rest whole other world root kinds reads = record {
  is_world = world;
  has_catalog = catalog-kept sizes old new grows header catalog lists whole.has_catalog;
  roots = roots-same front back now table root ∙ whole.roots;
  kinds = all-join (HasItsKind catalog) front (now ∷ back) (all-front (HasItsKind catalog) front (table ∷ back) whole.kinds) (own (all-back (HasItsKind catalog) front (table ∷ back) whole.kinds));
  readable = readable-kept catalog.tables (lists_of (front ++ table ∷ back)) (lists_of (front ++ now ∷ back)) reading whole.readable;
}
  where
    own : AllByRecursion (HasItsKind catalog) (table ∷ back) → AllByRecursion (HasItsKind catalog) (now ∷ back)
    own all = (
      record {
        table = λ among. kinds ∙ all.0.table (subst (λ (r : ℕ). IsTrue (is_among r (table_roots catalog))) root among);
        index = λ among. kinds ∙ all.0.index (subst (λ (r : ℕ). IsTrue (is_among r (index_roots catalog))) root among);
      },
      all.1,
    )

    reading : (at : ℕ) → AllByRecursion IsReadable (list_at (lists_of (front ++ table ∷ back)) at) → AllByRecursion IsReadable (list_at (lists_of (front ++ now ∷ back)) at)
    reading at all =
        let was = subst (λ (lists : List (ℕ × List Member)). AllByRecursion IsReadable (list_at lists at)) (map-split rooted_list front table back) all in
        let kept = change-kept IsReadable (lists_of front) (lists_of back) (root_of table) (list_in table) (list_in now) reads at was in
        subst⁻¹ (λ (lists : List (ℕ × List Member)). AllByRecursion IsReadable (list_at lists at))
        (map-split rooted_list front now back ∙ ap (λ (r : ℕ). lists_of front ++ (r, list_in now) ∷ lists_of back) root) kept

    stays : (rooted : Rooted) → root_of rooted ≡ 1 → Has rooted (front ++ table ∷ back) → Has rooted (front ++ now ∷ back)
    stays rooted one h = elim (has-either front (table ∷ back) rooted h) [
      | inl in_front ↦ has-left front (now ∷ back) rooted in_front
      | inr rest ↦ elim rest [ inl e ↦ absurd (other (ap root_of e ∙ one)) | inr in_back ↦ has-right front (now ∷ back) rooted (inr in_back) ]
    ]

    lists : (members : List Member) → IsList sizes old tree.Table 1 members → IsList sizes new tree.Table 1 members
    lists members is =
        let schema = schema-tree sizes old catalog (with_tree front table back trunks) whole in
        let was = table-list sizes old (with_tree front table back trunks) schema.0 whole.is_world schema.1 schema.3 schema.2 in
        let is_now = table-list sizes new (with_tree front now back rest) schema.0 world (stays schema.0 schema.2 schema.1) schema.3 schema.2 in
        subst (IsList sizes new tree.Table 1) (list-one sizes old tree.Table 1 (list_in schema.0) members was is) is_now

-- So it is with a put into a table and a delete from one.

put-readable : (row : Member) (was now : List Member) → PutIn tree.Table row was now → IsReadable row → AllByRecursion IsReadable was → AllByRecursion IsReadable now
put-readable row was now put own all =
    let parts = subst (AllByRecursion IsReadable) put.old_is all in
    subst⁻¹ (AllByRecursion IsReadable) put.new_is
    (all-join IsReadable put.front (row ∷ put.back) (all-front IsReadable put.front (put.replaced ++ put.back) parts)
    (own, all-back IsReadable put.replaced put.back (all-back IsReadable put.front (put.replaced ++ put.back) parts)))

taken-readable : (gone : Member) (was now : List Member) → TakenOut gone was now → AllByRecursion IsReadable was → AllByRecursion IsReadable now
taken-readable gone was now taken all =
    let parts = subst (AllByRecursion IsReadable) taken.old_is all in
    subst⁻¹ (AllByRecursion IsReadable) taken.new_is
    (all-join IsReadable taken.front taken.back (all-front IsReadable taken.front (gone ∷ taken.back) parts) (all-back IsReadable taken.front (gone ∷ taken.back) parts).1)

pub whole-put : (sizes : Sizes) (old new : Paged) (catalog : Catalog) (front : List Rooted) (table : Rooted) (back : List Rooted) (trunks : List Trunk) (row : Member)
    → IsWholeWorld sizes old catalog (with_tree front table back trunks) → table.kind ≡ tree.Table → root_of table ≢ 1 → IsReadable row → old.count ≤ new.count
    → (put : HasPut sizes front table back row old new) → IsWholeWorld sizes new catalog (with_tree front put.now back put.trunks)
whole-put sizes old new catalog front table back trunks row whole kind other readable grows put =
    whole-kept sizes old new grows put.header catalog front table put.now back trunks put.trunks whole other put.world put.root (put.kind_is ∙ sym kind)
    (put-readable row (list_in table) (list_in put.now) put.list readable)

pub whole-deleted : (sizes : Sizes) (old new : Paged) (catalog : Catalog) (front : List Rooted) (table : Rooted) (back : List Rooted) (trunks : List Trunk) (gone : Member)
    → IsWholeWorld sizes old catalog (with_tree front table back trunks) → table.kind ≡ tree.Table → root_of table ≢ 1 → old.count ≤ new.count
    → (deleted : HasDeleted sizes front table back gone old new) → IsWholeWorld sizes new catalog (with_tree front deleted.now back deleted.trunks)
whole-deleted sizes old new catalog front table back trunks gone whole kind other grows deleted =
    whole-kept sizes old new grows deleted.header catalog front table deleted.now back trunks deleted.trunks whole other deleted.world deleted.root (deleted.kind_is ∙ sym kind)
    (taken-readable gone (list_in table) (list_in deleted.now) deleted.list)
