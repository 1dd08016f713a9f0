-- The catalog that members say, and the first fault of one.
use Rattle.std.proofs.Common.{◌≡◌, ℕ, ◌≤◌, ◌==◌, Bool, true, false, List, [], ◌∷◌, ◌++◌, map, filter, Result, Ok, Err, refl, sym, ap, ◌∙◌, subst, inl, inr, arith}
use Rattle.std.proofs.Math.Path.{subst⁻¹}
use Rattle.std.specs.Prelude.{not, IsPermutation}
use Rattle.std.specs.List.{AllByRecursion, AllZip, IsDistinct}
use Rattle.std.proofs.lemmas.Bool.Decides.{Decides-eqb}
use Rattle.std.proofs.lemmas.List.Kept.{AllPairs-from_increasing}
use Rattle.std.proofs.lemmas.List.Sorted.{IsNonDecreasingBy-from_sort}
use Rattle.std.proofs.lemmas.Map.Keys.{IsDistinct-IsPermutation, IsStrictlyIncreasing-from_distinct}
use Rattle.common_spec.specs.Reading.{OrFault}
use Rattle.common_spec.specs.ReadingLaws.{Reads-one}
use Rattle.tree_spec.specs.declared.TreeKind.TheVariants.{Table as TableTree}
use Rattle.tree_spec.specs.Trees.{Member}
use Rattle.tree_spec.specs.Standing.{Paged, Sizes}
use Rattle.tree_spec.specs.declared.fault.TreeFault.{TreeFault}
use Rattle.tree_spec.specs.declared.fault.TreeFault.TheVariants as tree
use Rattle.tree_spec.specs.Faults.{IsDamageOrOther}
use Rattle.database_spec.specs.declared.catalog.Catalog.{Catalog}
use Rattle.database_spec.specs.declared.catalog.NamedEntry.{NamedEntry}
use Rattle.database_spec.specs.declared.catalog.SchemaRow.{SchemaRow}
use Rattle.database_spec.specs.declared.fault.FileFault.{FileFault}
use Rattle.database_spec.specs.declared.fault.FileFault.TheVariants as file
use Rattle.database_spec.specs.Catalogs.{is_index, is_table, AreRows, IsEntry}
use Rattle.database_spec.specs.CatalogsLaws.{catalog_answer-one}
use Rattle.database_spec.specs.RightRows.{rows_of, AreFaultless, FirstRowFault, HasCatalog, CatalogHasFault}
use Rattle.database_spec.specs.Walks.{IsList, StopsAt}
use Rattle.schema_read.specs.Answers.{IsAnswer, IsDamagedTree, IsOther, IsRefusalOrOther, ReadsCatalog, SayCatalog, SayFault, SaysOrOther, catalog_fault, told_of_tree}
use Rattle.schema_read.specs.Checks.{IsBasis, IsPlaced, IsRefusal, member_at}
use Rattle.schema_read.specs.Entries.{IsMadeOf, roots_of}
use Rattle.schema_read.specs.Found.{AreFound, IsMeant, found_rows, rows_in}
use Rattle.schema_read.specs.declared.check.Basis.{Basis}
use Rattle.schema_read.specs.declared.check.Placed.{Placed}
use Rattle.schema_read.specs.declared.check.RowFault.{RowFault}
use Rattle.schema_read.specs.declared.check.RowFault.TheVariants.{SchemaRow as SchemaRowFault, DuplicateName, Memory}
use Rattle.schema_read.specs.declared.found.Found.{Found}
use Rattle.schema_read.specs.declared.read.CatalogFault.{CatalogFault}
use Rattle.schema_read.specs.declared.read.CatalogFault.TheVariants.{TreeDamaged, SchemaRow as RowFaultAt, DuplicateName as NameTwice, Store, Memory as NoMemory}
use Rattle.schema_read.proofs.Faultless.{distinct, given, not-first, roots-are}
use Rattle.schema_read.proofs.Tables.{all-entries}

pub rows-found : (members : List Member) (found : List Found) → AreFound members found → AreRows members (found_rows found)
rows-found [] [] are = tt
rows-found [] (one ∷ found) are = absurd are
rows-found (member ∷ members) [] are = absurd are
rows-found (member ∷ members) (one ∷ found) are = (are.0.row, rows-found members found are.1)

pub meant-found : (members : List Member) (found : List Found) → AreFound members found → AllByRecursion IsMeant found
meant-found [] [] are = tt
meant-found [] (one ∷ found) are = absurd are
meant-found (member ∷ members) [] are = absurd are
meant-found (member ∷ members) (one ∷ found) are = (are.0.meaning, meant-found members found are.1)

empty-found : (members : List Member) (found : List Found) → AreFound members found → AllByRecursion (λ (f : Found). f.indexes.items ≡ []) found
empty-found [] [] are = tt
empty-found [] (one ∷ found) are = absurd are
empty-found (member ∷ members) [] are = absurd are
empty-found (member ∷ members) (one ∷ found) are = (are.0.none, empty-found members found are.1)

module _ (sizes : Sizes) (base : Paged) where
  first-found : (rows before : List SchemaRow) (members : List Member) (found : List Found) (f : FileFault) → AreFound members found → FirstRowFault sizes base rows before (map member_at found) (found_rows found) f
      → FirstRowFault sizes base rows before members (found_rows found) f
  first-found rows before [] [] f are has = has
  first-found rows before [] (one ∷ found) f are has = absurd are
  first-found rows before (member ∷ members) [] f are has = absurd are
  first-found rows before (member ∷ members) (one ∷ found) f are (inl (inl (wrong, e))) = inl (inl (wrong, e ∙ ap file.SchemaRow are.0.rowid))
  first-found rows before (member ∷ members) (one ∷ found) f are (inl (inr repeated)) = inl (inr repeated)
  first-found rows before (member ∷ members) (one ∷ found) f are (inr (fine, later)) = inr (fine, first-found rows (before ++ rows_of (one.row ∷ [])) members found f are.1 later)

  -- the first fault of a member
  pub say-fault : (members : List Member) (found : List Found) (refused : RowFault) → AreFound members found → IsRefusal (FirstRowFault sizes base (rows_in found) [] (map member_at found) (found_rows found)) refused
      → IsRefusal (SayFault sizes base members) refused
  say-fault members found (SchemaRowFault rowid) are has = record { found = found_rows found; are_rows = rows-found members found are; first = first-found (rows_in found) [] members found (file.SchemaRow rowid) are has }
  say-fault members found (DuplicateName name) are has = record { found = found_rows found; are_rows = rows-found members found are; first = first-found (rows_in found) [] members found (file.DuplicateName name) are has }
  say-fault members found (Memory error) are has = tt

  flips : (x y : ℕ) → (x == y) ≡ (y == x)
  flips x y = by (x == y) (y == x) refl refl
    where
      by : (a b : Bool) → (x == y) ≡ a → (y == x) ≡ b → a ≡ b
      by true true p q = refl
      by true false p q = absurd (let e = (Decides-eqb y x).1 (sym ((Decides-eqb x y).0 p)) in let h : ⊥ = cc in h)
      by false true p q = absurd (let e = (Decides-eqb x y).1 (sym ((Decides-eqb y x).0 q)) in let h : ⊥ = cc in h)
      by false false p q = refl

  first_differs : (found : List Found) → AreFaultless sizes base (rows_in found) [] (found_rows found) → IsDistinct (λ (x y : ℕ). x == y) (1 ∷ given sizes base (rows_in found) found)
  unfolding IsDistinct
  first_differs found faultless = (not-first sizes base (rows_in found) [] found faultless, distinct sizes base (rows_in found) [] found faultless)

  -- the catalog of members without a fault
  pub say-catalog : (basis : Basis) → IsBasis basis sizes base → basis.count ≤ 4294967295 → (members : List Member) (found : List Found) (placed : List Placed) (catalog : Catalog) → AreFound members found
      → AreFaultless sizes base (rows_in found) [] (found_rows found) → AllZip (IsPlaced basis.format found) (filter is_index (rows_in found)) placed → IsMadeOf found placed catalog → SayCatalog sizes base members catalog
  say-catalog basis is few members found placed catalog are faultless are_placed made =
      let small : base.count ≤ 4294967295 = omega (arith, few, is.count) in
      let kept : roots_of found ≡ given sizes base (rows_in found) found = ap (filter (λ (root : ℕ). not (root == 0))) (roots-are sizes base (rows_in found) [] found small faultless) in
      let same : IsPermutation (1 ∷ given sizes base (rows_in found) found) catalog.roots = subst (λ (l : List ℕ). IsPermutation (1 ∷ l) catalog.roots) kept made.same in
      let differ : IsDistinct (λ (x y : ℕ). x == y) (1 ∷ given sizes base (rows_in found) found) = first_differs found faultless in
      let rise = IsStrictlyIncreasing-from_distinct catalog.roots (IsNonDecreasingBy-from_sort (λ (x : ℕ). x) catalog.roots made.sorted) (IsDistinct-IsPermutation (λ (x y : ℕ). x == y) flips (1 ∷ given sizes base (rows_in found) found) catalog.roots same differ) in
      let entries = all-entries sizes base basis.format found placed small faultless are_placed (meant-found members found are) (empty-found members found are) made.new made.stand in
      record {
        found = found_rows found;
        are_rows = rows-found members found are;
        faultless = faultless;
        is_catalog = record {
          tables = subst⁻¹ (λ (format : ℕ). AllZip (IsEntry format (rows_in found)) (filter is_table (rows_in found)) catalog.tables) is.format
              (subst⁻¹ (λ (ts : List NamedEntry). AllZip (IsEntry basis.format (rows_in found)) (filter is_table (rows_in found)) ts) made.tables entries);
          roots_rise = AllPairs-from_increasing catalog.roots rise;
          roots_are = same;
        };
      }

  -- what members say is said of the database whose schema they are
  module _ (members : List Member) (is_list : IsList sizes base TableTree 1 members) where
    pub answers-catalog : (catalog : Catalog) → SayCatalog sizes base members catalog → IsAnswer sizes base (Ok catalog)
    answers-catalog catalog say =
        Reads-one (OrFault (HasCatalog sizes base) (CatalogHasFault sizes base)) (Ok catalog) (catalog_answer-one sizes base)
        (record { members = members; is_list = is_list; found = say.found; are_rows = say.are_rows; faultless = say.faultless; is_catalog = say.is_catalog })

    answers_fault : (f : FileFault) → SayFault sizes base members f → IsAnswer sizes base (Err f)
    answers_fault f say =
        Reads-one (OrFault (HasCatalog sizes base) (CatalogHasFault sizes base)) (Err f) (catalog_answer-one sizes base)
        (inr (members, say.found, is_list, say.are_rows, say.first))

    by-fault : {F : Type 0} (fault : CatalogFault F) → IsRefusalOrOther (SayFault sizes base members) fault → IsRefusalOrOther (λ f. IsAnswer sizes base (Err f)) fault
    by-fault (TreeDamaged page rule) say = answers_fault (file.TreeDamaged page rule) say
    by-fault (RowFaultAt rowid) say = answers_fault (file.SchemaRow rowid) say
    by-fault (NameTwice name) say = answers_fault (file.DuplicateName name) say
    by-fault (Store fault) say = tt
    by-fault (NoMemory error) say = tt

    -- what was read of a store says the one answer of its database
    pub reads-answer : {F : Type 0} (result : Result Catalog (CatalogFault F)) → SaysOrOther sizes base members result → ReadsCatalog sizes base result
    reads-answer (Ok catalog) says = answers-catalog catalog says
    reads-answer (Err fault) says = by-fault fault says

  -- damage is the one answer of a database whose schema's tree is damaged
  damage_is : (f : FileFault) → IsDamagedTree sizes base f → IsAnswer sizes base (Err f)
  damage_is f damaged = Reads-one (OrFault (HasCatalog sizes base) (CatalogHasFault sizes base)) (Err f) (catalog_answer-one sizes base) (inl damaged)

  pub damage-answer : {F : Type 0} (fault : CatalogFault F) → IsRefusalOrOther (IsDamagedTree sizes base) fault → IsRefusalOrOther (λ f. IsAnswer sizes base (Err f)) fault
  damage-answer (TreeDamaged page rule) damaged = damage_is (file.TreeDamaged page rule) damaged
  damage-answer (RowFaultAt rowid) damaged = damage_is (file.SchemaRow rowid) damaged
  damage-answer (NameTwice name) damaged = damage_is (file.DuplicateName name) damaged
  damage-answer (Store fault) damaged = tt
  damage-answer (NoMemory error) damaged = tt

  -- what stops a cursor over the schema's tree
  pub damage-told : {F : Type 0} (fault : TreeFault F) → IsDamageOrOther (λ page rule. StopsAt sizes base TableTree 1 (page, rule)) fault → IsRefusalOrOther (IsDamagedTree sizes base) (told_of_tree fault)
  damage-told (tree.TreeDamaged page rule) stops = (page, rule, stops, refl)
  damage-told (tree.TrunkDamaged page) stops = absurd stops
  damage-told (tree.TargetFull pages limit) stops = absurd stops
  damage-told (tree.Store fault) stops = tt
  damage-told (tree.Memory error) stops = tt

-- where the store failed nothing is said
pub other-refused : {F : Type 0} (P : FileFault → Type 0) (fault : CatalogFault F) → IsOther fault → IsRefusalOrOther P fault
other-refused P (TreeDamaged page rule) other = absurd other
other-refused P (RowFaultAt rowid) other = absurd other
other-refused P (NameTwice name) other = absurd other
other-refused P (Store fault) other = tt
other-refused P (NoMemory error) other = tt

-- a row's refusal as that of the call
pub row-refused : (F : Type 0) (P : FileFault → Type 0) (refused : RowFault) → IsRefusal P refused → IsRefusalOrOther {F = F} P (catalog_fault refused)
row-refused F P (SchemaRowFault rowid) is = is
row-refused F P (DuplicateName name) is = is
row-refused F P (Memory error) is = tt
