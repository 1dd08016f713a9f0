-- Indexes and the places of their tables.
use Rattle.std.proofs.Common.{◌≡◌, ℕ, zero, suc, List, [], ◌∷◌, get_or, slice_get, Option, Some, None, Result, Ok, Err, IfOk, Bool, false, true, refl, sym, ap, ◌∙◌, subst}
use Rattle.std.proofs.Math.Path.{subst⁻¹}
use Rattle.std.specs.List.{AllByRecursion, position}
use Rattle.std.proofs.lemmas.List.Quantifiers.{position-Some}
use Rattle.std.proofs.lemmas.Option.{get_or_from_slice_get, slice_get-get_or, none-some}
use Rattle.std.specs.declared.alloc.AllocError.{AllocError}
use Rattle.page_spec.specs.Pages.{IsInRange}
use Rattle.schema_spec.specs.declared.schema.SqlFault.{SqlFault}
use Rattle.schema_spec.specs.declared.schema.Table.{Table}
use Rattle.schema_spec.specs.declared.schema.Index.{Index}
use Rattle.tree_spec.specs.Standing.{Paged, Sizes}
use Rattle.database_spec.specs.declared.catalog.SchemaKind.{SchemaKind}
use Rattle.database_spec.specs.declared.catalog.SchemaKind.TheVariants as kind
use Rattle.database_spec.specs.declared.catalog.SchemaRow.{SchemaRow}
use Rattle.database_spec.specs.Catalogs.{IsIndexMeaning}
use Rattle.database_spec.specs.CatalogsLaws.{table_meaning-one}
use Rattle.database_spec.specs.RightRows.{table_named, IsOwnRoot, IsRightIndex, IsRightTable}
use Rattle.schema_read.specs.Found.{HasRealMeaning, IsMeant, IsRealMeaning, any_found, has_root, has_table, rows_in}
use Rattle.schema_read.specs.Checks.{IsBasis, IsStanding, JudgesIndex, JudgesRow, Places, PlacesRow}
use Rattle.schema_read.specs.declared.check.Basis.{Basis}
use Rattle.schema_read.specs.declared.check.Placed.{Placed}
use Rattle.schema_read.specs.declared.found.Found.{Found}
use Rattle.schema_read.proofs.MemberLists.{position-none, table-at, table-none}
use Rattle.schema_read.proofs.Rights.{own-here, own-there}

pub meant-at : (found : List Found) (at : ℕ) (one : Found) → slice_get found at ≡ Some one → AllByRecursion IsMeant found → IsMeant one
meant-at [] at one e meant = absurd (none-some one e)
meant-at (first ∷ found) zero one e meant = let same : first ≡ one = cc in subst IsMeant same meant.0
meant-at (first ∷ found) (suc at) one e meant = meant-at found at one e meant.1

module _ (format : ℕ) (found : List Found) (row : SchemaRow) (at : ℕ) (table : Found) (place : position (has_table row.table) found ≡ Some at) (there : slice_get found at ≡ Some table) where
  its_row : (t : SchemaRow) × (table.row ≡ Some t) × (table_named row.table (rows_in found) ≡ Some t)
  its_row =
      let first = position-Some (has_table row.table) found at table place in
      let is = table-at row.table found at table first.0 first.1 first.2 in
      (is.row, subst (λ (f : Found). f.row ≡ Some is.row) (get_or_from_slice_get found at table table there) is.row_is, is.named)

  real_there : (meaning : Result Table SqlFault) → HasRealMeaning table meaning → IsRealMeaning (Some its_row.0) meaning
  real_there meaning has = subst (λ (r : Option SchemaRow). IsRealMeaning r meaning) its_row.1 has

  -- the meaning with which an index stands
  standing-meaning : (index : Result Index SqlFault) (is : IsStanding format found row index) → HasRealMeaning table is.meaning
  standing-meaning index is =
      let same : Some its_row.0 ≡ Some is.table = sym its_row.2 ∙ is.stands in
      subst⁻¹ (λ (r : Option SchemaRow). IsRealMeaning r is.meaning) (its_row.1 ∙ same) (is.is_real, is.means)

  real-one : (a b : Result Table SqlFault) → HasRealMeaning table a → HasRealMeaning table b → a ≡ b
  real-one a b p q = table_meaning-one kind.Table its_row.0.sql a b (real_there a p).1 (real_there b q).1

  -- an index is placed, or not
  pub placed-answer : (root : ℕ) (meaning : Result Table SqlFault) → root ≡ row.root → HasRealMeaning table meaning → (answer : Result (Option Placed) AllocError) → IfOk answer (Places format row meaning at root)
      → IfOk answer (PlacesRow format found row)
  placed-answer root meaning root_is has (Ok None) places = λ index is.
      let same = real-one is.meaning meaning (standing-meaning index is) has in
      places index (subst (λ (m : Result Table SqlFault). IsIndexMeaning format row m index) same is.index_means) is.named
  placed-answer root meaning root_is has (Ok (Some placed)) places =
      let real = real_there meaning has in (
        record { table = its_row.0; stands = its_row.2; is_real = real.0; meaning = meaning; means = real.1; index_means = places.2; named = places.3 },
        record {
          at = place ∙ ap Some (sym places.0);
          root = places.1 ∙ root_is;
          table = table;
          stands = subst⁻¹ (λ (n : ℕ). slice_get found n ≡ Some table) places.0 there;
          meaning = meaning;
          meant = has;
          means = places.2;
        },
      )
  placed-answer root meaning root_is has (Err error) places = tt

  -- its table is none
  pub none-placed : ((meaning : Result Table SqlFault) → ¬ HasRealMeaning table meaning) → (index : Result Index SqlFault) → ¬ IsStanding format found row index
  none-placed none index is = none is.meaning (standing-meaning index is)

-- there is no table of its name
pub place-none : (format : ℕ) (found : List Found) (row : SchemaRow) → position (has_table row.table) found ≡ None → (index : Result Index SqlFault) → ¬ IsStanding format found row index
place-none format found row none index is =
    let no : table_named row.table (rows_in found) ≡ None = by found none in none-some is.table (sym no ∙ is.stands)
  where
    by : (list : List Found) → position (has_table row.table) list ≡ None → table_named row.table (rows_in list) ≡ None
    by [] e = refl
    by (one ∷ list) e = table-none row.table (one ∷ list) one (position-none (has_table row.table) (one ∷ list) one e)

-- a place is one of the list's
pub place-within : (found : List Found) (name : List ℕ) (at : ℕ) → position (has_table name) found ≡ Some at → slice_get found at ≡ None → ⊥
place-within [] name at place none = let first : position (has_table name) [] ≡ Some at = place in absurd (let h : ⊥ = cc in h)
place-within (one ∷ found) name at place none =
    let first = position-Some (has_table name) (one ∷ found) at one place in
    none-some (get_or (one ∷ found) at one) (sym none ∙ slice_get-get_or (one ∷ found) at one first.0)

module _ (basis : Basis) (sizes : Sizes) (base : Paged) (is : IsBasis basis sizes base) (found before : List Found) (row : SchemaRow) where
  index-right : (index : Result Index SqlFault) → IsOwnRoot sizes base (rows_in found) (rows_in before) row.root → IsStanding basis.format found row index → IsRightIndex sizes base (rows_in found) (rows_in before) row
  index-right index own stands = record {
    table = stands.table;
    stands = stands.stands;
    is_real = stands.is_real;
    root = own;
    meaning = stands.meaning;
    means = stands.means;
    index = index;
    index_means = subst⁻¹ (λ (format : ℕ). IsIndexMeaning format row stands.meaning index) is.format stands.index_means;
    named = stands.named;
  }

  index-stands : (right : IsRightIndex sizes base (rows_in found) (rows_in before) row) → IsStanding basis.format found row right.index
  index-stands right = record {
    table = right.table;
    stands = right.stands;
    is_real = right.is_real;
    meaning = right.meaning;
    means = right.means;
    index_means = subst (λ (format : ℕ). IsIndexMeaning format row right.meaning right.index) is.format right.index_means;
    named = right.named;
  }

  judged : (root : ℕ) → (root ≡ row.root) × IsInRange basis.size basis.count row.root × (any_found (has_root row.root) before ≡ false) → (placed : Option Placed) → PlacesRow basis.format found row placed
      → JudgesIndex sizes base basis.format found before row placed
  judged root own None places = λ right. places right.index (index-stands right)
  judged root own (Some placed) places = (index-right placed.meaning (own-there basis sizes base is found before row.root own.1 own.2) places.0, places.1)

  pub not-own : ((number : ℕ) → ¬ ((number ≡ row.root) × IsInRange basis.size basis.count row.root × (any_found (has_root row.root) before ≡ false))) → ¬ IsRightIndex sizes base (rows_in found) (rows_in before) row
  not-own none right = let own = own-here basis sizes base is found before row.root right.root in none row.root (refl, own.0, own.1)

pub judges-answer : (basis : Basis) (found before : List Found) (row : SchemaRow) (root : ℕ) → (root ≡ row.root) × IsInRange basis.size basis.count row.root × (any_found (has_root row.root) before ≡ false)
    → (answer : Result (Option Placed) AllocError) → IfOk answer (PlacesRow basis.format found row)
    → IfOk answer (λ index. (sizes : Sizes) (base : Paged) → IsBasis basis sizes base → JudgesIndex sizes base basis.format found before row index)
judges-answer basis found before row root own (Ok placed) places = λ sizes base is. judged basis sizes base is found before row root own placed places
judges-answer basis found before row root own (Err error) places = tt

-- Rows by their kinds.

module _ (sizes : Sizes) (base : Paged) (found before : List Found) (row : SchemaRow) where
  abbrev RightAs : SchemaKind → Type 0
  RightAs k = elim k as (λ _. Type 0) [
    | kind.Table ↦ IsRightTable sizes base (rows_in found) (rows_in before) row
    | kind.Index ↦ IsRightIndex sizes base (rows_in found) (rows_in before) row
    | kind.View ↦ row.root ≡ 0
    | kind.Trigger ↦ row.root ≡ 0
  ]

  abbrev is_index_as : SchemaKind → Bool
  is_index_as k = elim k as (λ _. Bool) [ kind.Index ↦ true | kind.Table ↦ false | kind.View ↦ false | kind.Trigger ↦ false ]

  pub index-judged : (format : ℕ) → row.kind ≡ kind.Index → (index : Option Placed) → JudgesIndex sizes base format found before row index
      → JudgesRow sizes base format found before row (elim index as (λ _. Option (Option Placed)) [ None ↦ None | Some placed ↦ Some (Some placed) ])
  index-judged format e None judges = λ right. judges (subst RightAs e right)
  index-judged format e (Some placed) judges = (subst⁻¹ RightAs e judges.0, (ap is_index_as e, judges.1))
