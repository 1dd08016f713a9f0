-- Which rows are right, by what was looked for among the members.
use Rattle.std.proofs.Common.{◌≡◌, ℕ, suc, ◌<◌, Bool, true, false, IsTrue, IsFalse, List, length, Option, Some, None, Result, Ok, Err, IfOk, refl, sym, ap, ◌∙◌, subst}
use Rattle.std.proofs.Math.Path.{subst⁻¹}
use Rattle.std.specs.Prelude.{◌↔◌}
use Rattle.std.specs.List.{list_any}
use Rattle.std.specs.declared.alloc.AllocError.{AllocError}
use Rattle.page_spec.specs.Pages.{IsInRange}
use Rattle.schema_spec.specs.declared.schema.SqlFault.{SqlFault}
use Rattle.schema_spec.specs.declared.schema.Table.{Table}
use Rattle.schema_spec.specs.declared.schema.Index.{Index}
use Rattle.schema_spec.specs.Words.{same_name}
use Rattle.tree_spec.specs.Standing.{Paged, Sizes, IsNumber}
use Rattle.database_spec.specs.declared.catalog.SchemaKind.{SchemaKind}
use Rattle.database_spec.specs.declared.catalog.SchemaKind.TheVariants as kind
use Rattle.database_spec.specs.declared.catalog.SchemaRow.{SchemaRow}
use Rattle.database_spec.specs.Catalogs.{IsIndexMeaning, IsTableMeaning}
use Rattle.database_spec.specs.CatalogsLaws.{index_meaning-one, table_meaning-one}
use Rattle.database_spec.specs.RightRows.{is_automatic, is_virtual, IsNamedAlike, IsOwnRoot, IsRightTable}
use Rattle.schema_read.specs.Found.{HasRealMeaning, IsFoundMeaning, IsMeant, IsRealMeaning, any_found, has_root, rows_in}
use Rattle.schema_read.specs.Checks.{HasRightRoot, IsBasis, KeysStand}
use Rattle.schema_read.specs.declared.check.Basis.{Basis}
use Rattle.schema_read.specs.declared.found.Found.{Found}
use Rattle.schema_read.proofs.MemberLists.{any-rows}

false-true : {A : Type 0} → ◌≡◌ {A = Bool} false true → A
false-true e = absurd (let h : ⊥ = cc in h)

module _ (basis : Basis) (sizes : Sizes) (base : Paged) (is : IsBasis basis sizes base) (found before : List Found) where
  number-there : (root : ℕ) → IsInRange basis.size basis.count root → IsNumber sizes base root
  number-there root in_range = subst⁻¹ (λ (s : ℕ). IsInRange s base.count root) is.size (subst⁻¹ (λ (n : ℕ). IsInRange basis.size n root) is.count in_range)

  number-here : (root : ℕ) → IsNumber sizes base root → IsInRange basis.size basis.count root
  number-here root number = subst (λ (n : ℕ). IsInRange basis.size n root) is.count (subst (λ (s : ℕ). IsInRange s base.count root) is.size number)

  pub own-there : (root : ℕ) → IsInRange basis.size basis.count root → IsFalse (any_found (has_root root) before) → IsOwnRoot sizes base (rows_in found) (rows_in before) root
  own-there root in_range own = (number-there root in_range, sym (any-rows (has_root root) before) ∙ own)

  pub own-here : (root : ℕ) → IsOwnRoot sizes base (rows_in found) (rows_in before) root → IsInRange basis.size basis.count root × IsFalse (any_found (has_root root) before)
  own-here root own = (number-here root own.0, any-rows (has_root root) before ∙ own.1)

  module _ (row : SchemaRow) where
    named-of : (meaning : Result Table SqlFault) → IfOk meaning (KeysStand found row) → IfOk meaning (λ table. IsTrue (same_name table.name row.name))
    named-of (Ok table) keys = keys.named
    named-of (Err fault) keys = tt

    automatic-of : (meaning : Result Table SqlFault) → IfOk meaning (KeysStand found row)
        → IfOk meaning (λ table. (at : ℕ) → at < length table.unique → IsTrue (list_any (is_automatic row.name (suc at)) (rows_in found)))
    automatic-of (Ok table) keys = λ at less. sym (any-rows (is_automatic row.name (suc at)) found) ∙ keys.automatic at less
    automatic-of (Err fault) keys = tt

    keys-of : (meaning : Result Table SqlFault) → IfOk meaning (λ table. IsTrue (same_name table.name row.name))
        → IfOk meaning (λ table. (at : ℕ) → at < length table.unique → IsTrue (list_any (is_automatic row.name (suc at)) (rows_in found))) → IfOk meaning (KeysStand found row)
    keys-of (Ok table) named automatic = record { named = named; automatic = λ at less. any-rows (is_automatic row.name (suc at)) found ∙ automatic at less }
    keys-of (Err fault) named automatic = tt

    module _ (meaning : Result Table SqlFault) (means : IsTableMeaning kind.Table row.sql meaning) where
      -- the row of a table is right
      pub right-table : IsTrue (same_name row.table row.name) → HasRightRoot basis before row.root meaning → IfOk meaning (KeysStand found row) → IsRightTable sizes base (rows_in found) (rows_in before) row
      right-table own root keys = record {
        meaning = meaning;
        means = means;
        own_name = own;
        named = named-of meaning keys;
        virtual_root = root.of_virtual;
        root = λ e. own-there row.root (root.of_real e).0 (root.of_real e).1;
        automatic = automatic-of meaning keys;
      }

      same-meaning : (right : IsRightTable sizes base (rows_in found) (rows_in before) row) → right.meaning ≡ meaning
      same-meaning right = table_meaning-one kind.Table row.sql right.meaning meaning right.means means

      pub table-root : IsRightTable sizes base (rows_in found) (rows_in before) row → HasRightRoot basis before row.root meaning
      table-root right =
          let same = same-meaning right in
          record { of_virtual = λ e. right.virtual_root (ap is_virtual same ∙ e); of_real = λ e. own-here row.root (right.root (ap is_virtual same ∙ e)) }

      pub table-keys : IsRightTable sizes base (rows_in found) (rows_in before) row → IfOk meaning (KeysStand found row)
      table-keys right = subst (λ (m : Result Table SqlFault). IfOk m (KeysStand found row)) (same-meaning right) (keys-of right.meaning right.named right.automatic)

-- what is known of a table in the profile
pub keys-answer : (basis : Basis) (found before : List Found) (row : SchemaRow) (meaning : Result Table SqlFault) (table : Table) → meaning ≡ Ok table → IsTableMeaning kind.Table row.sql meaning
    → IsTrue (same_name row.table row.name) → HasRightRoot basis before row.root meaning → (answer : Result Bool AllocError) → IfOk answer (λ stand. IsTrue stand ↔ KeysStand found row table)
    → IfOk answer (λ right. (sizes : Sizes) (base : Paged) → IsBasis basis sizes base → IsTrue right ↔ IsRightTable sizes base (rows_in found) (rows_in before) row)
keys-answer basis found before row meaning table e means own root (Ok right) stand = λ sizes base is. (
  λ true_. right-table basis sizes base is found before row meaning means own root (subst⁻¹ (λ (m : Result Table SqlFault). IfOk m (KeysStand found row)) e (stand.0 true_)),
  λ is_right. stand.1 (subst (λ (m : Result Table SqlFault). IfOk m (KeysStand found row)) e (table-keys basis sizes base is found before row meaning means is_right)),
)
keys-answer basis found before row meaning table e means own root (Err error) stand = tt

-- a table whose text is not read
pub fault-answer : (basis : Basis) (found before : List Found) (row : SchemaRow) (meaning : Result Table SqlFault) (fault : SqlFault) → meaning ≡ Err fault → IsTableMeaning kind.Table row.sql meaning
    → IsTrue (same_name row.table row.name) → HasRightRoot basis before row.root meaning
    → (sizes : Sizes) (base : Paged) → IsBasis basis sizes base → IsTrue true ↔ IsRightTable sizes base (rows_in found) (rows_in before) row
fault-answer basis found before row meaning fault e means own root sizes base is =
    (λ true_. right-table basis sizes base is found before row meaning means own root (subst⁻¹ (λ (m : Result Table SqlFault). IfOk m (KeysStand found row)) e tt), λ is_right. refl)

-- a root that a table may not have
pub root-answer : (basis : Basis) (found before : List Found) (row : SchemaRow) (meaning : Result Table SqlFault) (right : Bool) → right ≡ false → IsTrue right ↔ HasRightRoot basis before row.root meaning
    → IsTableMeaning kind.Table row.sql meaning → (sizes : Sizes) (base : Paged) → IsBasis basis sizes base → IsTrue false ↔ IsRightTable sizes base (rows_in found) (rows_in before) row
root-answer basis found before row meaning right e told means sizes base is =
    (λ no. false-true no, λ is_right. sym e ∙ told.1 (table-root basis sizes base is found before row meaning means is_right))

-- a table without a text
pub none-answer : (basis : Basis) (found before : List Found) (row : SchemaRow) (meaning : Option (Result Table SqlFault)) → meaning ≡ None → row.kind ≡ kind.Table → IsFoundMeaning (Some row) meaning
    → (sizes : Sizes) (base : Paged) → IsBasis basis sizes base → IsTrue false ↔ IsRightTable sizes base (rows_in found) (rows_in before) row
none-answer basis found before row meaning e kind means sizes base is =
    let none = subst (IsFoundMeaning (Some row)) e means in
    (λ no. false-true no, λ is_right. absurd (none is_right.meaning (subst⁻¹ (λ (k : SchemaKind). IsTableMeaning k row.sql is_right.meaning) kind is_right.means)))

-- an index that its text does not name as its row does
pub other-name : (format : ℕ) (row : SchemaRow) (table : Result Table SqlFault) (meaning : Result Index SqlFault) (alike : Bool) → IsIndexMeaning format row table meaning
    → IsTrue alike ↔ IfOk meaning (IsNamedAlike row) → alike ≡ false → (index : Result Index SqlFault) → IsIndexMeaning format row table index → ¬ IfOk index (IsNamedAlike row)
other-name format row table meaning alike means told e index also named =
    let same = index_meaning-one format row table index meaning also means in
    false-true (sym e ∙ told.1 (subst (λ (i : Result Index SqlFault). IfOk i (IsNamedAlike row)) same named))

-- a table whose text is missing has no meaning
pub none-real : (found : Found) (row : SchemaRow) → found.row ≡ Some row → row.kind ≡ kind.Table → found.meaning ≡ None → IsMeant found → (meaning : Result Table SqlFault) → ¬ HasRealMeaning found meaning
none-real found row e kind none meant meaning has =
    let at : IsFoundMeaning (Some row) None = subst (IsFoundMeaning (Some row)) none (subst (λ (r : Option SchemaRow). IsFoundMeaning r found.meaning) e meant) in
    let real : IsRealMeaning (Some row) meaning = subst (λ (r : Option SchemaRow). IsRealMeaning r meaning) e has in
    at meaning (subst⁻¹ (λ (k : SchemaKind). IsTableMeaning k row.sql meaning) kind real.1)
