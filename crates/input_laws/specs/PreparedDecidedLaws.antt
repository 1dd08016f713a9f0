-- Whether a member of a `data_` table's tree prepares a row is decided: crates above cite these facts in their proofs.
use Rattle.std.proofs.Common.{◌≡◌, ◌≢◌, ℕ, pos, negsuc, Bool, true, false, List, [], ◌∷◌, length, map, Option, Some, None, refl, sym, ap, ◌∙◌, subst, inl, inr}
use Rattle.std.proofs.Math.Path.{subst⁻¹}
use Rattle.std.specs.Prelude.{codes}
use Rattle.std.proofs.lemmas.Bool.{cases_eq}
use Rattle.std.proofs.lemmas.List.{length-map}
use Rattle.common_spec.specs.Reading.{OrNone}
use Rattle.rbu_value.specs.declared.value.Value.{Value}
use Rattle.rbu_value.specs.declared.value.Value.TheVariants.{Null, Int, Text, Blob}
use Rattle.format_spec.specs.Record.{IsRecord}
use Rattle.rbu_rows.specs.declared.control.Control.{Control}
use Rattle.rbu_rows.specs.declared.control.Control.TheVariants.{Insert, Replace, Delete, Update}
use Rattle.rbu_rows.specs.declared.prepared.Prepared.{Prepared}
use Rattle.rbu_rows.specs.Controls.{letter_of, IsControl}
use Rattle.schema_spec.specs.declared.schema.Table.{Table}
use Rattle.tree_spec.specs.Trees.{Member}
use Rattle.database_spec.specs.Rows.{TableRow, with_rowid, IsRow}
use Rattle.database_spec.specs.RowsLaws.{record-one, row-one}
use Rattle.prepared_spec.specs.RowKeys.{key_at}
use Rattle.prepared_spec.specs.PreparedRows.{value_named, target_values, in_target_order, control_value, Prepares, IsPrepared}
use Rattle.walk_laws.specs.CellsDecidedLaws.{Decided, decided-by}
use Rattle.walk_laws.specs.RecordsDecidedLaws.{record-decided}

-- Controls.

abbrev AreMarks : List ℕ → List Bool → Type 0
AreMarks text marks = text ≡ map letter_of marks

abbrev HasMarks : List ℕ → Type 0
HasMarks text = (marks : List Bool) × AreMarks text marks

-- a text is of letters of marks, or it is not
marks-decided : (text : List ℕ) → Decided (HasMarks text)
marks-decided [] = inl ([], refl)
marks-decided (b ∷ text) = by (cases_eq b 120) (cases_eq b 46) (marks-decided text)
  where
    first : HasMarks (b ∷ text) → b ≢ 120 → b ≢ 46 → ⊥
    first ([], e) p q = cc
    first (true ∷ marks, e) p q = p (cc)
    first (false ∷ marks, e) p q = q (cc)

    later : HasMarks (b ∷ text) → HasMarks text
    later ([], e) = absurd (let no : ⊥ = cc in no)
    later (mark ∷ marks, e) = (marks, cc)

    joined : (mark : Bool) → b ≡ letter_of mark → HasMarks text → HasMarks (b ∷ text)
    joined mark p (marks, e) = (mark ∷ marks, cc)

    by : Decided (b ≡ 120) → Decided (b ≡ 46) → Decided (HasMarks text) → Decided (HasMarks (b ∷ text))
    by (inl x) dot (inl has) = inl (joined true x has)
    by (inr other) (inl dot) (inl has) = inl (joined false dot has)
    by (inr other) (inr none) (inl has) = inr (λ all. first all other none)
    by x dot (inr none) = inr (λ all. none (later all))

-- a value says which columns are updated
abbrev Updates : Value → ℕ → Type 0
Updates value columns = (marks : List Bool) × IsControl value columns (Update marks)

update-decided : (value : Value) (columns : ℕ) → Decided (Updates value columns)
update-decided Null columns = inr none
  where
    none : Updates Null columns → ⊥
    none (marks, (e, many)) = cc
update-decided (Int z) columns = inr none
  where
    none : Updates (Int z) columns → ⊥
    none (marks, (e, many)) = cc
update-decided (Blob blob) columns = inr none
  where
    none : Updates (Blob blob) columns → ⊥
    none (marks, (e, many)) = cc
update-decided (Text text) columns = by (marks-decided text)
  where
    marked : Updates (Text text) columns → HasMarks text
    marked (marks, (e, many)) = (marks, cc)

    counted : Updates (Text text) columns → length text ≡ columns
    counted (marks, (e, many)) = let same : text ≡ map letter_of marks = cc in ap length same ∙ length-map marks letter_of ∙ many

    by : Decided (HasMarks text) → Decided (Updates (Text text) columns)
    by (inl (marks, are)) = decided-by (λ many. (marks, (ap Text are, sym (length-map marks letter_of) ∙ sym (ap length are) ∙ many))) counted (cases_eq (length text) columns)
    by (inr none) = inr (λ updates. none (marked updates))

number-decided : (value : Value) (number : ℕ) → Decided (value ≡ Int (pos number))
number-decided Null number = inr (λ e. cc)
number-decided (Text text) number = inr (λ e. cc)
number-decided (Blob blob) number = inr (λ e. cc)
number-decided (Int (negsuc n)) number = inr (λ e. cc)
number-decided (Int (pos n)) number = decided-by (λ e. ap (λ (k : ℕ). Int (pos k)) e) (λ e. cc) (cases_eq n number)

abbrev HasControl : Value → ℕ → Type 0
HasControl value columns = (control : Control) × IsControl value columns control

-- a value is a control or none
pub control-decided : (value : Value) (columns : ℕ) → Decided (HasControl value columns)
control-decided value columns = by (number-decided value 0) (number-decided value 1) (number-decided value 2) (update-decided value columns)
  where
    none : value ≢ Int (pos 0) → value ≢ Int (pos 1) → value ≢ Int (pos 2) → (Updates value columns → ⊥) → HasControl value columns → ⊥
    none p q r s (Insert, is) = p is
    none p q r s (Delete, is) = q is
    none p q r s (Replace, is) = r is
    none p q r s (Update marks, is) = s (marks, is)

    by : Decided (value ≡ Int (pos 0)) → Decided (value ≡ Int (pos 1)) → Decided (value ≡ Int (pos 2)) → Decided (Updates value columns) → Decided (HasControl value columns)
    by (inl is) q r s = inl (Insert, is)
    by (inr p) (inl is) r s = inl (Delete, is)
    by (inr p) (inr q) (inl is) s = inl (Replace, is)
    by (inr p) (inr q) (inr r) (inl (marks, is)) = inl (Update marks, is)
    by (inr p) (inr q) (inr r) (inr s) = inr (none p q r s)

-- Rows.

abbrev HasValues : List ℕ → Type 0
HasValues payload = (values : List Value) × IsRecord payload values

abbrev HasRow : Table → Member → Type 0
HasRow table member = (row : TableRow) × IsRow table member row

-- a member is a row of a table or none
pub row-decided : (table : Table) (member : Member) → Decided (HasRow table member)
row-decided table member = by (record-decided member.payload)
  where
    within : (found : HasValues member.payload) → Decided (length found.0 ≡ length table.columns) → Decided (HasRow table member)
    within found (inl many) =
        inl (
          record { rowid = member.rowid; values = with_rowid table.rowid_column member.rowid found.0; payload = member.payload },
          record { stored = found.0; is_record = found.1; many = many; rowid = refl; values = refl; payload = refl },
        )
    within found (inr none) =
        inr (λ row. none (subst (λ (values : List Value). length values ≡ length table.columns) (record-one member.payload row.1.stored found.0 row.1.is_record found.1) row.1.many))

    by : Decided (HasValues member.payload) → Decided (HasRow table member)
    by (inl found) = within found (cases_eq (length found.0) (length table.columns))
    by (inr none) = inr (λ row. none (row.1.stored, row.1.is_record))

module _ (target own : Table) (member : Member) where
  abbrev HasPrepared : Type 0
  HasPrepared = (prepared : Prepared) × IsPrepared target own member prepared

  prepared-made : (row : TableRow) → IsRow own member row → HasControl (control_value own row) (length target.columns) → HasPrepared
  prepared-made row is (control, is_control) = (
    record {
      data_rowid = row.rowid;
      key = key_at target.key (value_named own (codes "rbu_rowid") row) (target_values target own row);
      values = target_values target own row;
      control = in_target_order target own control;
    },
    (row, is, record { control = control; is_control = is_control; control_is = refl; data_rowid = refl; values = refl; key = refl }),
  )

  prepared-row : HasPrepared → HasRow own member
  prepared-row (prepared, (row, is, prepares)) = (row, is)

  prepared-control : (row : TableRow) → IsRow own member row → HasPrepared → HasControl (control_value own row) (length target.columns)
  prepared-control row is (prepared, (other, also, prepares)) =
      subst (λ (r : TableRow). HasControl (control_value own r) (length target.columns)) (row-one own member other row also is) (prepares.control, prepares.is_control)

  -- a member prepares a row or none
  pub prepared-decided : Decided HasPrepared
  prepared-decided = by (row-decided own member)
    where
      by : Decided (HasRow own member) → Decided HasPrepared
      by (inl (row, is)) = decided-by (prepared-made row is) (prepared-control row is) (control-decided (control_value own row) (length target.columns))
      by (inr none) = inr (λ has. none (prepared-row has))

  pub prepared-some : (prepared : Option Prepared) × OrNone (IsPrepared target own member) prepared
  prepared-some = by prepared-decided
    where
      by : Decided HasPrepared → (prepared : Option Prepared) × OrNone (IsPrepared target own member) prepared
      by (inl (prepared, is)) = (Some prepared, is)
      by (inr none) = (None, λ prepared is. none (prepared, is))
