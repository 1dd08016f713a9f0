-- The row that a prepared row meets, among rows that are known by their rowids.
use Rattle.std.proofs.Common.{◌≡◌, ◌≢◌, ℕ, ℤ, suc, ◌<ℤ◌, ◌&&◌, ◌||◌, ◌⊎◌, not, Bool, true, false, List, [], ◌∷◌, map, Option, Some, None, is_some, if◌then◌else◌, cond, refl, sym, ap, ap₂, ◌∙◌, subst, inl, inr, arith}
use Rattle.std.proofs.Math.Path.{subst⁻¹}
use Rattle.std.specs.Prelude.{Contains, find}
use Rattle.std.specs.List.{AllZip, list_any}
use Rattle.std.proofs.lemmas.Int.{ints}
use Rattle.rbu_value.specs.declared.value.Value.{Value}
use Rattle.rbu_rows.specs.declared.prepared.Prepared.{Prepared}
use Rattle.schema_spec.specs.declared.schema.Table.{Table}
use Rattle.tree_spec.specs.Trees.{Member}
use Rattle.database_spec.specs.ListsLaws.{PairsByRecursion}
use Rattle.database_spec.specs.Rows.{TableRow, IsRow}
use Rattle.database_spec.specs.RowsLaws.{row-one}
use Rattle.prepared_spec.specs.MembersLaws.{Has, any-has, decide, has-any, has-from, has-to, true-false}
use Rattle.prepared_spec.specs.Outcomes.{row_member}
use Rattle.prepared_spec.specs.RowKeys.{is_met, meets}
use Rattle.prepared_spec.specs.StepRecords.{put_row}
use Rattle.prepared_spec.specs.Tables.{is_new, makes_row, met_row, new_rowid, written_row}
use Rattle.prepared_laws.specs.TablesMadeLaws.{pairs-weaken}
use Rattle.touched_rows.specs.TouchedRowsLaws.{apart-one}
use Rattle.pass_spec.specs.BatchStepsLaws.{any-found, found-has}
use Rattle.pass_spec.specs.TableSteps.{MeetsRowid}
use Rattle.row_steps.specs.RowSteps.{row_of}
use Rattle.row_values.specs.Values.{HasValues, member_with}
use Rattle.imposter.specs.Finds.{IsMetIn}

module _ (table : Table) where
  -- members are those of their rows
  pub members-are : (members : List Member) (rows : List TableRow) → AllZip (IsRow table) members rows → members ≡ map row_member rows
  members-are [] [] are = refl
  members-are [] (row ∷ rows) are = absurd are
  members-are (m ∷ members) [] are = absurd are
  members-are (m ∷ members) (row ∷ rows) are =
      let own : m ≡ row_member row = λ i. record { rowid = sym are.0.rowid i; payload = sym are.0.payload i } in
      ap₂ (λ (x : Member) (xs : List Member). x ∷ xs) own (members-are members rows are.1)

  -- a member of which a row was read is that row
  row-there : (members : List Member) (rows : List TableRow) → AllZip (IsRow table) members rows → (rowid : ℤ) (payload : List ℕ) (values : List Value) → Has (member_with rowid payload) members
      → HasValues table rowid payload values → Has (row_of (rowid, values) payload) rows
  row-there [] rows are rowid payload values h is = absurd h
  row-there (m ∷ members) [] are rowid payload values h is = absurd are
  row-there (m ∷ members) (row ∷ rows) are rowid payload values (inl e) is =
      inl (row-one table (member_with rowid payload) row (row_of (rowid, values) payload) (subst (λ (x : Member). IsRow table x row) e are.0) is)
  row-there (m ∷ members) (row ∷ rows) are rowid payload values (inr h) is = inr (row-there members rows are.1 rowid payload values h is)

  -- a row has a member
  member-there : (members : List Member) (rows : List TableRow) → AllZip (IsRow table) members rows → (row : TableRow) → Has row rows → (m : Member) × Has m members × (m.rowid ≡ row.rowid)
  member-there [] [] are row h = absurd h
  member-there [] (r ∷ rows) are row h = absurd are
  member-there (m ∷ members) [] are row h = absurd h
  member-there (m ∷ members) (r ∷ rows) are row (inl e) = (m, inl refl, sym are.0.rowid ∙ ap (λ (x : TableRow). x.rowid) e)
  member-there (m ∷ members) (r ∷ rows) are row (inr h) = let rest = member-there members rows are.1 row h in (rest.0, inr rest.1, rest.2)

  -- the row that was found by its rowid, or there is none
  abbrev pub IsFound : ℤ → List TableRow → Option (ℤ × List Value) → Type 0
  IsFound rowid rows (Some met) = (met.0 ≡ rowid) × ((payload : List ℕ) × Has (row_of met payload) rows)
  IsFound rowid rows None = (row : TableRow) → Has row rows → row.rowid ≢ rowid

  pub found-rows : (rowid : ℤ) (members : List Member) (rows : List TableRow) → AllZip (IsRow table) members rows → (met : Option (ℤ × List Value)) → IsMetIn table rowid members met → IsFound rowid rows met
  found-rows rowid members rows are (Some met) is =
      let there = row-there members rows are rowid is.1.0 met.1 (has-from members (member_with rowid is.1.0) is.1.1) is.1.2 in
      (is.0, (is.1.0, subst⁻¹ (λ (z : ℤ). Has (row_of (z, met.1) is.1.0) rows) is.0 there))
  found-rows rowid members rows are None is = λ row h same.
      let m = member-there members rows are row h in
      is m.0 (has-to members m.0 m.1) (m.2 ∙ same)

-- tests of lists

unfound : {A : Type 0} (test : A → Bool) (xs : List A) → list_any test xs ≡ false → find test xs ≡ None
unfound test [] e = refl
unfound test (x ∷ xs) e = by (test x) e (unfound test xs)
  where
    by : (t : Bool) → (t || list_any test xs) ≡ false → (list_any test xs ≡ false → find test xs ≡ None) → cond t (Some x) (find test xs) ≡ None
    by true f later = absurd (let h : ◌≡◌ {A = Bool} true false = f in let no : ⊥ = cc in no)
    by false f later = later f

and-false : (t : Bool) → (t && false) ≡ false
and-false true = refl
and-false false = refl

and-true : (t : Bool) → (t && true) ≡ t
and-true true = refl
and-true false = refl

-- A prepared row meets the row of a rowid.
module _ (table : Table) (rows : List TableRow) (p : Prepared) (rowid : ℤ) (rise : PairsByRecursion (λ (a b : TableRow). a.rowid <ℤ b.rowid) rows) (meets_it : MeetsRowid table rows p rowid) where
  abbrev Test : TableRow → Bool
  Test row = meets table row p

  same-row : (x y : TableRow) → Has x rows → Has y rows → x.rowid ≡ y.rowid → x ≡ y
  same-row x y h k e = apart-one rows (pairs-weaken (λ (a b : TableRow). a.rowid <ℤ b.rowid) (λ (a b : TableRow). a.rowid ≢ b.rowid) rows (λ a b less same. omega (arith, ints, less, same)) rise) x y h k e

  -- the one that it meets is that one
  pub met-one : (row : TableRow) → Has row rows → row.rowid ≡ rowid → (x : TableRow) → Has x rows → Test x ≡ true → x ≡ row
  met-one row h e x k m = same-row x row k h ((meets_it x (has-to rows x k)).1 m ∙ sym e)

  is-met : (row : TableRow) → Has row rows → row.rowid ≡ rowid → is_met table rows p ≡ true
  is-met row h e = has-any Test rows row h ((meets_it row (has-to rows row h)).0 e)

  found-met : (row : TableRow) → Has row rows → row.rowid ≡ rowid → find Test rows ≡ Some row
  found-met row h e =
      let found = any-found Test rows (is-met row h e) in
      let has = found-has Test rows found.0 found.1 in
      found.1 ∙ ap Some (met-one row h e found.0 has.0 has.1)

  is-unmet : ((row : TableRow) → Has row rows → row.rowid ≢ rowid) → is_met table rows p ≡ false
  is-unmet none =
      elim (decide (list_any Test rows)) [
        | inl m ↦ let found = any-has Test rows m in absurd (none found.0 found.1 ((meets_it found.0 (has-to rows found.0 found.1)).1 found.2))
        | inr u ↦ u
      ]

  pub met-is : (met : Option (ℤ × List Value)) → IsFound table rowid rows met → is_met table rows p ≡ is_some met
  met-is (Some met) found = is-met (row_of met found.1.0) found.1.1 found.0
  met-is None none = is-unmet none

  pub new-is : (met : Option (ℤ × List Value)) → IsFound table rowid rows met → is_new table rows p ≡ (makes_row p.control && not (is_some met))
  new-is met found = ap (λ (t : Bool). makes_row p.control && not t) (met-is met found)

  module _ (format : ℕ) (g : ℤ) (taken : ℕ) where
    abbrev Put : Option TableRow
    Put = put_row format table g taken rows p

    abbrev Made : TableRow
    Made = written_row format table (new_rowid table g (suc taken) p) p.values

    abbrev behind : Option TableRow → Option TableRow
    behind found = elim found as (λ _. Option TableRow) [ None ↦ None | Some row ↦ met_row format table row p.control p.values ]

    -- what it puts where it meets a row
    pub put-met : (row : TableRow) → Has row rows → row.rowid ≡ rowid → Put ≡ met_row format table row p.control p.values
    put-met row h e =
        let old : is_new table rows p ≡ false = ap (λ (t : Bool). makes_row p.control && not t) (is-met row h e) ∙ and-false (makes_row p.control) in
        ap (λ (t : Bool). if t then Some Made else behind (find Test rows)) old ∙ ap behind (found-met row h e)

    -- and where it meets none
    pub put-new : ((row : TableRow) → Has row rows → row.rowid ≢ rowid) → makes_row p.control ≡ true → Put ≡ Some Made
    put-new none makes =
        let new : is_new table rows p ≡ true = ap (λ (t : Bool). makes_row p.control && not t) (is-unmet none) ∙ and-true (makes_row p.control) ∙ makes in
        ap (λ (t : Bool). if t then Some Made else behind (find Test rows)) new

    pub put-none : ((row : TableRow) → Has row rows → row.rowid ≢ rowid) → makes_row p.control ≡ false → Put ≡ None
    put-none none makes =
        let old : is_new table rows p ≡ false = ap (λ (t : Bool). makes_row p.control && not t) (is-unmet none) ∙ and-true (makes_row p.control) ∙ makes in
        ap (λ (t : Bool). if t then Some Made else behind (find Test rows)) old ∙ ap behind (unfound Test rows (is-unmet none))
