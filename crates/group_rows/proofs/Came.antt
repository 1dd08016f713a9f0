-- What the steps of a batch come to, by its prepared rows before the first fault and those from it on.
use Rattle.std.proofs.Common.{◌≡◌, ℕ, ℤ, suc, ◌⊎◌, ◌&&◌, ◌||◌, not, Bool, true, false, List, [], ◌∷◌, ◌++◌, length, map, Option, Some, None, if◌then◌else◌, cond, refl, sym, ap, ap₂, ◌∙◌, subst, inl, inr}
use Rattle.std.proofs.Math.Path.{subst⁻¹}
use Rattle.std.proofs.lemmas.List.{append_assoc, append-nil}
use Rattle.std.specs.Prelude.{filter_map, flat_map, replicate, is_some}
use Rattle.std.specs.List.{AllByRecursion, list_any}
use Rattle.rbu_value.specs.declared.value.Value.{Value}
use Rattle.rbu_rows.specs.declared.prepared.Prepared.{Prepared}
use Rattle.schema_spec.specs.declared.schema.Table.{Table}
use Rattle.database_spec.specs.Rows.{TableRow}
use Rattle.prepared_spec.specs.declared.violation.Violation.{Violation}
use Rattle.prepared_spec.specs.declared.violation.Violation.TheVariants.{NotNull, KeyPresent, RowidsSpent}
use Rattle.prepared_spec.specs.RowKeys.{is_met}
use Rattle.prepared_spec.specs.Tables.{makes_row, written_row, is_new, new_rowid, new_rows}
use Rattle.prepared_spec.specs.StepFaults.{is_insert, is_spent, row_fault}
use Rattle.prepared_spec.specs.Plans.{batch_faults}
use Rattle.prepared_spec.specs.MembersLaws.{Has, has-left, has-right, has-either}
use Rattle.row_steps.specs.RowSteps.{fault_where, made_values, written_null}
use Rattle.touched_rows.specs.TouchedRows.{rows_before_fault}
use Rattle.group_rows.specs.GivenRows.{given}
use Rattle.group_rows.specs.Runs.{Run, any_row, changed, passed_over, noted, with_made, with_changed, makes, done, is_over, stepped, all_stepped}

-- whether there is a fault does not go by the table's name
pub fault-unnamed : (name : List ℕ) (table : Table) (g : ℤ) (taken : ℕ) (met : Bool) (prepared : Prepared) → is_some (fault_where [] table g taken met prepared) ≡ is_some (fault_where name table g taken met prepared)
fault-unnamed name table g taken met prepared = by (written_null table met prepared) (is_insert prepared.control && met) ((makes_row prepared.control && not met) && is_spent table g (suc taken))
  where
    by : (o : Option (List ℕ)) (s t : Bool)
        → is_some (elim o as (λ _. Option Violation) [ Some column ↦ Some (NotNull [] prepared.data_rowid column) | None ↦ if s then Some (KeyPresent [] prepared.data_rowid) else (if t then Some (RowidsSpent []) else None) ])
        ≡ is_some (elim o as (λ _. Option Violation) [ Some column ↦ Some (NotNull name prepared.data_rowid column) | None ↦ if s then Some (KeyPresent name prepared.data_rowid) else (if t then Some (RowidsSpent name) else None) ])
    by (Some column) s t = refl
    by None true t = refl
    by None false true = refl
    by None false false = refl

-- a row that is made without a fault has a rowid
pub fault-spent : (name : List ℕ) (table : Table) (g : ℤ) (taken : ℕ) (met : Bool) (prepared : Prepared) → is_some (fault_where name table g taken met prepared) ≡ false → (makes_row prepared.control && not met) ≡ true
    → is_spent table g (suc taken) ≡ false
fault-spent name table g taken met prepared none new = by (written_null table met prepared) (is_insert prepared.control && met) (makes_row prepared.control && not met) (is_spent table g (suc taken)) new none
  where
    by : (o : Option (List ℕ)) (s t u : Bool) → t ≡ true
        → is_some (elim o as (λ _. Option Violation) [ Some column ↦ Some (NotNull name prepared.data_rowid column) | None ↦ if s then Some (KeyPresent name prepared.data_rowid) else (if t && u then Some (RowidsSpent name) else None) ])
        ≡ false → u ≡ false
    by (Some column) s t u e f = absurd (let h : ◌≡◌ {A = Bool} true false = f in let no : ⊥ = cc in no)
    by None true t u e f = absurd (let h : ◌≡◌ {A = Bool} true false = f in let no : ⊥ = cc in no)
    by None false true true e f = absurd (let h : ◌≡◌ {A = Bool} true false = f in let no : ⊥ = cc in no)
    by None false true false e f = refl
    by None false false u e f = absurd (let h : ◌≡◌ {A = Bool} false true = e in let no : ⊥ = cc in no)

module _ (format : ℕ) (name : List ℕ) (table : Table) (g : ℤ) (before : List TableRow) (found : Prepared → List (ℤ × List Value)) where
  abbrev pub due : Prepared → List (ℤ × List Value) × Prepared
  due prepared = (found prepared, prepared)

  -- what is met is found
  abbrev pub IsFound : Prepared → Type 0
  IsFound prepared = any_row (found prepared) ≡ is_met table before prepared

  abbrev pub made_by : ℕ → List Prepared → List TableRow
  made_by taken rows = new_rows format table g taken before rows

  abbrev pub Changes : List Prepared → ℤ × List Value → Type 0
  Changes rows row = (prepared : Prepared) × Has prepared rows × Has row (filter_map (changed table prepared) (found prepared))

  abbrev pub Stays : List Prepared → ℤ × List Value → Type 0
  Stays rows row = (prepared : Prepared) × Has prepared rows × Has row (found prepared)

  abbrev pub StoodFrom : List (ℤ × List Value) → ℕ → List Prepared → List Prepared → ℤ × List Value → Type 0
  StoodFrom start taken front rest row = Has row start ⊎ (Has row (map given (made_by taken front)) ⊎ (Changes front row ⊎ Stays rest row))

  -- behind the steps of these rows, of which those of the rest were not reached
  pub record Came (run : Run) (taken : ℕ) (front rest : List Prepared) (flag : Bool) (result : Run) : Type 0 where
    pub only : (row : ℤ × List Value) → Has row result.rows → StoodFrom run.rows taken front rest row
    pub all : (row : ℤ × List Value) → StoodFrom run.rows taken front rest row → Has row result.rows
    pub met : result.met ≡ run.met ++ flat_map (λ prepared. map (λ row. row.0) (found prepared)) front
    pub made : result.made ≡ run.made ++ map (λ row. row.rowid) (made_by taken front)
    pub marks : result.marks ≡ run.marks ++ (map (is_new table before) front ++ replicate (length rest) false)
    pub stopped : result.stopped ≡ flag

  no-more : (start : List (ℤ × List Value)) (taken : ℕ) (row : ℤ × List Value) → StoodFrom start taken [] [] row → Has row start
  no-more start taken row (inl h) = h
  no-more start taken row (inr (inl h)) = absurd h
  no-more start taken row (inr (inr (inl (p, h, k)))) = absurd h
  no-more start taken row (inr (inr (inr (p, h, k)))) = absurd h

  -- Steps that are not reached.

  over-is : (run : Run) (prepared : Prepared) → run.stopped ≡ true → is_over table g prepared (found prepared) run ≡ true
  over-is run prepared e = ap (λ t. t || is_some (fault_where [] table g (length run.made) (any_row (found prepared)) prepared)) e

  all-over : (rows : List Prepared) (run : Run) → run.stopped ≡ true → Came run (length run.made) [] rows true (all_stepped table g (map due rows) run)
  all-over [] run e = record {
    only = λ row h. inl h;
    all = λ row h. no-more run.rows (length run.made) row h;
    met = sym (append-nil run.met);
    made = sym (append-nil run.made);
    marks = sym (append-nil run.marks);
    stopped = e;
  }
  all-over (prepared ∷ rows) run e =
      let next = passed_over (found prepared) run in
      let step : stepped table g (due prepared) run ≡ next = ap (λ (t : Bool). cond t next (done table g prepared (found prepared) run)) (over-is run prepared e) in
      let later = all-over rows next refl in
      let moved : all_stepped table g (map due (prepared ∷ rows)) run ≡ all_stepped table g (map due rows) next = ap (all_stepped table g (map due rows)) step in
      subst⁻¹ (Came run (length run.made) [] (prepared ∷ rows) true) moved (record {
        only = λ row h. from row (later.only row h);
        all = λ row h. later.all row (to row h);
        met = later.met;
        made = later.made;
        marks = later.marks ∙ append_assoc run.marks (false ∷ []) (replicate (length rows) false);
        stopped = later.stopped;
      })
    where
      from : (row : ℤ × List Value) → StoodFrom (run.rows ++ found prepared) (length run.made) [] rows row → StoodFrom run.rows (length run.made) [] (prepared ∷ rows) row
      from row (inl h) = elim (has-either run.rows (found prepared) row h) [ inl a ↦ inl a | inr b ↦ inr (inr (inr (prepared, inl refl, b))) ]
      from row (inr (inl h)) = inr (inl h)
      from row (inr (inr (inl h))) = inr (inr (inl h))
      from row (inr (inr (inr (p, h, k)))) = inr (inr (inr (p, inr h, k)))

      to : (row : ℤ × List Value) → StoodFrom run.rows (length run.made) [] (prepared ∷ rows) row → StoodFrom (run.rows ++ found prepared) (length run.made) [] rows row
      to row (inl h) = inl (has-left run.rows (found prepared) row h)
      to row (inr (inl h)) = inr (inl h)
      to row (inr (inr (inl h))) = inr (inr (inl h))
      to row (inr (inr (inr (p, inl same, k)))) = inl (has-right run.rows (found prepared) row (subst (λ (q : Prepared). Has row (found q)) (sym same) k))
      to row (inr (inr (inr (p, inr h, k)))) = inr (inr (inr (p, h, k)))

  -- One step.

  module _ (prepared : Prepared) (run : Run) where
    abbrev row_made : ℤ × List Value
    row_made = made_values table g (length run.made) prepared

    abbrev after : Bool → Bool → Run
    after b c = with_changed table prepared (found prepared) (cond b (with_made table g prepared (noted c run)) (noted c run))

    abbrev changes : List (ℤ × List Value)
    changes = filter_map (changed table prepared) (found prepared)

    after-rows : (b c : Bool) → (after b c).rows ≡ run.rows ++ (cond b (row_made ∷ []) [] ++ changes)
    after-rows true c = append_assoc run.rows (row_made ∷ []) changes
    after-rows false c = refl

    after-met : (b c : Bool) → (after b c).met ≡ run.met ++ map (λ r. r.0) (found prepared)
    after-met true c = refl
    after-met false c = refl

    after-made : (b c : Bool) → (after b c).made ≡ run.made ++ cond b (row_made.0 ∷ []) []
    after-made true c = refl
    after-made false c = sym (append-nil run.made)

    after-marks : (b c : Bool) → (after b c).marks ≡ run.marks ++ c ∷ []
    after-marks true c = refl
    after-marks false c = refl

    after-stopped : (b c : Bool) → (after b c).stopped ≡ run.stopped
    after-stopped true c = refl
    after-stopped false c = refl

    length-more : (xs : List ℤ) (x : ℤ) → length (xs ++ x ∷ []) ≡ suc (length xs)
    length-more [] x = refl
    length-more (y ∷ xs) x = ap suc (length-more xs x)

    after-taken : (b c : Bool) → length (after b c).made ≡ cond b (suc (length run.made)) (length run.made)
    after-taken true c = length-more run.made row_made.0
    after-taken false c = refl

  -- with one row more in front
  module _ (prepared : Prepared) (rows : List Prepared) (taken : ℕ) where
    abbrev made_row : TableRow
    made_row = written_row format table (new_rowid table g (suc taken) prepared) prepared.values

    abbrev made_where : Bool → List TableRow
    made_where t = if t then made_row ∷ made_by (suc taken) rows else made_by taken rows

    abbrev later_made : Bool → List TableRow
    later_made t = made_by (cond t (suc taken) taken) rows

    made-cases : (t : Bool) (r : ℤ × List Value) → Has r (map given (made_where t)) → Has r (cond t (given made_row ∷ []) []) ⊎ Has r (map given (later_made t))
    made-cases true r (inl e) = inl (inl e)
    made-cases true r (inr h) = inr h
    made-cases false r h = inr h

    made-first : (t : Bool) (r : ℤ × List Value) → Has r (cond t (given made_row ∷ []) []) → Has r (map given (made_where t))
    made-first true r (inl e) = inl e
    made-first true r (inr h) = absurd h
    made-first false r h = absurd h

    made-later : (t : Bool) (r : ℤ × List Value) → Has r (map given (later_made t)) → Has r (map given (made_where t))
    made-later true r h = inr h
    made-later false r h = h

    made-ids : (t : Bool) (start : List ℤ) → (start ++ cond t (made_row.rowid ∷ []) []) ++ map (λ (r : TableRow). r.rowid) (later_made t) ≡ start ++ map (λ (r : TableRow). r.rowid) (made_where t)
    made-ids true start = append_assoc start (made_row.rowid ∷ []) (map (λ (r : TableRow). r.rowid) (made_by (suc taken) rows))
    made-ids false start = ap (λ l. l ++ map (λ (r : TableRow). r.rowid) (made_by taken rows)) (append-nil start)

  -- What the steps of these rows come to.

  abbrev Comes : List Prepared → ℕ → Run → Type 0
  Comes rows taken run =
      (rest : List Prepared) × (rows ≡ rows_before_fault rows (batch_faults name table g taken before rows) ++ rest)
      × Came run taken (rows_before_fault rows (batch_faults name table g taken before rows)) rest (list_any is_some (batch_faults name table g taken before rows)) (all_stepped table g (map due rows) run)

  pub comes : (rows : List Prepared) (taken : ℕ) (run : Run) → run.stopped ≡ false → length run.made ≡ taken → AllByRecursion IsFound rows → Comes rows taken run
  comes [] taken run going e all = (
    [],
    refl,
    record {
      only = λ row h. inl h;
      all = λ row h. no-more run.rows taken row h;
      met = sym (append-nil run.met);
      made = sym (append-nil run.made);
      marks = sym (append-nil run.marks);
      stopped = going;
    },
  )
  comes (prepared ∷ rows) taken run going e all =
      by (row_fault name table g taken before prepared) refl (λ n next_run going_on count. comes rows n next_run going_on count all.1)
    where
      next : Bool → ℕ
      next t = cond t (suc taken) taken

      over : is_over table g prepared (found prepared) run ≡ is_some (row_fault name table g taken before prepared)
      over =
          ap (λ (t : Bool). t || is_some (fault_where [] table g (length run.made) (any_row (found prepared)) prepared)) going
          ∙ fault-unnamed name table g (length run.made) (any_row (found prepared)) prepared
          ∙ ap₂ (λ (n : ℕ) (met : Bool). is_some (fault_where name table g n met prepared)) e all.0

      mark : makes prepared (found prepared) ≡ is_new table before prepared
      mark = ap (λ (met : Bool). makes_row prepared.control && not met) all.0

      Whole : Option Violation → List (Option Violation) → Type 0
      Whole o faults =
          (rest : List Prepared) × (prepared ∷ rows ≡ rows_before_fault (prepared ∷ rows) (o ∷ faults) ++ rest)
          × Came run taken (rows_before_fault (prepared ∷ rows) (o ∷ faults)) rest (is_some o || list_any is_some faults) (all_stepped table g (map due (prepared ∷ rows)) run)

      by : (o : Option Violation) → row_fault name table g taken before prepared ≡ o → ((n : ℕ) (next_run : Run) → next_run.stopped ≡ false → length next_run.made ≡ n → Comes rows n next_run) → Comes (prepared ∷ rows) taken run
      by (Some fault) f rest_comes =
          let faults = batch_faults name table g (if is_new table before prepared then suc taken else taken) before rows in
          let moved : all_stepped table g (map due (prepared ∷ rows)) run ≡ all_stepped table g (map due rows) (passed_over (found prepared) run) =
          ap (λ (t : Bool). all_stepped table g (map due rows) (cond t (passed_over (found prepared) run) (done table g prepared (found prepared) run))) (over ∙ ap is_some f) in
          let later = all-over rows (passed_over (found prepared) run) refl in
          subst⁻¹ (λ (o : Option Violation). Whole o faults) f (
            prepared ∷ rows,
            refl,
            subst⁻¹ (Came run taken [] (prepared ∷ rows) true) moved (record {
              only = λ row h. over-from row (later.only row h);
              all = λ row h. later.all row (over-to row h);
              met = later.met;
              made = later.made;
              marks = later.marks ∙ append_assoc run.marks (false ∷ []) (replicate (length rows) false);
              stopped = later.stopped;
            }),
          )
        where
          over-from : (row : ℤ × List Value) → StoodFrom (run.rows ++ found prepared) (length run.made) [] rows row → StoodFrom run.rows taken [] (prepared ∷ rows) row
          over-from row (inl h) = elim (has-either run.rows (found prepared) row h) [ inl a ↦ inl a | inr b ↦ inr (inr (inr (prepared, inl refl, b))) ]
          over-from row (inr (inl h)) = inr (inl h)
          over-from row (inr (inr (inl h))) = inr (inr (inl h))
          over-from row (inr (inr (inr (p, h, k)))) = inr (inr (inr (p, inr h, k)))

          over-to : (row : ℤ × List Value) → StoodFrom run.rows taken [] (prepared ∷ rows) row → StoodFrom (run.rows ++ found prepared) (length run.made) [] rows row
          over-to row (inl h) = inl (has-left run.rows (found prepared) row h)
          over-to row (inr (inl h)) = inr (inl h)
          over-to row (inr (inr (inl h))) = inr (inr (inl h))
          over-to row (inr (inr (inr (p, inl same, k)))) = inl (has-right run.rows (found prepared) row (subst (λ (q : Prepared). Has row (found q)) (sym same) k))
          over-to row (inr (inr (inr (p, inr h, k)))) = inr (inr (inr (p, h, k)))
      by None f rest_comes =
          let t = is_new table before prepared in
          let b = makes prepared (found prepared) in
          let run2 = done table g prepared (found prepared) run in
          let faults = batch_faults name table g (if t then suc taken else taken) before rows in
          let moved : all_stepped table g (map due (prepared ∷ rows)) run ≡ all_stepped table g (map due rows) run2 =
          ap (λ (s : Bool). all_stepped table g (map due rows) (cond s (passed_over (found prepared) run) run2)) (over ∙ ap is_some f) in
          let count : length run2.made ≡ next t = after-taken prepared run b b ∙ ap₂ (λ (s : Bool) (n : ℕ). cond s (suc n) n) mark e in
          let later = rest_comes (next t) run2 (after-stopped prepared run b b ∙ going) count in
          let new_row : made_values table g (length run.made) prepared ≡ given (made_row prepared rows taken) = ap (λ (n : ℕ). made_values table g n prepared) e in
          let stood : run2.rows ≡ run.rows ++ (cond t (given (made_row prepared rows taken) ∷ []) [] ++ changes prepared run) =
          after-rows prepared run b b ∙ ap₂ (λ (s : Bool) (r : ℤ × List Value). run.rows ++ (cond s (r ∷ []) [] ++ changes prepared run)) mark new_row in
          let front = rows_before_fault rows faults in
          let rest = later.0 in
          let made_now : run2.made ≡ run.made ++ cond t ((made_row prepared rows taken).rowid ∷ []) [] =
          after-made prepared run b b ∙ ap₂ (λ (s : Bool) (r : ℤ × List Value). run.made ++ cond s (r.0 ∷ []) []) mark new_row in
          subst⁻¹ (λ (o : Option Violation). Whole o faults) f (
            rest,
            ap (λ l. prepared ∷ l) later.1,
            subst⁻¹ (Came run taken (prepared ∷ front) rest (list_any is_some faults)) moved (record {
              only = λ row h. from front rest stood row (later.2.only row h);
              all = λ row h. later.2.all row (to front rest stood row h);
              met = later.2.met ∙ ap (λ (l : List ℤ). l ++ flat_map (λ (p : Prepared). map (λ r. r.0) (found p)) front) (after-met prepared run b b)
                  ∙ append_assoc run.met (map (λ r. r.0) (found prepared)) (flat_map (λ (p : Prepared). map (λ r. r.0) (found p)) front);
              made = later.2.made ∙ ap (λ (l : List ℤ). l ++ map (λ (r : TableRow). r.rowid) (later_made prepared front taken t)) made_now ∙ made-ids prepared front taken t run.made;
              marks = later.2.marks ∙ ap (λ (l : List Bool). l ++ (map (is_new table before) front ++ replicate (length rest) false)) (after-marks prepared run b b ∙ ap (λ (s : Bool). run.marks ++ s ∷ []) mark)
                  ∙ append_assoc run.marks (t ∷ []) (map (is_new table before) front ++ replicate (length rest) false);
              stopped = later.2.stopped;
            }),
          )
        where
          from : (front rest : List Prepared) {now : List (ℤ × List Value)}
              → now ≡ run.rows ++ (cond (is_new table before prepared) (given (made_row prepared rows taken) ∷ []) [] ++ changes prepared run)
              → (row : ℤ × List Value) → StoodFrom now (next (is_new table before prepared)) front rest row → StoodFrom run.rows taken (prepared ∷ front) rest row
          from front rest stood row (inl h) =
              let news = cond (is_new table before prepared) (given (made_row prepared rows taken) ∷ []) [] in
              elim (has-either run.rows (news ++ changes prepared run) row (subst (Has row) stood h)) [
                | inl a ↦ inl a
                | inr b ↦ elim (has-either news (changes prepared run) row b) [
                  | inl c ↦ inr (inl (made-first prepared front taken (is_new table before prepared) row c))
                  | inr d ↦ inr (inr (inl (prepared, inl refl, d)))
                ]
              ]
          from front rest stood row (inr (inl h)) = inr (inl (made-later prepared front taken (is_new table before prepared) row h))
          from front rest stood row (inr (inr (inl (p, h, k)))) = inr (inr (inl (p, inr h, k)))
          from front rest stood row (inr (inr (inr h))) = inr (inr (inr h))

          to : (front rest : List Prepared) {now : List (ℤ × List Value)}
              → now ≡ run.rows ++ (cond (is_new table before prepared) (given (made_row prepared rows taken) ∷ []) [] ++ changes prepared run)
              → (row : ℤ × List Value) → StoodFrom run.rows taken (prepared ∷ front) rest row → StoodFrom now (next (is_new table before prepared)) front rest row
          to front rest stood row (inl h) =
              let news = cond (is_new table before prepared) (given (made_row prepared rows taken) ∷ []) [] in
              inl (subst⁻¹ (Has row) stood (has-left run.rows (news ++ changes prepared run) row h))
          to front rest stood row (inr (inl h)) =
              let news = cond (is_new table before prepared) (given (made_row prepared rows taken) ∷ []) [] in
              elim (made-cases prepared front taken (is_new table before prepared) row h) [
                | inl c ↦ inl (subst⁻¹ (Has row) stood (has-right run.rows (news ++ changes prepared run) row (has-left news (changes prepared run) row c)))
                | inr d ↦ inr (inl d)
              ]
          to front rest stood row (inr (inr (inl (p, inl same, k)))) =
              let news = cond (is_new table before prepared) (given (made_row prepared rows taken) ∷ []) [] in
              let there = subst (λ (q : Prepared). Has row (filter_map (changed table q) (found q))) (sym same) k in
              inl (subst⁻¹ (Has row) stood (has-right run.rows (news ++ changes prepared run) row (has-right news (changes prepared run) row there)))
          to front rest stood row (inr (inr (inl (p, inr h, k)))) = inr (inr (inl (p, h, k)))
          to front rest stood row (inr (inr (inr h))) = inr (inr (inr h))
