-- What a group comes to, batch by batch.
use Rattle.std.proofs.Common.{◌≡◌, ℕ, ℤ, suc, ◌+◌, ◌-◌, ◌⊎◌, Bool, true, false, List, [], ◌∷◌, ◌++◌, length, map, Option, Some, None, if◌then◌else◌, cond, refl, sym, ap, ◌∙◌, subst, inl, inr, arith}
use Rattle.std.proofs.Math.Path.{subst⁻¹}
use Rattle.std.proofs.lemmas.List.{append_assoc, append-nil, length-append, length-map, replicate-append-replicate}
use Rattle.std.proofs.lemmas.List.Sums.{sum_by-cons}
use Rattle.std.specs.Prelude.{filter, is_some, replicate, sum_by}
use Rattle.std.specs.List.{AllByRecursion, list_any}
use Rattle.rbu_rows.specs.declared.prepared.Prepared.{Prepared}
use Rattle.schema_spec.specs.declared.schema.Table.{Table}
use Rattle.database_spec.specs.Rows.{TableRow}
use Rattle.database_spec.specs.ListsLaws.{PairsByRecursion}
use Rattle.prepared_spec.specs.declared.violation.Violation.{Violation}
use Rattle.prepared_spec.specs.Tables.{written_row, is_new, new_rowid, new_rows, count_new, IsAfterBatch, IsAfterBatches}
use Rattle.prepared_spec.specs.StepFaults.{row_fault}
use Rattle.prepared_spec.specs.Plans.{batch_faults, AreFaults}
use Rattle.prepared_spec.specs.PlansLaws.{after_batch-one}
use Rattle.prepared_spec.specs.MembersLaws.{Has, has-from, has-to, has-left, has-right, has-either, has-map, map-has}
use Rattle.compared_keys.specs.Keys.{HasKey}
use Rattle.touched_rows.specs.TouchedRows.{IsMet, IsMade, IsTouchedFrom, AreMade, rows_before_fault, batches_before_fault}
use Rattle.group_rows.specs.GivenRows.{AreGiven}
use Rattle.group_rows.specs.Runs.{Run, with_key, skipped, batch_run, batch_taken, group_run}
use Rattle.group_rows.proofs.Behind.{Disjoint, BatchIs, front_of, batch-is}

-- Batches behind a fault.

pub skip-is : (table : Table) (g : ℤ) (ordered : List Prepared) (run : Run) → run.stopped ≡ true → batch_taken table g ordered run ≡ skipped (length ordered) run
skip-is table g ordered run e = ap (λ (t : Bool). cond t (skipped (length ordered) run) (batch_run table g (map (with_key table) ordered) run)) e

-- they leave all but the marks
record AreSkipped (run : Run) (count : ℕ) (result : Run) : Type 0 where
  rows : result.rows ≡ run.rows
  met : result.met ≡ run.met
  made : result.made ≡ run.made
  marks : result.marks ≡ run.marks ++ replicate count false

skip-all : (table : Table) (g : ℤ) (batches : List (List Prepared)) (run : Run) → run.stopped ≡ true → AreSkipped run (sum_by length batches) (group_run table g batches run)
skip-all table g [] run e = record { rows = refl; met = refl; made = refl; marks = sym (append-nil run.marks) }
skip-all table g (ordered ∷ batches) run e =
    let next = skipped (length ordered) run in
    let later = skip-all table g batches next e in
    let moved : group_run table g (ordered ∷ batches) run ≡ group_run table g batches next = ap (group_run table g batches) (skip-is table g ordered run e) in
    subst⁻¹ (AreSkipped run (sum_by length (ordered ∷ batches))) moved (record {
      rows = later.rows;
      met = later.met;
      made = later.made;
      marks = later.marks ∙ append_assoc run.marks (replicate (length ordered) false) (replicate (sum_by length batches) false)
          ∙ ap (λ (l : List Bool). run.marks ++ l)
          (replicate-append-replicate (length ordered) (sum_by length batches) false ∙ ap (λ (n : ℕ). replicate n false) (sym (sum_by-cons length ordered batches)));
    })

module _ (format : ℕ) (name : List ℕ) (table : Table) (g : ℤ) where
  abbrev Chain : ℕ → List TableRow → List (List Prepared) → List TableRow → Type 0
  Chain taken before batches after = IsAfterBatches format table g taken before batches after

  abbrev Faults : ℕ → List TableRow → List (List Prepared) → List (List (Option Violation)) → Type 0
  Faults taken before batches faults = AreFaults format name table g taken before batches faults

  made-none : (taken : ℕ) (before : List TableRow) (batches : List (List Prepared)) → AreMade format table g taken before batches [] (replicate (sum_by length batches) false)
  made-none taken before [] = refl
  made-none taken before (rows ∷ batches) = refl

  -- a batch without a fault has all its rows before it
  all-front : (before : List TableRow) (rows : List Prepared) (taken : ℕ) → list_any is_some (batch_faults name table g taken before rows) ≡ false
      → rows_before_fault rows (batch_faults name table g taken before rows) ≡ rows
  all-front before [] taken none = refl
  all-front before (prepared ∷ rows) taken none =
      by (row_fault name table g taken before prepared) none (all-front before rows (if is_new table before prepared then suc taken else taken))
    where
      by : (o : Option Violation) → list_any is_some (o ∷ batch_faults name table g (if is_new table before prepared then suc taken else taken) before rows) ≡ false
          → (list_any is_some (batch_faults name table g (if is_new table before prepared then suc taken else taken) before rows) ≡ false
          → rows_before_fault rows (batch_faults name table g (if is_new table before prepared then suc taken else taken) before rows) ≡ rows)
          → rows_before_fault (prepared ∷ rows) (o ∷ batch_faults name table g (if is_new table before prepared then suc taken else taken) before rows) ≡ prepared ∷ rows
      by None e rest = ap (λ l. prepared ∷ l) (rest e)
      by (Some fault) e rest = absurd (let h : ◌≡◌ {A = Bool} true false = e in let no : ⊥ = cc in no)

  new-length : (before : List TableRow) (rows : List Prepared) (taken : ℕ) → length (new_rows format table g taken before rows) ≡ count_new table before rows
  new-length before [] taken = refl
  new-length before (prepared ∷ rows) taken = by (is_new table before prepared) (new-length before rows (suc taken)) (new-length before rows taken)
    where
      by : (t : Bool) → length (new_rows format table g (suc taken) before rows) ≡ length (filter (is_new table before) rows)
          → length (new_rows format table g taken before rows) ≡ length (filter (is_new table before) rows)
          → length (if t then written_row format table (new_rowid table g (suc taken) prepared) prepared.values ∷ new_rows format table g (suc taken) before rows else new_rows format table g taken before rows)
          ≡ length (cond t (prepared ∷ filter (is_new table before) rows) (filter (is_new table before) rows))
      by true next same = ap suc next
      by false next same = same

  -- What is left behind batches.
  pub record GroupIs (before : List TableRow) (taken : ℕ) (run : Run) (batches fronts : List (List Prepared)) (after : List TableRow) (result : Run) : Type 0 where
    pub now : AreGiven after result.rows
    pub only : (z : ℤ) → Has z result.met ⊎ Has z result.made → (Has z run.met ⊎ Has z run.made) ⊎ IsTouchedFrom format table g taken before fronts z
    pub all : (z : ℤ) → (Has z run.met ⊎ Has z run.made) ⊎ IsTouchedFrom format table g taken before fronts z → Has z result.met ⊎ Has z result.made
    pub later : List Bool
    pub marks : result.marks ≡ run.marks ++ later
    pub made_are : AreMade format table g taken before batches fronts later

  -- One batch, and those behind it.
  module _ (before : List TableRow) (run : Run) (is : AreGiven before run.rows) (rows front rest : List Prepared) (between : List TableRow) (next : Run) (batch : BatchIs format name table g before run is rows front rest between next)
      (after : IsAfterBatch format table g (length run.made) before front between) where
    abbrev taken : ℕ
    taken = length run.made

    abbrev made_ids : List ℤ
    made_ids = map (λ (r : TableRow). r.rowid) (new_rows format table g taken before front)

    count : length next.made ≡ taken + count_new table before front
    count =
        ap length batch.made ∙ length-append run.made made_ids
        ∙ ap (λ (n : ℕ). taken + n) (length-map (new_rows format table g taken before front) (λ (r : TableRow). r.rowid) ∙ new-length before front taken)

    rest-long : length rest ≡ length rows - length front
    rest-long = let e : length rows ≡ length front + length rest = ap length batch.whole ∙ length-append front rest in omega (arith, e)

    first-touched : (z : ℤ) → Has z next.met ⊎ Has z next.made → (Has z run.met ⊎ Has z run.made) ⊎ (IsMet table before front z ⊎ IsMade format table g taken before front z)
    first-touched z (inl h) = elim (batch.met_only z h) [ inl a ↦ inl (inl a) | inr b ↦ inr (inl b) ]
    first-touched z (inr h) =
        elim (has-either run.made made_ids z (subst (Has z) batch.made h)) [
          | inl a ↦ inl (inr a)
          | inr b ↦
              let row = map-has (λ (r : TableRow). r.rowid) (new_rows format table g taken before front) z b in
              inr (inr (row.0, has-to (new_rows format table g taken before front) row.0 row.1, row.2))
        ]

    touched-first : (z : ℤ) → (Has z run.met ⊎ Has z run.made) ⊎ (IsMet table before front z ⊎ IsMade format table g taken before front z) → Has z next.met ⊎ Has z next.made
    touched-first z (inl (inl h)) = inl (batch.met_all z (inl h))
    touched-first z (inl (inr h)) = inr (subst⁻¹ (Has z) batch.made (has-left run.made made_ids z h))
    touched-first z (inr (inl met)) = inl (batch.met_all z (inr met))
    touched-first z (inr (inr (row, stands, same))) =
        let there = has-from (new_rows format table g taken before front) row stands in
        let id = subst (λ (y : ℤ). Has y made_ids) same (has-map (λ (r : TableRow). r.rowid) (new_rows format table g taken before front) row there) in
        inr (subst⁻¹ (Has z) batch.made (has-right run.made made_ids z id))

    pub more : (batches fronts : List (List Prepared)) (end : List TableRow) (result : Run) → GroupIs between (length next.made) next batches fronts end result → GroupIs before taken run (rows ∷ batches) (front ∷ fronts) end result
    more batches fronts end result group =
        let Later = λ (z : ℤ) (n : ℕ). IsTouchedFrom format table g n between fronts z in
        record {
          now = group.now;
          only = λ z h. elim (group.only z h) [
            | inl a ↦ elim (first-touched z a) [ inl b ↦ inl b | inr c ↦ inr (inl c) ]
            | inr t ↦ inr (inr (between, after, subst (Later z) count t))
          ];
          all = λ z h. group.all z (from z h);
          later = map (is_new table before) front ++ (replicate (length rows - length front) false ++ group.later);
          marks =
              group.marks ∙ ap (λ (l : List Bool). l ++ group.later) batch.marks ∙ append_assoc run.marks (map (is_new table before) front ++ replicate (length rest) false) group.later
              ∙ ap (λ (l : List Bool). run.marks ++ l)
              (append_assoc (map (is_new table before) front) (replicate (length rest) false) group.later
              ∙ ap (λ (n : ℕ). map (is_new table before) front ++ (replicate n false ++ group.later)) rest-long);
          made_are = (between, group.later, after, subst (λ (n : ℕ). AreMade format table g n between batches fronts group.later) count group.made_are, refl);
        }
      where
        from : (z : ℤ) → (Has z run.met ⊎ Has z run.made) ⊎ IsTouchedFrom format table g taken before (front ∷ fronts) z → (Has z next.met ⊎ Has z next.made) ⊎ IsTouchedFrom format table g (length next.made) between fronts z
        from z (inl a) = inl (touched-first z (inl a))
        from z (inr (inl c)) = inl (touched-first z (inr c))
        from z (inr (inr (other, other_is, t))) =
            let one = after_batch-one format table g taken before front other between other_is after in
            inr (subst⁻¹ (λ (n : ℕ). IsTouchedFrom format table g n between fronts z) count (subst (λ (r : List TableRow). IsTouchedFrom format table g (taken + count_new table before front) r fronts z) one t))

  -- behind a fault
  skipped-group : (between : List TableRow) (run : Run) (batches : List (List Prepared)) → AreGiven between run.rows → run.stopped ≡ true → GroupIs between (length run.made) run batches [] between (group_run table g batches run)
  skipped-group between run batches is e =
      let skip = skip-all table g batches run e in
      record {
        now = subst⁻¹ (AreGiven between) skip.rows is;
        only = λ z h. from z skip.met skip.made h;
        all = λ z h. to z skip.met skip.made h;
        later = replicate (sum_by length batches) false;
        marks = skip.marks;
        made_are = made-none (length run.made) between batches;
      }
    where
      from : (z : ℤ) {met made : List ℤ} → met ≡ run.met → made ≡ run.made → Has z met ⊎ Has z made → (Has z run.met ⊎ Has z run.made) ⊎ ⊥
      from z e f (inl h) = inl (inl (subst (Has z) e h))
      from z e f (inr h) = inl (inr (subst (Has z) f h))

      to : (z : ℤ) {met made : List ℤ} → met ≡ run.met → made ≡ run.made → (Has z run.met ⊎ Has z run.made) ⊎ ⊥ → Has z met ⊎ Has z made
      to z e f (inl (inl h)) = inl (subst⁻¹ (Has z) e h)
      to z e f (inl (inr h)) = inr (subst⁻¹ (Has z) f h)
      to z e f (inr h) = absurd h

  abbrev pub AreKeyed : List Prepared → Type 0
  AreKeyed rows = AllByRecursion (HasKey table) rows × PairsByRecursion (Disjoint table) rows

  -- What a group comes to.
  pub group-is : (batches : List (List Prepared)) (before : List TableRow) (run : Run) (faults : List (List (Option Violation))) (after : List TableRow) → AreGiven before run.rows → run.stopped ≡ false
      → AllByRecursion AreKeyed batches → Faults (length run.made) before batches faults → Chain (length run.made) before (batches_before_fault batches faults) after
      → GroupIs before (length run.made) run batches (batches_before_fault batches faults) after (group_run table g batches run)
  group-is [] before run faults after is going keyed are chain = record {
    now = subst⁻¹ (λ (rows : List TableRow). AreGiven rows run.rows) chain is;
    only = λ z h. inl h;
    all = λ z h. elim h as (λ _. Has z run.met ⊎ Has z run.made) [ inl a ↦ a | inr b ↦ absurd b ];
    later = [];
    marks = sym (append-nil run.marks);
    made_are = refl;
  }
  group-is (rows ∷ batches) before run faults after is going keyed (whole, laterf, whole_is, later_are, e) chain =
      let fs = batch_faults name table g (length run.made) before rows in
      subst⁻¹ (λ (f : List (List (Option Violation))). GroupIs before (length run.made) run (rows ∷ batches) (batches_before_fault (rows ∷ batches) f) after (group_run table g (rows ∷ batches) run)) e
      (parts (list_any is_some fs) refl (λ mid next_run later_faults end now going_on later_keyed later_are2 chain2. group-is batches mid next_run later_faults end now going_on later_keyed later_are2 chain2) (subst (λ (f : List (List (Option Violation))). Chain (length run.made) before (batches_before_fault (rows ∷ batches) f) after) e chain))
    where
      parts : (t : Bool) → list_any is_some (batch_faults name table g (length run.made) before rows) ≡ t
          → ((mid : List TableRow) (next_run : Run) (later_faults : List (List (Option Violation))) (end : List TableRow) → AreGiven mid next_run.rows → next_run.stopped ≡ false → AllByRecursion AreKeyed batches
          → Faults (length next_run.made) mid batches later_faults → Chain (length next_run.made) mid (batches_before_fault batches later_faults) end
          → GroupIs mid (length next_run.made) next_run batches (batches_before_fault batches later_faults) end (group_run table g batches next_run))
          → Chain (length run.made) before
          (rows_before_fault rows (batch_faults name table g (length run.made) before rows) ∷ (if list_any is_some (batch_faults name table g (length run.made) before rows) then [] else batches_before_fault batches laterf)) after
          → GroupIs before (length run.made) run (rows ∷ batches)
          (rows_before_fault rows (batch_faults name table g (length run.made) before rows) ∷ (if list_any is_some (batch_faults name table g (length run.made) before rows) then [] else batches_before_fault batches laterf)) after
          (group_run table g (rows ∷ batches) run)
      parts t f later (between, between_is, chain2) =
          let step = batch-is format name table g before run is rows between going keyed.0.0 keyed.0.1 between_is in
          let next = batch_run table g (map (with_key table) rows) run in
          let moved : group_run table g (rows ∷ batches) run ≡ group_run table g batches next = ap (λ (s : Bool). group_run table g batches (cond s (skipped (length rows) run) next)) going in
          let first = front_of format name table g before run is rows in
          let Rest = λ (b : Bool). if b then [] else batches_before_fault batches laterf in
          let counted = count before run is rows first step.0 between next step.1 between_is in
          subst⁻¹ (GroupIs before (length run.made) run (rows ∷ batches) (first ∷ Rest (list_any is_some (batch_faults name table g (length run.made) before rows))) after) moved
          (more before run is rows first step.0 between next step.1 between_is batches (Rest (list_any is_some (batch_faults name table g (length run.made) before rows))) after (group_run table g batches next)
          (subst⁻¹ (λ (b : Bool). GroupIs between (length next.made) next batches (Rest b) after (group_run table g batches next)) f
          (ends t f between between_is next step.1.now (step.1.stopped ∙ f) counted (subst (λ (b : Bool). Chain (length run.made + count_new table before first) between (Rest b) after) f chain2))))
        where
          ends : (t : Bool) → list_any is_some (batch_faults name table g (length run.made) before rows) ≡ t → (between : List TableRow)
              → IsAfterBatch format table g (length run.made) before (rows_before_fault rows (batch_faults name table g (length run.made) before rows)) between → (next : Run) → AreGiven between next.rows → next.stopped ≡ t
              → length next.made ≡ length run.made + count_new table before (rows_before_fault rows (batch_faults name table g (length run.made) before rows))
              → Chain (length run.made + count_new table before (rows_before_fault rows (batch_faults name table g (length run.made) before rows))) between (if t then [] else batches_before_fault batches laterf) after
              → GroupIs between (length next.made) next batches (if t then [] else batches_before_fault batches laterf) after (group_run table g batches next)
          ends true f between between_is next now stopped counted chain3 =
              subst⁻¹ (λ (r : List TableRow). GroupIs between (length next.made) next batches [] r (group_run table g batches next)) chain3 (skipped-group between next batches now stopped)
          ends false f between between_is next now stopped counted chain3 =
              let all_rows = all-front before rows (length run.made) f in
              let here = subst (λ (rs : List Prepared). IsAfterBatch format table g (length run.made) before rs between) all_rows between_is in
              let same = after_batch-one format table g (length run.made) before rows whole between whole_is here in
              let number : length next.made ≡ length run.made + count_new table before rows = counted ∙ ap (λ (rs : List Prepared). length run.made + count_new table before rs) all_rows in
              later between next laterf after now stopped keyed.1
              (subst⁻¹ (λ (n : ℕ). Faults n between batches laterf) number (subst (λ (r : List TableRow). Faults (length run.made + count_new table before rows) r batches laterf) same later_are))
              (subst⁻¹ (λ (n : ℕ). Chain n between (batches_before_fault batches laterf) after) counted chain3)
