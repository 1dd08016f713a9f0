-- The rows of a `data_` table as a batch, from what is found of it.
use Rattle.std.proofs.Common.{◌≡◌, ℕ, ◌+◌, ◌≤◌, Bool, true, false, List, [], ◌∷◌, ◌++◌, length, map, Option, Some, None, Result, Ok, Err, ◌⊎◌, refl, sym, ap, ◌∙◌, subst, inl, inr, length-append, append_assoc, arith}
use Rattle.std.proofs.Math.Path.{subst⁻¹}
use Rattle.std.proofs.lemmas.List.Elements.{filter-append}
use Rattle.std.proofs.lemmas.List.Sums.{sum_by-append, sum_by-cons}
use Rattle.std.proofs.lemmas.Bool.{ltb-false}
use Rattle.std.specs.List.{AllZip}
use Rattle.std.specs.Prelude.{filter, filter_map, sum_by, nat_lt, if◌then◌else◌, codes}
use Rattle.refusal.specs.declared.Measure.{Measure}
use Rattle.refusal.specs.declared.Measure.TheVariants as measure
use Rattle.rbu_rows.specs.declared.prepared.Prepared.{Prepared}
use Rattle.schema_spec.specs.declared.schema.SqlFault.{SqlFault}
use Rattle.schema_spec.specs.declared.schema.Table.{Table}
use Rattle.schema_spec.specs.declared.schema.Index.{Index}
use Rattle.tree_spec.specs.declared.TreeKind.TheVariants.{Table as TableTree}
use Rattle.tree_spec.specs.Standing.{Sizes, Paged}
use Rattle.database_spec.specs.declared.catalog.NamedEntry.{NamedEntry}
use Rattle.database_spec.specs.declared.catalog.Catalog.{Catalog}
use Rattle.rbu_rows.specs.declared.prepared.Batch.{Batch}
use Rattle.database_spec.specs.Walks.{Finding, IsWalk}
use Rattle.prepared_spec.specs.declared.input_fault.InputFault.{InputFault}
use Rattle.prepared_spec.specs.declared.input_fault.InputFault.TheVariants.{NoTarget, TooMuch}
use Rattle.prepared_spec.specs.DataTables.{DataTable, begins_with, first_fault, meaning_fault, over, columns_fault, meanings_fault, table_fault}
use Rattle.prepared_spec.specs.Inputs.{Input, Opens, Closes, Opened, FirstWrongInput, AllRight, IsInputOf, IsOpened, IsTableInput, input_bytes, is_row, key_twice, prepared_in}
use Rattle.prepared_spec.specs.InputsLaws.{opened-one}
use Rattle.prepared_spec.specs.Plans.{table_named}
use Rattle.rbu_input.specs.declared.fault.InputError.{InputError}
use Rattle.rbu_input.specs.declared.fault.InputError.TheVariants as input
use Rattle.rbu_input.specs.declared.batches.CountedBatch.{CountedBatch}
use Rattle.rbu_input.specs.declared.reading.CountedRows.{CountedRows}
use Rattle.rbu_input.specs.declared.store_fault.StoreFault.{StoreFault}
use Rattle.rbu_input.specs.declared.sums.Sums.{Sums}
use Rattle.rbu_input.specs.Batches.{IsClosed, with_end, AreInBatch, TakesInputs, ReadsBatch, ReadsTable}
use Rattle.rbu_input.specs.Keys.{IsKeyTwice}
use Rattle.rbu_input.specs.Reading.{IsRefusedOrOther, AreTaken, of_input_error, opened_as, joined}
use Rattle.rbu_input.specs.RowAnswers.{IsWant, Refuses}
use Rattle.rbu_input.specs.Sums.{AreSums}
use Rattle.rbu_input.specs.Tables.{Tells}
use Rattle.rbu_input.proofs.Firsts.{right-join, first-behind, first-front, batches-append}
use Rattle.rbu_input.proofs.Walking.{refused-then, input-refused}

some-none : {A : Type 0} (a : A) (o : Option A) → o ≡ Some a → o ≡ None → ⊥
some-none a o p q = let h : Some a ≡ None = sym p ∙ q in let no : ⊥ = cc in no

-- what is no row adds nothing to the sums
sums-same : (before : List Input) (sums : Sums) (one : Input) → is_row one ≡ false → input_bytes one ≡ 0 → AreSums before sums → AreSums (before ++ one ∷ []) sums
sums-same before sums one none free are = record {
  rows = are.rows ∙ sym (ap length (filter-append is_row before (one ∷ [])) ∙ length-append (filter is_row before) (filter is_row (one ∷ []))
      ∙ ap (λ (b : Bool). length (filter is_row before) + length (if b then (one ∷ []) else [])) none ∙ zero-more (length (filter is_row before)));
  bytes = are.bytes ∙ sym (sum_by-append input_bytes before (one ∷ []) ∙ ap (λ (n : ℕ). sum_by input_bytes before + n) (sum_by-cons input_bytes one [] ∙ ap (λ (n : ℕ). n + 0) free) ∙ zero-more (sum_by input_bytes before));
}
  where
    zero-more : (n : ℕ) → n + 0 ≡ n
    zero-more n = omega (arith)

module _ (opened : Opened) (catalog : Catalog) (before inputs : List Input) where
  abbrev pub end : List Input
  end = Closes opened (filter_map prepared_in inputs) ∷ []

  module _ (read : CountedRows) (taken : AreTaken catalog before inputs read.rows.items read.sums) where
    -- a table of which no two rows have one key
    pub closed-right : (counted : CountedBatch) → IsClosed opened.source opened.name read counted → key_twice opened.target [] read.rows.items ≡ None → AreInBatch catalog before (with_end opened inputs) counted
    closed-right counted closed none = record {
      right = right-join catalog before inputs end taken.right (λ fault twice. some-none (twice.0, twice.1) (key_twice opened.target [] (filter_map prepared_in inputs)) twice.2 (ap (key_twice opened.target []) taken.rows_are ∙ none), tt);
      batch = batches-append inputs end ∙ ap (λ (bs : List Batch). bs ++ record { table = opened.name; source = opened.source; rows = filter_map prepared_in inputs } ∷ []) taken.batches
          ∙ ap (λ (rows : List Prepared). record { table = opened.name; source = opened.source; rows = rows } ∷ []) taken.rows_are ∙ ap (λ (b : Batch). b ∷ []) (sym closed.batch);
      sums = subst (λ (i : List Input). AreSums i counted.sums) (append_assoc before inputs end)
          (sums-same (before ++ inputs) counted.sums (Closes opened (filter_map prepared_in inputs)) refl refl (subst⁻¹ (AreSums (before ++ inputs)) closed.sums taken.sums_are));
    }

    -- one with two of one key
    pub closed-wrong : {F : Type 0} (fault : InputError) (told : StoreFault F) → told ≡ of_input_error fault → IsWant fault ⊎ Refuses (IsKeyTwice opened.source opened.target read.rows.items) fault
        → IsRefusedOrOther (FirstWrongInput catalog before (with_end opened inputs)) told
    closed-wrong fault told e twice =
        refused-then (IsKeyTwice opened.source opened.target read.rows.items) (FirstWrongInput catalog before (with_end opened inputs)) told
        (λ refused is. first-behind catalog before inputs end refused taken.right (inl (is.0, is.1, ap (key_twice opened.target []) taken.rows_are ∙ is.2, is.3)))
        (input-refused (IsKeyTwice opened.source opened.target read.rows.items) fault told e twice)

  -- something of it is refused
  pub rows-wrong : {F : Type 0} (fault : StoreFault F) → IsRefusedOrOther (FirstWrongInput catalog before inputs) fault → IsRefusedOrOther (FirstWrongInput catalog before (with_end opened inputs)) fault
  rows-wrong fault told =
      refused-then (FirstWrongInput catalog before inputs) (FirstWrongInput catalog before (with_end opened inputs)) fault (λ refused wrong. first-front catalog before inputs end refused wrong) told

-- A `data_` table by itself.

fault-none : (fault : Option InputFault) (rest : List (Option InputFault)) → first_fault (fault ∷ rest) ≡ None → (fault ≡ None) × (first_fault rest ≡ None)
fault-none None rest e = (refl, e)
fault-none (Some fault) rest e = absurd (let no : ⊥ = cc in no)

faults-none : (those others : List (Option InputFault)) → first_fault (those ++ others) ≡ None → first_fault others ≡ None
faults-none [] others e = e
faults-none (None ∷ those) others e = faults-none those others e
faults-none (Some fault ∷ those) others e = absurd (let no : ⊥ = cc in no)

within : (what : Measure) (limit has : ℕ) → over what limit has ≡ None → has ≤ limit
within what limit has e = by (nat_lt limit has) refl e
  where
    by : (b : Bool) → nat_lt limit has ≡ b → (if b then Some (TooMuch what has limit) else None) ≡ None → has ≤ limit
    by true less e = absurd (let no : ⊥ = cc in no)
    by false more e = ltb-false limit has more

module _ (catalog : Catalog) (source : DataTable) where
  -- the texts, the limits and the columns of a table whose target is this one
  abbrev pub fault_by : Option NamedEntry → Option InputFault
  fault_by named =
      elim named as (λ _. Option InputFault) [
        | None ↦ Some (NoTarget source.target)
        | Some named ↦
            first_fault (meaning_fault named.name named.entry.meaning ∷ (map (λ index. meaning_fault named.name index.1) named.entry.indexes
            ++ meaning_fault source.source source.entry.meaning ∷ meanings_fault source named named.entry.meaning source.entry.meaning))
      ]

  abbrev pub target_entry : Option NamedEntry
  target_entry = if begins_with (codes "sqlite_") source.target then None else table_named source.target catalog.tables

  -- a table without a target has a fault
  pub target-known : None ≡ target_entry → table_fault catalog source ≡ None → ⊥
  target-known none faultless =
      let fault : table_fault catalog source ≡ Some (NoTarget source.target) = ap fault_by (sym none) in
      some-none (NoTarget source.target) (table_fault catalog source) fault faultless

  -- the target of one without a fault has few columns
  pub target-few : (named : NamedEntry) (target own : Table) → Some named ≡ target_entry → table_fault catalog source ≡ None → named.entry.meaning ≡ Ok target → source.entry.meaning ≡ Ok own → length target.columns ≤ 200
  target-few named target own found faultless meaning own_meaning =
      let texts = sym (ap fault_by (sym found)) ∙ faultless in
      let behind_target = (fault-none (meaning_fault named.name named.entry.meaning) (map (λ (index : ℕ × Result Index SqlFault). meaning_fault named.name index.1) named.entry.indexes
      ++ meaning_fault source.source source.entry.meaning ∷ meanings_fault source named named.entry.meaning source.entry.meaning) texts).1 in
      let behind_indexes = faults-none (map (λ (index : ℕ × Result Index SqlFault). meaning_fault named.name index.1) named.entry.indexes)
      (meaning_fault source.source source.entry.meaning ∷ meanings_fault source named named.entry.meaning source.entry.meaning) behind_target in
      let behind_own = (fault-none (meaning_fault source.source source.entry.meaning) (meanings_fault source named named.entry.meaning source.entry.meaning) behind_indexes).1 in
      let columns : first_fault (columns_fault source named target own) ≡ None =
      subst (λ (o : Result Table SqlFault). first_fault (meanings_fault source named (Ok target) o) ≡ None) own_meaning
      (subst (λ (t : Result Table SqlFault). first_fault (meanings_fault source named t source.entry.meaning) ≡ None) meaning behind_own) in
      within measure.Columns 200 (length target.columns) (fault-none (over measure.Columns 200 (length target.columns)) _ columns).0

  name-free : (b : Bool) (named : NamedEntry) (other : Option NamedEntry) → Some named ≡ (if b then None else other) → other ≡ Some named
  name-free true named other e = absurd (let no : ⊥ = cc in no)
  name-free false named other e = sym e

  pub target-named : (named : NamedEntry) → Some named ≡ target_entry → table_named source.target catalog.tables ≡ Some named
  target-named named found = name-free (begins_with (codes "sqlite_") source.target) named (table_named source.target catalog.tables) found

module _ (sizes : Sizes) (base : Paged) (catalog : Catalog) (source : DataTable) where
  -- it has a fault of its own
  opens-first : (before inputs : List Input) (fault : InputFault) → IsTableInput sizes base catalog source inputs → table_fault catalog source ≡ Some fault → FirstWrongInput catalog before inputs fault
  opens-first before inputs fault (inl (other, some, e)) is = subst⁻¹ (λ (i : List Input). FirstWrongInput catalog before i fault) e (inl is)
  opens-first before inputs fault (inr (opened, findings, parts, is_open, walk, are, e)) is = subst⁻¹ (λ (i : List Input). FirstWrongInput catalog before i fault) e (inl is)

  pub table-wrong : {F : Type 0} (fault : InputError) (told : StoreFault F) (before inputs : List Input) → told ≡ of_input_error fault → (let failed : Result Unit InputError = Err fault in Tells (table_fault catalog source) failed)
      → IsTableInput sizes base catalog source inputs → IsRefusedOrOther (FirstWrongInput catalog before inputs) told
  table-wrong (input.Refused refused) told before inputs e tells is = subst⁻¹ (IsRefusedOrOther (FirstWrongInput catalog before inputs)) e (opens-first before inputs refused is tells)
  table-wrong (input.Memory error) told before inputs e tells is = subst⁻¹ (IsRefusedOrOther (FirstWrongInput catalog before inputs)) e tt

  -- it has none, and is read as these
  module _ (named : NamedEntry) (target own : Table) (faultless : table_fault catalog source ≡ None) (found : table_named source.target catalog.tables ≡ Some named) (meaning : named.entry.meaning ≡ Ok target)
      (own_meaning : source.entry.meaning ≡ Ok own) where
    abbrev pub opened : Opened
    opened = opened_as source.source named.name target own

    is_opened : IsOpened catalog source opened
    is_opened = record { faultless = faultless; named = named; found = found; target = meaning; own = own_meaning; source_is = refl; name_is = refl }

    -- what is found of it behind its name
    record Behind (inputs : List Input) : Type 0 where
      findings : List Finding
      parts : List (List Input)
      are_parts : AllZip (IsInputOf opened) findings parts
      is_walk : IsWalk sizes base TableTree source.entry.root findings
      inputs_are : inputs ≡ Opens source ∷ with_end opened (joined parts)

    behind : (inputs : List Input) → IsTableInput sizes base catalog source inputs → Behind inputs
    behind inputs (inl (fault, some, e)) = absurd (some-none fault (table_fault catalog source) some faultless)
    behind inputs (inr (other, findings, parts, is, walk, are, e)) =
        let same : other ≡ opened = opened-one catalog source other opened is is_opened in record {
          findings = findings;
          parts = parts;
          are_parts = subst (λ (o : Opened). AllZip (IsInputOf o) findings parts) same are;
          is_walk = walk;
          inputs_are = e ∙ ap (λ (o : Opened). Opens source ∷ with_end o (joined parts)) same;
        }

    all-right : (before : List Input) → AllRight catalog before (Opens source ∷ [])
    all-right before = (λ fault some. some-none fault (table_fault catalog source) some faultless, tt)

    opens-then : {F : Type 0} (before rest : List Input) (result : Result CountedBatch (StoreFault F)) → TakesInputs catalog (before ++ Opens source ∷ []) rest result → TakesInputs catalog before (Opens source ∷ rest) result
    opens-then before rest (Ok counted) taken = record {
      right = ((all-right before).0, taken.right);
      batch = taken.batch;
      sums = subst (λ (inputs : List Input). AreSums inputs counted.sums) (append_assoc before (Opens source ∷ []) rest) taken.sums;
    }
    opens-then before rest (Err fault) taken =
        refused-then (FirstWrongInput catalog (before ++ Opens source ∷ []) rest) (FirstWrongInput catalog before (Opens source ∷ rest)) fault (λ refused wrong. inr ((all-right before).0, wrong)) taken

    pub table-read : {F : Type 0} (sums : Sums) (result : Result CountedBatch (StoreFault F)) → ReadsBatch sizes base source.source named.name target own source.entry.root sums result → ReadsTable sizes base catalog source sums result
    table-read sums result reads = λ before inputs are is.
        let rest = behind inputs is in
        subst⁻¹ (λ (i : List Input). TakesInputs catalog before i result) rest.inputs_are
        (opens-then before (with_end opened (joined rest.parts)) result
        (reads catalog (before ++ Opens source ∷ []) rest.findings rest.parts (sums-same before sums (Opens source) refl refl are) rest.are_parts rest.is_walk))
