-- The `data_` tables of an RBU database, one after the other.
use Rattle.std.proofs.Common.{◌≡◌, List, [], ◌∷◌, ◌++◌, length, map, Result, Ok, Err, Vec, Global, refl, sym, ap, ◌∙◌, subst, append_assoc, append-nil}
use Rattle.std.proofs.Math.Path.{subst⁻¹}
use Rattle.std.proofs.lemmas.List.Sorted.{All-permutation}
use Rattle.std.specs.Prelude.{Bool, true, false, filter, if◌then◌else◌}
use Rattle.std.specs.List.{AllByRecursion, AllZip}
use Rattle.std.specs.List.Sorted.{IsPermutation}
use denote.Ref.{Bor}
use Rattle.common_spec.specs.ReadingLaws.{Reads-one}
use Rattle.rbu_rows.specs.declared.prepared.Batch.{Batch}
use Rattle.tree_spec.specs.Standing.{Sizes, Paged}
use Rattle.database_spec.specs.declared.catalog.Catalog.{Catalog}
use Rattle.database_spec.specs.declared.catalog.NamedEntry.{NamedEntry}
use Rattle.database_spec.specs.ListsLaws.{all-from}
use Rattle.prepared_spec.specs.declared.input_fault.InputFault.{InputFault}
use Rattle.prepared_spec.specs.DataTables.{DataTable}
use Rattle.prepared_spec.specs.Inputs.{Input, FirstWrongInput, AllRight, IsTableInput, AreInputs, batches_in, grouped}
use Rattle.prepared_spec.specs.InputFaultsLaws.{input_answer-one}
use Rattle.rbu_input.specs.declared.batches.CountedBatch.{CountedBatch}
use Rattle.rbu_input.specs.declared.store_fault.StoreFault.{StoreFault}
use Rattle.rbu_input.specs.declared.sums.Sums.{Sums}
use Rattle.rbu_input.specs.Batches.{ReadsTable}
use Rattle.rbu_input.specs.Prepared.{TakesAll, ReadsBatches, IsInputAnswer}
use Rattle.rbu_input.specs.Reading.{IsRefusedOrOther, joined}
use Rattle.rbu_input.specs.Sources.{is_source}
use Rattle.rbu_input.specs.Sums.{AreSums}
use Rattle.rbu_input.proofs.Firsts.{right-join, first-behind, first-front, batches-append}
use Rattle.rbu_input.proofs.SourceOrders.{all-of}
use Rattle.rbu_input.proofs.Walking.{refused-then}

module _ (sizes : Sizes) (base : Paged) (catalog : Catalog) where
  -- what was found so far, and what is left of it
  pub record Keeps (parts : List (List Input)) (left : List DataTable) (batches : List Batch) (sums : Sums) : Type 0 where
    pub found : List Input
    pub left_parts : List (List Input)
    pub are_parts : AllZip (IsTableInput sizes base catalog) left left_parts
    pub sums_are : AreSums found sums
    pub right : AllRight catalog found (joined left_parts) → AllRight catalog [] (joined parts)
    pub wrong : (fault : InputFault) → FirstWrongInput catalog found (joined left_parts) fault → FirstWrongInput catalog [] (joined parts) fault
    pub batches_are : batches_in (joined parts) ≡ batches ++ batches_in (joined left_parts)

  abbrev pub KeepsTables : List DataTable → List DataTable → List Batch → Sums → Type 0
  KeepsTables tables left batches sums =
      (parts : List (List Input)) → AllZip (IsTableInput sizes base catalog) tables parts → Keeps parts left batches sums

  pub tables-none : (tables : List DataTable) (sums : Sums) → sums.rows ≡ 0 → sums.bytes ≡ 0 → KeepsTables tables tables [] sums
  tables-none tables sums rows bytes = λ parts are.
      record { found = []; left_parts = parts; are_parts = are; sums_are = record { rows = rows; bytes = bytes }; right = λ right. right; wrong = λ fault wrong. wrong; batches_are = refl }

  -- the first of those that are left
  record First (source : DataTable) (rest : List DataTable) (parts : List (List Input)) : Type 0 where
    part : List Input
    others : List (List Input)
    parts_are : parts ≡ part ∷ others
    is_input : IsTableInput sizes base catalog source part
    are_inputs : AllZip (IsTableInput sizes base catalog) rest others

  first-of : (source : DataTable) (rest : List DataTable) (parts : List (List Input)) → AllZip (IsTableInput sizes base catalog) (source ∷ rest) parts → First source rest parts
  first-of source rest [] are = absurd are
  first-of source rest (part ∷ others) are = record { part = part; others = others; parts_are = refl; is_input = are.0; are_inputs = are.1 }

  module _ (source : DataTable) (rest : List DataTable) (parts : List (List Input)) (batches : List Batch) (sums : Sums) (keeps : Keeps parts (source ∷ rest) batches sums) where
    abbrev first : First source rest keeps.left_parts
    first = first-of source rest keeps.left_parts keeps.are_parts

    pub keeps-next : (F : Type 0) (counted : CountedBatch) → (let read : Result CountedBatch (StoreFault F) = Ok counted in ReadsTable sizes base catalog source sums read) → Keeps parts rest (batches ++ counted.batch ∷ []) counted.sums
    keeps-next F counted reads =
        let taken = reads keeps.found first.part keeps.sums_are first.is_input in record {
          found = keeps.found ++ first.part;
          left_parts = first.others;
          are_parts = first.are_inputs;
          sums_are = taken.sums;
          right = λ later. keeps.right (subst⁻¹ (λ (ps : List (List Input)). AllRight catalog keeps.found (joined ps)) first.parts_are (right-join catalog keeps.found first.part (joined first.others) taken.right later));
          wrong = λ fault later.
              keeps.wrong fault
              (subst⁻¹ (λ (ps : List (List Input)). FirstWrongInput catalog keeps.found (joined ps) fault) first.parts_are (first-behind catalog keeps.found first.part (joined first.others) fault taken.right later));
          batches_are = keeps.batches_are ∙ ap (λ (ps : List (List Input)). batches ++ batches_in (joined ps)) first.parts_are
              ∙ ap (λ (bs : List Batch). batches ++ bs) (batches-append first.part (joined first.others) ∙ ap (λ (bs : List Batch). bs ++ batches_in (joined first.others)) taken.batch)
              ∙ sym (append_assoc batches (counted.batch ∷ []) (batches_in (joined first.others)));
        }

    pub keeps-fault : {F : Type 0} (fault : StoreFault F) → (let read : Result CountedBatch (StoreFault F) = Err fault in ReadsTable sizes base catalog source sums read) → IsRefusedOrOther (FirstWrongInput catalog [] (joined parts)) fault
    keeps-fault fault reads =
        refused-then (FirstWrongInput catalog keeps.found first.part) (FirstWrongInput catalog [] (joined parts)) fault
        (λ refused wrong.
        keeps.wrong refused
        (subst⁻¹ (λ (ps : List (List Input)). FirstWrongInput catalog keeps.found (joined ps) refused) first.parts_are (first-front catalog keeps.found first.part (joined first.others) refused wrong)))
        (reads keeps.found first.part keeps.sums_are first.is_input)

  -- one table more
  pub tables-next : (F : Type 0) (tables : List DataTable) (source : DataTable) (rest : List DataTable) (batches : List Batch) (sums : Sums) (counted : CountedBatch) → KeepsTables tables (source ∷ rest) batches sums
      → (let read : Result CountedBatch (StoreFault F) = Ok counted in ReadsTable sizes base catalog source sums read) → KeepsTables tables rest (batches ++ counted.batch ∷ []) counted.sums
  tables-next F tables source rest batches sums counted keeps reads = λ parts are. keeps-next source rest parts batches sums (keeps parts are) F counted reads

  pub tables-fault : (F : Type 0) (tables : List DataTable) (source : DataTable) (rest : List DataTable) (batches : List Batch) (sums : Sums) (fault : StoreFault F) → KeepsTables tables (source ∷ rest) batches sums
      → (let read : Result CountedBatch (StoreFault F) = Err fault in ReadsTable sizes base catalog source sums read) → (let answer : Result (Vec Batch Global) (StoreFault F) = Err fault in ReadsBatches sizes base catalog tables answer)
  tables-fault F tables source rest batches sums fault keeps reads = λ parts are. keeps-fault source rest parts batches sums (keeps parts are) fault reads

  no-parts : (parts : List (List Input)) → AllZip (IsTableInput sizes base catalog) [] parts → parts ≡ []
  no-parts [] are = refl
  no-parts (part ∷ parts) are = absurd are

  pub tables-end : (F : Type 0) (tables : List DataTable) (batches : Vec Batch Global) (sums : Sums) → KeepsTables tables [] batches.items sums
      → (let answer : Result (Vec Batch Global) (StoreFault F) = Ok batches in ReadsBatches sizes base catalog tables answer)
  tables-end F tables batches sums keeps = λ parts are.
      let kept = keeps parts are in
      let none = no-parts kept.left_parts kept.are_parts in record {
        right = kept.right (subst⁻¹ (λ (ps : List (List Input)). AllRight catalog kept.found (joined ps)) none tt);
        batches_are = kept.batches_are ∙ ap (λ (ps : List (List Input)). batches.items ++ batches_in (joined ps)) none ∙ append-nil batches.items;
      }

  -- The one answer, from what was found.

  module _ (rbu : Catalog) (tables : List DataTable) (inputs : List Input) (are : AreInputs sizes base catalog rbu inputs) (same : are.tables ≡ tables) where
    taken : {F : Type 0} (result : Result (Vec Batch Global) (StoreFault F)) → ReadsBatches sizes base catalog tables result → TakesAll catalog inputs result
    taken result reads =
        subst⁻¹ (λ (i : List Input). TakesAll catalog i result) are.inputs_are
        (reads are.parts (subst (λ (ts : List DataTable). AllZip (IsTableInput sizes base catalog) ts are.parts) same are.are_parts))

    pub prepared-right : (F : Type 0) (batches : Vec Batch Global) (groups : List (List Batch)) → (let read : Result (Vec Batch Global) (StoreFault F) = Ok batches in ReadsBatches sizes base catalog tables read)
        → groups ≡ grouped (length batches.items) batches.items → IsInputAnswer sizes base catalog rbu (Ok groups)
    prepared-right F batches groups reads e =
        let told : Result (Vec Batch Global) (StoreFault F) = Ok batches in
        let right = taken told reads in
        Reads-one _ (Ok groups) (input_answer-one sizes base catalog rbu) (inputs, are, right.right, e ∙ ap (λ (bs : List Batch). grouped (length bs) bs) (sym right.batches_are))

    pub prepared-fault : {F : Type 0} (fault : StoreFault F) → (let read : Result (Vec Batch Global) (StoreFault F) = Err fault in ReadsBatches sizes base catalog tables read)
        → IsRefusedOrOther (λ (refused : InputFault). IsInputAnswer sizes base catalog rbu (Err refused)) fault
    prepared-fault {F} fault reads =
        let told : Result (Vec Batch Global) (StoreFault F) = Err fault in
        refused-then (FirstWrongInput catalog [] inputs) (λ (refused : InputFault). IsInputAnswer sizes base catalog rbu (Err refused)) fault
        (λ refused wrong. Reads-one _ (Err refused) (input_answer-one sizes base catalog rbu) (inputs, are, wrong)) (taken told reads)

-- What holds of all tables holds of those in order.

filter-all : {A : Type 0} (P : A → Type 0) (test : A → Bool) (xs : List A) → AllByRecursion P xs → AllByRecursion P (filter test xs)
filter-all P test [] all = tt
filter-all P test (x ∷ xs) all = by (test x) refl (filter-all P test xs all.1)
  where
    by : (b : Bool) → test x ≡ b → AllByRecursion P (filter test xs) → AllByRecursion P (if test x then x ∷ filter test xs else filter test xs)
    by true e rest = subst⁻¹ (λ (c : Bool). AllByRecursion P (if c then x ∷ filter test xs else filter test xs)) e (all.0, rest)
    by false e rest = subst⁻¹ (λ (c : Bool). AllByRecursion P (if c then x ∷ filter test xs else filter test xs)) e rest

lent-all : {A : Type 0} (P : A → Type 0) (xs : List (Bor A)) → AllByRecursion P (map (λ (x : Bor A). x.now) xs) → AllByRecursion (λ (x : Bor A). P x.now) xs
lent-all P [] all = tt
lent-all P (x ∷ xs) all = (all.0, lent-all P xs all.1)

pub sources-all : (P : NamedEntry → Type 0) (tables : List NamedEntry) (sources : List (Bor NamedEntry)) → IsPermutation (filter is_source tables) (map (λ (named : Bor NamedEntry). named.now) sources) → AllByRecursion P tables
    → AllByRecursion (λ (named : Bor NamedEntry). P named.now) sources
sources-all P tables sources permutes all =
    lent-all P sources
    (all-of P (map (λ (named : Bor NamedEntry). named.now) sources)
    (All-permutation P (filter is_source tables) (map (λ (named : Bor NamedEntry). named.now) sources) permutes (all-from P (filter is_source tables) (filter-all P is_source tables all))))
