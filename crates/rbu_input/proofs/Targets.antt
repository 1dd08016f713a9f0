-- The tables that batches are for, one after the other.
use Rattle.std.proofs.Common.{◌≡◌, ℕ, List, [], ◌∷◌, Some, Result, Ok, Err, refl, sym, ap, ap₂, ◌∙◌, subst}
use Rattle.std.proofs.Math.Path.{subst⁻¹}
use Rattle.std.specs.Prelude.{flat_map}
use Rattle.std.specs.List.{AllByRecursion, AllZip}
use Rattle.common_spec.specs.ReadingLaws.{Reads-one}
use Rattle.rbu_rows.specs.declared.prepared.Batch.{Batch}
use Rattle.schema_spec.specs.declared.schema.Table.{Table}
use Rattle.tree_spec.specs.declared.TreeKind.TheVariants.{Table as TableTree}
use Rattle.tree_spec.specs.Standing.{Sizes, Paged}
use Rattle.database_spec.specs.declared.catalog.NamedEntry.{NamedEntry}
use Rattle.database_spec.specs.declared.catalog.Catalog.{Catalog}
use Rattle.database_spec.specs.Walks.{IsWalk}
use Rattle.walk_laws.specs.WalksMadeLaws.{walk-found}
use Rattle.prepared_spec.specs.declared.input_fault.InputFault.{InputFault}
use Rattle.prepared_spec.specs.InputFaultsLaws.{some-one}
use Rattle.prepared_spec.specs.Plans.{table_named}
use Rattle.prepared_spec.specs.TargetRecords.{TargetFinding, FirstWrongTarget, AllRightTargets, IsTargetWalk, AreTargetFindings}
use Rattle.prepared_spec.specs.TargetRecordsLaws.{target_answer-one}
use Rattle.rbu_input.specs.declared.store_fault.StoreFault.{StoreFault}
use Rattle.rbu_input.specs.Reading.{IsRefusedOrOther}
use Rattle.rbu_input.specs.Targets.{targets_of, ChecksRows, IsKnown, ChecksFound, ChecksBatch, IsOneAnswer, IsTargetAnswer}
use Rattle.rbu_input.proofs.Firsts.{targets-join, target-behind, target-front}
use Rattle.rbu_input.proofs.Walking.{refused-then}

module _ (sizes : Sizes) (base : Paged) (catalog : Catalog) where
  module _ (batch : Batch) (named : NamedEntry) (table : Table) (is_named : table_named batch.table catalog.tables ≡ Some named) (meaning : named.entry.meaning ≡ Ok table) where
    -- the walk that is found is that over the tree of this table
    found-of : (found : List TargetFinding) (is : IsTargetWalk sizes base catalog batch found)
        → IsWalk sizes base TableTree named.entry.root is.findings × (found ≡ targets_of named.name table is.findings)
    found-of found is =
        let same : named ≡ is.named = some-one (table_named batch.table catalog.tables) named is.named is_named is.is_named in
        let read : Ok table ≡ Ok is.table = sym meaning ∙ ap (λ (n : NamedEntry). n.entry.meaning) same ∙ is.table_is in
        let tables : table ≡ is.table = cc in (
          subst⁻¹ (λ (n : NamedEntry). IsWalk sizes base TableTree n.entry.root is.findings) same is.is_walk,
          is.found_are ∙ ap₂ (λ (n : NamedEntry) (t : Table). targets_of n.name t is.findings) (sym same) (sym tables),
        )

    pub checks-batch : {F : Type 0} (result : Result Unit (StoreFault F)) → ChecksRows sizes base named.name table named.entry.root result → ChecksBatch sizes base catalog batch result
    checks-batch result checks found is = let walk = found-of found is in subst⁻¹ (λ (f : List TargetFinding). ChecksFound f result) walk.1 (checks is.findings walk.0)

  -- each table has a walk
  walk-made : (count : ℕ) (batch : Batch) → IsKnown catalog count batch → (found : List TargetFinding) × IsTargetWalk sizes base catalog batch found
  walk-made count batch known =
      let walk = walk-found sizes base TableTree known.named.entry.root in (
        targets_of known.named.name known.table walk.0,
        record { named = known.named; is_named = known.is_named; table = known.table; table_is = known.meaning; findings = walk.0; is_walk = walk.1; found_are = refl },
      )

  pub walks-made : (count : ℕ) (batches : List Batch) → AllByRecursion (IsKnown catalog count) batches → (parts : List (List TargetFinding)) × AllZip (IsTargetWalk sizes base catalog) batches parts
  walks-made count [] known = ([], tt)
  walks-made count (batch ∷ batches) known = let one = walk-made count batch known.0 in let rest = walks-made count batches known.1 in (one.0 ∷ rest.0, (one.1, rest.1))

  abbrev joined : List (List TargetFinding) → List TargetFinding
  joined parts = flat_map (λ part. part) parts

  -- what is left of the batches, and what it says of all
  pub record Keeps (parts : List (List TargetFinding)) (left : List Batch) : Type 0 where
    pub left_parts : List (List TargetFinding)
    pub are_parts : AllZip (IsTargetWalk sizes base catalog) left left_parts
    pub right : AllRightTargets (joined left_parts) → AllRightTargets (joined parts)
    pub wrong : (fault : InputFault) → FirstWrongTarget (joined left_parts) fault → FirstWrongTarget (joined parts) fault

  abbrev pub KeepsBatches : List Batch → List Batch → Type 0
  KeepsBatches batches left = (parts : List (List TargetFinding)) → AllZip (IsTargetWalk sizes base catalog) batches parts → Keeps parts left

  pub batches-none : (batches : List Batch) → KeepsBatches batches batches
  batches-none batches = λ parts are. record { left_parts = parts; are_parts = are; right = λ right. right; wrong = λ fault wrong. wrong }

  -- the first of those that are left
  record First (left : List Batch) (batch : Batch) (rest : List Batch) (parts : List (List TargetFinding)) : Type 0 where
    part : List TargetFinding
    others : List (List TargetFinding)
    parts_are : parts ≡ part ∷ others
    is_walk : IsTargetWalk sizes base catalog batch part
    are_walks : AllZip (IsTargetWalk sizes base catalog) rest others

  first-of : (batch : Batch) (rest : List Batch) (parts : List (List TargetFinding)) → AllZip (IsTargetWalk sizes base catalog) (batch ∷ rest) parts → First (batch ∷ rest) batch rest parts
  first-of batch rest [] are = absurd are
  first-of batch rest (part ∷ others) are = record { part = part; others = others; parts_are = refl; is_walk = are.0; are_walks = are.1 }

  module _ (left : List Batch) (batch : Batch) (rest : List Batch) (left_is : left ≡ batch ∷ rest) (parts : List (List TargetFinding)) (keeps : Keeps parts left) where
    first : First (batch ∷ rest) batch rest keeps.left_parts
    first = first-of batch rest keeps.left_parts (subst (λ (b : List Batch). AllZip (IsTargetWalk sizes base catalog) b keeps.left_parts) left_is keeps.are_parts)

    pub keeps-next : (F : Type 0) → (let done : Result Unit (StoreFault F) = Ok tt in ChecksBatch sizes base catalog batch done) → Keeps parts rest
    keeps-next F checks =
        let right = checks first.part first.is_walk in record {
          left_parts = first.others;
          are_parts = first.are_walks;
          right = λ later. keeps.right (subst⁻¹ (λ (ps : List (List TargetFinding)). AllRightTargets (joined ps)) first.parts_are (targets-join first.part (joined first.others) right later));
          wrong = λ fault later.
              keeps.wrong fault (subst⁻¹ (λ (ps : List (List TargetFinding)). FirstWrongTarget (joined ps) fault) first.parts_are (target-behind first.part (joined first.others) fault right later));
        }

    pub keeps-fault : {F : Type 0} (fault : StoreFault F) → (let failed : Result Unit (StoreFault F) = Err fault in ChecksBatch sizes base catalog batch failed) → IsRefusedOrOther (FirstWrongTarget (joined parts)) fault
    keeps-fault fault checks =
        refused-then (FirstWrongTarget first.part) (FirstWrongTarget (joined parts)) fault
        (λ refused wrong.
        keeps.wrong refused (subst⁻¹ (λ (ps : List (List TargetFinding)). FirstWrongTarget (joined ps) refused) first.parts_are (target-front first.part (joined first.others) refused wrong)))
        (checks first.part first.is_walk)

  pub batches-next : (F : Type 0) (batches left : List Batch) (batch : Batch) (rest : List Batch) → left ≡ batch ∷ rest → KeepsBatches batches left
      → (let done : Result Unit (StoreFault F) = Ok tt in ChecksBatch sizes base catalog batch done) → KeepsBatches batches rest
  batches-next F batches left batch rest left_is keeps checks = λ parts are. keeps-next left batch rest left_is parts (keeps parts are) F checks

  no-parts : (left : List Batch) (parts : List (List TargetFinding)) → left ≡ [] → AllZip (IsTargetWalk sizes base catalog) left parts → parts ≡ []
  no-parts [] [] e are = refl
  no-parts [] (part ∷ parts) e are = absurd are
  no-parts (batch ∷ left) parts e are = absurd (let no : ⊥ = cc in no)

  module _ (count : ℕ) (batches : List Batch) (known : AllByRecursion (IsKnown catalog count) batches) where
    found-all : (parts : List (List TargetFinding)) → AllZip (IsTargetWalk sizes base catalog) batches parts → AreTargetFindings sizes base catalog batches (joined parts)
    found-all parts are = record { parts = parts; are_parts = are; found_are = refl }

    pub batches-end : (F : Type 0) (left : List Batch) → left ≡ [] → KeepsBatches batches left
        → (let answer : Result Unit (StoreFault F) = Ok tt in IsTargetAnswer sizes base catalog batches answer)
    batches-end F left none keeps =
        let made = walks-made count batches known in
        let kept = keeps made.0 made.1 in
        let right = kept.right (subst⁻¹ (λ (ps : List (List TargetFinding)). AllRightTargets (joined ps)) (no-parts left kept.left_parts none kept.are_parts) tt) in
        Reads-one _ (Ok tt) (target_answer-one sizes base catalog batches) (joined made.0, found-all made.0 made.1, right)

    pub batches-fault : {F : Type 0} (left : List Batch) (batch : Batch) (rest : List Batch) (fault : StoreFault F) → left ≡ batch ∷ rest → KeepsBatches batches left
        → (let failed : Result Unit (StoreFault F) = Err fault in ChecksBatch sizes base catalog batch failed)
        → (let answer : Result Unit (StoreFault F) = Err fault in IsTargetAnswer sizes base catalog batches answer)
    batches-fault left batch rest fault left_is keeps checks =
        let made = walks-made count batches known in
        refused-then (FirstWrongTarget (joined made.0)) (λ (refused : InputFault). IsOneAnswer sizes base catalog batches (Err refused)) fault
        (λ refused wrong. Reads-one _ (Err refused) (target_answer-one sizes base catalog batches) (joined made.0, found-all made.0 made.1, wrong))
        (keeps-fault left batch rest left_is made.0 (keeps made.0 made.1) fault checks)
