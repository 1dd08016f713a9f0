-- The targeted tables are plain or have one first fault: crates above cite these facts in their proofs.
use Rattle.std.proofs.Common.{◌≡◌, ℕ, List, [], ◌∷◌, length, map, Some, Ok, sym, ap, ap₂, ◌∙◌, inl, inr, refl}
use Rattle.std.proofs.Math.Path.{subst⁻¹}
use Rattle.std.specs.Prelude.{flat_map}
use Rattle.common_spec.specs.Reading.{OrFault}
use Rattle.common_spec.specs.ReadingLaws.{IsOne, OrFault-one}
use Rattle.refusal.specs.declared.Rule.{Rule}
use Rattle.rbu_rows.specs.declared.prepared.Batch.{Batch}
use Rattle.schema_spec.specs.declared.schema.Table.{Table}
use Rattle.tree_spec.specs.declared.TreeKind.TheVariants.{Table as TableTree}
use Rattle.tree_spec.specs.Standing.{Sizes, Paged}
use Rattle.database_spec.specs.declared.catalog.NamedEntry.{NamedEntry}
use Rattle.database_spec.specs.declared.catalog.Catalog.{Catalog}
use Rattle.database_spec.specs.Walks.{Finding, Finds, Ends, Holds, Breaks, Disorders, Bares, IsWalk, stop_of}
use Rattle.database_spec.specs.WalksLaws.{walk-one}
use Rattle.database_spec.specs.ListsLaws.{beside-one}
use Rattle.prepared_spec.specs.declared.input_fault.InputFault.{InputFault}
use Rattle.prepared_spec.specs.declared.input_fault.InputFault.TheVariants.{TreeDamaged, TargetRecord}
use Rattle.prepared_spec.specs.InputFaultsLaws.{some-one, cause-one}
use Rattle.prepared_spec.specs.TargetRecords.{TargetFinding, IsStop, IsWrongIn, FirstWrongTarget, AllRightTargets, IsTargetWalk, AreTargetFindings, TargetIsPlain, TargetHasFault}

stop-one : (finding : Finding) → IsOne (IsStop finding)
stop-one finding a b (stop, p, e) (other, q, f) = e ∙ ap (λ (s : ℕ × Rule). TreeDamaged s.0 s.1) (some-one (stop_of finding) stop other p q) ∙ sym f

wrong_in-one : (name : List ℕ) (table : Table) (finding : Finding) → IsOne (IsWrongIn name table finding)
wrong_in-one name table (Holds page member) a b (cause, p, e) (other, q, f) =
    e ∙ ap (TargetRecord name member.rowid) (cause-one member.payload (length table.columns) cause other p q) ∙ sym f
wrong_in-one name table (Finds page) a b p q = absurd p
wrong_in-one name table (Ends page depth) a b p q = absurd p
wrong_in-one name table (Breaks page rule) a b p q = stop-one (Breaks page rule) a b p q
wrong_in-one name table (Disorders page) a b p q = stop-one (Disorders page) a b p q
wrong_in-one name table (Bares page) a b p q = absurd p

first_wrong_target-one : (found : List TargetFinding) → IsOne (FirstWrongTarget found)
first_wrong_target-one [] a b p q = absurd p
first_wrong_target-one (one ∷ found) a b (inl p) (inl q) = wrong_in-one one.name one.table one.finding a b p q
first_wrong_target-one (one ∷ found) a b (inl p) (inr q) = absurd (q.0 a p)
first_wrong_target-one (one ∷ found) a b (inr p) (inl q) = absurd (p.0 b q)
first_wrong_target-one (one ∷ found) a b (inr p) (inr q) = first_wrong_target-one found a b p.1 q.1

rights-no_first : (found : List TargetFinding) (fault : InputFault) → AllRightTargets found → ¬ FirstWrongTarget found fault
rights-no_first [] fault p q = q
rights-no_first (one ∷ found) fault p (inl q) = p.0 fault q
rights-no_first (one ∷ found) fault p (inr q) = rights-no_first found fault p.1 q.1

abbrev seen_in : NamedEntry → Table → List Finding → List TargetFinding
seen_in named table findings = map (λ finding. record { name = named.name; table = table; finding = finding }) findings

module _ (sizes : Sizes) (base : Paged) (catalog : Catalog) where
  target_walk-one : (batch : Batch) → IsOne (IsTargetWalk sizes base catalog batch)
  target_walk-one batch a b p q =
      let named : p.named ≡ q.named = some-one _ p.named q.named p.is_named q.is_named in
      let read : Ok p.table ≡ Ok q.table = sym p.table_is ∙ ap (λ (n : NamedEntry). n.entry.meaning) named ∙ q.table_is in
      let table : p.table ≡ q.table = cc in
      let root : p.named.entry.root ≡ q.named.entry.root = ap (λ (n : NamedEntry). n.entry.root) named in
      let findings =
      subst⁻¹ (λ (r : ℕ). (others : List Finding) → IsWalk sizes base TableTree r others → p.findings ≡ others) (sym root)
      (λ others is. walk-one sizes base TableTree p.named.entry.root p.findings others p.is_walk is) q.findings q.is_walk in
      p.found_are ∙ ap (λ (n : NamedEntry). seen_in n p.table p.findings) named ∙ ap₂ (seen_in q.named) table findings ∙ sym q.found_are

  target_findings-one : (batches : List Batch) → IsOne (AreTargetFindings sizes base catalog batches)
  target_findings-one batches a b p q =
      p.found_are ∙ ap (flat_map (λ part. part)) (beside-one (IsTargetWalk sizes base catalog) target_walk-one batches p.parts q.parts p.are_parts q.are_parts) ∙ sym q.found_are

  target_fault-one : (batches : List Batch) → IsOne (TargetHasFault sizes base catalog batches)
  target_fault-one batches a b (found, are, p) (other, also, q) =
      first_wrong_target-one found a b p (subst⁻¹ (λ (f : List TargetFinding). FirstWrongTarget f b) (target_findings-one batches found other are also) q)

  target-no_fault : (batches : List Batch) (fault : InputFault) → TargetIsPlain sizes base catalog batches → ¬ TargetHasFault sizes base catalog batches fault
  target-no_fault batches fault (found, are, right) (other, also, first) =
      rights-no_first found fault right (subst⁻¹ (λ (f : List TargetFinding). FirstWrongTarget f fault) (target_findings-one batches found other are also) first)

  -- the targeted tables are plain, or have one first fault, and never both
  pub target_answer-one : (batches : List Batch) → IsOne (OrFault {A = Unit {0}} (λ (done : Unit {0}). TargetIsPlain sizes base catalog batches) (TargetHasFault sizes base catalog batches))
  target_answer-one batches =
      OrFault-one (λ (done : Unit {0}). TargetIsPlain sizes base catalog batches) (TargetHasFault sizes base catalog batches) (λ a b p q. refl) (target_fault-one batches)
      (λ done fault. target-no_fault batches fault)
