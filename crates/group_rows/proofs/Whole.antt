-- What is answered of a group is what it touches.
use Rattle.std.proofs.Common.{◌≡◌, ℕ, ℤ, Bool, List, [], ◌∷◌, refl, ◌∙◌}
use Rattle.std.proofs.Math.Path.{subst⁻¹}
use Rattle.std.specs.Prelude.{Option}
use Rattle.std.specs.List.{AllByRecursion, AllZip}
use Rattle.rbu_value.specs.declared.value.Value.{Value}
use Rattle.rbu_rows.specs.declared.prepared.Batch.{Batch}
use Rattle.rbu_rows.specs.declared.prepared.Prepared.{Prepared}
use Rattle.schema_spec.specs.declared.schema.Table.{Table}
use Rattle.database_spec.specs.Rows.{TableRow}
use Rattle.prepared_spec.specs.declared.violation.Violation.{Violation}
use Rattle.prepared_spec.specs.RowKeys.{IsInKeyOrder}
use Rattle.prepared_spec.specs.Tables.{IsAfterBatches}
use Rattle.prepared_spec.specs.Plans.{AreFaults}
use Rattle.prepared_laws.specs.TablesMadeLaws.{Apart}
use Rattle.compared_keys.specs.Keys.{HasKey}
use Rattle.index_changes.specs.declared.pairs.OldNew.{OldNew}
use Rattle.touched_rows.specs.TouchedRows.{AreMade, AreTouchedPairsFrom, batches_before_fault}
use Rattle.group_rows.specs.GivenRows.{AreGiven}
use Rattle.group_rows.specs.Runs.{begun, group_run}
use Rattle.group_rows.specs.Touching.{ArePairsOf}
use Rattle.group_rows.proofs.Behind.{ordered-disjoint}
use Rattle.group_rows.proofs.Groups.{GroupIs, AreKeyed, group-is}
use Rattle.group_rows.proofs.Ordering.{ordered-keys, ordered-pairs}
use Rattle.group_rows.proofs.Pairing.{pairs-touched}

module _ (format : ℕ) (name : List ℕ) (table : Table) (g : ℤ) (before after : List TableRow) (rows : List (ℤ × List Value)) (batches : List Batch) (ordered : List (List Prepared)) (faults : List (List (Option Violation)))
    (is : AreGiven before rows) (orders : AllZip (λ (batch : Batch) (prepared : List Prepared). IsInKeyOrder table batch.rows prepared) batches ordered)
    (keys : AllByRecursion (λ (batch : Batch). AllByRecursion (HasKey table) batch.rows) batches) (are : AreFaults format name table g 0 before ordered faults)
    (chain : IsAfterBatches format table g 0 before (batches_before_fault ordered faults) after) where
  all-keyed : (bs : List Batch) (os : List (List Prepared)) → AllZip (λ (batch : Batch) (prepared : List Prepared). IsInKeyOrder table batch.rows prepared) bs os → AllByRecursion (λ (batch : Batch). AllByRecursion (HasKey table) batch.rows) bs
      → AllByRecursion (AreKeyed format name table g) os
  all-keyed [] [] zip all = tt
  all-keyed [] (o ∷ os) zip all = absurd zip
  all-keyed (b ∷ bs) [] zip all = absurd zip
  all-keyed (b ∷ bs) (o ∷ os) zip all =
      let have = ordered-keys table b.rows o zip.0 all.0 in ((have, ordered-disjoint table o have (ordered-pairs table b.rows o zip.0 all.0)), all-keyed bs os zip.1 all.1)

  whole-is : GroupIs format name table g before 0 (begun rows) ordered (batches_before_fault ordered faults) after (group_run table g ordered (begun rows))
  whole-is = group-is format name table g ordered before (begun rows) faults after is refl (all-keyed batches ordered orders keys) are chain

  pub whole-made : (marks : List Bool) → marks ≡ (group_run table g ordered (begun rows)).marks → AreMade format table g 0 before ordered (batches_before_fault ordered faults) marks
  whole-made marks e = subst⁻¹ (AreMade format table g 0 before ordered (batches_before_fault ordered faults)) (e ∙ whole-is.marks) whole-is.made_are

  pub whole-pairs : (pairs : List OldNew) → Apart before → ArePairsOf rows (group_run table g ordered (begun rows)) pairs → AreTouchedPairsFrom format table g 0 before (batches_before_fault ordered faults) after pairs
  whole-pairs pairs apart are_pairs =
      pairs-touched format name table g before after rows ordered (batches_before_fault ordered faults) (group_run table g ordered (begun rows)) pairs is apart chain whole-is are_pairs
