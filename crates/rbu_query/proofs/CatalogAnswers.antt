-- The answer by the catalog that was read.
use Rattle.std.proofs.Common.{◌≡◌, ℕ, List, Result, Ok, Err, refl, inl, inr}
use Rattle.std.proofs.Math.Path.{subst⁻¹}
use Rattle.refusal.specs.declared.Refusal.{Refusal}
use Rattle.tree_spec.specs.Standing.{Sizes, Paged}
use Rattle.database_spec.specs.declared.catalog.Catalog.{Catalog}
use Rattle.database_spec.specs.declared.fault.FileFault.{FileFault}
use Rattle.database_spec.specs.declared.fault.FileFault.TheVariants as file
use Rattle.database_spec.specs.RightRows.{HasCatalog, CatalogHasFault}
use Rattle.prepared_spec.specs.Plans.{table_named}
use Rattle.schema_read.specs.declared.read.CatalogFault.{CatalogFault}
use Rattle.schema_read.specs.declared.read.CatalogFault.TheVariants as catalog
use Rattle.schema_read.specs.Answers.{IsAnswer, IsRefusalOrOther}
use Rattle.dump_spec.specs.Refusals.{file_refusal}
use Rattle.dump_spec.specs.TableDumps.{IsNamedAnswer, IsTableAnswer}
use Rattle.check_spec.specs.Checks.{IsSoundAnswer}
use Rattle.table_dump.specs.declared.fault.PrintFault.{PrintFault}
use Rattle.table_dump.specs.declared.fault.PrintFault.TheVariants.{Refused, Store, Memory}
use Rattle.table_dump.specs.Answers.{Answers, IsRefusedOrOther}
use Rattle.rbu_query.specs.Answers.{of_catalog_fault}

module _ (sizes : Sizes) (base : Paged) where
  -- a fault of the schema is refused for what follows from it
  pub catalog-refused : {F : Type 0} (P : Refusal → Type 0) (fault : CatalogFault F) (told : PrintFault F) → ((wrong : FileFault) → CatalogHasFault sizes base wrong → P (file_refusal wrong)) → told ≡ of_catalog_fault fault
      → IsRefusalOrOther (λ refused. IsAnswer sizes base (Err refused)) fault → IsRefusedOrOther P told
  catalog-refused P (catalog.TreeDamaged page rule) told step e is = subst⁻¹ (IsRefusedOrOther P) e (step (file.TreeDamaged page rule) is.holds)
  catalog-refused P (catalog.SchemaRow rowid) told step e is = subst⁻¹ (IsRefusedOrOther P) e (step (file.SchemaRow rowid) is.holds)
  catalog-refused P (catalog.DuplicateName repeated) told step e is = subst⁻¹ (IsRefusedOrOther P) e (step (file.DuplicateName repeated) is.holds)
  catalog-refused P (catalog.Store fault) told step e is = subst⁻¹ (IsRefusedOrOther P) e tt
  catalog-refused P (catalog.Memory error) told step e is = subst⁻¹ (IsRefusedOrOther P) e tt

  -- that is the answer to a dump of every name
  pub dump-refused : {F : Type 0} (name : List ℕ) (fault : CatalogFault F) (told : PrintFault F) → told ≡ of_catalog_fault fault → IsRefusalOrOther (λ refused. IsAnswer sizes base (Err refused)) fault
      → IsRefusedOrOther (λ refusal. IsTableAnswer sizes base name (Err refusal)) told
  dump-refused name fault told e is = catalog-refused (λ refusal. IsTableAnswer sizes base name (Err refusal)) fault told (λ wrong has. inl (wrong, has, refl)) e is

  -- and to a check
  pub check-refused : {F : Type 0} (fault : CatalogFault F) (told : PrintFault F) → told ≡ of_catalog_fault fault → IsRefusalOrOther (λ refused. IsAnswer sizes base (Err refused)) fault
      → IsRefusedOrOther (λ refusal. IsSoundAnswer sizes base (Err refusal)) told
  check-refused fault told e is = catalog-refused (λ refusal. IsSoundAnswer sizes base (Err refusal)) fault told (λ wrong has. inl (wrong, inl has, refl)) e is

  -- what is printed of the catalog is the answer
  pub catalog-printed : {F : Type 0} (name : List ℕ) (known : Catalog) (result : Result (List ℕ) (PrintFault F)) → HasCatalog sizes base known
      → Answers (IsNamedAnswer sizes base name (table_named name known.tables)) result → Answers (IsTableAnswer sizes base name) result
  catalog-printed name known (Ok text) has is = inr (known, has, is)
  catalog-printed name known (Err (Refused refusal)) has is = inr (known, has, is)
  catalog-printed name known (Err (Store fault)) has is = tt
  catalog-printed name known (Err (Memory error)) has is = tt
