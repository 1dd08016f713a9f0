-- What texts mean.
use Rattle.std.proofs.Common.{◌≡◌, ℕ, ◌⊎◌, Bool, List, [], ◌∷◌, map, Err, refl, ap, subst, inl, inr}
use Rattle.std.proofs.Math.Path.{subst⁻¹}
use Rattle.rbu_value.specs.declared.order.Collation.{Collation}
use Rattle.common_spec.specs.Reading.{Reads, OrFault}
use Rattle.schema_spec.specs.declared.schema.Clause.{Clause}
use Rattle.schema_spec.specs.declared.schema.SqlFault.{SqlFault}
use Rattle.schema_spec.specs.declared.schema.SqlFault.TheVariants.{OutsideProfile}
use Rattle.schema_spec.specs.declared.schema.Index.{Index}
use Rattle.schema_spec.specs.Texts.{IsMemory}
use Rattle.database_spec.specs.Catalogs.{column_under, index_under}

-- a text that is outside the profile is told so
pub told-outside : {A : Type 0} (P : A → Type 0) (F : SqlFault → Type 0) (fault : SqlFault) (clause : Clause) → fault ≡ OutsideProfile clause
    → (IsMemory fault ⊎ Reads (OrFault P F) (Err fault)) → F (OutsideProfile clause)
told-outside {A} P F fault clause e told = by (subst (λ (f : SqlFault). IsMemory f ⊎ Reads (OrFault P F) (Err f)) e told)
  where
    by : (IsMemory (OutsideProfile clause) ⊎ Reads (OrFault P F) (Err (OutsideProfile clause))) → F (OutsideProfile clause)
    by (inl memory) = absurd memory
    by (inr reads) = reads.holds

columns-four : (columns : List (ℕ × Collation × Bool)) → columns ≡ map (column_under 4) columns
columns-four [] = refl
columns-four (column ∷ columns) = ap (λ (cs : List (ℕ × Collation × Bool)). column ∷ cs) (columns-four columns)

-- under schema format 4 an index is what its text means, and under others no column descends
pub under-four : (format : ℕ) (index : Index) → format ≡ 4 → index ≡ index_under format index
under-four format index e = subst⁻¹ (λ (f : ℕ). index ≡ index_under f index) e (ap (λ (cs : List (ℕ × Collation × Bool)). let i : Index = record { name = index.name; table = index.table; unique = index.unique; columns = cs } in i) (columns-four index.columns))
