use Rattle.std.proofs.Common.{ℕ, List, IsTrue}
use Rattle.std.proofs.Math.Path.{subst⁻¹}
use Rattle.schema_spec.specs.Words.{same_name}
use Rattle.database_spec.specs.Catalogs.{automatic_name}
use Rattle.schema_read.proofs.meanings.row_number.Goals as goal

pub returns-clause-only : goal.returns-clause-only
returns-clause-only c n low high same =
    c.number_in.ensures.only n low high
    (subst⁻¹ (λ (table : List ℕ). IsTrue (same_name c.as_slice.result.now (automatic_name table n))) c.as_slice-2.ensures
    (subst⁻¹ (λ (name : List ℕ). IsTrue (same_name name (automatic_name c.args.row.now.table n))) c.as_slice.ensures same))
