use Rattle.std.proofs.Common.{refl, sym, ◌∙◌, inl}
use Rattle.schema_sql.proofs.TableColumns.{unique-on_rowid}
use Rattle.schema_sql.proofs.causes.has_unique.Goals as goal

pub returns-then-branch : goal.returns-then-branch
returns-then-branch c =
    let unique = unique-on_rowid c.args.text.now c.args.table.now c.args.parts.now c.requires c.as_slice.result.now c.as_slice.ensures (sym c.in_ok-some_unique_on_rowid.ensures ∙ c.if-branch.true) in
    ((λ _. inl unique), λ _. refl)
