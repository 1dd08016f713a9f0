use Rattle.std.proofs.Common.{sym, ap, ◌∙◌}
use Rattle.std.specs.Prelude.{option_map}
use Rattle.std.proofs.lemmas.Option.{none-some}
use Rattle.database_spec.specs.Catalogs.{automatic_index}
use Rattle.schema_read.proofs.AutomaticNames.{not-automatic}
use Rattle.schema_read.proofs.meanings.automatic.Goals as goal

pub numbered-requires-clause-only : goal.numbered-requires-clause-only
numbered-requires-clause-only c n low high same = cc (c.in-Some.is, c.row_number.ensures.only n low high same)

pub returns-in-None : goal.returns-in-None
returns-in-None c =
    ap (option_map (automatic_index c.args.row.now)) (sym (not-automatic c.args.row.now c.args.keys.now (λ n low high same. none-some n (sym c.in-None.is ∙ c.row_number.ensures.only n low high same))))
