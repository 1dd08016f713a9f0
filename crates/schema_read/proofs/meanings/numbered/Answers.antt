use Rattle.std.proofs.Common.{◌≡◌, ◌+◌, ◌-◌, Some, sym, ap, ◌∙◌, arith}
use Rattle.std.specs.Prelude.{option_map}
use Rattle.database_spec.specs.Catalogs.{automatic_index}
use Rattle.schema_read.proofs.AutomaticNames.{numbered-is, numbered-not}
use Rattle.schema_read.proofs.meanings.numbered.Goals as goal

pub returns-then-branch : goal.returns-then-branch
returns-then-branch c =
    let row = c.args.row.now in
    let number = c.args.number in
    let place : number ≡ 1 + (number - 1) = omega (arith, c.requires.first) in
    let found = numbered-is row c.args.keys.now number (number - 1) place c.requires.within c.requires.only (sym c.in_ok-is_numbered.ensures ∙ c.if-branch.true) ∙ c.columns_at.ensures in
    ap Some c.in_ok-index.ensures ∙ sym (ap (option_map (automatic_index row)) found)

pub returns : goal.returns
returns c =
    let row = c.args.row.now in
    let number = c.args.number in
    let place : number ≡ 1 + (number - 1) = omega (arith, c.requires.first) in
    sym (ap (option_map (automatic_index row)) (numbered-not row c.args.keys.now number (number - 1) place c.requires.within c.requires.only (sym c.in_ok-is_numbered.ensures ∙ c.if-branch.false)))
