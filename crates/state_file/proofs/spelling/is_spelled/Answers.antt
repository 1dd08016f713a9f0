use Rattle.std.proofs.Common.{◌≡◌, List, map, take, sym, ap, ◌∙◌, refl}
use Rattle.std.proofs.lemmas.List.{take-map}
use Rattle.rbu_value.specs.declared.value.Value.{Value}
use Rattle.state_file.specs.Lent.{value_of}
use Rattle.state_file.proofs.Spelled.{spelled-by, nine-values, eight-alone}
use Rattle.state_file.proofs.spelling.is_spelled.Goals as goal

pub returns-in-Some : goal.returns-in-Some
returns-in-Some c =
    spelled-by c.args.bytes.now c.args.values.now (map value_of c.lend_values-lent.result) c.is_file_of.result
    (c.lend_values-lent.ensures.values ∙ nine-values c.args.values.now c.in-Some.field-0 c.in-Some.is) c.lend_values-lent.ensures.range c.is_file_of.ensures

pub returns-in-None : goal.returns-in-None
returns-in-None c =
    spelled-by c.args.bytes.now c.args.values.now (map value_of (take 8 c.lend_values-lent.result)) c.is_file_of-in-None.result
    (sym (take-map value_of 8 c.lend_values-lent.result) ∙ ap (take 8) c.lend_values-lent.ensures.values ∙ eight-alone c.args.values.now c.in-None.is) c.lend_values-lent.ensures.range c.is_file_of-in-None.ensures
