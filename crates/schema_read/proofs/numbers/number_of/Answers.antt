use Rattle.std.proofs.Common.{◌≡◌, Ok, sym, subst, ◌∙◌}
use Rattle.std.proofs.lemmas.Fmt.{IsAscii-decimal, parse-decimal}
use Rattle.std.proofs.lemmas.Str.{IsUtf8-from_ascii}
use Rattle.std.specs.Prelude.{decimal}
use Rattle.std.specs.Str.{IsUtf8}
use Rattle.schema_read.proofs.numbers.number_of.Goals as goal

pub returns-in-Ok-parse : goal.returns-in-Ok-parse
returns-in-Ok-parse c n fits is =
    let read : c.parse.result ≡ Ok n = parse-decimal 64 n c.in-Ok.text.now c.parse.result fits fits (c.in-Ok.ensures.cases.0 ∙ is) c.parse.ensures.value.0 in
    cc (read, c.in-Ok-parse.is)

pub returns-in-Err-parse : goal.returns-in-Err-parse
returns-in-Err-parse c n fits is =
    let read : c.parse.result ≡ Ok n = parse-decimal 64 n c.in-Ok.text.now c.parse.result fits fits (c.in-Ok.ensures.cases.0 ∙ is) c.parse.ensures.value.0 in
    absurd (let h : ⊥ = cc (read, c.in-Err-parse.is) in h)

pub returns-in-Err : goal.returns-in-Err
returns-in-Err c n fits is = absurd (c.in-Err.ensures.cases.0 (subst IsUtf8 (sym is) (IsUtf8-from_ascii (decimal n) (IsAscii-decimal n fits))))
