use Rattle.std.proofs.Common.{◌<◌, ◌≤◌, ◌+◌, ◌%◌, ap, ◌∙◌, arith}
use Rattle.disk_memory.specs.Replay.{numbers_at}
use Rattle.disk_memory.proofs.Crashes.{kept-before, kept-last}
use Rattle.disk_memory.proofs.replay.Replay.kept_numbers.Goals as goal

pub returns-then-kept-len : goal.returns-then-kept-len
returns-then-kept-len c r fits =
    let less : c.args.choice % (c.len.result + 1) < c.len.result = omega (arith, c.if-kept-len.true, c.len.ensures, c.len-2.ensures) in
    ap numbers_at c.index.ensures
    ∙ kept-before c.args.choice c.len.result c.args.self.now.before.items r fits.before (c.len.ensures ∙ c.args.self.now.before.ok.0) c.index.result.now less

pub returns-else-kept-len : goal.returns-else-kept-len
returns-else-kept-len c r fits =
    let behind : c.len.result ≤ c.args.choice % (c.len.result + 1) = omega (arith, c.if-kept-len.false, c.len.ensures, c.len-2.ensures) in
    fits.names ∙ kept-last c.args.choice c.len.result c.args.self.now.before.items r fits.before (c.len.ensures ∙ c.args.self.now.before.ok.0) behind
