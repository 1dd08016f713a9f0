use Rattle.std.proofs.Common.{◌∙◌}
use Rattle.disk_memory.proofs.Crashes.{filling-is}
use Rattle.disk_memory.proofs.replay.Replay.filling.Goals as goal

pub returns : goal.returns
returns c r fits = filling-is c.args.choice c.len.result c.args.self.now.before.items r fits.before (c.len.ensures ∙ c.args.self.now.before.ok.0)
