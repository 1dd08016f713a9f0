use Rattle.std.proofs.Common.{arith}
use Rattle.frame_pool.proofs.Closing.{first_size-all}
use Rattle.frame_pool.proofs.frame.Frame.several.Goals as goal

pub returns : goal.returns
returns c = let i = c.loop.invariant in let upto = c.loop.auto.counter-end in let test = c.loop-test.false in record {
  count = omega (arith, i.0, upto, test);
  sizes = i.1;
  alike = first_size-all c.loop.frames.items c.args.page_size i.1;
}
