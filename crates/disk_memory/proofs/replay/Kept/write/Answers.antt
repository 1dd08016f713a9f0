use Rattle.std.proofs.Common.{◌≡◌, ap, ◌∙◌, min, length, arith}
use Rattle.byte_fields.specs.Bytes.{overwritten}
use Rattle.disk_memory.proofs.Filled.{filled-written}
use Rattle.std.proofs.lemmas.Result.{on_ok_weaker}
use Rattle.disk_memory.proofs.replay.Kept.write.Goals as goal

pub returns : goal.returns
returns c = on_ok_weaker c.overwrite.result (λ wrote s agrees.
    let begins : c.min-from.result ≡ min c.args.at (length s.shown) = grind (arith, c.min-from.ensures, c.as_slice.ensures, agrees.shown) in
    record {
      shown = wrote ∙ ap (λ old. overwritten old c.args.at c.args.bytes.now) agrees.shown;
      synced = agrees.synced;
      marked = rw c.in_ok-mark.ensures (filled-written c.args.at c.min-from.result c.args.bytes.now s c.args.self.now.marked begins agrees.marked);
    }) c.overwrite.ensures.done
