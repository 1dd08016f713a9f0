use Rattle.std.proofs.Common.{◌+◌, ap, ◌∙◌, subst, length-append, length, [], ◌∷◌, List, ℕ}
use Rattle.file_spec.specs.Records.{stable}
use Rattle.disk_memory.specs.Volume.{files_at}
use Rattle.disk_memory.specs.Replay.{Agrees}
use Rattle.disk_memory.proofs.Crashes.{files-step, index-at}
use Rattle.disk_memory.proofs.replay.first_files.Goals as goal

pub loop-name-preserved : goal.loop-name-preserved
loop-name-preserved c = record {
  long = ap length c.in_ok-push.ensures.items ∙ length-append c.loop-name.files.items (c.in_ok-kept.kept ∷ []) ∙ ap (λ n. n + 1) c.loop-name.invariant.long;
  each = λ name less. files-step c.loop-name.files.items c.push.new.self.items c.in_ok-kept.kept _ name c.loop-name.name-index (files_at c.args.start.now) c.loop-name.invariant.long
      c.in_ok-push.ensures.items (index-at c.loop-name.name-index _ c.loop-name-test.true)
      (subst (λ (b : List ℕ). Agrees c.in_ok-kept.kept (stable b)) c.given_content.ensures c.in_ok-kept.ensures) less (c.loop-name.invariant.each name);
}
