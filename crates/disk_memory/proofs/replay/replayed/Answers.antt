use Rattle.std.proofs.Common.{◌≡◌, ◌+◌, List, [], ◌∷◌, ◌++◌, take, sym, ap, ◌∙◌, subst}
use Rattle.std.proofs.lemmas.List.{take_more}
use Rattle.file_spec.specs.Trails.{Trail}
use Rattle.disk_memory.specs.declared.volume.Step.{Step}
use Rattle.disk_memory.specs.Volume.{IsShort, files_at, first_trail, trail_from}
use Rattle.disk_memory.specs.VolumeLaws.{fine-first, fine-from, from-more}
use Rattle.disk_memory.specs.Replay.{StandsAt}
use Rattle.disk_memory.proofs.replay.replayed.Goals as goal

pub apply-requires : goal.apply-requires
apply-requires c = record {
  stands = (
    trail_from (first_trail (files_at c.args.start.now)) (take c.loop-step.step-index c.args.steps.now),
    fine-from (first_trail (files_at c.args.start.now)) (take c.loop-step.step-index c.args.steps.now) (fine-first (files_at c.args.start.now)),
    c.loop-step.invariant,
  );
  short = subst IsShort (sym c.step-item.is) (c.requires c.loop-step.step-index c.step-item.result c.loop-step-test.true);
}

pub loop-step-preserved : goal.loop-step-preserved
loop-step-preserved c =
    let start : Trail = first_trail (files_at c.args.start.now) in
    let made : List Step = take c.loop-step.step-index c.args.steps.now in
    let more : take (c.loop-step.step-index + 1) c.args.steps.now ≡ made ++ c.step-item.result ∷ [] =
    take_more c.args.steps.now c.loop-step.step-index c.step-item.result c.loop-step-test.true ∙ ap (λ (s : Step). made ++ s ∷ []) (sym c.step-item.is) in
    subst (StandsAt c.apply.new.self) (sym (ap (trail_from start) more ∙ from-more start made c.step-item.result))
    (c.in_ok-apply.ensures (trail_from start made) (fine-from start made (fine-first (files_at c.args.start.now))) c.loop-step.invariant)
