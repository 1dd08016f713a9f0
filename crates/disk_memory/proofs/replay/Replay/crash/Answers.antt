use Rattle.std.proofs.Common.{sym, ◌∙◌, subst, arith, ◌<◌, Option, ℕ}
use Rattle.file_spec.specs.Files.{name_index}
use Rattle.file_spec.specs.Records.{Names}
use Rattle.disk_memory.specs.Volume.{files_at}
use Rattle.disk_memory.specs.VolumeLaws.{index-below}
use Rattle.disk_memory.specs.Crash.{LeavesAt, kept_names}
use Rattle.disk_memory.specs.Replay.{numbers_at}
use Rattle.disk_memory.proofs.Crashes.{crash-step, if-some, index-at, left-known, left-within}
use Rattle.disk_memory.proofs.replay.Replay.crash.Goals as goal

pub left-requires : goal.left-requires
left-requires c = if-some c.number_of.result (λ id is.
    left-within c.args.self.now c.args.choice c.requires.0 c.requires.1 c.requires.2 (numbers_at c.kept_numbers-numbers.result)
    (c.kept_numbers-numbers.ensures c.requires.0.now.at c.requires.2.fits) _ id (sym c.number_of.ensures ∙ is))

pub loop-name-preserved : goal.loop-name-preserved
loop-name-preserved c name less t fine stands =
    let kept = c.kept_numbers-numbers.ensures t.now.at stands.fits in
    crash-step c.filling-filling.result t.now.at.stored (numbers_at c.kept_numbers-numbers.result) (files_at c.loop-name.places) (files_at c.replace_file.new.places) _ name
    c.loop-name.name-index c.in_ok-file.file (index-at c.loop-name.name-index _ c.loop-name-test.true) c.replace_file.ensures.after less
    (λ before. c.loop-name.invariant name before t fine stands)
    (subst (λ (number : Option ℕ). LeavesAt c.filling-filling.result t.now.at.stored number c.in_ok-file.file) c.number_of.ensures
    (c.in_ok-file.ensures t.now.at.stored (λ id is.
    left-known c.args.self.now c.args.choice t fine stands (numbers_at c.kept_numbers-numbers.result) kept _ id (sym c.number_of.ensures ∙ is))))

pub returns : goal.returns
returns c t fine stands name =
    let inside : name_index name < c.loop-name.name-index = omega (arith, index-below name, c.loop-name-test.false) in
    subst (λ k. LeavesAt k t.now.at.stored (kept_names c.args.choice t.now.at name) (files_at c.loop-name.places name)) (c.filling-filling.ensures t.now.at stands.fits)
    (subst (λ (m : Names). LeavesAt c.filling-filling.result t.now.at.stored (m name) (files_at c.loop-name.places name)) (c.kept_numbers-numbers.ensures t.now.at stands.fits)
    (c.loop-name.invariant name inside t fine stands))
