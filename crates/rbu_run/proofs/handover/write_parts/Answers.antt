use Rattle.std.proofs.Common.{◌≡◌, ◌+◌, ℕ, [], List, ◌++◌, length, take, get_or, ◌∙◌, arith, refl, length-append}
use Rattle.std.specs.Borrow.{Bor}
use Rattle.std.specs.List.{flat_map}
use Rattle.file_spec.specs.declared.FileName.TheVariants.{Oal}
use Rattle.file_spec.specs.OnlyChangesLaws.{only-same, only-then, only-torn, only-written}
use Rattle.rbu_run.proofs.Parts.{flat_map-take_more}
use Rattle.rbu_run.proofs.LogWrites.{Wrote-none, Wrote-more}
use Rattle.rbu_run.proofs.PhaseCalls.{building-none, building-then, building-written}
use Rattle.rbu_run.proofs.handover.write_parts.Goals as goal

pub loop-part-init : goal.loop-part-init
loop-part-init g c = record { place = refl; wrote = Wrote-none; only = only-same Oal refl; moments = building-none; allowed = c.requires.allowed; still = refl }

pub loop-part-preserved : goal.loop-part-preserved
loop-part-preserved g c =
    let now : Bor (List ℕ) → List ℕ = λ part. part.now in
    let written : List ℕ = flat_map now (take c.loop-part.part-index c.args.parts.now) in
    let part : Bor (List ℕ) = get_or c.args.parts.now c.loop-part.part-index (record { ref_ptr = (0, 0); now = [] }) in
    let more : flat_map now (take (c.loop-part.part-index + 1) c.args.parts.now) ≡ written ++ part.now =
    flat_map-take_more now c.args.parts.now c.loop-part.part-index (record { ref_ptr = (0, 0); now = [] }) c.loop-part-test.true in
    rw more (record {
      place = omega (arith, c.loop-part.invariant.place, length-append written part.now);
      wrote = Wrote-more written part.now c.loop-part.at c.loop-part.invariant.place c.loop-part.invariant.wrote c.in_ok-write_at.ensures.done;
      only = only-then Oal c.loop-part.invariant.only (only-written Oal c.loop-part.at part.now c.in_ok-write_at.ensures.done);
      moments = building-then c.loop-part.invariant.moments (building-written c.write_at.result c.loop-part.at part.now c.write_at.ensures.moments);
      allowed = c.in_ok-write_at.ensures.test.every c.loop-part.invariant.allowed;
      still = c.in_ok-write_at.ensures.cause.counts.still ∙ c.loop-part.invariant.still;
    })

pub returns-in_err-write_at-clause-only : goal.returns-in_err-write_at-clause-only
returns-in_err-write_at-clause-only g c =
    only-then Oal c.loop-part.invariant.only
    (only-torn Oal c.loop-part.at (length (get_or c.args.parts.now c.loop-part.part-index (record { ref_ptr = (0, 0); now = [] })).now) c.in_err-write_at.ensures.failed)

pub returns-in_err-write_at-clause-moments : goal.returns-in_err-write_at-clause-moments
returns-in_err-write_at-clause-moments g c =
    building-then c.loop-part.invariant.moments
    (building-written c.write_at.result c.loop-part.at (get_or c.args.parts.now c.loop-part.part-index (record { ref_ptr = (0, 0); now = [] })).now c.write_at.ensures.moments)
