use Rattle.std.proofs.Common.{rules, refl, sym, subst, arith}
use Rattle.std.proofs.lemmas.Option.{IfSome_then}
use Rattle.common_spec.specs.ToldLaws.{told-both}
use Rattle.oal_store.specs.declared.fault.OalFault.TheVariants.{OalShort}
use Rattle.oal_store.specs.Saved.{Saved, IsStartFault}
use Rattle.oal_store.proofs.Starts.{only-fault, fault-of_log}
use Rattle.oal_store.proofs.start.read_saved.Goals as goal

pub returns-then-has-size-clause-faults : goal.returns-then-has-size-clause-faults
returns-then-has-size-clause-faults g c page_size sums =
    only-fault (record { page_size = page_size; size = c.args.size; sums = sums }) (g.D.Disk.shown c.args.disk.now) (OalShort c.in_ok-has.has c.args.size)
    (IfSome_then (g.D.Disk.shown c.args.disk.now) c.in_ok-has.ensures.files.answer (λ f is. (is, refl, omega (arith, is, c.if-has-size.true))))

pub returns-in-Ok-clause-files : goal.returns-in-Ok-clause-files
returns-in-Ok-clause-files g c = record {
  same = search rules;
  answer = told-both (g.D.Disk.shown c.args.disk.now) c.in_ok-has.ensures.files.same c.in_ok-has.ensures.files.answer c.in-Ok.ensures.files.answer (λ f is reads. (omega (arith, is, c.if-has-size.false), reads.holds));
  moments = search rules;
  test = search rules;
}

pub returns-in-Err-clause-faults : goal.returns-in-Err-clause-faults
returns-in-Err-clause-faults g c page_size sums =
    let saved : Saved = record { page_size = page_size; size = c.args.size; sums = sums } in
    let shown = g.D.Disk.shown c.args.disk.now in
    subst (IsStartFault shown saved) (sym c.from.ensures)
    (fault-of_log saved shown _ c.in-Err.fault c.in_ok-has.ensures.files.same (IfSome_then shown c.in_ok-has.ensures.files.answer (λ f is. omega (arith, is, c.if-has-size.false))) c.in-Err.ensures.faults)
