use Rattle.std.proofs.Common.{◌≡◌, ◌==◌, not, List, rules, tests, ap, ◌∙◌}
use Rattle.arrayvec.proofs.ArrayVecLemmas.{filter-from_retain}
use Rattle.lock_steps.specs.declared.locks.OpenRead.{OpenRead}
use Rattle.lock_steps.specs.Locks.{Held, LockState, direct_count, without}
use Rattle.lock_steps.proofs.Counts.{direct_count-without}
use Rattle.lock_steps.proofs.locks.Locks.end.Goals as goal

kept : (c : goal.After-retain) → c.retain.new.self.items ≡ without c.args.r c.self.inside.reads.items
kept c = filter-from_retain _ (λ read. not (read.reader == c.args.r)) _ (λ x b f' y called. search (rules, tests)) _ _ c.retain.ensures.filtered

pub invariant_of-self : goal.invariant_of-self
invariant_of-self c e =
    ap direct_count (kept c) ∙ direct_count-without c.args.r c.self.inside.reads.items (c.self.invariant e)

pub returns : goal.returns
returns c =
    let held : Held = record { bar = c.self.inside.bar; ckpt = c.self.inside.ckpt } in
    ap (λ (reads : List OpenRead). record { held = held; reads = reads }) (kept c)
    ∙ ap (λ (s : LockState). record { held = s.held; reads = without c.args.r s.reads }) c.self.view_is
