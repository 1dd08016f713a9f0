use Rattle.std.proofs.Common.{ap, length, ◌∙◌}
use Rattle.oal_store.proofs.Entries.{changed-insert}
use Rattle.oal_store.proofs.store.OalStore.put.Goals as goal

pub invariant_of-self : goal.invariant_of-self
invariant_of-self c =
    let old = c.args.self.now in
    record {
      some = old.some;
      words = old.words;
      few = old.few;
      whole = changed-insert c.insert.result old.log.page_size old.count c.args.number c.in_ok-page.page old.changed.entries c.insert.new.self.entries c.insert.ensures.entries c.insert.ensures.err old.whole
          (record { first = c.requires.first; within = c.requires.within; whole = ap length c.in_ok-page.ensures.items ∙ c.requires.whole });
    }
