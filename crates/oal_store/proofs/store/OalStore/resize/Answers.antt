use Rattle.oal_store.proofs.store.OalStore.resize.Goals as goal

pub invariant_of-self : goal.invariant_of-self
invariant_of-self c =
    let old = c.args.self.now in
    record { some = old.some; words = old.words; few = old.few; whole = c.cut_pages.ensures.kept old.log.page_size old.whole }

pub invariant_of-self-2 : goal.invariant_of-self-2
invariant_of-self-2 c =
    let old = c.args.self.now in
    record { some = old.some; words = old.words; few = c.ranges.count.fits; whole = c.in_ok-cut_pages.ensures.whole old.log.page_size old.whole }
