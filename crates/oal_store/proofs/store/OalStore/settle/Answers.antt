use Rattle.std.proofs.Common.{◌≡◌, ◌<◌, ◌%◌, ℕ, sym, subst}
use Rattle.std.specs.List.{All}
use Rattle.format_spec.specs.Log.{pair_of}
use Rattle.oal_store.specs.Changed.{IsChanged}
use Rattle.oal_store.proofs.Commits.{length-written}
use Rattle.oal_store.proofs.store.OalStore.settle.Goals as goal

pub grow-requires-clause-long : goal.grow-requires-clause-long
grow-requires-clause-long c =
    let store = c.args.self.now in
    length-written store.log.big (pair_of store.log.salt) (pair_of store.log.sums) store.log.page_size store.count store.changed.entries store.few store.whole

pub invariant_of-self : goal.invariant_of-self
invariant_of-self c =
    let old = c.args.self.now in
    record {
      some = subst (λ (n : ℕ). 0 < n) (sym c.grow.ensures.sized) old.some;
      words = subst (λ (n : ℕ). n % 8 ≡ 0) (sym c.grow.ensures.sized) old.words;
      few = old.few;
      whole = subst (λ (n : ℕ). All (IsChanged n old.count) old.changed.entries) (sym c.grow.ensures.sized) old.whole;
    }
