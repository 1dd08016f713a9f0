use Rattle.std.proofs.Common.{ℕ, Err, refl, subst}
use Rattle.std.proofs.Math.Path.{subst⁻¹}
use Rattle.std.proofs.lemmas.Option.{IfSome_then}
use Rattle.page_spec.specs.Pages.{IsInRange}
use Rattle.overflow_chain.specs.Chain.{HoldsBytes}
use Rattle.tree_spec.specs.Faults.{IsDamageOrOther}
use Rattle.tree_walk.specs.Payloads.{IsBadChain}
use Rattle.page_store.specs.StoreLaws.{some-all}
use Rattle.tree_walk.proofs.Calls.{owes-free, owes-chain}
use Rattle.tree_walk.proofs.Rows.{rest-fault, bad-first}
use Rattle.tree_walk.proofs.payload.read_rest.Goals as goal

pub returns-then-not-is_in_range-clause-pages : goal.returns-then-not-is_in_range-clause-pages
returns-then-not-is_in_range-clause-pages g c =
    let a = c.args in
    let store = a.store.now in
    let size = g.S.PageRead.size store in
    let count = g.S.PageRead.count store in
    let out : ¬ IsInRange size count a.first =
    subst (λ (n : ℕ). ¬ IsInRange size n a.first) c.count.ensures
    (subst (λ (s : ℕ). ¬ IsInRange s c.count.result a.first) c.page_size.ensures (λ is. let bad = c.is_in_range.ensures.1 is in cc)) in
    record {
      same = refl;
      count = refl;
      answer = some-all (g.S.PageRead.pages store) (λ m. bad-first m size (g.S.PageRead.usable store) count a.number a.first a.size c.damaged.result c.damaged.ensures.is out);
    }

pub returns-in-Ok-clause-pages : goal.returns-in-Ok-clause-pages
returns-in-Ok-clause-pages g c =
    let store = c.args.store.now in
    let reads = c.in-Ok.ensures.pages in
    record {
      same = reads.same;
      count = reads.count;
      answer = IfSome_then (g.S.PageRead.pages store) reads.answer (λ m holds. subst⁻¹ (HoldsBytes m (g.S.PageRead.size store) (g.S.PageRead.usable store) (g.S.PageRead.count store) c.args.first c.args.size) c.from_vec.ensures holds.holds);
    }

pub returns-in-Err-clause-pages : goal.returns-in-Err-clause-pages
returns-in-Err-clause-pages g c =
    let a = c.args in
    let store = a.store.now in
    let size = g.S.PageRead.size store in
    let usable = g.S.PageRead.usable store in
    let count = g.S.PageRead.count store in
    let reads = c.in-Err.ensures.pages in
    let in_range : IsInRange size count a.first =
    subst (λ (n : ℕ). IsInRange size n a.first) c.count.ensures
    (subst (λ (s : ℕ). IsInRange s c.count.result a.first) c.page_size.ensures (c.is_in_range.ensures.0 c.if-not-is_in_range.false)) in
    record {
      same = reads.same;
      count = reads.count;
      answer = IfSome_then (g.S.PageRead.pages store) reads.answer (λ m reads.
          subst⁻¹ (λ f. IsDamageOrOther (IsBadChain m size usable count a.number a.first a.size) f) c.in_tree.ensures (rest-fault m size usable count a.number a.first a.size c.in-Err.fault in_range reads));
    }

pub returns-then-not-is_in_range-clause-owes : goal.returns-then-not-is_in_range-clause-owes
returns-then-not-is_in_range-clause-owes g c = owes-free g.S.PageRead (Err c.damaged.result) (record { size = refl; usable = refl; fixed = refl }) refl c.damaged.ensures.cause

pub returns-in-Err-clause-owes : goal.returns-in-Err-clause-owes
returns-in-Err-clause-owes g c = owes-chain g.S.PageRead c.in-Err.fault c.in_tree.result c.in_tree.ensures c.in-Err.ensures.owes
