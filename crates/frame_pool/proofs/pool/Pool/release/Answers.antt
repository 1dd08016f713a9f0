use Rattle.std.proofs.Common.{true, ℕ, List, arith, Some, ◌≡◌, subst, ap, ◌∙◌, ◌∷◌, refl}
use Rattle.std.proofs.lemmas.Nat.{div_below}
use Rattle.atomic_table.specs.Table.{rest}
use Rattle.frame_pool.specs.Claims.{is_once, without}
use Rattle.frame_pool.proofs.ClaimLists.{is_once-without, without-first}
use Rattle.frame_pool.proofs.Steps.{slot-reopened_as, bit-released_as, seat-released}
use Rattle.frame_pool.proofs.pool.Pool.release.Goals as goal

pub compare_exchange-requires : goal.compare_exchange-requires
compare_exchange-requires c = (c.requires.own.0, c.args.self.now.covered.0, slot-reopened_as c.args.self.now.table.shared.key _ _ _ c.args.frame.number c.requires.claimed c.args.seat.now.rests)

pub fetch_and-requires : goal.fetch_and-requires
fetch_and-requires c =
    let t = c.compare_exchange.ensures.2 in (
      c.exchange.ensures.0 ∙ c.compare_exchange.ensures.0 ∙ c.requires.own.0,
      div_below c.args.frame.number 64 c.args.self.now.table.shared.table_id.words (omega arith) (omega (arith, t.1, c.args.self.now.covered.1)),
      bit-released_as c.args.self.now.table.shared.key _ _ _ _ _ _ _ c.args.frame.number c.args.frame c.requires.claimed refl c.requires.size
          (c.exchange.ensures.3 ∙ ap (λ m. (m.0, (c.args.frame.number, Some c.args.frame) ∷ rest m.1)) t.0),
    )

pub invariant_of-seat-clause-once : goal.invariant_of-seat-clause-once
invariant_of-seat-clause-once c =
    let m = c.args.seat.now.seat.me in
    let n = c.args.frame.number in
    ap (λ x. is_once x.0.claimed) (seat-released m _ _ _ n c.args.frame c.compare_exchange.ensures.2.0 c.exchange.ensures.3 c.fetch_and.ensures.2) ∙ is_once-without n m.0.claimed c.args.seat.now.once

pub returns-clause-last : goal.returns-clause-last
returns-clause-last c others is =
    let m = c.args.seat.now.seat.me in
    let n = c.args.frame.number in
    ap (λ x. x.0.claimed) (seat-released m _ _ _ n c.args.frame c.compare_exchange.ensures.2.0 c.exchange.ensures.3 c.fetch_and.ensures.2)
    ∙ ap (without n) is ∙ without-first n others (subst (λ (l : List ℕ). is_once l ≡ true) is c.args.seat.now.once)
