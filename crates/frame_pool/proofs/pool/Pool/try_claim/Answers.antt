use Rattle.std.proofs.Common.{arith, ◌%◌, ◌≡◌, Some, None, sym, ap, ◌∙◌, ◌∷◌, inl, refl}
use Rattle.std.proofs.lemmas.Nat.{div_below}
use Rattle.std.proofs.lemmas.Nat.Bits.{shr_and_one}
use Rattle.std.specs.Int.{bit_at}
use Rattle.atomic_table.specs.Table.{rest}
use Rattle.frame_pool.specs.Claims.{is_once}
use Rattle.frame_pool.proofs.ClaimLists.{is_once-more}
use Rattle.frame_pool.proofs.Steps.{bit-claimed_as, slot-settled_as}
use Rattle.frame_pool.proofs.pool.Pool.try_claim.Goals as goal

pub fetch_or-found-requires : goal.fetch_or-found-requires
fetch_or-found-requires c = (
  c.requires.own.0,
  div_below c.args.number 64 c.args.self.now.table.shared.table_id.words (omega arith) (omega (arith, c.requires.within, c.args.self.now.covered.1)),
  bit-claimed_as c.args.self.now.table.shared.key _ _ _ c.args.number c.args.seat.now.lives c.requires.within c.args.seat.now.rests,
)

pub exchange-frame-requires : goal.exchange-frame-requires
exchange-frame-requires c =
    let off : bit_at c.fetch_or-found.result (c.args.number % 64) ≡ 0 = sym (shr_and_one c.fetch_or-found.result (c.args.number % 64)) ∙ c.if-found-place-ne0.false in
    let t = (c.fetch_or-found.ensures.2 c.args.number refl refl).0 off in
    (c.fetch_or-found.ensures.0 ∙ c.requires.own.0, (Some t.0, ap (λ m. m.1) t.1 ∙ ap (λ l. (c.args.number, Some t.0) ∷ rest l) (sym (ap (λ m. m.1) t.1))))

pub load-requires : goal.load-requires
load-requires c =
    let off : bit_at c.fetch_or-found.result (c.args.number % 64) ≡ 0 = sym (shr_and_one c.fetch_or-found.result (c.args.number % 64)) ∙ c.if-found-place-ne0.false in
    let t = (c.fetch_or-found.ensures.2 c.args.number refl refl).0 off in (
      c.exchange-frame.ensures.0 ∙ c.fetch_or-found.ensures.0 ∙ c.requires.own.0,
      c.args.self.now.covered.0,
      slot-settled_as c.args.self.now.table.shared.key _ _ _ _ _ _ _ c.args.number _ (inl refl) (c.exchange-frame.ensures.3 ∙ ap (λ m. (m.0, (c.args.number, None) ∷ rest m.1)) t.1),
    )

pub invariant_of-seat-2-clause-once : goal.invariant_of-seat-2-clause-once
invariant_of-seat-2-clause-once c =
    let off : bit_at c.fetch_or-found.result (c.args.number % 64) ≡ 0 = sym (shr_and_one c.fetch_or-found.result (c.args.number % 64)) ∙ c.if-found-place-ne0.false in
    let t = (c.fetch_or-found.ensures.2 c.args.number refl refl).0 off in
    let claimed : c.load.new.seat.me.0.claimed ≡ c.args.number ∷ c.args.seat.now.seat.me.0.claimed =
    ap (λ m. m.0.claimed) c.load.ensures.2 ∙ ap (λ m. m.0.claimed) c.exchange-frame.ensures.3 ∙ ap (λ m. m.0.claimed) t.1 in
    ap is_once claimed ∙ is_once-more c.args.number c.args.seat.now.seat.me.0.claimed t.4 c.args.seat.now.once
