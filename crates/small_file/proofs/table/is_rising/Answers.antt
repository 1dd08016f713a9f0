use Rattle.std.proofs.Common.{◌≡◌, ◌+◌, ◌-◌, ◌<ℤ◌, get_or, sym, ap, ◌∙◌, subst, FitsSigned, refl, inl, inr, arith}
use Rattle.std.proofs.lemmas.Bool.{cases_lt}
use Rattle.std.proofs.lemmas.List.{get_or_default}
use Rattle.std.specs.Int.{w64}
use Rattle.small_file.proofs.Rising.{rising-all, below-from_test, not_below-from_test}
use Rattle.small_file.proofs.table.is_rising.Goals as goal

pub returns-then-rowid : goal.returns-then-rowid
returns-then-rowid g c =
    let rows = c.args.rows.now in
    let key = g.R.SmallRow.table.rowid in
    let i = c.loop-i.i in
    let last = c.index-rows-i-in-loop-i.result in
    let low : FitsSigned w64 c.rowid-in-loop-i.result = record { sfits = c.rowid-in-loop-i.type_inv } in
    let high : FitsSigned w64 c.rowid.result = record { sfits = c.rowid.type_inv } in
    let next : key (get_or rows i last) ≡ c.rowid.result = ap key (get_or_default rows i last c.index-rows-i.result c.loop-i-test.true ∙ sym c.index-rows-i.is) ∙ sym c.rowid.ensures in
    let before : key (get_or rows (i - 1) last) ≡ c.rowid-in-loop-i.result = ap key (sym c.index-rows-i-in-loop-i.is) ∙ sym c.rowid-in-loop-i.ensures in (
      λ t. absurd (cc),
      λ rising. absurd (not_below-from_test c.rowid-in-loop-i.result c.rowid.result low high c.if-rowid.true
          (subst (λ a. a <ℤ c.rowid.result) before (subst (λ b. key (get_or rows (i - 1) last) <ℤ b) next (rising (i - 1) i last (omega (arith, c.loop-i.auto.i)) c.loop-i-test.true)))),
    )

pub loop-i-init : goal.loop-i-init
loop-i-init g c = λ k d l. absurd (omega arith)

pub loop-i-preserved : goal.loop-i-preserved
loop-i-preserved g c = λ k d l.
    let rows = c.args.rows.now in
    let key = g.R.SmallRow.table.rowid in
    let i = c.loop-i.i in
    let low : FitsSigned w64 c.rowid-in-loop-i.result = record { sfits = c.rowid-in-loop-i.type_inv } in
    let high : FitsSigned w64 c.rowid.result = record { sfits = c.rowid.type_inv } in
    elim (cases_lt (k + 1) i) [
      | inl below ↦ c.loop-i.invariant k d below
      | inr above ↦
          let here : k + 1 ≡ i = omega arith in
          let earlier : k ≡ i - 1 = omega (arith, c.loop-i.auto.i) in
          let next : c.rowid.result ≡ key (get_or rows (k + 1) d) =
          c.rowid.ensures ∙ ap key (c.index-rows-i.is ∙ get_or_default rows i c.index-rows-i.result d c.loop-i-test.true ∙ ap (λ n. get_or rows n d) (sym here)) in
          let before : c.rowid-in-loop-i.result ≡ key (get_or rows k d) =
          c.rowid-in-loop-i.ensures ∙ ap key (c.index-rows-i-in-loop-i.is ∙ get_or_default rows (i - 1) c.index-rows-i-in-loop-i.result d (omega (arith, c.loop-i-test.true)) ∙ ap (λ n. get_or rows n d) (sym earlier)) in
          subst (λ a. a <ℤ key (get_or rows (k + 1) d)) before
          (subst (λ b. c.rowid-in-loop-i.result <ℤ b) next (below-from_test c.rowid-in-loop-i.result c.rowid.result low high c.if-rowid.false))
    ]

pub returns : goal.returns
returns g c = (λ t. rising-all g.R.SmallRow.table.rowid c.args.rows.now (λ k d l. c.loop-i.invariant k d (omega (arith, l, c.loop-i-test.false))), λ h. refl)
