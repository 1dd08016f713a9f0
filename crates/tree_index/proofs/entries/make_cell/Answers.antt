use Rattle.std.proofs.Common.{◌≡◌, ◌-◌, ◌^◌, ◌<◌, ℕ, List, length, take, drop, refl, ap, ◌∙◌, subst, arith, inl}
use Rattle.std.proofs.lemmas.List.{take_rest}
use Rattle.format_spec.specs.declared.PageKind.TheVariants.{IndexLeaf}
use Rattle.format_spec.specs.Cell.{local_size}
use Rattle.tree_pages.specs.Writers.{WritesOverflow, paged, sizes_of}
use Rattle.tree_index.proofs.Spelling.{entry-is, is-cell, makes-cell}
use Rattle.std.proofs.lemmas.Result.{err_from_is_err_and}
use Rattle.std.proofs.lemmas.List.{length-drop}
use Rattle.page_spec.specs.Chains.{pages_for}
use Rattle.tree_pages.specs.Takes.{IsShort, RisesBy}
use Rattle.tree_index.specs.Needs.{overflow_pages}
use Rattle.tree_index.proofs.entries.make_cell.Goals as goal

pub returns-clause-made : goal.returns-clause-made
returns-clause-made g c = λ old told.
    let S = g.S.PageRead in
    let a = c.args.store.now in
    let z = sizes_of S a in
    let payload = c.args.payload.now in
    let first = c.in_ok-overflow.overflow in
    let cell = c.in_ok-cell.cell in
    let kept = c.local_size-local.result in
    let k : kept ≡ local_size IndexLeaf z.usable (length payload) = c.local_size-local.ensures.value ∙ ap (λ (u : ℕ). local_size IndexLeaf u (length payload)) c.usable.ensures in
    let rest : take (length payload - kept) (drop kept payload) ≡ drop (local_size IndexLeaf z.usable (length payload)) payload = take_rest payload kept ∙ ap (λ (n : ℕ). drop n payload) k in
    let is = entry-is z.usable payload cell first _ _ c.in_ok-cell.ensures refl refl k refl (ap (λ (n : ℕ). take n payload) k) in
    let small : first < 2 ^ 32 = omega (arith, rw c.in_ok-overflow.was at c.write_overflow.type_inv) in
    let r = c.in_ok-overflow.ensures.written old told in
    let x = paged S a old in
    let y = paged S c.write_overflow.new.store r.0 in (
      r.0,
      r.1,
      makes-cell z payload cell first x y is c.requires.payload small (λ none. c.in_ok-overflow.ensures.none (ap length rest ∙ none))
          (subst (λ (l : List ℕ). WritesOverflow z first l x y) rest r.2),
    )

pub returns-clause-cell : goal.returns-clause-cell
returns-clause-cell g c =
    let u = g.S.PageRead.usable c.args.store.now in
    let payload = c.args.payload.now in
    let first = c.in_ok-overflow.overflow in
    let cell = c.in_ok-cell.cell in
    let kept = c.local_size-local.result in
    let k : kept ≡ local_size IndexLeaf u (length payload) = c.local_size-local.ensures.value ∙ ap (λ (u : ℕ). local_size IndexLeaf u (length payload)) c.usable.ensures in
    let rest : take (length payload - kept) (drop kept payload) ≡ drop (local_size IndexLeaf u (length payload)) payload = take_rest payload kept ∙ ap (λ (n : ℕ). drop n payload) k in
    let is = entry-is u payload cell first _ _ c.in_ok-cell.ensures refl refl k refl (ap (λ (n : ℕ). take n payload) k) in
    let small : first < 2 ^ 32 = omega (arith, rw c.in_ok-overflow.was at c.write_overflow.type_inv) in
    is-cell u payload cell first is c.requires.payload small (λ none. c.in_ok-overflow.ensures.none (ap length rest ∙ none))

pub returns-clause-rises : goal.returns-clause-rises
returns-clause-rises g c =
    let S = g.S.PageRead in
    let a = c.args.store.now in
    let u = S.usable a in
    let payload = c.args.payload.now in
    let kept = c.local_size-local.result in
    let local = local_size IndexLeaf u (length payload) in
    let k : kept ≡ local = c.local_size-local.ensures.value ∙ ap (λ (n : ℕ). local_size IndexLeaf n (length payload)) c.usable.ensures in
    let rest : take (length payload - kept) (drop kept payload) ≡ drop local payload = take_rest payload kept ∙ ap (λ (n : ℕ). drop n payload) k in
    let many : pages_for u (length (take (length payload - kept) (drop kept payload))) ≡ overflow_pages u (length payload) = ap (pages_for u) (ap length rest ∙ length-drop local payload) in
    subst (λ (n : ℕ). RisesBy S n a c.write_overflow.new.store) many c.in_ok-overflow.ensures.rises

pub returns-in_err-overflow-clause-refuses : goal.returns-in_err-overflow-clause-refuses
returns-in_err-overflow-clause-refuses g c = λ m trunks told free.
    let S = g.S.PageRead in
    let a = c.args.store.now in
    let u = S.usable a in
    let payload = c.args.payload.now in
    let kept = c.local_size-local.result in
    let local = local_size IndexLeaf u (length payload) in
    let k : kept ≡ local = c.local_size-local.ensures.value ∙ ap (λ (n : ℕ). local_size IndexLeaf n (length payload)) c.usable.ensures in
    let rest : take (length payload - kept) (drop kept payload) ≡ drop local payload = take_rest payload kept ∙ ap (λ (n : ℕ). drop n payload) k in
    let many : pages_for u (length (take (length payload - kept) (drop kept payload))) ≡ overflow_pages u (length payload) = ap (pages_for u) (ap length rest ∙ length-drop local payload) in
    let p = err_from_is_err_and c.from_residual.result c.from_residual.ensures.1 in
    rw (p.1, p.2)
    (subst (λ (n : ℕ). IsShort (sizes_of S a) n c.args.limit (paged S a m) trunks (S.count c.write_overflow.new.store) c.in_err-overflow.field-0.0) many (c.in_err-overflow.ensures.refuses m trunks told free))

pub returns-in_err-cell-clause-refuses : goal.returns-in_err-cell-clause-refuses
returns-in_err-cell-clause-refuses g c = λ m trunks told free.
    let p = err_from_is_err_and c.from_residual-in_err-cell.result c.from_residual-in_err-cell.ensures.1 in
    rw (p.1, p.2) (inl tt)
