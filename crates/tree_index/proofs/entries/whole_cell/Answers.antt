use Rattle.std.proofs.Common.{◌≡◌, ◌≤◌, ◌^◌, ◌<◌, ℕ, length, take, refl, ap, sym, ◌∙◌, subst, arith}
use Rattle.std.proofs.Math.Path.{subst⁻¹}
use Rattle.format_spec.specs.declared.PageKind.TheVariants.{IndexLeaf}
use Rattle.format_spec.specs.Cell.{local_size}
use Rattle.tree_index.proofs.Spelling.{bytes, entry-is, is-cell, makes-whole}
use Rattle.tree_index.proofs.entries.whole_cell.Goals as goal

pub returns-clause-made : goal.returns-clause-made
returns-clause-made c = λ sizes base same.
    let payload = c.args.payload.now in
    let cell = c.in_ok-cell.cell in
    let k = c.local_size-local.ensures.value in
    let is = entry-is c.args.usable payload cell 0 _ _ c.in_ok-cell.ensures refl refl k refl (ap (λ (n : ℕ). take n payload) k) in
    let all : length payload ≤ local_size IndexLeaf sizes.usable (length payload) =
    subst⁻¹ (λ (u : ℕ). length payload ≤ local_size IndexLeaf u (length payload)) same (omega (arith, k, c.if-from-size.false, c.from.ensures)) in
    makes-whole sizes payload cell base (subst⁻¹ (λ (u : ℕ). cell ≡ bytes u payload 0) same is) c.requires.payload all

pub returns-clause-cell : goal.returns-clause-cell
returns-clause-cell c =
    let payload = c.args.payload.now in
    let cell = c.in_ok-cell.cell in
    let k = c.local_size-local.ensures.value in
    let is = entry-is c.args.usable payload cell 0 _ _ c.in_ok-cell.ensures refl refl k refl (ap (λ (n : ℕ). take n payload) k) in
    is-cell c.args.usable payload cell 0 is c.requires.payload (omega arith) (λ _. refl)
