-- The last cell below a page, which is taken out.
use Rattle.std.proofs.Common.{◌≡◌, ℕ, Bool, Result, Ok, Err, IfOk, OnOk, ap, ◌∙◌, sym, subst}
use Rattle.std.proofs.Math.Path.{subst⁻¹}
use Rattle.page_spec.specs.Pages.{Pages}
use Rattle.tree_spec.specs.Standing.{Sizes, Paged}
use Rattle.tree_walk.specs.declared.page.TreePage.{TreePage}
use Rattle.tree_walk.specs.Pages.{IsDecoded}
use Rattle.index_cells.specs.declared.cells.Taken.{Taken}
use Rattle.index_delete.specs.declared.levels.Left.{Left}
use Rattle.index_delete.specs.Deletes.{Leaves}

-- what two clauses say of a result
pub if-ok_both : {T E : Type 0} {P Q R : T → Type 0} (result : Result T E) → ((x : T) → P x → Q x → R x) → IfOk result P → IfOk result Q → IfOk result R
if-ok_both (Ok x) both one two = both x one two
if-ok_both (Err e) both one two = tt

pub if-ok_also : {T E : Type 0} {P : Type 0} {R : T → Type 0} (result : Result T E) → ((x : T) → P → R x) → OnOk result P → IfOk result R
if-ok_also (Ok x) also one = also x one
if-ok_also (Err e) also one = tt

pub on-ok_all : {T E P : Type 0} (result : Result T E) → P → OnOk result P
on-ok_all (Ok x) holds = holds
on-ok_all (Err e) holds = tt

pub decoded-own : (number usable : ℕ) (page : TreePage) → IsDecoded page.bytes number usable page → IsDecoded page.bytes page.number usable page
decoded-own number usable page decoded = subst⁻¹ (λ (n : ℕ). IsDecoded page.bytes n usable page) decoded.number_is decoded

pub read-there : (number usable : ℕ) (page : TreePage) (pages : Pages) → IsDecoded (pages number) number usable page → pages page.number ≡ page.bytes
read-there number usable page pages decoded = ap pages decoded.number_is ∙ sym decoded.bytes_are

-- The same, with its numbers under other names.
pub leaves-same : (s z : Sizes) (ends : Bool) (row : Taken) (page number : ℕ) (left : Left) (k count : ℕ) (pages : Pages) (new : Paged) → s ≡ z → page ≡ number → k ≡ count
    → Leaves s ends row page left (record { count = k; pages = pages }) new → Leaves z ends row number left (record { count = count; pages = pages }) new
leaves-same s z ends row page number left k count pages new sizes is counts leaves =
    subst (λ (x : Sizes). Leaves x ends row number left (record { count = count; pages = pages }) new) sizes
    (subst (λ (n : ℕ). Leaves s ends row n left (record { count = count; pages = pages }) new) is
    (subst (λ (n : ℕ). Leaves s ends row page left (record { count = n; pages = pages }) new) counts leaves))
