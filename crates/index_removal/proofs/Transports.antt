-- What is said of a call behind others that only read, with sizes, counts and numbers under other names.
use Rattle.std.proofs.Common.{◌≡◌, ℕ, Bool, List, Option, Some, None, Result, Ok, Err, IfOk, OnOk, subst, arith}
use Rattle.key_order.specs.declared.order.KeyOrder.{KeyOrder}
use Rattle.page_spec.specs.Pages.{Pages}
use Rattle.tree_spec.specs.Standing.{Sizes, Paged}
use Rattle.index_cells.specs.declared.cells.Taken.{Taken}
use Rattle.index_delete.specs.declared.closing.Removed.{Removed}
use Rattle.index_delete.specs.declared.levels.Left.{Left}
use Rattle.index_delete.specs.Deletes.{Leaves}
use Rattle.tree_pages.specs.Takes.{UsesBy}
use Rattle.tree_pages.specs.UsesLaws.{uses-more}
use Rattle.index_delete.specs.Deletes.{below_most}
use Rattle.index_removal.specs.declared.finding.Found.{Found}
use Rattle.index_removal.specs.Deletes.{DeletesInto, DeletesUnder, IsFound}
use Rattle.index_removal.specs.Needs.{UsesUnder}
use Rattle.std.proofs.Math.Path.{subst⁻¹}

pub if-ok_both : {T E : Type 0} {P Q R : T → Type 0} (result : Result T E) → ((x : T) → P x → Q x → R x) → IfOk result P → IfOk result Q → IfOk result R
if-ok_both (Ok x) both one two = both x one two
if-ok_both (Err e) both one two = tt

pub if-ok_also : {T E : Type 0} {P : Type 0} {R : T → Type 0} (result : Result T E) → ((x : T) → P → R x) → OnOk result P → IfOk result R
if-ok_also (Ok x) also one = also x one
if-ok_also (Err e) also one = tt

pub leaves-same : (s z : Sizes) (ends : Bool) (row : Taken) (page : ℕ) (left : Left) (k count : ℕ) (pages : Pages) (new : Paged) → s ≡ z → k ≡ count → Leaves s ends row page left (record { count = k; pages = pages }) new
    → Leaves z ends row page left (record { count = count; pages = pages }) new
leaves-same s z ends row page left k count pages new sizes counts leaves =
    subst (λ (x : Sizes). Leaves x ends row page left (record { count = count; pages = pages }) new) sizes (subst (λ (n : ℕ). Leaves s ends row page left (record { count = n; pages = pages }) new) counts leaves)

pub deletes-same : (s z : Sizes) (order : KeyOrder) (payload : List ℕ) (page : ℕ) (k count : ℕ) (removed : Option Removed) (pages : Pages) (new : Paged) → s ≡ z → k ≡ count
    → DeletesUnder s order payload page removed (record { count = k; pages = pages }) new → DeletesUnder z order payload page removed (record { count = count; pages = pages }) new
deletes-same s z order payload page k count removed pages new sizes counts deletes =
    subst (λ (x : Sizes). DeletesUnder x order payload page removed (record { count = count; pages = pages }) new) sizes
    (subst (λ (n : ℕ). DeletesUnder s order payload page removed (record { count = n; pages = pages }) new) counts deletes)

-- the page that was found, where it was read behind the same pages
pub found-back : (s z : Sizes) (order : KeyOrder) (payload : List ℕ) (page number k count : ℕ) (found : Found) (pages : Pages) → s ≡ z → page ≡ number → k ≡ count → IsFound z order payload number found (record { count = count; pages = pages })
    → IsFound s order payload page found (record { count = k; pages = pages })
found-back s z order payload page number k count found pages sizes is counts there =
    subst⁻¹ (λ (x : Sizes). IsFound x order payload page found (record { count = k; pages = pages })) sizes
    (subst⁻¹ (λ (n : ℕ). IsFound z order payload n found (record { count = k; pages = pages })) is (subst⁻¹ (λ (n : ℕ). IsFound z order payload number found (record { count = n; pages = pages })) counts there))

-- no page more is in use
pub none-used : (sizes : Sizes) (page : ℕ) (removed : Option Removed) (a b : Paged) → UsesBy sizes 0 a b → UsesUnder sizes page removed a b
none-used sizes page None a b uses = uses
none-used sizes page (Some removed) a b uses = λ levels tree trunks is free ready. uses-more sizes a b 0 (below_most levels removed.left) (omega arith) uses

pub into-same : (s z : Sizes) (order : KeyOrder) (payload : List ℕ) (root : ℕ) (k count : ℕ) (taken : Option Taken) (pages : Pages) (new : Paged) → s ≡ z → k ≡ count
    → DeletesInto s order payload root taken (record { count = k; pages = pages }) new → DeletesInto z order payload root taken (record { count = count; pages = pages }) new
into-same s z order payload root k count taken pages new sizes counts deletes =
    subst (λ (x : Sizes). DeletesInto x order payload root taken (record { count = count; pages = pages }) new) sizes
    (subst (λ (n : ℕ). DeletesInto s order payload root taken (record { count = n; pages = pages }) new) counts deletes)

pub if-ok_each : {T E : Type 0} {P : T → Type 0} (result : Result T E) → ((x : T) → P x) → IfOk result P
if-ok_each (Ok x) each = each x
if-ok_each (Err e) each = tt

pub on-ok_all : {T E P : Type 0} (result : Result T E) → P → OnOk result P
on-ok_all (Ok x) holds = holds
on-ok_all (Err e) holds = tt
