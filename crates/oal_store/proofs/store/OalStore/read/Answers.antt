use Rattle.std.proofs.Common.{◌≡◌, ℕ, length, Vec, Some, IfSome, ap, sym, ◌∙◌, subst}
use Rattle.std.specs.Global.{Global}
use Rattle.std.specs.Map.{lookup}
use Rattle.std.specs.BTreeMap.{is_at}
use Rattle.std.specs.Ordering.{nat_cmp}
use Rattle.std.proofs.lemmas.Map.Entries.{All-lookup}
use Rattle.std.proofs.lemmas.List.Elements.{All-weaker}
use Rattle.oal_store.specs.Changed.{IsChanged}
use Rattle.oal_store.proofs.store.OalStore.read.Goals as goal

pub copy_from_slice-requires : goal.copy_from_slice-requires
copy_from_slice-requires g c =
    let store = c.args.self.now in
    let size : ℕ = store.log.page_size in
    let whole : IfSome (lookup (is_at (nat_cmp c.args.number)) store.changed.entries) (λ (p : Vec ℕ Global). length p.items ≡ size) =
    All-lookup (λ (p : Vec ℕ Global). length p.items ≡ size) (is_at (nat_cmp c.args.number)) store.changed.entries
    (All-weaker (IsChanged size store.count) (λ (e : ℕ × Vec ℕ Global). length e.1.items ≡ size) (λ e is. is.whole) store.changed.entries store.whole) in
    let found : IfSome (Some c.in-Some.page.now) (λ (p : Vec ℕ Global). length p.items ≡ size) = subst (λ o. IfSome o (λ (p : Vec ℕ Global). length p.items ≡ size)) (sym c.in-Some.ensures.value) whole in
    c.requires.whole ∙ sym found ∙ sym (ap length c.as_slice.ensures.value)
