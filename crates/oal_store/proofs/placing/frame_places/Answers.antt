use Rattle.std.proofs.Common.{◌≡◌, ◌+◌, ◌-◌, ◌*◌, ◌^◌, ◌<◌, ℕ, List, [], ◌∷◌, Option, length, take, drop, get_or, sym, ap, ◌∙◌, subst, arith}
use Rattle.std.specs.Option.{option_or}
use Rattle.std.specs.BTreeMap.{get, is_at}
use Rattle.std.specs.Map.{lookup}
use Rattle.std.specs.Ordering.{nat_cmp}
use Rattle.oal_store.specs.OalLog.{last_place}
use Rattle.oal_store.proofs.Placings.{places-more, fits-more, no-items, first-and-rest, or-nothing}
use Rattle.oal_store.proofs.placing.frame_places.Goals as goal

pub loop-left-init : goal.loop-left-init
loop-left-init c = record {
  placed = λ n.
      let behind : Option ℕ = last_place c.args.page_size 32 n c.args.numbers.now in
      ap (option_or behind) (ap (lookup (is_at (nat_cmp n))) c.new-places.ensures.empty) ∙ or-nothing behind;
  fits = c.requires;
}

pub loop-left-preserved : goal.loop-left-preserved
loop-left-preserved c =
    let inv = c.loop-left.invariant in
    let size : ℕ = c.args.page_size in
    let at : ℕ = c.loop-left.at in
    let left : List ℕ = c.loop-left.left.now in
    let rest : List ℕ = take (length left - 1) (drop 1 left) in
    let number : ℕ = get_or left 0 0 in
    let split : left ≡ number ∷ rest = first-and-rest left (omega (arith, c.in-len1-up.len_at_least)) in
    let step : at + (24 + c.from.result) ≡ at + (24 + size) = ap (λ (n : ℕ). at + (24 + n)) c.from.ensures in
    record {
      placed = λ n.
          let old : Option ℕ = get nat_cmp c.loop-left.places n in
          ap (λ (p : ℕ). option_or (last_place size p n rest) (get nat_cmp c.insert.new.self n)) step
          ∙ places-more size at n number rest old (get nat_cmp c.insert.new.self n) (c.in_ok-insert.ensures.updates.0 n)
          ∙ ap (λ (ns : List ℕ). option_or (last_place size at n ns) old) (sym split) ∙ inv.placed n;
      fits = subst (λ (p : ℕ). p + length rest * (24 + size) < 2 ^ 64) (sym step) (fits-more size at left number rest split inv.fits);
    }

pub returns : goal.returns
returns c n =
    let inv = c.loop-left.invariant in
    let left : List ℕ = c.loop-left.left.now in
    let none : left ≡ [] = no-items left (omega (arith, c.in_default.len_below)) in
    sym (ap (λ (ns : List ℕ). option_or (last_place c.args.page_size c.loop-left.at n ns) (get nat_cmp c.loop-left.places n)) none) ∙ inv.placed n
