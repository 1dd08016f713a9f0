use Rattle.std.proofs.Common.{◌≡◌, ◌+◌, ◌*◌, ◌^◌, ◌<◌, ℕ, List, [], ◌∷◌, Option, length, sym, ap, ◌∙◌, subst}
use Rattle.std.specs.Option.{option_or}
use Rattle.std.specs.BTreeMap.{get}
use Rattle.std.specs.Ordering.{nat_cmp}
use Rattle.std.specs.Map.Iter.{deref}
use Rattle.std.proofs.lemmas.Map.Iter.{rest_more, rest_all}
use Rattle.oal_store.specs.OalLog.{last_place}
use Rattle.oal_store.proofs.Placings.{places-more, fits-more}
use Rattle.oal_store.proofs.placing.place_pages.Goals as goal

pub loop-number-preserved : goal.loop-number-preserved
loop-number-preserved c =
    let inv = c.loop-number.invariant in
    let size : ℕ = c.args.page_size in
    let at : ℕ = c.loop-number.at in
    let rest : List ℕ = c.next.new.self in
    let number : ℕ = c.in-Some.number.now in
    let taken : c.loop-number.number-iterator ≡ number ∷ rest = rest_more deref c.loop-number.number-iterator rest c.next.result c.in-Some.number c.in-Some.is c.next.ensures.steps in
    let step : at + (24 + c.from.result) ≡ at + (24 + size) = ap (λ (n : ℕ). at + (24 + n)) c.from.ensures in
    record {
      placed = λ n.
          let old : Option ℕ = get nat_cmp c.loop-number.places n in
          ap (λ (p : ℕ). option_or (last_place size p n rest) (get nat_cmp c.insert.new.self n)) step
          ∙ places-more size at n number rest old (get nat_cmp c.insert.new.self n) (c.in_ok-insert.ensures.updates.0 n)
          ∙ ap (λ (ns : List ℕ). option_or (last_place size at n ns) old) (sym taken) ∙ inv.placed n;
      fits = subst (λ (p : ℕ). p + length rest * (24 + size) < 2 ^ 64) (sym step) (fits-more size at c.loop-number.number-iterator number rest taken inv.fits);
    }

pub returns : goal.returns
returns c =
    let inv = c.loop-number.invariant in
    let none : c.loop-number.number-iterator ≡ [] = rest_all (deref {X = ℕ}) c.loop-number.number-iterator c.next.new.self c.next.result c.in-None.is c.next.ensures.steps in
    λ n. sym (ap (λ (ns : List ℕ). option_or (last_place c.args.page_size c.loop-number.at n ns) (get nat_cmp c.loop-number.places n)) none) ∙ inv.placed n
