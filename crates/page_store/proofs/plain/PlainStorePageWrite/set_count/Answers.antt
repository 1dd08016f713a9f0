use Rattle.std.proofs.Common.{◌≡◌, ◌≤◌, ℕ, Vec, Global, List, Result, Ok, Err, Some, length, map, take, ◌+◌, ◌-◌, refl, sym, ap, ◌∙◌, arith, vec_len}
use Rattle.std.specs.Result.{OnOk}
use Rattle.std.proofs.lemmas.List.{take-map, take-take, take_all}
use Rattle.std.proofs.lemmas.Result.{on_ok_weaker}
use Rattle.common_spec.specs.Told.{Leads}
use Rattle.page_store.specs.Calls.{KeepsUpTo}
use Rattle.page_store.specs.Plain.{numbered}
use Rattle.page_store.proofs.PlainPages.{numbered-take}
use Rattle.page_store.proofs.plain.PlainStorePageWrite.set_count.Goals as goal

abbrev bytes_of : Vec ℕ Global → List ℕ
bytes_of page = page.items

-- pages that were cut to a count, and then filled up
kept : (old cut new : Vec (Vec ℕ Global) Global) (count : ℕ) → cut.items ≡ take count old.items → vec_len cut + (vec_len old - count) ≡ vec_len old
    → take (vec_len cut) new.items ≡ cut.items → KeepsUpTo (vec_len old) count (numbered (map bytes_of old.items)) (numbered (map bytes_of new.items))
kept old cut new count is long same n before after =
    let shorter : vec_len cut ≤ count = omega arith in
    let whole : take (vec_len cut) cut.items ≡ cut.items = take_all (vec_len cut) cut.items (omega arith) in
    let front : take (vec_len cut) new.items ≡ take (vec_len cut) old.items = same ∙ sym whole ∙ ap (take (vec_len cut)) is ∙ take-take (vec_len cut) count old.items shorter in
    numbered-take (map bytes_of new.items) (map bytes_of old.items) (vec_len cut)
    (take-map bytes_of (vec_len cut) new.items ∙ ap (map bytes_of) front ∙ sym (take-map bytes_of (vec_len cut) old.items)) n (omega arith)

pub returns-clause-pages : goal.returns-clause-pages
returns-clause-pages c =
    on_ok_weaker c.grow.result (λ count. record {
      goes_on = refl;
      step = kept c.args.self.now.pages c.truncate.new.self c.grow.new.pages c.args.count c.truncate.ensures.items c.truncate.ensures.len c.grow.ensures.kept;
    }) c.grow.ensures.count
