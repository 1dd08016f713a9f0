use Rattle.std.proofs.Common.{◌≡◌, ◌-◌, ◌<◌, ◌≤◌, ℕ, Vec, Global, List, length, map, refl, sym, ap, ap₂, ◌∙◌, arith, slice_set, set, vec_len}
use Rattle.std.proofs.lemmas.List.{length-map, map-set, with_items_is}
use Rattle.std.specs.Vec.{with_items}
use Rattle.page_store.specs.Plain.{numbered}
use Rattle.page_store.proofs.PlainPages.{numbered-set}
use Rattle.page_store.proofs.plain.PlainStorePageWrite.set_page.Goals as goal

abbrev bytes_of : Vec ℕ Global → List ℕ
bytes_of page = page.items

pub returns-clause-pages : goal.returns-clause-pages
returns-clause-pages c =
    let pages = c.args.self.now.pages in
    let written = with_items c.index_mut.result.now c.copy_from_slice.new.self in
    let long : length c.copy_from_slice.new.self ≡ c.index_mut.result.now.len = omega (arith, c.copy_from_slice.ensures.len, c.as_mut_slice.ensures.len) in
    let is : bytes_of written ≡ c.args.bytes.now = with_items_is c.index_mut.result.now c.copy_from_slice.new.self long ∙ c.copy_from_slice.ensures.after in
    record {
      goes_on = refl;
      step =
          ap numbered (map-set bytes_of pages.items (c.args.number - 1) written)
          ∙ ap (λ (b : List ℕ). numbered (set (map bytes_of pages.items) (c.args.number - 1) b)) is
          ∙ numbered-set (map bytes_of pages.items) c.args.number c.args.bytes.now c.requires.first (omega (arith, length-map pages.items bytes_of));
    }
