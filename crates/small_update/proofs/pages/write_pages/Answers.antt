use Rattle.std.proofs.Common.{◌≡◌, ◌++◌, length, map, take, ℕ, arith, sym, ap, ◌∙◌, List, refl}
use Rattle.std.proofs.lemmas.List.{length-take-le}
use Rattle.format_spec.specs.Page.{packed_leaf}
use Rattle.small_spec.specs.Inserts.{new_first_page}
use Rattle.small_spec.specs.declared.TargetRow.{TargetRow}
use Rattle.small_update.proofs.Whole.{page-first, page-second_written, page-second_length}
use Rattle.small_update.proofs.pages.write_pages.Goals as goal

pub slice_bounds-raise_counters-end-2 : goal.slice_bounds-raise_counters-end-2
slice_bounds-raise_counters-end-2 c = sym (length-take-le 4096 c.args.target.now (omega arith))

pub raise_counters-requires : goal.raise_counters-requires
raise_counters-requires c = let long = length-take-le 4096 c.args.target.now (omega arith) in omega arith

pub returns : goal.returns
returns c =
    let target = c.args.target.now in
    let cells = map (λ (row : TargetRow). row.cell) c.args.rows.now in
    let first = c.raise_counters.new.page in
    let long : length first ≡ 4096 = c.raise_counters.auto.page ∙ length-take-le 4096 target (omega arith) in
    let one : first ≡ new_first_page (take 4096 target) = c.raise_counters.ensures in
    let two : c.write_leaf.new.page ≡ packed_leaf 4096 cells = c.write_leaf.ensures ∙ ap (λ (n : ℕ). packed_leaf n cells) (page-second_length 4096 _ target first c.requires.long long refl) in
    let both = page-second_written 4096 _ target first c.write_leaf.new.page c.requires.long long refl in
    both ∙ (ap (λ (x : List ℕ). first ++ x) two ∙ ap (λ (x : List ℕ). x ++ packed_leaf 4096 cells) (one ∙ ap new_first_page (sym (page-first 4096 target c.requires.long))))
