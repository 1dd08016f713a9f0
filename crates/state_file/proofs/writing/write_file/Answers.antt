use Rattle.std.proofs.Common.{◌≡◌, ℕ, ◌+◌, ◌-◌, List, ◌++◌, length, map, drop, refl, sym, ap, ap₂, ◌∙◌, arith}
use Rattle.std.proofs.lemmas.List.{length-take-le}
use Rattle.format_spec.specs.Page.{packed_leaf}
use Rattle.state_file.specs.Lent.{value_of}
use Rattle.state_file.specs.StateFile.{first_page, rows_from}
use Rattle.state_file.proofs.Halves.{halves-written, half-length}
use Rattle.state_file.proofs.writing.write_file.Goals as goal

pub slice_bounds-write_first_page-end-2 : goal.slice_bounds-write_first_page-end-2
slice_bounds-write_first_page-end-2 c = sym (length-take-le 4096 c.args.into.now (omega (arith, c.requires.long)))

pub write_first_page-requires : goal.write_first_page-requires
write_first_page-requires c = length-take-le 4096 c.args.into.now (omega (arith, c.requires.long))

pub returns : goal.returns
returns c =
    let old = c.args.into.now in
    let first = c.write_first_page.new.page in
    let at : length first ≡ 4096 = c.write_first_page.auto.page ∙ length-take-le 4096 old (omega (arith, c.requires.long)) in
    let k : ℕ = length (first ++ drop 4096 old) - 4096 in
    let rows : c.write_rows.new.page ≡ packed_leaf 4096 (rows_from 1 (map value_of c.args.values.now)) =
    c.write_rows.ensures ∙ ap (λ (n : ℕ). packed_leaf n (rows_from 1 (map value_of c.args.values.now))) (half-length 4096 k old first (omega (arith, c.requires.long)) at refl) in
    halves-written 4096 k old first c.write_rows.new.page (omega (arith, c.requires.long)) at refl ∙ ap₂ (λ (a b : List ℕ). a ++ b) c.write_first_page.ensures rows
