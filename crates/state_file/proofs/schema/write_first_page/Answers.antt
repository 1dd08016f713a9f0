use Rattle.std.proofs.Common.{◌≡◌, ℕ, List, [], ◌∷◌, ◌++◌, length, drop, replicate, sym, ap, ap₂, ◌∙◌, subst, arith, rules}
use Rattle.state_file.specs.Placing.{IsPlaced}
use Rattle.state_file.specs.StateFile.{new_header, schema_cell, packed_behind, first_page}
use Rattle.state_file.proofs.FirstPage.{packed_behind-one}
use Rattle.state_file.proofs.schema.write_first_page.Goals as goal

pub put_first-requires : goal.put_first-requires
put_first-requires c = omega (arith, c.front.ensures.long, c.put_before-start.auto.page, c.fill.ensures.len, c.requires)

pub returns : goal.returns
returns c =
    let zeros : c.fill.new.self ≡ replicate (length c.args.page.now) 0 = c.fill.ensures.after (search rules) in
    let blank : c.fill.new.self ≡ replicate 4096 0 = zeros ∙ ap (λ (n : ℕ). replicate n 0) c.requires in
    let put : IsPlaced c.fill.new.self c.put_before-start.new.page 4096 c.put_before-start.result schema_cell =
    subst (IsPlaced c.fill.new.self c.put_before-start.new.page 4096 c.put_before-start.result) c.schema_cell.ensures.bytes c.put_before-start.ensures in
    c.put_first.ensures
    ∙ packed_behind-one 4096 c.put_before-start.result c.fill.new.self c.put_before-start.new.page (new_header 2) c.front.result.now schema_cell blank put c.front.ensures.bytes
    (omega (arith, c.front.ensures.long, c.schema_cell.ensures.long, c.put_before-start.ensures.at))
