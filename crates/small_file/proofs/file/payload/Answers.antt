use Rattle.std.proofs.Common.{◌≡◌, ◌+◌, ◌-◌, take, drop, ◌∙◌, ap, sym, arith}
use Rattle.byte_fields.specs.BytesLaws.{part_of-part_of}
use Rattle.small_file.proofs.Rows.{local-inside}
use Rattle.small_file.proofs.file.payload.Goals as goal

pub returns-clause-bytes : goal.returns-clause-bytes
returns-clause-bytes c =
    let cell = c.args.cell.now in
    let start = cell.place + cell.view.local_at in
    let size : start + cell.view.local - start ≡ cell.view.local = omega arith in
    ap (λ n. take n (drop start c.args.page.now)) size
    ∙ sym (part_of-part_of c.args.page.now cell.place cell.view.size cell.view.local_at cell.view.local (local-inside _ cell.view c.requires.placed.is_cell))
