use Rattle.std.proofs.Common.{ℕ, ap, ◌∙◌, arith}
use Rattle.byte_fields.specs.Numbers.{with_number_at}
use Rattle.page_layout.proofs.Clearing.{HasEmptyHeader-from_writes, Writes-with_number_at, kind_byte-lt}
use Rattle.page_layout.proofs.rebuilding.put_header.Goals as goal

pub returns : goal.returns
returns c =
    let a = c.args in
    let header = a.header in
    let first = Writes-with_number_at header 1 _ a.page.now c.put_u8.new.bytes (omega (arith, c.requires)) (kind_byte-lt a.kind) (c.put_u8.ensures ∙ ap (λ (x : ℕ). with_number_at header 1 x a.page.now) c.kind_byte.ensures) in
    HasEmptyHeader-from_writes a.page.now c.put_u8.new.bytes c.put_counts.new.page header a.usable a.kind first c.put_counts.ensures
