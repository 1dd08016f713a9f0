use Rattle.std.proofs.Common.{ap, ◌∙◌}
use Rattle.byte_fields.specs.Numbers.{with_number_at}
use Rattle.db_header.proofs.Putting.{header_written-steps}
use Rattle.db_header.proofs.writing.write_header.Goals as goal

pub returns : goal.returns
returns c =
    header_written-steps c.args.header.now c.args.page1.now c.put_u16.new.bytes c.put_u8.new.bytes c.put_u32.new.bytes c.put_u32-2.new.bytes
    c.put_u32-3.new.bytes c.put_u32-4.new.bytes c.put_u32-5.new.bytes c.put_u32-6.new.bytes c.put_u32-7.new.bytes
    (c.put_u16.ensures ∙ ap (λ n. with_number_at 16 2 n c.args.page1.now) c.size_field.ensures) c.put_u8.ensures c.put_u32.ensures c.put_u32-2.ensures c.put_u32-3.ensures c.put_u32-4.ensures c.put_u32-5.ensures
    c.put_u32-6.ensures c.put_u32-7.ensures
