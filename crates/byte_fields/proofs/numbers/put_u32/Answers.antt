use Rattle.byte_fields.specs.NumbersLaws.{put_mid-number}
use Rattle.byte_fields.proofs.numbers.put_u32.Goals as goal

pub returns : goal.returns
returns c = put_mid-number c.args.at 4 c.args.value c.args.bytes.now c.write_u32.new.buf c.requires c.write_u32.ensures
