use Rattle.std.proofs.Common.{arith}
use Rattle.record_codec.specs.Faults.{IsReal, IsReserved}
use Rattle.record_codec.proofs.Reading.{FrontIs-read, FrontIs-begins, reserved-between}
use Rattle.record_codec.proofs.read.read_type.Goals as goal

pub returns-in-7-clause-fault : goal.returns-in-7-clause-fault
returns-in-7-clause-fault c =
    let types = c.args.types.now in
    let type = c.in_ok-serial_type.serial_type in
    let size = c.in_ok-serial_type.size in
    FrontIs-begins IsReal types type size (FrontIs-read types c.read_varint.result type size c.in_ok-serial_type.ensures.ok_part c.read_varint.ensures.answer) c.in-7.is

pub returns-in-10-clause-fault : goal.returns-in-10-clause-fault
returns-in-10-clause-fault c =
    let types = c.args.types.now in
    let type = c.in_ok-serial_type.serial_type in
    let size = c.in_ok-serial_type.size in
    FrontIs-begins IsReserved types type size (FrontIs-read types c.read_varint.result type size c.in_ok-serial_type.ensures.ok_part c.read_varint.ensures.answer)
    (reserved-between type (omega arith) (omega arith))
