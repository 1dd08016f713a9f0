use Rattle.std.proofs.Common.{◌+◌, ◌%◌, arith, lit<}
use Rattle.page_layout.proofs.Clearing.{PutsCounts-from_writes, Writes-with_number_at}
use Rattle.page_layout.proofs.put.put_counts.Goals as goal

pub returns : goal.returns
returns c =
    let a = c.args in
    let header = a.header in
    let first = Writes-with_number_at (header + 1) 2 0 a.page.now c.put_u16.new.bytes (omega (arith, c.requires.room)) (lit< tt) c.put_u16.ensures in
    let second = Writes-with_number_at (header + 3) 2 a.count c.put_u16.new.bytes c.put_u16-2.new.bytes (omega (arith, c.requires.room, first.long)) (omega (arith, c.requires.count)) c.put_u16-2.ensures in
    let third = Writes-with_number_at (header + 5) 2 (a.bottom % 65536) c.put_u16-2.new.bytes c.put_u16-3.new.bytes (omega (arith, c.requires.room, first.long, second.long)) (omega arith) c.put_u16-3.ensures in
    let fourth = Writes-with_number_at (header + 7) 1 0 c.put_u16-3.new.bytes c.put_u8.new.bytes (omega (arith, c.requires.room, first.long, second.long, third.long)) (lit< tt) c.put_u8.ensures in
    PutsCounts-from_writes a.page.now c.put_u16.new.bytes c.put_u16-2.new.bytes c.put_u16-3.new.bytes c.put_u8.new.bytes header a.count a.bottom first second third fourth
