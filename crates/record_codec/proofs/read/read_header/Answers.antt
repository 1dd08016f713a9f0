use Rattle.std.proofs.Common.{refl, inl, inr}
use Rattle.record_codec.proofs.Reading.{FrontIs-read, header-found, header-wrong_size}
use Rattle.record_codec.proofs.read.read_header.Goals as goal
use Rattle.record_codec.proofs.read.read_header.Goals.{then-end-start-via-then-end-start, then-end-start-via-else-end-start+then-bytes-end}

pub returns-then-end-start-clause-fault : goal.returns-then-end-start-clause-fault
returns-then-end-start-clause-fault c =
    let bytes = c.args.bytes.now in
    let end = c.in_ok-header.header in
    let start = c.in_ok-header.start in
    let front = FrontIs-read bytes c.read_varint.result end start c.in_ok-header.ensures.ok_part c.read_varint.ensures.answer in
    elim c.then-end-start.branch [
      | then-end-start-via-then-end-start w ↦ (refl, header-wrong_size bytes end start front (inl w.if-end-start.true))
      | then-end-start-via-else-end-start+then-bytes-end w ↦ (refl, header-wrong_size bytes end start front (inr w.if-bytes-end.true))
    ]

pub returns-clause-found : goal.returns-clause-found
returns-clause-found c =
    let bytes = c.args.bytes.now in
    let end = c.in_ok-header.header in
    let start = c.in_ok-header.start in
    header-found bytes end start (FrontIs-read bytes c.read_varint.result end start c.in_ok-header.ensures.ok_part c.read_varint.ensures.answer) c.if-end-start.false c.if-bytes-end.false
