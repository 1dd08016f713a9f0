use Rattle.std.proofs.Common.{◌≡◌, ◌+◌, ◌*◌, ◌%◌, ◌<◌, ◌≤◌, Ok, Err, List, ℕ, length, sym, ap, subst, arith}
use Rattle.wal_codec.specs.declared.log.Log.{Log}
use Rattle.wal_codec.specs.declared.log.LogFault.TheVariants.{LogFrame}
use Rattle.wal_codec.specs.declared.reader.LogReader.{LogReader}
use Rattle.wal_codec.specs.LogReading.{HasLog, HasFault}
use Rattle.wal_codec.specs.FramesRead.{IsReading, IsEnd}
use Rattle.wal_codec.proofs.FramesLemmas.{HasReadLog, log-read, log-found, log-short, log-no_commit, log-answers}
use Rattle.wal_codec.proofs.reader.LogReader.finish.Goals as goal
use Rattle.wal_codec.proofs.reader.LogReader.finish.Goals.{else-needed-gt0-via-then-needed-gt0+else-read-eq0, else-needed-gt0-via-else-needed-gt0}

-- what was read is a log
all-read : {bytes left : List ℕ} {needed : ℕ} {reader : LogReader} → IsReading bytes needed left reader → IsEnd left reader → HasReadLog bytes needed reader.head reader.read
all-read {bytes} {left} {needed} {reader} reading end =
    log-read bytes needed reader.head reader.read reading.has_head (record { left = left; have_frames = reading.have_frames; longest = end })

pub returns-then-count-needed-clause-answer : goal.returns-then-count-needed-clause-answer
returns-then-count-needed-clause-answer c bytes left needed reading end =
    let reader = c.args.self in
    let needs : reader.needed ≡ needed = reading.needs in
    let count : c.len-count.result ≡ length reader.read.numbers.items = omega arith in
    log-answers bytes needed (Err (LogFrame (c.len-count.result + 1)))
    (subst (λ n. HasFault bytes needed (LogFrame (n + 1))) (sym count)
    (log-short bytes needed reader.head reader.read (all-read reading end) reading.sized (omega arith)))

pub returns-then-read-eq0-clause-answer : goal.returns-then-read-eq0-clause-answer
returns-then-read-eq0-clause-answer c bytes left needed reading end =
    let reader = c.args.self in
    let needs : reader.needed ≡ needed = reading.needs in
    log-answers bytes needed (Err (LogFrame c.args.self.needed))
    (subst (λ n. HasFault bytes needed (LogFrame n)) (sym needs)
    (log-no_commit bytes needed reader.head reader.read (all-read reading end) reading.sized (omega arith) (omega arith) (omega arith)))

pub returns-clause-answer : goal.returns-clause-answer
returns-clause-answer c bytes left needed reading end =
    let reader = c.args.self in
    let needs : reader.needed ≡ needed = reading.needs in
    let commit : 0 < needed → 0 < reader.read.counts.last_needed = λ some.
    elim c.else-needed-gt0.branch [
      | else-needed-gt0-via-then-needed-gt0+else-read-eq0 w ↦ let apart = w.if-read-eq0.false in omega arith
      | else-needed-gt0-via-else-needed-gt0 w ↦ absurd (omega (arith, w.if-needed-gt0.false))
    ] in
    log-answers bytes needed (Ok c.kept.result)
    (subst (HasLog bytes needed) (sym c.kept.ensures)
    (log-found bytes needed reader.head reader.read (all-read reading end) reading.sized (omega arith) commit))

pub returns-clause-place : goal.returns-clause-place
returns-clause-place c = ap (λ (log : Log). 32 + length log.frames * (24 + log.page_size)) c.kept.ensures

pub returns-clause-words : goal.returns-clause-words
returns-clause-words c =
    let reader = c.args.self in
    let same : c.kept.result.page_size ≡ reader.head.page_size = ap (λ (log : Log). log.page_size) c.kept.ensures in
    subst (λ (n : ℕ). n % 8 ≡ 0) (sym same) reader.words

pub returns-clause-size : goal.returns-clause-size
returns-clause-size c =
    let reader = c.args.self in
    let same : c.kept.result.page_size ≡ reader.head.page_size = ap (λ (log : Log). log.page_size) c.kept.ensures in
    let least : 512 ≤ reader.head.page_size = reader.least in
    let most : reader.head.page_size ≤ 65536 = reader.most in
    (omega arith, omega arith)
