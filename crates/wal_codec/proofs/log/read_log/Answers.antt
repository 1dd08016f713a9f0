use Rattle.std.proofs.Common.{◌≡◌, ℕ, ◌-◌, ◌<◌, ◌≤◌, List, length, take, drop, Result, Ok, Err, inr, sym, ap, ◌∙◌, subst, arith, length-drop}
use Rattle.std.proofs.lemmas.List.{take_rest}
use Rattle.common_spec.specs.Reading.{OrFault, Reads, ReadsOrWants}
use Rattle.wal_codec.specs.declared.log.Log.{Log}
use Rattle.wal_codec.specs.declared.log.LogFault.{LogFault}
use Rattle.wal_codec.specs.declared.log.LogFault.TheVariants.{LogHeader}
use Rattle.wal_codec.specs.LogReading.{HasLog, HasFault, IsMemory}
use Rattle.wal_codec.specs.FramesRead.{IsReading, TakesFrame, frame_size}
use Rattle.wal_codec.proofs.FramesLemmas.{log-answers}
use Rattle.wal_codec.proofs.log.read_log.Goals as goal

-- an answer that is not want of memory
not_wanting : (P : Result Log LogFault → Type 0) (answer : Result Log LogFault) → Reads P answer → ReadsOrWants (λ log. log) IsMemory P answer
not_wanting P (Ok log) reads = reads
not_wanting P (Err fault) reads = inr reads

pub returns-in_default : goal.returns-in_default
returns-in_default c = inr (log-answers c.args.bytes.now c.args.needed (Err LogHeader) (c.in_default.ensures.none c.args.bytes.now (sym c.front.ensures.bytes)))

pub loop-reader-init : goal.loop-reader-init
loop-reader-init c =
    let bytes = c.args.bytes.now in
    record {
      reading = subst (λ (left : List ℕ). IsReading bytes c.args.needed left c.in-Some.reader) (sym (take_rest bytes 32)) (c.in-Some.ensures.begun bytes (sym c.front.ensures.bytes));
      size = c.frame_size-size.ensures.size;
    }

pub loop-reader-preserved : goal.loop-reader-preserved
loop-reader-preserved c =
    let bytes = c.args.bytes.now in
    let left = c.loop-reader.left.now in
    let size = c.frame_size-size.result in
    let here = c.loop-reader.invariant in
    let next = c.in_ok-next_frame.ensures in
    let begins : take (frame_size c.loop-reader.reader) left ≡ c.front-in-loop-reader.result.now = sym (c.front-in-loop-reader.ensures.bytes ∙ ap (λ (n : ℕ). take n left) here.size) in
    let rest : take (length left - size) (drop size left) ≡ drop (frame_size c.loop-reader.reader) left = take_rest left size ∙ ap (λ (n : ℕ). drop n left) here.size in
    record {
      reading = subst (λ (behind : List ℕ). IsReading bytes c.args.needed behind c.next_frame.new.self) (sym rest)
          (subst (TakesFrame bytes c.args.needed left c.loop-reader.reader c.next_frame.new.self) c.if-branch.true (next.frame bytes left c.args.needed begins here.reading));
      size = here.size ∙ sym next.size;
    }

pub loop-reader-smaller : goal.loop-reader-smaller
loop-reader-smaller c =
    let left = c.loop-reader.left.now in
    let size = c.frame_size-size.result in
    let enough : frame_size c.loop-reader.reader ≤ length c.front-in-loop-reader.result.now = c.in_ok-next_frame.ensures.long c.if-branch.true in
    let shorter : length (take (length left - size) (drop size left)) < length left =
    omega (arith, ap length (take_rest left size), length-drop size left, enough, c.loop-reader.invariant.size, c.front-in-loop-reader.ensures.within, c.frame_size-size.ensures.range) in
    shorter

pub returns : goal.returns
returns c =
    let bytes = c.args.bytes.now in
    let left = c.loop-reader.left.now in
    let here = c.loop-reader.invariant in
    let begins : take (frame_size c.loop-reader.reader) left ≡ c.front-in-loop-reader.result.now = sym (c.front-in-loop-reader.ensures.bytes ∙ ap (λ (n : ℕ). take n left) here.size) in
    let last = subst (TakesFrame bytes c.args.needed left c.loop-reader.reader c.next_frame.new.self) c.if-branch.false (c.in_ok-next_frame.ensures.frame bytes left c.args.needed begins here.reading) in
    not_wanting (OrFault (HasLog bytes c.args.needed) (HasFault bytes c.args.needed)) c.finish.result (c.finish.ensures.answer bytes left c.args.needed last.0 last.1)
