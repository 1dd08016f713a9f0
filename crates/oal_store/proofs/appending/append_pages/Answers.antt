use Rattle.std.proofs.Common.{◌≡◌, ◌+◌, ◌-◌, ◌%◌, ◌==◌, if◌then◌else◌, ℕ, List, [], ◌∷◌, ◌++◌, length, Vec, refl, sym, ap, ap₂, ◌∙◌, subst, arith, length-append}
use Rattle.std.specs.Global.{Global}
use Rattle.std.specs.List.{All}
use Rattle.std.specs.Map.Iter.{deref_pair}
use Rattle.std.proofs.lemmas.List.Elements.{All-tail}
use Rattle.std.proofs.lemmas.Map.Iter.{rest_more, rest_all}
use Rattle.common_spec.specs.Told.{Leads}
use Rattle.common_spec.specs.ToldLaws.{Leads-here, Leads-weaken}
use Rattle.file_spec.specs.declared.FileName.TheVariants.{Oal}
use Rattle.file_spec.specs.Files.{Files}
use Rattle.file_spec.specs.OnlyChangesLaws.{only-same, only-then}
use Rattle.format_spec.specs.Log.{pair_of, Frame, frame_sums, frame_header, frame_bytes, frames_bytes, sums_behind}
use Rattle.format_spec.specs.LogLaws.{length-frame_header}
use Rattle.oal_store.specs.Appending.{Appends, frames_of}
use Rattle.oal_store.proofs.Appended.{appends-none, appended-more, growing-none, growing-then}
use Rattle.oal_store.proofs.appending.append_pages.Goals as goal

pub loop-number-init : goal.loop-number-init
loop-number-init g c =
    let is = c.into_iter-number-iterator.ensures.into_iter_gives.0 in
    rw is (record {
      done = Leads-here (λ f k p. p);
      size = refl;
      sums = refl;
      count = c.len-left.ensures.len;
      words = c.requires.words;
      from = omega arith;
      only = only-same Oal refl;
      moments = growing-none c.args.log.now.size;
      test = refl;
      allows = λ all. all;
      still = refl;
    })

pub returns-in_err-end-clause-only : goal.returns-in_err-end-clause-only
returns-in_err-end-clause-only g c = only-then Oal c.loop-number.invariant.only c.append_frame.ensures.only

pub returns-in_err-end-clause-moments : goal.returns-in_err-end-clause-moments
returns-in_err-end-clause-moments g c = growing-then c.args.log.now.size c.loop-number.end.size c.loop-number.invariant.from c.loop-number.invariant.moments c.append_frame.ensures.moments

pub loop-number-preserved : goal.loop-number-preserved
loop-number-preserved g c =
    let inv = c.loop-number.invariant in
    let log = c.args.log.now in
    let big = log.big in
    let salt : ℕ × ℕ = pair_of log.salt in
    let sums : ℕ × ℕ = pair_of c.loop-number.end.sums in
    let after : ℕ × ℕ = pair_of c.in_ok-end.end.sums in
    let at : ℕ = c.loop-number.end.size in
    let all : List Frame = frames_of c.args.commit c.args.pages.now.entries in
    let rest : List (ℕ × Vec ℕ Global) = c.next.new.self in
    let left : List Frame = frames_of c.args.commit rest in
    let entry : ℕ × Vec ℕ Global = (c.in-Some.number.now, c.in-Some.page.now) in
    let taken : c.loop-number.number-iterator ≡ entry ∷ rest =
    rest_more deref_pair c.loop-number.number-iterator rest c.next.result (c.in-Some.number, c.in-Some.page) c.in-Some.is c.next.ensures.steps in
    let frame : Frame = record { number = entry.0; commit = if length rest == 0 then c.args.commit else 0; page = entry.1.items } in
    let fewer : c.loop-number.left - 1 ≡ length rest = omega (arith, inv.count, ap length taken) in
    let commit : c.commit_with-last.result ≡ frame.commit = c.commit_with-last.ensures ∙ ap (λ (n : ℕ). if n == 0 then c.args.commit else 0) fewer in
    let page : c.as_slice.result.now ≡ frame.page = c.as_slice.ensures.value in
    let written : record { number = entry.0; commit = c.commit_with-last.result; page = c.as_slice.result.now } ≡ frame =
    ap₂ (λ (n : ℕ) (p : List ℕ). record { number = entry.0; commit = n; page = p }) commit page in
    let summed : after ≡ frame_sums big sums frame.number frame.commit frame.page = c.in_ok-end.ensures.sums ∙ ap (λ (f : Frame). frame_sums big sums f.number f.commit f.page) written in
    let header : List ℕ = frame_header big salt sums frame.number frame.commit frame.page in
    let long : length (frame_bytes big salt sums frame) ≡ 24 + length frame.page =
    length-append header frame.page ∙ ap (λ (n : ℕ). n + length frame.page) (length-frame_header big salt sums frame.number frame.commit frame.page) in
    let placed : c.in_ok-end.end.size ≡ at + length (frame_bytes big salt sums frame) = omega (arith, long, c.in_ok-end.ensures.size, ap length page) in
    let behind : ℕ × ℕ = frame_sums big sums frame.number frame.commit frame.page in
    let size : log.size + length (frames_bytes big salt (pair_of log.sums) all) ≡ at + length (frame_bytes big salt sums frame ++ frames_bytes big salt behind left) =
    inv.size ∙ ap (λ (es : List (ℕ × Vec ℕ Global)). at + length (frames_bytes big salt sums (frames_of c.args.commit es))) taken in
    record {
      done = appended-more log.size at c.in_ok-end.end.size (frames_bytes big salt (pair_of log.sums) all) big salt sums after frame left
          (subst (λ (es : List (ℕ × Vec ℕ Global)). Leads (λ f h. (k : Files) → Appends at (frames_bytes big salt sums (frames_of c.args.commit es)) h k
          → Appends log.size (frames_bytes big salt (pair_of log.sums) all) f k) (g.D.Disk.shown c.args.disk.now) (g.D.Disk.shown c.loop-number.disk)) taken inv.done)
          (subst (λ (f : Frame). Leads (Appends at (frame_bytes big salt sums f)) (g.D.Disk.shown c.loop-number.disk) (g.D.Disk.shown c.append_frame.new.disk)) written c.in_ok-end.ensures.done)
          summed placed;
      size = size ∙ ap (λ (n : ℕ). at + n) (length-append (frame_bytes big salt sums frame) (frames_bytes big salt behind left))
          ∙ omega (arith, placed) ∙ ap (λ (s : ℕ × ℕ). c.in_ok-end.end.size + length (frames_bytes big salt s left)) (sym summed);
      sums = inv.sums ∙ ap (λ (es : List (ℕ × Vec ℕ Global)). sums_behind big sums (frames_of c.args.commit es)) taken ∙ ap (λ (s : ℕ × ℕ). sums_behind big s left) (sym summed);
      count = fewer;
      words = All-tail (λ (p : ℕ × Vec ℕ Global). length p.1.items % 8 ≡ 0) entry rest (subst (All (λ (p : ℕ × Vec ℕ Global). length p.1.items % 8 ≡ 0)) taken inv.words);
      from = omega (arith, inv.from, placed);
      only = only-then Oal inv.only c.append_frame.ensures.only;
      moments = growing-then log.size at inv.from inv.moments c.append_frame.ensures.moments;
      test = c.append_frame.ensures.test ∙ inv.test;
      allows = λ every. c.append_frame.ensures.calls.allows (inv.allows every);
      still = c.in_ok-end.ensures.calls.still ∙ inv.still;
    }

pub returns-clause-done : goal.returns-clause-done
returns-clause-done g c =
    let inv = c.loop-number.invariant in
    let log = c.args.log.now in
    let end = c.loop-number.end in
    let all : List ℕ = frames_bytes log.big (pair_of log.salt) (pair_of log.sums) (frames_of c.args.commit c.args.pages.now.entries) in
    let none : c.loop-number.number-iterator ≡ [] = rest_all (deref_pair {K = ℕ} {X = Vec ℕ Global}) c.loop-number.number-iterator c.next.new.self c.next.result c.in-None.is c.next.ensures.steps in
    Leads-weaken (subst (λ (es : List (ℕ × Vec ℕ Global)). Leads (λ f h. (k : Files) → Appends end.size (frames_bytes log.big (pair_of log.salt) (pair_of end.sums) (frames_of c.args.commit es)) h k
    → Appends log.size all f k) (g.D.Disk.shown c.args.disk.now) (g.D.Disk.shown c.loop-number.disk)) none inv.done)
    (λ f h whole. whole h (appends-none end.size h))
