use Rattle.std.proofs.Common.{◌≡◌, ℕ, zero, suc, ◌+◌, ◌-◌, ◌*◌, ◌<◌, ◌≤◌, List, [], length, drop, Some, sym, ap, ◌∙◌, subst, arith}
use Rattle.byte_fields.specs.Bytes.{resized}
use Rattle.file_spec.specs.declared.FileName.TheVariants.{Wal}
use Rattle.file_spec.specs.Files.{content}
use Rattle.format_spec.specs.Log.{Frame}
use Rattle.wal_index.specs.FrameIndex.{IsFrameOf, IsLastFrame}
use Rattle.wal_index.specs.OverlayLaws.{numbers, marked_frame-page, marked_frame-none}
use Rattle.file_pages.specs.Overlay.{frames_at}
use Rattle.file_pages.specs.OverlayLaws.{frames_at-numbers, frames_at-page}
use Rattle.file_pages.proofs.overlay.frame_place.Goals as goal

-- where the page of a frame begins, told from its end
page-begins : (k size : ℕ) → 0 < k → 32 + (k - 1) * (24 + size) + 24 ≡ 32 + k * (24 + size) - size
page-begins zero size some = absurd (omega arith)
page-begins (suc j) size some =
    let one : suc j - 1 ≡ j = omega arith in
    ap (λ (i : ℕ). 32 + i * (24 + size) + 24) one ∙ omega arith

pub returns-in_default-clause-none : goal.returns-in_default-clause-none
returns-in_default-clause-none c files =
    let log = c.args.log.now in
    let all : List Frame = frames_at log.page_size (content files Wal) 32 log.frames in
    let same : numbers all ≡ log.frames = frames_at-numbers log.page_size (content files Wal) 32 log.frames in
    marked_frame-none all c.args.number log.committed (λ k below is.
    c.in_default.ensures.none k below (subst (λ (ns : List ℕ). IsFrameOf ns c.args.number k) (same ∙ sym c.as_slice.ensures) is))

pub returns-clause-found : goal.returns-clause-found
returns-clause-found c files =
    let log = c.args.log.now in
    let size = log.page_size in
    let frame = c.in-Some.frame in
    let wal : List ℕ = content files Wal in
    let all : List Frame = frames_at size wal 32 log.frames in
    let same : numbers all ≡ log.frames = frames_at-numbers size wal 32 log.frames in
    let last : IsLastFrame c.as_slice.result.now c.args.number log.committed frame = c.in-Some.ensures.last.holds in
    let among : IsLastFrame (numbers all) c.args.number log.committed frame =
    subst (λ (ns : List ℕ). IsLastFrame ns c.args.number log.committed frame) (c.as_slice.ensures ∙ sym same) last in
    let there : frame ≤ length log.frames = omega (arith, last.is_frame.there, ap length c.as_slice.ensures) in
    let counts : 0 < frame = last.is_frame.counts in
    let place : 32 + (frame - 1) * (24 + size) + 24 ≡ 32 + frame * (24 + c.from-page_size.result) - c.from-page_size.result =
    page-begins frame size counts ∙ ap (λ (s : ℕ). 32 + frame * (24 + s) - s) (sym c.from-page_size.ensures) in
    marked_frame-page all c.args.number log.committed frame (record { number = 0; commit = 0; page = [] }) among
    ∙ ap Some (frames_at-page size wal 32 log.frames (frame - 1) (record { number = 0; commit = 0; page = [] }) (omega arith) ∙ ap (λ (k : ℕ). resized (drop k wal) size) place)
