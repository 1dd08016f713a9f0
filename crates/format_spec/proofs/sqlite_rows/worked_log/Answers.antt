use Rattle.std.proofs.Common.{◌≡◌, [], ◌∷◌, ◌++◌, refl, subst, lit<, List, ℕ, false}
use Rattle.format_spec.specs.Log.{log_header, log_sums, frame_header, frames_bytes, IsLog}
use Rattle.format_spec.specs.LogLaws.{log-of_frames}
use Rattle.format_spec.specs.LittleLog.{little_frame, little_salt, little_log}
use Rattle.format_spec.proofs.sqlite_rows.worked_log.Goals as goal

-- the header and the frame as the log has them
little_log-bytes : log_header false 512 0 little_salt ++ frames_bytes false little_salt (log_sums false 512 0 little_salt) (little_frame ∷ []) ≡ little_log
unfolding log_header frame_header
little_log-bytes = refl

pub returns : goal.returns
returns c =
    subst (λ (b : List ℕ). IsLog b 512 (little_frame ∷ [])) little_log-bytes
    (log-of_frames false 512 0 little_salt (little_frame ∷ []) (lit< tt) (lit< tt) (lit< tt, lit< tt) (record { of_page = lit< tt; number_fits = lit< tt; commit_fits = lit< tt; whole = refl }, tt))
