-- What the writes to the hidden log leave of the files.
use Rattle.std.proofs.Common.{◌≡◌, ℕ, true, append_assoc, take, drop, List, [], ◌++◌, length, Option, Some, None, unwrap_or, sym, ap, ◌∙◌}
use Rattle.common_spec.specs.Told.{Leads}
use Rattle.common_spec.specs.ToldLaws.{Leads-here, Leads-then}
use Rattle.file_spec.specs.declared.FileName.TheVariants.{Oal}
use Rattle.byte_fields.specs.Bytes.{overwritten}
use Rattle.byte_fields.specs.BytesLaws.{overwritten-end}
use Rattle.file_spec.specs.Files.{Files, with_file, after_write, after_create}
use Rattle.file_spec.specs.FilesLaws.{with_file-again, with_file-same}
use Rattle.format_spec.specs.Log.{log_header, log_sums, frame_header, frame_sums}
use Rattle.rbu_run.specs.Handover.{log_of}

-- the empty log comes to hold these bytes
abbrev pub Wrote : List ℕ → Files → Files → Type 0
Wrote written f h = f Oal ≡ Some [] → h ≡ with_file f Oal (Some written)

pub Wrote-none : {at : Option Files} → Leads (Wrote []) at at
Wrote-none = Leads-here (λ f empty. sym (with_file-same f Oal (Some []) empty))

-- bytes are appended
pub Wrote-more : (written bytes : List ℕ) (at : ℕ) → at ≡ length written → {a b c : Option Files} → Leads (Wrote written) a b →
    Leads (λ f g. g ≡ after_write f Oal at bytes) b c → Leads (Wrote (written ++ bytes)) a c
Wrote-more written bytes at place before write =
    Leads-then before write (λ f g h wrote more empty.
    more ∙ ap (λ (files : Files). after_write files Oal at bytes) (wrote empty)
    ∙ with_file-again f Oal (Some written) (Some (overwritten written at bytes))
    ∙ ap (λ (now : List ℕ). with_file f Oal (Some now)) (overwritten-end written at bytes (sym place)))

-- a log is made where there is none, and then written
pub Wrote-made : (written : List ℕ) {a b c : Option Files} → Leads (λ f g. g ≡ after_create f Oal) a b → Leads (Wrote written) b c →
    Leads (λ f g. f Oal ≡ None → g ≡ with_file f Oal (Some written)) a c
Wrote-made written create wrote =
    Leads-then create wrote (λ f g h made more missing.
    let empty : g ≡ with_file f Oal (Some []) = made ∙ ap (λ (bytes : Option (List ℕ)). with_file f Oal (Some (unwrap_or bytes []))) missing in
    let holds : g Oal ≡ Some [] = ap (λ (files : Files). files Oal) empty in
    more holds ∙ ap (λ (files : Files). with_file files Oal (Some written)) empty ∙ with_file-again f Oal (Some []) (Some written))

-- the parts of the log of both pages, each with the checksum of the one before
pub log_of-parts : (salt s1 s2 : ℕ × ℕ) (pages h f1 p1 f2 p2 : List ℕ) →
    h ≡ log_header true 4096 0 salt → s1 ≡ log_sums true 4096 0 salt → f1 ≡ frame_header true salt s1 1 0 p1 →
    s2 ≡ frame_sums true s1 1 0 p1 → f2 ≡ frame_header true salt s2 2 2 p2 → p1 ≡ take 4096 pages → p2 ≡ drop 4096 pages →
    h ++ (f1 ++ (p1 ++ (f2 ++ (p2 ++ [])))) ≡ log_of salt pages
log_of-parts salt s1 s2 pages h f1 p1 f2 p2 eh e1 ef1 e2 ef2 ep1 ep2 = rw (eh, ef1, ef2, e2, e1, ep1, ep2) (simp append_assoc)
