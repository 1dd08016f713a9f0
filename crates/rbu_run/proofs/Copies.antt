-- What the copying of both pages leaves of the target.
use Rattle.std.proofs.Common.{◌≡◌, ℕ, ◌+◌, ◌-◌, List, [], ◌++◌, length, take, drop, Option, Some, refl, ap, ◌∙◌, arith, append-nil, length-append, length-drop}
use Rattle.std.proofs.lemmas.List.{take_at}
use Rattle.std.proofs.Math.ListN.{drop_of_length-le}
use Rattle.common_spec.specs.Told.{Leads}
use Rattle.common_spec.specs.ToldLaws.{Leads-then}
use Rattle.file_spec.specs.declared.FileName.TheVariants.{Target}
use Rattle.byte_fields.specs.Bytes.{overwritten}
use Rattle.byte_fields.specs.BytesLaws.{overwritten-front}
use Rattle.file_spec.specs.Files.{Files, content, with_file, after_write}
use Rattle.file_spec.specs.FilesLaws.{with_file-again}
use Rattle.rbu_run.specs.Handover.{HasPages}

-- the second page is written behind the first, over bytes of two pages
overwritten-second_page : (first second rest : List ℕ) → length first ≡ 4096 → length second ≡ 4096 → length rest ≡ 4096 → overwritten (first ++ rest) 4096 second ≡ first ++ second
overwritten-second_page first second rest a b c =
    let kept : take 4096 (first ++ rest) ≡ first = take_at first rest 4096 a in
    let long : length (first ++ rest) ≡ 8192 = omega (arith, length-append first rest) in
    let none : 4096 - length (first ++ rest) ≡ 0 = omega (arith, long) in
    let past : drop (4096 + length second) (first ++ rest) ≡ [] = drop_of_length-le (first ++ rest) (omega (arith, long)) in
    rw (kept, none, past, append-nil (first ++ [] ++ second), append-nil first) refl

overwritten-both_pages : (old first second : List ℕ) → length old ≡ 8192 → length first ≡ 4096 → length second ≡ 4096 →
    overwritten (overwritten old 0 first) 4096 second ≡ first ++ second
overwritten-both_pages old first second a b c =
    let rest : length (drop (length first) old) ≡ 4096 = omega (arith, length-drop (length first) old) in
    ap (λ (bytes : List ℕ). overwritten bytes 4096 second) (overwritten-front old first) ∙ overwritten-second_page first second (drop (length first) old) b c rest

pub pages-copied : (pages first second : List ℕ) → length first ≡ 4096 → length second ≡ 4096 → first ++ second ≡ pages → {a b c : Option Files} →
    Leads (λ f g. g ≡ after_write f Target 0 first) a b → Leads (λ f g. g ≡ after_write f Target 4096 second) b c →
    Leads (λ f g. length (content f Target) ≡ 8192 → HasPages pages f g) a c
pages-copied pages first second a b whole one two =
    Leads-then one two (λ f g h once twice long.
    twice ∙ ap (λ (files : Files). after_write files Target 4096 second) once
    ∙ with_file-again f Target (Some (overwritten (content f Target) 0 first)) (Some (overwritten (overwritten (content f Target) 0 first) 4096 second))
    ∙ ap (λ (bytes : List ℕ). with_file f Target (Some bytes)) (overwritten-both_pages (content f Target) first second long a b ∙ whole))
