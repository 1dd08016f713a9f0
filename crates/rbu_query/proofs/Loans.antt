-- What stays of a disk whose file was lent as pages.
use Rattle.std.proofs.Common.{◌≡◌, ◌≤◌, ℕ, List, Option, Some, None, option_map, Result, sym, ap, ◌∙◌, subst, arith}
use Rattle.std.proofs.Math.Path.{subst⁻¹}
use Rattle.file_spec.specs.declared.FileName.{FileName}
use Rattle.file_spec.specs.declared.FileName.TheVariants.{Target}
use Rattle.file_spec.specs.Files.{Files, content}
use Rattle.file_spec.specs.Records.{shown_files}
use Rattle.file_spec.specs.Trails.{Trail}
use Rattle.db_header.specs.declared.fields.Header.{Header}
use Rattle.rbu_disk.specs.declared.disk.Disk.{Ghosts}
use Rattle.rbu_disk.specs.declared.disk.DiskFault.{DiskFault}
use Rattle.rbu_disk.specs.Call.{Failures, Fails}
use Rattle.rbu_disk.specs.Disk.{IsCause}
use Rattle.page_store.specs.Store.{IsCause as IsStoreCause}
use Rattle.wal_codec.specs.declared.log.Log.{Log}
use Rattle.file_pages.specs.FileMap.{Loan}
use Rattle.file_pages.specs.Overlay.{count_over, pages_over}
use Rattle.refusal.specs.declared.Refusal.{Refusal}
use Rattle.tree_spec.specs.Worlds.{greatest_count}
use Rattle.dump_spec.specs.FileAnswers.{PagesAnswer, pages_by, sizes_by}
use Rattle.rbu_query.specs.Answers.{HasHeader}

-- one moment more or less of a disk is told by what was fixed
module _ {D : Type 0} (d : Ghosts D) (tied : (disk : D) → d.shown disk ≡ option_map (λ (t : Trail). shown_files t.now.at) (d.trail disk)) (a b : D) (n m : ℕ) where
  abbrev Fixed : Type 0
  Fixed =
      let x : Loan = record { lent = n; trail = d.trail b; test = d.test b } in
      let y : Loan = record { lent = m; trail = d.trail a; test = d.test a } in
      x ≡ y

  pub loan-name : Fixed → n ≡ m
  loan-name e = ap (λ (l : Loan). l.lent) e

  pub loan-trail : Fixed → d.trail b ≡ d.trail a
  loan-trail e = ap (λ (l : Loan). l.trail) e

  pub loan-test : Fixed → d.test b ≡ d.test a
  loan-test e = ap (λ (l : Loan). l.test) e

  pub loan-shown : Fixed → d.shown b ≡ d.shown a
  loan-shown e = tied b ∙ ap (option_map (λ (t : Trail). shown_files t.now.at)) (loan-trail e) ∙ sym (tied a)

-- pages without a log are those of the target
pub answer-by_header : (OfPages : PagesAnswer) (log : Option Log) (name : FileName) (header : Header) (f : Files) (answer : Result (List ℕ) Refusal) → log ≡ None → name ≡ Target
    → OfPages (sizes_by header) (record { count = count_over log header; pages = pages_over header.page_size log name f }) answer
    → OfPages (sizes_by header) (pages_by header (content f Target)) answer
answer-by_header OfPages log name header f answer no_log is of_pages =
    let P : Option Log → FileName → Type 0 = λ l n. OfPages (sizes_by header) (record { count = count_over l header; pages = pages_over header.page_size l n f }) answer in
    subst (λ (n : FileName). P None n) is (subst (λ (l : Option Log). P l name) no_log of_pages)

-- the cause that a store tells is that of its disk
pub cause-of_store : (fault : Option DiskFault) (f h : Failures) → IsStoreCause Fails fault f h → IsCause fault f h
cause-of_store None f h cause = cause
cause-of_store (Some fault) f h cause = cause

pub header-sized : (header : Header) → HasHeader header → header.reserved ≤ header.page_size
header-sized header (bytes, len, is) = omega (arith, is.page_size_is, is.reserved_is, is.supported.usable.least)

-- they are few
pub header-few : (log : Option Log) (header : Header) → log ≡ None → HasHeader header → count_over log header ≤ greatest_count
header-few log header no_log (bytes, len, is) =
    subst⁻¹ (λ (l : Option Log). count_over l header ≤ greatest_count) no_log (subst⁻¹ (λ (n : ℕ). n ≤ greatest_count) is.pages_is is.whole.limit)
