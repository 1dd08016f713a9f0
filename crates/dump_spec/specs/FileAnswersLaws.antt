-- Files have one answer where their pages have one: crates above cite these facts in their proofs.
use Rattle.std.proofs.Common.{◌≡◌, ℕ, List, length, take, Option, None, IsSome, Result, Ok, Err, sym, ap, ◌∙◌, subst, inl, inr}
use Rattle.std.proofs.Math.Path.{subst⁻¹}
use Rattle.std.proofs.lemmas.Bool.{false≢true}
use Rattle.common_spec.specs.ReadingLaws.{IsOne}
use Rattle.file_spec.specs.declared.FileName.TheVariants.{Target, Wal}
use Rattle.file_spec.specs.Files.{Files, content}
use Rattle.db_header.specs.declared.fields.Header.{Header}
use Rattle.db_header.specs.declared.fields.HeaderFault.{HeaderFault}
use Rattle.db_header.specs.Reading.{IsHeaderOf, IsFirstFault}
use Rattle.db_header.specs.HeaderLaws.{answer-one}
use Rattle.tree_spec.specs.Standing.{Sizes, Paged}
use Rattle.dump_spec.specs.Refusals.{header_refusal}
use Rattle.dump_spec.specs.FileAnswers.{PagesAnswer, sizes_by, pages_by, IsTargetAnswer, IsFilesAnswer}

module _ (bytes : List ℕ) where
  header-same : (h k : Header) → IsHeaderOf (take 100 bytes) (length bytes) h → IsHeaderOf (take 100 bytes) (length bytes) k → h ≡ k
  header-same h k one two =
      let x : Result Header HeaderFault = Ok h in
      let y : Result Header HeaderFault = Ok k in
      let same : x ≡ y = answer-one (take 100 bytes) (length bytes) x y one two in
      cc

  fault-same : (f g : HeaderFault) → IsFirstFault (take 100 bytes) (length bytes) f → IsFirstFault (take 100 bytes) (length bytes) g → f ≡ g
  fault-same f g one two =
      let x : Result Header HeaderFault = Err f in
      let y : Result Header HeaderFault = Err g in
      let same : x ≡ y = answer-one (take 100 bytes) (length bytes) x y one two in
      cc

  fault_or_header : (f : HeaderFault) (h : Header) → IsFirstFault (take 100 bytes) (length bytes) f → ¬ IsHeaderOf (take 100 bytes) (length bytes) h
  fault_or_header f h one two =
      let x : Result Header HeaderFault = Err f in
      let y : Result Header HeaderFault = Ok h in
      let same : x ≡ y = answer-one (take 100 bytes) (length bytes) x y one two in
      absurd (cc)

no_log : (files : Files) → files Wal ≡ None → ¬ IsSome (files Wal)
no_log files none some =
    let log : Option (List ℕ) = None in
    let there : IsSome log = subst (λ (o : Option (List ℕ)). IsSome o) none some in
    absurd (false≢true there)

module _ (OfPages : PagesAnswer) (one : (sizes : Sizes) (base : Paged) → IsOne (OfPages sizes base)) where
  target-one : (bytes : List ℕ) → IsOne (IsTargetAnswer OfPages bytes)
  target-one bytes a b (inl p) (inl q) = p.2 ∙ ap (λ (f : HeaderFault). Err (header_refusal f)) (fault-same bytes p.0 q.0 p.1 q.1) ∙ sym q.2
  target-one bytes a b (inl p) (inr q) = absurd (fault_or_header bytes p.0 q.0 p.1 q.1)
  target-one bytes a b (inr p) (inl q) = absurd (fault_or_header bytes q.0 p.0 q.1 p.1)
  target-one bytes a b (inr p) (inr q) =
      one (sizes_by p.0) (pages_by p.0 bytes) a b p.2 (subst⁻¹ (λ (h : Header). OfPages (sizes_by h) (pages_by h bytes) b) (header-same bytes p.0 q.0 p.1 q.1) q.2)

  pub files_answer-one : (files : Files) → IsOne (IsFilesAnswer OfPages files)
  files_answer-one files a b (inl p) (inl q) = p.1 ∙ sym q.1
  files_answer-one files a b (inl p) (inr (inl q)) = absurd (q.0 p.0)
  files_answer-one files a b (inl p) (inr (inr q)) = absurd (q.0 p.0)
  files_answer-one files a b (inr (inl p)) (inl q) = absurd (p.0 q.0)
  files_answer-one files a b (inr (inl p)) (inr (inl q)) = p.2 ∙ sym q.2
  files_answer-one files a b (inr (inl p)) (inr (inr q)) = absurd (no_log files q.1 p.1)
  files_answer-one files a b (inr (inr p)) (inl q) = absurd (p.0 q.0)
  files_answer-one files a b (inr (inr p)) (inr (inl q)) = absurd (no_log files p.1 q.1)
  files_answer-one files a b (inr (inr p)) (inr (inr q)) = target-one (content files Target) a b p.2 q.2
