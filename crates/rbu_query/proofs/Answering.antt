-- The answer to a question, of what was read.
use Rattle.std.proofs.Common.{◌≡◌, ◌↔◌, ℕ, true, false, IsTrue, List, Option, Some, None, IsSome, Result, Ok, Err, IfOk, length, take, refl, ap, subst, inl, inr}
use Rattle.std.proofs.Math.Path.{subst⁻¹}
use Rattle.std.proofs.lemmas.Bool.{false≢true}
use Rattle.common_spec.specs.Counts.{CountsFaults}
use Rattle.common_spec.specs.Reading.{OrFault}
use Rattle.file_spec.specs.declared.FileName.TheVariants.{Target, Wal}
use Rattle.file_spec.specs.Files.{Files, content}
use Rattle.db_header.specs.declared.fields.Header.{Header}
use Rattle.db_header.specs.declared.fields.HeaderFault.{HeaderFault}
use Rattle.db_header.specs.Reading.{IsFirstFault, IsHeaderOf}
use Rattle.file_pages.specs.Overlay.{IsStart, file_start}
use Rattle.page_store.specs.Store.{IsCause}
use Rattle.refusal.specs.declared.Refusal.{Refusal}
use Rattle.refusal.specs.declared.Refusal.TheVariants as refusal
use Rattle.tree_spec.specs.declared.fault.TreeFault.{TreeFault}
use Rattle.tree_spec.specs.declared.fault.TreeFault.TheVariants as tree
use Rattle.tree_spec.specs.declared.TreeKind.TheVariants.{Table}
use Rattle.tree_spec.specs.Faults.{fault_in, IsDamageOrOther}
use Rattle.tree_spec.specs.Standing.{Sizes, Paged}
use Rattle.tree_walk.specs.declared.cursor.Row.{Row}
use Rattle.database_spec.specs.Walks.{IsList, StopsAt}
use Rattle.tree_rows.specs.Rows.{members_of}
use Rattle.dump_spec.specs.Dumps.{IsPagesAnswer, is_schema_name}
use Rattle.dump_spec.specs.FileAnswers.{HasJournal, IsFilesAnswer, PagesAnswer, pages_by, sizes_by}
use Rattle.dump_spec.specs.Refusals.{header_refusal}
use Rattle.dump_spec.specs.SchemaDumps.{IsSchemaAnswer}
use Rattle.dump_spec.specs.TableDumps.{IsTableAnswer}
use Rattle.table_dump.specs.declared.fault.PrintFault.{PrintFault}
use Rattle.table_dump.specs.declared.fault.PrintFault.TheVariants as print
use Rattle.table_dump.specs.Answers.{Answers, fault_in as print_fault_in}
use Rattle.rbu_query.specs.Answers.{IsReadHeader, IsRefusedBy, IsSchemaOf, IsSplit}

module _ (F : Type 0) (sizes : Sizes) (base : Paged) where
  -- the rows of the table at page 1 were read
  pub answer-of_rows : (rows : List Row) (answer : Result (List ℕ) Refusal) → IsList sizes base Table 1 (members_of rows) → IsSchemaOf rows answer → IsSchemaAnswer sizes base answer
  answer-of_rows rows answer is_list (inl lines) = inr (inr (members_of rows, lines.0, is_list, lines.1, lines.2))
  answer-of_rows rows answer is_list (inr bad) = inr (inl (members_of rows, bad.0, is_list, bad.1, bad.2))

  -- its tree is damaged
  pub answer-of_damage : (fault : TreeFault F) (refused : Refusal) → IsDamageOrOther (λ page rule. StopsAt sizes base Table 1 (page, rule)) fault → IsRefusedBy fault (Ok refused) → IsSchemaAnswer sizes base (Err refused)
  answer-of_damage (tree.TreeDamaged page rule) refused stops is =
      let same : refused ≡ refusal.TreeDamaged page rule = cc in
      inl (page, rule, ap Err same, stops)
  answer-of_damage (tree.TrunkDamaged page) refused stops is = absurd (cc)
  answer-of_damage (tree.TargetFull pages limit) refused stops is = absurd (cc)
  answer-of_damage (tree.Store fault) refused stops is = absurd (cc)
  answer-of_damage (tree.Memory error) refused stops is = absurd (cc)

-- the store did not fail where the tree is damaged, and else the fault is what it was
pub damage-still : {S F : Type 0} (Fails : S → S → F → Type 0) (f h : S) (fault : TreeFault F) (refused : Refusal) → IsRefusedBy fault (Ok refused) → IsCause Fails (fault_in fault) f h → h ≡ f
damage-still Fails f h (tree.TreeDamaged page rule) refused is cause = cause
damage-still Fails f h (tree.TrunkDamaged page) refused is cause = absurd (cc)
damage-still Fails f h (tree.TargetFull pages limit) refused is cause = absurd (cc)
damage-still Fails f h (tree.Store fault) refused is cause = absurd (cc)
damage-still Fails f h (tree.Memory error) refused is cause = absurd (cc)

pub damage-same : {F : Type 0} (fault other : TreeFault F) → IsRefusedBy fault (Err other) → fault ≡ other
damage-same (tree.TreeDamaged page rule) other is = absurd (cc)
damage-same (tree.TrunkDamaged page) other is = cc
damage-same (tree.TargetFull pages limit) other is = cc
damage-same (tree.Store fault) other is = cc
damage-same (tree.Memory error) other is = cc

-- a refusal apart from what ends the call is the same answer, and the faults of the store are those that they were
module _ {F : Type 0} where
  pub split-answers : (P : Result (List ℕ) Refusal → Type 0) (answer : Result (List ℕ) (PrintFault F)) (result : Result (Result (List ℕ) Refusal) (TreeFault F)) → IsSplit answer result → Answers P answer → IfOk result P
  split-answers P (Ok text) result e is = subst⁻¹ (λ (r : Result (Result (List ℕ) Refusal) (TreeFault F)). IfOk r P) e is
  split-answers P (Err (print.Refused refused)) result e is = subst⁻¹ (λ (r : Result (Result (List ℕ) Refusal) (TreeFault F)). IfOk r P) e is
  split-answers P (Err (print.Store fault)) result e is = subst⁻¹ (λ (r : Result (Result (List ℕ) Refusal) (TreeFault F)). IfOk r P) e tt
  split-answers P (Err (print.Memory error)) result e is = subst⁻¹ (λ (r : Result (Result (List ℕ) Refusal) (TreeFault F)). IfOk r P) e tt

  module _ {S : Type 0} (count : S → ℕ) (Fails : S → S → F → Type 0) (f h : S) where
    abbrev CountsPrint : Result (List ℕ) (PrintFault F) → Type 0
    CountsPrint answer = CountsFaults count (λ f h fault. IsCause Fails (print_fault_in fault) f h) f h answer

    abbrev CountsTree : Result (Result (List ℕ) Refusal) (TreeFault F) → Type 0
    CountsTree result = CountsFaults count (λ f h fault. IsCause Fails (fault_in fault) f h) f h result

    pub split-counts : (answer : Result (List ℕ) (PrintFault F)) (result : Result (Result (List ℕ) Refusal) (TreeFault F)) → IsSplit answer result → CountsPrint answer → CountsTree result
    split-counts (Ok text) result e counts = subst⁻¹ CountsTree e (record { later = counts.later; still = counts.still; cause = tt })
    split-counts (Err (print.Refused refused)) result e counts = subst⁻¹ CountsTree e (record { later = counts.later; still = counts.cause; cause = tt })
    split-counts (Err (print.Store fault)) result e counts = subst⁻¹ CountsTree e (record { later = counts.later; still = tt; cause = counts.cause })
    split-counts (Err (print.Memory error)) result e counts = subst⁻¹ CountsTree e (record { later = counts.later; still = tt; cause = counts.cause })

-- the answer of the schema's table, or of another table, is that of the pages
pub pages-schema : {E : Type 0} (name : List ℕ) (sizes : Sizes) (base : Paged) (result : Result (Result (List ℕ) Refusal) E) → is_schema_name name ≡ true → IfOk result (IsSchemaAnswer sizes base) → IfOk result (IsPagesAnswer name sizes base)
pages-schema name sizes base (Ok answer) e is = inl (e, is)
pages-schema name sizes base (Err fault) e is = tt

pub pages-table : {E : Type 0} (name : List ℕ) (sizes : Sizes) (base : Paged) (result : Result (Result (List ℕ) Refusal) E) → is_schema_name name ≡ false → IfOk result (IsTableAnswer sizes base name) → IfOk result (IsPagesAnswer name sizes base)
pages-table name sizes base (Ok answer) e is = inr (e, is)
pages-table name sizes base (Err fault) e is = tt

-- a header that was read is one of some bytes
pub header-read : (bytes : List ℕ) (len : ℕ) (result : Result Header HeaderFault) → OrFault (IsHeaderOf bytes len) (IsFirstFault bytes len) result → IsReadHeader result
header-read bytes len (Ok header) is = (bytes, len, is)
header-read bytes len (Err fault) is = tt

none-there : {X : Type 0} (o : Option X) → IsTrue false ↔ IsSome o → o ≡ None
none-there None h = refl
none-there (Some x) h = absurd (false≢true (h.1 refl))

-- the answer of the target is that of the files where there is neither a journal nor a log
module _ (OfPages : PagesAnswer) (f : Files) where
  pub answer-of_pages : (header : Header) (answer : Result (List ℕ) Refusal) → IsTrue false ↔ HasJournal f → IsTrue false ↔ IsSome (f Wal)
      → IsHeaderOf (take 100 (content f Target)) (length (content f Target)) header → OfPages (sizes_by header) (pages_by header (content f Target)) answer → IsFilesAnswer OfPages f answer
  answer-of_pages header answer journal log is of_pages = inr (inr (λ there. false≢true (journal.1 there), none-there (f Wal) log, inr (header, is, of_pages)))

  pub answer-of_header : (fault : HeaderFault) → IsTrue false ↔ HasJournal f → IsTrue false ↔ IsSome (f Wal)
      → IsFirstFault (take 100 (content f Target)) (length (content f Target)) fault → IsFilesAnswer OfPages f (Err (header_refusal fault))
  answer-of_header fault journal log is = inr (inr (λ there. false≢true (journal.1 there), none-there (f Wal) log, inl (fault, is, refl)))

-- the header of the first bytes is that of the target
pub header-of_start : (f : Files) (n long : ℕ) (start : List ℕ) (result : Result Header HeaderFault) → IsStart (file_start Target f) n long start
    → OrFault (IsHeaderOf (take n start) long) (IsFirstFault (take n start) long) result
    → OrFault (IsHeaderOf (take 100 (content f Target)) (length (content f Target))) (IsFirstFault (take 100 (content f Target)) (length (content f Target))) result
header-of_start f n long start result is reads =
    subst (λ (l : ℕ). OrFault (IsHeaderOf (take 100 (content f Target)) l) (IsFirstFault (take 100 (content f Target)) l) result) is.length
    (subst (λ (bytes : List ℕ). OrFault (IsHeaderOf bytes long) (IsFirstFault bytes long) result) is.first reads)
