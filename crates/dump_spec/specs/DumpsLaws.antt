-- A name has one answer of pages and of files: crates above cite these facts in their proofs.
use Rattle.std.proofs.Common.{ℕ, List, inl, inr}
use Rattle.common_spec.specs.ReadingLaws.{IsOne}
use Rattle.file_spec.specs.Files.{Files}
use Rattle.tree_spec.specs.Standing.{Sizes, Paged}
use Rattle.database_spec.specs.ItemsLaws.{true-false}
use Rattle.dump_spec.specs.FileAnswersLaws.{files_answer-one}
use Rattle.dump_spec.specs.SchemaDumpsLaws.{schema_answer-one}
use Rattle.dump_spec.specs.TableDumpsLaws.{table_answer-one}
use Rattle.dump_spec.specs.Dumps.{is_schema_name, IsPagesAnswer, IsDump}

module _ (name : List ℕ) where
  pub pages_answer-one : (sizes : Sizes) (base : Paged) → IsOne (IsPagesAnswer name sizes base)
  pages_answer-one sizes base a b (inl p) (inl q) = schema_answer-one sizes base a b p.1 q.1
  pages_answer-one sizes base a b (inl p) (inr q) = absurd (true-false (is_schema_name name) p.0 q.0)
  pages_answer-one sizes base a b (inr p) (inl q) = absurd (true-false (is_schema_name name) q.0 p.0)
  pages_answer-one sizes base a b (inr p) (inr q) = table_answer-one sizes base name a b p.1 q.1

  pub dump-one : (files : Files) → IsOne (IsDump name files)
  dump-one = files_answer-one (IsPagesAnswer name) pages_answer-one
