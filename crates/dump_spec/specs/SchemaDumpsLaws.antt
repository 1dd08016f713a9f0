-- The schema has one answer: crates above cite this fact in their proofs.
use Rattle.std.proofs.Common.{◌≡◌, ℕ, ℤ, List, Result, Ok, Err, sym, ap, ◌∙◌, inl, inr}
use Rattle.std.proofs.Math.Path.{subst⁻¹}
use Rattle.common_spec.specs.Reading.{OrFault}
use Rattle.common_spec.specs.ReadingLaws.{IsOne}
use Rattle.refusal.specs.declared.Refusal.{Refusal}
use Rattle.refusal.specs.declared.Refusal.TheVariants.{SchemaRow, TreeDamaged}
use Rattle.refusal.specs.declared.Rule.{Rule}
use Rattle.tree_spec.specs.declared.TreeKind.TheVariants.{Table}
use Rattle.tree_spec.specs.Standing.{Sizes, Paged}
use Rattle.tree_spec.specs.Trees.{Member}
use Rattle.database_spec.specs.CatalogsLaws.{list-one, list-not_stop, stop-one}
use Rattle.dump_spec.specs.SchemaRows.{AreLines, IsFirstBad}
use Rattle.dump_spec.specs.SchemaRowsLaws.{schema_rows-one}
use Rattle.dump_spec.specs.SchemaDumps.{IsSchemaAnswer}

-- answers of members, without a word on refusals
abbrev Read : Type 0
Read = Result (List ℕ) ℤ

abbrev told : Read → Result (List ℕ) Refusal
told (Ok text) = Ok text
told (Err rowid) = Err (SchemaRow rowid)

module _ (sizes : Sizes) (base : Paged) where
  -- members have one answer
  members-one : (members others : List Member) → (x y : Read) → members ≡ others → OrFault (AreLines members) (IsFirstBad members) x → OrFault (AreLines others) (IsFirstBad others) y → told x ≡ told y
  members-one members others x y same one two =
      ap told (schema_rows-one members x y one (subst⁻¹ (λ (ms : List Member). OrFault (AreLines ms) (IsFirstBad ms) y) same two))

  pub schema_answer-one : IsOne (IsSchemaAnswer sizes base)
  schema_answer-one a b (inl p) (inl q) =
      p.2 ∙ ap (λ (stop : ℕ × Rule). Err (TreeDamaged stop.0 stop.1)) (stop-one sizes base Table 1 (p.0, p.1) (q.0, q.1) p.3 q.3) ∙ sym q.2
  schema_answer-one a b (inl p) (inr (inl q)) = absurd (list-not_stop sizes base Table 1 q.0 (p.0, p.1) q.2 p.3)
  schema_answer-one a b (inl p) (inr (inr q)) = absurd (list-not_stop sizes base Table 1 q.0 (p.0, p.1) q.2 p.3)
  schema_answer-one a b (inr (inl p)) (inl q) = absurd (list-not_stop sizes base Table 1 p.0 (q.0, q.1) p.2 q.3)
  schema_answer-one a b (inr (inr p)) (inl q) = absurd (list-not_stop sizes base Table 1 p.0 (q.0, q.1) p.2 q.3)
  schema_answer-one a b (inr (inl p)) (inr (inl q)) = p.3 ∙ members-one p.0 q.0 (Err p.1) (Err q.1) (list-one sizes base Table 1 p.0 q.0 p.2 q.2) p.4 q.4 ∙ sym q.3
  schema_answer-one a b (inr (inl p)) (inr (inr q)) = p.3 ∙ members-one p.0 q.0 (Err p.1) (Ok q.1) (list-one sizes base Table 1 p.0 q.0 p.2 q.2) p.4 q.4 ∙ sym q.3
  schema_answer-one a b (inr (inr p)) (inr (inl q)) = p.3 ∙ members-one p.0 q.0 (Ok p.1) (Err q.1) (list-one sizes base Table 1 p.0 q.0 p.2 q.2) p.4 q.4 ∙ sym q.3
  schema_answer-one a b (inr (inr p)) (inr (inr q)) = p.3 ∙ members-one p.0 q.0 (Ok p.1) (Ok q.1) (list-one sizes base Table 1 p.0 q.0 p.2 q.2) p.4 q.4 ∙ sym q.3
