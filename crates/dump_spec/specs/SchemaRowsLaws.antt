-- The members of a schema table have one text, or one first that is no row of it: crates above cite these facts in their proofs.
use Rattle.std.proofs.Common.{◌≡◌, ℕ, ℤ, List, [], ◌∷◌, ◌++◌, refl, sym, ap₂, ◌∙◌, inl, inr}
use Rattle.common_spec.specs.Reading.{OrFault}
use Rattle.common_spec.specs.ReadingLaws.{IsOne, OrFault-one}
use Rattle.rbu_value.specs.declared.value.Value.{Value}
use Rattle.record_codec.specs.RecordLaws.{record-same}
use Rattle.tree_spec.specs.Trees.{Member}
use Rattle.dump_spec.specs.Printing.{row_line}
use Rattle.dump_spec.specs.SchemaRows.{AreLines, IsFirstBad}

-- the text of members is one
AreLines-one : (members : List Member) → IsOne (AreLines members)
AreLines-one [] a b p q = p ∙ sym q
AreLines-one (member ∷ members) a b p q =
    let values : p.0 ≡ q.0 = (record-same p.0 q.0 member.payload member.payload [] [] p.2.is_record q.2.is_record refl).0 in
    let rest : p.1 ≡ q.1 = AreLines-one members p.1 q.1 p.3 q.3 in
    p.4 ∙ ap₂ (λ (v : List Value) (r : List ℕ). row_line member.rowid v ++ r) values rest ∙ sym q.4

-- so is the first that is no row
IsFirstBad-one : (members : List Member) → IsOne (IsFirstBad members)
IsFirstBad-one [] a b p q = absurd p
IsFirstBad-one (member ∷ members) a b (inl p) (inl q) = p.1 ∙ sym q.1
IsFirstBad-one (member ∷ members) a b (inl p) (inr q) = absurd (p.0 q.0.0 q.0.1)
IsFirstBad-one (member ∷ members) a b (inr p) (inl q) = absurd (q.0 p.0.0 p.0.1)
IsFirstBad-one (member ∷ members) a b (inr p) (inr q) = IsFirstBad-one members a b p.1 q.1

-- there is no text where one is no row
lines-none_bad : (members : List Member) (text : List ℕ) (rowid : ℤ) → AreLines members text → ¬ IsFirstBad members rowid
lines-none_bad [] text rowid p q = q
lines-none_bad (member ∷ members) text rowid p (inl q) = q.0 p.0 p.2
lines-none_bad (member ∷ members) text rowid p (inr q) = lines-none_bad members p.1 rowid p.3 q.1

pub schema_rows-one : (members : List Member) → IsOne (OrFault (AreLines members) (IsFirstBad members))
schema_rows-one members = OrFault-one (AreLines members) (IsFirstBad members) (AreLines-one members) (IsFirstBad-one members) (lines-none_bad members)
