-- What is found in the tree of an index, by what was read of its table.
use Rattle.std.proofs.Common.{◌≡◌, ℕ, ℤ, Bool, List, Option, Some, None, Result, Ok, Err, refl, sym, ap, ◌∙◌, subst}
use Rattle.std.proofs.Math.Path.{subst⁻¹}
use Rattle.std.specs.Global.{Global}
use Rattle.std.specs.Prelude.{Vec}
use Rattle.rbu_value.specs.declared.value.Value.{Value}
use Rattle.schema_spec.specs.declared.schema.Table.{Table}
use Rattle.schema_spec.specs.declared.schema.Index.{Index}
use Rattle.tree_spec.specs.Standing.{Sizes, Paged}
use Rattle.tree_spec.specs.Trees.{Member}
use Rattle.database_spec.specs.declared.catalog.Entry.{Entry}
use Rattle.database_spec.specs.FileFindings.{Content, Rows, Entries, Anything, Subject, Found, IsIndexContent, IsIndexSubject}
use Rattle.database_spec.specs.Keys.{IsProjection}
use Rattle.database_spec.specs.Rows.{TableRow, IsPlain}
use Rattle.database_spec.specs.RowsLaws.{plain-one}
use Rattle.database_spec.specs.Walks.{Finding, members_found}
use Rattle.prepared_laws.specs.TablesMadeLaws.{Apart}
use Rattle.db_check.specs.declared.fault.CheckFault.{CheckFault}
use Rattle.db_check.specs.declared.walk.CheckedTree.{CheckedTree}
use Rattle.db_check.specs.declared.walk.Members.{Members}
use Rattle.db_check.specs.declared.walk.Members.TheVariants as holds
use Rattle.db_check.specs.Compares.{Tells}
use Rattle.db_check.specs.Indexes.{EndsIndex, HasMembers, TellsIndex}
use Rattle.db_check.specs.Projections.{Projects}
use Rattle.db_check.specs.Steps.{IsOf}

pub of-members : (members : Members) (content : Content) → HasMembers members content → (tree : CheckedTree) → tree.members ≡ members → IsOf tree content
of-members holds.Rows content has tree e = subst⁻¹ (IsOf tree) has e
of-members holds.Entries content has tree e = absurd has
of-members holds.Any content has tree e = subst⁻¹ (IsOf tree) has e

module _ (sizes : Sizes) (base : Paged) (root : ℕ) (table : Table) (index : Index) (entry : Entry) (root_is : entry.root ≡ root) (meaning : entry.meaning ≡ Ok table) where
  -- an index whose table has a projection is plain
  pub index-plain : (F : Type 0) (expected : Vec (List Value) Global) → Projects {F = F} sizes base root table index (Ok (Some expected)) → (number : ℕ) (subject : Subject) → IsIndexSubject sizes base entry (number, Ok index) subject
      → (rows : List TableRow) × (subject.content ≡ Entries index rows) × (Apart rows → IsProjection index rows expected.items)
  index-plain F expected projects number subject is = by subject.content refl is.content
    where
      made : (rows : List TableRow) × IsPlain sizes base entry table rows × (Apart rows → IsProjection index rows expected.items)
      made = projects entry root_is meaning

      by : (content : Content) → subject.content ≡ content → IsIndexContent sizes base entry (Ok index) content
          → (rows : List TableRow) × (subject.content ≡ Entries index rows) × (Apart rows → IsProjection index rows expected.items)
      by Rows e of = absurd of
      by (Entries other rows) e of =
          let named : index ≡ other = (let both = of.0 in cc) in
          let same = (plain-one sizes base entry table of.1.0 made.0 rows made.1 of.1.1).1 in
          (rows, e ∙ ap (λ (i : Index). Entries i rows) (sym named), subst (λ (r : List TableRow). Apart r → IsProjection index r expected.items) same made.2)
      by Anything e of = absurd (of index table made.0 refl made.1)

  -- an index whose table is not plain is not
  pub index-other : (F : Type 0) → Projects {F = F} sizes base root table index (Ok None) → (number : ℕ) (subject : Subject) → IsIndexSubject sizes base entry (number, Ok index) subject → subject.content ≡ Anything
  index-other F none number subject is = by subject.content refl is.content
    where
      by : (content : Content) → subject.content ≡ content → IsIndexContent sizes base entry (Ok index) content → subject.content ≡ Anything
      by Rows e of = absurd of
      by (Entries other rows) e of = absurd (none entry root_is meaning of.1.0 rows of.1.1)
      by Anything e of = e

-- what is told of an index, in the words of its tree
pub ends-then : {F : Type 0} (P Q : List Member → Option ℤ → Type 0) (subject : Subject) (before : List Found) (findings : List Finding) (flags : List Bool) (result : Result (Option ℤ) (CheckFault F))
    → ((told : Option ℤ) → P (members_found findings) told → Q (members_found findings) told) → EndsIndex P subject before findings flags result → EndsIndex Q subject before findings flags result
ends-then P Q subject before findings flags (Ok told) on ends = (ends.0, ends.1, on told ends.2)
ends-then P Q subject before findings flags (Err fault) on ends = ends

pub tells-plain : (subject : Subject) (index : Index) (rows : List TableRow) (expected : List (List Value)) (members : List Member) (told : Option ℤ) → subject.content ≡ Entries index rows → (Apart rows → IsProjection index rows expected)
    → (IsProjection index rows expected → Tells index rows members told) → TellsIndex subject.content members told
tells-plain subject index rows expected members told e projects tells = subst⁻¹ (λ (content : Content). TellsIndex content members told) e (λ apart. tells (projects apart))

pub tells-other : (subject : Subject) (members : List Member) (told : Option ℤ) → subject.content ≡ Anything → told ≡ None → TellsIndex subject.content members told
tells-other subject members told e none = subst⁻¹ (λ (content : Content). TellsIndex content members told) e none
