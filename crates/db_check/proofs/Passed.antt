-- A tree that was gone through, of which nothing was found before.
use Rattle.std.proofs.Common.{◌≡◌, ℕ, Bool, List, [], ◌∷◌, ◌++◌, if◌then◌else◌, Option, Some, None, Ok, refl, sym, ap, ap₂, ◌∙◌, subst, arith}
use Rattle.std.proofs.Math.Path.{subst⁻¹}
use Rattle.std.specs.List.{AllZip, cons_option}
use Rattle.std.proofs.lemmas.Bool.{eq-eqb}
use Rattle.std.proofs.lemmas.List.{append-nil}
use Rattle.std.proofs.lemmas.List.Elements.{filter_map-append}
use Rattle.tree_spec.specs.Trees.{Member}
use Rattle.tree_spec.specs.Standing.{Sizes, Paged}
use Rattle.database_spec.specs.Walks.{Finding, Finds, Ends, Holds, Breaks, Disorders, Bares, members_found}
use Rattle.database_spec.specs.FileFindings.{Content, Rows, Entries, Anything, Subject, Found}
use Rattle.database_spec.specs.FileFaults.{IsEntry}
use Rattle.database_laws.specs.RightFindings.{AreRight}
use Rattle.database_laws.specs.RightFilesLaws.{in_tree}
use Rattle.db_check.specs.declared.walk.CheckedTree.{CheckedTree}
use Rattle.db_check.specs.declared.walk.Comparison.{Comparison}
use Rattle.db_check.specs.declared.walk.Progress.{Progress}
use Rattle.db_check.specs.Compares.{IsComparison}
use Rattle.db_check.specs.Passes.{IsMarked}
use Rattle.db_check.specs.Steps.{AreCompared, is_elsewhere, member_at, members_at, Knows, Reached}
use Rattle.db_check.specs.TreeSteps.{IsFresh, EndsTree}

-- the members of a tree's findings
pub tree-members : (subject : Subject) (findings : List Finding) → members_at subject.root (in_tree subject findings) ≡ members_found findings
tree-members subject [] = refl
tree-members subject (Finds page ∷ findings) = tree-members subject findings
tree-members subject (Ends page depth ∷ findings) = tree-members subject findings
tree-members subject (Holds page member ∷ findings) =
    ap₂ (λ (t : Bool) (ms : List Member). cons_option (if t then Some member else None) ms) (eq-eqb subject.root subject.root refl) (tree-members subject findings)
tree-members subject (Breaks page rule ∷ findings) = tree-members subject findings
tree-members subject (Disorders page ∷ findings) = tree-members subject findings
tree-members subject (Bares page ∷ findings) = tree-members subject findings

module _ (tree : CheckedTree) (subject : Subject) (before : List Found) (fresh : IsFresh subject.root before) where
  none-compared : (content : Content) (compared : Comparison) → IsComparison tree [] compared → AreCompared tree content (members_at subject.root before) compared
  none-compared Rows compared none = tt
  none-compared (Entries index rows) compared none = (
    [],
    (subst⁻¹ (λ (ms : List Member). AllZip (IsEntry index) ms []) fresh.members tt, λ i j d less long. absurd (omega (arith, long))),
    none,
  )
  none-compared Anything compared none = tt

  -- what is known where a tree begins
  pub knows-start : (flags : List Bool) (walk : Progress) → IsMarked flags before → walk.leaf ≡ None → IsComparison tree [] walk.compared → Knows tree subject flags walk before
  knows-start flags walk marked none nothing = record {
    marked = marked;
    depth = λ depth. fresh.leaves depth ∙ sym (ap (λ (o : Option ℕ). is_elsewhere o depth) none);
    compared = none-compared subject.content walk.compared nothing;
  }

  -- and where it ends
  pub tree-ended : (sizes : Sizes) (base : Paged) (F : Type 0) (findings : List Finding) (flags : List Bool) (walk : Progress) → Reached tree subject before findings flags walk (λ (rest : List Finding). rest ≡ [])
      → EndsTree sizes base {F = F} tree subject before findings flags (Ok walk.compared)
  tree-ended sizes base F findings flags walk is =
      let whole : is.gone ≡ findings = sym (is.whole ∙ ap (λ (rest : List Finding). is.gone ++ rest) is.is_rest ∙ append-nil is.gone) in
      let knows = subst (λ (list : List Finding). Knows tree subject flags walk (before ++ in_tree subject list)) whole is.knows in
      let members : members_at subject.root (before ++ in_tree subject findings) ≡ members_found findings =
      filter_map-append (member_at subject.root) before (in_tree subject findings) ∙ ap₂ (λ (xs ys : List Member). xs ++ ys) fresh.members (tree-members subject findings) in (
        subst (λ (list : List Finding). AreRight before (in_tree subject list)) whole is.right,
        knows.marked,
        subst (λ (ms : List Member). AreCompared tree subject.content ms walk.compared) members knows.compared,
      )
