-- Steps one behind the other, and steps over the front of what is found.
use Rattle.std.proofs.Common.{◌≡◌, ℕ, ◌<◌, Bool, true, false, List, [], ◌∷◌, ◌++◌, length, map, Result, Ok, Err, slice_index_or, refl, sym, ap, ◌∙◌, subst, inl, append_assoc}
use Rattle.std.proofs.Math.Path.{subst⁻¹}
use Rattle.std.specs.Prelude.{slice_set}
use Rattle.std.specs.List.{list_any}
use Rattle.std.proofs.lemmas.List.{append-nil, map-append}
use Rattle.std.proofs.lemmas.List.Folds.{list_any-append}
use Rattle.std.proofs.lemmas.List.Elements.{filter_map-append}
use Rattle.tree_spec.specs.Trees.{Member}
use Rattle.database_spec.specs.Walks.{Finding, Finds}
use Rattle.database_spec.specs.FileFindings.{Subject, Found, InTree}
use Rattle.database_spec.specs.FileFaults.{ends_elsewhere, is_found, IsWrongInTree, FirstWrong}
use Rattle.database_laws.specs.RightFindings.{IsRightInTree, AreRight}
use Rattle.database_laws.specs.RightFindingsLaws.{right-join, wrong-front, wrong-back, found-append}
use Rattle.database_laws.specs.RightFilesLaws.{in_tree}
use Rattle.db_check.specs.declared.fault.CheckFault.{CheckFault}
use Rattle.db_check.specs.declared.fault.CheckFault.TheVariants.{PageTwice}
use Rattle.db_check.specs.declared.walk.CheckedTree.{CheckedTree}
use Rattle.db_check.specs.declared.walk.Progress.{Progress}
use Rattle.db_check.specs.Answers.{IsRefusal}
use Rattle.db_check.specs.Passes.{IsMarked}
use Rattle.db_check.specs.Steps.{AreCompared, IsOf, member_at, members_at, Knows, Leaves, Refuses, Steps, Ended}
use Rattle.db_check.specs.PassesLaws.{refusal-then}
use Rattle.db_check.proofs.Parts.{or-none, marked-page}

tree-append : (subject : Subject) (xs ys : List Finding) → in_tree subject (xs ++ ys) ≡ in_tree subject xs ++ in_tree subject ys
tree-append subject xs ys = map-append (InTree subject) xs ys

-- Composition.

pub leaves-then : (tree : CheckedTree) (From Mid To : List Finding → Type 0) (old mid now : List Bool) (was during walk : Progress) → Leaves tree From Mid old mid was during → Leaves tree Mid To mid now during walk
    → Leaves tree From To old now was walk
leaves-then tree From Mid To old mid now was during walk first second subject before of knows findings from =
    let a = first subject before of knows findings from in
    let b = second subject (before ++ in_tree subject a.gone) of a.knows a.rest a.is_rest in
    let list = tree-append subject a.gone b.gone in
    record {
      gone = a.gone ++ b.gone;
      rest = b.rest;
      whole = a.whole ∙ ap (λ (r : List Finding). a.gone ++ r) b.whole ∙ sym (append_assoc a.gone b.gone b.rest);
      right = subst⁻¹ (AreRight before) list (right-join before (in_tree subject a.gone) (in_tree subject b.gone) a.right b.right);
      knows = subst⁻¹ (λ (found : List Found). Knows tree subject now walk (before ++ found)) list (subst (Knows tree subject now walk) (append_assoc before (in_tree subject a.gone) (in_tree subject b.gone)) b.knows);
      is_rest = b.is_rest;
    }

pub leaves-refuse : {F : Type 0} (tree : CheckedTree) (From Mid : List Finding → Type 0) (old mid : List Bool) (was during : Progress) (fault : CheckFault F) → Leaves tree From Mid old mid was during → Refuses tree Mid mid during fault
    → Refuses tree From old was fault
leaves-refuse tree From Mid old mid was during fault first second subject before of knows findings from =
    let a = first subject before of knows findings from in
    let wrong = second subject (before ++ in_tree subject a.gone) of a.knows a.rest a.is_rest in
    refusal-then (FirstWrong (before ++ in_tree subject a.gone) (in_tree subject a.rest)) (FirstWrong before (in_tree subject findings))
    (λ other w. subst⁻¹ (λ (list : List Found). FirstWrong before list other) (ap (in_tree subject) a.whole ∙ tree-append subject a.gone a.rest)
    (wrong-back before (in_tree subject a.gone) (in_tree subject a.rest) other a.right w)) fault wrong

pub steps-then : {F T : Type 0} (tree : CheckedTree) (From Mid : List Finding → Type 0) (To : T → List Finding → Type 0) (old mid now : List Bool) (was during walk : Progress) (result : Result T (CheckFault F))
    → Leaves tree From Mid old mid was during → Steps tree Mid To mid now during walk result → Steps tree From To old now was walk result
steps-then tree From Mid To old mid now was during walk (Ok done) first second = leaves-then tree From Mid (To done) old mid now was during walk first second
steps-then tree From Mid To old mid now was during walk (Err fault) first second = leaves-refuse tree From Mid old mid was during fault first second

-- what is found in front of the rest
abbrev pub Splits : (From Own Later : List Finding → Type 0) → Type 0
Splits From Own Later = (findings : List Finding) → From findings → (own : List Finding) × (later : List Finding) × (findings ≡ own ++ later) × Own own × Later later

pub leaves-front : (tree : CheckedTree) (From Own Later : List Finding → Type 0) (old now : List Bool) (was walk : Progress) → Splits From Own Later → Leaves tree Own (λ findings. findings ≡ []) old now was walk
    → Leaves tree From Later old now was walk
leaves-front tree From Own Later old now was walk split step subject before of knows findings from =
    let parts = split findings from in
    let a = step subject before of knows parts.0 parts.3 in
    record {
      gone = a.gone;
      rest = parts.1;
      whole = parts.2 ∙ ap (λ (own : List Finding). own ++ parts.1) (a.whole ∙ ap (λ (r : List Finding). a.gone ++ r) a.is_rest ∙ append-nil a.gone);
      right = a.right;
      knows = a.knows;
      is_rest = parts.4;
    }

pub refuses-front : {F : Type 0} (tree : CheckedTree) (From Own Later : List Finding → Type 0) (old : List Bool) (was : Progress) (fault : CheckFault F) → Splits From Own Later → Refuses tree Own old was fault
    → Refuses tree From old was fault
refuses-front tree From Own Later old was fault split step subject before of knows findings from =
    let parts = split findings from in
    refusal-then (FirstWrong before (in_tree subject parts.0)) (FirstWrong before (in_tree subject findings))
    (λ other w. subst⁻¹ (λ (list : List Found). FirstWrong before list other) (ap (in_tree subject) parts.2 ∙ tree-append subject parts.0 parts.1)
    (wrong-front before (in_tree subject parts.0) (in_tree subject parts.1) other w)) fault (step subject before of knows parts.0 parts.3)

pub steps-front : {F : Type 0} (tree : CheckedTree) (From Own Later : List Finding → Type 0) (old now : List Bool) (was walk : Progress) (result : Result Unit (CheckFault F)) → Splits From Own Later
    → Steps tree Own Ended old now was walk result → Steps tree From (λ done. Later) old now was walk result
steps-front tree From Own Later old now was walk (Ok done) split step = leaves-front tree From Own Later old now was walk split step
steps-front tree From Own Later old now was walk (Err fault) split step = refuses-front tree From Own Later old was fault split step

pub steps-from : {F T : Type 0} (tree : CheckedTree) (From Other : List Finding → Type 0) (To : T → List Finding → Type 0) (old now : List Bool) (was walk : Progress) (result : Result T (CheckFault F))
    → ((findings : List Finding) → From findings → Other findings) → Steps tree Other To old now was walk result → Steps tree From To old now was walk result
steps-from tree From Other To old now was walk (Ok done) on step = λ subject before of knows findings from. step subject before of knows findings (on findings from)
steps-from tree From Other To old now was walk (Err fault) on step = λ subject before of knows findings from. step subject before of knows findings (on findings from)

pub leaves-to : (tree : CheckedTree) (From To Other : List Finding → Type 0) (old now : List Bool) (was walk : Progress) → ((findings : List Finding) → To findings → Other findings)
    → Leaves tree From To old now was walk → Leaves tree From Other old now was walk
leaves-to tree From To Other old now was walk on step subject before of knows findings from =
    let a = step subject before of knows findings from in
    record { gone = a.gone; rest = a.rest; whole = a.whole; right = a.right; knows = a.knows; is_rest = on a.rest a.is_rest }

pub steps-to : {F : Type 0} (tree : CheckedTree) (From To Other : List Finding → Type 0) (old now : List Bool) (was walk : Progress) (result : Result Unit (CheckFault F))
    → ((findings : List Finding) → To findings → Other findings) → Steps tree From (λ done. To) old now was walk result → Steps tree From (λ done. Other) old now was walk result
steps-to tree From To Other old now was walk (Ok done) on step = leaves-to tree From To Other old now was walk on step
steps-to tree From To Other old now was walk (Err fault) on step = step

-- nothing is gone through
pub leaves-none : (tree : CheckedTree) (From To : List Finding → Type 0) (flags : List Bool) (walk : Progress) → ((findings : List Finding) → From findings → To findings) → Leaves tree From To flags flags walk walk
leaves-none tree From To flags walk on subject before of knows findings from = record {
  gone = [];
  rest = findings;
  whole = refl;
  right = tt;
  knows = subst⁻¹ (Knows tree subject flags walk) (append-nil before) knows;
  is_rest = on findings from;
}

-- One thing that is wrong, or right.

abbrev pub Begins : Finding → (List Finding → Type 0) → Type 0
Begins one From = (findings : List Finding) → From findings → (rest : List Finding) × (findings ≡ one ∷ rest)

pub refuses-one : {F : Type 0} (tree : CheckedTree) (From : List Finding → Type 0) (old : List Bool) (was : Progress) (one : Finding) (fault : CheckFault F) → Begins one From
    → ((subject : Subject) (before : List Found) → IsOf tree subject.content → Knows tree subject old was before → IsRefusal (IsWrongInTree before subject one) fault) → Refuses tree From old was fault
refuses-one tree From old was one fault begins wrong subject before of knows findings from =
    let parts = begins findings from in
    refusal-then (IsWrongInTree before subject one) (FirstWrong before (in_tree subject findings))
    (λ other w. subst⁻¹ (λ (list : List Finding). FirstWrong before (in_tree subject list) other) parts.1 (inl w)) fault (wrong subject before of knows)

-- a finding that is wrong whatever was found before
pub refuses-always : {F : Type 0} (tree : CheckedTree) (From : List Finding → Type 0) (old : List Bool) (was : Progress) (one : Finding) (fault : CheckFault F) → Begins one From
    → ((subject : Subject) (before : List Found) → IsRefusal (IsWrongInTree before subject one) fault) → Refuses tree From old was fault
refuses-always tree From old was one fault begins wrong = refuses-one tree From old was one fault begins (λ subject before of knows. wrong subject before)

pub leaves-one : (tree : CheckedTree) (old now : List Bool) (was walk : Progress) (one : Finding)
    → ((subject : Subject) (before : List Found) → IsOf tree subject.content → Knows tree subject old was before → IsRightInTree before subject one × Knows tree subject now walk (before ++ InTree subject one ∷ []))
    → Leaves tree (λ findings. findings ≡ one ∷ []) (λ findings. findings ≡ []) old now was walk
leaves-one tree old now was walk one right subject before of knows findings from =
    let is = right subject before of knows in
    record { gone = one ∷ []; rest = []; whole = from; right = (is.0, tt); knows = is.1; is_rest = refl }

-- What is known.

-- more is found, of which nothing is a leaf or a member of the tree
pub knows-quiet : (tree : CheckedTree) (subject : Subject) (old now : List Bool) (walk : Progress) (before found : List Found) → ((depth : ℕ) → list_any (ends_elsewhere subject.root depth) found ≡ false) → members_at subject.root found ≡ []
    → IsMarked now (before ++ found) → Knows tree subject old walk before → Knows tree subject now walk (before ++ found)
knows-quiet tree subject old now walk before found quiet none marked knows =
    let root = subject.root in
    record {
      marked = marked;
      depth = λ depth.
          list_any-append (ends_elsewhere root depth) before found ∙ or-none (list_any (ends_elsewhere root depth) before) (list_any (ends_elsewhere root depth) found) (quiet depth) ∙ knows.depth depth;
      compared = subst⁻¹ (λ (ms : List Member). AreCompared tree subject.content ms walk.compared)
          (filter_map-append (member_at root) before found ∙ ap (λ (ms : List Member). members_at root before ++ ms) none ∙ append-nil (members_at root before)) knows.compared;
    }

-- a page of the tree
pub leaves-page : (tree : CheckedTree) (old now : List Bool) (walk : Progress) (page : ℕ) → page < length old → slice_index_or old page false ≡ false → now ≡ slice_set old page true
    → Leaves tree (λ findings. findings ≡ Finds page ∷ []) (λ findings. findings ≡ []) old now walk walk
leaves-page tree old now walk page low fresh set = leaves-one tree old now walk walk (Finds page)
    (λ subject before of knows. (
      sym (knows.marked page low) ∙ fresh,
      knows-quiet tree subject old now walk before (InTree subject (Finds page) ∷ []) (λ depth. refl) refl (marked-page old now before subject page low set knows.marked) knows,
    ))

pub refuses-page : (F : Type 0) (tree : CheckedTree) (From : List Finding → Type 0) (old : List Bool) (walk : Progress) (page : ℕ) → page < length old → slice_index_or old page false ≡ true → Begins (Finds page) From
    → Refuses {F = F} tree From old walk (PageTwice page)
refuses-page F tree From old walk page low set begins = refuses-one {F = F} tree From old walk (Finds page) (PageTwice page) begins
    (λ subject before of knows. (sym (knows.marked page low) ∙ set, refl))

-- pages of a chain
pub pages-quiet : (subject : Subject) (root depth : ℕ) (numbers : List ℕ) → list_any (ends_elsewhere root depth) (in_tree subject (map Finds numbers)) ≡ false
pages-quiet subject root depth [] = refl
pages-quiet subject root depth (n ∷ numbers) = pages-quiet subject root depth numbers

pub pages-no_members : (subject : Subject) (root : ℕ) (numbers : List ℕ) → members_at root (in_tree subject (map Finds numbers)) ≡ []
pages-no_members subject root [] = refl
pages-no_members subject root (n ∷ numbers) = pages-no_members subject root numbers

-- other findings that leave what is known as it is, but for what was marked
pub marked-quiet : (flags : List Bool) (before found : List Found) → ((n : ℕ) → is_found n found ≡ false) → IsMarked flags before → IsMarked flags (before ++ found)
marked-quiet flags before found none marked n low = marked n low ∙ sym (found-append n before found ∙ or-none (is_found n before) (is_found n found) (none n))
