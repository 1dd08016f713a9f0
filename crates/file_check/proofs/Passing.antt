-- Trees that are gone through one behind the other.
use Rattle.std.proofs.Common.{◌≡◌, ◌≢◌, ℕ, ◌-◌, ◌<◌, ◌≤◌, ◌==◌, ◌&&◌, ◌||◌, not, Bool, false, List, [], ◌∷◌, ◌++◌, map, length, take, drop, get_or, if◌then◌else◌, Option, Some, None, Ok, Err, refl, sym, ap, ap₂, ◌∙◌, subst, arith, append_assoc}
use Rattle.std.proofs.Math.Path.{subst⁻¹}
use Rattle.std.specs.List.{flat_map, list_any, cons_option, AllZip, AllByRecursion}
use Rattle.std.specs.Option.{option_or}
use Rattle.std.proofs.lemmas.Bool.{ne_eqb}
use Rattle.std.proofs.lemmas.Grind.{flat_map-append}
use Rattle.std.proofs.lemmas.List.{append-nil, take_rest}
use Rattle.std.proofs.lemmas.List.Elements.{filter_map-append}
use Rattle.std.proofs.lemmas.List.Folds.{list_any-append}
use Rattle.tree_spec.specs.Trees.{Member}
use Rattle.tree_spec.specs.Standing.{Sizes, Paged}
use Rattle.database_spec.specs.ListsLaws.{PairsByRecursion}
use Rattle.database_spec.specs.Walks.{Finding, Finds, Ends, Holds, Breaks, Disorders, Bares}
use Rattle.database_spec.specs.FileFindings.{Subject, Walked, Found, tree_found}
use Rattle.database_spec.specs.FileFaults.{ends_elsewhere, FirstWrong}
use Rattle.database_laws.specs.RightFindings.{AreRight}
use Rattle.database_laws.specs.RightFindingsLaws.{right-join}
use Rattle.database_laws.specs.RightFilesLaws.{in_tree}
use Rattle.db_check.specs.declared.fault.CheckFault.{CheckFault}
use Rattle.db_check.specs.Answers.{IsRefusal}
use Rattle.db_check.specs.Passes.{IsMarked}
use Rattle.db_check.specs.PassesLaws.{passed-wrong}
use Rattle.db_check.specs.Steps.{member_at, members_at}
use Rattle.db_check.specs.TreeSteps.{IsFresh}
use Rattle.file_check.specs.declared.roots.CatalogTree.{CatalogTree}
use Rattle.file_check.specs.declared.trees.Disagreement.{Disagreement}
use Rattle.file_check.specs.Parts.{EndsWalk, EndsWalks, Judges, IsNext, PassesWalk}
use Rattle.file_check.specs.Trees.{KnownTree, IsSubjectOf, IsTreeWalk, AreTreeWalks, seen}
use Rattle.file_check.proofs.Judging.{judges-none, judges-more}

-- Nothing of a tree is found in others.

leaves-other : (subject : Subject) (root depth : ℕ) (findings : List Finding) → subject.root ≢ root → list_any (ends_elsewhere root depth) (in_tree subject findings) ≡ false
leaves-other subject root depth [] apart = refl
leaves-other subject root depth (Finds page ∷ findings) apart = leaves-other subject root depth findings apart
leaves-other subject root depth (Ends page other ∷ findings) apart =
    ap₂ (λ (t u : Bool). (t && not (other == depth)) || u) (ne_eqb subject.root root apart) (leaves-other subject root depth findings apart)
leaves-other subject root depth (Holds page member ∷ findings) apart = leaves-other subject root depth findings apart
leaves-other subject root depth (Breaks page rule ∷ findings) apart = leaves-other subject root depth findings apart
leaves-other subject root depth (Disorders page ∷ findings) apart = leaves-other subject root depth findings apart
leaves-other subject root depth (Bares page ∷ findings) apart = leaves-other subject root depth findings apart

members-other : (subject : Subject) (root : ℕ) (findings : List Finding) → subject.root ≢ root → members_at root (in_tree subject findings) ≡ []
members-other subject root [] apart = refl
members-other subject root (Finds page ∷ findings) apart = members-other subject root findings apart
members-other subject root (Ends page depth ∷ findings) apart = members-other subject root findings apart
members-other subject root (Holds page member ∷ findings) apart =
    ap₂ (λ (t : Bool) (ms : List Member). cons_option (if t then Some member else None) ms) (ne_eqb subject.root root apart) (members-other subject root findings apart)
members-other subject root (Breaks page rule ∷ findings) apart = members-other subject root findings apart
members-other subject root (Disorders page ∷ findings) apart = members-other subject root findings apart
members-other subject root (Bares page ∷ findings) apart = members-other subject root findings apart

fresh-none : (root : ℕ) → IsFresh root []
fresh-none root = record { leaves = λ depth. refl; members = refl }

fresh-more : (root : ℕ) (found : List Found) (walked : Walked) → walked.subject.root ≢ root → IsFresh root found → IsFresh root (found ++ tree_found walked)
fresh-more root found walked apart fresh = record {
  leaves = λ depth. list_any-append (ends_elsewhere root depth) found (tree_found walked)
      ∙ ap₂ (λ (t u : Bool). t || u) (fresh.leaves depth) (leaves-other walked.subject root depth walked.findings apart);
  members = filter_map-append (member_at root) found (tree_found walked) ∙ ap₂ (λ (xs ys : List Member). xs ++ ys) fresh.members (members-other walked.subject root walked.findings apart);
}

all-fresh-none : (walks : List Walked) → AllByRecursion (λ (w : Walked). IsFresh w.subject.root []) walks
all-fresh-none [] = tt
all-fresh-none (w ∷ walks) = (fresh-none w.subject.root, all-fresh-none walks)

all-fresh-more : (found : List Found) (walked : Walked) (walks : List Walked) → AllByRecursion (λ (w : Walked). walked.subject.root < w.subject.root) walks → AllByRecursion (λ (w : Walked). IsFresh w.subject.root found) walks
    → AllByRecursion (λ (w : Walked). IsFresh w.subject.root (found ++ tree_found walked)) walks
all-fresh-more found walked [] above fresh = tt
all-fresh-more found walked (w ∷ walks) above fresh = (fresh-more w.subject.root found walked (λ e. absurd (omega (arith, above.0, e))) fresh.0, all-fresh-more found walked walks above.1 fresh.1)

-- one more walk
walks-more : (gone : List Walked) (one : Walked) → flat_map tree_found (gone ++ one ∷ []) ≡ flat_map tree_found gone ++ tree_found one
walks-more gone one = flat_map-append tree_found gone (one ∷ []) ∙ ap (λ (found : List Found). flat_map tree_found gone ++ found) (append-nil (tree_found one))

module _ (sizes : Sizes) (base : Paged) where
  -- some trees are gone through, and these are left
  pub record HasPassed (walks : List Walked) (flags : List Bool) (told : Option Disagreement) (left : List KnownTree) : Type 0 where
    pub gone : List Walked
    pub rest : List Walked
    pub whole : walks ≡ gone ++ rest
    pub are_rest : AllZip (IsTreeWalk sizes base) left rest
    pub rise : PairsByRecursion (λ (a b : Walked). a.subject.root < b.subject.root) rest
    pub fresh : AllByRecursion (λ (w : Walked). IsFresh w.subject.root (flat_map tree_found gone)) rest
    pub right : AreRight [] (flat_map tree_found gone)
    pub marked : IsMarked flags (flat_map tree_found gone)
    pub judges : Judges gone told

  pub passed-none : (trees : List KnownTree) (walks : List Walked) (flags : List Bool) → AreTreeWalks sizes base trees walks → IsMarked flags [] → HasPassed walks flags None trees
  passed-none trees walks flags are marked = record {
    gone = [];
    rest = walks;
    whole = refl;
    are_rest = are.walks_are;
    rise = are.rise;
    fresh = all-fresh-none walks;
    right = tt;
    marked = marked;
    judges = judges-none;
  }

  -- the walk over the tree that comes next
  record Next (walks : List Walked) (flags : List Bool) (told : Option Disagreement) (tree : KnownTree) (left : List KnownTree) : Type 0 where
    gone : List Walked
    one : Walked
    rest : List Walked
    whole : walks ≡ gone ++ (one ∷ rest)
    is : IsTreeWalk sizes base tree one
    are_rest : AllZip (IsTreeWalk sizes base) left rest
    above : AllByRecursion (λ (w : Walked). one.subject.root < w.subject.root) rest
    rise : PairsByRecursion (λ (a b : Walked). a.subject.root < b.subject.root) rest
    own : IsFresh one.subject.root (flat_map tree_found gone)
    fresh : AllByRecursion (λ (w : Walked). IsFresh w.subject.root (flat_map tree_found gone)) rest
    right : AreRight [] (flat_map tree_found gone)
    marked : IsMarked flags (flat_map tree_found gone)
    judges : Judges gone told

  next-of : (walks : List Walked) (flags : List Bool) (told : Option Disagreement) (tree : KnownTree) (left : List KnownTree) → HasPassed walks flags told (tree ∷ left) → Next walks flags told tree left
  next-of walks flags told tree left has = by has.rest has.whole has.are_rest has.rise has.fresh
    where
      by : (rest : List Walked) → walks ≡ has.gone ++ rest → AllZip (IsTreeWalk sizes base) (tree ∷ left) rest → PairsByRecursion (λ (a b : Walked). a.subject.root < b.subject.root) rest
          → AllByRecursion (λ (w : Walked). IsFresh w.subject.root (flat_map tree_found has.gone)) rest → Next walks flags told tree left
      by [] whole are rise fresh = absurd are
      by (w ∷ ws) whole are rise fresh = record {
        gone = has.gone;
        one = w;
        rest = ws;
        whole = whole;
        is = are.0;
        are_rest = are.1;
        above = rise.0;
        rise = rise.1;
        own = fresh.0;
        fresh = fresh.1;
        right = has.right;
        marked = has.marked;
        judges = has.judges;
      }

  module _ (F : Type 0) (walks : List Walked) (flags now : List Bool) (told : Option Disagreement) (tree : KnownTree) (left : List KnownTree) (has : HasPassed walks flags told (tree ∷ left)) where
    next : Next walks flags told tree left
    next = next-of walks flags told tree left has

    is-next : IsNext sizes base next.one (flat_map tree_found next.gone) flags
    is-next = record { first = next.is.first; within = next.is.within; is_walk = next.is.is_walk; fresh = next.own; marked = next.marked }

    pub passed-more : (own : Option Disagreement) → PassesWalk sizes base {F = F} (IsSubjectOf sizes base tree) flags now (Ok own) → HasPassed walks now (option_or told own) left
    passed-more own passes =
        let ends : EndsWalk {F = F} next.one (flat_map tree_found next.gone) now (Ok own) = passes next.one (flat_map tree_found next.gone) next.is.subject is-next in
        let more = walks-more next.gone next.one in
        record {
          gone = next.gone ++ next.one ∷ [];
          rest = next.rest;
          whole = next.whole ∙ sym (append_assoc next.gone (next.one ∷ []) next.rest);
          are_rest = next.are_rest;
          rise = next.rise;
          fresh = subst⁻¹ (λ (found : List Found). AllByRecursion (λ (w : Walked). IsFresh w.subject.root found) next.rest) more (all-fresh-more (flat_map tree_found next.gone) next.one next.rest next.above next.fresh);
          right = subst⁻¹ (AreRight []) more (right-join [] (flat_map tree_found next.gone) (tree_found next.one) next.right ends.0);
          marked = subst⁻¹ (IsMarked now) more ends.1;
          judges = judges-more next.gone next.one told own next.judges ends.2;
        }

    pub passed-fault : (fault : CheckFault F) → PassesWalk sizes base (IsSubjectOf sizes base tree) flags now (Err fault) → IsRefusal (FirstWrong [] (flat_map tree_found walks)) fault
    passed-fault fault passes =
        let wrong : EndsWalk next.one (flat_map tree_found next.gone) now (Err fault) = passes next.one (flat_map tree_found next.gone) next.is.subject is-next in
        passed-wrong [] (flat_map tree_found next.gone) (tree_found next.one) (flat_map tree_found next.rest) (flat_map tree_found walks) fault
        (ap (flat_map tree_found) next.whole ∙ flat_map-append tree_found next.gone (next.one ∷ next.rest)) next.right wrong

  pub passed-all : (F : Type 0) (walks : List Walked) (flags : List Bool) (told : Option Disagreement) → HasPassed walks flags told [] → EndsWalks {F = F} walks flags (Ok told)
  passed-all F walks flags told has =
      let all : has.gone ≡ walks = sym (has.whole ∙ ap (λ (rest : List Walked). has.gone ++ rest) (none-left has.rest has.are_rest) ∙ append-nil has.gone) in
      (subst (λ (ws : List Walked). AreRight [] (flat_map tree_found ws)) all has.right, subst (λ (ws : List Walked). IsMarked flags (flat_map tree_found ws)) all has.marked, subst (λ (ws : List Walked). Judges ws told) all has.judges)
    where
      none-left : (rest : List Walked) → AllZip (IsTreeWalk sizes base) [] rest → rest ≡ []
      none-left [] zip = refl
      none-left (w ∷ rest) zip = absurd zip

-- Trees that are lent.

-- a list with a first item
first-split : {A : Type 0} (left : List A) (x : A) → 1 ≤ length left → x ≡ get_or left 0 x → left ≡ x ∷ take (length left - 1) (drop 1 left)
first-split [] x h e = absurd (omega (arith, h))
first-split (y ∷ left) x h e = ap (λ z. z ∷ left) (sym e) ∙ ap (λ z. x ∷ z) (sym (take_rest (y ∷ left) 1))

none-behind : {A : Type 0} (left : List A) → length left < 1 → left ≡ []
none-behind [] h = refl
none-behind (x ∷ left) h = absurd (omega (arith, h))

module _ (sizes : Sizes) (base : Paged) (walks : List Walked) (flags : List Bool) (told : Option Disagreement) (left : List CatalogTree) (has : HasPassed sizes base walks flags told (map seen left)) where
  module _ (tree : CatalogTree) (some : 1 ≤ length left) (first : tree ≡ get_or left 0 tree) where
    abbrev pub later : List CatalogTree
    later = take (length left - 1) (drop 1 left)

    ahead : HasPassed sizes base walks flags told (seen tree ∷ map seen later)
    ahead = subst (λ (trees : List CatalogTree). HasPassed sizes base walks flags told (map seen trees)) (first-split left tree some first) has

    pub lent-more : (F : Type 0) (now : List Bool) (own : Option Disagreement) → PassesWalk sizes base {F = F} (IsSubjectOf sizes base (seen tree)) flags now (Ok own) → HasPassed sizes base walks now (option_or told own) (map seen later)
    lent-more F now own passes = passed-more sizes base F walks flags now told (seen tree) (map seen later) ahead own passes

    pub lent-fault : (F : Type 0) (now : List Bool) (fault : CheckFault F) → PassesWalk sizes base (IsSubjectOf sizes base (seen tree)) flags now (Err fault) → IsRefusal (FirstWrong [] (flat_map tree_found walks)) fault
    lent-fault F now fault passes = passed-fault sizes base F walks flags now told (seen tree) (map seen later) ahead fault passes

  pub lent-all : (F : Type 0) → length left < 1 → EndsWalks {F = F} walks flags (Ok told)
  lent-all F none = passed-all sizes base F walks flags told (subst (λ (trees : List CatalogTree). HasPassed sizes base walks flags told (map seen trees)) (none-behind left none) has)
