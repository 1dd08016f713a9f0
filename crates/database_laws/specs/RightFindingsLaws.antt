-- What is right is not wrong: crates above cite these facts in their proofs.
use Rattle.std.proofs.Common.{◌≡◌, ℕ, ℤ, ◌+◌, ◌<◌, ◌==◌, ◌||◌, ◌⊎◌, true, false, List, [], ◌∷◌, ◌++◌, map, refl, sym, ap, ◌∙◌, subst, inl, inr, arith, append_assoc}
use Rattle.std.proofs.Math.Path.{subst⁻¹}
use Rattle.std.specs.Prelude.{AllPairs, Any, Contains, filter_map, slice_index_or}
use Rattle.std.specs.List.{list_any, AllByRecursion}
use Rattle.std.proofs.lemmas.Bool.{cases_lt, cases_eq, eq-eqb, ne_eqb}
use Rattle.std.proofs.lemmas.List.{get_or_default, append-nil}
use Rattle.std.proofs.lemmas.List.Elements.{filter_map-append}
use Rattle.std.proofs.lemmas.List.Folds.{list_any-append}
use Rattle.std.proofs.lemmas.List.Sorted.{Contains-permutation, IsPermutation-sym}
use Rattle.rbu_value.specs.declared.value.Value.{Value}
use Rattle.format_spec.specs.Record.{IsRecord}
use Rattle.page_spec.specs.Counts.{times}
use Rattle.page_spec.specs.CountsLaws.{times-append, times-cons, times-itself, times-other}
use Rattle.schema_spec.specs.declared.schema.Index.{Index}
use Rattle.tree_spec.specs.Trees.{Member}
use Rattle.database_spec.specs.declared.fault.FileFault.{FileFault}
use Rattle.database_spec.specs.Walks.{Finding, Finds, Ends, Holds, Breaks, Disorders, Bares}
use Rattle.database_spec.specs.WalksLaws.{truth-apart}
use Rattle.database_spec.specs.ListsLaws.{beside-one, all-from}
use Rattle.database_spec.specs.ItemsLaws.{true-false}
use Rattle.database_spec.specs.Rows.{TableRow}
use Rattle.database_spec.specs.RowsLaws.{record-one}
use Rattle.database_spec.specs.Keys.{IsBefore, entry_of, Clash, IsIndexOf}
use Rattle.database_spec.specs.KeysLaws.{before-apart}
use Rattle.database_spec.specs.FileFindings.{Content, Rows, Entries, Anything, Subject, Found, InTree, Frees, Tears, Counts, Needs, Compares}
use Rattle.database_spec.specs.FileFaults.{page_found, is_found, ends_elsewhere, NotBefore, IsWrongMember, IsWrongInTree, Disagrees, FirstDisagrees, IsWrong, FirstWrong}
use Rattle.database_laws.specs.RightFindings.{IsAfter, IsRightMember, IsRightInTree, IsRight, AreRight}

-- Lists.

any-all : {A : Type 0} (P Q : A → Type 0) (xs : List A) → Any P xs → AllByRecursion Q xs → (x : A) × P x × Q x
any-all P Q xs (k, x, less, e, p) all = (x, p, subst Q e (all-from Q xs all k x less))

-- of two items of a list in order one stands before the other, or they are one
pub pairs-two : {A : Type 0} (R : A → A → Type 0) (xs : List A) (x y : A) → AllPairs R xs → Contains xs x → Contains xs y → R x y ⊎ (R y x ⊎ (x ≡ y))
pairs-two R xs x y all (j, low, e) (k, less, f) =
    elim (cases_lt j k) [
      | inl before ↦ inl (subst (λ z. R z y) (get_or_default xs j y x low ∙ e) (subst (R (slice_index_or xs j y)) f (all j k y before less)))
      | inr not_before ↦ elim (cases_lt k j) [
        | inl behind ↦ inr (inl (subst (λ z. R z x) (get_or_default xs k x y less ∙ f) (subst (R (slice_index_or xs k x)) e (all k j x behind low))))
        | inr not_behind ↦
            let same : j ≡ k = omega arith in
            inr (inr (sym e ∙ ap (λ (n : ℕ). slice_index_or xs n x) same ∙ get_or_default xs k x y less ∙ f))
      ]
    ]

-- Pages.

abbrev pub numbers_in : List Found → List ℕ
numbers_in found = filter_map page_found found

pub numbers-append : (n : ℕ) (xs ys : List Found) → times n (numbers_in (xs ++ ys)) ≡ times n (numbers_in xs) + times n (numbers_in ys)
numbers-append n xs ys = ap (times n) (filter_map-append page_found xs ys) ∙ times-append n (numbers_in xs) (numbers_in ys)

-- a number is found in a list, or it is not
pub found-or : (n : ℕ) (xs : List ℕ) → ((list_any (λ x. x == n) xs ≡ true) × (0 < times n xs)) ⊎ ((list_any (λ x. x == n) xs ≡ false) × (times n xs ≡ 0))
found-or n [] = inr (refl, refl)
found-or n (x ∷ xs) =
    elim (cases_eq x n) [
      | inl same ↦
          let one : times n (x ∷ []) ≡ 1 = ap (λ (y : ℕ). times n (y ∷ [])) same ∙ times-itself n in
          inl (ap (λ t. t || list_any (λ y. y == n) xs) (eq-eqb x n same), omega (arith, times-cons n x xs, one))
      | inr apart ↦
          let skip : list_any (λ y. y == n) (x ∷ xs) ≡ list_any (λ y. y == n) xs = ap (λ t. t || list_any (λ y. y == n) xs) (ne_eqb x n apart) in
          let none = times-other n x apart in
          elim (found-or n xs) [
            | inl some ↦ inl (skip ∙ some.0, omega (arith, times-cons n x xs, some.1))
            | inr lacks ↦ inr (skip ∙ lacks.0, omega (arith, times-cons n x xs, none, lacks.1))
          ]
    ]

pub found-some : (n : ℕ) (xs : List ℕ) → list_any (λ x. x == n) xs ≡ true → 0 < times n xs
found-some n xs e = elim (found-or n xs) [ inl some ↦ some.1 | inr lacks ↦ absurd (true-false (list_any (λ x. x == n) xs) e lacks.0) ]

pub found-none : (n : ℕ) (xs : List ℕ) → list_any (λ x. x == n) xs ≡ false → times n xs ≡ 0
found-none n xs e = elim (found-or n xs) [ inl some ↦ absurd (true-false (list_any (λ x. x == n) xs) some.0 e) | inr lacks ↦ lacks.1 ]

pub some-found : (n : ℕ) (xs : List ℕ) → 0 < times n xs → list_any (λ x. x == n) xs ≡ true
some-found n xs some = elim (found-or n xs) [ inl has ↦ has.0 | inr lacks ↦ absurd (omega (arith, some, lacks.1)) ]

pub none-found : (n : ℕ) (xs : List ℕ) → times n xs ≡ 0 → list_any (λ x. x == n) xs ≡ false
none-found n xs none = elim (found-or n xs) [ inl has ↦ absurd (omega (arith, none, has.1)) | inr lacks ↦ lacks.0 ]

-- Right and wrong.

not_before-absurd : (root : ℕ) (index : Index) (entry : List Value) (one : Found) → NotBefore root index entry one → IsAfter root index entry one → ⊥
not_before-absurd root index entry (InTree subject (Finds page)) wrong right = absurd wrong
not_before-absurd root index entry (InTree subject (Ends page depth)) wrong right = absurd wrong
not_before-absurd root index entry (InTree subject (Holds page member)) wrong right = wrong.1.2 (right wrong.0 wrong.1.0 wrong.1.1)
not_before-absurd root index entry (InTree subject (Breaks page rule)) wrong right = absurd wrong
not_before-absurd root index entry (InTree subject (Disorders page)) wrong right = absurd wrong
not_before-absurd root index entry (InTree subject (Bares page)) wrong right = absurd wrong
not_before-absurd root index entry (Frees page) wrong right = absurd wrong
not_before-absurd root index entry (Tears page) wrong right = absurd wrong
not_before-absurd root index entry (Counts pages) wrong right = absurd wrong
not_before-absurd root index entry (Needs page) wrong right = absurd wrong
not_before-absurd root index entry (Compares other rows members) wrong right = absurd wrong

member-not_wrong : (before : List Found) (subject : Subject) (content : Content) (page : ℕ) (member : Member) (fault : FileFault) → IsRightMember before subject content member → ¬ IsWrongMember before subject content page member fault
member-not_wrong before subject Rows page member fault right wrong = wrong.0 right
member-not_wrong before subject (Entries index rows) page member fault (entry, is, after) (inl wrong) = wrong.0 entry is
member-not_wrong before subject (Entries index rows) page member fault (entry, is, after) (inr (other, also, some, e)) =
    let same : other ≡ entry = record-one member.payload other entry also.is_record is.is_record in
    let found = any-all (NotBefore subject.root index entry) (IsAfter subject.root index entry) before (subst (λ (v : List Value). Any (NotBefore subject.root index v) before) same some) after in
    not_before-absurd subject.root index entry found.0 found.1 found.2
member-not_wrong before subject Anything page member fault right wrong = wrong

in_tree-not_wrong : (before : List Found) (subject : Subject) (finding : Finding) (fault : FileFault) → IsRightInTree before subject finding → ¬ IsWrongInTree before subject finding fault
in_tree-not_wrong before subject (Finds page) fault right wrong = truth-apart (is_found page before) wrong.0 right
in_tree-not_wrong before subject (Ends page depth) fault right wrong = truth-apart (list_any (ends_elsewhere subject.root depth) before) wrong.0 right
in_tree-not_wrong before subject (Holds page member) fault right wrong = member-not_wrong before subject subject.content page member fault right wrong
in_tree-not_wrong before subject (Breaks page rule) fault right wrong = right
in_tree-not_wrong before subject (Disorders page) fault right wrong = right
in_tree-not_wrong before subject (Bares page) fault right wrong = right

-- an index that is the projection of its table disagrees nowhere
agrees : (index : Index) (rows : List TableRow) (members : List Member) (is : IsIndexOf index rows members) (entry : List Value) → ¬ Disagrees index rows is.entries entry
agrees index rows members is entry (inl (stands, lacks)) = lacks (Contains-permutation is.entries (map (entry_of index) rows) entry (IsPermutation-sym (map (entry_of index) rows) is.entries is.is_projection.all) stands)
agrees index rows members is entry (inr (inl (lacks, stands))) = lacks (Contains-permutation (map (entry_of index) rows) is.entries entry is.is_projection.all stands)
agrees index rows members is entry (inr (inr (unique, stands, (other, also, before, clash)))) =
    let R = λ (a b : List Value). IsBefore index a b × (¬ Clash index a b) in
    let ordered : AllPairs R is.entries = λ i j d less long. (is.is_projection.sorted i j d less long, is.unique unique i j d less long) in
    elim (pairs-two R is.entries other entry ordered also stands) [
      | inl apart ↦ apart.1 clash
      | inr rest ↦ elim rest [
        | inl turned ↦ before-apart index other entry before turned.0
        | inr same ↦ let itself : IsBefore index entry entry = subst (λ (v : List Value). IsBefore index v entry) same before in before-apart index entry entry itself itself
      ]
    ]

compared-not_wrong : (index : Index) (rows : List TableRow) (members : List Member) (rowid : ℤ) → IsIndexOf index rows members → ¬ FirstDisagrees index rows members rowid
compared-not_wrong index rows members rowid is wrong =
    let decodes = λ (member : Member) (entry : List Value). IsRecord member.payload entry in
    let entries = beside-one decodes (λ member. record-one member.payload) members wrong.entries is.entries wrong.decoded is.decoded in
    agrees index rows members is wrong.entry (subst (λ (list : List (List Value)). Disagrees index rows list wrong.entry) entries wrong.disagrees)

-- what is right is not wrong
pub right-not_wrong : (before : List Found) (one : Found) (fault : FileFault) → IsRight before one → ¬ IsWrong before one fault
right-not_wrong before (InTree subject finding) fault right wrong = in_tree-not_wrong before subject finding fault right wrong
right-not_wrong before (Frees page) fault right wrong = truth-apart (is_found page before) wrong.0 right
right-not_wrong before (Tears page) fault right wrong = right
right-not_wrong before (Counts pages) fault right wrong = wrong.0 right
right-not_wrong before (Needs page) fault right wrong = truth-apart (is_found page before) right wrong.0
right-not_wrong before (Compares index rows members) fault right wrong = compared-not_wrong index rows members wrong.0 right wrong.1

pub are_right-not_wrong : (before found : List Found) (fault : FileFault) → AreRight before found → ¬ FirstWrong before found fault
are_right-not_wrong before [] fault right wrong = wrong
are_right-not_wrong before (one ∷ found) fault right (inl wrong) = right-not_wrong before one fault right.0 wrong
are_right-not_wrong before (one ∷ found) fault right (inr rest) = are_right-not_wrong (before ++ one ∷ []) found fault right.1 rest.1

-- Parts of what is found.

pub right-front : (before xs ys : List Found) → AreRight before (xs ++ ys) → AreRight before xs
right-front before [] ys right = tt
right-front before (x ∷ xs) ys right = (right.0, right-front (before ++ x ∷ []) xs ys right.1)

pub right-back : (before xs ys : List Found) → AreRight before (xs ++ ys) → AreRight (before ++ xs) ys
right-back before [] ys right = subst⁻¹ (λ (b : List Found). AreRight b ys) (append-nil before) right
right-back before (x ∷ xs) ys right = subst (λ (b : List Found). AreRight b ys) (append_assoc before (x ∷ []) xs) (right-back (before ++ x ∷ []) xs ys right.1)

pub right-join : (before xs ys : List Found) → AreRight before xs → AreRight (before ++ xs) ys → AreRight before (xs ++ ys)
right-join before [] ys front back = subst (λ (b : List Found). AreRight b ys) (append-nil before) back
right-join before (x ∷ xs) ys front back =
    (front.0, right-join (before ++ x ∷ []) xs ys front.1 (subst⁻¹ (λ (b : List Found). AreRight b ys) (append_assoc before (x ∷ []) xs) back))

-- a first fault of a part is that of the whole
pub wrong-front : (before xs ys : List Found) (fault : FileFault) → FirstWrong before xs fault → FirstWrong before (xs ++ ys) fault
wrong-front before [] ys fault wrong = absurd wrong
wrong-front before (x ∷ xs) ys fault (inl wrong) = inl wrong
wrong-front before (x ∷ xs) ys fault (inr rest) = inr (rest.0, wrong-front (before ++ x ∷ []) xs ys fault rest.1)

pub wrong-back : (before xs ys : List Found) (fault : FileFault) → AreRight before xs → FirstWrong (before ++ xs) ys fault → FirstWrong before (xs ++ ys) fault
wrong-back before [] ys fault right wrong = subst (λ (b : List Found). FirstWrong b ys fault) (append-nil before) wrong
wrong-back before (x ∷ xs) ys fault right wrong =
    inr (
      λ other. right-not_wrong before x other right.0,
      wrong-back (before ++ x ∷ []) xs ys fault right.1 (subst⁻¹ (λ (b : List Found). FirstWrong b ys fault) (append_assoc before (x ∷ []) xs) wrong),
    )

-- what is found in two parts
pub found-append : (n : ℕ) (xs ys : List Found) → is_found n (xs ++ ys) ≡ (is_found n xs || is_found n ys)
found-append n xs ys = ap (list_any (λ (x : ℕ). x == n)) (filter_map-append page_found xs ys) ∙ list_any-append (λ (x : ℕ). x == n) (numbers_in xs) (numbers_in ys)
