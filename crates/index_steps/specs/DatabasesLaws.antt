-- A step over an index brings a database midway on by one step: crates above cite these facts in their proofs.
use Rattle.std.proofs.Common.{◌≡◌, ◌≢◌, ℕ, suc, ◌+◌, ◌-◌, ◌≤◌, ◌==◌, if◌then◌else◌, Bool, true, false, List, [], ◌∷◌, ◌++◌, length, map, take, refl, sym, ap, ap₂, ◌∙◌, subst, inl, inr, arith, append_assoc}
use Rattle.std.proofs.Math.Path.{subst⁻¹}
use Rattle.std.specs.Prelude.{flat_map, sum_by}
use Rattle.std.specs.List.{AllByRecursion, AllZip}
use Rattle.std.proofs.lemmas.Bool.{eq-eqb, eqb-true}
use Rattle.std.proofs.lemmas.List.{take_all}
use Rattle.std.proofs.lemmas.List.Sums.{sum_by-cons}
use Rattle.rbu_rows.specs.declared.prepared.Prepared.{Prepared}
use Rattle.rbu_rows.specs.declared.prepared.Batch.{Batch}
use Rattle.tree_spec.specs.Trees.{Member}
use Rattle.tree_spec.specs.WorldsLaws.{all-join}
use Rattle.database_spec.specs.declared.catalog.Catalog.{Catalog}
use Rattle.database_spec.specs.Databases.{Database, list_at}
use Rattle.prepared_spec.specs.declared.violation.Change.{Change}
use Rattle.prepared_spec.specs.MembersLaws.{Has, decide, true-false}
use Rattle.prepared_spec.specs.Tables.{IsAfter}
use Rattle.prepared_spec.specs.Plans.{IndexPlan, TablePlan, row_steps, plan_steps, firsts}
use Rattle.prepared_spec.specs.Outcomes.{AreMidway, IsIndexAfter, IsIndexList, IsMid, IsMidway, TreesAfter, beside, format_in, replaced, trees_by_root, with_trees}
use Rattle.index_steps.specs.Databases.{AreApart, IsDue, with_list}

-- Lists by their roots.

if-true : {A : Type 0} (t : Bool) (a b : A) → t ≡ true → (if t then a else b) ≡ a
if-true true a b e = refl
if-true false a b e = absurd (let h : ◌≡◌ {A = Bool} false true = e in let no : ⊥ = cc in no)

if-false : {A : Type 0} (t : Bool) (a b : A) → t ≡ false → (if t then a else b) ≡ b
if-false true a b e = absurd (let h : ◌≡◌ {A = Bool} true false = e in let no : ⊥ = cc in no)
if-false false a b e = refl

not-equal : (m n : ℕ) → (m ≡ n → ⊥) → (m == n) ≡ false
not-equal m n unlike = elim (decide (m == n)) [ inl e ↦ absurd (unlike (eqb-true m n e)) | inr e ↦ e ]

equal : (m n : ℕ) → m ≡ n → (m == n) ≡ true
equal m n e = eq-eqb m n e

abbrev Lists : Type 0
Lists = List (ℕ × List Member)

-- what was written has a list at a root, which stands nowhere before
record Holds (root : ℕ) (x : List Member) (written : Lists) : Type 0 where
  pub front : Lists
  pub back : Lists
  pub apart : AllByRecursion (λ (w : ℕ × List Member). w.0 ≢ root) front
  pub is : written ≡ front ++ (root, x) ∷ back

-- the same with another list there
abbrev swapped : (root : ℕ) (x y : List Member) (written : Lists) → Holds root x written → Lists
swapped root x y written holds = holds.front ++ (root, y) ∷ holds.back

module _ (root : ℕ) (x : List Member) where
  holds-behind : (more written : Lists) → AllByRecursion (λ (w : ℕ × List Member). w.0 ≢ root) more → Holds root x written → Holds root x (more ++ written)
  holds-behind more written apart holds = record {
    front = more ++ holds.front;
    back = holds.back;
    apart = all-join (λ (w : ℕ × List Member). w.0 ≢ root) more holds.front apart holds.apart;
    is = ap (λ (l : Lists). more ++ l) holds.is ∙ sym (append_assoc more holds.front ((root, x) ∷ holds.back));
  }

  holds-before : (more written : Lists) → Holds root x written → Holds root x (written ++ more)
  holds-before more written holds = record {
    front = holds.front;
    back = holds.back ++ more;
    apart = holds.apart;
    is = ap (λ (l : Lists). l ++ more) holds.is ∙ append_assoc holds.front ((root, x) ∷ holds.back) more;
  }

module _ (root : ℕ) (x y : List Member) where
  replaced-root : (written : Lists) (list : ℕ × List Member) → (replaced written list).0 ≡ list.0
  replaced-root [] list = refl
  replaced-root (w ∷ written) list =
      elim (decide (w.0 == list.0)) [
        | inl e ↦ ap (λ (l : ℕ × List Member). l.0) (if-true (w.0 == list.0) (list.0, w.1) (replaced written list) e)
        | inr e ↦ ap (λ (l : ℕ × List Member). l.0) (if-false (w.0 == list.0) (list.0, w.1) (replaced written list) e) ∙ replaced-root written list
      ]

  -- what stands at the root is replaced
  replaced-here : (front back : Lists) (z : List Member) (list : ℕ × List Member) → AllByRecursion (λ (w : ℕ × List Member). w.0 ≢ root) front → list.0 ≡ root → replaced (front ++ (root, z) ∷ back) list ≡ (list.0, z)
  replaced-here [] back z list apart is = if-true (root == list.0) (list.0, z) (replaced back list) (equal root list.0 (sym is))
  replaced-here (w ∷ front) back z list apart is =
      if-false (w.0 == list.0) (list.0, w.1) (replaced (front ++ (root, z) ∷ back) list) (not-equal w.0 list.0 (λ e. apart.0 (e ∙ is))) ∙ replaced-here front back z list apart.1 is

  -- any other list as before
  replaced-other : (front back : Lists) (list : ℕ × List Member) → (list.0 ≡ root → ⊥) → replaced (front ++ (root, y) ∷ back) list ≡ replaced (front ++ (root, x) ∷ back) list
  replaced-other [] back list other =
      let apart = not-equal root list.0 (λ e. other (sym e)) in
      if-false (root == list.0) (list.0, y) (replaced back list) apart ∙ sym (if-false (root == list.0) (list.0, x) (replaced back list) apart)
  replaced-other (w ∷ front) back list other = ap (λ (l : ℕ × List Member). if w.0 == list.0 then (list.0, w.1) else l) (replaced-other front back list other)

  replaced-swaps : (front back : Lists) (list : ℕ × List Member) → AllByRecursion (λ (w : ℕ × List Member). w.0 ≢ root) front
      → replaced (front ++ (root, y) ∷ back) list ≡ with_list root y (replaced (front ++ (root, x) ∷ back) list)
  replaced-swaps front back list apart =
      elim (decide (list.0 == root)) [
        | inl e ↦
            let is = eqb-true list.0 root e in
            let was = replaced-here front back x list apart is in
            replaced-here front back y list apart is
            ∙ sym (if-true (list.0 == root) (list.0, y) (list.0, x) e) ∙ ap (with_list root y) (sym was)
        | inr e ↦
            let was = replaced (front ++ (root, x) ∷ back) list in
            let other : list.0 ≡ root → ⊥ = λ is. true-false (list.0 == root) (equal list.0 root is) e in
            replaced-other front back list other
            ∙ sym (if-false (was.0 == root) (was.0, y) was (ap (λ (n : ℕ). n == root) (replaced-root (front ++ (root, x) ∷ back) list) ∙ e))
      ]

  swapped-lists : (written lists : Lists) (holds : Holds root x written) → map (replaced (swapped root x y written holds)) lists ≡ map (with_list root y) (map (replaced written) lists)
  swapped-lists written [] holds = refl
  swapped-lists written (list ∷ lists) holds =
      ap₂ (λ (l : ℕ × List Member) (ls : Lists). l ∷ ls)
      (replaced-swaps holds.front holds.back list holds.apart ∙ ap (λ (w : Lists). with_list root y (replaced w list)) (sym holds.is)) (swapped-lists written lists holds)

-- the list at the root, where there is one
list-stands : (root : ℕ) (x : List Member) (written lists : Lists) → Holds root x written → Has root (map (λ (l : ℕ × List Member). l.0) lists) → list_at (map (replaced written) lists) root ≡ x
list-stands root x written [] holds h = absurd h
list-stands root x written (list ∷ lists) holds h =
    elim (decide (list.0 == root)) [
      | inl e ↦
          let is = eqb-true list.0 root e in
          let here = ap (λ (w : Lists). replaced w list) holds.is ∙ replaced-here root x x holds.front holds.back x list holds.apart is in
          ap (λ (l : ℕ × List Member). if l.0 == root then l.1 else list_at (map (replaced written) lists) root) here ∙ if-true (list.0 == root) x (list_at (map (replaced written) lists) root) e
      | inr e ↦
          let first = replaced written list in
          let other = ap (λ (n : ℕ). n == root) (replaced-root root x x written list) ∙ e in
          if-false (first.0 == root) first.1 (list_at (map (replaced written) lists) root) other
          ∙ list-stands root x written lists holds (elim h [ inl is ↦ absurd (true-false (list.0 == root) (equal list.0 root is) e) | inr later ↦ later ])
    ]

-- The first items of lists.

firsts-all : {A : Type 0} (n : ℕ) (lists : List (List A)) → sum_by length lists ≤ n → firsts n lists ≡ lists
firsts-all n [] few = refl
firsts-all n (list ∷ lists) few =
    let all = sum_by-cons length list lists in
    ap₂ (λ x xs. x ∷ xs) (take_all n list (omega (arith, few, all))) (firsts-all (n - length list) lists (omega (arith, few, all)))

abbrev changes_in : IndexPlan → List Change
changes_in index = index.changes

abbrev many : IndexPlan → ℕ
many index = length index.changes

changes-length : (indexes : List IndexPlan) → sum_by length (map changes_in indexes) ≡ sum_by many indexes
changes-length [] = refl
changes-length (index ∷ indexes) =
    let rest = changes-length indexes in
    let left = sum_by-cons length index.changes (map changes_in indexes) in
    let right = sum_by-cons many index indexes in omega (arith, rest, left, right)

take-front : {A : Type 0} (front back : List A) → take (length front) (front ++ back) ≡ front
take-front [] back = refl
take-front (x ∷ front) back = ap (λ l. x ∷ l) (take-front front back)

take-more : {A : Type 0} (front : List A) (x : A) (back : List A) → take (suc (length front)) (front ++ x ∷ back) ≡ front ++ x ∷ []
take-more [] x back = refl
take-more (y ∷ front) x back = ap (λ l. y ∷ l) (take-more front x back)

length-front : {A : Type 0} (front : List A) (x : A) (back : List A) → length (front ++ x ∷ back) ≡ length front + suc (length back)
length-front [] x back = omega arith
length-front (y ∷ front) x back = omega (arith, length-front front x back)

sum-front : (front : List IndexPlan) (index : IndexPlan) (back : List IndexPlan) → sum_by many front + many index ≤ sum_by many (front ++ index ∷ back)
sum-front [] index back = omega (arith, sum_by-cons many index back)
sum-front (i ∷ front) index back = omega (arith, sum-front front index back, sum_by-cons many i front, sum_by-cons many i (front ++ index ∷ back))

-- The indexes of a plan.

module _ (format : ℕ) (lists : Lists) (done : List Change) (change : Change) (left : List Change) where
  abbrev root_in : IndexPlan → ℕ
  root_in index = index.root

  abbrev AreLists : List IndexPlan → ℕ → List (List Member) → Type 0
  AreLists indexes m members = AllZip (IsIndexList format lists) (beside indexes (firsts m (map changes_in indexes))) members

  -- An index stands behind some of its changes with a list that was written, and behind one more once another one is.
  record IsAt (index : IndexPlan) (written : Lists) (Next : Lists → Type 0) : Type 0 where
    pub x : List Member
    pub is : IsIndexAfter format index.index done (list_at lists index.root) x
    pub holds : Holds index.root x written
    pub next : (y : List Member) → IsIndexAfter format index.index (done ++ change ∷ []) (list_at lists index.root) y → Next (swapped index.root x y written holds)

  abbrev NextLists : List IndexPlan → ℕ → Lists → Type 0
  NextLists indexes m written = (others : List (List Member)) × AreLists indexes m others × (beside (map root_in indexes) others ≡ written)

  indexes-at : (before : List IndexPlan) (index : IndexPlan) (behind : List IndexPlan) (m : ℕ) (members : List (List Member)) → index.changes ≡ done ++ change ∷ left → m ≡ sum_by many before + length done
      → AllByRecursion (λ (i : IndexPlan). i.root ≢ index.root) before → AreLists (before ++ index ∷ behind) m members
      → IsAt index (beside (map root_in (before ++ index ∷ behind)) members) (NextLists (before ++ index ∷ behind) (suc m))
  indexes-at [] index behind m [] changes count apart are = absurd are
  indexes-at [] index behind m (x ∷ members) changes count apart are =
      let long : length index.changes ≡ length done + suc (length left) = ap length changes ∙ length-front done change left in
      let same : m ≡ length done = omega (arith, count) in
      let here : take m index.changes ≡ done = ap₂ (λ (k : ℕ) (l : List Change). take k l) same changes ∙ take-front done (change ∷ left) in
      let more : take (suc m) index.changes ≡ done ++ change ∷ [] = ap₂ (λ (k : ℕ) (l : List Change). take (suc k) l) same changes ∙ take-more done change left in
      let none : m - length index.changes ≡ suc m - length index.changes = omega (arith, long, same) in
      record {
        x = x;
        is = subst (λ (c : List Change). IsIndexAfter format index.index c (list_at lists index.root) x) here are.0;
        holds = record { front = []; back = beside (map root_in behind) members; apart = tt; is = refl };
        next = λ y is_y. (
          y ∷ members,
          (
            subst⁻¹ (λ (c : List Change). IsIndexAfter format index.index c (list_at lists index.root) y) more is_y,
            subst (λ (k : ℕ). AllZip (IsIndexList format lists) (beside behind (firsts k (map changes_in behind))) members) none are.1,
          ),
          refl,
        );
      }
  indexes-at (b ∷ before) index behind m [] changes count apart are = absurd are
  indexes-at (b ∷ before) index behind m (z ∷ members) changes count apart are =
      let all = sum_by-cons many b before in
      let enough : many b ≤ m = omega (arith, count, all) in
      let rest = indexes-at before index behind (m - many b) members changes (omega (arith, count, all)) apart.1 are.1 in
      let later : suc (m - many b) ≡ suc m - many b = omega (arith, enough) in
      let full : take m b.changes ≡ take (suc m) b.changes = take_all m b.changes enough ∙ sym (take_all (suc m) b.changes (omega (arith, enough))) in
      record {
        x = rest.x;
        is = rest.is;
        holds = record { front = (b.root, z) ∷ rest.holds.front; back = rest.holds.back; apart = (apart.0, rest.holds.apart); is = ap (λ (l : Lists). (b.root, z) ∷ l) rest.holds.is };
        next = λ y is_y.
            let n = rest.next y is_y in (
              z ∷ n.0,
              (
                subst (λ (c : List Change). IsIndexAfter format b.index c (list_at lists b.root) z) full are.0,
                subst (λ (k : ℕ). AreLists (before ++ index ∷ behind) k n.0) later n.1,
              ),
              ap (λ (l : Lists). (b.root, z) ∷ l) n.2,
            );
      }

  -- A plan one of whose indexes stands so.
  midway-at : (plan : TablePlan) (before : List IndexPlan) (index : IndexPlan) (behind : List IndexPlan) (n : ℕ) (trees : TreesAfter) → plan.indexes ≡ before ++ index ∷ behind → index.changes ≡ done ++ change ∷ left
      → n ≡ row_steps plan + (sum_by many before + length done) → plan.root ≢ index.root → AllByRecursion (λ (i : IndexPlan). i.root ≢ index.root) before → IsMidway format lists n plan trees
      → IsAt index (trees_by_root (plan, trees)) (λ written. (others : TreesAfter) × IsMidway format lists (suc n) plan others × (trees_by_root (plan, others) ≡ written))
  midway-at plan before index behind n trees indexes changes count table apart mid =
      let m = n - row_steps plan in
      let are = subst (λ (is : List IndexPlan). AreLists is m trees.indexes) indexes mid.indexes_are in
      let at = indexes-at before index behind m trees.indexes changes (omega (arith, count)) apart are in
      let later : suc m ≡ suc n - row_steps plan = omega (arith, count) in
      let rows : firsts n plan.batches ≡ firsts (suc n) plan.batches =
      firsts-all n plan.batches (omega (arith, count)) ∙ sym (firsts-all (suc n) plan.batches (omega (arith, count))) in
      record {
        x = at.x;
        is = at.is;
        holds = record {
          front = (plan.root, trees.table) ∷ at.holds.front;
          back = at.holds.back;
          apart = (table, at.holds.apart);
          is = ap (λ (l : Lists). (plan.root, trees.table) ∷ l) (ap (λ (is : List IndexPlan). beside (map root_in is) trees.indexes) indexes ∙ at.holds.is);
        };
        next = λ y is_y.
            let new = at.next y is_y in
            let others : TreesAfter = record { table = trees.table; indexes = new.0 } in (
              others,
              record {
                rows = mid.rows;
                rows_are = subst (λ (b : List (List Prepared)). IsAfter format plan.table plan.old b mid.rows) rows mid.rows_are;
                table_is = mid.table_is;
                indexes_are = subst⁻¹ (λ (is : List IndexPlan). AreLists is (suc n - row_steps plan) new.0) indexes (subst (λ (k : ℕ). AreLists (before ++ index ∷ behind) k new.0) later new.1);
              },
              ap (λ (l : Lists). (plan.root, trees.table) ∷ l) (ap (λ (is : List IndexPlan). beside (map root_in is) new.0) indexes ∙ new.2),
            );
      }

  -- a plan whose steps are all done
  midway-full : (plan : TablePlan) (n : ℕ) (trees : TreesAfter) → plan_steps plan ≤ n → IsMidway format lists n plan trees → IsMidway format lists (suc n) plan trees
  midway-full plan n trees enough mid =
      let rows : firsts n plan.batches ≡ firsts (suc n) plan.batches =
      firsts-all n plan.batches (omega (arith, enough)) ∙ sym (firsts-all (suc n) plan.batches (omega (arith, enough))) in
      let all = changes-length plan.indexes in
      let changes : firsts (n - row_steps plan) (map changes_in plan.indexes) ≡ firsts (suc n - row_steps plan) (map changes_in plan.indexes) =
      firsts-all (n - row_steps plan) (map changes_in plan.indexes) (omega (arith, enough, all)) ∙ sym (firsts-all (suc n - row_steps plan) (map changes_in plan.indexes) (omega (arith, enough, all))) in
      record {
        rows = mid.rows;
        rows_are = subst (λ (b : List (List Prepared)). IsAfter format plan.table plan.old b mid.rows) rows mid.rows_are;
        table_is = mid.table_is;
        indexes_are = subst (λ (c : List (List Change)). AllZip (IsIndexList format lists) (beside plan.indexes c) trees.indexes) changes mid.indexes_are;
      }

  -- the trees of a plan stand at other roots
  beside-apart : (root : ℕ) (indexes : List IndexPlan) (members : List (List Member)) → AllByRecursion (λ (i : IndexPlan). i.root ≢ root) indexes
      → AllByRecursion (λ (w : ℕ × List Member). w.0 ≢ root) (beside (map root_in indexes) members)
  beside-apart root [] members apart = tt
  beside-apart root (i ∷ indexes) [] apart = tt
  beside-apart root (i ∷ indexes) (m ∷ members) apart = (apart.0, beside-apart root indexes members apart.1)

  abbrev written_by : List TablePlan → List TreesAfter → Lists
  written_by plans trees = flat_map trees_by_root (beside plans trees)

  -- All plans, of which one stands so.
  plans-at : (front : List TablePlan) (plan : TablePlan) (back : List TablePlan) (before : List IndexPlan) (index : IndexPlan) (behind : List IndexPlan) (n : ℕ) (trees : List TreesAfter) → plan.indexes ≡ before ++ index ∷ behind
      → index.changes ≡ done ++ change ∷ left → n ≡ sum_by plan_steps front + (row_steps plan + (sum_by many before + length done)) → AreApart front plan before index.root → AreMidway format lists n (front ++ plan ∷ back) trees
      → IsAt index (written_by (front ++ plan ∷ back) trees) (λ written. (others : List TreesAfter) × AreMidway format lists (suc n) (front ++ plan ∷ back) others × (written_by (front ++ plan ∷ back) others ≡ written))
  plans-at [] plan back before index behind n trees indexes changes count apart (own, later, is, rest, e) =
      let at = midway-at plan before index behind n own indexes changes (omega (arith, count)) apart.table apart.indexes is in
      let long : length index.changes ≡ length done + suc (length left) = ap length changes ∙ length-front done change left in
      let whole : sum_by many before + many index ≤ sum_by many plan.indexes = subst⁻¹ (λ (is : List IndexPlan). sum_by many before + many index ≤ sum_by many is) indexes (sum-front before index behind) in
      let none : n - plan_steps plan ≡ suc n - plan_steps plan = omega (arith, count, long, whole) in
      let more = written_by back later in
      record {
        x = at.x;
        is = at.is;
        holds = record {
          front = at.holds.front;
          back = at.holds.back ++ more;
          apart = at.holds.apart;
          is = ap (written_by (plan ∷ back)) e ∙ ap (λ (l : Lists). l ++ more) at.holds.is ∙ append_assoc at.holds.front ((index.root, at.x) ∷ at.holds.back) more;
        };
        next = λ y is_y.
            let new = at.next y is_y in (
              new.0 ∷ later,
              (new.0, later, new.1, subst (λ (k : ℕ). AreMidway format lists k back later) none rest, refl),
              ap (λ (l : Lists). l ++ more) new.2 ∙ append_assoc at.holds.front ((index.root, y) ∷ at.holds.back) more,
            );
      }
  plans-at (p ∷ front) plan back before index behind n trees indexes changes count apart (own, later, is, rest, e) =
      let all = sum_by-cons plan_steps p front in
      let enough : plan_steps p ≤ n = omega (arith, count, all) in
      let at = plans-at front plan back before index behind (n - plan_steps p) later indexes changes (omega (arith, count, all)) (record { plans = apart.plans.1; table = apart.table; indexes = apart.indexes }) rest in
      let next_is : suc (n - plan_steps p) ≡ suc n - plan_steps p = omega (arith, enough) in
      let mine = trees_by_root (p, own) in
      let beyond = beside-apart index.root p.indexes own.indexes apart.plans.0.1 in
      record {
        x = at.x;
        is = at.is;
        holds = record {
          front = mine ++ at.holds.front;
          back = at.holds.back;
          apart = all-join (λ (w : ℕ × List Member). w.0 ≢ index.root) mine at.holds.front (apart.plans.0.0, beyond) at.holds.apart;
          is = ap (written_by (p ∷ (front ++ plan ∷ back))) e ∙ ap (λ (l : Lists). mine ++ l) at.holds.is ∙ sym (append_assoc mine at.holds.front ((index.root, at.x) ∷ at.holds.back));
        };
        next = λ y is_y.
            let new = at.next y is_y in (
              own ∷ new.0,
              (own, new.0, midway-full p n own enough is, subst (λ (k : ℕ). AreMidway format lists k (front ++ plan ∷ back) new.0) next_is new.1, refl),
              ap (λ (l : Lists). mine ++ l) new.2 ∙ sym (append_assoc mine at.holds.front ((index.root, y) ∷ at.holds.back)),
            );
      }

-- The database midway has at the root of the index that is due its list behind the changes that are done; with the list behind one change more in its place it is the database behind one step more.
pub mid-leads : (catalog : Catalog) (old mid : Database) (groups : List (List Batch)) (n : ℕ) (is : IsMid catalog old groups n mid) (plan : TablePlan) (index : IndexPlan) (done : List Change) (change : Change) (left : List Change)
    → IsDue is.plans n plan index done change left → Has index.root (map (λ (l : ℕ × List Member). l.0) old.lists)
    → IsIndexAfter (format_in old) index.index done (list_at old.lists index.root) (list_at mid.lists index.root)
    × ((y : List Member) (next : Database) → IsIndexAfter (format_in old) index.index (done ++ change ∷ []) (list_at old.lists index.root) y → next.header ≡ mid.header → next.lists ≡ map (with_list index.root y) mid.lists → IsMid catalog old groups (suc n) next)
mid-leads catalog old mid groups n is plan index done change left due stands =
    let format = format_in old in
    let whole = due.earlier ++ plan ∷ due.later in
    let are = subst (λ (ps : List TablePlan). AreMidway format old.lists n ps is.trees) due.plans_are is.are_trees in
    let at = plans-at format old.lists done change left due.earlier plan due.later due.before index due.behind n is.trees due.indexes_are due.changes_are due.count due.apart are in
    let written = flat_map trees_by_root (beside whole is.trees) in
    let lists : mid.lists ≡ map (replaced written) old.lists = is.lists ∙ ap (λ (ps : List TablePlan). with_trees old.lists ps is.trees) due.plans_are in
    let here : list_at mid.lists index.root ≡ at.x = ap (λ (ls : Lists). list_at ls index.root) lists ∙ list-stands index.root at.x written old.lists at.holds stands in (
      subst⁻¹ (λ (l : List Member). IsIndexAfter format index.index done (list_at old.lists index.root) l) here at.is,
      λ y next is_y header next_lists.
          let new = at.next y is_y in
          record {
            plans = is.plans;
            are_plans = is.are_plans;
            trees = new.0;
            are_trees = subst⁻¹ (λ (ps : List TablePlan). AreMidway format old.lists (suc n) ps new.0) due.plans_are new.1;
            header = header ∙ is.header;
            lists = next_lists ∙ ap (map (with_list index.root y)) lists ∙ sym (swapped-lists index.root at.x y written old.lists at.holds)
                ∙ ap (λ (w : Lists). map (replaced w) old.lists) (sym new.2) ∙ ap (λ (ps : List TablePlan). with_trees old.lists ps new.0) (sym due.plans_are);
          },
    )
