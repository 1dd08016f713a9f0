-- A delete in a world, and what it changes of a table: crates above cite these facts in their proofs.
use Rattle.std.proofs.Common.{◌≡◌, ◌≢◌, ◌↔◌, ℕ, suc, ◌+◌, ◌≤◌, ◌<ℤ◌, List, [], ◌∷◌, ◌++◌, length, max, get_or, refl, ap, ◌∙◌, subst, inl, inr, arith, length-append}
use Rattle.std.proofs.Math.Path.{subst⁻¹}
use Rattle.std.specs.List.{Contains}
use Rattle.std.proofs.lemmas.Int.{ints}
use Rattle.std.proofs.lemmas.List.{get_or_append_left, get_or_at, get_or-append-add}
use Rattle.std.proofs.lemmas.List.Elements.{Contains-append_cases, Contains-append_right}
use Rattle.page_spec.specs.Counts.{times}
use Rattle.page_spec.specs.CountsLaws.{times-append}
use Rattle.page_spec.specs.Freelists.{Trunk}
use Rattle.tree_spec.specs.declared.TreeKind.{TreeKind}
use Rattle.tree_spec.specs.declared.TreeKind.TheVariants.{Table}
use Rattle.tree_spec.specs.Trees.{Member, Rooted, pages_in, list_of}
use Rattle.tree_spec.specs.Bounds.{IsOrdered, below_rowids, greatest_rowid}
use Rattle.tree_spec.specs.Standing.{Sizes, Paged}
use Rattle.tree_spec.specs.StandingLaws.{Stands-kept}
use Rattle.tree_spec.specs.Worlds.{greatest_count, with_tree, IsWorld, slack}
use Rattle.tree_spec.specs.WorldsLaws.{world-root, world-within}
use Rattle.tree_spec.specs.Changes.{Turns}
use Rattle.tree_spec.specs.ChangesLaws.{Turns-then, Turns-wide, Turns-within, Turns-keeps, world-after, slack-kept}
use Rattle.put_spec.specs.Children.{Rises, PutIn}
use Rattle.put_spec.specs.MembersLaws.{put-members}
use Rattle.delete_spec.specs.Deletes.{TakenOut, IsRootDeleted, IsWorldDeleted}

module _ (sizes : Sizes) (gone : Member) (front : List Rooted) (old : Rooted) (back : List Rooted) where
  -- A row is taken out of the tree of a root, and the overflow chain of its cell is given back: the world holds again, and all other trees are as they were.
  pub world-deleted : (a b c : Paged) (new : Rooted) (first bytes : ℕ) (chain : List ℕ) (p q r : List Trunk) → old.kind ≡ Table → IsWorld sizes a (with_tree front old back p)
      → IsRootDeleted sizes old.levels gone a old.tree p b new first bytes chain q → Turns sizes b chain q c [] r → c.count ≤ greatest_count → IsWorldDeleted sizes gone front old back a p c
  world-deleted a b c new first bytes chain p q r table world deleted freed few =
      let within = world-within sizes a front old back p world in
      let root = world-root sizes a front old back p world in
      let within_b = Turns-within sizes a b (pages_in old) (pages_in new ++ chain) p q within deleted.turns in
      let count = λ (n : ℕ). times-append n (pages_in new) chain in
      let turns = Turns-then sizes a b c (pages_in old) (pages_in new ++ chain) (pages_in new) p q r within deleted.turns
      (Turns-wide sizes b c chain [] (pages_in new ++ chain) (pages_in new) q r (λ n. times n (pages_in new)) (λ n. omega (arith, count n)) (λ n. omega arith) freed) in
      let keeps = Turns-keeps sizes b c chain [] q r (pages_in new) (λ n. omega (arith, within_b n, count n)) freed in
      record {
        new = new;
        trunks = r;
        world = world-after sizes a c front back old new p r world turns
            (record {
              stands = Stands-kept sizes b c new.kind new.levels new.tree keeps deleted.stands;
              ordered = subst⁻¹ (λ (k : TreeKind). IsOrdered k new.levels new.tree) deleted.kind_is
                  (deleted.bounds below_rowids greatest_rowid (subst (λ (k : TreeKind). IsOrdered k old.levels old.tree) table root.ordered));
              full = deleted.full root.full;
            })
            deleted.root few;
        root = deleted.root;
        kind_is = deleted.kind_is;
        list = subst⁻¹ (λ (k : TreeKind). TakenOut gone (list_of k old.levels old.tree) (list_of new.kind new.levels new.tree)) table deleted.list;
        turns = turns;
      }

  -- As many pages as the tree has no longer can be taken again.
  pub deleted-slack : (a c : Paged) (p : List Trunk) (limit : ℕ) → IsWorld sizes a (with_tree front old back p) → (is : IsWorldDeleted sizes gone front old back a p c) → c.count ≤ max limit a.count
      → slack sizes c limit is.trunks + length (pages_in is.new) ≡ slack sizes a limit p + length (pages_in old)
  deleted-slack a c p limit world is most = slack-kept sizes a c (pages_in old) (pages_in is.new) p is.trunks limit (world-within sizes a front old back p world) is.turns most

-- the other members of a rising list have other rowids
module _ (gone : Member) (front back : List Member) (rises : Rises (front ++ gone ∷ back)) where
  below-gone : (m : Member) → Contains front m → m.rowid <ℤ gone.rowid
  below-gone m in_front =
      let k = in_front.0 in
      let pair = rises k (length front) m in_front.1 (let long = length-append front (gone ∷ back) in omega arith) in
      subst (λ (x : Member). m.rowid <ℤ x.rowid) (get_or_at front gone back m (length front) refl)
      (subst (λ (x : Member). x.rowid <ℤ (get_or (front ++ gone ∷ back) (length front) m).rowid) (get_or_append_left front (gone ∷ back) m k in_front.1 ∙ in_front.2) pair)

  above-gone : (m : Member) → Contains back m → gone.rowid <ℤ m.rowid
  above-gone m in_back =
      let k = in_back.0 in
      let pair = rises (length front) (length front + (k + 1)) m (omega arith) (let long = length-append front (gone ∷ back) in let low = in_back.1 in omega arith) in
      let next : get_or (gone ∷ back) (k + 1) m ≡ get_or back k m = behind k in
      subst (λ (x : Member). gone.rowid <ℤ x.rowid) (get_or-append-add front (gone ∷ back) (k + 1) m ∙ next ∙ in_back.2)
      (subst (λ (x : Member). x.rowid <ℤ (get_or (front ++ gone ∷ back) (length front + (k + 1)) m).rowid) (get_or_at front gone back m (length front) refl) pair)
    where
      behind : (k : ℕ) → get_or (gone ∷ back) (k + 1) m ≡ get_or back k m
      behind k = let e : k + 1 ≡ suc k = omega arith in ap (λ (j : ℕ). get_or (gone ∷ back) j m) e

  others-apart : (m : Member) → Contains (front ++ back) m → m.rowid ≢ gone.rowid
  others-apart m c e =
      elim (Contains-append_cases front back m c) [
        | inl in_front ↦ let less = below-gone m in_front in omega (arith, ints)
        | inr in_back ↦ let less = above-gone m in_back in omega (arith, ints)
      ]

-- After a delete from a table its members are those that were there, but for the one of its rowid. A delete is a put the other way round.
pub taken-members : (gone : Member) (old new : List Member) → TakenOut gone old new → Rises old → (m : Member) → Contains new m ↔ (Contains old m × (m.rowid ≢ gone.rowid))
taken-members gone old new is rises m = (there, back_again)
  where
    reversed : PutIn Table gone new old
    reversed = record { front = is.front; replaced = []; back = is.back; old_is = is.new_is; new_is = is.old_is; same = tt; few = omega arith }

    apart : Contains new m → m.rowid ≢ gone.rowid
    apart c = others-apart gone is.front is.back (subst Rises is.old_is rises) m (subst (λ (l : List Member). Contains l m) is.new_is c)

    there : Contains new m → Contains old m × (m.rowid ≢ gone.rowid)
    there c = ((put-members gone new old reversed rises m).1 (inr (c, apart c)), apart c)

    back_again : Contains old m × (m.rowid ≢ gone.rowid) → Contains new m
    back_again both =
        elim ((put-members gone new old reversed rises m).0 both.0) [
          | inl same ↦ absurd (both.1 (ap (λ (x : Member). x.rowid) same))
          | inr other ↦ other.0
        ]

-- and it was there
pub taken-was : (gone : Member) (old new : List Member) → TakenOut gone old new → Contains old gone
taken-was gone old new is =
    subst⁻¹ (λ (l : List Member). Contains l gone) is.old_is (Contains-append_right is.front (gone ∷ is.back) gone (0, omega arith, refl))
