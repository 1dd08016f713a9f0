-- What a put changes of a table: crates above cite these facts in their proofs.
use Rattle.std.proofs.Common.{◌≡◌, ◌≢◌, ◌⊎◌, ◌↔◌, ℕ, zero, suc, ◌+◌, ◌-◌, ◌<◌, ◌<ℤ◌, List, [], ◌∷◌, ◌++◌, length, get_or, refl, sym, ap, ◌∙◌, subst, inl, inr, arith, length-append}
use Rattle.std.proofs.Math.Path.{subst⁻¹}
use Rattle.std.specs.List.{Contains}
use Rattle.std.proofs.lemmas.Int.{ints}
use Rattle.std.proofs.lemmas.List.{get_or_append_left, get_or-append_right}
use Rattle.std.proofs.lemmas.List.Elements.{All-contains, All-from_recursion, Contains-append_left, Contains-append_right, Contains-append_cases}
use Rattle.tree_spec.specs.declared.TreeKind.TheVariants.{Table}
use Rattle.tree_spec.specs.Trees.{Member}
use Rattle.put_spec.specs.Children.{PutIn, IsReplaced, Rises}

module _ (put : Member) (front back : List Member) (rises : Rises (front ++ put ∷ back)) where
  put-at : (d : Member) → get_or (front ++ put ∷ back) (length front) d ≡ put
  put-at d =
      let none : length front - length front ≡ 0 = omega arith in
      get_or-append_right front (put ∷ back) (length front) (length front) d refl (omega arith) ∙ ap (λ (k : ℕ). get_or (put ∷ back) k d) none

  below-put : (m : Member) → Contains front m → m.rowid <ℤ put.rowid
  below-put m in_front =
      let k = in_front.0 in
      let pair = rises k (length front) m in_front.1 (let long = length-append front (put ∷ back) in omega arith) in
      subst (λ (x : Member). m.rowid <ℤ x.rowid) (put-at m)
      (subst (λ (x : Member). x.rowid <ℤ (get_or (front ++ put ∷ back) (length front) m).rowid) (get_or_append_left front (put ∷ back) m k in_front.1 ∙ in_front.2) pair)

  above-put : (m : Member) → Contains back m → put.rowid <ℤ m.rowid
  above-put m in_back =
      let k = in_back.0 in
      let place = length front + (k + 1) in
      let pair = rises (length front) place m (omega arith) (let long = length-append front (put ∷ back) in let low = in_back.1 in omega arith) in
      let there : get_or (front ++ put ∷ back) place m ≡ m =
      get_or-append_right front (put ∷ back) (length front) place m refl (omega arith) ∙ ap (λ (j : ℕ). get_or (put ∷ back) j m) (let next : place - length front ≡ suc k = omega arith in next) ∙ in_back.2 in
      subst (λ (x : Member). put.rowid <ℤ x.rowid) there (subst (λ (x : Member). x.rowid <ℤ (get_or (front ++ put ∷ back) place m).rowid) (put-at m) pair)

-- After a put into a table its member is the one of its rowid, and the members of other rowids are those that were there.
pub put-members : (put : Member) (old new : List Member) → PutIn Table put old new → Rises new → (m : Member) → Contains new m ↔ ((m ≡ put) ⊎ (Contains old m × (m.rowid ≢ put.rowid)))
put-members put old new is rises m = (there, back_again)
  where
    up : Rises (is.front ++ put ∷ is.back)
    up = subst Rises is.new_is rises

    old_front : Contains is.front m → Contains old m
    old_front c = subst⁻¹ (λ (l : List Member). Contains l m) is.old_is (Contains-append_left is.front (is.replaced ++ is.back) m c)

    old_back : Contains is.back m → Contains old m
    old_back c = subst⁻¹ (λ (l : List Member). Contains l m) is.old_is (Contains-append_right is.front (is.replaced ++ is.back) m (Contains-append_right is.replaced is.back m c))

    there : Contains new m → (m ≡ put) ⊎ (Contains old m × (m.rowid ≢ put.rowid))
    there c =
        elim (Contains-append_cases is.front (put ∷ is.back) m (subst (λ (l : List Member). Contains l m) is.new_is c)) [
          | inl front ↦ inr (old_front front, λ e. let below = below-put put is.front is.back up m front in omega (arith, ints))
          | inr rest ↦ elim (Contains-append_cases (put ∷ []) is.back m rest) [
            | inl here ↦ inl (sym here.2 ∙ first here.0 here.1)
            | inr back ↦ inr (old_back back, λ e. let above = above-put put is.front is.back up m back in omega (arith, ints))
          ]
        ]
      where
        first : (k : ℕ) → k < 1 → get_or (put ∷ []) k m ≡ put
        first zero low = refl
        first (suc k) low = absurd (omega arith)

    new_front : Contains is.front m → Contains new m
    new_front c = subst⁻¹ (λ (l : List Member). Contains l m) is.new_is (Contains-append_left is.front (put ∷ is.back) m c)

    new_rest : Contains (put ∷ is.back) m → Contains new m
    new_rest c = subst⁻¹ (λ (l : List Member). Contains l m) is.new_is (Contains-append_right is.front (put ∷ is.back) m c)

    back_again : (m ≡ put) ⊎ (Contains old m × (m.rowid ≢ put.rowid)) → Contains new m
    back_again (inl same) = new_rest (0, omega arith, sym same)
    back_again (inr both) =
        elim (Contains-append_cases is.front (is.replaced ++ is.back) m (subst (λ (l : List Member). Contains l m) is.old_is both.0)) [
          | inl front ↦ new_front front
          | inr rest ↦ elim (Contains-append_cases is.replaced is.back m rest) [
            | inl gone ↦ absurd (both.1 (All-contains (IsReplaced Table put) is.replaced m (All-from_recursion (IsReplaced Table put) is.replaced is.same) gone))
            | inr back ↦ new_rest (Contains-append_right (put ∷ []) is.back m back)
          ]
        ]
