-- A new seat, and a seat that takes another in, keep the rule.
use Rattle.std.proofs.Common.{◌≢◌, ℕ, ◌+◌, ◌≤◌, Bool, true, false, List, [], ◌∷◌, length, get_or, set, sym, refl, ap, ◌∙◌, subst, ⊎_elim, arith, Option, Some, None, ltb, ltb-true, ltb-false, ◌≡◌, if◌then◌else◌}
use Rattle.std.proofs.lemmas.Bool.{false≢true}
use mathlib.Core.Option.{some, none}
use mathlib.Core.Option as maybe
use mathlib.Core.List.{IsPrefix}
use lib.ListN.{get_elem?}
use Rattle.atomic_table.specs.Table.{State, Splits, Joins}
use Rattle.atomic_table.proofs.Lists.{at_longer, at_set, set_else}
use Rattle.turn_lock.specs.declared.view.Past.{Past}
use Rattle.turn_lock.specs.declared.view.View.{View}
use Rattle.turn_lock.specs.declared.story.Story.{Ghosts}
use Rattle.turn_lock.specs.Lists.{times, longer, shorter}
use Rattle.turn_lock.specs.Rule.{Facts, Fits, Kept}
use Rattle.turn_lock.specs.Steps.{Seated, guest, meeting, cut, newcomer, gathered}
use Rattle.turn_lock.specs.Views.{Lives, gave, new_past, view, rests, spent}
use Rattle.turn_lock.proofs.Steps.{seat-rested}
use Rattle.turn_lock.proofs.Lists.{IsHeld-set, some-of_not_none, one_of-said, element-at_end, total-set, total-end, times-append}

-- each of two beginnings is a beginning
prefix-either : {E : Type 0} (b : Bool) (xs ys zs : List E) → IsPrefix xs zs → IsPrefix ys zs → IsPrefix (if b then ys else xs) zs
prefix-either true xs ys zs p q = q
prefix-either false xs ys zs p q = p

pub shorter-less : {E : Type 0} (xs ys : List E) → length (shorter xs ys) ≤ length (longer xs ys)
shorter-less {E} xs ys = pick (ltb (length xs) (length ys)) refl
  where
    pick : (b : Bool) → ltb (length xs) (length ys) ≡ b → length (if b then xs else ys) ≤ length (if b then ys else xs)
    pick true e = let h = ltb-true (length xs) (length ys) e in omega (arith, h)
    pick false e = let h = ltb-false (length xs) (length ys) e in omega (arith, h)

pub guest-joined : {W E : Type 0} (a b m : Seated W E) → a ≡ guest a.0.past → m ≡ (gathered a.0 b.0, a.1) → m ≡ guest (meeting a.0.past b.0.past)
guest-joined {W} {E} a b m e is = is ∙ ap (λ (x : Seated W E). (view (meeting a.0.past b.0.past) x.0.turn, x.1)) e

module _ {W E : Type 0} (S : Ghosts W E) where
  abbrev V : Type 0
  V = View W E

  abbrev Rule : W → State (Option W) V → Type 0
  Rule = Kept S

  abbrev Fit : W → Facts W E S.Part → ℕ → List (maybe.Option (Option W)) → V → Type 0
  Fit = Fits S

  -- the view that stood at a place before the view of one seat changed
  views-stood : (views : List V) (id : ℕ) (v w : V) → get_elem? views id ≡ some v → w.past.opening ≡ v.past.opening → w.past.number ≡ v.past.number → w.turn.has ≡ v.turn.has → (j : ℕ) (u : V) → get_elem? (set views id w) j ≡ some u
      → (x : V) × (get_elem? views j ≡ some x) × (u.past.opening ≡ x.past.opening) × (u.past.number ≡ x.past.number) × (u.turn.has ≡ x.turn.has)
  views-stood views id v w at opening number has j u e = ⊎_elim
      (λ (t : (j ≡ id) × (w ≡ u)). (v, ap (get_elem? views) t.0 ∙ at, ap (λ (x : V). x.past.opening) (sym t.1) ∙ opening, ap (λ (x : V). x.past.number) (sym t.1) ∙ number, ap (λ (x : V). x.turn.has) (sym t.1) ∙ has))
      (λ (t : (j ≢ id) × (get_elem? views j ≡ some u)). (u, t.1, refl, refl, refl))
      (at_set views id j w u e)

  pub seat-splits : (o : W) (id : ℕ) (p : Past W E) → Lives p → p.number ≡ 0 → Splits (Rule o) id (view p rests) (cut (view p rests)) (newcomer (view p rests))
  seat-splits o id p lives first s k me =
      let v : V = view p rests in
      let l : V = cut v in
      let r : V = newcomer v in
      let known = (k.each id v me).past in
      let live : p.opening ≡ Some o = (let t = some-of_not_none p.opening lives in t.1 ∙ ap Some (known.opens t.0 t.1)) in
      let f = k.f in
      let f' : Facts W E S.Part = record { whole = f.whole; given = f.given + 1; most = f.most; kept = f.kept; turned = f.turned } in
      let given : p.given ≡ f.given = known.counts live first in
      let vs : List V = set s.views id l in
      let turn : ℕ = get_or s.words 0 0 in
      let left_fits : Fit o f' turn s.homes l = seat-rested S o f' turn s.homes (gave p) (record {
        opens = known.opens;
        below = λ a. let h = known.below a in omega (arith, h);
        counts = λ _ _. omega (arith, given);
        sees = known.sees;
        aside = (f.whole, refl);
        meets = known.meets;
        turned = known.turned;
        own = known.own;
        first = known.first;
      }) in
      let right_fits : Fit o f' turn s.homes r = seat-rested S o f' turn s.homes (new_past p) (record {
        opens = known.opens;
        below = λ _. omega (arith, given);
        counts = λ _ none. let h = known.below live in absurd (omega (arith, h, given, none));
        sees = known.sees;
        aside = (f.whole, refl);
        meets = known.meets;
        turned = known.turned;
        own = λ _ i e at is. let h = k.named i e at in absurd (omega (arith, h, given, is));
        first = λ _ none. let h = known.below live in absurd (omega (arith, h, given, none));
      }) in
      let others : (j : ℕ) (u : V) → j ≢ id → get_elem? s.views j ≡ some u → Fit o f' turn s.homes u = λ j u other at. let at_home = k.each j u at in let g = at_home.past in record {
        past = record {
          opens = g.opens;
          below = λ a. let h = g.below a in omega (arith, h);
          counts = λ a none. absurd (other (k.apart j id u v at me a live (none ∙ sym first)));
          sees = g.sees;
          aside = g.aside;
          meets = g.meets;
          turned = g.turned;
          own = g.own;
          first = g.first;
        };
        has = at_home.has;
        empty = at_home.empty;
      } in
      let was = views-stood s.views id v l me refl refl refl in
      let no_turn : (u : V) → r ≡ u → u.turn.has ≡ true → ⊥ = λ u is has. false≢true (ap (λ (x : V). x.turn.has) is ∙ has) in
      let new_number : (j : ℕ) (u x : V) → get_elem? vs j ≡ some u → r ≡ x → u.past.opening ≡ Some o → u.past.number ≡ x.past.number → ⊥ = λ j u x e is a same.
      let y = was j u e in
      let h = (k.each j y.0 y.1).past.below (sym y.2 ∙ a) in
      let m = ap (λ (z : V). z.past.number) is in
      let q = y.3 in
      omega (arith, h, given, same, m, q) in
      record {
        f = f';
        two = k.two;
        one = k.one;
        size = k.size;
        free = λ e. let t = k.free e in (t.0, record { here = t.1.here; history = t.1.history; stands = t.1.stands; settled = t.1.settled; count = t.1.count; part = t.1.part });
        held = λ ne. let t = IsHeld-set s.views id v l me (λ e. absurd (false≢true e)) (k.held ne) in (t.0, t.1, at_longer vs (r ∷ []) t.0 t.1 t.2, t.3);
        each = λ j u e. ⊎_elim
            (λ old. ⊎_elim (λ (t : (j ≡ id) × (l ≡ u)). subst (Fit o f' turn s.homes) t.1 left_fits) (λ (t : (j ≢ id) × (get_elem? s.views j ≡ some u)). others j u t.0 t.1) (at_set s.views id j l u old))
            (λ (t : (j ≡ length vs) × (r ≡ u)). subst (Fit o f' turn s.homes) t.1 right_fits)
            (element-at_end vs r u j e);
        alone = λ i j u x eu ex hu hx. ⊎_elim
            (λ old. ⊎_elim
            (λ old'. let a = was i u old in let b = was j x old' in k.alone i j a.0 b.0 a.1 b.1 (sym a.4 ∙ hu) (sym b.4 ∙ hx))
            (λ (t : (j ≡ length vs) × (r ≡ x)). absurd (no_turn x t.1 hx))
            (element-at_end vs r x j ex))
            (λ (t : (i ≡ length vs) × (r ≡ u)). absurd (no_turn u t.1 hu))
            (element-at_end vs r u i eu);
        apart = λ i j u x eu ex lu lx same. ⊎_elim
            (λ old. ⊎_elim
            (λ old'. let a = was i u old in let b = was j x old' in k.apart i j a.0 b.0 a.1 b.1 (sym a.2 ∙ lu) (sym b.2 ∙ lx) (sym a.3 ∙ (same ∙ b.3)))
            (λ (t : (j ≡ length vs) × (r ≡ x)). absurd (new_number i u x old t.1 lu same))
            (element-at_end vs r x j ex))
            (λ (t : (i ≡ length vs) × (r ≡ u)). ⊎_elim
            (λ old'. absurd (new_number j x u old' t.1 lx (sym same)))
            (λ (q : (j ≡ length vs) × (r ≡ x)). t.0 ∙ sym q.0)
            (element-at_end vs r x j ex))
            (element-at_end vs r u i eu);
        placed = λ n. let a = total-end (λ (y : V). times n y.past.places) vs r in let b = total-set (λ (y : V). times n y.past.places) s.views id v l me in let c = k.placed n in omega (arith, a, b, c);
        named = λ i e at. let h = k.named i e at in omega (arith, h);
      }

  pub seats-join : (o : W) (id other : ℕ) (p q : Past W E) → Lives p → Joins (Rule o) id (view p rests) other (view q rests) (gathered (view p rests) (view q rests)) spent
  seats-join o id other p q lives s k me apart there =
      let v : V = view p rests in
      let w : V = view q rests in
      let b : V = gathered v w in
      let known = (k.each id v me).past in
      let was_there : get_elem? s.views other ≡ some w = sym (set_else s.views id other b apart) ∙ there in
      let theirs = (k.each other w was_there).past in
      let live : p.opening ≡ Some o = (let t = some-of_not_none p.opening lives in t.1 ∙ ap Some (known.opens t.0 t.1)) in
      let vs : List V = set s.views id b in
      let turn : ℕ = get_or s.words 0 0 in
      let both_fits : Fit o k.f turn s.homes b = seat-rested S o k.f turn s.homes (meeting p q) (record {
        opens = known.opens;
        below = known.below;
        counts = known.counts;
        sees = prefix-either (ltb (length p.seen) (length q.seen)) p.seen q.seen k.f.whole known.sees theirs.sees;
        aside = prefix-either (ltb (length p.seen) (length q.seen)) q.seen p.seen k.f.whole theirs.sees known.sees;
        meets = let a = known.meets in let b = theirs.meets in omega (arith, a, b);
        turned = one_of-said p.turned q.turned k.f.turned known.turned theirs.turned;
        own = λ a i e at is. let h = known.own a i e at is in let t = times-append i p.places q.places in omega (arith, h, t);
        first = known.first;
      }) in
      let none_opened : None ≡ Some o → ⊥ = λ e. absurd cc in
      let spent_fits : Fit o k.f turn s.homes spent = seat-rested S o k.f turn s.homes spent.past (record {
        opens = λ x e. absurd cc;
        below = λ e. absurd (none_opened e);
        counts = λ e. absurd (none_opened e);
        sees = (k.f.whole, refl);
        aside = (k.f.whole, refl);
        meets = omega arith;
        turned = λ x e. absurd cc;
        own = λ e. absurd (none_opened e);
        first = λ e. absurd (none_opened e);
      }) in
      let first = views-stood s.views id v b me refl refl refl in
      record {
        f = k.f;
        two = k.two;
        one = k.one;
        size = k.size;
        free = k.free;
        held = λ ne. IsHeld-set vs other w spent there (λ e. absurd (false≢true e)) (IsHeld-set s.views id v b me (λ e. absurd (false≢true e)) (k.held ne));
        each = λ j u e. ⊎_elim
            (λ (t : (j ≡ other) × (spent ≡ u)). subst (Fit o k.f turn s.homes) t.1 spent_fits)
            (λ (t : (j ≢ other) × (get_elem? vs j ≡ some u)). ⊎_elim
            (λ (r : (j ≡ id) × (b ≡ u)). subst (Fit o k.f turn s.homes) r.1 both_fits)
            (λ (r : (j ≢ id) × (get_elem? s.views j ≡ some u)). k.each j u r.1)
            (at_set s.views id j b u t.1))
            (at_set vs other j spent u e);
        alone = λ i j u x eu ex hu hx. ⊎_elim
            (λ (t : (i ≡ other) × (spent ≡ u)). absurd (false≢true (ap (λ (y : V). y.turn.has) t.1 ∙ hu)))
            (λ (t : (i ≢ other) × (get_elem? vs i ≡ some u)). ⊎_elim
            (λ (r : (j ≡ other) × (spent ≡ x)). absurd (false≢true (ap (λ (y : V). y.turn.has) r.1 ∙ hx)))
            (λ (r : (j ≢ other) × (get_elem? vs j ≡ some x)). let a = first i u t.1 in let c = first j x r.1 in k.alone i j a.0 c.0 a.1 c.1 (sym a.4 ∙ hu) (sym c.4 ∙ hx))
            (at_set vs other j spent x ex))
            (at_set vs other i spent u eu);
        apart = λ i j u x eu ex lu lx same. ⊎_elim
            (λ (t : (i ≡ other) × (spent ≡ u)). absurd (none_opened (ap (λ (y : V). y.past.opening) t.1 ∙ lu)))
            (λ (t : (i ≢ other) × (get_elem? vs i ≡ some u)). ⊎_elim
            (λ (r : (j ≡ other) × (spent ≡ x)). absurd (none_opened (ap (λ (y : V). y.past.opening) r.1 ∙ lx)))
            (λ (r : (j ≢ other) × (get_elem? vs j ≡ some x)). let a = first i u t.1 in let c = first j x r.1 in k.apart i j a.0 c.0 a.1 c.1 (sym a.2 ∙ lu) (sym c.2 ∙ lx) (sym a.3 ∙ (same ∙ c.3)))
            (at_set vs other j spent x ex))
            (at_set vs other i spent u eu);
        placed = λ n.
            let x = total-set (λ (y : V). times n y.past.places) s.views id v b me in
            let y = total-set (λ (y : V). times n y.past.places) vs other w spent there in
            let z = times-append n p.places q.places in
            let c = k.placed n in
            omega (arith, x, y, z, c);
        named = k.named;
      }

  pub seat-splits_as : (o : W) (id : ℕ) (m : Seated W E) → m ≡ guest m.0.past → Lives m.0.past → m.0.past.number ≡ 0 → Splits (Rule o) id m.0 (cut m.0) (newcomer m.0)
  seat-splits_as o id m e lives first = subst (λ (x : V). Splits (Rule o) id x (cut x) (newcomer x)) (sym (ap (λ (y : Seated W E). y.0) e)) (seat-splits o id m.0.past lives first)

  pub seats-join_as : (o : W) (id other : ℕ) (m n : Seated W E) → m ≡ guest m.0.past → n ≡ guest n.0.past → Lives m.0.past → Joins (Rule o) id m.0 other n.0 (gathered m.0 n.0) spent
  seats-join_as o id other m n e f lives = subst (λ (x : V × V). Joins (Rule o) id x.0 other x.1 (gathered x.0 x.1) spent) (λ i. (sym (ap (λ (y : Seated W E). y.0) e) i, sym (ap (λ (y : Seated W E). y.0) f) i)) (seats-join o id other m.0.past n.0.past lives)
