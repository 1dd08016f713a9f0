-- Each step keeps the rule.
use Rattle.std.proofs.Common.{◌≢◌, ℕ, suc, ◌+◌, ◌-◌, ◌%◌, ◌^◌, ◌<◌, ◌≤◌, eqb, true, List, [], ◌∷◌, ◌++◌, length, get_or, set, replicate, sym, refl, ap, ◌∙◌, subst, ⊎_elim, ◌⊎◌, arith, Option, Some, None, IfSome, length-set, get_or-set_other, get_or-set_same, length-append, zero, ◌≡◌, if◌then◌else◌}
use Rattle.std.proofs.lemmas.Bool.{false≢true}
use mathlib.Core.Logic.{dite}
use mathlib.Core.Option.{some, none, some-injective, some-ne-none}
use mathlib.Core.Option as maybe
use mathlib.Core.List.{IsPrefix}
use native.Mathlib.Decide.{ℕ_discrete}
use lib.ListN.{get_elem?}
use lib.Seq.{set-get_or}
use prog.Atomic.{either}
use Rattle.atomic_table.specs.Table.{State, step, keeps, takes, gives, opening, Allows}
use Rattle.atomic_table.proofs.Lists.{at_set, set_here, exchanged}
use Rattle.turn_lock.specs.declared.view.Past.{Past}
use Rattle.turn_lock.specs.declared.view.View.{View}
use Rattle.turn_lock.specs.declared.story.Story.{Ghosts}
use Rattle.turn_lock.specs.Lists.{times, once_below}
use Rattle.turn_lock.specs.Meeting.{Meets}
use Rattle.turn_lock.specs.Rule.{Facts, Fits, IsHeld, Kept, Knows, Lies}
use Rattle.turn_lock.specs.Steps.{Seated, holder, guest, Compares, joined, Opens, Shuts, Takes, Notes, Leaves}
use Rattle.turn_lock.specs.Views.{Lives, view, turn, rests, holds, starts, told, turned_after, missed, noted, left}
use Rattle.turn_lock.proofs.Lists.{IsHeld-set, some-at, one_of-first, one_of-again, some-of_not_none, prefix-self, prefix-shorter, prefix-more, element-at_end, element-below, total-set, total-most, times-append, times-end, one_if}

either-hit : (n : ℕ) → n ≡ 0 → either (eqb n 0) 1 n ≡ 1
either-hit n e = exchanged n 0 1 (λ x. x ≡ 1) (λ _. refl) (λ ne. absurd (ne e))

either-miss : (n : ℕ) → n ≢ 0 → either (eqb n 0) 1 n ≡ n
either-miss n ne = exchanged n 0 1 (λ x. x ≡ n) (λ e. absurd (ne e)) (λ _. refl)

abbrev Homes : Type 0 → Type 0
Homes W = List (maybe.Option (Option W))

module _ {W E : Type 0} (S : Ghosts W E) where
  abbrev V : Type 0
  V = View W E

  abbrev St : Type 0
  St = State (Option W) V

  abbrev Rule : W → St → Type 0
  Rule = Kept S

  abbrev Fit : W → Facts W E S.Part → ℕ → Homes W → V → Type 0
  Fit = Fits S

  -- the value stands for what the seat knows of its lock, as it will be once the value is put back
  abbrev pub Stays : Past W E → W → Type 0
  Stays p w = IfSome p.opening (λ o. S.stands o (turned_after S p.turned w) w)

  -- the value may follow the one that was taken
  abbrev pub Follows : View W E → W → Type 0
  Follows v w = IfSome v.turn.taken (λ x. S.count x ≤ S.count w) × IfSome v.turn.taken (λ x. v.past.number ≢ 0 → S.part w ≡ S.part x)

  abbrev Only : St → ℕ → Type 0
  Only s id = (j : ℕ) (u : V) → j ≢ id → get_elem? s.views j ≡ some u → u.turn.has ≡ true → ⊥

  -- the view that stood at a place before the view of one seat changed
  views-were : (s : St) (id : ℕ) (v w : V) → get_elem? s.views id ≡ some v → w.past.opening ≡ v.past.opening → w.past.number ≡ v.past.number → (j : ℕ) (u : V) → get_elem? (set s.views id w) j ≡ some u
      → (x : V) × (get_elem? s.views j ≡ some x) × (u.past.opening ≡ x.past.opening) × (u.past.number ≡ x.past.number)
  views-were s id v w at same_opened same_number j u e = ⊎_elim
      (λ (t : (j ≡ id) × (w ≡ u)). (v, ap (λ i. get_elem? s.views i) t.0 ∙ at, ap (λ (x : V). x.past.opening) (sym t.1) ∙ same_opened, ap (λ (x : V). x.past.number) (sym t.1) ∙ same_number))
      (λ (t : (j ≢ id) × (get_elem? s.views j ≡ some u)). (u, t.1, refl, refl))
      (at_set s.views id j w u e)

  -- the rule after a step of one seat
  rule-renewed : (o : W) (s : St) (k : Rule o s) (id : ℕ) (v w : V) (ws : List ℕ) (hs : Homes W) (f : Facts W E S.Part)
      → get_elem? s.views id ≡ some v
      → w.past.opening ≡ v.past.opening → w.past.number ≡ v.past.number
      → length ws ≡ 2 → length hs ≡ 1 → get_or ws 1 0 ≡ length f.whole
      → (get_or ws 0 0 ≡ 0 → (x : W) × Lies S o f hs x)
      → (get_or ws 0 0 ≢ 0 → IsHeld (set s.views id w))
      → Fit o f (get_or ws 0 0) hs w
      → ((j : ℕ) (u : V) → j ≢ id → get_elem? s.views j ≡ some u → Fit o f (get_or ws 0 0) hs u)
      → (w.turn.has ≡ true → Only s id)
      → ((n : ℕ) → times n w.past.places + once_below n (length k.f.whole) ≡ times n v.past.places + once_below n (length f.whole))
      → ((n : ℕ) (e : E) → get_elem? f.whole n ≡ some e → S.actor e < f.given)
      → Rule o record { words = ws; homes = hs; views = set s.views id w }
  rule-renewed o s k id v w ws hs f at same_opened same_number two one size free held mine others only places named = record {
    f = f;
    two = two;
    one = one;
    size = size;
    free = free;
    held = held;
    each = λ j u e. ⊎_elim (λ (t : (j ≡ id) × (w ≡ u)). subst (Fit o f (get_or ws 0 0) hs) t.1 mine)
        (λ (t : (j ≢ id) × (get_elem? s.views j ≡ some u)). others j u t.0 t.1) (at_set s.views id j w u e);
    alone = λ i j u x eu ev hu hv. ⊎_elim
        (λ (t : (i ≡ id) × (w ≡ u)). ⊎_elim
        (λ (r : (j ≡ id) × (w ≡ x)). t.0 ∙ sym r.0)
        (λ (r : (j ≢ id) × (get_elem? s.views j ≡ some x)). absurd (only (ap (λ (y : V). y.turn.has) t.1 ∙ hu) j x r.0 r.1 hv))
        (at_set s.views id j w x ev))
        (λ (t : (i ≢ id) × (get_elem? s.views i ≡ some u)). ⊎_elim
        (λ (r : (j ≡ id) × (w ≡ x)). absurd (only (ap (λ (y : V). y.turn.has) r.1 ∙ hv) i u t.0 t.1 hu))
        (λ (r : (j ≢ id) × (get_elem? s.views j ≡ some x)). k.alone i j u x t.1 r.1 hu hv)
        (at_set s.views id j w x ev))
        (at_set s.views id i w u eu);
    apart = λ i j u x eu ex lu lx same.
        let a = views-were s id v w at same_opened same_number i u eu in
        let b = views-were s id v w at same_opened same_number j x ex in
        k.apart i j a.0 b.0 a.1 b.1 (sym a.2 ∙ lu) (sym b.2 ∙ lx) (sym a.3 ∙ (same ∙ b.3));
    placed = λ n.
        let t = total-set (λ (y : V). times n y.past.places) s.views id v w at in
        let h = k.placed n in
        let d = places n in
        omega (arith, t, h, d);
    named = named;
  }

  -- the holder is the only one that has the turn
  holder-alone : (o : W) (s : St) (k : Rule o s) (id : ℕ) (v : V) → get_elem? s.views id ≡ some v → v.turn.has ≡ true → Only s id
  holder-alone o s k id v me has j u other at hu = other (k.alone j id u v at me hu has)

  -- a seat that does not have the turn
  pub seat-rested : (o : W) (f : Facts W E S.Part) (word : ℕ) (hs : Homes W) (p : Past W E) → Knows S o f p → Fit o f word hs (view p rests)
  seat-rested o f word hs p known = record { past = known; has = λ e. absurd (false≢true e); empty = λ e. absurd (false≢true e) }

  -- another view, which has no turn
  seat-still : (o : W) (f : Facts W E S.Part) (word word' : ℕ) (hs hs' : Homes W) (u : V) → Fit o f word hs u → (u.turn.has ≡ true → ⊥) → Fit o f word' hs' u
  seat-still o f word word' hs hs' u k nobody = record { past = k.past; has = λ has. absurd (nobody has); empty = λ fresh. absurd (nobody (k.empty fresh).0) }

  -- the rule does not look at lost tries
  seat-as_told : (o : W) (f : Facts W E S.Part) (p : Past W E) (lost : ℕ) (turned : Option W) (beside : List E) → ((x : W) → turned ≡ Some x → f.turned ≡ Some x) → IsPrefix beside f.whole → Knows S o f p
      → Knows S o f (record { opening = p.opening; number = p.number; given = p.given; seen = p.seen; most = p.most; lost = lost; places = p.places; left = p.left; put = p.put; turned = turned; beside = beside })
  seat-as_told o f p lost turned beside agrees begins known = record {
    opens = known.opens;
    below = known.below;
    counts = known.counts;
    sees = known.sees;
    aside = begins;
    meets = known.meets;
    turned = agrees;
    own = known.own;
    first = known.first;
  }

  pub rule-begins : (o : W) → Rule o (opening (1 ∷ 0 ∷ []) (replicate 1 None) (starts o))
  rule-begins o = record {
    f = start;
    two = refl;
    one = refl;
    size = refl;
    free = λ e. absurd (omega (arith, e));
    held = λ _. (0, starts o, refl, refl);
    each = first;
    alone = λ i j u v eu ev hu hv. same i j u v eu ev;
    apart = λ i j u v eu ev lu lv e. same i j u v eu ev;
    placed = λ n. refl;
    named = λ n e at. absurd (some-ne-none e (sym at));
  }
    where
      start : Facts W E S.Part
      start = record { whole = []; given = 1; most = S.count o; kept = S.part o; turned = None }

      first : (j : ℕ) (v : V) → get_elem? (starts o ∷ []) j ≡ some v → Fit o start 1 (some None ∷ []) v
      first zero v e = subst (Fit o start 1 (some None ∷ [])) (some-injective _ _ e) (record {
        past = record {
          opens = λ x is. sym (cc is);
          below = λ _. omega arith;
          counts = λ _ _. refl;
          sees = prefix-self [];
          aside = prefix-self [];
          meets = omega arith;
          turned = λ x is. is;
          own = λ _ n e at. absurd (some-ne-none e (sym at));
          first = λ _ _. (o, refl, refl);
        };
        has = λ _. (refl, refl, refl, (o, refl, refl, refl));
        empty = λ _. (refl, refl);
      })
      first (suc j) v e = absurd (some-ne-none v (sym e))

      same : (i j : ℕ) (u v : V) → get_elem? (starts o ∷ []) i ≡ some u → get_elem? (starts o ∷ []) j ≡ some v → i ≡ j
      same zero zero u v a b = refl
      same (suc i) j u v a b = absurd (some-ne-none u (sym a))
      same zero (suc j) u v a b = absurd (some-ne-none v (sym b))

  pub turn-taken : (o : W) (id : ℕ) (p : Past W E) → Lives p → Allows (Rule o) 1 id (guest p) 0 (λ n. either (eqb n 0) 1 n) (Takes S (step 1 0 0 1 none) (guest p))
  turn-taken o id p lives s k wide me small =
      let v : V = view p rests in
      let f = k.f in
      let known = (k.each id v me).past in
      let live : p.opening ≡ Some o = (let t = some-of_not_none p.opening lives in t.1 ∙ ap Some (known.opens t.0 t.1)) in
      let n : ℕ = get_or s.words 0 0 in
      dite (ℕ_discrete n 0)
      (λ free.
      let t = k.free free in
      let w : V = view (told p f.turned) (holds (S.history t.0) (Some t.0)) in
      let none_has : (j : ℕ) (u : V) → get_elem? s.views j ≡ some u → u.turn.has ≡ true → ⊥ = λ j u at has. let one = ((k.each j u at).has has).0 in omega (arith, one, free) in
      let kept = rule-renewed o s k id v w (set s.words 0 1) (set s.homes 0 none) f me refl refl
      (length-set s.words 0 1 ∙ k.two) (length-set s.homes 0 none ∙ k.one) (get_or-set_other s.words 0 1 1 0 (omega arith) ∙ k.size)
      (λ zero-now. absurd (let one = get_or-set_same s.words 0 1 0 (omega (arith, k.two)) in omega (arith, one, zero-now)))
      (λ _. (id, w, set_here s.views id w (element-below s.views v id me), refl))
      (record {
        past = seat-as_told o f p p.lost f.turned p.beside (λ x is. is) known.aside known;
        has = λ _. (get_or-set_same s.words 0 1 0 (omega (arith, k.two)), t.1.history, refl, (t.0, refl, t.1.count, t.1.part));
        empty = λ e. absurd (false≢true e);
      })
      (λ j u other at. seat-still o f n (get_or (set s.words 0 1) 0 0) s.homes (set s.homes 0 none) u (k.each j u at) (none_has j u at))
      (λ _ j u other at. none_has j u at)
      (λ _. refl)
      k.named in
      let meets : Meets S p f.turned t.0 = record {
        sees = subst (IsPrefix p.seen) (sym t.1.history) known.sees;
        counts = let a = known.meets in let b = t.1.count in omega (arith, a, b);
        turned = known.turned;
        settled = t.1.settled;
        stays = subst (λ x. IfSome x (λ y. S.stands y f.turned t.0)) (sym live) t.1.stands;
        own = λ i e at is. known.own live i e (ap (λ l. get_elem? l i) (sym t.1.history) ∙ at) is;
        once = λ i. let most = total-most (λ (y : V). times i y.past.places) s.views id v me in let all = k.placed i in let size = ap (λ (l : List E). once_below i (length l)) t.1.history in omega (arith, most, all, size);
        first = λ zero-number. let a = known.first live zero-number in (a.0, a.1, t.1.part ∙ sym a.2);
      } in (
        w,
        takes 0 (Some t.0),
        t.1.here,
        subst (λ x. Rule o record { words = set s.words 0 x; homes = set s.homes 0 none; views = set s.views id w }) (sym (either-hit n free)) kept,
        ((λ _. (t.0, refl, meets)), (λ ne. absurd (ne free))),
      ))
      (λ held.
      let w : V = view (missed p) rests in
      let kept = rule-renewed o s k id v w s.words s.homes f me refl refl k.two k.one k.size k.free
      (λ ne. IsHeld-set s.views id v w me (λ e. absurd (false≢true e)) (k.held ne))
      (seat-rested o f n s.homes (missed p) (seat-as_told o f p (p.lost + 1) p.turned p.beside known.turned known.aside known))
      (λ j u other at. k.each j u at)
      (λ e. absurd (false≢true e))
      (λ _. refl)
      k.named in (
        w,
        keeps,
        tt,
        subst (λ ws. Rule o record { words = ws; homes = s.homes; views = set s.views id w }) (sym (ap (set s.words 0) (either-miss n held) ∙ set-get_or s.words 0 0)) kept,
        ((λ e. absurd (held e)), (λ _. refl)),
      ))

  pub slot-opened : (o : W) (id : ℕ) (opened : W) → Allows (Rule o) 1 id (starts opened, []) 0 (λ n. n) (Opens (step 1 0 0 0 none) (starts opened, []))
  slot-opened o id opened s k wide me small =
      let v : V = starts opened in
      let known = k.each id v me in
      let w : V = view v.past (holds [] (Some opened)) in
      let only = holder-alone o s k id v me refl in
      let one = (known.has refl).0 in
      let kept = rule-renewed o s k id v w s.words (set s.homes 0 none) k.f me refl refl k.two (length-set s.homes 0 none ∙ k.one) k.size
      (λ zero-now. absurd (omega (arith, one, zero-now)))
      (λ _. (id, w, set_here s.views id w (element-below s.views v id me), refl))
      (record {
        past = known.past;
        has = known.has;
        empty = λ e. absurd (false≢true e);
      })
      (λ j u other at. seat-still o k.f (get_or s.words 0 0) (get_or s.words 0 0) s.homes (set s.homes 0 none) u (k.each j u at) (only j u other at))
      (λ _. only)
      (λ _. refl)
      k.named in
      (w, takes 0 None, (known.empty refl).1, subst (λ ws. Rule o record { words = ws; homes = set s.homes 0 none; views = set s.views id w }) (sym (set-get_or s.words 0 0)) kept, refl)

  pub entry-noted : (o : W) (id : ℕ) (p : Past W E) (w₀ : W) (whole : List E) (taken : Option W) (e : E) → Lives p → S.history w₀ ≡ whole ++ e ∷ [] → S.actor e ≡ p.number → length whole < 2 ^ 64 - 1
      → Allows (Rule o) 1 id (holder p whole taken (Some w₀)) 1 (λ n. (n + 1) % 2 ^ 64) (Notes S (step 1 1 1 0 none) (holder p whole taken (Some w₀)))
  entry-noted o id p w₀ whole taken e lives more by room s k wide me small =
      let v : V = view p (holds whole taken) in
      let f = k.f in
      let at_turn = k.each id v me in
      let known = at_turn.past in
      let live : p.opening ≡ Some o = (let t = some-of_not_none p.opening lives in t.1 ∙ ap Some (known.opens t.0 t.1)) in
      let mine = at_turn.has refl in
      let is : whole ≡ f.whole = mine.1 in
      let one = mine.0 in
      let only = holder-alone o s k id v me refl in
      let w : V = view (noted p (length whole)) (holds (S.history w₀) taken) in
      let f' : Facts W E S.Part = record { whole = S.history w₀; given = f.given; most = f.most; kept = f.kept; turned = f.turned } in
      let n : ℕ = get_or s.words 1 0 in
      let grown : S.history w₀ ≡ f.whole ++ e ∷ [] = more ∙ ap (λ l. l ++ e ∷ []) is in
      let size : length (S.history w₀) ≡ suc (length f.whole) = omega (arith, ap length grown, length-append f.whole (e ∷ [])) in
      let longer : (xs : List E) → IsPrefix xs f.whole → IsPrefix xs (S.history w₀) = λ xs q. subst (IsPrefix xs) (sym grown) (prefix-more xs f.whole e q) in
      let split : (i : ℕ) (x : E) → get_elem? (S.history w₀) i ≡ some x → (get_elem? f.whole i ≡ some x) ⊎ ((i ≡ length f.whole) × (e ≡ x)) = λ i x at. element-at_end f.whole e x i (ap (λ l. get_elem? l i) (sym grown) ∙ at) in
      let ws : List ℕ = set s.words 1 ((n + 1) % 2 ^ 64) in
      let turn : get_or ws 0 0 ≡ get_or s.words 0 0 = get_or-set_other s.words 1 0 ((n + 1) % 2 ^ 64) 0 (omega arith) in
      let counted : get_or ws 1 0 ≡ length (S.history w₀) = get_or-set_same s.words 1 ((n + 1) % 2 ^ 64) 0 (omega (arith, k.two)) ∙ omega (arith, k.size, ap length is, size, room) in
      let kept = rule-renewed o s k id v w ws s.homes f' me refl refl (length-set s.words 1 ((n + 1) % 2 ^ 64) ∙ k.two) k.one counted
      (λ zero-now. absurd (omega (arith, one, turn, zero-now)))
      (λ _. (id, w, set_here s.views id w (element-below s.views v id me), refl))
      (record {
        past = record {
          opens = known.opens;
          below = known.below;
          counts = known.counts;
          sees = longer p.seen known.sees;
          aside = (S.history w₀, refl);
          meets = known.meets;
          turned = known.turned;
          own = λ l i x at num. ⊎_elim
              (λ old. let h = known.own l i x old num in let t = times-append i p.places (length whole ∷ []) in omega (arith, h, t))
              (λ (t : (i ≡ length f.whole) × (e ≡ x)). subst (λ j. 0 < times j (p.places ++ length whole ∷ [])) (sym (t.0 ∙ sym (ap length is))) (times-end p.places (length whole)))
              (split i x at);
          first = known.first;
        };
        has = λ _. (turn ∙ one, refl, mine.2, mine.3);
        empty = λ e. absurd (false≢true e);
      })
      (λ j u other at. let at_home = k.each j u at in let g = at_home.past in let nobody = only j u other at in record {
        past = record {
          opens = g.opens;
          below = g.below;
          counts = g.counts;
          sees = longer u.past.seen g.sees;
          aside = longer u.past.beside g.aside;
          meets = g.meets;
          turned = g.turned;
          own = λ l i x there num. ⊎_elim
              (λ old. g.own l i x old num)
              (λ (t : (i ≡ length f.whole) × (e ≡ x)). absurd (other (k.apart j id u v at me l live (sym num ∙ (ap S.actor (sym t.1) ∙ by)))))
              (split i x there);
          first = g.first;
        };
        has = λ has. absurd (nobody has);
        empty = λ fresh. absurd (nobody (at_home.empty fresh).0);
      })
      (λ _. only)
      (λ i. let t = times-append i p.places (length whole ∷ []) in let a = ap (once_below i) size in let b = ap (λ (l : List E). one_if (eqb (length l) i)) is in omega (arith, t, a, b))
      (λ i x at. ⊎_elim (λ old. k.named i x old) (λ (t : (i ≡ length f.whole) × (e ≡ x)). let a = known.below live in let b = ap S.actor (sym t.1) ∙ by in omega (arith, a, b)) (split i x at)) in
      (w, keeps, tt, kept, (refl, k.size ∙ ap length (sym is)))

  pub turn-left : (o : W) (id : ℕ) (p : Past W E) (w₀ : W) (whole : List E) (taken : Option W) → Lives p → S.history w₀ ≡ whole → Stays p w₀ → Follows (view p (holds whole taken)) w₀
      → Allows (Rule o) 1 id (holder p whole taken (Some w₀)) 0 (λ _. 0) (λ _. Leaves S (step 1 0 0 0 none) (holder p whole taken (Some w₀)) 0)
  turn-left o id p w₀ whole taken lives same stays follows s k wide me small =
      let v : V = view p (holds whole taken) in
      let f = k.f in
      let at_turn = k.each id v me in
      let known = at_turn.past in
      let mine = at_turn.has refl in
      let is : whole ≡ f.whole = mine.1 in
      let first_turned : p.turned ≡ f.turned = mine.2 in
      let x = mine.3 in
      let may : (S.count x.0 ≤ S.count w₀) × (p.number ≢ 0 → S.part w₀ ≡ S.part x.0) = (some-at (λ y. S.count y ≤ S.count w₀) taken x.0 x.1 follows.0, some-at (λ y. p.number ≢ 0 → S.part w₀ ≡ S.part y) taken x.0 x.1 follows.1) in
      let rises : f.most ≤ S.count w₀ = (let a = may.0 in let b = x.2 in omega (arith, a, b)) in
      let live : p.opening ≡ Some o = (let t = some-of_not_none p.opening lives in t.1 ∙ ap Some (known.opens t.0 t.1)) in
      let only = holder-alone o s k id v me refl in
      let w : V = view (left S p whole w₀) rests in
      let ws : List ℕ = set s.words 0 0 in
      let hs : Homes W = set s.homes 0 (some (Some w₀)) in
      let f' : Facts W E S.Part = record { whole = f.whole; given = f.given; most = S.count w₀; kept = S.part w₀; turned = turned_after S f.turned w₀ } in
      let now : turned_after S p.turned w₀ ≡ turned_after S f.turned w₀ = ap (λ t. turned_after S t w₀) first_turned in
      let later : (y : W) → f.turned ≡ Some y → turned_after S f.turned w₀ ≡ Some y = λ y e. one_of-first f.turned _ y e in
      let kept = rule-renewed o s k id v w ws hs f' me refl refl (length-set s.words 0 0 ∙ k.two) (length-set s.homes 0 (some (Some w₀)) ∙ k.one) (get_or-set_other s.words 0 1 0 0 (omega arith) ∙ k.size)
      (λ _. (
        w₀,
        record {
          here = set_here s.homes 0 (some (Some w₀)) (omega (arith, k.one));
          history = same ∙ is;
          stands = subst (λ t. S.stands o t w₀) now (some-at (λ y. S.stands y (turned_after S p.turned w₀) w₀) p.opening o live stays);
          settled = one_of-again f.turned (if S.has_turned w₀ then Some w₀ else None);
          count = refl;
          part = refl;
        },
      ))
      (λ ne. absurd (ne (get_or-set_same s.words 0 0 0 (omega (arith, k.two)))))
      (record {
        past = record {
          opens = known.opens;
          below = known.below;
          counts = known.counts;
          sees = subst (IsPrefix whole) is (prefix-self whole);
          aside = (f.whole, refl);
          meets = omega arith;
          turned = λ y e. sym now ∙ e;
          own = known.own;
          first = λ _ _. (w₀, refl, refl);
        };
        has = λ e. absurd (false≢true e);
        empty = λ e. absurd (false≢true e);
      })
      (λ j u other at. let at_home = k.each j u at in let g = at_home.past in let nobody = only j u other at in record {
        past = record {
          opens = g.opens;
          below = g.below;
          counts = g.counts;
          sees = g.sees;
          aside = g.aside;
          meets = let a = g.meets in omega (arith, a, rises);
          turned = λ y e. later y (g.turned y e);
          own = g.own;
          first = λ l zero-number. let a = g.first l zero-number in (a.0, a.1, a.2 ∙ (sym x.3 ∙ sym (may.1 (λ mine-zero. other (k.apart j id u v at me l live (zero-number ∙ sym mine-zero))))));
        };
        has = λ has. absurd (nobody has);
        empty = λ fresh. absurd (nobody (at_home.empty fresh).0);
      })
      (λ e. absurd (false≢true e))
      (λ _. refl)
      k.named in
      (w, gives, tt, kept, refl)

  pub slot-shut : (o : W) (id : ℕ) (p : Past W E) (whole : List E) (taken : Option W) → Allows (Rule o) 1 id (holder p whole taken None) 0 (λ n. n) (Shuts (step 1 0 0 0 none) (holder p whole taken None))
  slot-shut o id p whole taken s k wide me small =
      let v : V = view p (holds whole taken) in
      let known = k.each id v me in
      let w : V = view p (turn true true whole taken) in
      let only = holder-alone o s k id v me refl in
      let one = (known.has refl).0 in
      let hs : Homes W = set s.homes 0 (some None) in
      let kept = rule-renewed o s k id v w s.words hs k.f me refl refl k.two (length-set s.homes 0 (some None) ∙ k.one) k.size
      (λ zero-now. absurd (omega (arith, one, zero-now)))
      (λ _. (id, w, set_here s.views id w (element-below s.views v id me), refl))
      (record {
        past = known.past;
        has = known.has;
        empty = λ _. (refl, set_here s.homes 0 (some None) (omega (arith, k.one)));
      })
      (λ j u other at. seat-still o k.f (get_or s.words 0 0) (get_or s.words 0 0) s.homes hs u (k.each j u at) (only j u other at))
      (λ _. only)
      (λ _. refl)
      k.named in
      (w, gives, tt, subst (λ ws. Rule o record { words = ws; homes = hs; views = set s.views id w }) (sym (set-get_or s.words 0 0)) kept, refl)

  pub seen-compared : (o : W) (id : ℕ) (p : Past W E) → length p.beside ≤ length p.seen → Allows (Rule o) 1 id (guest p) 0 (λ n. n) (Compares (step 1 0 0 0 none) (guest p))
  seen-compared o id p less s k wide me small =
      let v : V = view p rests in
      let known = (k.each id v me).past in
      let w : V = view (joined p) rests in
      let kept = rule-renewed o s k id v w s.words s.homes k.f me refl refl k.two k.one k.size k.free
      (λ ne. IsHeld-set s.views id v w me (λ e. absurd (false≢true e)) (k.held ne))
      (seat-rested o k.f (get_or s.words 0 0) s.homes (joined p) (seat-as_told o k.f p p.lost p.turned [] known.turned (k.f.whole, refl) known))
      (λ j u other at. k.each j u at)
      (λ e. absurd (false≢true e))
      (λ _. refl)
      k.named in
      (w, keeps, tt, subst (λ ws. Rule o record { words = ws; homes = s.homes; views = set s.views id w }) (sym (set-get_or s.words 0 0)) kept, (refl, prefix-shorter p.beside p.seen k.f.whole known.aside known.sees less))

  pub seen-compared_as : (o : W) (slots id : ℕ) (m : Seated W E) (p : Past W E) → slots ≡ 1 → m ≡ guest p → length p.beside ≤ length p.seen → Allows (Rule o) slots id m 0 (λ n. n) (Compares (step slots 0 0 0 none) m)
  seen-compared_as o slots id m p wide e less = subst (λ (x : ℕ). Allows (Rule o) x id m 0 (λ n. n) (Compares (step x 0 0 0 none) m)) (sym wide)
      (subst (λ (x : Seated W E). Allows (Rule o) 1 id x 0 (λ n. n) (Compares (step 1 0 0 0 none) x)) (sym e) (seen-compared o id p less))

  -- the same at a seat that is known by its parts
  pub turn-taken_as : (o : W) (slots id : ℕ) (m : Seated W E) → slots ≡ 1 → m ≡ guest m.0.past → Lives m.0.past
      → Allows (Rule o) slots id m 0 (λ n. either (eqb n 0) 1 n) (Takes S (step slots 0 0 1 none) m)
  turn-taken_as o slots id m wide e lives = subst (λ (x : ℕ). Allows (Rule o) x id m 0 (λ n. either (eqb n 0) 1 n) (Takes S (step x 0 0 1 none) m)) (sym wide)
      (subst (λ (x : Seated W E). Allows (Rule o) 1 id x 0 (λ n. either (eqb n 0) 1 n) (Takes S (step 1 0 0 1 none) x)) (sym e) (turn-taken o id m.0.past lives))

  pub slot-opened_as : (o : W) (slots id : ℕ) (m : Seated W E) (opened : W) → slots ≡ 1 → m ≡ (starts opened, []) → Allows (Rule o) slots id m 0 (λ n. n) (Opens (step slots 0 0 0 none) m)
  slot-opened_as o slots id m opened wide e = subst (λ (x : ℕ). Allows (Rule o) x id m 0 (λ n. n) (Opens (step x 0 0 0 none) m)) (sym wide)
      (subst (λ (x : Seated W E). Allows (Rule o) 1 id x 0 (λ n. n) (Opens (step 1 0 0 0 none) x)) (sym e) (slot-opened o id opened))

  pub slot-shut_as : (o : W) (slots id : ℕ) (m : Seated W E) → slots ≡ 1 → m ≡ holder m.0.past m.0.turn.whole m.0.turn.taken None → Allows (Rule o) slots id m 0 (λ n. n) (Shuts (step slots 0 0 0 none) m)
  slot-shut_as o slots id m wide e = subst (λ (x : ℕ). Allows (Rule o) x id m 0 (λ n. n) (Shuts (step x 0 0 0 none) m)) (sym wide)
      (subst (λ (x : Seated W E). Allows (Rule o) 1 id x 0 (λ n. n) (Shuts (step 1 0 0 0 none) x)) (sym e) (slot-shut o id m.0.past m.0.turn.whole m.0.turn.taken))

  pub entry-noted_as : (o : W) (slots id : ℕ) (m : Seated W E) (w₀ : W) (e : E) → slots ≡ 1 → m ≡ holder m.0.past m.0.turn.whole m.0.turn.taken (Some w₀) → S.history w₀ ≡ m.0.turn.whole ++ e ∷ [] → S.actor e ≡ m.0.past.number → Lives m.0.past
      → length m.0.turn.whole < 2 ^ 64 - 1 → Allows (Rule o) slots id m 1 (λ n. (n + 1) % 2 ^ 64) (Notes S (step slots 1 1 0 none) m)
  entry-noted_as o slots id m w₀ e wide is more by lives room = subst (λ (x : ℕ). Allows (Rule o) x id m 1 (λ n. (n + 1) % 2 ^ 64) (Notes S (step x 1 1 0 none) m)) (sym wide)
      (subst (λ (x : Seated W E). Allows (Rule o) 1 id x 1 (λ n. (n + 1) % 2 ^ 64) (Notes S (step 1 1 1 0 none) x)) (sym is) (entry-noted o id m.0.past w₀ m.0.turn.whole m.0.turn.taken e lives more by room))

  pub turn-left_as : (o : W) (slots id : ℕ) (m : Seated W E) (w₀ : W) → slots ≡ 1 → m ≡ holder m.0.past m.0.turn.whole m.0.turn.taken (Some w₀) → Lives m.0.past → S.history w₀ ≡ m.0.turn.whole → Stays m.0.past w₀ → Follows m.0 w₀
      → Allows (Rule o) slots id m 0 (λ _. 0) (λ _. Leaves S (step slots 0 0 0 none) m 0)
  turn-left_as o slots id m w₀ wide is lives same stays follows = subst (λ (x : ℕ). Allows (Rule o) x id m 0 (λ _. 0) (λ _. Leaves S (step x 0 0 0 none) m 0)) (sym wide)
      (subst (λ (x : Seated W E). Allows (Rule o) 1 id x 0 (λ _. 0) (λ _. Leaves S (step 1 0 0 0 none) x 0)) (sym is) (turn-left o id m.0.past w₀ m.0.turn.whole m.0.turn.taken lives same stays follows))
