-- One thing behind the other, as long as one begins.
use Rattle.std.proofs.Common.{◌≡◌, ℕ, zero, suc, ◌<◌, ◌≤◌, Bool, true, false, ◌||◌, ◌⊎◌, List, [], ◌∷◌, ◌++◌, length, refl, sym, ap, ◌∙◌, subst, inl, inr, arith, length-append}
use Rattle.std.proofs.lemmas.List.{append_assoc}
use Rattle.std.specs.Prelude.{IsFalse}
use Rattle.schema_spec.specs.declared.token.TokenKind.{TokenKind}
use Rattle.schema_spec.specs.declared.token.Token.{Token}
use Rattle.schema_spec.specs.Fronts.{Front, Behind, Stops, ◌>>=◌, begins, nothing, many}
use Rattle.grammar_laws.specs.TestsLaws.{Alike}
use Rattle.grammar_laws.specs.ProductionsLaws.{Alikes, alikes-front, alikes-back, Part, Tests, chosen-first, chosen-second, shorter, many-step, part-many}
use Rattle.misfit_laws.proofs.Fillers.{Filler, AreFillers}
use Rattle.misfit_laws.proofs.Continuing.{Passed, OneTaken, Mended, Continues, nothing-left, parted, taken, taken-stop, taken-again, first-stop, behind-same, bind-passed, bind-stopped}

or-first : (a b : Bool) → a ≡ true → (a || b) ≡ true
or-first a b e = ap (λ x. x || b) e

or-second : (a b : Bool) → b ≡ true → (a || b) ≡ true
or-second true b e = refl
or-second false b e = e

-- F: what may follow all, G: what may follow an item. A token at which two are looked at, alone at the end, begins an item before what may follow, and is completed by tokens of its own.
module _ {A : Type 0} (K : TokenKind → Bool) (looks looks1 at at1 : List ℕ → Token → Bool) (F G : List ℕ → List Token → Type 0) (may : Bool) (short : List Filler)
    (test : List ℕ → List Token → Bool) (item : List ℕ → List Token → Front A) (tests : Tests looks test)
    (begun : (text : List ℕ) (tokens : List Token) → test text tokens ≡ true → begins (at1 text) tokens ≡ true)
    (always : (text : List ℕ) (tokens : List Token) → begins (at text) tokens ≡ true → test text tokens ≡ true)
    (within : (text : List ℕ) (c : Token) → IsFalse (at text c) → IsFalse (looks1 text c))
    (free : (text : List ℕ) (rest : List Token) → F text rest → test text rest ≡ false)
    (wider : (text : List ℕ) (rest : List Token) → F text rest → G text rest)
    (alone : (text other : List ℕ) (c : Token) (more : List Token) → Alike text c other c → (looks text c || looks1 text c) ≡ true → F other more → (test other (c ∷ more) ≡ true) × G other (c ∷ more))
    (mend : (text : List ℕ) (c : Token) → (looks text c || looks1 text c) ≡ true
    → (w : List Filler) × ((other : List ℕ) (others more : List Token) → Alike text c other c → AreFillers other w others → F other more
    → (test other (c ∷ (others ++ more)) ≡ true) × G other (c ∷ (others ++ more)) × Passed (item other (c ∷ (others ++ more))) more))
    (p : Continues K looks1 at1 G may short item) where
  abbrev items : List ℕ → List Token → Front (List A)
  items text = many (test text) (item text)

  abbrev with_item : A → Front (List A) → Front (List A)
  with_item a x = x >>= λ others behind. Behind (a ∷ others) behind

  abbrev behind_item : List ℕ → Front A → Front (List A)
  behind_item text x = x >>= λ a rest. with_item a (items text rest)

  part : Part K looks at items
  part = part-many K looks looks1 at at1 test item tests begun always within p.part

  step-true : (text : List ℕ) (tokens : List Token) → test text tokens ≡ true → items text tokens ≡ behind_item text (item text tokens)
  step-true text tokens e =
      many-step K looks looks1 at at1 test item tests begun always within p.part text tokens
      ∙ chosen-first (test text) (λ all. behind_item text (item text all)) (nothing []) tokens e

  step-false : (text : List ℕ) (tokens : List Token) → test text tokens ≡ false → items text tokens ≡ Behind [] tokens
  step-false text tokens e =
      many-step K looks looks1 at at1 test item tests begun always within p.part text tokens
      ∙ chosen-second (test text) (λ all. behind_item text (item text all)) (nothing []) tokens e

  less : (text : List ℕ) (tokens : List Token) → test text tokens ≡ true → (a : A) (rest : List Token) → item text tokens ≡ Behind a rest → length rest < length tokens
  less = shorter K looks looks1 at at1 test item tests begun always within p.part

  -- a test again, before other tokens
  test-again : (text other : List ℕ) (c : Token) (front rest more : List Token) → test text (c ∷ (front ++ rest)) ≡ true → Alikes text other (c ∷ front)
      → (front ≡ [] → looks text c ≡ true → test other (c ∷ more) ≡ true) → test other (c ∷ (front ++ more)) ≡ true
  test-again text other c (d ∷ front) rest more e alikes last = sym (tests text other (c ∷ d ∷ (front ++ rest)) (c ∷ d ∷ (front ++ more)) (refl, alikes.0, inr (refl, alikes.1.0))) ∙ e
  test-again text other c [] rest more e alikes last = by_look (looks text c) refl
    where
      by_look : (b : Bool) → looks text c ≡ b → test other (c ∷ more) ≡ true
      by_look true look = last refl look
      by_look false look = sym (tests text other (c ∷ rest) (c ∷ more) (refl, alikes.0, inl look)) ∙ e

  -- an item again, before other tokens
  item-again : (text other : List ℕ) (a : A) (f1 f2 rest more : List Token) → item text (f1 ++ (f2 ++ rest)) ≡ Behind a (f2 ++ rest) → Alikes text other f1 → Alikes text other f2 → (f2 ≡ [] → G other more)
      → ((c : Token) → f2 ≡ c ∷ [] → looks1 text c ≡ true → G other (c ∷ more)) → item other (f1 ++ (f2 ++ more)) ≡ Behind a (f2 ++ more)
  item-again text other a f1 [] rest more e al1 al2 follows last = p.kept text other f1 rest more a e al1 (follows refl)
  item-again text other a f1 (c ∷ []) rest more e al1 al2 follows last = by_look (looks1 text c) refl
    where
      by_look : (b : Bool) → looks1 text c ≡ b → item other (f1 ++ (c ∷ more)) ≡ Behind a (c ∷ more)
      by_look true look = p.kept text other f1 (c ∷ rest) (c ∷ more) a e al1 (last c refl look)
      by_look false look = taken-again p.part text other f1 (c ∷ rest) (c ∷ more) a e al1 (refl, al2.0, inl look)
  item-again text other a f1 (c ∷ d ∷ f2) rest more e al1 al2 follows last =
      taken-again p.part text other f1 (c ∷ d ∷ (f2 ++ rest)) (c ∷ d ∷ (f2 ++ more)) a e al1 (refl, al2.0, inr (refl, al2.1.0))

  none-left : (other : List ℕ) (more : List Token) → F other more → items other more ≡ Behind [] more
  none-left other more follows = step-false other more (free other more follows)

  abbrev IsKept : List ℕ → List ℕ → List Token → Type 0
  IsKept text other rest = (front more : List Token) (all : List A) → items text (front ++ rest) ≡ Behind all rest → Alikes text other front → F other more → items other (front ++ more) ≡ Behind all more

  -- by the items behind the first
  kept-from : (text other : List ℕ) (front rest more : List Token) (all : List A) (b : Bool) → test text (front ++ rest) ≡ b → items text (front ++ rest) ≡ Behind all rest → Alikes text other front → F other more
      → ((f2 : List Token) → length (f2 ++ rest) < length (front ++ rest) → (others : List A) → items text (f2 ++ rest) ≡ Behind others rest → Alikes text other f2 → items other (f2 ++ more) ≡ Behind others more)
      → items other (front ++ more) ≡ Behind all more
  kept-from text other front rest more all false e is alikes follows deeper =
      let (same, left) = behind-same [] all (front ++ rest) rest (sym (step-false text (front ++ rest) e) ∙ is) in
      ap (λ f. items other (f ++ more)) (nothing-left front rest left) ∙ none-left other more follows ∙ ap (λ x. Behind x more) same
  kept-from text other front rest more all true e is alikes follows deeper =
      let (a, middle, first, second) = bind-passed (item text (front ++ rest)) (λ a rest. with_item a (items text rest)) all rest (sym (step-true text (front ++ rest) e) ∙ is) in
      let (others, left, third, fourth) = bind-passed (items text middle) (λ others behind. Behind (a ∷ others) behind) all rest second in
      let (same, here) = behind-same (a ∷ others) all left rest fourth in
      let (f2, is2) = taken part text middle left others third in
      let is2r : middle ≡ f2 ++ rest = is2 ∙ ap (λ x. f2 ++ x) here in
      let (f1, whole, passed) = parted p.part text front rest middle f2 a first is2r in
      let al : Alikes text other (f1 ++ f2) = subst (Alikes text other) whole alikes in
      let short_middle : length middle < length (front ++ rest) = less text (front ++ rest) e a middle first in
      let short : length (f2 ++ rest) < length (front ++ rest) = subst (λ x. length x < length (front ++ rest)) is2r short_middle in
      let behind : items other (f2 ++ more) ≡ Behind others more = deeper f2 short others (ap (items text) (sym is2r) ∙ third ∙ ap (λ x. Behind others x) here) (alikes-back text other f1 f2 al) in
      step-true other (front ++ more) (tested front f2 short e alikes)
      ∙ ap (λ x. behind_item other (item other x)) (ap (λ f. f ++ more) whole ∙ append_assoc f1 f2 more)
      ∙ ap (behind_item other)
      (item-again text other a f1 f2 rest more passed (alikes-front text other f1 f2 al) (alikes-back text other f1 f2 al) (λ none. wider other more follows)
      (λ c one look. (alone text other c more (subst (Alikes text other) one (alikes-back text other f1 f2 al)).0 (or-second (looks text c) (looks1 text c) look) follows).1))
      ∙ ap (with_item a) behind
      ∙ ap (λ x. Behind x more) same
    where
      tested : (front f2 : List Token) → length (f2 ++ rest) < length (front ++ rest) → test text (front ++ rest) ≡ true → Alikes text other front → test other (front ++ more) ≡ true
      tested [] f2 short e alikes = absurd (omega (arith, short, length-append f2 rest))
      tested (c ∷ front) f2 short e alikes =
          test-again text other c front rest more e alikes (λ none look. (alone text other c more alikes.0 (or-first (looks text c) (looks1 text c) look) follows).0)

  items-kept : (n : ℕ) (text other : List ℕ) (front rest more : List Token) (all : List A) → length (front ++ rest) ≤ n → items text (front ++ rest) ≡ Behind all rest → Alikes text other front → F other more
      → items other (front ++ more) ≡ Behind all more
  items-kept zero text other front rest more all fits is alikes follows =
      kept-from text other front rest more all (test text (front ++ rest)) refl is alikes follows (λ f2 short others third al. absurd (omega (arith, short, fits)))
  items-kept (suc n) text other front rest more all fits is alikes follows =
      kept-from text other front rest more all (test text (front ++ rest)) refl is alikes follows
      (λ f2 short others third al. items-kept n text other f2 rest more others (omega (arith, short, fits)) third al follows)

  -- a stop is behind the first token
  stop-behind : (text : List ℕ) (rest : List Token) (b : Bool) → test text rest ≡ b → items text rest ≡ Stops rest → ⊥
  stop-behind text rest false e is = let wrong = sym (step-false text rest e) ∙ is in absurd (cc)
  stop-behind text rest true e is = by_stop (bind-stopped (item text rest) (λ a rest. with_item a (items text rest)) rest (sym (step-true text rest e) ∙ is))
    where
      by_others : (a : A) (middle : List Token) → item text rest ≡ Behind a middle → (items text middle ≡ Stops rest) ⊎ ((others : List A) × (left : List Token) × (items text middle ≡ Behind others left) × (Behind (a ∷ others) left ≡ Stops rest)) → ⊥
      by_others a middle first (inl stop) =
          let (f2, is2) = taken-stop part text middle rest stop in
          let short = less text rest e a middle first in
          let long : length middle ≡ length (f2 ++ rest) = ap length is2 in omega (arith, short, long, length-append f2 rest)
      by_others a middle first (inr (others, left, third, fourth)) = absurd (cc)

      by_stop : (item text rest ≡ Stops rest) ⊎ ((a : A) × (middle : List Token) × (item text rest ≡ Behind a middle) × (with_item a (items text middle) ≡ Stops rest)) → ⊥
      by_stop (inl stop) = let wrong = sym (begun text rest e) ∙ first-stop p.part text rest stop in absurd (cc)
      by_stop (inr (a, middle, first, second)) = by_others a middle first (bind-stopped (items text middle) (λ others behind. Behind (a ∷ others) behind) rest second)

  -- no item begins at what is left
  left-from : (text : List ℕ) (tokens rest : List Token) (all : List A) (b : Bool) → test text tokens ≡ b → items text tokens ≡ Behind all rest
      → ((middle : List Token) (others : List A) → length middle < length tokens → items text middle ≡ Behind others rest → test text rest ≡ false) → test text rest ≡ false
  left-from text tokens rest all false e is deeper = ap (test text) (sym (behind-same [] all tokens rest (sym (step-false text tokens e) ∙ is)).1) ∙ e
  left-from text tokens rest all true e is deeper =
      let (a, middle, first, second) = bind-passed (item text tokens) (λ a rest. with_item a (items text rest)) all rest (sym (step-true text tokens e) ∙ is) in
      let (others, left, third, fourth) = bind-passed (items text middle) (λ others behind. Behind (a ∷ others) behind) all rest second in
      deeper middle others (less text tokens e a middle first) (third ∙ ap (λ x. Behind others x) (behind-same (a ∷ others) all left rest fourth).1)

  left-within : (n : ℕ) (text : List ℕ) (tokens rest : List Token) (all : List A) → length tokens ≤ n → items text tokens ≡ Behind all rest → test text rest ≡ false
  left-within zero text tokens rest all fits is = left-from text tokens rest all (test text tokens) refl is (λ middle others short third. absurd (omega (arith, short, fits)))
  left-within (suc n) text tokens rest all fits is =
      left-from text tokens rest all (test text tokens) refl is (λ middle others short third. left-within n text middle rest others (omega (arith, short, fits)) third)

  pub items-left : (text : List ℕ) (tokens rest : List Token) (all : List A) → items text tokens ≡ Behind all rest → test text rest ≡ false
  items-left text tokens rest all is = left-within (length tokens) text tokens rest all (omega arith) is

  -- behind an item that takes much little is left
  pub items-short : (text : List ℕ) (tokens left : List Token) (n : ℕ) → test text tokens ≡ true → ((a : A) (middle : List Token) → item text tokens ≡ Behind a middle → length middle < n)
      → ((at : List Token) → item text tokens ≡ Stops at → length at < n) → OneTaken (items text tokens) left → length left < n
  items-short text tokens left n e takes stops (inl (all, is)) =
      let (a, middle, first, second) = bind-passed (item text tokens) (λ a rest. with_item a (items text rest)) all left (sym (step-true text tokens e) ∙ is) in
      let (others, last, third, fourth) = bind-passed (items text middle) (λ others behind. Behind (a ∷ others) behind) all left second in
      let (front, whole) = taken part text middle last others third in
      let long : length middle ≡ length (front ++ last) = ap length whole in
      let same : length last ≡ length left = ap length (behind-same (a ∷ others) all last left fourth).1 in
      let short = takes a middle first in omega (arith, long, same, short, length-append front last)
  items-short text tokens left n e takes stops (inr is) = by_stop (bind-stopped (item text tokens) (λ a rest. with_item a (items text rest)) left (sym (step-true text tokens e) ∙ is))
    where
      by_others : (a : A) (middle : List Token) → item text tokens ≡ Behind a middle
          → (items text middle ≡ Stops left) ⊎ ((others : List A) × (last : List Token) × (items text middle ≡ Behind others last) × (Behind (a ∷ others) last ≡ Stops left)) → length left < n
      by_others a middle first (inl stop) =
          let (front, whole) = taken-stop part text middle left stop in
          let long : length middle ≡ length (front ++ left) = ap length whole in let short = takes a middle first in omega (arith, long, short, length-append front left)
      by_others a middle first (inr (others, last, third, fourth)) = absurd (cc)

      by_stop : (item text tokens ≡ Stops left) ⊎ ((a : A) × (middle : List Token) × (item text tokens ≡ Behind a middle) × (with_item a (items text middle) ≡ Stops left)) → length left < n
      by_stop (inl stop) = stops left stop
      by_stop (inr (a, middle, first, second)) = by_others a middle first (bind-stopped (items text middle) (λ others behind. Behind (a ∷ others) behind) left second)

  abbrev Mends : List ℕ → List Token → Type 0
  Mends text front = Mended K looks at F true [] items text front

  -- an item that is completed is the last
  last-item : (other : List ℕ) (tokens more : List Token) → test other tokens ≡ true → F other more → Passed (item other tokens) more → Passed (items other tokens) more
  last-item other tokens more e follows (a, is) = (a ∷ [], step-true other tokens e ∙ ap (behind_item other) is ∙ ap (with_item a) (none-left other more follows))

  -- the item that stops, by its first token and those behind it
  stopped-item : (text : List ℕ) (c : Token) (front rest : List Token) → test text ((c ∷ front) ++ rest) ≡ true → item text ((c ∷ front) ++ rest) ≡ Stops rest → Mends text (c ∷ front)
  stopped-item text c (d ∷ front) rest e stop =
      let (w, go) = p.mended text c (d ∷ front) rest stop in (
        w,
        λ other others more alikes fillers follows.
            last-item other ((c ∷ d ∷ front) ++ (others ++ more)) more (test-again text other c (d ∷ front) rest (others ++ more) e alikes (λ none look. absurd (cc))) follows
            (go other others more alikes fillers (wider other more follows)),
      )
  stopped-item text c [] rest e stop = by_look (looks text c || looks1 text c) refl
    where
      not_first : (a b : Bool) → (a || b) ≡ false → a ≡ true → ⊥
      not_first true b e f = absurd (cc)
      not_first false b e f = absurd (cc)

      by_look : (b : Bool) → (looks text c || looks1 text c) ≡ b → Mends text (c ∷ [])
      by_look true look =
          let (w, go) = mend text c look in (
            w,
            λ other others more alikes fillers follows.
                let (tested, may_follow, passed) = go other others more alikes.0 fillers follows in last-item other (c ∷ (others ++ more)) more tested follows passed,
          )
      by_look false look =
          let (w, go) = p.mended text c [] rest stop in (
            w,
            λ other others more alikes fillers follows.
                last-item other (c ∷ (others ++ more)) more (test-again text other c [] rest (others ++ more) e alikes (λ none one. absurd (not_first (looks text c) (looks1 text c) look one))) follows
                (go other others more alikes fillers (wider other more follows)),
          )

  -- items that stop behind another, which stays
  abbrev Behinds : List ℕ → List Token → Type 0
  Behinds text front = (w : List Filler) × ((other : List ℕ) (others more : List Token) → Alikes text other front → AreFillers other w others → F other more
      → Passed (items other (front ++ (others ++ more))) more × ((c : Token) → front ≡ c ∷ [] → looks1 text c ≡ true → G other (c ∷ (others ++ more))))

  behind-mended : (text : List ℕ) (c : Token) (front : List Token) → Mends text (c ∷ front) → Behinds text (c ∷ front)
  behind-mended text c (d ∷ front) (w, go) = (w, λ other others more alikes fillers follows. (go other others more alikes fillers follows, λ x one look. absurd (cc)))
  behind-mended text c [] (w, go) = by_look (looks text c || looks1 text c) refl
    where
      by_look : (b : Bool) → (looks text c || looks1 text c) ≡ b → Behinds text (c ∷ [])
      by_look true look =
          let (v, mended) = mend text c look in (
            v,
            λ other others more alikes fillers follows.
                let (tested, may_follow, passed) = mended other others more alikes.0 fillers follows in
                (last-item other (c ∷ (others ++ more)) more tested follows passed, λ x one look. let same : c ≡ x = cc in subst (λ y. G other (y ∷ (others ++ more))) same may_follow),
          )
      by_look false look = (
        w,
        λ other others more alikes fillers follows. (
          go other others more alikes fillers follows,
          λ x one second. let same : c ≡ x = cc in let wrong = sym (or-second (looks text c) (looks1 text c) (ap (looks1 text) same ∙ second)) ∙ look in absurd (cc),
        ),
      )

  mended-from : (text : List ℕ) (c : Token) (front rest : List Token) (b : Bool) → test text ((c ∷ front) ++ rest) ≡ b → items text ((c ∷ front) ++ rest) ≡ Stops rest
      → ((d : Token) (f2 : List Token) → length ((d ∷ f2) ++ rest) < length ((c ∷ front) ++ rest) → items text ((d ∷ f2) ++ rest) ≡ Stops rest → Mends text (d ∷ f2)) → Mends text (c ∷ front)
  mended-from text c front rest false e is deeper = let wrong = sym (step-false text ((c ∷ front) ++ rest) e) ∙ is in absurd (cc)
  mended-from text c front rest true e is deeper =
      by_stop (bind-stopped (item text ((c ∷ front) ++ rest)) (λ a rest. with_item a (items text rest)) rest (sym (step-true text ((c ∷ front) ++ rest) e) ∙ is))
    where
      behind : (a : A) (middle f2 : List Token) → item text ((c ∷ front) ++ rest) ≡ Behind a middle → items text middle ≡ Stops rest → middle ≡ f2 ++ rest → Mends text (c ∷ front)
      behind a middle [] first stop is2 = absurd (stop-behind text rest (test text rest) refl (ap (items text) (sym is2) ∙ stop))
      behind a middle (d ∷ f2) first stop is2 =
          let (f1, whole, passed) = parted p.part text (c ∷ front) rest middle (d ∷ f2) a first is2 in
          let short_middle = less text ((c ∷ front) ++ rest) e a middle first in
          let short : length ((d ∷ f2) ++ rest) < length ((c ∷ front) ++ rest) = subst (λ x. length x < length ((c ∷ front) ++ rest)) is2 short_middle in
          let (w, go) = behind-mended text d f2 (deeper d f2 short (ap (items text) (sym is2) ∙ stop)) in
          let some : front ≡ [] → ⊥ = λ none. (let long : length front ≡ 0 = ap length none in omega (arith, long, short, length-append (c ∷ front) rest, length-append (d ∷ f2) rest)) in (
            w,
            λ other others more alikes fillers follows.
                let al : Alikes text other (f1 ++ (d ∷ f2)) = subst (Alikes text other) whole alikes in
                let al2 = alikes-back text other f1 (d ∷ f2) al in
                let (done, last) = go other others more al2 fillers follows in (
                  a ∷ done.0,
                  step-true other ((c ∷ front) ++ (others ++ more)) (test-again text other c front rest (others ++ more) e alikes (λ none look. absurd (some none)))
                      ∙ ap (λ x. behind_item other (item other x)) (ap (λ f. f ++ (others ++ more)) whole ∙ append_assoc f1 (d ∷ f2) (others ++ more))
                      ∙ ap (behind_item other) (item-again text other a f1 (d ∷ f2) rest (others ++ more) passed (alikes-front text other f1 (d ∷ f2) al) al2 (λ none. absurd (cc)) last)
                      ∙ ap (with_item a) done.1,
                ),
          )

      by_others : (a : A) (middle : List Token) → item text ((c ∷ front) ++ rest) ≡ Behind a middle
          → (items text middle ≡ Stops rest) ⊎ ((others : List A) × (left : List Token) × (items text middle ≡ Behind others left) × (Behind (a ∷ others) left ≡ Stops rest)) → Mends text (c ∷ front)
      by_others a middle first (inl stop) = let (f2, is2) = taken-stop part text middle rest stop in behind a middle f2 first stop is2
      by_others a middle first (inr (others, left, third, fourth)) = absurd (cc)

      by_stop : (item text ((c ∷ front) ++ rest) ≡ Stops rest) ⊎ ((a : A) × (middle : List Token) × (item text ((c ∷ front) ++ rest) ≡ Behind a middle) × (with_item a (items text middle) ≡ Stops rest)) → Mends text (c ∷ front)
      by_stop (inl stop) = stopped-item text c front rest e stop
      by_stop (inr (a, middle, first, second)) = by_others a middle first (bind-stopped (items text middle) (λ others behind. Behind (a ∷ others) behind) rest second)

  items-mended : (n : ℕ) (text : List ℕ) (c : Token) (front rest : List Token) → length ((c ∷ front) ++ rest) ≤ n → items text ((c ∷ front) ++ rest) ≡ Stops rest → Mends text (c ∷ front)
  items-mended zero text c front rest fits is = mended-from text c front rest (test text ((c ∷ front) ++ rest)) refl is (λ d f2 short stop. absurd (omega (arith, short, fits)))
  items-mended (suc n) text c front rest fits is =
      mended-from text c front rest (test text ((c ∷ front) ++ rest)) refl is (λ d f2 short stop. items-mended n text d f2 rest (omega (arith, short, fits)) stop)

  items-fresh : (other : List ℕ) (others more : List Token) → AreFillers other [] others → F other more → Passed (items other (others ++ more)) more
  items-fresh other [] more fillers follows = ([], none-left other more follows)
  items-fresh other (c ∷ others) more fillers follows = absurd fillers

  pub continues-many : Continues K looks at F true [] items
  continues-many = record {
    part = part;
    fresh = items-fresh;
    kept = λ text other front rest more all e alikes follows. items-kept (length (front ++ rest)) text other front rest more all (omega arith) e alikes follows;
    empty = λ text rest all e. refl;
    mended = λ text c front rest e. items-mended (length ((c ∷ front) ++ rest)) text c front rest (omega arith) e;
  }
