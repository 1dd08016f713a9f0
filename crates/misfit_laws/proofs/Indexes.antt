-- The productions of indexes.
use Rattle.std.proofs.Common.{◌≡◌, ℕ, Bool, true, false, ◌||◌, List, [], ◌∷◌, ◌++◌, refl, sym, ap, ◌∙◌, subst, inl}
use Rattle.std.proofs.lemmas.List.{append_assoc}
use Rattle.std.specs.Prelude.{IsTrue, is_some, Some, None, codes}
use Rattle.std.specs.List.{AllByRecursion}
use Rattle.schema_spec.specs.declared.token.Token.{Token}
use Rattle.schema_spec.specs.declared.syntax.ListedColumn.{ListedColumn}
use Rattle.schema_spec.specs.declared.syntax.IndexedPart.{IndexedPart}
use Rattle.schema_spec.specs.declared.syntax.IndexedPart.TheVariants.{Column, Expression}
use Rattle.schema_spec.specs.Words.{is_keyword, is_sign, is_name, is_sql}
use Rattle.schema_spec.specs.Fronts.{Front, Behind, Stops, ◌>>=◌, begins, either, misfit}
use Rattle.schema_spec.specs.Brackets.{ends_part, to_separator}
use Rattle.schema_spec.specs.TableGrammar.{stands_alone, indexed_column, indexed_part, index_statement}
use Rattle.grammar_laws.specs.Lexemes.{is_whole}
use Rattle.grammar_laws.specs.TestsLaws.{none, is_wordy, ends-respects, wordy-whole, ends-not_wordy, not_sql-not_wordy, ends-not_name}
use Rattle.grammar_laws.specs.ProductionsLaws.{Alikes, Same, Next, next-same, same-next, same-behind, alikes-front, alikes-back, Outcome, Part, tests-one, chosen-first, chosen-second}
use Rattle.misfit_laws.proofs.Fillers.{Filler, Capitals, Opening, Closing}
use Rattle.misfit_laws.proofs.Continuing.{Ends, Closes, Apart, Passed, Mended, Continues, longer, behind-same, bind-passed, closes-apart, continues-then, continues-before, continues-made}
use Rattle.misfit_laws.proofs.Choosing.{continues-maybe, continues-maybe_then, continues-ended}
use Rattle.misfit_laws.proofs.Following.{apart-words, ends-free}
use Rattle.misfit_laws.proofs.Skips.{some_to_end-continues}
use Rattle.misfit_laws.proofs.Separators.{to_separator-run, IsLeft, separator-left, separator-kept, separator-mended, words-parted}
use Rattle.misfit_laws.proofs.Stopping.{listed-stop}
use Rattle.misfit_laws.proofs.Lists.{a_name, both_orders, word-continues, keyword-respects, name-continues, listed_columns-continues, list_in_brackets-continues}

-- of two fronts of the same tokens, of which one has words and names alone and the other ends before something else, the one is a front of the other
front-of : (front longer rest behind : List Token) → front ++ rest ≡ longer ++ behind → AllByRecursion (λ c. IsTrue (is_wordy c.kind)) front → begins (λ c. is_wordy c.kind) behind ≡ false
    → (more : List Token) × (longer ≡ front ++ more) × (rest ≡ more ++ behind)
front-of [] longer rest behind e words ends = (longer, refl, e)
front-of (c ∷ front) [] rest behind e words ends =
    let same : begins (λ x. is_wordy x.kind) behind ≡ is_wordy c.kind = ap (begins (λ x. is_wordy x.kind)) (sym e) in
    let wrong : ◌≡◌ {A = Bool} true false = sym words.0 ∙ sym same ∙ ends in absurd (cc)
front-of (c ∷ front) (d ∷ longer) rest behind e words ends =
    let head : c ≡ d = cc in
    let tail : front ++ rest ≡ longer ++ behind = cc in
    let found = front-of front longer rest behind tail words.1 ends in
    (found.0, ap (λ x. x ∷ longer) (sym head) ∙ ap (λ x. c ∷ x) found.1, found.2)

indexed_words-continues : Continues is_wordy none is_name Apart false (a_name ∷ []) (λ text. indexed_column text)
indexed_words-continues = listed_columns-continues is_wordy (λ kind h. h) both_orders (apart-words both_orders refl)

ends-first : (text : List ℕ) (rest : List Token) → begins (ends_part text) rest ≡ true → begins (λ c. is_wordy c.kind) rest ≡ false
ends-first text [] e = refl
ends-first text (c ∷ rest) e = ends-not_wordy text c e

not_sql-first : (text : List ℕ) (rest : List Token) → begins (is_sql text) rest ≡ false → begins (λ c. is_wordy c.kind) rest ≡ false
not_sql-first text [] e = refl
not_sql-first text (c ∷ rest) e = not_sql-not_wordy text c e

-- a part of an index that is no column alone is none in a text with the same tokens up to something that is no word
not_alone : (text other : List ℕ) (tokens front rest others : List Token) → tokens ≡ front ++ rest → begins (λ c. is_wordy c.kind) rest ≡ false → stands_alone text (indexed_column text tokens) ≡ false
    → Alikes text other front → Same text other rest others → stands_alone other (indexed_column other (front ++ others)) ≡ false
not_alone text other tokens front rest others parted ends alone alikes same = by_outcome (indexed_column text tokens) (indexed_words-continues.part.run text tokens) alone
  where
    by_outcome : (x : Front ListedColumn) → Outcome is_wordy none is_name (λ text. indexed_column text) text tokens x → stands_alone text x ≡ false → stands_alone other (indexed_column other (front ++ others)) ≡ false
    by_outcome (Stops stop) p e =
        let (more, longer, left) = front-of p.front front stop rest (sym p.parted ∙ parted) p.kinds ends in
        let alike : Alikes text other (p.front ++ more) = subst (λ x. Alikes text other x) longer alikes in
        let same_left : Same text other stop (more ++ others) =
        subst (λ x. Same text other x (more ++ others)) (sym left) (same-behind text other more rest others (alikes-back text other p.front more alike) same) in
        ap (λ x. stands_alone other (indexed_column other (x ++ others))) longer
        ∙ ap (λ x. stands_alone other (indexed_column other x)) (append_assoc p.front more others)
        ∙ ap (stands_alone other) (p.local other (more ++ others) (alikes-front text other p.front more alike) same_left)
    by_outcome (Behind column stop) p e =
        let (more, longer, left) = front-of p.front front stop rest (sym p.parted ∙ parted) p.kinds ends in
        let alike : Alikes text other (p.front ++ more) = subst (λ x. Alikes text other x) longer alikes in
        let same_left : Next none text other stop (more ++ others) =
        subst (λ x. Next none text other x (more ++ others)) (sym left)
        (same-next text other (more ++ rest) (more ++ others) (same-behind text other more rest others (alikes-back text other p.front more alike) same)) in
        ap (λ x. stands_alone other (indexed_column other (x ++ others))) longer
        ∙ ap (λ x. stands_alone other (indexed_column other x)) (append_assoc p.front more others)
        ∙ ap (stands_alone other) (p.local other (more ++ others) (alikes-front text other p.front more alike) same_left)
        ∙ sym (tests-one ends_part ends-respects text other stop (more ++ others) same_left) ∙ e

abbrev expression : List ℕ → List Token → Front IndexedPart
expression text = to_separator Expression text 0

abbrev no_column : List ℕ → List Token → Front IndexedPart
no_column text = either (begins (ends_part text)) misfit (expression text)

abbrev alone : List ℕ → List Token → Bool
alone text tokens = stands_alone text (indexed_column text tokens)

abbrev plain_column : List ℕ → List Token → Front IndexedPart
plain_column text tokens = indexed_column text tokens >>= λ column rest. Behind (Column column) rest

indexed_part-part : Part is_whole none none (λ text. indexed_part text)
indexed_part-part = record { run = λ text tokens. by_test text tokens (alone text tokens) refl }
  where
    first-none : (text : List ℕ) (tokens : List Token) → begins (none text) tokens ≡ false
    first-none text [] = refl
    first-none text (c ∷ tokens) = refl

    whole : (front : List Token) → AllByRecursion (λ c. IsTrue (is_wordy c.kind)) front → AllByRecursion (λ c. IsTrue (is_whole c.kind)) front
    whole [] words = tt
    whole (c ∷ front) words = (wordy-whole c.kind words.0, whole front words.1)

    of_column : (text : List ℕ) (tokens : List Token) (x : Front ListedColumn) → Outcome is_wordy none is_name (λ text. indexed_column text) text tokens x → stands_alone text x ≡ true
        → Outcome is_whole none none (λ text. indexed_part text) text tokens (x >>= λ column rest. Behind (Column column) rest)
    of_column text tokens (Stops rest) p e = absurd (cc)
    of_column text tokens (Behind column rest) p e = record {
      front = p.front;
      parted = p.parted;
      kinds = whole p.front p.kinds;
      first = λ h. first-none text tokens;
      local = λ other others alikes next.
          let is = p.local other others alikes next in
          chosen-first (alone other) (plain_column other) (no_column other) (p.front ++ others) (ap (stands_alone other) is ∙ sym (tests-one ends_part ends-respects text other rest others next) ∙ e)
          ∙ ap (λ x. x >>= λ column rest. Behind (Column column) rest) is;
    }

    -- up to the separator the choice is the same
    chosen : (text other : List ℕ) (tokens front rest others : List Token) → tokens ≡ front ++ rest → begins (λ c. is_wordy c.kind) rest ≡ false → alone text tokens ≡ false
        → Alikes text other front → Same text other rest others → indexed_part other (front ++ others) ≡ no_column other (front ++ others)
    chosen text other tokens front rest others parted ends e alikes same =
        chosen-second (alone other) (plain_column other) (no_column other) (front ++ others) (not_alone text other tokens front rest others parted ends e alikes same)

    -- up to there it begins with no end of a part
    no_end : (text other : List ℕ) (tokens front rest others : List Token) → tokens ≡ front ++ rest → begins (ends_part text) tokens ≡ false → Alikes text other front → Same text other rest others
        → no_column other (front ++ others) ≡ expression other (front ++ others)
    no_end text other tokens front rest others parted f alikes same =
        chosen-second (begins (ends_part other)) misfit (expression other) (front ++ others)
        (sym (tests-one ends_part ends-respects text other (front ++ rest) (front ++ others)
        (same-next text other (front ++ rest) (front ++ others) (same-behind text other front rest others alikes same)))
        ∙ ap (begins (ends_part text)) (sym parted) ∙ f)

    of_expression : (text : List ℕ) (tokens : List Token) → alone text tokens ≡ false → begins (ends_part text) tokens ≡ false → (x : Front IndexedPart)
        → Outcome is_whole none none expression text tokens x → IsLeft Expression text x → Outcome is_whole none none (λ text. indexed_part text) text tokens x
    of_expression text tokens e f (Behind part rest) p left = record {
      front = p.front;
      parted = p.parted;
      kinds = p.kinds;
      first = λ h. first-none text tokens;
      local = λ other others alikes next.
          chosen text other tokens p.front rest others p.parted (ends-first text rest left) e alikes (next-same none text other rest others next)
          ∙ no_end text other tokens p.front rest others p.parted f alikes (next-same none text other rest others next)
          ∙ p.local other others alikes next;
    }
    of_expression text tokens e f (Stops rest) p left = record {
      front = p.front;
      parted = p.parted;
      kinds = p.kinds;
      first = λ h. first-none text tokens;
      local = λ other others alikes same.
          chosen text other tokens p.front rest others p.parted (not_sql-first text rest left) e alikes same
          ∙ no_end text other tokens p.front rest others p.parted f alikes same
          ∙ p.local other others alikes same;
    }

    by_end : (text : List ℕ) (tokens : List Token) → alone text tokens ≡ false → (b : Bool) → begins (ends_part text) tokens ≡ b
        → Outcome is_whole none none (λ text. indexed_part text) text tokens (elim b as (λ _. Front IndexedPart) [ true ↦ Stops tokens | false ↦ to_separator Expression text 0 tokens ])
    by_end text tokens e true f = record {
      front = [];
      parted = refl;
      kinds = tt;
      first = λ h. first-none text tokens;
      local = λ other others alikes same.
          chosen text other tokens [] tokens others refl (ends-first text tokens f) e tt same
          ∙ chosen-first (begins (ends_part other)) misfit (expression other) others (sym (tests-one ends_part ends-respects text other tokens others (same-next text other tokens others same)) ∙ f);
    }
    by_end text tokens e false f =
        of_expression text tokens e f (to_separator Expression text 0 tokens) (to_separator-run Expression text 0 tokens) (separator-left Expression text 0 tokens)

    by_test : (text : List ℕ) (tokens : List Token) (b : Bool) → alone text tokens ≡ b
        → Outcome is_whole none none (λ text. indexed_part text) text tokens (elim b as (λ _. Front IndexedPart) [ true ↦ plain_column text tokens | false ↦ no_column text tokens ])
    by_test text tokens true e = of_column text tokens (indexed_column text tokens) (indexed_words-continues.part.run text tokens) e
    by_test text tokens false e = by_end text tokens e (begins (ends_part text) tokens) refl

-- Before another separator.

closes-ends : (text : List ℕ) (rest : List Token) → Closes text rest → begins (ends_part text) rest ≡ true
closes-ends text [] h = absurd (cc)
closes-ends text (c ∷ rest) h = second (is_sign 44 text c) (is_sign 41 text c) h
  where
    second : (a b : Bool) → b ≡ true → (a || b) ≡ true
    second true b e = refl
    second false b e = e

ends-no_name : (text : List ℕ) (rest : List Token) → begins (ends_part text) rest ≡ true → begins (is_name text) rest ≡ false
ends-no_name text [] e = refl
ends-no_name text (c ∷ rest) e = ends-not_name text c e

-- what is no column alone before one separator is none before another
alone-again : (text other : List ℕ) (front rest more : List Token) → begins (ends_part text) rest ≡ true → begins (ends_part other) more ≡ true → alone text (front ++ rest) ≡ false → Alikes text other front
    → alone other (front ++ more) ≡ false
alone-again text other front rest more ends others not_one alikes = by_outcome (indexed_column text (front ++ rest)) refl (indexed_words-continues.part.run text (front ++ rest)) not_one
  where
    by_stop : (f1 stop m : List Token) → front ≡ f1 ++ m → stop ≡ m ++ rest → indexed_column text (front ++ rest) ≡ Stops stop → ((next : List Token) → Alikes text other f1 → Same text other stop next → indexed_column other (f1 ++ next) ≡ Stops next)
        → alone other (front ++ more) ≡ false
    by_stop f1 stop [] longer_by left is local =
        ap (stands_alone other) (listed-stop both_orders (apart-words both_orders refl) text other front rest more (is ∙ ap (λ x. Stops x) left) alikes (ends-no_name other more others))
    by_stop f1 stop (c ∷ m) longer_by left is local =
        let al : Alikes text other (f1 ++ (c ∷ m)) = subst (Alikes text other) longer_by alikes in
        ap (λ x. alone other (x ++ more)) longer_by ∙ ap (alone other) (append_assoc f1 (c ∷ m) more)
        ∙ ap (stands_alone other) (local ((c ∷ m) ++ more) (alikes-front text other f1 (c ∷ m) al) (subst (λ x. Same text other x ((c ∷ m) ++ more)) (sym left) (refl, (alikes-back text other f1 (c ∷ m) al).0)))

    by_column : (column : ListedColumn) (f1 stop m : List Token) → front ≡ f1 ++ m → stop ≡ m ++ rest → begins (ends_part text) stop ≡ false
        → ((next : List Token) → Alikes text other f1 → Next none text other stop next → indexed_column other (f1 ++ next) ≡ Behind column next) → alone other (front ++ more) ≡ false
    by_column column f1 stop [] longer_by left not_end local = let wrong = sym ends ∙ ap (begins (ends_part text)) (sym left) ∙ not_end in absurd (cc)
    by_column column f1 stop (c ∷ m) longer_by left not_end local =
        let al : Alikes text other (f1 ++ (c ∷ m)) = subst (Alikes text other) longer_by alikes in
        let alike = (alikes-back text other f1 (c ∷ m) al).0 in
        ap (λ x. alone other (x ++ more)) longer_by ∙ ap (alone other) (append_assoc f1 (c ∷ m) more)
        ∙ ap (stands_alone other) (local ((c ∷ m) ++ more) (alikes-front text other f1 (c ∷ m) al) (subst (λ x. Next none text other x ((c ∷ m) ++ more)) (sym left) (refl, alike, inl refl)))
        ∙ sym (ends-respects text other c c alike) ∙ ap (begins (ends_part text)) (sym left) ∙ not_end

    by_outcome : (x : Front ListedColumn) → indexed_column text (front ++ rest) ≡ x → Outcome is_wordy none is_name (λ text. indexed_column text) text (front ++ rest) x → stands_alone text x ≡ false → alone other (front ++ more) ≡ false
    by_outcome (Stops stop) is p e =
        let (m, longer_by, left) = front-of p.front front stop rest (sym p.parted) p.kinds (ends-first text rest ends) in
        by_stop p.front stop m longer_by left is (λ next al same. p.local other next al same)
    by_outcome (Behind column stop) is p e =
        let (m, longer_by, left) = front-of p.front front stop rest (sym p.parted) p.kinds (ends-first text rest ends) in
        by_column column p.front stop m longer_by left e (λ next al same. p.local other next al same)

plain-chosen : (text : List ℕ) (tokens rest : List Token) (column : ListedColumn) → indexed_column text tokens ≡ Behind column rest → begins (ends_part text) rest ≡ true → indexed_part text tokens ≡ Behind (Column column) rest
plain-chosen text tokens rest column is ends =
    chosen-first (alone text) (plain_column text) (no_column text) tokens (ap (stands_alone text) is ∙ ends) ∙ ap (λ x. x >>= λ column rest. Behind (Column column) rest) is

expression-chosen : (text : List ℕ) (tokens : List Token) → alone text tokens ≡ false → begins (ends_part text) tokens ≡ false → indexed_part text tokens ≡ expression text tokens
expression-chosen text tokens e f = chosen-second (alone text) (plain_column text) (no_column text) tokens e ∙ chosen-second (begins (ends_part text)) misfit (expression text) tokens f

-- what is an expression up to a separator is a part up to there, also where it is a column
part-chosen : (text : List ℕ) (tokens more : List Token) → expression text tokens ≡ Behind Expression more → begins (ends_part text) tokens ≡ false → Passed (indexed_part text tokens) more
part-chosen text tokens more is f = by_alone (indexed_column text tokens) refl (indexed_words-continues.part.run text tokens)
  where
    by_end : (column : ListedColumn) (rest front : List Token) → indexed_column text tokens ≡ Behind column rest → tokens ≡ front ++ rest → AllByRecursion (λ c. IsTrue (is_wordy c.kind)) front
        → (b : Bool) → begins (ends_part text) rest ≡ b → Passed (indexed_part text tokens) more
    by_end column rest front one parted words true ends =
        let same : rest ≡ more = (behind-same Expression Expression rest more (sym (ap (expression text) parted ∙ words-parted Expression text front rest words ends) ∙ is)).1 in
        (Column column, plain-chosen text tokens rest column one ends ∙ ap (λ x. Behind (Column column) x) same)
    by_end column rest front one parted words false ends = (Expression, expression-chosen text tokens (ap (stands_alone text) one ∙ ends) f ∙ is)

    by_alone : (x : Front ListedColumn) → indexed_column text tokens ≡ x → Outcome is_wordy none is_name (λ text. indexed_column text) text tokens x → Passed (indexed_part text tokens) more
    by_alone (Stops stop) one p = (Expression, expression-chosen text tokens (ap (stands_alone text) one) f ∙ is)
    by_alone (Behind column rest) one p = by_end column rest p.front one p.parted p.kinds (begins (ends_part text) rest) refl

-- the part's own way, by whether it is a column alone and whether it ends at once
abbrev part_by : List ℕ → List Token → Bool → Bool → Front IndexedPart
part_by text tokens one ends = elim one as (λ _. Front IndexedPart) [
  | true ↦ plain_column text tokens
  | false ↦ elim ends as (λ _. Front IndexedPart) [ true ↦ Stops tokens | false ↦ expression text tokens ]
]

left-end : (text : List ℕ) (tokens rest : List Token) (a : IndexedPart) → expression text tokens ≡ Behind a rest → begins (ends_part text) rest ≡ true
left-end text tokens rest a e = subst (IsLeft Expression text) e (separator-left Expression text 0 tokens)

part-kept : (text other : List ℕ) (front rest more : List Token) (a : IndexedPart) (one ends : Bool) → alone text (front ++ rest) ≡ one → begins (ends_part text) (front ++ rest) ≡ ends → part_by text (front ++ rest) one ends ≡ Behind a rest
    → Alikes text other front → Closes other more → indexed_part other (front ++ more) ≡ Behind a more
part-kept text other front rest more a true ends e f is alikes follows =
    let (column, left, first, second) = bind-passed (indexed_column text (front ++ rest)) (λ column rest. Behind (Column column) rest) a rest is in
    let (same, here) = behind-same (Column column) a left rest second in
    plain-chosen other (front ++ more) more column (indexed_words-continues.kept text other front rest more column (first ∙ ap (λ x. Behind column x) here) alikes (closes-apart other more follows)) (closes-ends other more follows)
    ∙ ap (λ v. Behind v more) same
part-kept text other front rest more a false true e f is alikes follows = absurd (cc)
part-kept text other [] rest more a false false e f is alikes follows = let wrong = sym (left-end text rest rest a is) ∙ f in absurd (cc)
part-kept text other (c ∷ front) rest more a false false e f is alikes follows =
    expression-chosen other ((c ∷ front) ++ more) (alone-again text other (c ∷ front) rest more (left-end text ((c ∷ front) ++ rest) rest a is) (closes-ends other more follows) e alikes) (sym (ends-respects text other c c alikes.0) ∙ f)
    ∙ separator-kept Expression text other 0 (c ∷ front) rest more a is alikes (closes-ends other more follows)

part-empty : (text : List ℕ) (rest : List Token) (a : IndexedPart) (one ends : Bool) → begins (ends_part text) rest ≡ ends → part_by text rest one ends ≡ Behind a rest → false ≡ true
part-empty text rest a true ends f is =
    let (column, left, first, second) = bind-passed (indexed_column text rest) (λ column rest. Behind (Column column) rest) a rest is in
    indexed_words-continues.empty text rest column (first ∙ ap (λ x. Behind column x) (behind-same (Column column) a left rest second).1)
part-empty text rest a false true f is = absurd (cc)
part-empty text rest a false false f is = sym f ∙ left-end text rest rest a is

part-mended : (text : List ℕ) (c : Token) (front rest : List Token) (one ends : Bool) → alone text ((c ∷ front) ++ rest) ≡ one → ends_part text c ≡ ends → part_by text ((c ∷ front) ++ rest) one ends ≡ Stops rest
    → Mended is_whole none none Closes false (a_name ∷ []) (λ text. indexed_part text) text (c ∷ front)
part-mended text c front rest true ends e f is = absurd (never (indexed_column text ((c ∷ front) ++ rest)) e is)
  where
    never : (x : Front ListedColumn) → stands_alone text x ≡ true → (x >>= λ column rest. Behind (Column column) rest) ≡ Stops rest → ⊥
    never (Stops stop) e is = absurd (cc)
    never (Behind column left) e is = absurd (cc)
part-mended text c front rest false true e f is = let same : (c ∷ front) ++ rest ≡ rest = cc in absurd (longer c front rest same)
part-mended text c front rest false false e f is =
    let (w, go) = separator-mended Expression text 0 (c ∷ front) rest is in (
      w,
      λ other others more alikes fillers follows.
          part-chosen other ((c ∷ front) ++ (others ++ more)) more (go other others more alikes fillers (closes-ends other more follows)) (sym (ends-respects text other c c alikes.0) ∙ f),
    )

indexed_part-continues : Continues is_whole none none Closes false (a_name ∷ []) (λ text. indexed_part text)
indexed_part-continues = record {
  part = indexed_part-part;
  fresh = λ other others more fillers follows.
      let (column, is) = indexed_words-continues.fresh other others more fillers (closes-apart other more follows) in (Column column, plain-chosen other (others ++ more) more column is (closes-ends other more follows));
  kept = λ text other front rest more a e alikes follows. part-kept text other front rest more a (alone text (front ++ rest)) (begins (ends_part text) (front ++ rest)) refl refl e alikes follows;
  empty = λ text rest a e. part-empty text rest a (alone text rest) (begins (ends_part text) rest) refl e;
  mended = λ text c front rest e. part-mended text c front rest (alone text ((c ∷ front) ++ rest)) (ends_part text c) refl refl e;
}

abbrev pub an_index : List Filler
an_index = Capitals (codes "CREATE") refl ∷ Capitals (codes "INDEX") refl ∷ a_name ∷ Capitals (codes "ON") refl ∷ a_name ∷ Opening ∷ a_name ∷ Closing ∷ []

pub index_statement-continues : Continues is_whole none (is_keyword (codes "CREATE")) Ends false an_index (λ text. index_statement text)
index_statement-continues =
    continues-then (word-continues (codes "CREATE") refl refl) (λ create.
    continues-maybe_then (is_keyword (codes "UNIQUE")) (is_keyword (codes "UNIQUE")) None (keyword-respects (codes "UNIQUE")) (λ text c e. e) (λ text c e f. e) refl
    (continues-made Some (word-continues (codes "UNIQUE") refl refl)) (λ unique.
    continues-then (word-continues (codes "INDEX") refl refl) (λ index. continues-then name-continues (λ index_name. continues-then (word-continues (codes "ON") refl refl) (λ on. continues-then name-continues (λ table_name.
    continues-then (list_in_brackets-continues (λ text rest h. h) indexed_part-continues) (λ parts.
    continues-before
    (continues-maybe (is_keyword (codes "WHERE")) false (keyword-respects (codes "WHERE")) (λ text c e. e) (ends-free (is_keyword (codes "WHERE")))
    (continues-then (word-continues (codes "WHERE") refl refl) (λ where_word. continues-made (λ condition. true) some_to_end-continues)))
    (λ partial. continues-ended (record { unique = is_some unique; name = index_name; table = table_name; parts = parts; partial = partial })))))))))
