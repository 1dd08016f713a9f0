-- The files of a replay after each step.
use Rattle.std.proofs.Common.{◌≡◌, ◌≢◌, ℕ, ◌==◌, ◌+◌, ◌<◌, true, List, [], ◌∷◌, ◌++◌, length, map, set, Option, Some, None, Vec, Global, inl, inr, refl, sym, ap, ◌∙◌, subst, arith, length-append, length-set, get_or-set_same, get_or-set_other}
use Rattle.std.proofs.lemmas.Bool.{cases_Bool}
use Rattle.std.proofs.lemmas.Grind.{common_steps}
use Rattle.std.proofs.lemmas.List.{map-append}
use Rattle.common_spec.specs.Maps.{set_at}
use Rattle.common_spec.specs.MapsLaws.{IsEquality-numbers, set_at-other}
use Rattle.file_spec.specs.declared.FileName.{FileName}
use Rattle.file_spec.specs.Files.{is_name}
use Rattle.file_spec.specs.Records.{Names, Record, Stored, stable}
use Rattle.file_spec.specs.RecordsLaws.{stored-here}
use Rattle.file_spec.specs.Steps.{folder_synced, removed_at, renamed_at, synced_at, with_names, with_stored}
use Rattle.file_spec.specs.Trails.{Trail}
use Rattle.disk_memory.specs.declared.replay.Kept.{Kept}
use Rattle.disk_memory.specs.declared.replay.Replay.{Replay}
use Rattle.disk_memory.specs.declared.volume.Step.{Step}
use Rattle.disk_memory.specs.declared.volume.Step.TheVariants as step
use Rattle.disk_memory.specs.Volume.{AllNumbers, AreBelow, IsFine, after_step, changed_at, fresh_number, gone_on, unchanged}
use Rattle.disk_memory.specs.VolumeLaws.{numbers-given, numbers-named, numbers-removed, numbers-renamed, numbers-settled}
use Rattle.disk_memory.specs.Replay.{AddsFile, Agrees, Fits, IsNumbered, StandsAt, before_of, in_time, kept_at, names_of, nothing_kept, numbers_at}

-- a file changes
agree-stored : (files after : List Kept) (r : Record) (id : ℕ) (s : Stored) → ((i : ℕ) → i ≢ id → kept_at after i ≡ kept_at files i)
    → AllNumbers (λ i. i ≢ id → Agrees (kept_at files i) (r.stored i)) r → Agrees (kept_at after id) s
    → AllNumbers (λ i. Agrees (kept_at after i) ((with_stored r id s).stored i)) (with_stored r id s)
agree-stored files after r id s others agree here names may name i e = elim (cases_Bool (id == i)) [
  | inl same ↦
      let one : id ≡ i = IsEquality-numbers.same id i same in
      subst (λ j. Agrees (kept_at after j) ((with_stored r id s).stored j)) one (subst (Agrees (kept_at after id)) (sym (stored-here r id s)) here)
  | inr apart ↦
      let ne : i ≢ id = λ same. (let itself : id == i ≡ true = ap (λ j. id == j) same ∙ IsEquality-numbers.itself id in absurd (cc)) in
      subst (λ (k : Kept). Agrees k ((with_stored r id s).stored i)) (sym (others i ne))
      (subst (Agrees (kept_at files i)) (sym (set_at-other (λ (x y : ℕ). x == y) r.stored id i s apart)) (agree names may name i e ne))
]

module _ (r : Record) (files : List Kept) (names : Names) (before : List Names) (n : ℕ) (long : length files ≡ n) (below : AreBelow n r) (fits : Fits files names before r)
    (fresh : Kept) (empty : Agrees fresh (stable [])) where
  old-there : (i : ℕ) → i < n → kept_at (files ++ fresh ∷ []) i ≡ kept_at files i
  old-there i less = grind (arith, common_steps)

  new-there : kept_at (files ++ fresh ∷ []) n ≡ fresh
  new-there = grind (arith, common_steps)

  agree-pushed : AllNumbers (λ i. Agrees (kept_at (files ++ fresh ∷ []) i) (r.stored i)) r
  agree-pushed ns may name i e = subst (λ (k : Kept). Agrees k (r.stored i)) (sym (old-there i (below ns may name i e))) (fits.agree ns may name i e)

  -- a file is added that no name has
  pub fits-pushed : Fits (files ++ fresh ∷ []) names before r
  fits-pushed = record { agree = agree-pushed; names = fits.names; before = fits.before }

  -- one file changes, and is made first where a name has none
  pub fits-changed : (change : Stored → Stored) (name : FileName) (id : ℕ) (after : List Kept) (names_after : Names) (before_after : List Names)
      → IsNumbered name n id (names name) names names_after before before_after → ((i : ℕ) → i ≢ id → kept_at after i ≡ kept_at (files ++ fresh ∷ []) i)
      → ((s : Stored) → Agrees (kept_at (files ++ fresh ∷ []) id) s → Agrees (kept_at after id) (change s))
      → Fits after names_after before_after (changed_at change name n (r.names name) r)
  fits-changed change name id after names_after before_after numbered others changes =
      at (r.names name) refl (subst (λ (o : Option ℕ). IsNumbered name n id o names names_after before before_after) (ap (λ (m : Names). m name) fits.names) numbered)
    where
      at : (number : Option ℕ) → r.names name ≡ number → IsNumbered name n id number names names_after before before_after → Fits after names_after before_after (changed_at change name n number r)
      at (Some k) e (same, names_same, before_same) = record {
        agree = subst (λ j. AllNumbers (λ i. Agrees (kept_at after i) ((with_stored r j (change (r.stored j))).stored i)) (with_stored r j (change (r.stored j)))) same
            (agree-stored (files ++ fresh ∷ []) after r id (change (r.stored id)) others (λ ns may nm i f ne. agree-pushed ns may nm i f)
            (changes (r.stored id) (agree-pushed r.names (inl refl) name id (e ∙ ap Some (sym same)))));
        names = names_same ∙ fits.names;
        before = before_same ∙ fits.before;
      }
      at None e (same, given, added) = record {
        agree = agree-stored (files ++ fresh ∷ []) after (with_names r (set_at is_name r.names name (Some n))) n (change (stable []))
            (subst (λ j. (i : ℕ) → i ≢ j → kept_at after i ≡ kept_at (files ++ fresh ∷ []) i) same others)
            (numbers-named (λ i. i ≢ n → Agrees (kept_at (files ++ fresh ∷ []) i) (r.stored i)) r (set_at is_name r.names name (Some n)) (λ ns may nm i f ne. agree-pushed ns may nm i f)
            (numbers-given (λ i. i ≢ n → Agrees (kept_at (files ++ fresh ∷ []) i) (r.stored i)) r.names name (Some n) (λ nm i f ne. agree-pushed r.names (inl refl) nm i f)
            (λ i f ne. let one : n ≡ i = cc in absurd (ne (sym one)))))
            (subst (λ j. Agrees (kept_at after j) (change (stable []))) same
            (changes (stable []) (subst (λ (k : Kept). Agrees k (stable [])) (sym (ap (kept_at (files ++ fresh ∷ [])) same ∙ new-there)) empty)));
        names = given ∙ ap (λ (m : Names). set_at is_name m name (Some n)) fits.names;
        before = added ∙ ap (λ (l : List Names). l ++ names ∷ []) fits.before ∙ ap (λ (m : Names). in_time r.older ++ m ∷ []) fits.names;
      }

  -- a file is synced
  pub fits-synced : (id : ℕ) (after : List Kept) → ((i : ℕ) → i ≢ id → kept_at after i ≡ kept_at (files ++ fresh ∷ []) i)
      → ((s : Stored) → Agrees (kept_at (files ++ fresh ∷ []) id) s → Agrees (kept_at after id) (stable s.shown)) → (name : FileName) → names name ≡ Some id
      → Fits after names before (synced_at r (r.names name))
  fits-synced id after others syncs name is =
      let e : r.names name ≡ Some id = ap (λ (m : Names). m name) (sym fits.names) ∙ is in
      subst (λ (o : Option ℕ). Fits after names before (synced_at r o)) (sym e) (record {
        agree = agree-stored (files ++ fresh ∷ []) after r id (stable (r.stored id).shown) others (λ ns may nm i f ne. agree-pushed ns may nm i f)
            (syncs (r.stored id) (agree-pushed r.names (inl refl) name id e));
        names = fits.names;
        before = fits.before;
      })

  pub fits-unsynced : (name : FileName) → names name ≡ None → Fits (files ++ fresh ∷ []) names before (synced_at r (r.names name))
  fits-unsynced name is =
      let e : r.names name ≡ None = ap (λ (m : Names). m name) (sym fits.names) ∙ is in
      subst (λ (o : Option ℕ). Fits (files ++ fresh ∷ []) names before (synced_at r o)) (sym e) fits-pushed

  -- a name goes
  pub fits-removed : (id : ℕ) (names_after : Names) (before_after : List Names) (name : FileName) → names name ≡ Some id → names_after ≡ set_at is_name names name None
      → before_after ≡ before ++ names ∷ [] → Fits (files ++ fresh ∷ []) names_after before_after (removed_at r name (r.names name))
  fits-removed id names_after before_after name is gone added =
      let e : r.names name ≡ Some id = ap (λ (m : Names). m name) (sym fits.names) ∙ is in
      let agree = numbers-removed (λ i. Agrees (kept_at (files ++ fresh ∷ []) i) (r.stored i)) name r (Some id) agree-pushed in
      subst (λ (o : Option ℕ). Fits (files ++ fresh ∷ []) names_after before_after (removed_at r name o)) (sym e) (record {
        agree = agree;
        names = gone ∙ ap (λ (m : Names). set_at is_name m name None) fits.names;
        before = added ∙ ap (λ (l : List Names). l ++ names ∷ []) fits.before ∙ ap (λ (m : Names). in_time r.older ++ m ∷ []) fits.names;
      })

  pub fits-unremoved : (name : FileName) → names name ≡ None → Fits (files ++ fresh ∷ []) names before (removed_at r name (r.names name))
  fits-unremoved name is =
      let e : r.names name ≡ None = ap (λ (m : Names). m name) (sym fits.names) ∙ is in
      subst (λ (o : Option ℕ). Fits (files ++ fresh ∷ []) names before (removed_at r name o)) (sym e) fits-pushed

  -- a file takes another name
  pub fits-renamed : (id : ℕ) (names_after : Names) (before_after : List Names) (from to : FileName) → names from ≡ Some id
      → names_after ≡ set_at is_name (set_at is_name names from None) to (Some id) → before_after ≡ before ++ names ∷ []
      → Fits (files ++ fresh ∷ []) names_after before_after (renamed_at r from to (r.names from))
  fits-renamed id names_after before_after from to is moved added =
      let e : r.names from ≡ Some id = ap (λ (m : Names). m from) (sym fits.names) ∙ is in
      let agree = subst (λ (o : Option ℕ). AllNumbers (λ i. Agrees (kept_at (files ++ fresh ∷ []) i) (r.stored i)) (renamed_at r from to o)) e
      (numbers-renamed (λ i. Agrees (kept_at (files ++ fresh ∷ []) i) (r.stored i)) from to r agree-pushed) in
      subst (λ (o : Option ℕ). Fits (files ++ fresh ∷ []) names_after before_after (renamed_at r from to o)) (sym e) (record {
        agree = agree;
        names = moved ∙ ap (λ (m : Names). set_at is_name (set_at is_name m from None) to (Some id)) fits.names;
        before = added ∙ ap (λ (l : List Names). l ++ names ∷ []) fits.before ∙ ap (λ (m : Names). in_time r.older ++ m ∷ []) fits.names;
      })

  pub fits-unrenamed : (from to : FileName) → names from ≡ None → Fits (files ++ fresh ∷ []) names before (renamed_at r from to (r.names from))
  fits-unrenamed from to is =
      let e : r.names from ≡ None = ap (λ (m : Names). m from) (sym fits.names) ∙ is in
      subst (λ (o : Option ℕ). Fits (files ++ fresh ∷ []) names before (renamed_at r from to o)) (sym e) fits-pushed

  -- the folder is synced
  pub fits-settled : Fits (files ++ fresh ∷ []) names [] (folder_synced r)
  fits-settled = record {
    agree = numbers-settled (λ i. Agrees (kept_at (files ++ fresh ∷ []) i) (r.stored i)) r agree-pushed;
    names = fits.names;
    before = refl;
  }

-- the step is made
stands-next : (t : Trail) (s : Step) (replay : Replay) → length replay.files.items ≡ fresh_number t + 1
    → Fits replay.files.items (names_of replay) (before_of replay) (after_step (fresh_number t) s t.now.at) → StandsAt replay (gone_on t s)
stands-next t s replay long fits = record { long = omega (arith, long, length-append t.earlier (t.now ∷ [])); fits = fits }

-- a number of a name is that of a file
numbered-below : (name : FileName) (fresh id n : ℕ) (number : Option ℕ) (names names_after : Names) (past past_after : List Names) → IsNumbered name fresh id number names names_after past past_after
    → fresh < n → ((k : ℕ) → number ≡ Some k → k < n) → id < n
numbered-below name fresh id n (Some k) names names_after past past_after numbered less below = let less_k = below k refl in omega (arith, numbered.0, less_k)
numbered-below name fresh id n None names names_after past past_after numbered less below = omega (arith, numbered.0, less)

module _ (replay added : Replay) (fresh : ℕ) (t : Trail) (adds : AddsFile replay added fresh) (fine : IsFine t) (stands : StandsAt replay t) where
  length-added : length added.files.items ≡ fresh_number t + 1
  length-added = let l : length (replay.files.items ++ adds.kept ∷ []) ≡ length replay.files.items + 1 = length-append replay.files.items (adds.kept ∷ []) in
      ap length adds.files ∙ l ∙ ap (λ k. k + 1) stands.long

  names_of-added : names_of added ≡ names_of replay
  names_of-added = ap numbers_at adds.names

  before_of-added : before_of added ≡ before_of replay
  before_of-added = ap (λ (v : Vec (List (Option ℕ)) Global). map numbers_at v.items) adds.before

  fresh-is_next : fresh ≡ fresh_number t
  fresh-is_next = adds.number_is ∙ stands.long

  pub named-within : (name : FileName) (id : ℕ) → names_of added name ≡ Some id → id < length added.files.items
  named-within name id is =
      let less : id < fresh_number t = fine.below t.now.at.names (inl refl) name id (ap (λ (m : Names). m name) (sym (names_of-added ∙ stands.fits.names)) ∙ is) in
      omega (arith, less, length-added)

  pub numbered-within : (name : FileName) (id : ℕ) (names_after : Names) (past_after : List Names)
      → IsNumbered name fresh id (names_of added name) (names_of added) names_after (before_of added) past_after → id < length added.files.items
  numbered-within name id names_after past_after numbered =
      numbered-below name fresh id (length added.files.items) (names_of added name) (names_of added) names_after (before_of added) past_after numbered
      (omega (arith, fresh-is_next, length-added)) (named-within name)

  fits-added : Fits replay.files.items (names_of added) (before_of added) t.now.at
  fits-added = subst (λ (b : List Names). Fits replay.files.items (names_of added) b t.now.at) (sym before_of-added)
      (subst (λ (m : Names). Fits replay.files.items m (before_of replay) t.now.at) (sym names_of-added) stands.fits)

  kept_at-others : (files after : List Kept) (id : ℕ) (kept : Kept) → after ≡ set files id kept → (i : ℕ) → i ≢ id → kept_at after i ≡ kept_at files i
  kept_at-others files after id kept is i ne = ap (λ (l : List Kept). kept_at l i) is ∙ get_or-set_other files id i kept nothing_kept ne

  kept_at-here : (files after : List Kept) (id : ℕ) (kept : Kept) → after ≡ set files id kept → id < length files → kept_at after id ≡ kept
  kept_at-here files after id kept is less = ap (λ (l : List Kept). kept_at l id) is ∙ get_or-set_same files id kept nothing_kept less

  -- the file of a name changes
  pub stands-changed : (s : Step) (change : Stored → Stored) (name : FileName) (id : ℕ) (after : Replay)
      → IsNumbered name fresh id (names_of added name) (names_of added) (names_of after) (before_of added) (before_of after)
      → length after.files.items ≡ length added.files.items → ((i : ℕ) → i ≢ id → kept_at after.files.items i ≡ kept_at added.files.items i)
      → ((st : Stored) → Agrees (kept_at added.files.items id) st → Agrees (kept_at after.files.items id) (change st))
      → after_step (fresh_number t) s t.now.at ≡ changed_at change name (fresh_number t) (t.now.at.names name) t.now.at → StandsAt after (gone_on t s)
  stands-changed s change name id after numbered same_length same_files changes is =
      stands-next t s after (same_length ∙ length-added)
      (subst (Fits after.files.items (names_of after) (before_of after)) (sym is)
      (fits-changed t.now.at replay.files.items (names_of added) (before_of added) (fresh_number t) stands.long fine.below fits-added adds.kept adds.empty change name id
      after.files.items (names_of after) (before_of after)
      (subst (λ k. IsNumbered name k id (names_of added name) (names_of added) (names_of after) (before_of added) (before_of after)) fresh-is_next numbered)
      (λ i ne. same_files i ne ∙ ap (λ (l : List Kept). kept_at l i) adds.files)
      (λ st agrees. changes st (subst (λ (l : List Kept). Agrees (kept_at l id) st) (sym adds.files) agrees))))

  -- it was set after the name had its number
  pub stands-set : (s : Step) (change : Stored → Stored) (name : FileName) (id : ℕ) (numbered_at : Replay) (files : Vec Kept Global) (kept : Kept)
      → IsNumbered name fresh id (names_of added name) (names_of added) (names_of numbered_at) (before_of added) (before_of numbered_at) → numbered_at.files ≡ added.files
      → files.items ≡ set numbered_at.files.items id kept → ((st : Stored) → Agrees (kept_at numbered_at.files.items id) st → Agrees kept (change st))
      → after_step (fresh_number t) s t.now.at ≡ changed_at change name (fresh_number t) (t.now.at.names name) t.now.at
      → StandsAt (record { alloc = numbered_at.alloc; files = files; names = numbered_at.names; before = numbered_at.before }) (gone_on t s)
  stands-set s change name id numbered_at files kept numbered same sets changes is =
      let set_in : files.items ≡ set added.files.items id kept = sets ∙ ap (λ (v : Vec Kept Global). set v.items id kept) same in
      stands-changed s change name id (record { alloc = numbered_at.alloc; files = files; names = numbered_at.names; before = numbered_at.before }) numbered
      (ap length set_in ∙ length-set added.files.items id kept) (kept_at-others added.files.items files.items id kept set_in)
      (λ st agrees. subst (λ (k : Kept). Agrees k (change st))
      (sym (kept_at-here added.files.items files.items id kept set_in (numbered-within name id (names_of numbered_at) (before_of numbered_at) numbered)))
      (changes st (subst (λ (v : Vec Kept Global). Agrees (kept_at v.items id) st) (sym same) agrees)))
      is

  -- nothing changed but that a name may have got its file
  pub stands-made : (name : FileName) (id : ℕ) (after : Replay) → IsNumbered name fresh id (names_of added name) (names_of added) (names_of after) (before_of added) (before_of after)
      → after.files ≡ added.files → StandsAt after (gone_on t (step.Create name))
  stands-made name id after numbered same =
      stands-changed (step.Create name) unchanged name id after numbered (ap (λ (v : Vec Kept Global). length v.items) same) (λ i ne. ap (λ (v : Vec Kept Global). kept_at v.items i) same)
      (λ st agrees. subst (λ (v : Vec Kept Global). Agrees (kept_at v.items id) st) (sym same) agrees) refl

  -- a step left all but the names
  stands-files_same : (s : Step) (after : Replay) → after.files ≡ added.files
      → Fits (replay.files.items ++ adds.kept ∷ []) (names_of after) (before_of after) (after_step (fresh_number t) s t.now.at) → StandsAt after (gone_on t s)
  stands-files_same s after same fits =
      stands-next t s after (ap (λ (v : Vec Kept Global). length v.items) same ∙ length-added)
      (subst (λ (l : List Kept). Fits l (names_of after) (before_of after) (after_step (fresh_number t) s t.now.at)) (sym (ap (λ (v : Vec Kept Global). v.items) same ∙ adds.files)) fits)

  pub stands-synced : (name : FileName) (id : ℕ) (files : Vec Kept Global) (kept : Kept) → names_of added name ≡ Some id → files.items ≡ set added.files.items id kept
      → ((st : Stored) → Agrees (kept_at added.files.items id) st → Agrees kept (stable st.shown))
      → StandsAt (record { alloc = added.alloc; files = files; names = added.names; before = added.before }) (gone_on t (step.Sync name))
  stands-synced name id files kept is sets syncs =
      stands-next t (step.Sync name) (record { alloc = added.alloc; files = files; names = added.names; before = added.before })
      (ap length sets ∙ length-set added.files.items id kept ∙ length-added)
      (fits-synced t.now.at replay.files.items (names_of added) (before_of added) (fresh_number t) stands.long fine.below fits-added adds.kept adds.empty id files.items
      (λ i ne. kept_at-others added.files.items files.items id kept sets i ne ∙ ap (λ (l : List Kept). kept_at l i) adds.files)
      (λ st agrees. subst (λ (k : Kept). Agrees k (stable st.shown)) (sym (kept_at-here added.files.items files.items id kept sets (named-within name id is)))
      (syncs st (subst (λ (l : List Kept). Agrees (kept_at l id) st) (sym adds.files) agrees)))
      name is)

  pub stands-unsynced : (name : FileName) → names_of added name ≡ None → StandsAt added (gone_on t (step.Sync name))
  stands-unsynced name is =
      stands-files_same (step.Sync name) added refl (fits-unsynced t.now.at replay.files.items (names_of added) (before_of added) (fresh_number t) stands.long fine.below fits-added adds.kept adds.empty name is)

  pub stands-unremoved : (name : FileName) → names_of added name ≡ None → StandsAt added (gone_on t (step.Remove name))
  stands-unremoved name is =
      stands-files_same (step.Remove name) added refl (fits-unremoved t.now.at replay.files.items (names_of added) (before_of added) (fresh_number t) stands.long fine.below fits-added adds.kept adds.empty name is)

  pub stands-unrenamed : (from to : FileName) → names_of added from ≡ None → StandsAt added (gone_on t (step.Rename from to))
  stands-unrenamed from to is =
      stands-files_same (step.Rename from to) added refl (fits-unrenamed t.now.at replay.files.items (names_of added) (before_of added) (fresh_number t) stands.long fine.below fits-added adds.kept adds.empty from to is)

  before_of-pushed : (past : Vec (List (Option ℕ)) Global) → past.items ≡ added.before.items ++ added.names ∷ [] → map numbers_at past.items ≡ before_of added ++ names_of added ∷ []
  before_of-pushed past is = ap (map numbers_at) is ∙ map-append numbers_at added.before.items (added.names ∷ [])

  pub stands-removed : (name : FileName) (id : ℕ) (numbers : List (Option ℕ)) (past : Vec (List (Option ℕ)) Global) → names_of added name ≡ Some id
      → numbers_at numbers ≡ set_at is_name (names_of added) name None → past.items ≡ added.before.items ++ added.names ∷ []
      → StandsAt (record { alloc = added.alloc; files = added.files; names = numbers; before = past }) (gone_on t (step.Remove name))
  stands-removed name id numbers past is gone pushed =
      stands-files_same (step.Remove name) (record { alloc = added.alloc; files = added.files; names = numbers; before = past }) refl
      (fits-removed t.now.at replay.files.items (names_of added) (before_of added) (fresh_number t) stands.long fine.below fits-added adds.kept adds.empty id
      (numbers_at numbers) (map numbers_at past.items) name is gone (before_of-pushed past pushed))

  pub stands-renamed : (from to : FileName) (id : ℕ) (numbers : List (Option ℕ)) (past : Vec (List (Option ℕ)) Global) → names_of added from ≡ Some id
      → numbers_at numbers ≡ set_at is_name (set_at is_name (names_of added) from None) to (Some id) → past.items ≡ added.before.items ++ added.names ∷ []
      → StandsAt (record { alloc = added.alloc; files = added.files; names = numbers; before = past }) (gone_on t (step.Rename from to))
  stands-renamed from to id numbers past is moved pushed =
      stands-files_same (step.Rename from to) (record { alloc = added.alloc; files = added.files; names = numbers; before = past }) refl
      (fits-renamed t.now.at replay.files.items (names_of added) (before_of added) (fresh_number t) stands.long fine.below fits-added adds.kept adds.empty id
      (numbers_at numbers) (map numbers_at past.items) from to is moved (before_of-pushed past pushed))

  pub stands-settled : (past : Vec (List (Option ℕ)) Global) → past.items ≡ []
      → StandsAt (record { alloc = added.alloc; files = added.files; names = added.names; before = past }) (gone_on t step.SyncFolder)
  stands-settled past none =
      stands-files_same step.SyncFolder (record { alloc = added.alloc; files = added.files; names = added.names; before = past }) refl
      (subst (λ (b : List Names). Fits (replay.files.items ++ adds.kept ∷ []) (names_of added) b (folder_synced t.now.at)) (sym (ap (map numbers_at) none))
      (fits-settled t.now.at replay.files.items (names_of added) (before_of added) (fresh_number t) stands.long fine.below fits-added adds.kept adds.empty))
