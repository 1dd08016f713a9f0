-- How each call on the disk keeps the phase of the handover, or leads to the next.
use Rattle.std.proofs.Common.{◌≡◌, ◌⊎◌, ℕ, List, Option, Some, None, option_map, refl, sym, ap, ◌∙◌, subst, inl, inr}
use Rattle.common_spec.specs.Maps.{set_at}
use Rattle.file_spec.specs.declared.FileName.{FileName}
use Rattle.file_spec.specs.declared.FileName.TheVariants.{Target, Oal, Wal}
use Rattle.file_spec.specs.Files.{Files, is_name}
use Rattle.file_spec.specs.Records.{Stored, MayHold, Names, Record, HoldsAt, HoldsAll, IsImage, shown_files, stable}
use Rattle.file_spec.specs.RecordsLaws.{stable-only, stored-here, stored-other}
use Rattle.file_spec.specs.Steps.{with_names, with_new, ChangesAt, Changes, synced_at, removed_at, renamed_at, folder_synced}
use Rattle.rbu_run.specs.Phases.{Named, Building, Between, Logged, HasStable}

-- a sync makes what is shown stable
pub synced-stable : (r : Record) (name : FileName) (bytes : List ℕ) → shown_files r name ≡ Some bytes → HasStable name bytes (synced_at r (r.names name))
synced-stable r name bytes shown = at (r.names name) refl
  where
    at : (number : Option ℕ) → r.names name ≡ number → HasStable name bytes (synced_at r number)
    at None e = let lost : None ≡ Some bytes = sym (ap (option_map (λ i. (r.stored i).shown)) e) ∙ shown in absurd (cc)
    at (Some id) e =
        let held : Some (r.stored id).shown ≡ Some bytes = sym (ap (option_map (λ i. (r.stored i).shown)) e) ∙ shown in
        let same : (r.stored id).shown ≡ bytes = cc in
        (id, e, stored-here r id (stable (r.stored id).shown) ∙ ap stable same)

module _ (t : ℕ) (held : Stored) where
  -- a change of the hidden log
  pub building-changes : (R : Stored → Stored → Type 0) (r q : Record) → Building t held r → Changes R Oal r q → Building t held q
  building-changes R r q b changes = at (r.names Oal) refl changes
    where
      here : r.names Target ≡ Some t
      here = (b.named r.names (inl refl)).0

      at : (number : Option ℕ) → r.names Oal ≡ number → ChangesAt R Oal number r q → Building t held q
      at (Some id) e (s, step, is) = subst (Building t held) (sym is) (record {
        named = b.named;
        still = stored-other r id t s (λ same. b.apart (e ∙ ap Some same)) ∙ b.still;
        apart = b.apart;
      })
      at None e (id, fresh, rest) = subst (Building t held) (sym rest.2) (record {
        named = named;
        still = stored-other (with_names r (set_at is_name r.names Oal (Some id))) id t rest.0 (λ same. fresh r.names (inl refl) Target (here ∙ ap Some (sym same))) ∙ b.still;
        apart = λ one. fresh r.names (inl refl) Target (here ∙ sym one);
      })
        where
          named : Named t (λ number. number ≡ None) (with_new r Oal id rest.0)
          named n (inl e) = (ap (λ (m : Names). m Target) e ∙ here, ap (λ (m : Names). m Wal) e ∙ (b.named r.names (inl refl)).1)
          named n (inr there) = b.named n there

  pub building-synced : (r : Record) → Building t held r → Building t held (synced_at r (r.names Oal))
  building-synced r b = at (r.names Oal) refl
    where
      at : (number : Option ℕ) → r.names Oal ≡ number → Building t held (synced_at r number)
      at None e = b
      at (Some id) e = record {
        named = b.named;
        still = stored-other r id t (stable (r.stored id).shown) (λ same. b.apart (e ∙ ap Some same)) ∙ b.still;
        apart = b.apart;
      }

  -- the log is whole and stable
  pub building-whole : (r : Record) (bytes : List ℕ) → Building t held r → (whole : HasStable Oal bytes r) → Between t held whole.0 bytes r
  building-whole r bytes b whole = record {
    named = λ n may. ((b.named n may).0, inl (b.named n may).1);
    still = b.still;
    whole = whole.2;
    apart = λ same. b.apart (whole.1 ∙ ap Some (sym same));
  }

module _ (t : ℕ) (held : Stored) (log : ℕ) (bytes : List ℕ) where
  -- it takes the name of the write-ahead log, and a crash may still leave that out
  pub between-renamed : (r : Record) → Between t held log bytes r → r.names Oal ≡ Some log → Between t held log bytes (renamed_at r Oal Wal (r.names Oal))
  between-renamed r b is = subst (λ number. Between t held log bytes (renamed_at r Oal Wal number)) (sym is) (record { named = named; still = b.still; whole = b.whole; apart = b.apart })
    where
      named : Named t (λ number. (number ≡ None) ⊎ (number ≡ Some log)) (renamed_at r Oal Wal (Some log))
      named n (inl e) = (ap (λ (m : Names). m Target) e ∙ (b.named r.names (inl refl)).0, inr (ap (λ (m : Names). m Wal) e))
      named n (inr there) = b.named n there

  pub renamed-log : (r : Record) → r.names Oal ≡ Some log → (renamed_at r Oal Wal (r.names Oal)).names Wal ≡ Some log
  renamed-log r is = subst (λ number. (renamed_at r Oal Wal number).names Wal ≡ Some log) (sym is) refl

  -- a sync of the folder leaves the names that are shown
  pub between-settled : (r : Record) → Between t held log bytes r → Between t held log bytes (folder_synced r)
  between-settled r b = record { named = named; still = b.still; whole = b.whole; apart = b.apart }
    where
      named : Named t (λ number. (number ≡ None) ⊎ (number ≡ Some log)) (folder_synced r)
      named n (inl e) = b.named n (inl e)
      named n (inr none) = absurd none

  pub between-logged : (r : Record) → Between t held log bytes r → r.names Wal ≡ Some log → Logged t log bytes (folder_synced r)
  between-logged r b is = record { named = named; whole = b.whole; apart = b.apart }
    where
      named : Named t (λ number. number ≡ Some log) (folder_synced r)
      named n (inl e) = ((b.named n (inl e)).0, ap (λ (m : Names). m Wal) e ∙ is)
      named n (inr none) = absurd none

  -- the log's name goes, and a crash may still leave it
  pub between-removed : (r : Record) → Between t held log bytes r → Between t held log bytes (removed_at r Wal (r.names Wal))
  between-removed r b = at (r.names Wal)
    where
      at : (number : Option ℕ) → Between t held log bytes (removed_at r Wal number)
      at None = b
      at (Some id) = record { named = named; still = b.still; whole = b.whole; apart = b.apart }
        where
          named : Named t (λ number. (number ≡ None) ⊎ (number ≡ Some log)) (removed_at r Wal (Some id))
          named n (inl e) = (ap (λ (m : Names). m Target) e ∙ (b.named r.names (inl refl)).0, inl (ap (λ (m : Names). m Wal) e))
          named n (inr there) = b.named n there

module _ (t log : ℕ) (bytes : List ℕ) where
  logged-target : (r : Record) → Logged t log bytes r → r.names Target ≡ Some t
  logged-target r b = (b.named r.names (inl refl)).0

  -- a change of the target
  pub logged-changes : (R : Stored → Stored → Type 0) (r q : Record) → Logged t log bytes r → Changes R Target r q → Logged t log bytes q
  logged-changes R r q b changes = at (subst (λ number. ChangesAt R Target number r q) (logged-target r b) changes)
    where
      at : ChangesAt R Target (Some t) r q → Logged t log bytes q
      at (s, step, is) = subst (Logged t log bytes) (sym is) (record { named = b.named; whole = stored-other r t log s b.apart ∙ b.whole; apart = b.apart })

  pub logged-synced : (r : Record) → Logged t log bytes r → Logged t log bytes (synced_at r (r.names Target))
  logged-synced r b = subst (λ number. Logged t log bytes (synced_at r number)) (sym (logged-target r b))
      (record { named = b.named; whole = stored-other r t log (stable (r.stored t).shown) b.apart ∙ b.whole; apart = b.apart })

  -- the target is stable too
  pub logged-copied : (r : Record) (pages : List ℕ) → Logged t log bytes r → HasStable Target pages r → Between t (stable pages) log bytes r
  logged-copied r pages b copied =
      let same : Some copied.0 ≡ Some t = sym copied.1 ∙ logged-target r b in
      let one : copied.0 ≡ t = cc in
      record {
        named = λ n may. ((b.named n may).0, inr (b.named n may).1);
        still = ap r.stored (sym one) ∙ copied.2;
        whole = b.whole;
        apart = b.apart;
      }

-- what an image has where the target is still, and no log is there
pub record IsUnlogged (held : Stored) (left : Files) : Type 0 where
  pub bytes : List ℕ
  pub target : left Target ≡ Some bytes
  pub may : MayHold held bytes
  pub no_log : left Wal ≡ None

HoldsAll-unlogged : (r : Record) (n : Names) (left : Files) (t : ℕ) (held : Stored) → HoldsAll r.stored n left → n Target ≡ Some t → r.stored t ≡ held → n Wal ≡ None → IsUnlogged held left
HoldsAll-unlogged r n left t held holds target still none =
    let there : HoldsAt r.stored (Some t) (left Target) = subst (λ number. HoldsAt r.stored number (left Target)) target (holds Target) in
    record { bytes = there.0; target = there.1; may = subst (λ (s : Stored). MayHold s there.0) still there.2; no_log = subst (λ number. HoldsAt r.stored number (left Wal)) none (holds Wal) }

HoldsAll-logged : (r : Record) (n : Names) (left : Files) (log : ℕ) (bytes : List ℕ) → HoldsAll r.stored n left → r.stored log ≡ stable bytes → n Wal ≡ Some log → left Wal ≡ Some bytes
HoldsAll-logged r n left log bytes holds whole is =
    let there : HoldsAt r.stored (Some log) (left Wal) = subst (λ number. HoldsAt r.stored number (left Wal)) is (holds Wal) in
    there.1 ∙ ap Some (stable-only bytes there.0 (subst (λ (s : Stored). MayHold s there.0) whole there.2))

pub building-image : (t : ℕ) (held : Stored) (r : Record) (left : Files) → Building t held r → IsImage r left → IsUnlogged held left
building-image t held r left b image = HoldsAll-unlogged r image.0 left t held image.2 (b.named image.0 image.1).0 b.still (b.named image.0 image.1).1

pub between-image : (t : ℕ) (held : Stored) (log : ℕ) (bytes : List ℕ) (r : Record) (left : Files) → Between t held log bytes r → IsImage r left → IsUnlogged held left ⊎ (left Wal ≡ Some bytes)
between-image t held log bytes r left b image = at (b.named image.0 image.1).1
  where
    at : (image.0 Wal ≡ None) ⊎ (image.0 Wal ≡ Some log) → IsUnlogged held left ⊎ (left Wal ≡ Some bytes)
    at (inl none) = inl (HoldsAll-unlogged r image.0 left t held image.2 (b.named image.0 image.1).0 b.still none)
    at (inr is) = inr (HoldsAll-logged r image.0 left log bytes image.2 b.whole is)

pub logged-image : (t log : ℕ) (bytes : List ℕ) (r : Record) (left : Files) → Logged t log bytes r → IsImage r left → left Wal ≡ Some bytes
logged-image t log bytes r left b image = HoldsAll-logged r image.0 left log bytes image.2 b.whole (b.named image.0 image.1).1
