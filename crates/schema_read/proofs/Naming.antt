-- The table of a name, by its place.
use Rattle.std.proofs.Common.{◌≡◌, ℕ, zero, suc, ◌<◌, Bool, true, false, List, [], ◌∷◌, length, get_or, slice_get, Option, Some, None, refl, sym, ap, ◌∙◌, subst, arith}
use Rattle.std.specs.Prelude.{if◌then◌else◌, option_map}
use Rattle.std.specs.List.{position, position_from}
use Rattle.std.proofs.lemmas.Iterator.Adapters.{position_from-zero}
use Rattle.std.proofs.lemmas.List.Quantifiers.{position-Some}
use Rattle.std.proofs.lemmas.Option.{slice_get-get_or, none-some}
use Rattle.database_spec.specs.declared.catalog.Entry.{Entry}
use Rattle.database_spec.specs.declared.catalog.NamedEntry.{NamedEntry}
use Rattle.indexmap.specs.IndexMap.{IndexMap}
use Rattle.schema_spec.specs.Words.{same_name}
use Rattle.schema_read.specs.Firsts.{Notes, NotesKey}
use Rattle.schema_read.specs.Lookups.{entry_named, is_entry_named}
use Rattle.schema_read.proofs.FirstPlaces.{notes-key}
use Rattle.schema_read.proofs.MemberLists.{position-none}
use Rattle.schema_read.proofs.Noting.{name-turn}

module _ (name : List ℕ) where
  at-first : (tables : List NamedEntry) (at : ℕ) (d : NamedEntry) → at < length tables → is_entry_named name (get_or tables at d) ≡ true → ((k : ℕ) → k < at → is_entry_named name (get_or tables k d) ≡ false)
      → entry_named name tables ≡ Some (get_or tables at d).entry
  at-first [] at d less has none = absurd (omega (arith, less))
  at-first (x ∷ tables) zero d less has none = ap (λ (b : Bool). if b then Some x.entry else entry_named name tables) has
  at-first (x ∷ tables) (suc at) d less has none =
      ap (λ (b : Bool). if b then Some x.entry else entry_named name tables) (none zero (omega arith)) ∙ at-first tables at d (omega (arith, less)) has (λ k low. none (suc k) (omega (arith, low)))

  at-none : (tables : List NamedEntry) (d : NamedEntry) → ((k : ℕ) → k < length tables → is_entry_named name (get_or tables k d) ≡ false) → entry_named name tables ≡ None
  at-none [] d none = refl
  at-none (x ∷ tables) d none =
      ap (λ (b : Bool). if b then Some x.entry else entry_named name tables) (none zero (omega arith)) ∙ at-none tables d (λ k low. none (suc k) (omega (arith, low)))

  module _ (tables : List NamedEntry) where
    abbrev pub entry_of : Option ℕ → Option Entry
    entry_of None = None
    entry_of (Some at) = option_map (λ (n : NamedEntry). n.entry) (slice_get tables at)

    first : (place : Option ℕ) → position_from (is_entry_named name) 0 tables ≡ place → position (is_entry_named name) tables ≡ place
    first place e = position_from-zero (is_entry_named name) tables ∙ e

    there : (at : ℕ) → position (is_entry_named name) tables ≡ Some at → entry_named name tables ≡ option_map (λ (n : NamedEntry). n.entry) (slice_get tables at)
    there at place = by tables place
      where
        by : (list : List NamedEntry) → position (is_entry_named name) list ≡ Some at → entry_named name list ≡ option_map (λ (n : NamedEntry). n.entry) (slice_get list at)
        by [] e = absurd (none-some at e)
        by (x ∷ list) e =
            let is = position-Some (is_entry_named name) (x ∷ list) at x e in
            at-first (x ∷ list) at x is.0 is.1 is.2 ∙ sym (ap (option_map (λ (n : NamedEntry). n.entry)) (slice_get-get_or (x ∷ list) at x is.0))

    nowhere : (list : List NamedEntry) → position (is_entry_named name) list ≡ None → entry_named name list ≡ None
    nowhere [] e = refl
    nowhere (x ∷ list) e = at-none (x ∷ list) x (position-none (is_entry_named name) (x ∷ list) x e)

    -- the table of the name stands at the first place that has it
    pub entry-look : (place : Option ℕ) → position_from (is_entry_named name) 0 tables ≡ place → entry_named name tables ≡ entry_of place
    entry-look (Some at) place = there at (first (Some at) place)
    entry-look None place = nowhere tables (first None place)

-- a table was noted by its name
pub note-named : {S : Type 0} (old new : IndexMap (List ℕ) ℕ S) (at : ℕ) (named : NamedEntry) (name : List ℕ) → name ≡ named.name → NotesKey same_name old new name at → Notes same_name is_entry_named old new at named
note-named old new at named name is notes = notes-key same_name is_entry_named old new named.name at named (λ k. name-turn named.name k) (subst (λ (n : List ℕ). NotesKey same_name old new n at) is notes)
