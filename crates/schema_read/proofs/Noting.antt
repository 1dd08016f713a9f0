-- Rows and members whose places are noted, and what is looked up.
use Rattle.std.proofs.Common.{◌≡◌, ℕ, ◌+◌, ◌≤◌, ◌-◌, List, [], length, take, drop, get_or, is_some, sym, ap, ◌∙◌}
use Rattle.std.specs.Prelude.{nat_eq}
use Rattle.std.specs.Cmp.{on_equiv}
use Rattle.std.specs.Cmp.Lexicographic.{nat_list_eq_equiv}
use Rattle.std.specs.List.{position}
use Rattle.std.specs.Str.{str_to_ascii_lowercase}
use Rattle.std.proofs.lemmas.Iterator.Adapters.{position_from-zero}
use Rattle.indexmap.specs.IndexMap.{get}
use Rattle.schema_spec.specs.Words.{same_name}
use Rattle.database_spec.specs.RightRows.{has_name}
use Rattle.schema_read.specs.declared.found.Found.{Found}
use Rattle.schema_read.specs.declared.members.Lookups.{Lookups}
use Rattle.schema_read.specs.Firsts.{is_before}
use Rattle.schema_read.specs.Found.{any_found, has_root, has_table}
use Rattle.schema_read.specs.Members.{HasLookups, NotesMember, WillHaveLookups, is_automatic_named, is_table_named, on_members, same_names}
use Rattle.schema_read.proofs.FirstPlaces.{any-front, any-place, firsts-end, firsts-next, firsts-start}
use Rattle.schema_read.proofs.MemberLists.{uncons}

pub name-turn : (a b : List ℕ) → same_name a b ≡ same_name b a
name-turn a b = (on_equiv str_to_ascii_lowercase nat_list_eq_equiv).symm a b

-- none is noted yet
pub lookups-start : (lookups : Lookups) (found : List Found) → lookups.tables.entries ≡ [] → lookups.named.entries ≡ [] → lookups.roots.entries ≡ [] → lookups.automatic.entries ≡ [] → WillHaveLookups lookups 0 found found
lookups-start lookups found tables named roots automatic = record {
  tables = firsts-start same_name (on_members is_table_named) lookups.tables tables found;
  named = firsts-start same_name (on_members has_name) lookups.named named found;
  roots = firsts-start nat_eq (on_members has_root) lookups.roots roots found;
  automatic = firsts-start same_names (on_members is_automatic_named) lookups.automatic automatic found;
}

-- one more member is
pub lookups-next : (old new : Lookups) (at : ℕ) (one : Found) (left found : List Found) → 1 ≤ length left → one ≡ get_or left 0 one → NotesMember old new at one → WillHaveLookups old at left found
    → WillHaveLookups new (at + 1) (take (length left - 1) (drop 1 left)) found
lookups-next old new at one left found some first notes will =
    let split = uncons left one some first in
    let rest = take (length left - 1) (drop 1 left) in
    record {
      tables = firsts-next same_name (on_members is_table_named) old.tables new.tables at one rest left found split notes.tables will.tables;
      named = firsts-next same_name (on_members has_name) old.named new.named at one rest left found split notes.named will.named;
      roots = firsts-next nat_eq (on_members has_root) old.roots new.roots at one rest left found split notes.roots will.roots;
      automatic = firsts-next same_names (on_members is_automatic_named) old.automatic new.automatic at one rest left found split notes.automatic will.automatic;
    }

-- all are
pub lookups-end : (lookups : Lookups) (at : ℕ) (left found : List Found) → left ≡ [] → WillHaveLookups lookups at left found → HasLookups lookups found
lookups-end lookups at left found none will = record {
  tables = firsts-end same_name (on_members is_table_named) lookups.tables at left found none will.tables;
  named = firsts-end same_name (on_members has_name) lookups.named at left found none will.named;
  roots = firsts-end nat_eq (on_members has_root) lookups.roots at left found none will.roots;
  automatic = firsts-end same_names (on_members is_automatic_named) lookups.automatic at left found none will.automatic;
}

module _ (lookups : Lookups) (found : List Found) (has : HasLookups lookups found) where
  -- the place of a table or a view
  pub table-look : (name : List ℕ) → get same_name lookups.tables name ≡ position (has_table name) found
  table-look name = has.tables name ∙ sym (position_from-zero (has_table name) found)

  -- an automatic index is there
  pub automatic-look : (names : List ℕ × List ℕ) → is_some (get same_names lookups.automatic names) ≡ any_found (is_automatic_named names) found
  automatic-look names = ap is_some (has.automatic names) ∙ sym (any-place (on_members is_automatic_named names) found 0)

  -- a root, or a name, stands before a place
  pub root-look : (at root : ℕ) → is_before at (get nat_eq lookups.roots root) ≡ any_found (has_root root) (take at found)
  root-look at root = ap (is_before at) (has.roots root) ∙ sym (any-front (on_members has_root root) found at)

  pub name-look : (at : ℕ) (name : List ℕ) → is_before at (get same_name lookups.named name) ≡ any_found (has_name name) (take at found)
  name-look at name = ap (is_before at) (has.named name) ∙ sym (any-front (on_members has_name name) found at)
