-- A row deleted from a table of a world.
use Rattle.std.proofs.Common.{◌≡◌, ℕ, ℤ, ◌≤◌, List, Option, Result, Ok, Err, IfErr, OnOk, subst}
use Rattle.std.proofs.Math.Path.{subst⁻¹}
use Rattle.page_spec.specs.Freelists.{Trunk}
use Rattle.page_spec.specs.Pages.{Pages}
use Rattle.tree_spec.specs.declared.TreeKind.{TreeKind}
use Rattle.tree_spec.specs.declared.TreeKind.TheVariants.{Table}
use Rattle.tree_spec.specs.Trees.{Rooted, Member, depth_of, list_in, pages_in, root_of}
use Rattle.tree_spec.specs.Standing.{Sizes, Paged, IsTree}
use Rattle.tree_spec.specs.StandingLaws.{IsTree-rises}
use Rattle.tree_spec.specs.Worlds.{IsWorld, greatest_count, with_tree}
use Rattle.tree_spec.specs.WorldsLaws.{world-tree}
use Rattle.put_spec.specs.Steps.{GivesBack}
use Rattle.delete_spec.specs.Steps.{DeleteInto}
use Rattle.delete_spec.specs.StepsLaws.{delete-in-world}
use Rattle.delete_spec.specs.WorldsLaws.{taken-members}
use Rattle.tree_table.specs.declared.taking.Removed.{Removed}
use Rattle.tree_table.specs.declared.taking.Taken.{Taken}
use Rattle.tree_table.specs.Deletes.{DeletesInto, DeletesUnder, HasDeleted}

pub world-deleted : (sizes : Sizes) (gone : Member) (front : List Rooted) (old : Rooted) (back : List Rooted) (p : List Trunk) (a b c : Paged) (root first bytes : ℕ) → IsWorld sizes a (with_tree front old back p) → old.kind ≡ Table
    → root_of old ≡ root → DeleteInto sizes gone root a b first bytes → GivesBack sizes first bytes b c → c.count ≤ greatest_count → HasDeleted sizes front old back gone a c
world-deleted sizes gone front old back p a b c root first bytes world kind is into gives few =
    let w = delete-in-world sizes gone front old back a b c p first bytes kind world (subst⁻¹ (λ (r : ℕ). DeleteInto sizes gone r a b first bytes) is into) gives few in
    let tree = subst (λ (k : TreeKind). IsTree sizes a (root_of old) k (depth_of old) (list_in old) (pages_in old)) kind (world-tree sizes a front old back p world) in
    let rises = IsTree-rises sizes a (root_of old) (depth_of old) (list_in old) (pages_in old) tree in
    record {
      now = w.new;
      trunks = w.trunks;
      world = w.world;
      root = w.root;
      kind_is = w.kind_is;
      list = w.list;
      none = λ m there. ((taken-members gone (list_in old) (list_in w.new) w.list rises m).0 there).1;
      header = w.turns.header;
    }

pub on-ok_all : {T E P : Type 0} (result : Result T E) → P → OnOk result P
on-ok_all (Ok x) holds = holds
on-ok_all (Err e) holds = tt

pub if-err_all : {T E P : Type 0} (result : Result T E) → P → IfErr result (λ _. P)
if-err_all (Ok x) holds = tt
if-err_all (Err e) holds = holds

-- The same delete, with its numbers under other names.

pub deletes-same : (s z : Sizes) (page number : ℕ) (r rowid : ℤ) (k count : ℕ) (removed : Option Removed) (pages : Pages) (new : Paged) → s ≡ z → page ≡ number → r ≡ rowid → k ≡ count
    → DeletesUnder s page r removed (record { count = k; pages = pages }) new → DeletesUnder z number rowid removed (record { count = count; pages = pages }) new
deletes-same s z page number r rowid k count removed pages new sizes is same counts deletes =
    subst (λ (x : Sizes). DeletesUnder x number rowid removed (record { count = count; pages = pages }) new) sizes
    (subst (λ (n : ℕ). DeletesUnder s n rowid removed (record { count = count; pages = pages }) new) is
    (subst (λ (q : ℤ). DeletesUnder s page q removed (record { count = count; pages = pages }) new) same
    (subst (λ (n : ℕ). DeletesUnder s page r removed (record { count = n; pages = pages }) new) counts deletes)))

pub into-deletes_same : (s z : Sizes) (page number : ℕ) (r rowid : ℤ) (k count : ℕ) (taken : Option Taken) (pages : Pages) (new : Paged) → s ≡ z → page ≡ number → r ≡ rowid → k ≡ count
    → DeletesInto s page r taken (record { count = k; pages = pages }) new → DeletesInto z number rowid taken (record { count = count; pages = pages }) new
into-deletes_same s z page number r rowid k count taken pages new sizes is same counts deletes =
    subst (λ (x : Sizes). DeletesInto x number rowid taken (record { count = count; pages = pages }) new) sizes
    (subst (λ (n : ℕ). DeletesInto s n rowid taken (record { count = count; pages = pages }) new) is
    (subst (λ (q : ℤ). DeletesInto s page q taken (record { count = count; pages = pages }) new) same
    (subst (λ (n : ℕ). DeletesInto s page r taken (record { count = n; pages = pages }) new) counts deletes)))
