-- What calls over a store say, joined to what was read before.
use Rattle.std.proofs.Common.{◌≡◌, ℕ, ℤ, List, Option, Result, IfErr, ◌∙◌, subst}
use Rattle.rbu_value.specs.declared.value.Value.{Value}
use Rattle.page_spec.specs.Freelists.{Trunk}
use Rattle.page_spec.specs.Pages.{Pages}
use Rattle.page_store.specs.declared.store.PageRead.{Ghosts}
use Rattle.rbu_rows.specs.declared.prepared.Prepared.{Prepared}
use Rattle.tree_spec.specs.declared.TreeKind.TheVariants.{Table}
use Rattle.tree_spec.specs.Trees.{Rooted, root_of}
use Rattle.tree_spec.specs.Standing.{Sizes, Paged}
use Rattle.tree_spec.specs.Worlds.{IsWorld, with_tree}
use Rattle.tree_pages.specs.Writers.{sizes_of}
use Rattle.pass_fault.specs.declared.fault.PassFault.{PassFault}
use Rattle.row_writes.specs.declared.write.RowWrite.{RowWrite}
use Rattle.pass_fault.specs.Faults.{room_in}
use Rattle.imposter.specs.declared.target.Target.{Target}
use Rattle.imposter.specs.Steps.{IsFaultMet, IsFaultWriting, RefusesMet, RefusesWriting}
use Rattle.imposter.specs.Writes.{IsWriteFault, RefusesWrite}

module _ {P F : Type 0} (g : Ghosts P F) (target : Target) (a b c : P) (sizes : sizes_of g b ≡ sizes_of g a) (count : g.count b ≡ g.count a) (same : g.pages b ≡ g.pages a) (r rowid : ℤ) (back : r ≡ rowid) where
  -- a world of what was read is one of what stood before
  module _ {T : Type 0} (result : Result T (PassFault F)) (m : Pages) (front : List Rooted) (table : Rooted) (back_trees : List Rooted) (trunks : List Trunk) (Is : Sizes → Paged → ℤ → PassFault F → Type 0) where
    abbrev In : Sizes → ℕ → ℤ → Type 0
    In z n at = IsWorld z (record { count = n; pages = m }) (with_tree front table back_trees trunks) → table.kind ≡ Table → root_of table ≡ target.root → IfErr result (Is z (record { count = n; pages = m }) at)

    pub in-world : In (sizes_of g b) (g.count b) r → In (sizes_of g a) (g.count a) rowid
    in-world told = subst (λ (z : Sizes). In z (g.count a) rowid) sizes (subst (λ (n : ℕ). In (sizes_of g b) n rowid) count (subst (λ (at : ℤ). In (sizes_of g b) (g.count b) at) back told))

  pub write-read : {T : Type 0} (result : Result T (PassFault F)) (write : RowWrite) → RefusesWrite g target r write b c result → RefusesWrite g target rowid write a c result
  write-read result write refuses = λ m front table behind trunks told world kind is.
      in-world result m front table behind trunks (λ z base at fault. IsWriteFault z.usable target at write (room_in base trunks) (g.count c) fault) (refuses m front table behind trunks (same ∙ told)) world kind is

  pub met-read : {T : Type 0} (result : Result T (PassFault F)) (taken : ℕ) (met : Option (ℤ × List Value)) (p : Prepared) → RefusesMet g target taken r met p b c result → RefusesMet g target taken rowid met p a c result
  met-read result taken met p refuses = λ m front table behind trunks told world kind is.
      in-world result m front table behind trunks (λ z base at fault. IsFaultMet z.usable target taken at met p base trunks (g.count c) fault) (refuses m front table behind trunks (same ∙ told)) world kind is

  pub writing-read : {T : Type 0} (result : Result T (PassFault F)) (met : Option (ℤ × List Value)) (p : Prepared) → RefusesWriting g target r met p b c result → RefusesWriting g target rowid met p a c result
  writing-read result met p refuses = λ m front table behind trunks told world kind is.
      in-world result m front table behind trunks (λ z base at fault. IsFaultWriting z.usable target at met p base trunks (g.count c) fault) (refuses m front table behind trunks (same ∙ told)) world kind is
