-- What is answered of the index at a root, by what was found below its page.
use Rattle.std.proofs.Common.{◌≡◌, ℕ, ◌≤◌, Bool, true, false, List, Result, Ok, Err, sym, ◌∙◌, subst, arith}
use Rattle.std.proofs.Math.Path.{subst⁻¹}
use Rattle.common_spec.specs.Reading.{OrFault}
use Rattle.key_order.specs.declared.order.KeyOrder.{KeyOrder}
use Rattle.key_order.specs.Orders.{IsEntry, IsRising}
use Rattle.tree_spec.specs.declared.TreeKind.{TreeKind}
use Rattle.tree_spec.specs.declared.TreeKind.TheVariants.{Index}
use Rattle.tree_spec.specs.declared.fault.TreeFault.{TreeFault}
use Rattle.tree_spec.specs.Faults.{IsOther}
use Rattle.tree_spec.specs.Trees.{Member, list_of}
use Rattle.tree_spec.specs.Standing.{Sizes, Paged, Stands}
use Rattle.index_lookup.specs.Alikes.{FindsAlike, FindsUnder, TellsAlike, TellsEqual, TellsNull, with_rowid}

-- no NULL is among the columns
alike-answer : {F : Type 0} (order : KeyOrder) (payload : List ℕ) (members : List Member) (result : Result Bool (TreeFault F)) → TellsNull order payload false → OrFault (TellsEqual order payload members) IsOther result
    → OrFault (TellsAlike order payload members) IsOther result
alike-answer order payload members (Ok true) whole equal = (whole, equal)
alike-answer order payload members (Ok false) whole none = λ alike. none alike.1
alike-answer order payload members (Err fault) whole other = other

module _ {F : Type 0} (sizes : Sizes) (base : Paged) (root : ℕ) (order : KeyOrder) (payload : List ℕ) where
  pub root-answer : (result : Result Bool (TreeFault F)) → TellsNull order payload false → FindsUnder sizes base root 24 order payload result → FindsAlike sizes base root order payload result
  root-answer result whole under = record {
    refuses = under.refuses;
    answer = λ depth members numbers is rises.
        let rooted = is.rooted in
        let list : list_of Index rooted.levels rooted.tree ≡ members = subst (λ (k : TreeKind). list_of k rooted.levels rooted.tree ≡ members) is.kind_is is.members_are in
        let stands : Stands sizes base Index rooted.levels rooted.tree = subst (λ (k : TreeKind). Stands sizes base k rooted.levels rooted.tree) is.kind_is is.is_root.stands in
        let low : rooted.levels ≤ 24 = omega (arith, is.depth_is, is.deep) in
        alike-answer order payload members result whole
        (subst (λ (l : List Member). OrFault (TellsEqual order payload l) IsOther result) list
        (under.answer rooted.levels rooted.tree low is.root_is stands (subst⁻¹ (IsRising (with_rowid order)) list rises)));
  }

  -- an entry with a NULL among its columns agrees with none
  pub null-answer : IsEntry order payload → TellsNull order payload true → FindsAlike {F = F} sizes base root order payload (Ok false)
  null-answer entry null = record {
    refuses = tt;
    answer = λ depth members numbers is rises. λ alike.
        let both : true ≡ false = sym (null entry.values entry.is_record) ∙ alike.0 entry.values entry.is_record in
        let no : ⊥ = cc in no;
  }
