use Rattle.std.proofs.Math.Path.{subst⁻¹}
use Rattle.std.proofs.lemmas.Option.{IfSome_then}
use Rattle.tree_spec.specs.Faults.{fault_in as tree_fault_in}
use Rattle.tree_walk.specs.Stores.{paged, sizes_of}
use Rattle.schema_read.specs.Answers.{IsDamagedTree, IsRefusalOrOther}
use Rattle.schema_read.specs.declared.read.CatalogFault.{CatalogFault}
use Rattle.schema_read.proofs.Reading.{owes-told}
use Rattle.schema_read.proofs.Saying.{damage-told}
use Rattle.schema_read.proofs.read.read_members.Goals as goal

pub returns-in-Err-clause-pages : goal.returns-in-Err-clause-pages
returns-in-Err-clause-pages g c =
    let store = c.args.store.now in
    let read = c.in-Err.ensures.pages in
    record {
      same = read.same;
      count = read.count;
      answer = IfSome_then (g.S.PageRead.pages store) read.answer (λ m stops.
          subst⁻¹ (λ (f : CatalogFault g.row.S-Fault.Denot). IsRefusalOrOther (IsDamagedTree (sizes_of g.S.PageRead store) (paged g.S.PageRead store m)) f) c.of_tree.ensures.is
          (damage-told (sizes_of g.S.PageRead store) (paged g.S.PageRead store m) c.in-Err.fault stops));
    }

pub returns-in-Err-clause-owes : goal.returns-in-Err-clause-owes
returns-in-Err-clause-owes g c = owes-told g.S.PageRead tree_fault_in c.in-Err.fault c.of_tree.result c.of_tree.ensures.cause c.in-Err.ensures.owes
