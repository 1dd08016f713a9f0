use Rattle.std.proofs.Common.{Bool, true, false, List, ℕ, rules, inr}
use Rattle.std.proofs.lemmas.Option.{IfSome_then}
use Rattle.std.specs.Prelude.{IsTrue}
use Rattle.tree_spec.specs.Trees.{Member}
use Rattle.index_lookup.specs.Alikes.{TellsAlike}
use Rattle.index_pass.specs.declared.target.Target.{Target}
use Rattle.index_pass.specs.Changes.{TellsClash}
use Rattle.index_pass.proofs.clash.has_clash.Goals as goal

-- in a unique index one that agrees clashes
tells-clash : (target : Target) (payload : List ℕ) (members : List Member) (found : Bool) → IsTrue target.unique → TellsAlike target.alike payload members found → TellsClash target payload members found
tells-clash target payload members true unique tells = (unique, tells)
tells-clash target payload members false unique tells = inr tells

pub returns-in-Ok-clause-pages : goal.returns-in-Ok-clause-pages
returns-in-Ok-clause-pages g c =
    let seen = c.in-Ok.ensures in
    let target = c.args.target.now in
    let unique : IsTrue target.unique = search rules in
    record {
      same = seen.pages.same;
      count = seen.pages.count;
      answer = IfSome_then (g.S.PageRead.pages c.args.store.now) seen.pages.answer (λ m finds. λ depth members numbers is rises. tells-clash target c.args.payload.now members c.in-Ok.found unique (finds.answer depth members numbers is rises));
    }
