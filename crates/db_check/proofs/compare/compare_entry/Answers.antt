use Rattle.std.proofs.Common.{List, ◌∷◌, ◌++◌, [], refl, subst}
use Rattle.rbu_value.specs.declared.value.Value.{Value}
use Rattle.db_check.specs.Compares.{TellsOfFirst}
use Rattle.db_check.proofs.compare.compare_entry.Goals as goal

pub returns : goal.returns
returns c = λ entries is.
    let now = c.compare_next.new.compared in
    record {
      last = (entries, refl);
      tells = subst (λ (e : List Value). TellsOfFirst c.args.tree.now (entries ++ e ∷ []) now.agreed now.told) c.as_slice.ensures (c.compare_next.ensures.tells entries is);
    }
