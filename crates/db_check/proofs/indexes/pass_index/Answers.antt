use Rattle.std.proofs.Common.{◌≡◌, List, Option, None, Ok, subst}
use Rattle.std.proofs.Math.Path.{subst⁻¹}
use Rattle.std.specs.Global.{Global}
use Rattle.std.specs.Prelude.{Vec}
use Rattle.rbu_value.specs.declared.value.Value.{Value}
use Rattle.tree_walk.specs.Stores.{sizes_of, paged}
use Rattle.database_spec.specs.Keys.{IsProjection}
use Rattle.database_spec.specs.Walks.{members_found}
use Rattle.db_check.specs.Compares.{Tells}
use Rattle.db_check.specs.Indexes.{ComparesTree, PassesOther, TellsIndex}
use Rattle.db_check.specs.Projections.{Projects}
use Rattle.db_check.proofs.Indexed.{ends-then, index-other, index-plain, tells-other, tells-plain}
use Rattle.db_check.specs.CallsLaws.{sees-both}
use Rattle.db_check.proofs.indexes.pass_index.Goals as goal

pub returns-in-Ok-Some-clause-pages : goal.returns-in-Ok-Some-clause-pages
returns-in-Ok-Some-clause-pages g c =
    let a = c.args in
    let store = a.store.now in
    let index = a.index.now in
    let expected = c.as_slice-in-Ok-Some.result.now in
    sees-both g.S.PageRead (λ sizes base. ComparesTree sizes base {F = g.row.S-Fault.Denot} index expected a.root a.flags.now c.pass_plain.new.flags c.pass_plain.result) c.in-Ok-Some.ensures.pages c.in-Ok-Some.ensures.owes.stays c.pass_plain.ensures.pages
    (λ m read compares entry root_is meaning subject before is fresh marked findings walk.
    let sizes = sizes_of g.S.PageRead store in
    let base = paged g.S.PageRead store m in
    let projects = subst (λ (found : Option (Vec (List Value) Global)). Projects {F = g.row.S-Fault.Denot} sizes base a.table_root a.table.now index (Ok found)) c.in-Ok-Some.field-0-is read in
    let plain = index-plain sizes base a.table_root a.table.now index entry root_is meaning g.row.S-Fault.Denot c.in-Ok-Some.expected projects a.root subject is in
    let rows = plain.0 in
    let given = subst⁻¹ (λ (list : List (List Value)). IsProjection index rows list) c.as_slice-in-Ok-Some.ensures.value in
    ends-then (λ members told. IsProjection index rows expected → Tells index rows members told) (TellsIndex subject.content) subject before findings c.pass_plain.new.flags c.pass_plain.result
    (λ told tells. tells-plain subject index rows expected (members_found findings) told plain.1 (λ apart. given (plain.2 apart)) tells) (compares subject rows before plain.1 is.root fresh marked findings walk))

pub returns-in-Ok-None-clause-pages : goal.returns-in-Ok-None-clause-pages
returns-in-Ok-None-clause-pages g c =
    let a = c.args in
    let store = a.store.now in
    sees-both g.S.PageRead (λ sizes base. PassesOther sizes base {F = g.row.S-Fault.Denot} a.root a.flags.now c.pass_other.new.flags c.pass_other.result) c.in-Ok-None.ensures.pages c.in-Ok-None.ensures.owes.stays c.pass_other.ensures.pages
    (λ m read other entry root_is meaning subject before is fresh marked findings walk.
    let sizes = sizes_of g.S.PageRead store in
    let base = paged g.S.PageRead store m in
    let none = subst (λ (found : Option (Vec (List Value) Global)). Projects {F = g.row.S-Fault.Denot} sizes base a.table_root a.table.now a.index.now (Ok found)) c.in-Ok-None.field-0-is read in
    let content = index-other sizes base a.table_root a.table.now a.index.now entry root_is meaning g.row.S-Fault.Denot none a.root subject is in
    ends-then (λ members told. told ≡ None) (TellsIndex subject.content) subject before findings c.pass_other.new.flags c.pass_other.result
    (λ told tells. tells-other subject (members_found findings) told content tells) (other subject before content is.root fresh marked findings walk))
