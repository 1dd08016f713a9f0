use Rattle.std.proofs.Common.{◌∙◌, ◌↔◌, Bool, IsNone, Option, Ok, Err, refl, subst}
use Rattle.std.proofs.lemmas.Option.{IfSome_then}
use Rattle.common_spec.specs.ToldLaws.{told-both}
use Rattle.page_store.specs.StoreLaws.{at-sizes, some-all}
use Rattle.tree_walk.specs.declared.cursor.Row.{Row}
use Rattle.tree_walk.specs.Stores.{sizes_of, paged}
use Rattle.tree_walk.specs.Courses.{IsPast, MovesOver, ReadsFirst}
use Rattle.table_dump.proofs.Walking.{leaves-row, refuses-row, damage-behind, damage-first, rows-end}
use Rattle.table_dump.proofs.rows.print_next.Goals as goal

pub returns-in-Ok-next-clause-pages : goal.returns-in-Ok-next-clause-pages
returns-in-Ok-next-clause-pages g c =
    let a = c.args in
    let store = a.store.now in
    let reads = c.in-Ok-Some.ensures in
    let moves = c.in-Ok-next.ensures in
    let line = c.in-Ok.ensures in
    record {
      same = moves.walk.same ∙ reads.walk.same;
      count = moves.walk.count ∙ reads.walk.count;
      answer = told-both (g.S.PageRead.pages store) reads.walk.same reads.walk.answer moves.walk.answer (λ m read move. λ findings remains. (
        line.0,
        leaves-row a.name.now a.table.now (sizes_of g.S.PageRead store) (paged g.S.PageRead store m) findings a.cursor.now remains g.row.S-Fault.Denot c.in-Ok-Some.row
            (subst (λ (o : Option Row). ReadsFirst (sizes_of g.S.PageRead store) (paged g.S.PageRead store m) {F = g.row.S-Fault.Denot} a.cursor.now (Ok o)) c.in-Ok-Some.field-0-is read) Bool c.in-Ok-next.field-0 c.next.new.self line.0 line.1
            (at-sizes g.S.PageRead reads.owes.stays reads.walk.count (λ s u n.
            MovesOver {T = Bool} {F = g.row.S-Fault.Denot} (record { size = s; usable = u }) (record { count = n; pages = m }) a.cursor.now c.next.new.self (Ok c.in-Ok-next.field-0)) move),
        line.2,
      ));
    }

pub returns-in-Ok-clause-pages : goal.returns-in-Ok-clause-pages
returns-in-Ok-clause-pages g c =
    let a = c.args in
    let store = a.store.now in
    let reads = c.in-Ok-Some.ensures in
    let moves = c.in-Err-next.ensures in
    let line = c.in-Ok.ensures in
    record {
      same = moves.walk.same ∙ reads.walk.same;
      count = moves.walk.count ∙ reads.walk.count;
      answer = told-both (g.S.PageRead.pages store) reads.walk.same reads.walk.answer moves.walk.answer (λ m read move. λ findings remains.
          damage-behind a.name.now a.table.now (sizes_of g.S.PageRead store) (paged g.S.PageRead store m) findings a.cursor.now remains g.row.S-Fault.Denot c.in-Ok-Some.row
          (subst (λ (o : Option Row). ReadsFirst (sizes_of g.S.PageRead store) (paged g.S.PageRead store m) {F = g.row.S-Fault.Denot} a.cursor.now (Ok o)) c.in-Ok-Some.field-0-is read) Bool c.in-Err-next.fault c.of_tree.result c.next.new.self line.0
          c.of_tree.ensures.is line.1
          (at-sizes g.S.PageRead reads.owes.stays reads.walk.count (λ s u n.
          MovesOver {T = Bool} {F = g.row.S-Fault.Denot} (record { size = s; usable = u }) (record { count = n; pages = m }) a.cursor.now c.next.new.self (Err c.in-Err-next.fault)) move));
    }

pub returns-in-Ok-Some-clause-pages : goal.returns-in-Ok-Some-clause-pages
returns-in-Ok-Some-clause-pages g c =
    let a = c.args in
    let store = a.store.now in
    let reads = c.in-Ok-Some.ensures in
    record {
      same = reads.walk.same;
      count = reads.walk.count;
      answer = IfSome_then (g.S.PageRead.pages store) reads.walk.answer (λ m read. λ findings remains.
          refuses-row a.name.now a.table.now (sizes_of g.S.PageRead store) (paged g.S.PageRead store m) findings a.cursor.now remains g.row.S-Fault.Denot c.in-Ok-Some.row
          (subst (λ (o : Option Row). ReadsFirst (sizes_of g.S.PageRead store) (paged g.S.PageRead store m) {F = g.row.S-Fault.Denot} a.cursor.now (Ok o)) c.in-Ok-Some.field-0-is read) c.in-Err-push_table_row.fault c.of_row.result
          c.of_row.ensures.is c.in-Err-push_table_row.ensures);
    }

pub returns-in-Ok-None-clause-pages : goal.returns-in-Ok-None-clause-pages
returns-in-Ok-None-clause-pages g c =
    let a = c.args in
    let store = a.store.now in
    let reads = c.in-Ok-None.ensures in
    let past = (subst (λ (o : Option Row). IsNone o ↔ IsPast a.cursor.now) c.in-Ok-None.field-0-is reads.none).0 refl in
    record {
      same = reads.walk.same;
      count = reads.walk.count;
      answer = some-all (g.S.PageRead.pages store) (λ m. λ findings remains. (rows-end a.name.now a.table.now (sizes_of g.S.PageRead store) (paged g.S.PageRead store m) findings a.cursor.now remains past, refl));
    }

pub returns-clause-pages : goal.returns-clause-pages
returns-clause-pages g c =
    let a = c.args in
    let store = a.store.now in
    let reads = c.in-Err.ensures in
    record {
      same = reads.walk.same;
      count = reads.walk.count;
      answer = IfSome_then (g.S.PageRead.pages store) reads.walk.answer (λ m read. λ findings remains.
          damage-first a.name.now a.table.now (sizes_of g.S.PageRead store) (paged g.S.PageRead store m) findings a.cursor.now remains c.in-Err.fault c.of_tree-in-Err.result c.of_tree-in-Err.ensures.is read);
    }
