use Rattle.std.proofs.Common.{◌∙◌, List, map, subst}
use Rattle.std.proofs.lemmas.Option.{IfSome_then}
use Rattle.common_spec.specs.ToldLaws.{told-both}
use Rattle.tree_spec.specs.Standing.{Paged, Sizes}
use Rattle.tree_walk.specs.declared.cursor.Row.{Row}
use Rattle.schema_read.specs.Answers.{SaysOrOther}
use Rattle.schema_read.specs.Rows.{member_of}
use Rattle.page_store.specs.StoreLaws.{at-sizes}
use Rattle.schema_read.proofs.Saying.{damage-answer, reads-answer}
use Rattle.schema_read.proofs.read.read_known.Goals as goal

pub returns-in-Ok-clause-pages : goal.returns-in-Ok-clause-pages
returns-in-Ok-clause-pages g c =
    let store = c.args.store.now in
    let read = c.in-Ok.ensures in
    let said = c.say_in.ensures in
    record {
      same = said.pages.same ∙ read.pages.same;
      count = said.pages.count ∙ read.pages.count;
      answer = told-both (g.S.PageRead.pages store) read.pages.same read.pages.answer said.pages.answer (λ m members says.
          let sizes : Sizes = record { size = g.S.PageRead.size store; usable = g.S.PageRead.usable store } in
          let base : Paged = record { count = g.S.PageRead.count store; pages = m } in
          reads-answer sizes base (map member_of c.in-Ok.members.items) members c.say_in.result
          (subst (λ (l : List Row). SaysOrOther sizes base (map member_of l) c.say_in.result) c.as_slice.ensures.value
          (at-sizes g.S.PageRead read.owes.stays read.pages.count (λ s u n. SaysOrOther (record { size = s; usable = u }) (record { count = n; pages = m }) (map member_of c.as_slice.result.now) c.say_in.result) says)));
    }

pub returns-in-Err-clause-pages : goal.returns-in-Err-clause-pages
returns-in-Err-clause-pages g c =
    let store = c.args.store.now in
    let read = c.in-Err.ensures.pages in
    record {
      same = read.same;
      count = read.count;
      answer = IfSome_then (g.S.PageRead.pages store) read.answer (λ m damaged.
          damage-answer (record { size = g.S.PageRead.size store; usable = g.S.PageRead.usable store }) (record { count = g.S.PageRead.count store; pages = m }) c.in-Err.fault damaged);
    }
