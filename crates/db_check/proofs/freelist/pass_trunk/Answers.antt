use Rattle.std.proofs.Common.{Err, ◌≡◌, ◌<◌, ◌≤◌, ◌++◌, ℕ, length, sym, ap, ◌∙◌, subst, arith}
use Rattle.std.proofs.lemmas.Option.{IfSome_then}
use Rattle.page_spec.specs.Pages.{IsInRange}
use Rattle.page_spec.specs.Freelists.{trunk_limit}
use Rattle.db_check.specs.Passes.{sizes, based}
use Rattle.db_check.specs.CallsLaws.{owes-free}
use Rattle.db_check.proofs.Trunks as trunks
use Rattle.db_check.proofs.freelist.pass_trunk.Goals as goal

pub returns-in-Err-clause-pages : goal.returns-in-Err-clause-pages
returns-in-Err-clause-pages g c =
    let a = c.args in
    let size = g.S.PageRead.size a.store.now in
    let usable = g.S.PageRead.usable a.store.now in
    let count = g.S.PageRead.count a.store.now in
    let looks = c.in_ok-read.ensures.pages in
    let in_range : IsInRange size count a.number =
    subst (λ (n : ℕ). IsInRange size n a.number) c.count-count.ensures (subst (λ (s : ℕ). IsInRange s c.count-count.result a.number) c.page_size-size.ensures (c.is_in_range.ensures.0 c.if-not-is_in_range.false)) in
    let low : a.number < length a.flags.now = omega (arith, in_range.within, c.requires.flags) in
    let limit : c.trunk_limit.result ≡ trunk_limit usable = c.trunk_limit.ensures ∙ ap trunk_limit (c.usable.ensures ∙ c.in_ok-read.ensures.owes.stays.usable) in
    let few : c.u32_at-leaves.result ≤ trunk_limit usable = omega (arith, limit, c.if-leaves-trunk_limit.false) in
    record {
      same = looks.pages.same;
      count = looks.count;
      answer = IfSome_then (g.S.PageRead.pages a.store.now) looks.pages.answer (λ m page_is before marked.
          let fresh = sym c.mark.ensures.before ∙ c.if-mark.false in
          let counts = c.u32_at-leaves.ensures in
          let here = trunks.marked-here size usable count m a.holder a.number c.u32_at-leaves.result before a.flags.now c.mark.new.flags c.pass_leaves.new.flags c.read.new.page page_is in_range counts few marked low fresh c.mark.ensures.now in
          let wrong = c.in-Err.ensures.passes (sizes size usable count) (based size usable count m) (before ++ trunks.freed a.number) (sym c.page_size-size.ensures) (sym c.count-count.ensures) (sym page_is) here in
          trunks.trunk-failed size usable count m a.holder a.number c.u32_at-leaves.result before a.flags.now c.mark.new.flags c.pass_leaves.new.flags c.read.new.page page_is in_range counts few marked low fresh c.mark.ensures.now
          c.in-Err.fault wrong);
    }

pub returns-in-Ok-clause-pages : goal.returns-in-Ok-clause-pages
returns-in-Ok-clause-pages g c =
    let a = c.args in
    let size = g.S.PageRead.size a.store.now in
    let usable = g.S.PageRead.usable a.store.now in
    let count = g.S.PageRead.count a.store.now in
    let looks = c.in_ok-read.ensures.pages in
    let in_range : IsInRange size count a.number =
    subst (λ (n : ℕ). IsInRange size n a.number) c.count-count.ensures (subst (λ (s : ℕ). IsInRange s c.count-count.result a.number) c.page_size-size.ensures (c.is_in_range.ensures.0 c.if-not-is_in_range.false)) in
    let low : a.number < length a.flags.now = omega (arith, in_range.within, c.requires.flags) in
    let limit : c.trunk_limit.result ≡ trunk_limit usable = c.trunk_limit.ensures ∙ ap trunk_limit (c.usable.ensures ∙ c.in_ok-read.ensures.owes.stays.usable) in
    let few : c.u32_at-leaves.result ≤ trunk_limit usable = omega (arith, limit, c.if-leaves-trunk_limit.false) in
    record {
      same = looks.pages.same;
      count = looks.count;
      answer = IfSome_then (g.S.PageRead.pages a.store.now) looks.pages.answer (λ m page_is before marked.
          let fresh = sym c.mark.ensures.before ∙ c.if-mark.false in
          let counts = c.u32_at-leaves.ensures in
          let here = trunks.marked-here size usable count m a.holder a.number c.u32_at-leaves.result before a.flags.now c.mark.new.flags c.pass_leaves.new.flags c.read.new.page page_is in_range counts few marked low fresh c.mark.ensures.now in
          let done = c.in-Ok.ensures.passes (sizes size usable count) (based size usable count m) (before ++ trunks.freed a.number) (sym c.page_size-size.ensures) (sym c.count-count.ensures) (sym page_is) here in
          trunks.trunk-done size usable count m a.holder a.number c.u32_at-leaves.result before a.flags.now c.mark.new.flags c.pass_leaves.new.flags c.read.new.page page_is in_range counts few marked low fresh c.mark.ensures.now
          g.row.S-Fault.Denot done);
    }

pub returns-in-Err-clause-owes : goal.returns-in-Err-clause-owes
returns-in-Err-clause-owes g c = let owes = c.in_ok-read.ensures.owes in owes-free g.S.PageRead (Err c.in-Err.fault) owes.stays owes.faults.still c.in-Err.ensures.cause
