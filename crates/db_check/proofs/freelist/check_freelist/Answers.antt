use Rattle.std.proofs.Common.{◌≡◌, ◌≢◌, ℕ, Ok, Err, IfSome, ap, ◌∙◌, subst, arith}
use Rattle.common_spec.specs.ToldLaws.{told-both}
use Rattle.format_spec.specs.Header.{freelist_trunk, freelist_pages}
use Rattle.page_store.specs.StoreLaws.{at-sizes}
use Rattle.db_check.specs.Passes.{EndsTrunks, PassesTrunks}
use Rattle.db_check.proofs.Trunks as trunks
use Rattle.db_check.proofs.freelist.check_freelist.Goals as goal

pub returns-in-Err-clause-pages : goal.returns-in-Err-clause-pages
returns-in-Err-clause-pages g c =
    let a = c.args in
    let size = g.S.PageRead.size a.store.now in
    let usable = g.S.PageRead.usable a.store.now in
    let count = g.S.PageRead.count a.store.now in
    let looks = c.in_ok-read.ensures.pages in
    let sees = c.in-Err.ensures.pages in
    let ends = at-sizes g.S.PageRead c.in_ok-read.ensures.owes.stays looks.count (λ s u n. IfSome (g.S.PageRead.pages c.read.new.store) (PassesTrunks s u n {F = g.row.S-Fault.Denot} c.u32_at-first.result a.flags.now c.pass_trunks.new.flags (Err c.in-Err.fault))) sees.answer in
    record {
      same = sees.same ∙ looks.pages.same;
      count = sees.count ∙ looks.count;
      answer = told-both (g.S.PageRead.pages a.store.now) looks.pages.same looks.pages.answer ends (λ m page_is end before none marked.
          let first : c.u32_at-first.result ≡ freelist_trunk (m 1) = c.u32_at-first.ensures ∙ ap freelist_trunk page_is in
          let done = subst (λ (n : ℕ). EndsTrunks size usable count {F = g.row.S-Fault.Denot} m n before c.pass_trunks.new.flags (Err c.in-Err.fault)) first (end before marked) in
          trunks.freelist-wrong size usable count m before c.pass_trunks.new.flags c.pass_trunks.new.flags c.in-Err.fault done);
    }

pub returns-then-free-counted-clause-pages : goal.returns-then-free-counted-clause-pages
returns-then-free-counted-clause-pages g c =
    let a = c.args in
    let size = g.S.PageRead.size a.store.now in
    let usable = g.S.PageRead.usable a.store.now in
    let count = g.S.PageRead.count a.store.now in
    let looks = c.in_ok-read.ensures.pages in
    let sees = c.in-Ok.ensures.pages in
    let ends = at-sizes g.S.PageRead c.in_ok-read.ensures.owes.stays looks.count (λ s u n. IfSome (g.S.PageRead.pages c.read.new.store) (PassesTrunks s u n {F = g.row.S-Fault.Denot} c.u32_at-first.result a.flags.now c.pass_trunks.new.flags (Ok c.in-Ok.free))) sees.answer in
    record {
      same = sees.same ∙ looks.pages.same;
      count = sees.count ∙ looks.count;
      answer = told-both (g.S.PageRead.pages a.store.now) looks.pages.same looks.pages.answer ends (λ m page_is end before none marked.
          let first : c.u32_at-first.result ≡ freelist_trunk (m 1) = c.u32_at-first.ensures ∙ ap freelist_trunk page_is in
          let done = subst (λ (n : ℕ). EndsTrunks size usable count {F = g.row.S-Fault.Denot} m n before c.pass_trunks.new.flags (Ok c.in-Ok.free)) first (end before marked) in
          let counted : c.from-counted.result ≡ freelist_pages (m 1) = c.from-counted.ensures ∙ c.u32_at.ensures ∙ ap freelist_pages page_is in
          let unlike : c.in-Ok.free ≢ freelist_pages (m 1) = λ e. absurd (omega (arith, e, counted, c.if-free-counted.true)) in
          trunks.freelist-miscounted size usable count m g.row.S-Fault.Denot before c.pass_trunks.new.flags c.in-Ok.free none unlike done);
    }

pub returns-clause-pages : goal.returns-clause-pages
returns-clause-pages g c =
    let a = c.args in
    let size = g.S.PageRead.size a.store.now in
    let usable = g.S.PageRead.usable a.store.now in
    let count = g.S.PageRead.count a.store.now in
    let looks = c.in_ok-read.ensures.pages in
    let sees = c.in-Ok.ensures.pages in
    let ends = at-sizes g.S.PageRead c.in_ok-read.ensures.owes.stays looks.count (λ s u n. IfSome (g.S.PageRead.pages c.read.new.store) (PassesTrunks s u n {F = g.row.S-Fault.Denot} c.u32_at-first.result a.flags.now c.pass_trunks.new.flags (Ok c.in-Ok.free))) sees.answer in
    record {
      same = sees.same ∙ looks.pages.same;
      count = sees.count ∙ looks.count;
      answer = told-both (g.S.PageRead.pages a.store.now) looks.pages.same looks.pages.answer ends (λ m page_is end before none marked.
          let first : c.u32_at-first.result ≡ freelist_trunk (m 1) = c.u32_at-first.ensures ∙ ap freelist_trunk page_is in
          let done = subst (λ (n : ℕ). EndsTrunks size usable count {F = g.row.S-Fault.Denot} m n before c.pass_trunks.new.flags (Ok c.in-Ok.free)) first (end before marked) in
          let counted : c.from-counted.result ≡ freelist_pages (m 1) = c.from-counted.ensures ∙ c.u32_at.ensures ∙ ap freelist_pages page_is in
          let same : c.in-Ok.free ≡ freelist_pages (m 1) = omega (arith, counted, c.if-free-counted.false) in
          trunks.freelist-passed size usable count m g.row.S-Fault.Denot before c.pass_trunks.new.flags c.in-Ok.free none same done);
    }
