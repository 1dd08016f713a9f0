use Rattle.std.proofs.Common.{◌≡◌, ℕ, List, Err, length, ap, ◌∙◌, subst}
use Rattle.std.proofs.Math.Path.{subst⁻¹}
use Rattle.std.proofs.lemmas.Option.{IfSome_then}
use Rattle.tree_walk.specs.Pages.{IsDecoded, IsReadFault}
use Rattle.tree_walk.proofs.Calls.{owes-free}
use Rattle.tree_walk.proofs.reading.read_page.Goals as goal

pub returns-in-Err-clause-pages : goal.returns-in-Err-clause-pages
returns-in-Err-clause-pages g c =
    let a = c.args in
    let looks = c.in_ok-bytes.ensures.pages in
    let used : c.usable.result ≡ g.S.PageRead.usable a.store.now = c.usable.ensures ∙ c.in_ok-bytes.ensures.owes.stays.usable in
    let bytes = c.in_ok-bytes.bytes.items in
    record {
      same = looks.pages.same;
      count = looks.count;
      answer = IfSome_then (g.S.PageRead.pages a.store.now) looks.pages.answer (λ m is.
          subst (λ (b : List ℕ). IsReadFault b a.number (g.S.PageRead.usable a.store.now) c.in_tree.result) is
          (subst (λ (u : ℕ). IsReadFault bytes a.number u c.in_tree.result) used (c.in_tree.ensures.answer bytes c.usable.result c.in-Err.ensures.refused)));
    }

pub returns-in-Ok-clause-pages : goal.returns-in-Ok-clause-pages
returns-in-Ok-clause-pages g c =
    let a = c.args in
    let looks = c.in_ok-bytes.ensures.pages in
    let used : c.usable.result ≡ g.S.PageRead.usable a.store.now = c.usable.ensures ∙ c.in_ok-bytes.ensures.owes.stays.usable in
    let bytes = c.in_ok-bytes.bytes.items in
    record {
      same = looks.pages.same;
      count = looks.count;
      answer = IfSome_then (g.S.PageRead.pages a.store.now) looks.pages.answer (λ m is.
          subst (λ (b : List ℕ). IsDecoded b a.number (g.S.PageRead.usable a.store.now) c.in-Ok.page) is
          (subst (λ (u : ℕ). IsDecoded bytes a.number u c.in-Ok.page) used c.in-Ok.ensures.found));
    }

pub returns-in-Err-clause-owes : goal.returns-in-Err-clause-owes
returns-in-Err-clause-owes g c = let owes = c.in_ok-bytes.ensures.owes in owes-free g.S.PageRead (Err c.in_tree.result) owes.stays owes.faults.still c.in_tree.ensures.cause

pub returns-in-Ok-clause-read : goal.returns-in-Ok-clause-read
returns-in-Ok-clause-read g c =
    let a = c.args in
    let used : c.usable.result ≡ g.S.PageRead.usable a.store.now = c.usable.ensures ∙ c.in_ok-bytes.ensures.owes.stays.usable in
    let found = c.in-Ok.ensures.found in
    subst⁻¹ (λ (b : List ℕ). IsDecoded b a.number (g.S.PageRead.usable a.store.now) c.in-Ok.page) found.bytes_are
    (subst (λ (u : ℕ). IsDecoded c.in_ok-bytes.bytes.items a.number u c.in-Ok.page) used found)

pub returns-in-Ok-clause-whole : goal.returns-in-Ok-clause-whole
returns-in-Ok-clause-whole g c = ap length c.in-Ok.ensures.found.bytes_are ∙ c.in_ok-bytes.ensures.whole
