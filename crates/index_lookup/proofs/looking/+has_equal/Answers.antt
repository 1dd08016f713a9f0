use Rattle.std.proofs.Common.{◌≡◌, ℕ, ◌-◌, ◌<◌, ◌≤◌, ◌∙◌, length, sym, subst, arith, rules, slice_get, IfSome}
use Rattle.std.proofs.Math.Path.{subst⁻¹}
use Rattle.std.proofs.lemmas.Option.{IfSome_then}
use Rattle.std.proofs.lemmas.Result.{err_from_is_err_and}
use Rattle.common_spec.specs.ToldLaws.{told-both}
use Rattle.page_spec.specs.Pages.{IsInRange, Pages}
use Rattle.page_store.specs.Store.{Stays}
use Rattle.page_store.specs.StoreLaws.{at-sizes}
use Rattle.tree_spec.specs.Faults.{IsDamageOrOther}
use Rattle.tree_walk.specs.Pages.{IsDecoded}
use Rattle.tree_walk.specs.Stores.{paged, sizes_of}
use Rattle.tree_walk.specs.Places.{child_or}
use Rattle.tree_index.specs.declared.searching.Sought.TheVariants.{At}
use Rattle.tree_index.specs.Searches.{IsBadEntry, IsSought}
use Rattle.index_lookup.specs.Alikes.{FindsUnder, IsSearchFault}
use Rattle.index_lookup.proofs.EqualEntries.{below-page, found-here, missed-here, out-of_range, page-refused, search-refused}
use Rattle.index_lookup.proofs.looking.+has_equal.Goals as goal

pub returns-in_err-page-clause-pages : goal.returns-in_err-page-clause-pages
returns-in_err-page-clause-pages g t c =
    let S = g.S.PageRead in
    let a = c.args.store.now in
    let bad = c.in_err-page.ensures in
    let p = err_from_is_err_and c.from_residual.result c.from_residual.ensures.1 in
    rw (p.1, p.2)
    (record {
      same = bad.pages.same;
      count = bad.pages.count;
      answer = IfSome_then (S.pages a) bad.pages.answer (λ m refused. page-refused (sizes_of S a) (paged S a m) c.args.number c.args.levels c.args.order.now c.args.payload.now c.in_err-page.field-0.0 refused);
    })

pub returns-in_err-sought-clause-pages : goal.returns-in_err-sought-clause-pages
returns-in_err-sought-clause-pages g t c =
    let S = g.S.PageRead in
    let a = c.args.store.now in
    let rd = c.in_ok-page.ensures in
    let page = c.in_ok-page.page in
    let order = c.args.order.now in
    let fault = c.in_err-sought.field-0.0 in
    let bad = c.in_err-sought.ensures in
    let p = err_from_is_err_and c.from_residual-in_err-sought.result c.from_residual-in_err-sought.ensures.1 in
    rw (p.1, p.2)
    (record {
      same = bad.pages.same ∙ rd.pages.same;
      count = bad.pages.count ∙ rd.pages.count;
      answer = told-both (S.pages a) rd.pages.same rd.pages.answer bad.pages.answer (λ m decoded refused.
          search-refused (sizes_of S a) (paged S a m) order c.args.payload.now c.requires.entry c.args.number page decoded c.args.levels fault
          (at-sizes S rd.owes.stays rd.pages.count (λ s u n. IsDamageOrOther (λ q r. (at : ℕ) × (at < length page.views) × IsBadEntry m s u n page order at q r) fault) refused));
    })

pub returns-in-Present-clause-pages : goal.returns-in-Present-clause-pages
returns-in-Present-clause-pages g t c =
    let S = g.S.PageRead in
    let a = c.args.store.now in
    let rd = c.in_ok-page.ensures in
    let se = c.in_ok-sought.ensures in
    let page = c.in_ok-page.page in
    let order = c.args.order.now in
    let payload = c.args.payload.now in
    record {
      same = se.pages.same ∙ rd.pages.same;
      count = se.pages.count ∙ rd.pages.count;
      answer = told-both (S.pages a) rd.pages.same rd.pages.answer se.pages.answer (λ m decoded sought.
          found-here (sizes_of S a) (paged S a m) order payload c.requires.entry c.args.number page decoded c.args.levels c.in-Present.field-0
          (subst (IsSought m (S.size a) (S.usable a) (S.count a) page order payload) c.in-Present.is
          (at-sizes S rd.owes.stays rd.pages.count (λ s u n. IsSought m s u n page order payload c.in_ok-sought.sought) sought)));
    }

pub returns-then-is_leaf-clause-pages : goal.returns-then-is_leaf-clause-pages
returns-then-is_leaf-clause-pages g t c =
    let S = g.S.PageRead in
    let a = c.args.store.now in
    let rd = c.in_ok-page.ensures in
    let se = c.in_ok-sought.ensures in
    let page = c.in_ok-page.page in
    let order = c.args.order.now in
    let payload = c.args.payload.now in
    record {
      same = se.pages.same ∙ rd.pages.same;
      count = se.pages.count ∙ rd.pages.count;
      answer = told-both (S.pages a) rd.pages.same rd.pages.answer se.pages.answer (λ m decoded sought.
          missed-here (sizes_of S a) (paged S a m) order payload c.requires.entry c.args.number page decoded c.args.levels c.in-At.at
          (subst (IsSought m (S.size a) (S.usable a) (S.count a) page order payload) c.in-At.is
          (at-sizes S rd.owes.stays rd.pages.count (λ s u n. IsSought m s u n page order payload c.in_ok-sought.sought) sought)) (sym c.is_leaf.ensures ∙ c.if-is_leaf.true));
    }

pub returns-then-not-is_in_range-clause-pages : goal.returns-then-not-is_in_range-clause-pages
returns-then-not-is_in_range-clause-pages g t c =
    let S = g.S.PageRead in
    let a = c.args.store.now in
    let q = c.search.new.store in
    let rd = c.in_ok-page.ensures in
    let se = c.in_ok-sought.ensures in
    let page = c.in_ok-page.page in
    let fault = c.damaged-then-not-is_in_range.result in
    let size = c.page_size.ensures ∙ se.owes.stays.size ∙ rd.owes.stays.size in
    let count = c.count.ensures ∙ se.pages.count ∙ rd.pages.count in
    let out : IsInRange (S.size a) (S.count a) (child_or page.right (slice_get page.views c.in-At.at)) → ⊥ = λ is.
    let here : IsInRange c.page_size.result c.count.result c.child_of-child.result =
    subst⁻¹ (λ (s : ℕ). IsInRange s c.count.result c.child_of-child.result) size
    (subst⁻¹ (λ (n : ℕ). IsInRange (S.size a) n c.child_of-child.result) count (subst⁻¹ (IsInRange (S.size a) (S.count a)) c.child_of-child.ensures is)) in
    let bad = c.is_in_range.ensures.1 here in
    let no : ⊥ = cc in
    no in
    record {
      same = se.pages.same ∙ rd.pages.same;
      count = se.pages.count ∙ rd.pages.count;
      answer = IfSome_then (S.pages a) rd.pages.answer (λ m decoded.
          out-of_range (sizes_of S a) (paged S a m) c.args.order.now c.args.payload.now c.requires.entry c.args.number page decoded c.in-At.at (sym c.is_leaf.ensures ∙ c.if-is_leaf.false) c.args.levels fault out
          (subst⁻¹ IsSearchFault c.damaged-then-not-is_in_range.ensures.is tt));
    }

pub has_equal-requires : goal.has_equal-requires
has_equal-requires g t c =
    let child = c.child_of-child.result in
    let range : IsInRange c.page_size.result c.count.result child = c.is_in_range.ensures.0 c.if-not-is_in_range.false in
    let first : 1 ≤ child = omega (arith, range.behind_first) in
    let within : child ≤ g.S.PageRead.count c.search.new.store = omega (arith, range.within, c.count.ensures) in
    search (rules, first, within)

pub returns-clause-pages : goal.returns-clause-pages
returns-clause-pages g t c =
    let S = g.S.PageRead in
    let a = c.args.store.now in
    let q = c.search.new.store in
    let rd = c.in_ok-page.ensures in
    let se = c.in_ok-sought.ensures in
    let below = c.has_equal.ensures in
    let page = c.in_ok-page.page in
    let order = c.args.order.now in
    let payload = c.args.payload.now in
    let count : S.count q ≡ S.count a = se.pages.count ∙ rd.pages.count in
    let stays : Stays S a q = record {
      size = se.owes.stays.size ∙ rd.owes.stays.size;
      usable = se.owes.stays.usable ∙ rd.owes.stays.usable;
      fixed = se.owes.stays.fixed ∙ rd.owes.stays.fixed;
    } in
    let same : S.pages q ≡ S.pages a = se.pages.same ∙ rd.pages.same in
    let R = λ (m : Pages). IsDecoded (m c.args.number) c.args.number (S.usable a) page × IsSought m (S.size a) (S.usable a) (S.count a) page order payload (At c.in-At.at) in
    let searched : IfSome (S.pages a) R = told-both {R = R} (S.pages a) rd.pages.same rd.pages.answer se.pages.answer (λ m decoded sought. (
      decoded,
      subst (IsSought m (S.size a) (S.usable a) (S.count a) page order payload) c.in-At.is (at-sizes S rd.owes.stays rd.pages.count (λ s u n. IsSought m s u n page order payload c.in_ok-sought.sought) sought),
    )) in
    record {
      same = below.pages.same ∙ same;
      count = below.pages.count ∙ count;
      answer = told-both (S.pages a) same searched below.pages.answer (λ m here under.
          below-page (sizes_of S a) (paged S a m) order payload c.requires.entry c.args.number page here.0 c.in-At.at (sym c.is_leaf.ensures ∙ c.if-is_leaf.false) c.args.levels c.has_equal.result (omega (arith, c.if-levels-eq0.false)) here.1
          (subst (λ (n : ℕ). FindsUnder (sizes_of S a) (paged S a m) n (c.args.levels - 1) order payload c.has_equal.result) c.child_of-child.ensures
          (at-sizes S stays count (λ s u n. FindsUnder (record { size = s; usable = u }) (record { count = n; pages = m }) c.child_of-child.result (c.args.levels - 1) order payload c.has_equal.result) under)));
    }
