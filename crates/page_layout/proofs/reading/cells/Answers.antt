use Rattle.std.proofs.Common.{◌≡◌, ◌<◌, ℕ, length, sym, ◌∙◌, subst, inr, arith}
use Rattle.common_spec.specs.ReadingLaws.{Reads-one}
use Rattle.format_spec.specs.declared.PageKind.{PageKind}
use Rattle.format_spec.specs.Page.{IsPage, cell_count}
use Rattle.page_spec.specs.Rooms.{array_end}
use Rattle.page_spec.specs.RoomsLaws.{array-fits}
use Rattle.page_layout.specs.Views.{AreViews}
use Rattle.page_layout.specs.ViewsLaws.{kind_byte-same}
use Rattle.page_layout.proofs.Accepting.{AreViews-has_views, HasViews-are_views, IsPage-has_views, answer-one}
use Rattle.page_layout.proofs.reading.cells.Goals as goal

pub returns-then-header-header_length : goal.returns-then-header-header_length
returns-then-header-header_length c =
    let a = c.args in
    let page = a.page.now in
    let kind = c.in-Some.kind in
    let has = c.in-Some.ensures.found in
    let count : c.count_of-count.result ≡ cell_count page a.number = c.count_of-count.ensures.value in
    let long : a.usable < array_end a.number kind c.count_of-count.result = omega (arith, c.if-header-header_length.true, c.header_place-header.ensures.value, c.header_length.ensures.value) in
    inr (Reads-one _ _ (answer-one page a.number a.usable c.requires.whole) (
      (kind, has),
      λ other cells right is.
          let same : other ≡ kind = kind_byte-same other kind (sym is.kind_is ∙ has) in
          let there : IsPage page a.number a.usable kind cells right = subst (λ (k : PageKind). IsPage page a.number a.usable k cells right) same is in
          let fits = array-fits page a.number a.usable kind cells right c.requires.usable there in
          omega (arith, long, fits, count, there.count),
    ))

pub returns-in-Some-2 : goal.returns-in-Some-2
returns-in-Some-2 c =
    let a = c.args in
    let page = a.page.now in
    let count : c.count_of-count.result ≡ cell_count page a.number = c.count_of-count.ensures.value in
    Reads-one _ _ (answer-one page a.number a.usable c.requires.whole)
    (AreViews-has_views page a.number a.usable c.requires.whole c.in-Some.kind c.count_of-count.result c.in-Some-2.views.items c.in-Some.ensures.found (sym count)
    (rw c.in-Some-2.is at c.in_ok-views.ensures.many) (rw c.in-Some-2.is at c.in_ok-views.ensures.found))

pub returns-in-None : goal.returns-in-None
returns-in-None c =
    let a = c.args in
    let page = a.page.now in
    let kind = c.in-Some.kind in
    let has = c.in-Some.ensures.found in
    let count : c.count_of-count.result ≡ cell_count page a.number = c.count_of-count.ensures.value in
    inr (Reads-one _ _ (answer-one page a.number a.usable c.requires.whole) (
      (kind, has),
      λ other cells right is.
          let views = IsPage-has_views page a.number a.usable c.requires.whole other cells right is in
          let kinds : views.1.kind ≡ kind = kind_byte-same views.1.kind kind (sym views.1.is_page.kind_is ∙ has) in
          let counts : length views.1.cells ≡ c.count_of-count.result = sym views.1.is_page.count ∙ sym count in
          let are = subst (λ (n : ℕ). AreViews page a.number a.usable views.1.kind n views.0) counts (HasViews-are_views page a.number a.usable c.requires.whole views.0 views.1) in
          let there = subst (λ (k : PageKind). AreViews page a.number a.usable k c.count_of-count.result views.0) kinds are in
          (rw c.in-None.is at c.in_ok-views.ensures.none) views.0 (views.1.many ∙ counts) there,
    ))
