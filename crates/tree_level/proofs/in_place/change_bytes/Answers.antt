use Rattle.std.proofs.Common.{◌≡◌, ℕ, List, [], sym, ap, ◌∙◌, subst, arith}
use Rattle.std.specs.List.{All}
use Rattle.format_spec.specs.declared.PageKind.{PageKind}
use Rattle.format_spec.specs.Page.{IsPage}
use Rattle.page_spec.specs.Rooms.{IsOneCell, free_bytes, needs}
use Rattle.page_layout.specs.ViewsLaws.{kind_byte-same}
use Rattle.tree_spec.specs.PagesLaws.{page-same}
use Rattle.tree_level.specs.Changes.{changed}
use Rattle.tree_level.specs.ChangesLaws.{changed-front, changed-twice}
use Rattle.tree_level.proofs.Placing.{room-left}
use Rattle.tree_level.proofs.in_place.change_bytes.Goals as goal

pub put_in-requires-clause-page : goal.put_in-requires-clause-page
put_in-requires-clause-page c =
    let r = c.requires.page in
    let acc = r.accepted in
    record {
      usable_is = r.usable_is;
      whole = omega (arith, r.whole);
      long = omega (arith, r.long);
      accepted = record { kind = acc.kind; cells = changed acc.cells c.args.at c.args.goes []; right = acc.right; is_page = c.take_out.ensures acc.kind acc.cells acc.right acc.is_page };
    }

pub put_in-requires-clause-within : goal.put_in-requires-clause-within
put_in-requires-clause-within c =
    let acc = c.requires.page.accepted in
    let is = c.take_out.ensures acc.kind acc.cells acc.right acc.is_page in
    omega (arith, is.count, changed-front acc.cells c.args.at c.args.goes [] (omega (arith, c.requires.within, acc.is_page.count)))

pub put_in-requires-clause-comes : goal.put_in-requires-clause-comes
put_in-requires-clause-comes c =
    let acc = c.requires.page.accepted in
    let is = c.take_out.ensures acc.kind acc.cells acc.right acc.is_page in
    let k = c.requires.comes.0 in
    let same : k ≡ acc.kind = kind_byte-same k acc.kind (sym c.requires.comes.1 ∙ acc.is_page.kind_is) in
    (acc.kind, is.kind_is, subst (λ (p : PageKind). All (IsOneCell p c.args.usable) c.args.comes.now) same c.requires.comes.2)

pub put_in-requires-clause-room : goal.put_in-requires-clause-room
put_in-requires-clause-room c kind cells right page =
    let a = c.args in
    let acc = c.requires.page.accepted in
    let was = changed acc.cells a.at a.goes [] in
    let is = c.take_out.ensures acc.kind acc.cells acc.right acc.is_page in
    let kinds : kind ≡ acc.kind = kind_byte-same kind acc.kind (sym page.kind_is ∙ is.kind_is) in
    let also : IsPage c.take_out.new.page a.number a.usable acc.kind cells right = subst (λ (p : PageKind). IsPage c.take_out.new.page a.number a.usable p cells right) kinds page in
    let same : cells ≡ was = (page-same c.take_out.new.page a.number a.usable acc.kind cells was right acc.right also is).0 in
    let free : free_bytes a.number a.usable kind [] ≡ free_bytes a.number a.usable acc.kind [] = ap (λ (p : PageKind). free_bytes a.number a.usable p []) kinds in
    omega (arith, ap needs same, room-left acc.cells a.comes.now a.at a.goes, c.requires.room acc.kind acc.cells acc.right acc.is_page, free)

pub returns : goal.returns
returns c kind cells right is =
    let a = c.args in
    subst (λ (l : List (List ℕ)). IsPage c.put_in.new.page a.number a.usable kind l right) (changed-twice cells a.at a.goes a.comes.now)
    (c.put_in.ensures kind (changed cells a.at a.goes []) right (c.take_out.ensures kind cells right is))
