use Rattle.std.proofs.Common.{◌≡◌, ◌≢◌, ◌≤◌, ◌+◌, ℕ, List, [], length, drop, ap, inl, ◌∙◌, subst, arith}
use Rattle.std.proofs.lemmas.List.{length-drop}
use Rattle.std.proofs.Math.Path.{subst⁻¹}
use Rattle.std.proofs.lemmas.Result.{IfErr-weaker, err_from_is_err_and}
use Rattle.std.specs.List.{All}
use Rattle.page_spec.specs.FreePages.{due_pages}
use Rattle.format_spec.specs.declared.PageKind.{PageKind}
use Rattle.page_spec.specs.Pages.{IsInRange}
use Rattle.page_spec.specs.Rooms.{IsOneCell, needs, free_bytes}
use Rattle.put_spec.specs.Steps.{Took}
use Rattle.tree_spec.specs.Standing.{Sizes}
use Rattle.tree_spec.specs.Worlds.{IsFree}
use Rattle.tree_pages.specs.Takes.{IsShort}
use Rattle.tree_pages.specs.TakesLaws.{short-more}
use Rattle.tree_pages.specs.Writers.{Becomes, paged, sizes_of}
use Rattle.tree_pages.specs.WritersLaws.{sizes-same}
use Rattle.tree_level.specs.declared.writing.Node.{Node}
use Rattle.tree_level.specs.Levels.{WritesNode, above_kind}
use Rattle.tree_level.proofs.Fronts.{cells-behind, rest-of, room-other, two-fit, spreads-moved, spreads-short, spreads-takes, on-ok_all, on-ok_map}
use Rattle.tree_level.proofs.settling.move_out.Goals as goal

pub write_node-requires-clause-cells : goal.write_node-requires-clause-cells
write_node-requires-clause-cells g c =
    let cells = c.args.cells.now in
    let start = c.in_ok-dividers.field-0.start in
    let kind = c.args.root.kind in
    subst⁻¹ (All (IsOneCell kind (g.S.PageRead.usable c.take_page.new.store))) (rest-of start cells)
    (subst⁻¹ (λ (u : ℕ). All (IsOneCell kind u) (drop start cells)) (c.in_ok-fresh.ensures.owes.stays.usable ∙ c.in_ok-dividers.ensures.owes.stays.usable)
    (cells-behind (IsOneCell kind (g.S.PageRead.usable c.args.store.now)) start cells c.requires.cells))

pub write_node-requires-2-clause-cells : goal.write_node-requires-2-clause-cells
write_node-requires-2-clause-cells g c =
    let S = g.S.PageRead in
    let dividers = c.in_ok-dividers.field-0.dividers.items in
    let items : c.as_slice.result.now ≡ dividers = c.as_slice.ensures.value in
    let usable : S.usable c.write_node.new.store ≡ S.usable c.args.store.now = c.in_ok-write_node.ensures.owes.stays.usable ∙ c.in_ok-fresh.ensures.owes.stays.usable ∙ c.in_ok-dividers.ensures.owes.stays.usable in
    subst⁻¹ (All (IsOneCell c.kind_above.result (S.usable c.write_node.new.store))) items
    (subst⁻¹ (λ (k : PageKind). All (IsOneCell k (S.usable c.write_node.new.store)) dividers) c.kind_above.ensures
    (subst⁻¹ (λ (u : ℕ). All (IsOneCell (above_kind c.args.root.kind) u) dividers) usable c.in_ok-dividers.ensures.dividers))

pub write_node-requires-2-clause-room : goal.write_node-requires-2-clause-room
write_node-requires-2-clause-room g c =
    let S = g.S.PageRead in
    let number = c.args.root.number in
    let kind = c.args.root.kind in
    let s = c.in_ok-dividers.ensures in
    let dividers = c.in_ok-dividers.field-0.dividers.items in
    let items : c.as_slice.result.now ≡ dividers = c.as_slice.ensures.value in
    let usable : S.usable c.write_node.new.store ≡ S.usable c.args.store.now = c.in_ok-write_node.ensures.owes.stays.usable ∙ c.in_ok-fresh.ensures.owes.stays.usable ∙ s.owes.stays.usable in
    subst⁻¹ (λ (l : List (List ℕ)). needs l ≤ free_bytes number (S.usable c.write_node.new.store) c.kind_above.result []) items
    (subst⁻¹ (λ (k : PageKind). needs dividers ≤ free_bytes number (S.usable c.write_node.new.store) k []) c.kind_above.ensures
    (subst⁻¹ (λ (u : ℕ). needs dividers ≤ free_bytes number u (above_kind kind) []) usable
    (two-fit kind number (S.usable c.args.store.now) dividers c.requires.sizes.usable s.dividers (s.few c.requires.twice))))

pub returns-clause-moved : goal.returns-clause-moved
returns-clause-moved g c =
    let S = g.S.PageRead in
    let a = c.args.store.now in
    let one = c.spread_cells.new.store in
    let two = c.take_page.new.store in
    let three = c.write_node.new.store in
    let four = c.write_node-2.new.store in
    let cells = c.args.cells.now in
    let root = c.args.root in
    let s = c.in_ok-dividers.ensures in
    let t = c.in_ok-fresh.ensures in
    let w = c.in_ok-write_node.ensures in
    let start = c.in_ok-dividers.field-0.start in
    let dividers = c.in_ok-dividers.field-0.dividers.items in
    let fresh = c.in_ok-fresh.fresh in
    let items : c.as_slice.result.now ≡ dividers = c.as_slice.ensures.value in
    let size_two : S.size two ≡ S.size a = t.owes.stays.size ∙ s.owes.stays.size in
    let sizes_one = sizes-same S a one s.owes.stays in
    let sizes_two = sizes-same S one two t.owes.stays ∙ sizes_one in
    let sizes_three = sizes-same S two three w.owes.stays ∙ sizes_two in
    let range : IsInRange (S.size a) (S.count two) fresh = subst (λ (m : ℕ). IsInRange m (S.count two) fresh) size_two t.in_range in
    let below : Node = record { number = fresh; kind = root.kind; right = root.right } in
    on-ok_map c.write_node-2.result
    (λ (written : Becomes S three four (WritesNode (sizes_of S three) (record { number = root.number; kind = c.kind_above.result; right = fresh }) c.as_slice.result.now)) old told.
    let n = s.spread old told in
    let m = t.took n.0 n.1 in
    let k = w.written m.0 m.1 in
    let l = written k.0 k.1 in
    let q = paged S a old in
    let r = paged S one n.0 in
    let x = paged S two m.0 in
    let y = paged S three k.0 in
    let z = paged S four l.0 in
    let took = subst (λ (z : Sizes). Took z fresh r x) sizes_one m.2 in
    let first = subst (λ (z : Sizes). WritesNode z below (drop start cells) x y) sizes_two (subst (λ (l : List (List ℕ)). WritesNode (sizes_of S two) below l x y) (rest-of start cells) k.2) in
    let second = subst (λ (s : Sizes). WritesNode s (record { number = root.number; kind = above_kind root.kind; right = fresh }) dividers y z) sizes_three
    (subst (λ (k : PageKind). WritesNode (sizes_of S three) (record { number = root.number; kind = k; right = fresh }) dividers y z) c.kind_above.ensures
    (subst (λ (l : List (List ℕ)). WritesNode (sizes_of S three) (record { number = root.number; kind = c.kind_above.result; right = fresh }) l y z) items l.2)) in (
      l.0,
      l.1,
      spreads-moved (sizes_of S a) root fresh cells (drop start cells) dividers q r x y z n.2 took range first second
          (omega (arith, s.left, length-drop start cells))
          (λ other. s.over (omega (arith, c.requires.over, room-other root.number (S.usable a) root.kind (behind root.number c.requires.first other)))),
    )) c.write_node-2.ensures.written
  where
    behind : (n : ℕ) → 1 ≤ n → n ≢ 1 → 2 ≤ n
    behind n some other = omega arith

pub returns-clause-rises : goal.returns-clause-rises
returns-clause-rises g c =
    let S = g.S.PageRead in
    let size = S.size c.args.store.now in
    let one = c.spread_cells.new.store in
    let two = c.take_page.new.store in
    let s = c.in_ok-dividers.ensures in
    on-ok_all c.write_node-2.result
    (omega (
      arith,
      s.rises,
      s.few c.requires.twice,
      subst (λ (n : ℕ). due_pages n (S.count two) ≤ due_pages n (S.count one) + 1) s.owes.stays.size c.in_ok-fresh.ensures.rises,
      ap (due_pages size) c.in_ok-write_node.ensures.count,
      ap (due_pages size) c.write_node-2.ensures.count,
    ))

pub returns-in_err-dividers-clause-refuses : goal.returns-in_err-dividers-clause-refuses
returns-in_err-dividers-clause-refuses g c = λ m trunks told free.
    let S = g.S.PageRead in
    let a = c.args.store.now in
    let p = err_from_is_err_and c.from_residual.result c.from_residual.ensures.1 in
    rw (p.1, p.2)
    (short-more (sizes_of S a) c.args.limit (S.count c.spread_cells.new.store) c.in_err-dividers.field-0.0 (paged S a m) trunks 2 3 (omega arith) (c.in_err-dividers.ensures.refuses c.requires.twice m trunks told free))

pub returns-in_err-fresh-clause-refuses : goal.returns-in_err-fresh-clause-refuses
returns-in_err-fresh-clause-refuses g c = λ m trunks told free.
    let S = g.S.PageRead in
    let a = c.args.store.now in
    let one = c.spread_cells.new.store in
    let z = sizes_of S a in
    let cells = c.args.cells.now in
    let limit = c.args.limit in
    let fault = c.in_err-fresh.field-0.0 in
    let count = S.count c.take_page.new.store in
    let s = c.in_ok-dividers.ensures in
    let dividers = c.in_ok-dividers.field-0.dividers.items in
    let same = sizes-same S a one s.owes.stays in
    let n = s.spread m told in
    let x = paged S a m in
    let y = paged S one n.0 in
    let takes = spreads-takes z c.args.root.kind cells dividers (drop c.in_ok-dividers.field-0.start cells) x y trunks n.2 c.requires.cells free in
    let refused = subst (λ (s : Sizes). IsShort s 1 limit y takes.rest count fault) same
    (c.in_err-fresh.ensures.refuses n.0 takes.rest n.1 (subst⁻¹ (λ (s : Sizes). IsFree s y takes.rest) same (takes.turns.freelist free))) in
    let p = err_from_is_err_and c.from_residual-in_err-fresh.result c.from_residual-in_err-fresh.ensures.1 in
    rw (p.1, p.2)
    (short-more z limit count fault x trunks (length dividers + 1) 3 (omega (arith, s.few c.requires.twice)) (spreads-short z (length dividers) limit count x y trunks fault free s.most takes refused))

pub returns-in_err-write_node-clause-refuses : goal.returns-in_err-write_node-clause-refuses
returns-in_err-write_node-clause-refuses g c = λ m trunks told free. let p = err_from_is_err_and c.from_residual-in_err-write_node.result c.from_residual-in_err-write_node.ensures.1 in rw (p.1, p.2) (inl c.in_err-write_node.ensures.other)

pub returns-clause-refuses : goal.returns-clause-refuses
returns-clause-refuses g c = λ m trunks told free. IfErr-weaker c.write_node-2.result _ _ (λ fault other. inl other) c.write_node-2.ensures.other
