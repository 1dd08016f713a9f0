use Rattle.std.proofs.Common.{List, ℕ, take, sym, subst}
use Rattle.std.proofs.lemmas.Bool.{both_ways}
use Rattle.std.proofs.lemmas.Result.{IfOk-weaker}
use Rattle.std.proofs.lemmas.Option.{IfSome_then}
use Rattle.std.specs.Option.{IfSome, IfNone}
use Rattle.format_spec.specs.declared.PageKind.TheVariants.{TableLeaf}
use Rattle.format_spec.specs.Page.{IsPage}
use Rattle.small_spec.specs.SmallFile.{IsSmallFile, IsSmallHeader}
use Rattle.small_file.specs.Pages.{HoldsCells}
use Rattle.small_file.specs.Files.{HasSchema, HoldsTable}
use Rattle.small_file.proofs.Rows.{small_file-schema, small_file-table, HoldsTable-from_cells, IfNone-then}
use Rattle.small_file.proofs.file.read_table.Goals as goal
use Rattle.small_file.proofs.file.read_table.Goals.{then-bytes-via-then-bytes, then-bytes-via-else-bytes+then-not-is_small_header}

pub returns-then-bytes-clause-none : goal.returns-then-bytes-clause-none
returns-then-bytes-clause-none c = λ cells s.
    elim c.then-bytes.branch [
      | then-bytes-via-then-bytes w ↦ w.if-bytes.true s.long
      | then-bytes-via-else-bytes+then-not-is_small_header w ↦ both_ways w.is_small_header.result w.if-not-is_small_header.true (w.is_small_header.ensures.1 s.header)
    ]

pub returns-then-not-branch-clause-none : goal.returns-then-not-branch-clause-none
returns-then-not-branch-clause-none c = λ cells s.
    let schema = subst (λ p. HasSchema p c.args.schema.now) (sym c.split_at.ensures.front) (small_file-schema c.args.bytes.now c.args.schema.now cells s) in
    both_ways c.in_ok-has_schema.field-0 c.if-not-branch.true (c.in_ok-has_schema.ensures.1 schema)

pub returns-clause-found : goal.returns-clause-found
returns-clause-found c =
    let bytes = c.args.bytes.now in
    let header : IsSmallHeader bytes = c.is_small_header.ensures.0 c.if-not-is_small_header.false in
    let schema : HasSchema (take 4096 bytes) c.args.schema.now = subst (λ p. HasSchema p c.args.schema.now) c.split_at.ensures.front (c.in_ok-has_schema.ensures.0 c.if-not-branch.false) in
    IfOk-weaker c.read_page.result _ (λ answer. IfSome answer (λ cells. HoldsTable bytes c.args.schema.now cells.items)) (λ answer h.
    IfSome_then answer {Q = λ cells. HoldsTable bytes c.args.schema.now cells.items} h (λ cells p.
    HoldsTable-from_cells bytes c.args.schema.now cells.items c.if-bytes.false header schema (subst (λ p. HoldsCells p 2 cells.items) c.split_at.ensures.back p))) c.read_page.ensures.found

pub returns-clause-none : goal.returns-clause-none
returns-clause-none c =
    let bytes = c.args.bytes.now in
    IfOk-weaker c.read_page.result _ (λ answer. IfNone answer ((cells : List (List ℕ)) → IsSmallFile bytes c.args.schema.now cells → ⊥)) (λ answer h.
    IfNone-then answer h (λ none cells s. none cells 0 (subst (λ p. IsPage p 2 4096 TableLeaf cells 0) (sym c.split_at.ensures.back) (small_file-table bytes c.args.schema.now cells s)))) c.read_page.ensures.none
