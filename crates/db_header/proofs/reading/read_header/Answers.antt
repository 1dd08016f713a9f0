use Rattle.std.proofs.Common.{◌∙◌, ap, max, rules}
use Rattle.std.proofs.lemmas.Result.{err_from_is_err_and}
use Rattle.db_header.proofs.Answering.{Answers, Answers-reads, HasPages, HasPages-its_pages, pages-size_mismatch, read_format-max}
use Rattle.db_header.proofs.reading.read_header.Goals as goal

pub returns-in_err-check_supported : goal.returns-in_err-check_supported
returns-in_err-check_supported c =
    let p = err_from_is_err_and c.from_residual.result c.from_residual.ensures.1 in
    let answer : Answers c.args.bytes.now c.args.file_len c.from_residual.result = rw (p.1, p.2) (c.in_err-check_supported.ensures c.args.file_len) in
    Answers-reads c.args.bytes.now c.args.file_len c.from_residual.result answer

pub returns-then-not-has_pages : goal.returns-then-not-has_pages
returns-then-not-has_pages c =
    let lacks : HasPages c.counted_pages-pages.result c.page_bytes-page_size.result c.args.file_len → ⊥ = search rules in
    let answer = pages-size_mismatch c.args.bytes.now c.args.file_len c.counted_pages-pages.result c.page_bytes-page_size.result c.counted_pages-pages.ensures (cc) c.in_ok-check_supported.ensures lacks in
    Answers-reads c.args.bytes.now c.args.file_len _ answer

pub returns : goal.returns
returns c = Answers-reads c.args.bytes.now c.args.file_len _ (record {
  supported = c.in_ok-check_supported.ensures;
  whole = HasPages-its_pages c.args.bytes.now c.args.file_len c.counted_pages-pages.result c.page_bytes-page_size.result c.counted_pages-pages.ensures (cc) (c.has_pages.ensures.0 c.if-not-has_pages.false);
  page_size_is = cc;
  reserved_is = cc;
  change_counter_is = cc;
  pages_is = cc;
  freelist_trunk_is = cc;
  freelist_pages_is = cc;
  schema_cookie_is = cc;
  format_is = c.max.ensures ∙ ap (λ n. max n 1) c.u32_at-5.ensures ∙ read_format-max _;
})
