use Rattle.std.proofs.Common.{◌∙◌, sym, arith, rules}
use Rattle.schema_grammar.proofs.Repeating.{read-none, read-more, read-all, read-fault}
use Rattle.schema_grammar.proofs.items.many_behind.Goals as goal

pub more-init : goal.more-init
more-init g c = record { read = read-none _ _ _ _ _ c.into_vec-items.ensures; shorter = omega arith }

pub more-preserved : goal.more-preserved
more-preserved g c = record {
  read = read-more _ _ _ _ _ _ c.in_ok-item.item _ _ (sym c.begins.ensures ∙ c.more-test.true) c.in_ok-item.ensures.parses c.in_ok-item.ensures.shorter c.in_ok-append.ensures c.more.invariant.read;
  shorter = omega (arith, c.in_ok-item.ensures.shorter, c.more.invariant.shorter);
}

pub returns : goal.returns
returns g c =
    let read = read-all _ _ _ _ _ _ (sym c.begins.ensures ∙ c.more-test.false) c.more.invariant.read in
    record { parses = (read.0, c.from_vec.ensures ∙ read.1, read.2); shorter = c.more.invariant.shorter }

pub returns-in_err-item : goal.returns-in_err-item
returns-in_err-item g c =
    let text = c.args.text.now in
    let stops = read-fault text (g.R.Repeated.begins text) (g.R.Item.front text) c.args.tokens.now c.args.before c.more.items.items c.more.left.now c.in_err-item.field-0.0 (g.met.R.Repeated.ends text)
    (sym c.begins.ensures ∙ c.more-test.true) c.in_err-item.ensures.parses c.more.invariant.read in
    search rules
