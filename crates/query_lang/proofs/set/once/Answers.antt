use Rattle.std.proofs.Common.{◌∙◌, nat_eq, sym, ap}
use Rattle.std.proofs.lemmas.List.{drop_all}
use Rattle.query_lang.specs.Once.{once_from}
use Rattle.query_lang.proofs.LoopLemmas.{once-more}
use Rattle.query_lang.proofs.set.once.Goals as goal

pub loop-number-preserved : goal.loop-number-preserved
loop-number-preserved c = record {
  known = c.in_ok-put_new.ensures.seen;
  rest = once-more nat_eq c.args.numbers.now c.loop-number.kept.items c.put_new.new.kept.items c.loop-number.number-index _ _
      c.loop-number-test.true c.in_ok-put_new.ensures.kept c.loop-number.invariant.rest;
}

pub returns : goal.returns
returns c =
    let kept = c.loop-number.kept.items in
    sym (ap (once_from nat_eq kept) (drop_all c.loop-number.number-index c.args.numbers.now c.loop-number-test.false)) ∙ c.loop-number.invariant.rest
