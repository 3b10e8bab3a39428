use Rattle.std.proofs.Common.{◌∙◌, sym, ap}
use Rattle.std.proofs.lemmas.List.{drop_all}
use Rattle.query_lang.specs.Once.{same_bytes, with_new, once_from, texts_once}
use Rattle.query_lang.proofs.LoopLemmas.{once-more}
use Rattle.query_lang.proofs.once.texts_once.Goals as goal

pub loop-text-preserved : goal.loop-text-preserved
loop-text-preserved c = record {
  known = c.in_ok-put_new.ensures.seen;
  rest = once-more same_bytes c.args.texts.now c.loop-text.kept.items c.put_new.new.kept.items c.loop-text.text-index c.text-item.result _
      c.loop-text-test.true
      (c.in_ok-put_new.ensures.kept ∙ ap (with_new same_bytes c.loop-text.kept.items) (c.as_slice.ensures ∙ c.text-item.is))
      c.loop-text.invariant.rest;
}

pub returns : goal.returns
unfolding texts_once
returns c =
    let kept = c.loop-text.kept.items in
    sym (ap (once_from same_bytes kept) (drop_all c.loop-text.text-index c.args.texts.now c.loop-text-test.false)) ∙ c.loop-text.invariant.rest
