use Rattle.std.proofs.Common.{◌≡◌, ◌∙◌, Some, length, refl, sym, ap, arith}
use Rattle.std.proofs.lemmas.Bool.{true≢false}
use Rattle.std.proofs.lemmas.Option.{slice_get_read}
use Rattle.expr_lang.proofs.Listing.{none_more, none_in}
use Rattle.expr_lang.proofs.build.place_of.Goals as goal

pub loop-n-preserved : goal.loop-n-preserved
loop-n-preserved c =
    none_more c.args.items.now c.args.item.now c.index-items-n.result c.loop-n.n c.index-items-n.is
    (λ same. true≢false (sym (c.is_same.ensures.1 same) ∙ c.if-is_same.false)) c.loop-n.invariant

pub returns-clause-none : goal.returns-clause-none
returns-clause-none c =
    let end : c.loop-n.n ≡ length c.args.items.now = omega arith in none_in c.args.items.now c.args.item.now c.loop-n.n end c.loop-n.invariant

pub returns-then-is_same-clause-found : goal.returns-then-is_same-clause-found
returns-then-is_same-clause-found c =
    let same : c.index-items-n.result ≡ c.args.item.now = c.is_same.ensures.0 c.if-is_same.true in
    slice_get_read c.args.items.now (length c.args.items.now) c.loop-n.n c.index-items-n.result refl c.loop-n-test.true c.index-items-n.is ∙ ap Some same
