use Rattle.std.proofs.Common.{◌∙◌, sym}
use Rattle.table_latest.proofs.MergeLemmas.{taking-ends, taking-more}
use Rattle.table_latest.proofs.merged.take_above.Goals as goal

pub returns-then-not-stands_before : goal.returns-then-not-stands_before
returns-then-not-stands_before g c =
    taking-ends g.T.Ranked.rank c.requires.total c.args.x.now c.in-Some.last c.args.first.now.items c.loop-last.first.items c.pop.new.self.items
    c.push.new.self.items c.args.back.now.items c.loop-last.back.items (sym c.stands_before.ensures ∙ c.if-not-stands_before.true) c.in-Some.ensures.items
    c.in_ok-push.ensures.items c.loop-last.invariant

pub loop-last-preserved : goal.loop-last-preserved
loop-last-preserved g c =
    taking-more g.T.Ranked.rank c.requires.total c.args.x.now c.in-Some.last c.args.first.now.items c.loop-last.first.items c.pop.new.self.items
    c.args.back.now.items c.loop-last.back.items c.push-in-Some.new.self.items (sym c.stands_before.ensures ∙ c.if-not-stands_before.false)
    c.in-Some.ensures.items c.in_ok-push-2.ensures.items c.loop-last.invariant
