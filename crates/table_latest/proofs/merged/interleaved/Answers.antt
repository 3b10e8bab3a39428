use Rattle.std.proofs.Common.{◌≡◌, ◌∙◌, ◌++◌, [], ap, rules}
use Rattle.table_latest.proofs.MergeLemmas.{merging-done, merging-more}
use Rattle.table_latest.proofs.merged.interleaved.Goals as goal

pub loop-last-preserved : goal.loop-last-preserved
loop-last-preserved g c =
    merging-more g.T.Ranked.rank c.requires.total c.args.first.items c.args.more.items c.loop-last.list.items c.loop-last.more.items c.pop.new.self.items
    c.take_above.new.first.items c.loop-last.back.items c.take_above.new.back.items c.push.new.self.items c.in-Some.last c.in-Some.ensures.items
    c.in_ok-take_above.ensures c.in_ok-push.ensures.items c.loop-last.invariant

pub returns : goal.returns
returns g c =
    let none : c.loop-last.more.items ≡ [] = search rules in
    merging-done g.T.Ranked.rank c.requires.total c.args.first.items c.args.more.items c.loop-last.list.items c.loop-last.more.items c.loop-last.back.items
    c.append.new.self.items none (c.in_ok-append.ensures.items ∙ ap (λ v. c.loop-last.list.items ++ v) c.reverse.ensures.items) c.loop-last.invariant
