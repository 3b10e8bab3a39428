use Rattle.std.proofs.Common.{◌≡◌, ◌∙◌, ◌-◌, Some, length, rules, slice_get, sym}
use Rattle.table_latest.proofs.MergeLemmas.{in-order}
use Rattle.table_latest.proofs.merged.stand_apart.Goals as goal

pub returns-in-Some-first : goal.returns-in-Some-first
returns-in-Some-first g c is =
    let last : slice_get c.args.first.now (length c.args.first.now - 1) ≡ Some c.in-Some.last.now = search rules in
    let first : slice_get c.args.more.now 0 ≡ Some c.in-Some-first.next.now = search rules in
    in-order g.T.Ranked.rank c.requires.total c.args.first.now c.args.more.now c.in-Some.last.now c.in-Some-first.next.now c.requires.first
    c.requires.more last first (sym c.stands_before.ensures ∙ is)
