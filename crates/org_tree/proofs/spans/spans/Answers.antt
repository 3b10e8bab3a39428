use Rattle.std.proofs.Common.{◌+◌, ◌∙◌, sym, subst, arith}
use Rattle.org_tree.specs.Families.{AreSpans}
use Rattle.org_tree.proofs.RowLemmas.{written}
use Rattle.org_tree.proofs.spans.spans.Goals as goal

pub loop-i-preserved : goal.loop-i-preserved
loop-i-preserved c =
    let spans = c.loop-i.spans in
    let same = c.take_in.ensures.same_length ∙ sym c.loop-i.invariant.same_length in
    subst (AreSpans c.args.units.now c.args.kin.now (c.loop-i.i + 1))
    (sym (written c.take_in.new.spans spans.items spans.len same (let e = spans.ok.0 in omega (arith, e)))) c.take_in.ensures
