use Rattle.std.proofs.Common.{◌+◌, ◌≤◌, ◌++◌, ◌∷◌, [], ◌∙◌, get_or, sym, ap, subst, arith}
use Rattle.cell_values.proofs.CutLemmas.{Both, Both-left, Both-right}
use Rattle.cell_values.proofs.cuts.overlaps.Goals as goal

pub loop-i-preserved-then-x-y : goal.loop-i-preserved-then-x-y
loop-i-preserved-then-x-y c =
    subst (Both c.args.a.now c.args.b.now (c.loop-i.i + 1) c.loop-i.j)
    (sym (c.in_ok-push.ensures.items ∙ ap (λ v. c.loop-i.both.items ++ v ∷ []) c.overlap.ensures))
    (Both-left c.args.a.now c.args.b.now c.loop-i.both.items c.loop-i.i c.loop-i.j c.requires.right c.loop-i-test.true c.if-j-b.true c.if-x-y.true
    c.loop-i.invariant)

pub loop-i-preserved : goal.loop-i-preserved
loop-i-preserved c =
    let ends : (get_or c.args.b.now c.loop-i.j (0, 0)).1 ≤ (get_or c.args.a.now c.loop-i.i (0, 0)).1 = omega (arith, c.if-x-y.false) in
    subst (Both c.args.a.now c.args.b.now c.loop-i.i (c.loop-i.j + 1))
    (sym (c.in_ok-push.ensures.items ∙ ap (λ v. c.loop-i.both.items ++ v ∷ []) c.overlap.ensures))
    (Both-right c.args.a.now c.args.b.now c.loop-i.both.items c.loop-i.i c.loop-i.j c.requires.left c.loop-i-test.true c.if-j-b.true ends c.loop-i.invariant)
