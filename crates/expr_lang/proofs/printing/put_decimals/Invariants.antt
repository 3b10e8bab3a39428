use Rattle.std.proofs.Common.{◌≡◌, ◌++◌, ◌<◌, ◌≤◌, ◌^◌}
use Rattle.expr_lang.specs.Print.{decimals_text}
use Rattle.expr_lang.proofs.printing.put_decimals.Given as goal

abbrev pub invariant-loop-places : goal.invariant-loop-places
invariant-loop-places l =
    (l.out.items ++ decimals_text l.places l.left ≡ l.fn.out.items ++ decimals_text l.most l.part) × (l.left < 10 ^ l.places) × (l.places ≤ 6)

abbrev pub decreases-loop-places : goal.decreases-loop-places
decreases-loop-places l = l.places
