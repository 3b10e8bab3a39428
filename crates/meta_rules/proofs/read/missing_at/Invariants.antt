use Rattle.std.proofs.Common.{◌≡◌, drop}
use Rattle.expr_lang.specs.Expr.{items_in, places_in}
use Rattle.meta_rules.specs.Names.{is_missing, stage_before, IsStageThere}
use Rattle.meta_rules.specs.Read.{missing_place}
use Rattle.meta_rules.proofs.read.missing_at.Given as goal

abbrev pub invariant-loop-n : goal.invariant-loop-n
invariant-loop-n l =
    (missing_place (is_missing l.ids) (items_in l.expr) (places_in l.expr)
    ≡ missing_place (is_missing l.ids) (drop l.n (items_in l.expr)) (drop l.n (places_in l.expr)))
    × IsStageThere l.ids (stage_before (items_in l.expr) l.n)
