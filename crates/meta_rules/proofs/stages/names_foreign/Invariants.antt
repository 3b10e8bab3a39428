use Rattle.std.proofs.Common.{◌≡◌, drop}
use Rattle.std.specs.List.{list_any}
use Rattle.expr_lang.specs.Expr.{items_in}
use Rattle.meta_rules.specs.Stages.{is_foreign, IsStageOf}
use Rattle.meta_rules.specs.Names.{stage_before}
use Rattle.meta_rules.proofs.stages.names_foreign.Given as goal

abbrev pub invariant-loop-n : goal.invariant-loop-n
invariant-loop-n l =
    (list_any (is_foreign l.ids l.stages l.program) (items_in l.expr) ≡ list_any (is_foreign l.ids l.stages l.program) (drop l.n (items_in l.expr)))
    × IsStageOf l.ids l.stages l.program (stage_before (items_in l.expr) l.n)
