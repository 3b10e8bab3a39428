use Rattle.std.proofs.Common.{◌∙◌, map}
use Rattle.httparse.specs.Borrowed.{header_parts}
use Rattle.http_wire.proofs.PlanLemmas.{both_tested, one_tested, framed_both, framed_other}
use Rattle.http_wire.proofs.plan.is_badly_framed.Goals.{then-has-2, else-has-2}
use Rattle.http_wire.proofs.plan.is_badly_framed.Goals as goal

pub returns-then-has-3 : goal.returns-then-has-3
returns-then-has-3 c =
    framed_both (map header_parts c.args.headers.now) c.count_named.result c.has.result c.if-has-2.value c.count_named.ensures
    c.if-count_named-gt1.false c.has.ensures c.if-has.false c.if-has-3.true
    (elim c.if-has-2.branch [
      | then-has-2 w ↦
          both_tested (map header_parts c.args.headers.now) c.has-else-has.result c.if-has-2.value c.has-else-has.ensures w.if-has-2.true
          (w.value-is ∙ w.has-then-has-2.ensures)
      | else-has-2 w ↦
          one_tested (map header_parts c.args.headers.now) c.has-else-has.result c.if-has-2.value c.has-else-has.ensures w.if-has-2.false w.value-is
    ])

pub returns-else-has-3 : goal.returns-else-has-3
returns-else-has-3 c =
    framed_other (map header_parts c.args.headers.now) c.count_named.result c.has.result c.if-has-2.value c.has-else-has-3.result
    c.count_named.ensures c.if-count_named-gt1.false c.has.ensures c.if-has.false c.if-has-3.false c.has-else-has-3.ensures
    (elim c.if-has-2.branch [
      | then-has-2 w ↦
          both_tested (map header_parts c.args.headers.now) c.has-else-has.result c.if-has-2.value c.has-else-has.ensures w.if-has-2.true
          (w.value-is ∙ w.has-then-has-2.ensures)
      | else-has-2 w ↦
          one_tested (map header_parts c.args.headers.now) c.has-else-has.result c.if-has-2.value c.has-else-has.ensures w.if-has-2.false w.value-is
    ])
