use Rattle.std.proofs.Common.{◌≡◌, ◌∙◌, length, map, ap, arith}
use Rattle.org_tree.specs.KinRows.{kin_row, numbers}
use Rattle.org_tree.proofs.RowLemmas.{each-more}
use Rattle.org_tree.proofs.families.rows.Goals as goal

pub loop-unit-preserved : goal.loop-unit-preserved
loop-unit-preserved c =
    each-more (kin_row c.args.units.now) c.loop-unit.unit c.loop-unit.rows.items c.push.new.self.items c.row_at.result
    c.in_ok-push.ensures.items c.loop-unit.invariant c.row_at.ensures

pub returns : goal.returns
returns c =
    let end : c.loop-unit.unit ≡ length c.args.units.now = omega arith in
    c.loop-unit.invariant ∙ ap (λ n. map (kin_row c.args.units.now) (numbers n)) end
