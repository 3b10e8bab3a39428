use Rattle.std.proofs.Common.{◌∙◌, Bool, true, false, append-nil, sym, ap}
use Rattle.std.specs.List.{filter}
use Rattle.std.proofs.lemmas.List.{take_all}
use Rattle.table_rows.specs.declared.row.Group.{Group}
use Rattle.table_rows.proofs.KeptLemmas.{kept-more}
use Rattle.table_latest.specs.Latest.{is_kept_group, untouched_rows}
use Rattle.table_latest.proofs.groups.kept_groups.Goals.{then-is_kept+in_ok-push, else-is_kept}
use Rattle.table_latest.proofs.groups.kept_groups.Goals as goal

pub loop-group-init : goal.loop-group-init
loop-group-init g c = c.new-kept.ensures.items

pub loop-group-preserved : goal.loop-group-preserved
loop-group-preserved g c =
    let stays : Group → Bool = is_kept_group (untouched_rows c.args.places.now (g.S.RowStore.rows c.args.base.now)) c.args.now.now in
    let groups = c.args.groups.now in
    let found = c.loop-group.kept.items in
    let at = c.loop-group.group-index in
    let x = c.group-item.result in
    elim c.if-is_kept.branch [
      | then-is_kept+in_ok-push w ↦
          ap (λ kept. kept.items) w.kept-is
          ∙ kept-more stays groups at x true found w.push.new.self.items c.loop-group-test.true c.group-item.is
          (sym w.if-is_kept.true ∙ c.is_kept.ensures) w.in_ok-push.ensures.items c.loop-group.invariant
      | else-is_kept w ↦
          ap (λ kept. kept.items) w.kept-is
          ∙ kept-more stays groups at x false found found c.loop-group-test.true c.group-item.is (sym w.if-is_kept.false ∙ c.is_kept.ensures)
          (sym (append-nil found)) c.loop-group.invariant
    ]

pub returns : goal.returns
returns g c =
    c.loop-group.invariant
    ∙ ap (filter (is_kept_group (untouched_rows c.args.places.now (g.S.RowStore.rows c.args.base.now)) c.args.now.now))
    (take_all c.loop-group.group-index c.args.groups.now c.loop-group-test.false)
