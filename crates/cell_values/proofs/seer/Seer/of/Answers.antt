use Rattle.std.proofs.Common.{false, ◌∙◌, ap}
use Rattle.dh_metadata.specs.Approval.{unit_rows}
use Rattle.cell_values.specs.Places.{is_at_some}
use Rattle.cell_values.specs.Seen.{is_viewed}
use Rattle.cell_values.proofs.seer.Seer.of.Goals as goal

pub returns-clause-seer : goal.returns-clause-seer
unfolding is_viewed
returns-clause-seer c = record {
  user = c.requires;
  views = λ order.
      c.in_ok-views.ensures.members order
      ∙ ap (λ us. is_at_some us false c.view_units.result.now order) c.tree.ensures
      ∙ ap (λ units. is_at_some (unit_rows c.args.meta.now) false units order) c.view_units.ensures.value;
}
