use Rattle.std.proofs.Common.{◌∙◌, map, sym, ap, subst}
use Rattle.std.specs.List.{All}
use Rattle.query_answer.specs.Parts.{period_slot, unit_slot, IsUnitPart}
use Rattle.query_answer.proofs.BothLemmas.{had}
use Rattle.query_answer.proofs.whole.query_rows.Goals as goal

pub write_rows-found-requires-clause-parts : goal.write_rows-found-requires-clause-parts
write_rows-found-requires-clause-parts g c = record {
  periods = ap (map period_slot) c.as_slice-periods.ensures.value ∙ had _ _ _ c.period_parts-all_periods.ensures c.in_ok-all_periods.ensures.first;
  units = ap (map unit_slot) c.as_slice-units.ensures.value ∙ had _ _ _ c.unit_parts-all_units.ensures.slots c.in_ok-all_periods.ensures.second;
  seen =
      subst (All (IsUnitPart c.args.source.now.meta.now c.args.source.now.seer.now.user)) (sym c.as_slice-units.ensures.value)
      (had _ _ _ c.unit_parts-all_units.ensures.seen c.in_ok-all_periods.ensures.second);
}
