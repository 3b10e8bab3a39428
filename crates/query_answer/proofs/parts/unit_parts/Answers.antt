use Rattle.std.proofs.Common.{◌≡◌, ◌<◌, ℕ, List, length, get_or, sym, subst, arith}
use Rattle.std.specs.List.{All}
use Rattle.std.proofs.lemmas.List.Elements.{All-push}
use Rattle.query_answer.specs.Rows.{slot_of, slots}
use Rattle.query_answer.specs.declared.parts.UnitPart.{UnitPart}
use Rattle.query_answer.specs.Parts.{unit_slot, IsUnitPart}
use Rattle.query_answer.proofs.PartLemmas.{part_step}
use Rattle.query_answer.proofs.AskedLemmas.{units_there}
use Rattle.query_answer.proofs.parts.unit_parts.Goals as goal

pub of-requires-clause-units : goal.of-requires-clause-units
of-requires-clause-units c =
    let axis = c.args.axis.now in
    let within : c.loop-place.place < length (slots axis.filter axis.items) = omega arith in
    units_there (length c.args.meta.now.organisation_units) axis.filter axis.items c.loop-place.place
    (slot_of c.part_at-part.result.label c.part_at-part.result.items.now) c.requires.units within c.part_at-part.ensures.part

pub loop-place-preserved : goal.loop-place-preserved
loop-place-preserved c =
    let axis = c.args.axis.now in
    let all = slots axis.filter axis.items in
    let within : c.loop-place.place < length all = omega arith in
    let label = c.part_at-part.result.label in
    let x : UnitPart = record { label = label; units = c.in_ok-units.units } in
    let at : unit_slot x ≡ get_or all c.loop-place.place (unit_slot x) =
    subst (λ (units : List ℕ). slot_of label units ≡ get_or all c.loop-place.place (slot_of label units)) (sym c.in_ok-units.ensures.units)
    c.part_at-part.ensures.part in
    record {
      slots = part_step unit_slot c.loop-place.parts.items c.push.new.self.items all c.loop-place.place x within at c.in_ok-push.ensures.items
          c.loop-place.invariant.slots;
      seen =
          subst (All (IsUnitPart c.args.meta.now c.args.seer.now.user)) (sym c.in_ok-push.ensures.items)
          (All-push (IsUnitPart c.args.meta.now c.args.seer.now.user) c.loop-place.parts.items x c.loop-place.invariant.seen
          (record { units = c.in_ok-units.ensures.cell; alone = c.in_ok-units.ensures.alone }));
    }
