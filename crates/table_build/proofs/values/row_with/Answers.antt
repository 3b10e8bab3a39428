use Rattle.std.proofs.Common.{◌≡◌, ◌∙◌, Some, sym, ap, rules, w64, to_z-of_z, FitsSigned}
use Rattle.std.specs.Prelude.{option_and_then}
use Rattle.org_tree.specs.Units.{order_of}
use Rattle.dh_changes.specs.World.{facts}
use Rattle.dh_metadata.specs.declared.records.Element.{Element}
use Rattle.dh_records.specs.Approved.{approved_at}
use Rattle.dh_records.specs.Access.{tree}
use Rattle.dh_records.specs.Values.{number_of}
use Rattle.table_build.specs.Values.{number_at, row_with}
use Rattle.table_build.proofs.KeyLemmas.{approved-with}
use Rattle.table_build.proofs.values.row_with.Goals.{in-Some, in-None}
use Rattle.table_build.proofs.values.row_with.Goals as goal

pub returns : goal.returns
unfolding row_with number_at
returns c =
    let known = facts c.args.world.now in
    let approved : c.approved_position_of-approved.result ≡ approved_at known c.args.meta.now c.args.key.now =
    c.approved_position_of-approved.ensures ∙ sym (approved-with c.args.meta.now known c.args.key.now c.args.objects c.requires.of) in
    let order : c.order.result ≡ order_of (tree known c.args.meta.now) c.args.objects.unit =
    c.order.ensures.order ∙ ap (λ units. order_of units c.args.objects.unit) c.tree_of.ensures.value in
    let number : c.number_of.result ≡ number_at c.args.meta.now c.args.objects.element c.args.text.now =
    c.number_of.ensures ∙ sym (ap (option_and_then (λ (found : Element). number_of found.value_type c.args.text.now)) c.element.ensures.value) in
    let micros : c.match-number_of.result ≡ number_at c.args.meta.now c.args.objects.element c.args.text.now =
    elim c.match-number_of.branch [
      | in-Some w ↦
          let fits : FitsSigned w64 w.value.result = search rules in
          w.result-is ∙ ap Some (to_z-of_z fits ∙ w.value.ensures.value) ∙ sym w.in-Some.is ∙ number
      | in-None w ↦ w.result-is ∙ sym w.in-None.is ∙ number
    ] in
    λ i. record {
      element = c.args.objects.element;
      combo = c.args.objects.combo;
      attribute = c.args.objects.attribute;
      period = c.args.key.now.period;
      approved = approved i;
      order = order i;
      micros = micros i;
    }
