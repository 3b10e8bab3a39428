use Rattle.std.proofs.Common.{◌≡◌, ◌∙◌, List, Ok, ap}
use Rattle.std.specs.Prelude.{codes}
use Rattle.json_read.specs.Views.{data_of}
use Rattle.import_forms.specs.declared.event.BundleEvent.{BundleEvent}
use Rattle.import_forms.specs.declared.pair.Pair.{Pair}
use Rattle.import_forms.specs.Texts.{four_texts_in}
use Rattle.import_forms.proofs.BothLemmas.{Four, both-are}
use Rattle.import_forms.proofs.event.event_of.Goals as goal

abbrev made_of : Four → Four → List Pair → BundleEvent
made_of ids facts values = record {
  id = ids.0.0;
  enrollment = ids.0.1;
  program = ids.1.0;
  stage = ids.1.1;
  unit = facts.0.0;
  occurred = facts.0.1;
  scheduled = facts.1.0;
  status = facts.1.1;
  values = values;
}

pub returns : goal.returns
unfolding Rattle.import_forms.specs.Events.event_of
returns c =
    let json = data_of c.args.value.now in
    let ids = four_texts_in (codes "event") (codes "enrollment") (codes "program") (codes "programStage") json in
    let facts = four_texts_in (codes "orgUnit") (codes "occurredAt") (codes "scheduledAt") (codes "status") json in
    let are : ◌≡◌ {A = Four × Four} (c.in_ok-ids.ids, c.in_ok-ids.facts) (ids, facts) =
    both-are ids facts c.four_texts_in.result c.four_texts_in-2.result (Ok (c.in_ok-ids.ids, c.in_ok-ids.facts)) c.in_ok-ids.ensures
    c.four_texts_in.ensures c.four_texts_in-2.ensures in
    ap (λ t. made_of t.0 t.1 c.new.result) are ∙ ap (made_of ids facts) c.new.ensures
