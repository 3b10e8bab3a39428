-- Events.
use Rattle.std.specs.Prelude.{List, codes, Ok}
use Rattle.serde_json.specs.Data.{Data}
use Rattle.json_read.specs.Forms.{Formed, and_then, object_of}
use Rattle.import_forms.specs.Texts.{text_in}
use Rattle.import_forms.specs.declared.pair.Pair.{Pair}
use Rattle.import_forms.specs.declared.event.BundleEvent.{BundleEvent}
use Rattle.import_forms.specs.Pairs.{values_of}

-- the event that an object stands for, with these values
unfoldable pub event_of : List Pair → Data → BundleEvent
event_of told json = record {
  id = text_in (codes "event") json;
  enrollment = text_in (codes "enrollment") json;
  program = text_in (codes "program") json;
  stage = text_in (codes "programStage") json;
  unit = text_in (codes "orgUnit") json;
  occurred = text_in (codes "occurredAt") json;
  scheduled = text_in (codes "scheduledAt") json;
  status = text_in (codes "status") json;
  values = told;
}

unfoldable pub event_form : Data → Formed BundleEvent
event_form = object_of (λ json. and_then (values_of json) (λ told. Ok (event_of told json)))
