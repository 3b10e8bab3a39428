use Rattle.std.proofs.Common.{◌≡◌, ◌∙◌, ℕ, List, Option, Ok, ap}
use Rattle.std.specs.Prelude.{codes}
use Rattle.json_read.specs.Views.{data_of}
use Rattle.import_forms.specs.declared.entity.BundleEntity.{BundleEntity}
use Rattle.import_forms.specs.declared.pair.Pair.{Pair}
use Rattle.import_forms.specs.Texts.{text_in}
use Rattle.import_forms.proofs.BothLemmas.{Two, both-are}
use Rattle.import_forms.proofs.entity.entity_of.Goals as goal

abbrev made_of : Two → Option (List ℕ) → List Pair → BundleEntity
made_of ids unit attributes = record { id = ids.0; kind = ids.1; unit = unit; attributes = attributes }

pub returns : goal.returns
unfolding Rattle.import_forms.specs.Entities.entity_of
returns c =
    let json = data_of c.args.value.now in
    let id = text_in (codes "trackedEntity") json in
    let kind = text_in (codes "trackedEntityType") json in
    let unit = text_in (codes "orgUnit") json in
    let found : Two × Option (List ℕ) = ((c.in_ok-id.id, c.in_ok-id.kind), c.in_ok-id.unit) in
    let ids = both-are id kind c.text_in.result c.text_in-2.result c.both-ids.result c.both-ids.ensures c.text_in.ensures c.text_in-2.ensures in
    let are : ◌≡◌ {A = Two × Option (List ℕ)} found ((id, kind), unit) =
    both-are (id, kind) unit c.both-ids.result c.text_in-3.result (Ok found) c.in_ok-id.ensures ids c.text_in-3.ensures in
    ap (λ t. made_of t.0 t.1 c.new.result) are ∙ ap (made_of (id, kind) unit) c.new.ensures
