use Rattle.std.proofs.Common.{◌≡◌, ◌∙◌, Bool, false, Ok, ap}
use Rattle.std.specs.Prelude.{codes}
use Rattle.std.specs.Option.{unwrap_or}
use Rattle.json_read.specs.Views.{data_of}
use Rattle.import_forms.specs.declared.set.SetValue.{SetValue}
use Rattle.import_forms.specs.Texts.{text_in, written_in, four_texts_in}
use Rattle.import_forms.proofs.BothLemmas.{Two, Four, both-are}
use Rattle.import_forms.proofs.set.value_of.Goals as goal

abbrev made_of : Four → Two → Bool → SetValue
made_of key told deleted = record {
  element = key.0.0;
  combo = key.0.1;
  attribute = told.0;
  value = told.1;
  period = key.1.0;
  unit = key.1.1;
  deleted = deleted;
}

pub returns : goal.returns
unfolding Rattle.import_forms.specs.Sets.value_of
returns c =
    let json = data_of c.args.value.now in
    let key = four_texts_in (codes "dataElement") (codes "categoryOptionCombo") (codes "period") (codes "orgUnit") json in
    let attribute = text_in (codes "attributeOptionCombo") json in
    let value = written_in (codes "value") json in
    let found : Four × Two = (c.in_ok-key.key, (c.in_ok-key.attribute, c.in_ok-key.told)) in
    let told =
    both-are attribute value c.held_text_in.result c.held_written_in.result c.both.result c.both.ensures c.held_text_in.ensures c.held_written_in.ensures in
    let are : ◌≡◌ {A = Four × Two} found (key, (attribute, value)) =
    both-are key (attribute, value) c.four_held_texts_in.result c.both.result (Ok found) c.in_ok-key.ensures c.four_held_texts_in.ensures told in
    ap (λ t. made_of t.0 t.1 c.unwrap_or.result) are
    ∙ ap (made_of key (attribute, value)) (c.unwrap_or.ensures ∙ ap (λ found. unwrap_or found false) c.truth_in.ensures)
