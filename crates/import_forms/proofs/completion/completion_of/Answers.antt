use Rattle.std.proofs.Common.{◌≡◌, ◌∙◌, ℕ, Bool, true, List, Option, Ok, ap}
use Rattle.std.specs.Prelude.{codes}
use Rattle.std.specs.Option.{unwrap_or}
use Rattle.json_read.specs.Views.{data_of}
use Rattle.import_forms.specs.declared.completion.Completion.{Completion}
use Rattle.import_forms.specs.Texts.{text_in, four_texts_in}
use Rattle.import_forms.proofs.BothLemmas.{Four, both-are}
use Rattle.import_forms.proofs.completion.completion_of.Goals as goal

abbrev made_of : Four → Option (List ℕ) → Bool → Completion
made_of key date done = record {
  data_set = key.0.0;
  period = key.0.1;
  unit = key.1.0;
  attribute = key.1.1;
  date = date;
  done = done;
}

pub returns : goal.returns
unfolding Rattle.import_forms.specs.Completions.completion_of
returns c =
    let json = data_of c.args.value.now in
    let key = four_texts_in (codes "dataSet") (codes "period") (codes "organisationUnit") (codes "attributeOptionCombo") json in
    let date = text_in (codes "date") json in
    let are : ◌≡◌ {A = Four × Option (List ℕ)} (c.in_ok-key.key, c.in_ok-key.date) (key, date) =
    both-are key date c.four_held_texts_in.result c.held_text_in.result (Ok (c.in_ok-key.key, c.in_ok-key.date)) c.in_ok-key.ensures
    c.four_held_texts_in.ensures c.held_text_in.ensures in
    ap (λ t. made_of t.0 t.1 c.unwrap_or.result) are
    ∙ ap (made_of key date) (c.unwrap_or.ensures ∙ ap (λ found. unwrap_or found true) c.truth_in.ensures)
