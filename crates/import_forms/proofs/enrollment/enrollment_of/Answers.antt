use Rattle.std.proofs.Common.{◌≡◌, ◌∙◌, ℕ, List, Option, Ok, ap}
use Rattle.std.specs.Prelude.{codes}
use Rattle.json_read.specs.Views.{data_of}
use Rattle.import_forms.specs.declared.enrollment.BundleEnrollment.{BundleEnrollment}
use Rattle.import_forms.specs.declared.pair.Pair.{Pair}
use Rattle.import_forms.specs.Texts.{text_in, four_texts_in}
use Rattle.import_forms.proofs.BothLemmas.{Two, Four, both-are}
use Rattle.import_forms.proofs.enrollment.enrollment_of.Goals as goal

abbrev made_of : Four → Two × Option (List ℕ) → List Pair → BundleEnrollment
made_of ids facts attributes = record {
  id = ids.0.0;
  entity = ids.0.1;
  program = ids.1.0;
  unit = ids.1.1;
  enrolled = facts.0.0;
  occurred = facts.0.1;
  status = facts.1;
  attributes = attributes;
}

pub returns : goal.returns
unfolding Rattle.import_forms.specs.Enrollments.enrollment_of
returns c =
    let json = data_of c.args.value.now in
    let ids = four_texts_in (codes "enrollment") (codes "trackedEntity") (codes "program") (codes "orgUnit") json in
    let enrolled = text_in (codes "enrolledAt") json in
    let occurred = text_in (codes "occurredAt") json in
    let status = text_in (codes "status") json in
    let facts : Two × Option (List ℕ) = ((enrolled, occurred), status) in
    let found : Four × (Two × Option (List ℕ)) = (c.in_ok-ids.ids, (c.in_ok-ids.days, c.in_ok-ids.status)) in
    let days =
    both-are enrolled occurred c.text_in.result c.text_in-2.result c.both-days.result c.both-days.ensures c.text_in.ensures c.text_in-2.ensures in
    let others = both-are (enrolled, occurred) status c.both-days.result c.text_in-3.result c.both.result c.both.ensures days c.text_in-3.ensures in
    let are : ◌≡◌ {A = Four × (Two × Option (List ℕ))} found (ids, facts) =
    both-are ids facts c.four_texts_in.result c.both.result (Ok found) c.in_ok-ids.ensures c.four_texts_in.ensures others in
    ap (λ t. made_of t.0 t.1 c.new.result) are ∙ ap (made_of ids facts) c.new.ensures
