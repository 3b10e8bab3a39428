use Rattle.import_forms.proofs.BothLemmas.{gives_both}
use Rattle.import_forms.proofs.set.fields_of.Goals as goal

pub returns : goal.returns
unfolding Rattle.import_forms.specs.Sets.fields_of
returns c =
    let days = gives_both _ _ _ _ _ c.both.ensures c.text_at.ensures c.text_at-2.ensures in
    let unit = gives_both _ _ _ _ _ c.both-2.ensures c.text_at-4.ensures c.text_at-5.ensures in
    let place = gives_both _ _ _ _ _ c.both-3.ensures unit c.read_values.ensures in
    gives_both _ _ _ _ _ c.both-5.ensures days (gives_both _ _ _ _ _ c.both-4.ensures c.text_at-3.ensures place)
