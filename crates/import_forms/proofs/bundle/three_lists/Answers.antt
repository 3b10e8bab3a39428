use Rattle.import_forms.proofs.BothLemmas.{gives_both}
use Rattle.import_forms.proofs.bundle.three_lists.Goals as goal

pub returns : goal.returns
unfolding Rattle.import_forms.specs.Bundles.three_lists
returns c =
    gives_both _ _ _ _ _ c.both-2.ensures c.list_at.ensures (gives_both _ _ _ _ _ c.both.ensures c.list_at-2.ensures c.list_at-3.ensures)
