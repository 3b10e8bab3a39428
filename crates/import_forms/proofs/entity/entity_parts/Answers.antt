use Rattle.import_forms.proofs.BothLemmas.{gives_both}
use Rattle.import_forms.proofs.entity.entity_parts.Goals as goal

pub returns : goal.returns
unfolding Rattle.import_forms.specs.Entities.entity_parts
returns c = gives_both _ _ _ _ _ c.both.ensures c.list_at.ensures c.whole_entity.ensures
