use Rattle.meta_forms.specs.Table.{data_set_fields, set_content_of, set_rules_of}
use Rattle.meta_forms.specs.Entries.{set_elements_of}
use Rattle.meta_forms.specs.Fields.{references_at}
use Rattle.meta_forms.proofs.aggregate.RawDataSetReadObject.read.Goals as goal

pub returns : goal.returns
unfolding data_set_fields set_content_of set_rules_of set_elements_of references_at
returns c = c.read.ensures
