use Rattle.std.proofs.Common.{◌∙◌, ap}
use lib.Chars.{codes}
use Rattle.dh_metadata.specs.declared.kind.Kind.TheVariants as kind
use Rattle.meta_links.specs.Reference.{field_path, one, optional, several}
use Rattle.meta_links.specs.Table.{set_elements, sharing_references, data_set_references}
use Rattle.meta_links.specs.Told.{after}
use Rattle.meta_links.proofs.Order.{five_fields}
use Rattle.meta_links.proofs.objects.RawDataSetLink.link.Goals as goal

pub returns-clause-told : goal.returns-clause-told
unfolding data_set_references set_elements several
returns-clause-told c =
    let set = c.args.self.now in
    c.in_ok-name.ensures.told
    ∙ ap (λ references. after c.args.ids.now c.args.unknown.now references)
    (five_fields (set_elements (field_path kind.DataSet set.place (codes "dataSetElements")) set.data_set_elements)
    (several (field_path kind.DataSet set.place (codes "organisationUnits")) kind.OrganisationUnit set.organisation_units)
    (one (field_path kind.DataSet set.place (codes "categoryCombo")) kind.CategoryCombo set.category_combo)
    (optional (field_path kind.DataSet set.place (codes "workflow")) kind.Workflow set.workflow) (sharing_references kind.DataSet set.place set.sharing))
