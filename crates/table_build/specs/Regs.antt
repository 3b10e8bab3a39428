-- The rows of complete data set registrations.
use Rattle.std.specs.Prelude.{ℕ, ℤ, List, Option, option_map, option_and_then}
use Rattle.std.specs.List.{filter_map}
use Rattle.std.specs.Ordering.{ordering_then, nat_cmp}
use Rattle.std.specs.declared.cmp.Ordering.{Ordering}
use Rattle.dh_changes.specs.declared.keys.RegKey.{RegKey}
use Rattle.org_tree.specs.Units.{order_of}
use Rattle.dh_metadata.specs.declared.held.Records.{Records}
use Rattle.dh_metadata.specs.declared.kind.Kind.TheVariants.{DataSet, OrganisationUnit, CategoryOptionCombo}
use Rattle.dh_metadata.specs.Objects.{find_of}
use Rattle.dh_changes.specs.Facts.{Facts}
use Rattle.dh_records.specs.Access.{tree}
use Rattle.table_rows.specs.declared.event.RegRow.{RegRow}
use Rattle.table_rows.specs.Order.{period_cmp}
use Rattle.table_build.specs.declared.regs.RegObjects.{RegObjects}
use Rattle.table_build.specs.declared.regs.RegPlace.{RegPlace}
use Rattle.table_build.specs.Ordered.{in_order}

abbrev pub reg_objects : ℕ → ℕ → ℕ → RegObjects
reg_objects set unit attribute = record { set = set; unit = unit; attribute = attribute }

-- the numbers of the objects that a key names, where all stand in the metadata
unfoldable pub objects_of : Records → RegKey → Option RegObjects
objects_of r key =
    option_and_then (λ set. option_and_then (λ unit. option_map (λ attribute. reg_objects set unit attribute)
    (find_of r CategoryOptionCombo key.attribute)) (find_of r OrganisationUnit key.unit)) (find_of r DataSet key.set)

unfoldable pub reg_with : Records → Facts → RegKey → ℤ → RegObjects → RegRow
reg_with r facts key day objects = record {
  set = objects.set;
  period = key.period;
  order = order_of (tree facts r) objects.unit;
  attribute = objects.attribute;
  day = day;
}

-- the row of a key that holds a day and whose objects stand in the metadata
unfoldable pub reg_of : Records → Facts → RegKey → Option RegRow
reg_of r facts key = option_and_then (λ day. option_map (reg_with r facts key day) (objects_of r key)) (facts.registration key)

-- what registrations are ordered by
abbrev pub place_of : RegRow → RegPlace
place_of reg = record { set = reg.set; period = reg.period; order = reg.order; attribute = reg.attribute }

abbrev pub place_cmp : RegPlace → RegPlace → Ordering
place_cmp a b =
    ordering_then (nat_cmp a.set b.set) (ordering_then (period_cmp a.period b.period)
    (ordering_then (nat_cmp a.order b.order) (nat_cmp a.attribute b.attribute)))

-- the rows of keys, by data set, period, order and attribute combination
unfoldable pub regs_of : Records → Facts → List RegKey → List RegRow
regs_of r facts keys = in_order place_cmp place_of (filter_map (reg_of r facts) keys)
