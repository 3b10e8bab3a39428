-- Which queries are answered: those of data elements, their operands, indicators, program indicators and reporting rates.
use Rattle.std.specs.Prelude.{ℕ, ◌<◌, Bool, nat_lt, length, IsTrue}
use Rattle.std.specs.List.{list_all}
use Rattle.dh_metadata.specs.declared.held.Records.{Records}
use Rattle.dh_metadata.specs.Linked.{AreBelow}
use Rattle.query_lang.specs.declared.plain.Dx.{Dx}
use Rattle.query_lang.specs.declared.plain.DxKind.{DxKind}
use Rattle.query_lang.specs.declared.plain.DxKind.TheVariants as dx_kind
use Rattle.query_lang.specs.declared.plain.Query.{Query}

-- the object of the item is there
abbrev pub can_answer_kind : Records → ℕ → DxKind → Bool
can_answer_kind r n dx_kind.Element = nat_lt n (length r.data_elements)
can_answer_kind r n dx_kind.Indicator = nat_lt n (length r.indicators)
can_answer_kind r n dx_kind.ProgramIndicator = nat_lt n (length r.program_indicators)
can_answer_kind r n (dx_kind.Rate which) = nat_lt n (length r.data_sets)

unfoldable pub can_answer_dx : Records → Dx → Bool
can_answer_dx r dx = can_answer_kind r dx.number dx.kind

-- each dx item can be answered, there is a period, and the units are there
pub record CanAnswer (r : Records) (query : Query) : Type 0 where
  pub dx : IsTrue (list_all (can_answer_dx r) query.dx)
  pub periods : 0 < length query.periods.items
  pub units : AreBelow (length r.organisation_units) query.units.items
