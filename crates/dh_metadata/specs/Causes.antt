-- What the faults of identifiers carry; running out of memory carries nothing.
use Rattle.std.specs.Prelude.{ℕ, List, Option, None, Some}
use Rattle.dh_metadata.specs.declared.ids.index.IndexFault.{IndexFault}
use Rattle.dh_metadata.specs.declared.ids.index.IndexFault.TheVariants as index
use Rattle.dh_metadata.specs.declared.ids.fault.IdsFault.{IdsFault}
use Rattle.dh_metadata.specs.declared.ids.fault.IdsFault.TheVariants as ids

-- the place of an identifier that stands twice
abbrev pub index_cause : IndexFault → Option ℕ
index_cause (index.Twice place) = Some place
index_cause index.Memory = None

-- the identifier that is reported
abbrev pub ids_cause : IdsFault → Option (List ℕ)
ids_cause (ids.Twice uid) = Some uid
ids_cause ids.Memory = None
