-- Objects by their identifiers.
use Rattle.std.specs.Prelude.{ℕ, List, Option, option_and_then}
use Rattle.dh_base.specs.Uid.{uid_of}
use Rattle.dh_metadata.specs.declared.held.Records.{Records}
use Rattle.dh_metadata.specs.declared.kind.Kind.{Kind}
use Rattle.dh_metadata.specs.Objects.{find_of}

-- the object of a kind with an identifier
abbrev pub named : Records → Kind → List ℕ → Option ℕ
named r kind text = option_and_then (find_of r kind) (uid_of text)
