-- The first fault of what a metadata file says.
use Rattle.std.specs.Prelude.{ℕ, ℤ, List, map, Option, None, Some, Result, Ok, Err, option_map}
use Rattle.std.specs.Option.{option_or}
use Rattle.dh_metadata.specs.declared.parts.MetaParts.{MetaParts}
use Rattle.dh_metadata.specs.declared.held.Links.{Links}
use Rattle.dh_metadata.specs.declared.held.Records.{Records}
use Rattle.dh_metadata.specs.Ids.{ids_of, twice_of}
use Rattle.meta_links.specs.Reference.{first_unknown}
use Rattle.meta_links.specs.Table.{references}
use Rattle.meta_rules.specs.declared.fault.RuleFault.{RuleFault}
use Rattle.meta_rules.specs.declared.limits.LimitFault.{LimitFault}
use Rattle.meta_rules.specs.Held.{rules_broken}
use Rattle.dh_metadata.specs.Positions.{positions_of}
use Rattle.meta_rules.specs.Limits.{first_passed}
use Rattle.meta_rules.specs.declared.expr_fault.ExprFault.{ExprFault}
use Rattle.meta_rules.specs.Names.{KindIds}
use Rattle.meta_rules.specs.Read.{Meaning}
use Rattle.meta_rules.specs.All.{expressions_unread, expressions_of}
use Rattle.meta_rules.specs.Stages.{stages_broken}
use Rattle.meta_reader.specs.declared.fault.MetaFault.{MetaFault}
use Rattle.meta_reader.specs.declared.fault.MetaFault.TheVariants as fault
use Rattle.meta_reader.specs.declared.fault.Which.TheVariants as which
use Rattle.meta_reader.specs.Records.{unread_of, links_in, records_in}

abbrev pub twice : List ℕ → MetaFault
twice uid = fault.Twice uid

abbrev pub unknown : List ℕ × List ℕ → MetaFault
unknown reference = fault.Unknown reference.0 reference.1

abbrev pub unread : ExprFault → MetaFault
unread found = fault.Expr found.uid found.at

abbrev pub broken : RuleFault → MetaFault
broken found = fault.Rule found.uid found.which

abbrev pub passed : LimitFault → MetaFault
passed limit = fault.Limit (which.Objects limit)

-- the positions of each workflow
abbrev pub positions_in : Links → List (List ℤ)
positions_in links = map (positions_of links.data_approval_levels) links.data_approval_workflows

-- two objects with one identifier, or two tokens that are the same
unfoldable pub twice_fault : MetaParts → Option MetaFault
twice_fault parts = option_map twice (twice_of parts)

-- a reference that names no object
unfoldable pub unknown_fault : KindIds → MetaParts → Option MetaFault
unknown_fault ids parts = option_map unknown (first_unknown ids (references parts))

-- an expression that isn't read
unfoldable pub unread_fault : Meaning → KindIds → MetaParts → Option MetaFault
unread_fault meaning ids parts = option_map unread (expressions_unread meaning ids parts)

-- a rule between objects that is broken
unfoldable pub rule_fault : MetaParts → Links → Option MetaFault
rule_fault parts links = option_map broken (rules_broken parts links)

-- a program indicator that names a stage of another program, or is aggregated in a way that is none of its own
unfoldable pub stage_fault : Meaning → KindIds → MetaParts → Links → Option MetaFault
stage_fault meaning ids parts links =
    option_map broken (stages_broken ids links.program_stages (expressions_of meaning parts (unread_of links)).program_indicators)

-- a limit that is passed
unfoldable pub limit_fault : MetaParts → Links → Option MetaFault
limit_fault parts links = option_map passed (first_passed parts (positions_in links))

-- the first fault that is seen where expressions are read and rules are kept
abbrev pub late_fault : Meaning → KindIds → MetaParts → Links → Option MetaFault
late_fault meaning ids parts links = option_or (stage_fault meaning ids parts links) (limit_fault parts links)

-- the first fault of objects that are linked
abbrev pub linked_fault : Meaning → KindIds → MetaParts → Links → Option MetaFault
linked_fault meaning ids parts links =
    option_or (option_or (unread_fault meaning ids parts) (rule_fault parts links)) (late_fault meaning ids parts links)

-- the first fault
unfoldable pub fault_of : Meaning → MetaParts → Option MetaFault
fault_of meaning parts =
    option_or (twice_fault parts) (option_or (unknown_fault (ids_of parts) parts) (linked_fault meaning (ids_of parts) parts (links_in parts)))

-- the fault itself; running out of memory is none
abbrev pub meta_cause : MetaFault → Option MetaFault
meta_cause fault.Memory = None
meta_cause found = Some found

-- a value and another, if that was made
abbrev pub paired : {A B : Type 0} → A → Result B MetaFault → Result (A × B) MetaFault
paired first (Ok second) = Ok (first, second)
paired first (Err fault) = Err fault

abbrev pub unless_fault : Option MetaFault → Records → Result Records MetaFault
unless_fault None records = Ok records
unless_fault (Some fault) records = Err fault

-- The metadata of what a file says, where texts mean this: its objects, each reference a number and each text an expression, with
-- its tokens and whether an approval has to be accepted; or the first fault.
unfoldable pub metadata_of : Meaning → MetaParts → Result Records MetaFault
metadata_of meaning parts = unless_fault (fault_of meaning parts) (records_in meaning parts)
