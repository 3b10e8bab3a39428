-- What comes of an act on an approval: the write, or the first refusal of its verb.
use Rattle.std.specs.Prelude.{ℕ, ◌+◌, cond, List, Option, None, Some, option_map, slice_get, option_and_then, Result, Ok, Err}
use Rattle.std.specs.Option.{option_or}
use Rattle.dh_metadata.specs.declared.held.Records.{Records}
use Rattle.dh_metadata.specs.declared.kind.Kind.TheVariants.{OrganisationUnit, Workflow}
use Rattle.dh_metadata.specs.Approval.{levels_at}
use Rattle.dh_metadata.specs.Objects.{find_of}
use Rattle.dh_changes.specs.declared.keys.ApprovalKey.{ApprovalKey}
use Rattle.dh_changes.specs.declared.change.Write.{Write}
use Rattle.dh_changes.specs.declared.change.Write.TheVariants as write
use Rattle.dh_changes.specs.Facts.{Facts}
use Rattle.dh_changes.specs.declared.said.ApprovalState.{ApprovalState}
use Rattle.dh_changes.specs.declared.said.ApprovalState.TheVariants as state
use Rattle.dh_records.specs.declared.approved.Scope.{Scope}
use Rattle.dh_approvals.specs.declared.act.Verb.{Verb}
use Rattle.dh_approvals.specs.declared.act.Verb.TheVariants as verb
use Rattle.dh_approvals.specs.declared.act.ApprovalAct.{ApprovalAct}
use Rattle.dh_approvals.specs.declared.act.ApprovalFault.{ApprovalFault}
use Rattle.dh_approvals.specs.declared.act.ApprovalFault.TheVariants as fault
use Rattle.dh_approvals.specs.Rights.{has_right}
use Rattle.dh_approvals.specs.declared.search.Wanted.{Wanted}
use Rattle.dh_approvals.specs.declared.search.Wanted.TheVariants.{Open, Waiting}
use Rattle.dh_approvals.specs.Units.{id_of, first_sought, nearest_above}

-- what the key is of, beside its unit
abbrev pub scope_of : ApprovalKey → Scope
scope_of key = record { workflow = key.workflow; period = key.period; attribute = key.attribute }

-- a fault that names a unit, if there is one
abbrev pub fault_at : Records → (List ℕ → ApprovalFault) → Option ℕ → Option ApprovalFault
fault_at r fault found = option_map (λ unit. fault (id_of r unit)) found

-- the first reporting unit under this one, at the next position, in such a state
abbrev pub below : Facts → Records → Scope → ℕ → ℕ → ℕ → Wanted → Option ℕ
below facts r scope workflow position unit wanted =
    option_and_then (λ level. first_sought facts r scope workflow (record { wanted = wanted; unit = unit; level = level }))
    (slice_get (levels_at r workflow) (position + 1))

-- what the unit's approval depends on isn't approved
abbrev pub not_ready : Facts → Records → Scope → ℕ → ℕ → ℕ → Option ApprovalFault
not_ready facts r scope workflow position unit = fault_at r fault.NotReady (below facts r scope workflow position unit Open)

-- it is approved and waits to be accepted, where acceptance is required
abbrev pub not_accepted_below : Facts → Records → Scope → ℕ → ℕ → ℕ → Option ApprovalFault
not_accepted_below facts r scope workflow position unit =
    cond r.acceptance_required (fault_at r fault.NotAccepted (below facts r scope workflow position unit Waiting)) None

abbrev pub not_approvable : Facts → Records → Scope → ℕ → ℕ → ℕ → Option ApprovalFault
not_approvable facts r scope workflow position unit =
    option_or (not_ready facts r scope workflow position unit) (not_accepted_below facts r scope workflow position unit)

-- an ancestor at a lower position is approved
abbrev pub approved_above : Facts → Records → Scope → ℕ → ℕ → ℕ → Option ApprovalFault
approved_above facts r scope workflow position unit =
    fault_at r fault.ApprovedAbove (nearest_above facts r scope (levels_at r workflow) unit position)

-- an ancestor's approval, else this fault
abbrev pub above_or : Facts → Records → Scope → ℕ → ℕ → ℕ → ApprovalFault → Option ApprovalFault
above_or facts r scope workflow position unit fault = option_or (approved_above facts r scope workflow position unit) (Some fault)

-- what refuses a verb in each state of the key
abbrev pub refused_in : Facts → Records → Scope → ℕ → ApprovalAct → ℕ → Verb → ApprovalState → Option ApprovalFault
refused_in facts r scope workflow act unit verb.Approve state.None = not_approvable facts r scope workflow act.position unit
refused_in facts r scope workflow act unit verb.Approve state.Approved = Some fault.AlreadyApproved
refused_in facts r scope workflow act unit verb.Approve state.Accepted = Some fault.AlreadyApproved
refused_in facts r scope workflow act unit verb.Unapprove state.None = Some fault.NotApproved
refused_in facts r scope workflow act unit verb.Unapprove state.Approved = approved_above facts r scope workflow act.position unit
refused_in facts r scope workflow act unit verb.Unapprove state.Accepted = approved_above facts r scope workflow act.position unit
refused_in facts r scope workflow act unit verb.Accept state.None = Some fault.NotApproved
refused_in facts r scope workflow act unit verb.Accept state.Approved = approved_above facts r scope workflow act.position unit
refused_in facts r scope workflow act unit verb.Accept state.Accepted = above_or facts r scope workflow act.position unit fault.AlreadyApproved
refused_in facts r scope workflow act unit verb.Unaccept state.None = Some fault.NotApproved
refused_in facts r scope workflow act unit verb.Unaccept state.Approved = above_or facts r scope workflow act.position unit (fault.NotAccepted act.key.unit)
refused_in facts r scope workflow act unit verb.Unaccept state.Accepted = approved_above facts r scope workflow act.position unit

-- the right stands before all else
unfoldable pub refused_at : Facts → Records → ℕ → ApprovalAct → ℕ → ℕ → Option ApprovalFault
refused_at facts r user act workflow unit =
    cond (has_right facts r user unit act.verb)
    (refused_in facts r (scope_of act.key) workflow act unit act.verb (facts.approval act.key))
    (Some fault.NoRight)

-- the write of a verb
abbrev pub write_of : Verb → ApprovalKey → Write
write_of verb.Approve key = write.Approve key
write_of verb.Unapprove key = write.Unapprove key
write_of verb.Accept key = write.Accept key
write_of verb.Unaccept key = write.Unaccept key

abbrev pub write_unless : Write → Option ApprovalFault → Result Write ApprovalFault
write_unless write None = Ok write
write_unless write (Some fault) = Err fault

-- nobody has a right where a key names no workflow or no unit
abbrev pub refused_by : Facts → Records → ℕ → ApprovalAct → Option ℕ → Option ℕ → Option ApprovalFault
refused_by facts r user act (Some workflow) (Some unit) = refused_at facts r user act workflow unit
refused_by facts r user act workflow unit = Some fault.NoRight

abbrev pub refused : Facts → Records → ℕ → ApprovalAct → Option ApprovalFault
refused facts r user act = refused_by facts r user act (find_of r Workflow act.key.workflow) (find_of r OrganisationUnit act.key.unit)

-- what comes of the act, over a log and metadata
unfoldable pub decided : Facts → Records → ℕ → ApprovalAct → Result Write ApprovalFault
decided facts r user act = write_unless (write_of act.verb act.key) (refused facts r user act)
