use Rattle.std.proofs.Common.{ap, Some, None}
use Rattle.dh_changes.specs.Said.{said_by}
use Rattle.value_import.proofs.SaidLemmas.{noted-value, noted-registration}
use Rattle.value_import.proofs.batch.note.Goals as goal

pub returns-in_ok-insert-in-ValueSet : goal.returns-in_ok-insert-in-ValueSet
returns-in_ok-insert-in-ValueSet c =
    noted-value c.args.write.now c.in-ValueSet.key (Some c.in-ValueSet.value) c.args.values.now c.insert.new.self c.args.registrations.now
    (ap said_by c.in-ValueSet.is) c.in_ok-insert-in-ValueSet.ensures.updates.0

pub returns-in_ok-insert-in-ValueCleared : goal.returns-in_ok-insert-in-ValueCleared
returns-in_ok-insert-in-ValueCleared c =
    noted-value c.args.write.now c.in-ValueCleared.key None c.args.values.now c.insert-in-ValueCleared.new.self c.args.registrations.now
    (ap said_by c.in-ValueCleared.is) c.in_ok-insert-in-ValueCleared.ensures.updates.0

pub returns-in_ok-insert-in-Complete : goal.returns-in_ok-insert-in-Complete
returns-in_ok-insert-in-Complete c =
    noted-registration c.args.write.now c.in-Complete.key (Some c.in-Complete.day) c.args.values.now c.args.registrations.now c.insert-in-Complete.new.self
    (ap said_by c.in-Complete.is) c.in_ok-insert-in-Complete.ensures.updates.0

pub returns-in_ok-insert-in-Uncomplete : goal.returns-in_ok-insert-in-Uncomplete
returns-in_ok-insert-in-Uncomplete c =
    noted-registration c.args.write.now c.in-Uncomplete.key None c.args.values.now c.args.registrations.now c.insert-in-Uncomplete.new.self
    (ap said_by c.in-Uncomplete.is) c.in_ok-insert-in-Uncomplete.ensures.updates.0
