-- Writes that have bytes are of days.
use Rattle.std.proofs.Common.{◌≡◌, List, [], ◌∷◌, ◌++◌, ap, refl, true}
use Rattle.std.specs.Prelude.{ℤ, Option, None, Some, IfSome}
use Rattle.std.specs.List.{All, AllByRecursion, list_all}
use Rattle.std.proofs.lemmas.Bool.{and_from}
use Rattle.std.proofs.lemmas.List.Elements.{recursion_from_All}
use Rattle.dh_changes.specs.declared.change.Change.{Change}
use Rattle.dh_changes.specs.declared.change.Write.{Write}
use Rattle.dh_changes.specs.declared.change.Write.TheVariants as write
use Rattle.change_log.specs.Forms.{WriteFits, IsDay}
use Rattle.change_log.specs.Log.{writes_of}
use Rattle.table_rows.specs.Events.{is_day_if_any}
use Rattle.table_build.specs.Log as rows

day-if-any : (day : Option ℤ) → IfSome day IsDay → is_day_if_any day ≡ true
day-if-any None h = refl
day-if-any (Some day) h = h

of-days : (w : Write) → WriteFits w → rows.is_of_days w ≡ true
of-days (write.ValueSet key value) h = refl
of-days (write.ValueCleared key) h = refl
of-days (write.Complete key day) h = h
of-days (write.Uncomplete key) h = refl
of-days (write.EventWritten event) h =
    and_from (is_day_if_any event.occurred) (is_day_if_any event.scheduled) (day-if-any event.occurred h.0.1.0) (day-if-any event.scheduled h.0.1.1)
of-days (write.EventDeleted id) h = refl
of-days (write.EnrollmentWritten enrollment) h =
    and_from (is_day_if_any enrollment.enrolled) (is_day_if_any enrollment.occurred) (day-if-any enrollment.enrolled h.1.0)
    (day-if-any enrollment.occurred h.1.1)
of-days (write.EnrollmentDeleted id) h = refl
of-days (write.EntityWritten entity) h = refl
of-days (write.EntityDeleted id) h = refl
of-days (write.Approve key) h = refl
of-days (write.Unapprove key) h = refl
of-days (write.Accept key) h = refl
of-days (write.Unaccept key) h = refl

each-of-days : (ws : List Write) → AllByRecursion WriteFits ws → list_all rows.is_of_days ws ≡ true
each-of-days [] h = refl
each-of-days (w ∷ ws) h = and_from (rows.is_of_days w) (list_all rows.is_of_days ws) (of-days w h.0) (each-of-days ws h.1)

pub all-of-days : (ws : List Write) → All WriteFits ws → list_all rows.is_of_days ws ≡ true
all-of-days ws h = each-of-days ws (recursion_from_All WriteFits ws h)

pub writes-are : (changes : List Change) → rows.writes_of changes ≡ writes_of changes
writes-are [] = refl
writes-are (c ∷ more) = ap (λ x. c.writes ++ x) (writes-are more)
