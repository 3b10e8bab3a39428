-- The right to the data of a program is asked once for all its events.
use Rattle.std.proofs.Common.{◌≡◌, ◌∙◌, ℕ, Bool, true, false, cond, ◌&&◌, nat_eq, inl, inr, List, [], ◌∷◌, refl, sym, ap, arith}
use Rattle.std.proofs.lemmas.Bool.{and_parts, cases_Bool}
use Rattle.std.proofs.lemmas.Bool.Decides.{nat_tests}
use Rattle.dh_periods.specs.declared.name.PeriodName.{PeriodName}
use Rattle.dh_sharing.specs.declared.access.Right.TheVariants.{DataRead}
use Rattle.dh_metadata.specs.Users.{may_of}
use Rattle.dh_metadata.specs.declared.held.Records.{Records}
use Rattle.dh_metadata.specs.declared.kind.Kind.TheVariants as kind
use Rattle.table_rows.specs.declared.event.EventRow.{EventRow}
use Rattle.cell_values.specs.Seen.{is_viewed, is_event_seen}
use Rattle.program_cells.specs.Cells.{is_on_some}
use Rattle.program_cells.specs.Kept.{is_seen_during, seen_during}

and_true : (b : Bool) → (b && true) ≡ b
and_true true = refl
and_true false = refl

none_of : (a b c : Bool) → (a && (b && (c && false))) ≡ false
none_of false b c = refl
none_of true false c = refl
none_of true true false = refl
none_of true true true = refl

same_program : (one other : ℕ) → nat_eq one other ≡ true → one ≡ other
same_program one other same = grind (arith, nat_tests)

-- where the user may read the data of the program, an event of it is seen where its unit is viewed
seen_where : (r : Records) (user program : ℕ) (periods : List PeriodName) (event : EventRow) → may_of r user DataRead kind.Program program ≡ true
    → (nat_eq event.program program && (is_on_some periods event.day && is_viewed r user event.order)) ≡ is_seen_during r user program periods event
unfolding is_seen_during is_event_seen
seen_where r user program periods event may =
    elim (cases_Bool (nat_eq event.program program)) [
      | inl same ↦
          let reads : may_of r user DataRead kind.Program event.program ≡ true =
          ap (λ n. may_of r user DataRead kind.Program n) (same_program event.program program same) ∙ may in
          sym (ap (λ b. nat_eq event.program program && (is_on_some periods event.day && (is_viewed r user event.order && b))) reads
          ∙ ap (λ b. nat_eq event.program program && (is_on_some periods event.day && b)) (and_true (is_viewed r user event.order)))
      | inr not ↦
          ap (λ b. b && (is_on_some periods event.day && is_viewed r user event.order)) not
          ∙ sym (ap (λ b. b && (is_on_some periods event.day && is_event_seen r user event)) not)
    ]

-- where it is due, it is seen where its unit is viewed
pub seen_here : (r : Records) (user program : ℕ) (periods : List PeriodName) (event : EventRow) (due found : Bool)
    → may_of r user DataRead kind.Program program ≡ true → due ≡ (nat_eq event.program program && is_on_some periods event.day) → due ≡ true
    → found ≡ is_viewed r user event.order → found ≡ is_seen_during r user program periods event
seen_here r user program periods event due found may is here found_is =
    let parts = and_parts (nat_eq event.program program) (is_on_some periods event.day) (sym is ∙ here) in
    found_is
    ∙ sym (ap (λ b. b && (is_on_some periods event.day && is_viewed r user event.order)) parts.0
    ∙ ap (λ b. b && is_viewed r user event.order) parts.1)
    ∙ seen_where r user program periods event may

-- where it isn't, it isn't seen
pub seen_not : (r : Records) (user program : ℕ) (periods : List PeriodName) (event : EventRow) (due : Bool)
    → due ≡ (nat_eq event.program program && is_on_some periods event.day) → due ≡ false → false ≡ is_seen_during r user program periods event
unfolding is_seen_during
seen_not r user program periods event due is not =
    by_parts (nat_eq event.program program) (is_on_some periods event.day) (is_event_seen r user event) (sym is ∙ not)
  where
    by_parts : (a b c : Bool) → (a && b) ≡ false → false ≡ (a && (b && c))
    by_parts false b c not = refl
    by_parts true false c not = refl
    by_parts true true c not = absurd (cc)

not_seen : (r : Records) (user program : ℕ) (periods : List PeriodName) (event : EventRow) → may_of r user DataRead kind.Program program ≡ false
    → is_seen_during r user program periods event ≡ false
unfolding is_seen_during is_event_seen
not_seen r user program periods event may =
    elim (cases_Bool (nat_eq event.program program)) [
      | inl same ↦
          let reads : may_of r user DataRead kind.Program event.program ≡ false =
          ap (λ n. may_of r user DataRead kind.Program n) (same_program event.program program same) ∙ may in
          ap (λ b. nat_eq event.program program && (is_on_some periods event.day && (is_viewed r user event.order && b))) reads
          ∙ none_of (nat_eq event.program program) (is_on_some periods event.day) (is_viewed r user event.order)
      | inr not ↦ ap (λ b. b && (is_on_some periods event.day && is_event_seen r user event)) not
    ]

-- where the user may not, none is seen
pub none_seen : (r : Records) (user program : ℕ) (periods : List PeriodName) (events : List EventRow)
    → may_of r user DataRead kind.Program program ≡ false → [] ≡ seen_during r user program periods events
none_seen r user program periods [] may = refl
none_seen r user program periods (event ∷ events) may =
    none_seen r user program periods events may
    ∙ sym (ap (λ b. cond b (event ∷ seen_during r user program periods events) (seen_during r user program periods events))
    (not_seen r user program periods event may))
