-- What is kept of events in steps is the cell's.
use Rattle.std.proofs.Common.{◌≡◌, ◌∙◌, ℕ, Bool, true, false, cond, ◌&&◌, nat_eq, List, [], ◌∷◌, map, Option, Some, None, slice_get, Result, Ok}
use Rattle.std.proofs.Common.{Err, IfOk, refl, sym, ap, subst}
use Rattle.std.specs.Prelude.{int_le, IsPermutation}
use Rattle.std.specs.List.{filter, list_all}
use Rattle.std.specs.Option.{option_map_or}
use Rattle.std.proofs.lemmas.Bool.{and_parts, and_from}
use Rattle.std.proofs.lemmas.List.Kept.{IsStrictlySortedBy-filter}
use Rattle.std.specs.List.Sorted.{IsStrictlySortedBy}
use Rattle.dh_base.specs.Fractions.{Fraction}
use Rattle.dh_base.specs.Limits.{is_day}
use Rattle.dh_base.specs.declared.limits.TheConstants.{FIRST_DAY, LAST_DAY}
use Rattle.dh_base.specs.declared.memory.Memory.{Memory}
use Rattle.expr_eval.specs.declared.indicator.PiFault.{PiFault}
use Rattle.dh_periods.specs.declared.name.PeriodName.{PeriodName}
use Rattle.dh_periods.proofs.HeldLemmas.{int_le-at}
use Rattle.dh_sharing.specs.Ranges.{is_within}
use Rattle.dh_metadata.specs.declared.held.Records.{Records}
use Rattle.dh_metadata.specs.declared.names.AnalyticsType.{AnalyticsType}
use Rattle.dh_metadata.specs.declared.names.AnalyticsType.TheVariants as analytics
use Rattle.dh_metadata.specs.declared.records.ProgramIndicator.{ProgramIndicator}
use Rattle.dh_metadata.specs.Approval.{unit_rows}
use Rattle.table_rows.specs.declared.event.EventRow.{EventRow}
use Rattle.table_rows.specs.Events.{event_cmp, is_event_of, events_of, has_days, is_day_if_any, have_days}
use Rattle.table_rows.specs.Store.{rises}
use Rattle.table_rows.proofs.CellLemmas.{filter-same}
use Rattle.table_rows.proofs.RiseLemmas.{sorted_from_rises}
use Rattle.cell_values.specs.declared.cell.CellUnits.{CellUnits}
use Rattle.cell_values.specs.Held.{AreCellUnits}
use Rattle.cell_values.specs.Places.{is_at_some}
use Rattle.cell_values.specs.Seen.{is_event_seen, seen_events}
use Rattle.cell_values.proofs.PartLemmas.{filter_both}
use Rattle.cell_values.proofs.ReorderLemmas.{filter-permutation}
use Rattle.program_cells.specs.Cells.{is_on_some, is_event_in, cell_events, is_enrolled_on, is_enrolled_at, cell_enrollments, alone, subjects_by}
use Rattle.program_cells.specs.Cells.{indicator_cell, cell_value}
use Rattle.program_cells.specs.Code.{measure_in, IsCodeOf}
use Rattle.program_cells.specs.Sampled.{Sampled}
use Rattle.program_cells.specs.declared.measure.Measure.TheVariants as measure
use Rattle.program_cells.specs.Enrollments.{is_enrolled_in, first_is, together, enrollments}
use Rattle.program_cells.specs.Kept.{is_seen_during, seen_during, AreDuring, is_seen_enrolled, seen_enrolled, IsPlanOf, IsPlanOfSome, IsProgramPlan}
use Rattle.program_cells.specs.Kept.{AreEventSubjects, AreSubjects}
use Rattle.program_cells.specs.Kept.{is_placed_in, subjects_in}
use Rattle.program_cells.specs.Days.{Cover}
use Rattle.program_cells.specs.Items.{first_of}
use Rattle.program_cells.specs.Order.{whole_cmp, enrolled_cmp, in_order}
use Rattle.program_cells.specs.Value.{NoValue, program_value, Values}
use Rattle.program_cells.specs.declared.plan.ProgramPlan.{ProgramPlan}
use Rattle.program_cells.specs.declared.plan.Subjects.{Subjects}
use Rattle.program_cells.specs.declared.plan.Subjects.TheVariants as subjects
use Rattle.program_cells.specs.declared.days.Days.{Days}
use Rattle.program_cells.proofs.OrderLemmas.{event_total, whole_total, whole_same, enrolled_total, enrolled_same, in_order_permutation}
use Rattle.program_cells.proofs.OrderLemmas.{in_order_sorted, rising_events}

with_less : (a b : Bool) → (b ≡ true → a ≡ true) → (a && b) ≡ b
with_less true b h = refl
with_less false true h = h refl
with_less false false h = refl

of_days : (r : Records) (user program : ℕ) (periods : List PeriodName) (days : Days) (event : EventRow) → Cover periods days
    → is_seen_during r user program periods event ≡ true → is_event_of program days.from days.to event ≡ true
unfolding is_seen_during
of_days r user program periods days event cover is =
    let first = and_parts (nat_eq event.program program) (is_on_some periods event.day && is_event_seen r user event) is in
    let second = and_parts (is_on_some periods event.day) (is_event_seen r user event) first.1 in
    let among = cover.each event.day second.0 in
    and_from (nat_eq event.program program) (int_le days.from event.day && int_le event.day days.to) first.0
    (and_from (int_le days.from event.day) (int_le event.day days.to) (int_le-at days.from event.day among.from) (int_le-at event.day days.to among.to))

-- days that the periods don't have may be taken first
during_days : (r : Records) (user program : ℕ) (periods : List PeriodName) (days : Days) (all : List EventRow) → Cover periods days
    → seen_during r user program periods (events_of program days.from days.to all) ≡ seen_during r user program periods all
during_days r user program periods days all cover =
    filter_both (is_event_of program days.from days.to) (is_seen_during r user program periods) all
    ∙ filter-same (λ event. is_event_of program days.from days.to event && is_seen_during r user program periods event)
    (is_seen_during r user program periods) all
    (λ event. with_less (is_event_of program days.from days.to event) (is_seen_during r user program periods event)
    (of_days r user program periods days event cover))

turned : (p d s u : Bool) → ((p && (d && s)) && u) ≡ (s && (p && (d && u)))
turned false d false u = refl
turned false d true u = refl
turned true false false u = refl
turned true false true u = refl
turned true true s u = refl

each_turned : (r : Records) (user program : ℕ) (periods : List PeriodName) (units : CellUnits) (event : EventRow) → AreCellUnits r user units
    → units.alone ≡ false
    → (is_seen_during r user program periods event && is_within units.asked event.order)
    ≡ (is_event_seen r user event && is_event_in r program periods units.units event)
unfolding is_seen_during is_event_in
each_turned r user program periods units event are not =
    let p = nat_eq event.program program in
    let d = is_on_some periods event.day in
    let s = is_event_seen r user event in
    let within : is_within units.asked event.order ≡ is_at_some (unit_rows r) false units.units event.order =
    are.asked.members event.order ∙ ap (λ alone. is_at_some (unit_rows r) alone units.units event.order) not in
    ap (λ u. (p && (d && s)) && u) within ∙ turned p d s (is_at_some (unit_rows r) false units.units event.order)

-- those of some units, of all that the user sees
under : (r : Records) (user program : ℕ) (periods : List PeriodName) (units : CellUnits) (all : List EventRow) → AreCellUnits r user units
    → units.alone ≡ false
    → filter (λ (event : EventRow). is_within units.asked event.order) (seen_during r user program periods all)
    ≡ filter (is_event_in r program periods units.units) (seen_events r user all)
under r user program periods units all are not =
    filter_both (is_seen_during r user program periods) (λ (event : EventRow). is_within units.asked event.order) all
    ∙ filter-same (λ event. is_seen_during r user program periods event && is_within units.asked event.order)
    (λ event. is_event_seen r user event && is_event_in r program periods units.units event) all
    (λ event. each_turned r user program periods units event are not)
    ∙ sym (filter_both (is_event_seen r user) (is_event_in r program periods units.units) all)

-- the events of a cell
under_cell : (r : Records) (user program : ℕ) (periods : List PeriodName) (units : CellUnits) (all events : List EventRow) → AreCellUnits r user units
    → units.alone ≡ false → AreDuring r user program periods all events
    → filter (λ (event : EventRow). is_within units.asked event.order) events ≡ cell_events r program periods units.units (seen_events r user all)
under_cell r user program periods units all events are not during =
    let kept : EventRow → Bool = λ event. is_within units.asked event.order in
    let found = filter kept events in
    let is : found ≡ filter (is_event_in r program periods units.units) (seen_events r user all) =
    ap (filter kept) during.are ∙ under r user program periods units all are not in
    sym (in_order_sorted whole_cmp found (IsStrictlySortedBy-filter whole_cmp kept events during.sorted)) ∙ ap (in_order whole_cmp) is

-- what is kept of the events of a store is in order
pub during_store : (r : Records) (user program : ℕ) (periods : List PeriodName) (days : Days) (all events : List EventRow) → Cover periods days
    → rises event_cmp all ≡ true → events ≡ seen_during r user program periods (events_of program days.from days.to all)
    → AreDuring r user program periods all events
during_store r user program periods days all events cover up is =
    let are : events ≡ seen_during r user program periods all = is ∙ during_days r user program periods days all cover in
    record {
      are = are;
      sorted =
          subst (IsStrictlySortedBy whole_cmp) (sym are)
          (IsStrictlySortedBy-filter whole_cmp (is_seen_during r user program periods) all (rising_events all up));
    }

-- the events of a cell are the same of the same events in another order
cell_events-permutation : (r : Records) (program : ℕ) (periods : List PeriodName) (units : List ℕ) (one other : List EventRow) → IsPermutation one other
    → cell_events r program periods units one ≡ cell_events r program periods units other
cell_events-permutation r program periods units one other moved =
    in_order_permutation whole_cmp whole_total whole_same (filter (is_event_in r program periods units) one)
    (filter (is_event_in r program periods units) other) (filter-permutation (is_event_in r program periods units) one other moved)

-- what is kept of a store, if memory suffices
pub kept_store : (r : Records) (user program : ℕ) (periods asked : List PeriodName) (days : Days) (all taken : List EventRow)
    (result : Result (List EventRow) Memory)
    → asked ≡ periods → Cover asked days → rises event_cmp all ≡ true → taken ≡ events_of program days.from days.to all
    → IfOk result (λ found. found ≡ seen_during r user program asked taken) → IfOk result (λ found. AreDuring r user program periods all found)
kept_store r user program periods asked days all taken (Ok found) same cover up from is =
    subst (λ ps. AreDuring r user program ps all found) same
    (during_store r user program asked days all found cover up (is ∙ ap (seen_during r user program asked) from))
kept_store r user program periods asked days all taken (Err e) same cover up from is = tt

-- ---- enrollments

-- tests that agree on all members keep the same
filter_where : {X : Type 0} (p q t : X → Bool) (xs : List X) → list_all t xs ≡ true → ((x : X) → t x ≡ true → p x ≡ q x) → filter p xs ≡ filter q xs
filter_where p q t [] all same = refl
filter_where p q t (x ∷ xs) all same =
    let parts = and_parts (t x) (list_all t xs) all in
    ap (λ b. cond b (x ∷ filter p xs) (filter p xs)) (same x parts.0)
    ∙ ap (λ rest. cond (q x) (x ∷ rest) rest) (filter_where p q t xs parts.1 same)

swapped : (p d e s : Bool) → d ≡ true → ((p && d) && ((p && e) && s)) ≡ (s && (p && e))
swapped p false e s day = absurd (cc)
swapped false true e false day = refl
swapped false true e true day = refl
swapped true true false false day = refl
swapped true true false true day = refl
swapped true true true false day = refl
swapped true true true true day = refl

has_day_of : (event : EventRow) → has_days event ≡ true → is_day event.day ≡ true
unfolding has_days
has_day_of event has = (and_parts (is_day event.day) (is_day_if_any event.enrolled && (have_days event.values && have_days event.attributes)) has).0

-- all days that a store has may be asked for
all_days : (r : Records) (user program : ℕ) (all : List EventRow) → list_all has_days all ≡ true
    → seen_enrolled r user program (events_of program FIRST_DAY LAST_DAY all) ≡ filter (is_enrolled_in program) (seen_events r user all)
unfolding is_seen_enrolled is_enrolled_in
all_days r user program all days =
    filter_both (is_event_of program FIRST_DAY LAST_DAY) (is_seen_enrolled r user program) all
    ∙ filter_where (λ event. is_event_of program FIRST_DAY LAST_DAY event && is_seen_enrolled r user program event)
    (λ event. is_event_seen r user event && is_enrolled_in program event) has_days all days
    (λ event has. swapped (nat_eq event.program program) (is_day event.day) _ (is_event_seen r user event) (has_day_of event has))
    ∙ sym (filter_both (is_event_seen r user) (is_enrolled_in program) all)

-- what is kept of a store stands by day and identifier, which no two of its events have in common
pub kept_strictly : (r : Records) (user program : ℕ) (all taken kept : List EventRow) → rises event_cmp all ≡ true
    → taken ≡ events_of program FIRST_DAY LAST_DAY all → kept ≡ seen_enrolled r user program taken → IsStrictlySortedBy event_cmp kept
kept_strictly r user program all taken kept up from is =
    subst (IsStrictlySortedBy event_cmp) (sym (is ∙ ap (seen_enrolled r user program) from))
    (IsStrictlySortedBy-filter event_cmp (is_seen_enrolled r user program) (events_of program FIRST_DAY LAST_DAY all)
    (IsStrictlySortedBy-filter event_cmp (is_event_of program FIRST_DAY LAST_DAY) all (sorted_from_rises event_cmp event_total all up)))

-- the enrollments by what is kept of a store
pub enrollments_kept : (r : Records) (user program : ℕ) (all taken kept sorted : List EventRow) → list_all has_days all ≡ true
    → taken ≡ events_of program FIRST_DAY LAST_DAY all → kept ≡ seen_enrolled r user program taken → sorted ≡ in_order enrolled_cmp kept
    → together sorted ≡ enrollments program (seen_events r user all)
enrollments_kept r user program all taken kept sorted days from is ordered =
    ap together (ordered ∙ ap (in_order enrolled_cmp) (is ∙ ap (seen_enrolled r user program) from ∙ all_days r user program all days))

both_first : (p q t : EventRow → Bool) (found : Option EventRow) → ((event : EventRow) → (p event && q event) ≡ t event)
    → (option_map_or p found false && option_map_or q found false) ≡ option_map_or t found false
both_first p q t None same = refl
both_first p q t (Some event) same = same event

enrolled_at : (r : Records) (user : ℕ) (periods : List PeriodName) (units : CellUnits) (event : EventRow) → AreCellUnits r user units → units.alone ≡ false
    → (is_enrolled_on periods event && is_placed_in units.asked event) ≡ is_enrolled_at r periods units.units event
unfolding is_enrolled_at
enrolled_at r user periods units event are not =
    ap (λ u. is_enrolled_on periods event && u)
    (are.asked.members event.order ∙ ap (λ alone. is_at_some (unit_rows r) alone units.units event.order) not)

-- the enrollments of a cell
enrollments_under : (r : Records) (user program : ℕ) (periods : List PeriodName) (units : CellUnits) (events : List EventRow) → AreCellUnits r user units
    → units.alone ≡ false
    → filter (first_is (is_placed_in units.asked)) (filter (first_is (is_enrolled_on periods)) (enrollments program events))
    ≡ cell_enrollments r program periods units.units events
enrollments_under r user program periods units events are not =
    filter_both (first_is (is_enrolled_on periods)) (first_is (is_placed_in units.asked)) (enrollments program events)
    ∙ filter-same (λ subject. first_is (is_enrolled_on periods) subject && first_is (is_placed_in units.asked) subject)
    (first_is (is_enrolled_at r periods units.units)) (enrollments program events)
    (λ subject. both_first (is_enrolled_on periods) (is_placed_in units.asked) (is_enrolled_at r periods units.units) (first_of subject)
    (λ event. enrolled_at r user periods units event are not))

-- ---- the subjects of a cell

subjects_are : (r : Records) (user : ℕ) (periods : List PeriodName) (units : CellUnits) (all : List EventRow) (indicator : ProgramIndicator)
    (plan : ProgramPlan) (kept : Subjects) → IsPlanOf r user all indicator plan → AreSubjects r user all periods plan kept → AreCellUnits r user units
    → units.alone ≡ false
    → subjects_in units.asked kept ≡ subjects_by r indicator.analytics_type indicator.program periods units.units (seen_events r user all)
subjects_are r user periods units all indicator plan (subjects.Events events) is kept are not =
    let over : analytics.Event ≡ indicator.analytics_type = sym kept.0 ∙ is.over in
    ap (map alone) (under_cell r user plan.code.program periods units all events are not kept.1)
    ∙ ap (λ which. subjects_by r which plan.code.program periods units.units (seen_events r user all)) over
    ∙ ap (λ program. subjects_by r indicator.analytics_type program periods units.units (seen_events r user all)) is.code.program
subjects_are r user periods units all indicator plan (subjects.Samples found) is kept are not =
    let over : analytics.Event ≡ indicator.analytics_type = sym kept.0 ∙ is.over in
    ap (map alone) (under_cell r user plan.code.program periods units all found.events are not kept.1.1.1)
    ∙ ap (λ which. subjects_by r which plan.code.program periods units.units (seen_events r user all)) over
    ∙ ap (λ program. subjects_by r indicator.analytics_type program periods units.units (seen_events r user all)) is.code.program
subjects_are r user periods units all indicator plan (subjects.Enrollments found) is kept are not =
    let over : analytics.Enrollment ≡ indicator.analytics_type = sym kept.0 ∙ is.over in
    ap (filter (first_is (is_placed_in units.asked))) (kept.1 ∙ ap (filter (first_is (is_enrolled_on periods))) (is.enrollments kept.0))
    ∙ enrollments_under r user plan.code.program periods units (seen_events r user all) are not
    ∙ ap (λ which. subjects_by r which plan.code.program periods units.units (seen_events r user all)) over
    ∙ ap (λ program. subjects_by r indicator.analytics_type program periods units.units (seen_events r user all)) is.code.program

-- the value over the subjects of a cell is the cell's
pub cell_meant : (r : Records) (user n : ℕ) (periods : List PeriodName) (units : CellUnits) (all : List EventRow) (plan : ProgramPlan) (kept : Subjects)
    (own : List (List EventRow)) (result : Result (Option Fraction) PiFault) → IsProgramPlan r user all n plan → AreSubjects r user all periods plan kept
    → AreCellUnits r user units → units.alone ≡ false → own ≡ subjects_in units.asked kept
    → ((indicator : ProgramIndicator) → IsCodeOf r indicator plan.code → Values result (program_value r indicator own))
    → Values result (cell_value r n periods units.units (seen_events r user all))
unfolding cell_value
cell_meant r user n periods units all plan kept own result is subjects are not found means = by_found (slice_get r.program_indicators n) is.is
  where
    by_found : (indicator : Option ProgramIndicator) → IsPlanOfSome r user all indicator plan
        → Values result (option_map_or (indicator_cell r periods units.units (seen_events r user all)) indicator NoValue)
    by_found None planned = absurd planned
    by_found (Some indicator) planned =
        subst (λ list. Values result (program_value r indicator list))
        (found ∙ subjects_are r user periods units all indicator plan kept planned subjects are not) (means indicator planned.code)

-- the same by the samples of events
pub sampled_meant : (r : Records) (user n : ℕ) (periods : List PeriodName) (units : CellUnits) (all : List EventRow) (plan : ProgramPlan) (kept : Subjects)
    (found : Sampled) (result : Result (Option Fraction) PiFault) → IsProgramPlan r user all n plan → AreSubjects r user all periods plan kept
    → AreCellUnits r user units → units.alone ≡ false → kept ≡ subjects.Samples found
    → ((indicator : ProgramIndicator) → IsCodeOf r indicator plan.code → found.code ≡ plan.code → measure_in plan.code.value ≡ measure.Formula
    → Values result (program_value r indicator (map alone (filter (is_placed_in units.asked) found.events))))
    → Values result (cell_value r n periods units.units (seen_events r user all))
sampled_meant r user n periods units all plan kept found result is those are not same means =
    let own : AreSubjects r user all periods plan (subjects.Samples found) = subst (λ some. AreSubjects r user all periods plan some) same those in
    cell_meant r user n periods units all plan kept (map alone (filter (is_placed_in units.asked) found.events)) result is those are not
    (ap (subjects_in units.asked) (sym same)) (λ indicator code. means indicator code own.1.0 own.1.1.0)

-- the subjects of events, of which it is known what they are
pub events_subjects : (r : Records) (user : ℕ) (all : List EventRow) (periods : List PeriodName) (plan : ProgramPlan) (events : List EventRow)
    (kept : Subjects) → plan.over ≡ analytics.Event → AreDuring r user plan.code.program periods all events → AreEventSubjects plan.code events kept
    → AreSubjects r user all periods plan kept
events_subjects r user all periods plan events (subjects.Events found) over during is =
    (over, subst (AreDuring r user plan.code.program periods all) (sym is) during)
events_subjects r user all periods plan events (subjects.Samples found) over during is =
    (over, (is.0, (is.1.0, subst (AreDuring r user plan.code.program periods all) (sym is.1.1) during)))
events_subjects r user all periods plan events (subjects.Enrollments found) over during is = absurd is

-- the same, if memory suffices
pub events_made : (r : Records) (user : ℕ) (all : List EventRow) (periods : List PeriodName) (plan : ProgramPlan) (events : List EventRow)
    (result : Result Subjects Memory) → plan.over ≡ analytics.Event → AreDuring r user plan.code.program periods all events
    → IfOk result (AreEventSubjects plan.code events) → IfOk result (AreSubjects r user all periods plan)
events_made r user all periods plan events (Ok kept) over during is = events_subjects r user all periods plan events kept over during is
events_made r user all periods plan events (Err e) over during is = tt

-- the plan of the indicator with a number
pub planned_at : (r : Records) (user : ℕ) (all : List EventRow) (n : ℕ) (indicator : ProgramIndicator) (plan : ProgramPlan)
    → slice_get r.program_indicators n ≡ Some indicator → IsPlanOf r user all indicator plan → IsProgramPlan r user all n plan
planned_at r user all n indicator plan at is =
    record { is = subst (λ (found : Option ProgramIndicator). IsPlanOfSome r user all found plan) (sym at) is }

-- ---- the same events in another order

enrollments-permutation : (program : ℕ) (one other : List EventRow) → IsPermutation one other → enrollments program one ≡ enrollments program other
enrollments-permutation program one other moved =
    ap together (in_order_permutation enrolled_cmp enrolled_total enrolled_same (filter (is_enrolled_in program) one)
    (filter (is_enrolled_in program) other) (filter-permutation (is_enrolled_in program) one other moved))

subjects-permutation : (r : Records) (over : AnalyticsType) (program : ℕ) (periods : List PeriodName) (units : List ℕ) (one other : List EventRow)
    → IsPermutation one other → subjects_by r over program periods units one ≡ subjects_by r over program periods units other
subjects-permutation r analytics.Event program periods units one other moved =
    ap (map alone) (cell_events-permutation r program periods units one other moved)
subjects-permutation r analytics.Enrollment program periods units one other moved =
    ap (filter (first_is (is_enrolled_at r periods units))) (enrollments-permutation program one other moved)

-- the value in a cell is the same
pub cell_value-permutation : (r : Records) (n : ℕ) (periods : List PeriodName) (units : List ℕ) (one other : List EventRow) → IsPermutation one other
    → cell_value r n periods units one ≡ cell_value r n periods units other
unfolding cell_value
cell_value-permutation r n periods units one other moved = by_found (slice_get r.program_indicators n)
  where
    by_found : (found : Option ProgramIndicator)
        → option_map_or (indicator_cell r periods units one) found NoValue ≡ option_map_or (indicator_cell r periods units other) found NoValue
    by_found None = refl
    by_found (Some indicator) =
        ap (program_value r indicator) (subjects-permutation r indicator.analytics_type indicator.program periods units one other moved)
