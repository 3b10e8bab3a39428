-- The rate from what was worked out before.
use Rattle.std.proofs.Common.{◌≡◌, ◌∙◌, ℕ, ◌+◌, ◌*◌, ◌<◌, Bool, true, false, ◌&&◌, cond, List, [], ◌∷◌, ◌++◌, length, map, take, get_or, refl, sym, ap}
use Rattle.std.specs.Prelude.{IsPermutation, option_and_then}
use Rattle.std.specs.List.{filter}
use Rattle.std.specs.List.Sorted.{IsSorted}
use Rattle.std.specs.Ordering.{nat_cmp}
use Rattle.std.proofs.lemmas.Bool.{and_parts}
use Rattle.std.proofs.lemmas.List.{map-append}
use Rattle.dh_base.specs.declared.plain.Rate.{Rate}
use Rattle.dh_periods.specs.declared.name.PeriodName.{PeriodName}
use Rattle.dh_sharing.specs.Ranges.{is_within}
use Rattle.org_tree.proofs.CountLemmas.{count_below-agree}
use Rattle.dh_metadata.specs.declared.held.Records.{Records}
use Rattle.dh_metadata.specs.declared.records.DataSet.{DataSet}
use Rattle.dh_metadata.specs.Approval.{unit_rows}
use Rattle.table_rows.specs.declared.event.RegRow.{RegRow}
use Rattle.cell_values.specs.declared.reports.Report.{Report}
use Rattle.cell_values.specs.declared.reports.Reports.{Reports}
use Rattle.cell_values.specs.declared.due.Due.{Due}
use Rattle.cell_values.specs.Places.{is_at_some, AreOrdersAt}
use Rattle.cell_values.specs.Counts.{how_many_within}
use Rattle.cell_values.specs.Cells.{is_in_some}
use Rattle.cell_values.specs.Reporting.{is_assigned_at, is_counted, is_report_in, periods_due, units_due, reports_of, reported, rate_with, rate_of}
use Rattle.cell_values.specs.Prepared.{AreAssigned, AreOrders, AreReports, IsDue, IsPrepared, rate_within}
use Rattle.cell_values.proofs.CountLemmas.{count-agree, count-map, count-permutation, ascending-from_sort}
use Rattle.cell_values.proofs.PlanLemmas.{kept-more}
use Rattle.cell_values.proofs.ReportLemmas.{AreOf}

-- ---- the orders of reports

abbrev pub orders_upto : List PeriodName → List Report → List ℕ
orders_upto periods reports = map (λ (report : Report). report.order) (filter (λ (report : Report). is_in_some periods report.period) reports)

map-kept : {X Y : Type 0} (f : X → Y) (xs : List X) (x : X) (b : Bool) → map f xs ++ cond b (f x ∷ []) [] ≡ map f (xs ++ cond b (x ∷ []) [])
map-kept f xs x true = sym (map-append f xs (x ∷ []))
map-kept f xs x false = sym (map-append f xs [])

-- the order of one report more, if its period lies in some of these
pub orders-more : (periods : List PeriodName) (reports : List Report) (found more : List ℕ) (i : ℕ) (x : Report) (b : Bool) → i < length reports
    → x ≡ get_or reports i x → found ≡ orders_upto periods (take i reports) → more ≡ found ++ cond b (x.order ∷ []) [] → b ≡ is_in_some periods x.period
    → more ≡ orders_upto periods (take (i + 1) reports)
orders-more periods reports found more i x b within at before is lies =
    let order : Report → ℕ = λ report. report.order in
    let test : Report → Bool = λ report. is_in_some periods report.period in
    let kept = filter test (take i reports) in
    is ∙ ap (λ l. l ++ cond b (x.order ∷ []) []) before ∙ map-kept order kept x b
    ∙ ap (map order) (kept-more test reports kept (kept ++ cond b (x ∷ []) []) i x b within at refl refl lies)

pub orders-sorted : (periods : List PeriodName) (reports : List Report) (orders sorted : List ℕ) → orders ≡ orders_upto periods reports
    → IsPermutation orders sorted → IsSorted nat_cmp sorted → AreOrders periods reports sorted
orders-sorted periods reports orders sorted is moved up = record {
  ascend = ascending-from_sort sorted up;
  count = λ test.
      sym (count-permutation test orders sorted moved)
      ∙ ap (λ ns. length (filter test ns)) is
      ∙ count-map (λ (report : Report). report.order) (λ (report : Report). is_in_some periods report.period) test reports;
}

-- ---- registrations that count

pub counted-of : (r : Records) (which : Rate) (set : ℕ) (found : DataSet) → AreOf (is_counted r which set found) set
unfolding AreOf is_counted
counted-of r which set found = λ reg counts. (and_parts _ _ counts).0

-- ---- the rate

pub prepared : (r : Records) (which : Rate) (set : ℕ) (regs : List RegRow) (periods : List PeriodName) (reports : Reports) (due : Due)
    → AreReports r which set regs reports → IsDue periods reports due → IsPrepared reports due
prepared r which set regs periods reports due are is = record {
  assigned = are.assigned.ascend;
  few = are.assigned.few;
  orders = is.orders.ascend;
  periods = is.few;
}

units-due : (r : Records) (set : ℕ) (units : List ℕ) (alone : Bool) (orders : List ℕ) (ranges : List (ℕ × ℕ)) → AreAssigned r set orders
    → AreOrdersAt (unit_rows r) alone units ranges → how_many_within orders ranges ≡ units_due r set units alone
unfolding units_due
units-due r set units alone orders ranges are at =
    are.count (is_within ranges)
    ∙ count_below-agree (λ order. is_assigned_at r set order && is_within ranges order)
    (λ order. is_assigned_at r set order && is_at_some (unit_rows r) alone units order) (length r.organisation_units)
    (λ order h. ap (λ b. is_assigned_at r set order && b) (at.members order))

reports-in : (r : Records) (periods : List PeriodName) (units : List ℕ) (alone : Bool) (reports : List Report) (orders : List ℕ) (ranges : List (ℕ × ℕ))
    → AreOrders periods reports orders → AreOrdersAt (unit_rows r) alone units ranges
    → how_many_within orders ranges ≡ length (filter (is_report_in r periods units alone) reports)
reports-in r periods units alone reports orders ranges are at =
    are.count (is_within ranges)
    ∙ count-agree (λ (report : Report). is_in_some periods report.period && is_within ranges report.order) (is_report_in r periods units alone)
    (λ report. ap (λ b. is_in_some periods report.period && b) (at.members report.order)) reports

pub rate-is : (r : Records) (which : Rate) (set : ℕ) (regs : List RegRow) (periods : List PeriodName) (units : List ℕ) (alone : Bool)
    (reports : Reports) (due : Due) (ranges : List (ℕ × ℕ)) → AreReports r which set regs reports → IsDue periods reports due
    → AreOrdersAt (unit_rows r) alone units ranges
    → rate_within reports.which reports.assigned due.periods due.orders ranges ≡ rate_of r which set periods units regs alone
unfolding rate_of reported
rate-is r which set regs periods units alone reports due ranges are is at =
    let found = are.found in
    let some_units : how_many_within reports.assigned ranges ≡ units_due r set units alone =
    units-due r set units alone reports.assigned ranges are.assigned at in
    let some_periods : due.periods ≡ periods_due found.period_type periods = is.periods_are ∙ ap (λ k. periods_due k periods) are.kind_is in
    let some_reports : how_many_within due.orders ranges ≡ length (filter (is_report_in r periods units alone) (reports_of r which set found regs)) =
    reports-in r periods units alone reports.reports due.orders ranges is.orders at
    ∙ ap (λ rs. length (filter (is_report_in r periods units alone) rs)) are.reports_are in
    ap (λ (w : Rate). rate_within w reports.assigned due.periods due.orders ranges) are.which_is
    ∙ ap (λ n. rate_with which (n * due.periods) (how_many_within due.orders ranges)) some_units
    ∙ ap (λ n. rate_with which (units_due r set units alone * n) (how_many_within due.orders ranges)) some_periods
    ∙ ap (λ n. rate_with which (units_due r set units alone * periods_due found.period_type periods) n) some_reports
    ∙ ap (λ o. option_and_then (λ (f : DataSet). rate_with which (units_due r set units alone * periods_due f.period_type periods)
    (length (filter (is_report_in r periods units alone) (reports_of r which set f regs)))) o) (sym are.is)
