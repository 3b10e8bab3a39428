-- Reporting rates over what is seen.
use Rattle.std.proofs.Common.{◌≡◌, ◌∙◌, ℕ, suc, ◌+◌, ◌*◌, Bool, true, false, cond, List, [], ◌∷◌, length, map, refl, sym, ap, arith}
use Rattle.std.proofs.Common.{Option, Some, None, slice_get, Ordering, Less, Equal, Greater}
use Rattle.std.specs.Prelude.{IsPermutation, nat_eq, option_and_then}
use Rattle.std.specs.Ordering.{is_eq, ordering_reverse}
use Rattle.std.proofs.lemmas.Bool.{and_parts, eqb-true}
use Rattle.dh_periods.specs.Keys.{same_period}
use Rattle.dh_periods.proofs.KeyLemmas.{same_period-Decides}
use Rattle.std.specs.List.{filter}
use Rattle.dh_base.specs.declared.plain.Rate.{Rate}
use Rattle.dh_periods.specs.declared.name.PeriodName.{PeriodName}
use Rattle.dh_metadata.specs.declared.held.Records.{Records}
use Rattle.dh_metadata.specs.declared.records.DataSet.{DataSet}
use Rattle.table_rows.specs.declared.event.RegRow.{RegRow}
use Rattle.table_rows.specs.Cells.{how_many, times}
use Rattle.table_rows.specs.Groups.{each_once}
use Rattle.table_rows.proofs.ShuffleLemmas.{Tells, closed-permutation, closed-filter, closed-map, closed-once}
use Rattle.cell_values.specs.declared.reports.Report.{Report}
use Rattle.cell_values.specs.Reporting.{report_of, same_report, is_counted, is_report_in, reports_of, reported, units_due, periods_due, rate_with, rate_of}
use Rattle.cell_values.proofs.ReportLemmas.{report_cmp, report_total, report_ties}

-- ---- reports told apart

equal_turned : (o : Ordering) → is_eq (ordering_reverse o) ≡ is_eq o
equal_turned Less = refl
equal_turned Equal = refl
equal_turned Greater = refl

same_turned : (a b : Report) → same_report a b ≡ same_report b a
same_turned a b =
    report_ties a b ∙ ap is_eq (report_total.antisymm a b) ∙ equal_turned (report_cmp b a) ∙ sym (report_ties b a)

same_parts : (a b : Report) → a.period ≡ b.period → a.order ≡ b.order → a ≡ b
same_parts a b p o =
    let made : a ≡ record { period = b.period; order = b.order } = rw (← p, ← o) refl in
    made

report_is : (a b : Report) → same_report a b ≡ true → a ≡ b
report_is a b e =
    let x = and_parts (same_period a.period b.period) (nat_eq a.order b.order) e in
    same_parts a b ((same_period-Decides a.period b.period).0 x.0) (eqb-true _ _ x.1)

reports_tell : Tells same_report
reports_tell = record { is = report_is; turns = same_turned }

-- ---- in another order

-- how many pass a test are as many as are kept by it
many-kept : {X : Type 0} (p : X → Bool) (xs : List X) → length (filter p xs) ≡ how_many p xs
many-kept p [] = refl
many-kept p (x ∷ xs) = by (p x) (many-kept p xs)
  where
    by : (b : Bool) → length (filter p xs) ≡ how_many p xs → length (cond b (x ∷ filter p xs) (filter p xs)) ≡ times b + how_many p xs
    by true rest = ap suc rest ∙ omega arith
    by false rest = rest ∙ omega arith

-- reports of registrations in another order
reported-permutation : (r : Records) (which : Rate) (set : ℕ) (found : DataSet) (periods : List PeriodName) (units : List ℕ)
    (one other : List RegRow) (alone : Bool) → IsPermutation one other
    → reported r which set found periods units one alone ≡ reported r which set found periods units other alone
unfolding reported reports_of
reported-permutation r which set found periods units one other alone moved =
    let test : Report → Bool = is_report_in r periods units alone in
    many-kept test (each_once same_report (map report_of (filter (is_counted r which set found) one)))
    ∙ closed-permutation
    (λ us vs. (p : Report → Bool)
    → how_many p (each_once same_report (map report_of (filter (is_counted r which set found) us)))
    ≡ how_many p (each_once same_report (map report_of (filter (is_counted r which set found) vs))))
    (closed-filter (is_counted r which set found)
    (λ us vs. (p : Report → Bool) → how_many p (each_once same_report (map report_of us)) ≡ how_many p (each_once same_report (map report_of vs)))
    (closed-map report_of (λ us vs. (p : Report → Bool) → how_many p (each_once same_report us) ≡ how_many p (each_once same_report vs))
    (closed-once same_report reports_tell))) one other moved test
    ∙ sym (many-kept test (each_once same_report (map report_of (filter (is_counted r which set found) other))))

alike : {X Y : Type 0} (f g : X → Option Y) (found : Option X) → ((x : X) → f x ≡ g x) → option_and_then f found ≡ option_and_then g found
alike f g None same = refl
alike f g (Some x) same = same x

-- a rate doesn't depend on the order in which the registrations stand
pub rate_of-permutation : (r : Records) (which : Rate) (set : ℕ) (periods : List PeriodName) (units : List ℕ) (one other : List RegRow) (alone : Bool)
    → IsPermutation one other → rate_of r which set periods units one alone ≡ rate_of r which set periods units other alone
unfolding rate_of
rate_of-permutation r which set periods units one other alone moved =
    alike
    (λ (found : DataSet). rate_with which (units_due r set units alone * periods_due found.period_type periods)
    (reported r which set found periods units one alone))
    (λ (found : DataSet). rate_with which (units_due r set units alone * periods_due found.period_type periods)
    (reported r which set found periods units other alone))
    (slice_get r.data_sets set)
    (λ found. ap (rate_with which (units_due r set units alone * periods_due found.period_type periods))
    (reported-permutation r which set found periods units one other alone moved))
