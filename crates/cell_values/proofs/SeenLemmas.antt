-- A rate takes the registrations of its data set; they may be taken before those that are seen.
use Rattle.std.proofs.Common.{◌≡◌, ◌∙◌, ℕ, ◌*◌, Bool, true, false, cond, List, [], ◌∷◌, length, map, slice_get, Option, refl, sym, ap}
use Rattle.std.proofs.Math.Path.{fun_ext}
use Rattle.std.specs.Prelude.{option_and_then}
use Rattle.std.specs.List.{filter}
use Rattle.std.specs.List.Sorted.{IsStrictlySortedBy}
use Rattle.std.specs.Ordering.{is_lt}
use Rattle.std.proofs.lemmas.Bool.{false≢true, and_parts, and_from}
use Rattle.std.proofs.lemmas.List.Kept.{IsStrictlySortedBy-filter}
use Rattle.dh_base.specs.Fractions.{Fraction}
use Rattle.dh_base.specs.declared.plain.Rate.{Rate}
use Rattle.dh_periods.specs.declared.name.PeriodName.{PeriodName}
use Rattle.dh_metadata.specs.declared.held.Records.{Records}
use Rattle.dh_metadata.specs.declared.records.DataSet.{DataSet}
use Rattle.table_rows.specs.declared.event.RegRow.{RegRow}
use Rattle.table_rows.specs.Events.{reg_cmp, is_reg_of, regs_of}
use Rattle.table_rows.specs.Groups.{each_once}
use Rattle.table_rows.specs.Store.{rises, rises_from}
use Rattle.table_rows.proofs.RiseLemmas.{sorted_from_rises}
use Rattle.cell_values.specs.Reporting.{is_counted, is_report_in, report_of, same_report, reports_of, reported, units_due, periods_due, rate_with, rate_of}
use Rattle.cell_values.proofs.ReportLemmas.{reg_total}

filter-twice : {X : Type 0} (p q : X → Bool) → ((x : X) → p x ≡ true → q x ≡ true) → (xs : List X) → filter p (filter q xs) ≡ filter p xs
filter-twice p q more [] = refl
filter-twice p q more (x ∷ xs) = by (p x) (q x) refl refl (more x) (filter-twice p q more xs)
  where
    by : (a b : Bool) → p x ≡ a → q x ≡ b → (a ≡ true → b ≡ true) → filter p (filter q xs) ≡ filter p xs
        → filter p (cond b (x ∷ filter q xs) (filter q xs)) ≡ cond a (x ∷ filter p xs) (filter p xs)
    by a true pa qb h rest = ap (λ v. cond v (x ∷ filter p (filter q xs)) (filter p (filter q xs))) pa ∙ ap (λ ys. cond a (x ∷ ys) ys) rest
    by true false pa qb h rest = absurd (false≢true (h refl))
    by false false pa qb h rest = rest

filter-turned : {X : Type 0} (p q : X → Bool) (xs : List X) → filter p (filter q xs) ≡ filter q (filter p xs)
filter-turned p q [] = refl
filter-turned p q (x ∷ xs) = by (p x) (q x) refl refl (filter-turned p q xs)
  where
    by : (a b : Bool) → p x ≡ a → q x ≡ b → filter p (filter q xs) ≡ filter q (filter p xs)
        → filter p (cond b (x ∷ filter q xs) (filter q xs)) ≡ filter q (cond a (x ∷ filter p xs) (filter p xs))
    by true true pa qb rest =
        ap (λ v. cond v (x ∷ filter p (filter q xs)) (filter p (filter q xs))) pa ∙ ap (λ ys. x ∷ ys) rest
        ∙ sym (ap (λ v. cond v (x ∷ filter q (filter p xs)) (filter q (filter p xs))) qb)
    by true false pa qb rest = rest ∙ sym (ap (λ v. cond v (x ∷ filter q (filter p xs)) (filter q (filter p xs))) qb)
    by false true pa qb rest = ap (λ v. cond v (x ∷ filter p (filter q xs)) (filter p (filter q xs))) pa ∙ rest
    by false false pa qb rest = rest

own-set : (r : Records) (which : Rate) (set : ℕ) (found : DataSet) (reg : RegRow) → is_counted r which set found reg ≡ true → is_reg_of set reg ≡ true
unfolding is_counted
own-set r which set found reg counts = (and_parts _ _ counts).0

-- registrations that count are of the data set anyway
counted-kept : (r : Records) (which : Rate) (set : ℕ) (found : DataSet) (keep : RegRow → Bool) (regs : List RegRow)
    → filter (is_counted r which set found) (filter keep (regs_of set regs)) ≡ filter (is_counted r which set found) (filter keep regs)
counted-kept r which set found keep regs =
    filter-turned (is_counted r which set found) keep (regs_of set regs)
    ∙ ap (filter keep) (filter-twice (is_counted r which set found) (is_reg_of set) (own-set r which set found) regs)
    ∙ sym (filter-turned (is_counted r which set found) keep regs)

-- the registrations of the data set may be taken before those that are seen
pub rate-of_set : (r : Records) (which : Rate) (set : ℕ) (periods : List PeriodName) (units : List ℕ) (keep : RegRow → Bool) (regs : List RegRow) (alone : Bool)
    → rate_of r which set periods units (filter keep (regs_of set regs)) alone ≡ rate_of r which set periods units (filter keep regs) alone
unfolding rate_of reported reports_of
rate-of_set r which set periods units keep regs alone =
    ap (λ (f : DataSet → Option Fraction). option_and_then f (slice_get r.data_sets set)) (fun_ext (λ found.
    ap (λ (rs : List RegRow). rate_with which (units_due r set units alone * periods_due found.period_type periods)
    (length (filter (is_report_in r periods units alone) (each_once same_report (map report_of rs))))) (counted-kept r which set found keep regs)))

-- ---- what is kept of registrations in order is in order

sorted-rises_from : (x : RegRow) (xs : List RegRow) → IsStrictlySortedBy reg_cmp (x ∷ xs) → rises_from reg_cmp x xs ≡ true
unfolding IsStrictlySortedBy
sorted-rises_from x [] sorted = refl
sorted-rises_from x (y ∷ ys) sorted = and_from _ _ (ap is_lt sorted.0.0) (sorted-rises_from y ys sorted.1)

sorted-rises : (xs : List RegRow) → IsStrictlySortedBy reg_cmp xs → rises reg_cmp xs ≡ true
sorted-rises [] sorted = refl
sorted-rises (x ∷ xs) sorted = sorted-rises_from x xs sorted

pub kept-rises : (set : ℕ) (keep : RegRow → Bool) (regs : List RegRow) → rises reg_cmp regs ≡ true → rises reg_cmp (filter keep (regs_of set regs)) ≡ true
kept-rises set keep regs up =
    sorted-rises (filter keep (regs_of set regs))
    (IsStrictlySortedBy-filter reg_cmp keep (regs_of set regs)
    (IsStrictlySortedBy-filter reg_cmp (is_reg_of set) regs (sorted_from_rises reg_cmp reg_total regs up)))
