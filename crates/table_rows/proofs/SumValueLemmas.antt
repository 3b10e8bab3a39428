-- The value of samples from their sum, and what order samples have.
use Rattle.std.proofs.Common.{◌≡◌, ◌∙◌, ℕ, suc, Bool, true, false, not, ◌&&◌, List, [], ◌∷◌, length, pos, Some, None, refl, sym, ap, arith, Ordering, Less}
use Rattle.std.proofs.Common.{Equal, Greater}
use Rattle.std.specs.Prelude.{if◌then◌else◌}
use Rattle.std.specs.Cmp.{IsTotalOrder}
use Rattle.std.specs.List.{list_all, AllByRecursion}
use Rattle.std.specs.List.Sorted.{IsStrictlySortedBy}
use Rattle.std.specs.Ordering.{is_le, is_eq, ordering_then}
use Rattle.std.proofs.lemmas.Bool.{ne_eqb, and_from}
use Rattle.std.proofs.lemmas.Cmp.{then_total, on_total}
use Rattle.dh_base.specs.declared.plain.AggType.TheVariants as kind
use Rattle.dh_base.specs.Fractions.{Fraction, fraction_of, of_micros}
use Rattle.dh_periods.specs.Keys.{same_period}
use Rattle.dh_periods.specs.contracts.period.PeriodOrd.TheImpl.Laws as period
use Rattle.table_rows.specs.Order.{period_cmp}
use Rattle.table_rows.specs.Store.{rises}
use Rattle.table_rows.proofs.RiseLemmas.{sorted_from_rises}
use Rattle.table_rows.specs.contracts.sample.SeriesOrd.TheImpl.Laws as series
use Rattle.table_rows.specs.declared.sample.Sample.{Sample}
use Rattle.table_rows.specs.Samples.{series_cmp, same_series, sample_cmp, may_precede, in_series_order, numbered, number_of, total}
use Rattle.table_rows.specs.Values.{mean, if_any, unless_none, value_of_sum, value_by, sum_of_samples}
use Rattle.table_rows.proofs.TotalLemmas.{sum-micros, sum-count, sum-plain}

unless-any : (xs : List Sample) (value : Fraction) → unless_none (length xs) value ≡ if_any xs value
unless-any [] value = refl
unless-any (x ∷ xs) value =
    ap (λ b. if b then None else Some value) (ne_eqb (suc (length xs)) 0 (λ e. absurd (omega arith)))

pub sum-of-Sum : (samples : List Sample)
    → value_of_sum kind.Sum (sum_of_samples samples) ≡ if_any (numbered samples) (of_micros (total number_of (numbered samples)))
sum-of-Sum samples =
    ap (λ n. unless_none n (of_micros (sum_of_samples samples).micros)) (sum-plain samples)
    ∙ ap (λ m. unless_none (length (numbered samples)) (of_micros m)) (sum-micros samples)
    ∙ unless-any (numbered samples) (of_micros (total number_of (numbered samples)))

pub sum-of-Average : (samples : List Sample)
    → value_of_sum kind.Average (sum_of_samples samples) ≡ if_any (numbered samples) (mean (total number_of (numbered samples)) (length (numbered samples)))
sum-of-Average samples =
    ap (λ n. unless_none n (mean (sum_of_samples samples).micros n)) (sum-plain samples)
    ∙ ap (λ m. unless_none (length (numbered samples)) (mean m (length (numbered samples)))) (sum-micros samples)
    ∙ unless-any (numbered samples) (mean (total number_of (numbered samples)) (length (numbered samples)))

pub sum-of-Count : (samples : List Sample) → value_of_sum kind.Count (sum_of_samples samples) ≡ if_any samples (fraction_of (pos (length samples)) 1)
sum-of-Count samples =
    ap (λ n. unless_none n (fraction_of (pos n) 1)) (sum-count samples) ∙ unless-any samples (fraction_of (pos (length samples)) 1)

-- the value of samples by SUM, AVERAGE or COUNT is that of their sum
pub value_by-Sum : (samples : List Sample) (days : ℕ) → value_by kind.Sum samples days ≡ value_of_sum kind.Sum (sum_of_samples samples)
unfolding value_by
value_by-Sum samples days = sym (sum-of-Sum samples)

pub value_by-Average : (samples : List Sample) (days : ℕ) → value_by kind.Average samples days ≡ value_of_sum kind.Average (sum_of_samples samples)
unfolding value_by
value_by-Average samples days = sym (sum-of-Average samples)

pub value_by-Count : (samples : List Sample) (days : ℕ) → value_by kind.Count samples days ≡ value_of_sum kind.Count (sum_of_samples samples)
unfolding value_by
value_by-Count samples days = sym (sum-of-Count samples)

-- ---- samples that are sorted by series and period

sample_total : IsTotalOrder sample_cmp
sample_total = then_total (on_total (λ (s : Sample). s.series) series.total-law) (on_total (λ (s : Sample). s.period) period.total-law)

less_may : (a b : Ordering) (s p : Bool) → s ≡ is_eq a → p ≡ is_eq b → ordering_then a b ≡ Less → (is_le a && not (s && p)) ≡ true
less_may Less b false p es ep e = refl
less_may Less b true p es ep e = absurd (cc)
less_may Equal Less s false es ep e = not_both s
  where
    not_both : (s : Bool) → not (s && false) ≡ true
    not_both true = refl
    not_both false = refl
less_may Equal Less s true es ep e = absurd (cc)
less_may Equal Equal s p es ep e = absurd (cc)
less_may Equal Greater s p es ep e = absurd (cc)
less_may Greater b s p es ep e = absurd (cc)

less_precedes : (a b : Sample) → sample_cmp a b ≡ Less → may_precede a b ≡ true
less_precedes a b e =
    less_may (series_cmp a.series b.series) (period_cmp a.period b.period) (same_series a.series b.series) (same_period a.period b.period)
    (series.matches_eq-law a.series b.series) (period.matches_eq-law a.period b.period) e

all_may : (s : Sample) (ss : List Sample) → AllByRecursion (λ t. sample_cmp s t ≡ Less) ss → list_all (may_precede s) ss ≡ true
all_may s [] all = refl
all_may s (t ∷ ts) all = and_from _ _ (less_precedes s t all.0) (all_may s ts all.1)

ordered_from_sorted : (samples : List Sample) → IsStrictlySortedBy sample_cmp samples → in_series_order samples ≡ true
unfolding IsStrictlySortedBy
ordered_from_sorted [] sorted = refl
ordered_from_sorted (s ∷ ss) sorted = and_from _ _ (all_may s ss sorted.0) (ordered_from_sorted ss sorted.1)

-- samples sorted by series and period are in series order, each series and period once
pub in_series_order-from_rises : (samples : List Sample) → rises sample_cmp samples ≡ true → in_series_order samples ≡ true
in_series_order-from_rises samples up = ordered_from_sorted samples (sorted_from_rises sample_cmp sample_total samples up)
