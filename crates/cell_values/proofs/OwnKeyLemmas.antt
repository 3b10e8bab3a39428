-- Rows of which each has its own place give samples of which each has its own key, and these are sorted without a repeat.
use Rattle.std.proofs.Common.{◌≡◌, ◌∙◌, ℕ, ◌+◌, Bool, true, false, cond, ◌&&◌, List, [], ◌∷◌, map, suc, get_or, refl, sym, ap, subst, arith, Ordering, Less}
use Rattle.std.proofs.Common.{Equal, Greater}
use Rattle.std.specs.Prelude.{IsPermutation, nat_eq}
use Rattle.std.specs.Cmp.{IsTotalOrder, eq_by_cmp_equiv}
use Rattle.std.specs.List.{AllByRecursion, IsDistinct, filter}
use Rattle.std.specs.List.Sorted.{IsSorted}
use Rattle.std.specs.Ordering.{eq_by_cmp, is_eq, is_lt, ordering_then, ordering_reverse}
use Rattle.std.proofs.lemmas.Bool.{and_from}
use Rattle.std.proofs.lemmas.Cmp.{on_total, then_total}
use Rattle.std.proofs.lemmas.List.Sorted.{IsPermutation-map}
use Rattle.std.proofs.lemmas.Map.Keys.{IsDistinct-IsPermutation}
use Rattle.dh_base.specs.declared.plain.Need.{Need}
use Rattle.dh_sharing.specs.Ranges.{AreApart}
use Rattle.dh_periods.specs.contracts.period.PeriodOrd.TheImpl.Laws as period
use Rattle.dh_periods.specs.Keys.{same_period}
use Rattle.table_rows.specs.declared.row.Row.{Row}
use Rattle.table_rows.specs.declared.row.Group.{Group}
use Rattle.table_rows.specs.Cells.{is_of_cell, cell_rows, gathered}
use Rattle.table_rows.specs.Groups.{groups_of}
use Rattle.table_rows.specs.Order.{row_cmp, period_cmp}
use Rattle.table_rows.specs.Rows.{same_place}
use Rattle.table_rows.specs.Store.{rises, rises_from, have_own_places}
use Rattle.table_rows.proofs.DifferLemmas.{differ-distinct}
use Rattle.table_rows.specs.contracts.sample.SeriesOrd.TheImpl.Laws as series
use Rattle.table_rows.specs.declared.sample.Sample.{Sample}
use Rattle.table_rows.specs.RowSamples.{sample_of}
use Rattle.table_rows.specs.Samples.{sample_cmp, series_cmp, same_series, in_series_order}
use Rattle.table_rows.proofs.SumValueLemmas.{in_series_order-from_rises}
use Rattle.cell_values.specs.Parts.{HaveOwnKeys, is_row_asked, ranged_rows}
use Rattle.cell_values.proofs.GlueLemmas.{asked_rows}

-- ---- lists of which no two members are alike

all-filter : {X : Type 0} (P : X → Type 0) (t : X → Bool) (xs : List X) → AllByRecursion P xs → AllByRecursion P (filter t xs)
all-filter P t [] all = tt
all-filter P t (x ∷ xs) all = by_test (t x) (all-filter P t xs all.1)
  where
    by_test : (b : Bool) → AllByRecursion P (filter t xs) → AllByRecursion P (cond b (x ∷ filter t xs) (filter t xs))
    by_test true rest = (all.0, rest)
    by_test false rest = rest

distinct-filter : {X : Type 0} (like : X → X → Bool) (t : X → Bool) (xs : List X) → IsDistinct like xs → IsDistinct like (filter t xs)
unfolding IsDistinct
distinct-filter like t [] apart = tt
distinct-filter like t (x ∷ xs) apart = by_test (t x) (distinct-filter like t xs apart.1)
  where
    by_test : (b : Bool) → IsDistinct like (filter t xs) → IsDistinct like (cond b (x ∷ filter t xs) (filter t xs))
    by_test true rest = (all-filter (λ y. like x y ≡ false) t xs apart.0, rest)
    by_test false rest = rest

module _ {X Y : Type 0} (like : X → X → Bool) (alike : Y → Y → Bool) (f : X → Y) (same : (a b : X) → alike (f a) (f b) ≡ like a b) where
  unlike-map : (x : X) (xs : List X) → AllByRecursion (λ y. like x y ≡ false) xs → AllByRecursion (λ y. alike (f x) y ≡ false) (map f xs)
  unlike-map x [] all = tt
  unlike-map x (y ∷ ys) all = (same x y ∙ all.0, unlike-map x ys all.1)

  distinct-map : (xs : List X) → IsDistinct like xs → IsDistinct alike (map f xs)
  unfolding IsDistinct
  distinct-map [] apart = tt
  distinct-map (x ∷ xs) apart = (unlike-map x xs apart.0, distinct-map xs apart.1)

-- ---- sorted, they rise

below : (o back : Ordering) → back ≡ ordering_reverse o → is_eq o ≡ false → is_lt back ≡ false → is_lt o ≡ true
below Less back turned apart up = refl
below Equal back turned apart up = absurd (cc)
below Greater back turned apart up = absurd (cc)

module _ {X : Type 0} (cmp : X → X → Ordering) (total : IsTotalOrder cmp) where
  sorted-rest : (x : X) (xs : List X) → IsSorted cmp (x ∷ xs) → IsSorted cmp xs
  sorted-rest x xs up k d from within =
      let shifted : suc k + 1 ≡ suc (k + 1) = omega arith in
      subst (λ n. is_lt (cmp (get_or (x ∷ xs) n d) (get_or xs k d)) ≡ false) shifted (up (suc k) d (omega arith) (omega arith))

  sorted-rises : (xs : List X) → IsSorted cmp xs → IsDistinct (eq_by_cmp cmp) xs → rises cmp xs ≡ true
  unfolding IsDistinct
  sorted-rises [] up apart = refl
  sorted-rises (x ∷ []) up apart = refl
  sorted-rises (x ∷ y ∷ ys) up apart =
      and_from (is_lt (cmp x y)) (rises_from cmp y ys)
      (below (cmp x y) (cmp y x) (total.antisymm y x) apart.0.0 (up 0 x (omega arith) (omega arith)))
      (sorted-rises (y ∷ ys) (sorted-rest x (y ∷ ys) up) apart.1)

-- ---- samples

sample_total : IsTotalOrder sample_cmp
sample_total = then_total (on_total (λ (s : Sample). s.series) series.total-law) (on_total (λ (s : Sample). s.period) period.total-law)

flips : (a b : Sample) → eq_by_cmp sample_cmp a b ≡ eq_by_cmp sample_cmp b a
flips a b = (eq_by_cmp_equiv sample_total).symm a b

-- samples with keys of their own, sorted by these, are in series order
pub own-ordered : (samples sorted : List Sample) → IsPermutation samples sorted → IsSorted sample_cmp sorted → HaveOwnKeys samples
    → in_series_order sorted ≡ true
own-ordered samples sorted moved up own =
    in_series_order-from_rises sorted (sorted-rises sample_cmp sample_total sorted up
    (IsDistinct-IsPermutation (eq_by_cmp sample_cmp) flips samples sorted moved own))

both_equal : (a b : Ordering) → is_eq (ordering_then a b) ≡ (is_eq a && is_eq b)
both_equal Less b = refl
both_equal Equal b = refl
both_equal Greater b = refl

turned : (a b : Bool) → (a && b) ≡ (b && a)
turned true true = refl
turned true false = refl
turned false true = refl
turned false false = refl

reorder : (e c a u p : Bool) → ((e && (c && (a && u))) && p) ≡ ((e && (c && (a && p))) && u)
reorder false c a u p = refl
reorder true false a u p = refl
reorder true true false u p = refl
reorder true true true u p = turned u p

-- two rows have one place just where their samples have one key
one_place : (a b : Row) → eq_by_cmp sample_cmp (sample_of a) (sample_of b) ≡ same_place a b
one_place a b =
    both_equal (series_cmp (sample_of a).series (sample_of b).series) (period_cmp a.period b.period)
    ∙ ap (λ s. s && is_eq (period_cmp a.period b.period)) (sym (series.matches_eq-law (sample_of a).series (sample_of b).series))
    ∙ ap (λ p. same_series (sample_of a).series (sample_of b).series && p) (sym (period.matches_eq-law a.period b.period))
    ∙ reorder (nat_eq a.element b.element) (nat_eq a.combo b.combo) (nat_eq a.attribute b.attribute) (nat_eq a.order b.order) (same_period a.period b.period)

-- ---- the samples of a cell

pub own-samples : (element : ℕ) (t : Group → Bool) (need : Need) (ranges : List (ℕ × ℕ)) (rows : List Row) → rises row_cmp rows ≡ true → AreApart ranges
    → have_own_places rows ≡ true
    → HaveOwnKeys (map sample_of (gathered (ranged_rows rows need ranges) (filter t (groups_of element rows))))
own-samples element t need ranges rows up apart own =
    let asked = cell_rows element t (is_row_asked need ranges) rows in
    let found = gathered (ranged_rows rows need ranges) (filter t (groups_of element rows)) in
    IsDistinct-IsPermutation (eq_by_cmp sample_cmp) flips (map sample_of asked) (map sample_of found)
    (IsPermutation-map sample_of asked found (asked_rows element t need ranges rows up apart))
    (distinct-map same_place (eq_by_cmp sample_cmp) sample_of one_place asked
    (distinct-filter same_place (is_of_cell element t (is_row_asked need ranges)) rows (differ-distinct same_place rows own)))
