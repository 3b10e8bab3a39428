-- The value of samples is the same in every order.
use Rattle.std.proofs.Common.{◌≡◌, ◌∙◌, ℕ, Bool, true, not, ◌&&◌, List, [], ◌∷◌, length, map, ℤ, pos, refl, sym, ap}
use Rattle.std.specs.Prelude.{IsPermutation, option_map, nat_eq}
use Rattle.std.specs.List.{filter, list_any}
use Rattle.std.specs.declared.cmp.Ordering.{Ordering}
use Rattle.std.proofs.lemmas.Bool.{and_parts, eqb-true}
use Rattle.dh_base.specs.declared.plain.AggType.{AggType}
use Rattle.dh_base.specs.declared.plain.AggType.TheVariants as kind
use Rattle.dh_base.specs.Fractions.{Fraction, fraction_of, of_micros}
use Rattle.dh_periods.specs.declared.name.PeriodName.{PeriodName}
use Rattle.table_rows.specs.Order.{period_cmp}
use Rattle.table_rows.specs.declared.sample.Sample.{Sample}
use Rattle.table_rows.specs.declared.sample.Series.{Series}
use Rattle.table_rows.specs.Samples.{numbered, number_of, has_number, weighted, total, outermost, goes_beyond, backwards, lasts, firsts, series_of, same_series}
use Rattle.table_rows.specs.Values.{mean, if_any, lesser, greater, left_of, value_by}
use Rattle.table_rows.proofs.EndLemmas.{filter_same, same_turned}
use Rattle.table_rows.proofs.ShuffleLemmas.{closed-permutation, closed-filter, closed-map, closed-total, closed-length, closed-once, closed-left, closed-any}
use Rattle.table_rows.proofs.ShuffleLemmas.{length_counts, lesser-choice, greater-choice, IsChoice, Tells}
use Rattle.table_rows.specs.Cells.{how_many}
use Rattle.table_rows.specs.Groups.{each_once}

any_alike : (xs ys : List Sample) → length xs ≡ length ys → (value : Fraction) → if_any xs value ≡ if_any ys value
any_alike [] [] e value = refl
any_alike [] (y ∷ ys) e value = absurd (cc)
any_alike (x ∷ xs) [] e value = absurd (cc)
any_alike (x ∷ xs) (y ∷ ys) e value = refl

same_parts : (a b : Series) → a.element ≡ b.element → a.combo ≡ b.combo → a.attribute ≡ b.attribute → a.unit ≡ b.unit → a ≡ b
same_parts a b e c t u =
    let made : a ≡ record { element = b.element; combo = b.combo; attribute = b.attribute; unit = b.unit } = rw (← e, ← c, ← t, ← u) refl in
    made

series_is : (a b : Series) → same_series a b ≡ true → a ≡ b
series_is a b e =
    let x = and_parts (nat_eq a.element b.element) (nat_eq a.combo b.combo && (nat_eq a.attribute b.attribute && nat_eq a.unit b.unit)) e in
    let y = and_parts (nat_eq a.combo b.combo) (nat_eq a.attribute b.attribute && nat_eq a.unit b.unit) x.1 in
    let z = and_parts (nat_eq a.attribute b.attribute) (nat_eq a.unit b.unit) y.1 in
    same_parts a b (eqb-true _ _ x.0) (eqb-true _ _ y.0) (eqb-true _ _ z.0) (eqb-true _ _ z.1)

series_tells : Tells same_series
series_tells = record { is = series_is; turns = same_turned }

-- ---- of samples in another order

numbers-length : (xs ys : List Sample) → IsPermutation xs ys → length (numbered xs) ≡ length (numbered ys)
numbers-length xs ys moved =
    closed-permutation (λ us vs. length (numbered us) ≡ length (numbered vs)) (closed-filter has_number (λ us vs. length us ≡ length vs) closed-length) xs ys
    moved

numbers-total : (f : Sample → ℤ) (xs ys : List Sample) → IsPermutation xs ys → total f (numbered xs) ≡ total f (numbered ys)
numbers-total f xs ys moved =
    closed-permutation (λ us vs. total f (numbered us) ≡ total f (numbered vs)) (closed-filter has_number (λ us vs. total f us ≡ total f vs) (closed-total f))
    xs ys moved

numbers-left : (choice : ℤ → ℤ → ℤ) → IsChoice choice → (xs ys : List Sample) → IsPermutation xs ys
    → left_of choice (map number_of (numbered xs)) ≡ left_of choice (map number_of (numbered ys))
numbers-left choice c xs ys moved =
    closed-permutation (λ us vs. left_of choice (map number_of (numbered us)) ≡ left_of choice (map number_of (numbered vs)))
    (closed-filter has_number (λ us vs. left_of choice (map number_of us) ≡ left_of choice (map number_of vs))
    (closed-map number_of (λ us vs. left_of choice us ≡ left_of choice vs) (closed-left choice c))) xs ys moved

numbers-series : (xs ys : List Sample) → IsPermutation xs ys → length (series_of (numbered xs)) ≡ length (series_of (numbered ys))
numbers-series xs ys moved =
    sym (length_counts (series_of (numbered xs)))
    ∙ closed-permutation (λ us vs. (p : Series → Bool) → how_many p (series_of (numbered us)) ≡ how_many p (series_of (numbered vs)))
    (closed-filter has_number (λ us vs. (p : Series → Bool) → how_many p (series_of us) ≡ how_many p (series_of vs))
    (closed-map (λ (s : Sample). s.series) (λ us vs. (p : Series → Bool) → how_many p (each_once same_series us) ≡ how_many p (each_once same_series vs))
    (closed-once same_series series_tells))) xs ys moved (λ s. true)
    ∙ length_counts (series_of (numbered ys))

-- the same go beyond a sample
any_beyond : (order : PeriodName → PeriodName → Ordering) (xs ys : List Sample) (s : Sample) → IsPermutation xs ys
    → list_any (λ other. goes_beyond order other s) (numbered xs) ≡ list_any (λ other. goes_beyond order other s) (numbered ys)
any_beyond order xs ys s moved =
    closed-permutation (λ us vs. list_any (λ other. goes_beyond order other s) (numbered us) ≡ list_any (λ other. goes_beyond order other s) (numbered vs))
    (closed-filter has_number (λ us vs. list_any (λ other. goes_beyond order other s) us ≡ list_any (λ other. goes_beyond order other s) vs)
    (closed-any (λ other. goes_beyond order other s))) xs ys moved

outermost-total : (order : PeriodName → PeriodName → Ordering) (xs ys : List Sample) → IsPermutation xs ys
    → total number_of (outermost order (numbered xs)) ≡ total number_of (outermost order (numbered ys))
outermost-total order xs ys moved =
    let counts : Sample → Bool = λ s. not (list_any (λ other. goes_beyond order other s) (numbered xs)) in
    closed-permutation (λ us vs. total number_of (filter counts (numbered us)) ≡ total number_of (filter counts (numbered vs)))
    (closed-filter has_number (λ us vs. total number_of (filter counts us) ≡ total number_of (filter counts vs))
    (closed-filter counts (λ us vs. total number_of us ≡ total number_of vs) (closed-total number_of))) xs ys moved
    ∙ ap (total number_of) (filter_same counts (λ s. not (list_any (λ other. goes_beyond order other s) (numbered ys))) (numbered ys) (λ s.
    ap not (any_beyond order xs ys s moved)))

-- ---- the value

two_alike : (xs ys : List Sample) → length xs ≡ length ys → (v w : Fraction) → v ≡ w → if_any xs v ≡ if_any ys w
two_alike xs ys e v w is = any_alike xs ys e v ∙ ap (if_any ys) is

-- the value of samples is that of the same samples in any order
pub value_by-permutation : (k : AggType) (xs ys : List Sample) (days : ℕ) → IsPermutation xs ys → value_by k xs days ≡ value_by k ys days
unfolding value_by
value_by-permutation kind.Sum xs ys days moved =
    two_alike (numbered xs) (numbered ys) (numbers-length xs ys moved) _ _ (ap of_micros (numbers-total number_of xs ys moved))
value_by-permutation kind.Average xs ys days moved =
    two_alike (numbered xs) (numbered ys) (numbers-length xs ys moved) _ _
    (ap (λ m. mean m (length (numbered xs))) (numbers-total number_of xs ys moved) ∙ ap (mean (total number_of (numbered ys))) (numbers-length xs ys moved))
value_by-permutation kind.AverageSumOrgUnit xs ys days moved =
    two_alike (numbered xs) (numbered ys) (numbers-length xs ys moved) _ _ (ap (λ m. mean m days) (numbers-total weighted xs ys moved))
value_by-permutation kind.Last xs ys days moved =
    two_alike (numbered xs) (numbered ys) (numbers-length xs ys moved) _ _ (ap of_micros (outermost-total period_cmp xs ys moved))
value_by-permutation kind.First xs ys days moved =
    two_alike (numbered xs) (numbered ys) (numbers-length xs ys moved) _ _ (ap of_micros (outermost-total backwards xs ys moved))
value_by-permutation kind.LastAverageOrgUnit xs ys days moved =
    two_alike (numbered xs) (numbered ys) (numbers-length xs ys moved) _ _
    (ap (λ m. mean m (length (series_of (numbered xs)))) (outermost-total period_cmp xs ys moved)
    ∙ ap (mean (total number_of (lasts (numbered ys)))) (numbers-series xs ys moved))
value_by-permutation kind.FirstAverageOrgUnit xs ys days moved =
    two_alike (numbered xs) (numbered ys) (numbers-length xs ys moved) _ _
    (ap (λ m. mean m (length (series_of (numbered xs)))) (outermost-total backwards xs ys moved)
    ∙ ap (mean (total number_of (firsts (numbered ys)))) (numbers-series xs ys moved))
value_by-permutation kind.Count xs ys days moved =
    let same = closed-permutation (λ us vs. length us ≡ length vs) closed-length xs ys moved in
    two_alike xs ys same _ _ (ap (λ n. fraction_of (pos n) 1) same)
value_by-permutation kind.Min xs ys days moved = ap (option_map of_micros) (numbers-left lesser lesser-choice xs ys moved)
value_by-permutation kind.Max xs ys days moved = ap (option_map of_micros) (numbers-left greater greater-choice xs ys moved)
value_by-permutation kind.None xs ys days moved = refl
