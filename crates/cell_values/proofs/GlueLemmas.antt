-- The samples of a cell over the rows that a user sees are those of groups that pass and rows in ranges.
use Rattle.std.proofs.Common.{◌≡◌, ◌≤◌, ◌∙◌, ℕ, suc, Bool, true, false, cond, ◌&&◌, List, [], ◌∷◌, length, map, Option, Some, None, inl, inr, refl, sym, ap}
use Rattle.std.proofs.Common.{subst, arith}
use Rattle.std.specs.Prelude.{if◌then◌else◌, nat_eq, option_and_then, slice_get, IsPermutation}
use Rattle.std.specs.List.{filter}
use Rattle.std.proofs.lemmas.Bool.{cases_Bool, false≢true, eqb-true, ne_eqb}
use Rattle.std.proofs.lemmas.List.Sorted.{IsPermutation-map, length_permutation}
use Rattle.dh_base.specs.declared.plain.AggType.{AggType}
use Rattle.dh_base.specs.declared.plain.AggType.TheVariants as kind
use Rattle.dh_base.specs.declared.plain.Need.{Need}
use Rattle.dh_base.specs.Fractions.{Fraction}
use Rattle.dh_sharing.specs.Ranges.{AreApart}
use Rattle.dh_sharing.specs.declared.access.Right.TheVariants.{Read}
use Rattle.dh_periods.specs.declared.name.PeriodName.{PeriodName}
use Rattle.dh_metadata.specs.declared.held.Records.{Records}
use Rattle.dh_metadata.specs.declared.records.Element.{Element}
use Rattle.dh_metadata.specs.declared.kind.Kind.TheVariants.{DataElement}
use Rattle.dh_metadata.specs.Approval.{unit_rows}
use Rattle.dh_metadata.specs.Users.{may_of}
use Rattle.table_rows.specs.declared.row.Row.{Row}
use Rattle.table_rows.specs.declared.row.Group.{Group}
use Rattle.table_rows.specs.Cells.{is_of_cell, cell_rows, sum_of_parts, gathered}
use Rattle.table_rows.specs.Groups.{groups_of}
use Rattle.table_rows.specs.Order.{row_cmp}
use Rattle.table_rows.specs.Rows.{group_of, is_of_element, meets}
use Rattle.table_rows.specs.Store.{rises}
use Rattle.table_rows.specs.Sums.{sum_over}
use Rattle.table_rows.proofs.CellLemmas.{filter-same, cell-sum}
use Rattle.table_rows.proofs.GatherLemmas.{cell-gathered}
use Rattle.table_rows.specs.declared.sample.Sample.{Sample}
use Rattle.table_rows.specs.RowSamples.{sample_of}
use Rattle.table_rows.specs.Samples.{numbered, total, weighted}
use Rattle.table_rows.specs.Values.{value_by, mean, if_any, unless_none, sum_of_samples}
use Rattle.table_rows.proofs.CellValueLemmas.{cell-Sum, cell-Average, cell-Count, cell-weighted, sum_of_samples-rows}
use Rattle.table_rows.proofs.OrderFreeLemmas.{value_by-permutation}
use Rattle.table_rows.proofs.TotalLemmas.{sum-plain}
use Rattle.cell_values.specs.Held.{AreSeenOrders}
use Rattle.cell_values.specs.Places.{is_at_some}
use Rattle.cell_values.specs.Seen.{is_viewed, sees_attribute, need_for, is_seen, seen}
use Rattle.cell_values.specs.Cells.{cell_of, is_named, is_in_some, lies_in, samples_of, days_in, aggregate_of}
use Rattle.cell_values.specs.Parts.{value_in, is_group_asked, is_row_asked, parts_of, group_sum, group_weight, ranged_rows, value_of_totals, is_sum_type}
use Rattle.cell_values.proofs.PartLemmas.{all-once, filter_short, groups-ranged}

-- ---- lists

filter_map : {X Y : Type 0} (p : Y → Bool) (f : X → Y) (xs : List X) → filter p (map f xs) ≡ map f (filter (λ x. p (f x)) xs)
filter_map p f [] = refl
filter_map p f (x ∷ xs) = by_test (p (f x)) (filter_map p f xs)
  where
    by_test : (b : Bool) → filter p (map f xs) ≡ map f (filter (λ x. p (f x)) xs)
        → cond b (f x ∷ filter p (map f xs)) (filter p (map f xs)) ≡ map f (cond b (x ∷ filter (λ x. p (f x)) xs) (filter (λ x. p (f x)) xs))
    by_test true is = ap (λ v. f x ∷ v) is
    by_test false is = is

filter_both : {X : Type 0} (p q : X → Bool) (xs : List X) → filter q (filter p xs) ≡ filter (λ x. p x && q x) xs
filter_both p q [] = refl
filter_both p q (x ∷ xs) = by_test (p x) (filter_both p q xs)
  where
    by_test : (b : Bool) → filter q (filter p xs) ≡ filter (λ x. p x && q x) xs
        → filter q (cond b (x ∷ filter p xs) (filter p xs)) ≡ cond (b && q x) (x ∷ filter (λ x. p x && q x) xs) (filter (λ x. p x && q x) xs)
    by_test true is = ap (λ v. cond (q x) (x ∷ v) v) is
    by_test false is = is

and_no : (b : Bool) → (b && false) ≡ false
and_no true = refl
and_no false = refl

-- the tests of a row in the order in which the code makes them
reorder : (v m a n c t p u : Bool) → ((v && (m && (a && n))) && (c && (t && (p && u)))) ≡ ((c && (t && (p && (a && m)))) && (n && (v && u)))
reorder v m a n false t p u = and_no (v && (m && (a && n)))
reorder v m a n true false p u = and_no (v && (m && (a && n)))
reorder v m a n true true false u = and_no (v && (m && (a && n)))
reorder true true true n true true true u = refl
reorder true true false n true true true u = refl
reorder true false true n true true true u = refl
reorder true false false n true true true u = refl
reorder false true true true true true true u = refl
reorder false true true false true true true u = refl
reorder false true false n true true true u = refl
reorder false false true n true true true u = refl
reorder false false false n true true true u = refl

-- ---- one row

-- the row is seen and lies in the cell: it is of the element, its group passes, and so does the row itself
row-asked : (r : Records) (user element : ℕ) (combo attribute : Option ℕ) (periods : List PeriodName) (units : List ℕ) (alone : Bool) (ranges : List (ℕ × ℕ))
    (row : Row)
    → AreSeenOrders r user alone units ranges
    → (is_seen r user row && lies_in r (cell_of element combo attribute periods units alone) (sample_of row))
    ≡ (is_of_element element row && (is_group_asked r user combo attribute periods (group_of row) && is_row_asked (need_for r user element) ranges row))
unfolding is_seen lies_in is_group_asked
row-asked r user element combo attribute periods units alone ranges row are =
    elim (cases_Bool (nat_eq row.element element)) [
      | inl of ↦
          let one : row.element ≡ element = eqb-true row.element element of in
          ap (λ b. whole_row && (b && rest)) of
          ∙ reorder (is_viewed r user row.order) (may_of r user Read DataElement row.element) (sees_attribute r user row.attribute)
          (meets (need_for r user row.element) row.approved)
          (is_named combo row.combo) (is_named attribute row.attribute) (is_in_some periods row.period) (is_at_some (unit_rows r) alone units row.order)
          ∙ ap (λ e. of_group && (meets (need_for r user e) row.approved && (is_viewed r user row.order && is_at_some (unit_rows r) alone units row.order))) one
          ∙ ap (λ b. of_group && (meets (need_for r user element) row.approved && b)) (sym (are.members row.order))
          ∙ ap (λ b. b && (of_group && is_row_asked (need_for r user element) ranges row)) (sym of)
      | inr other ↦
          ap (λ b. whole_row && (b && rest)) other ∙ and_no whole_row
          ∙ ap (λ b. b && (of_group && is_row_asked (need_for r user element) ranges row)) (sym other)
    ]
  where
    whole_row : Bool
    whole_row =
        is_viewed r user row.order && (may_of r user Read DataElement row.element
        && (sees_attribute r user row.attribute && meets (need_for r user row.element) row.approved))

    rest : Bool
    rest = is_named combo row.combo && (is_named attribute row.attribute && (is_in_some periods row.period && is_at_some (unit_rows r) alone units row.order))

    of_group : Bool
    of_group =
        is_named combo row.combo
        && (is_named attribute row.attribute && (is_in_some periods row.period
        && (sees_attribute r user row.attribute && may_of r user Read DataElement row.element)))

-- ---- the samples

pub seen-cell : (r : Records) (user element : ℕ) (combo attribute : Option ℕ) (periods : List PeriodName) (units : List ℕ) (alone : Bool)
    (ranges : List (ℕ × ℕ)) (rows : List Row)
    → AreSeenOrders r user alone units ranges
    → samples_of r (seen r user rows) (cell_of element combo attribute periods units alone)
    ≡ map sample_of (cell_rows element (is_group_asked r user combo attribute periods) (is_row_asked (need_for r user element) ranges) rows)
seen-cell r user element combo attribute periods units alone ranges rows are =
    let cell = cell_of element combo attribute periods units alone in
    filter_map (lies_in r cell) sample_of (filter (is_seen r user) rows)
    ∙ ap (map sample_of) (filter_both (is_seen r user) (λ row. lies_in r cell (sample_of row)) rows
    ∙ filter-same (λ row. is_seen r user row && lies_in r cell (sample_of row))
    (λ row. is_of_element element row && (is_group_asked r user combo attribute periods (group_of row) && is_row_asked (need_for r user element) ranges row))
    rows
    (λ row. row-asked r user element combo attribute periods units alone ranges row are))

-- ---- values

some_or_none : (xs : List Sample) (value : Fraction) → if_any xs value ≡ unless_none (length xs) value
some_or_none [] value = refl
some_or_none (x ∷ xs) value = ap (λ b. if b then None else Some value) (sym (ne_eqb (suc (length xs)) 0 (λ e. absurd (omega arith))))

average_days : (samples : List Sample) (days : ℕ)
    → value_by kind.AverageSumOrgUnit samples days ≡ value_of_totals kind.AverageSumOrgUnit (sum_of_samples samples) (total weighted (numbered samples)) days
unfolding value_by
average_days samples days =
    some_or_none (numbered samples) (mean (total weighted (numbered samples)) days)
    ∙ ap (λ n. unless_none n (mean (total weighted (numbered samples)) days)) (sym (sum-plain samples))

-- the value of a cell by its sums
pub cell-totals : (k : AggType) (element : ℕ) (t : Group → Bool) (need : Need) (ranges : List (ℕ × ℕ)) (rows : List Row) (days : ℕ) → AreApart ranges
    → is_sum_type k ≡ true
    → value_by k (map sample_of (cell_rows element t (is_row_asked need ranges) rows)) days
    ≡ value_of_totals k (sum_over (group_sum rows need ranges) (filter t (groups_of element rows)))
    (total (group_weight rows need ranges) (filter t (groups_of element rows))) days
cell-totals kind.Sum element t need ranges rows days apart is =
    cell-Sum element t (is_row_asked need ranges) (λ g. parts_of need ranges) rows days (all-once need ranges rows apart)
cell-totals kind.Average element t need ranges rows days apart is =
    cell-Average element t (is_row_asked need ranges) (λ g. parts_of need ranges) rows days (all-once need ranges rows apart)
cell-totals kind.Count element t need ranges rows days apart is =
    cell-Count element t (is_row_asked need ranges) (λ g. parts_of need ranges) rows days (all-once need ranges rows apart)
cell-totals kind.AverageSumOrgUnit element t need ranges rows days apart is =
    let samples = map sample_of (cell_rows element t (is_row_asked need ranges) rows) in
    average_days samples days
    ∙ ap (λ s. value_of_totals kind.AverageSumOrgUnit s (total weighted (numbered samples)) days)
    (sum_of_samples-rows (cell_rows element t (is_row_asked need ranges) rows)
    ∙ cell-sum element t (is_row_asked need ranges) (λ g. parts_of need ranges) rows (all-once need ranges rows apart))
    ∙ ap (λ w. value_of_totals kind.AverageSumOrgUnit (sum_of_parts element t (λ g. parts_of need ranges) rows) w days)
    (cell-weighted element t (is_row_asked need ranges) (λ g. parts_of need ranges) rows (all-once need ranges rows apart))
cell-totals kind.Last element t need ranges rows days apart is = absurd (false≢true is)
cell-totals kind.First element t need ranges rows days apart is = absurd (false≢true is)
cell-totals kind.LastAverageOrgUnit element t need ranges rows days apart is = absurd (false≢true is)
cell-totals kind.FirstAverageOrgUnit element t need ranges rows days apart is = absurd (false≢true is)
cell-totals kind.Min element t need ranges rows days apart is = absurd (false≢true is)
cell-totals kind.Max element t need ranges rows days apart is = absurd (false≢true is)
cell-totals kind.None element t need ranges rows days apart is = absurd (false≢true is)

-- ---- the cell

pub asked_rows : (element : ℕ) (t : Group → Bool) (need : Need) (ranges : List (ℕ × ℕ)) (rows : List Row) → rises row_cmp rows ≡ true → AreApart ranges
    → IsPermutation (cell_rows element t (is_row_asked need ranges) rows) (gathered (ranged_rows rows need ranges) (filter t (groups_of element rows)))
asked_rows element t need ranges rows up apart =
    subst (λ xs. IsPermutation xs (gathered (ranged_rows rows need ranges) (filter t (groups_of element rows))))
    (sym (cell-gathered element t (is_row_asked need ranges) rows up))
    (groups-ranged need ranges rows (filter t (groups_of element rows)) apart)

pub gathered-few : (element : ℕ) (t : Group → Bool) (need : Need) (ranges : List (ℕ × ℕ)) (rows : List Row) → rises row_cmp rows ≡ true → AreApart ranges
    → length (gathered (ranged_rows rows need ranges) (filter t (groups_of element rows))) ≤ length rows
gathered-few element t need ranges rows up apart =
    let same =
    length_permutation (cell_rows element t (is_row_asked need ranges) rows) (gathered (ranged_rows rows need ranges) (filter t (groups_of element rows)))
    (asked_rows element t need ranges rows up apart) in
    let short = filter_short (is_of_cell element t (is_row_asked need ranges)) rows in
    omega (arith, same, short)

pub cell-value : (k : AggType) (element : ℕ) (t : Group → Bool) (need : Need) (ranges : List (ℕ × ℕ)) (rows : List Row) (days : ℕ) → rises row_cmp rows ≡ true
    → AreApart ranges
    → value_in rows k (filter t (groups_of element rows)) need ranges days
    ≡ value_by k (map sample_of (cell_rows element t (is_row_asked need ranges) rows)) days
unfolding value_in
cell-value k element t need ranges rows days up apart =
    elim (cases_Bool (is_sum_type k)) [
      | inl is ↦ ap (λ b. cond b by_sums by_rows) is ∙ sym (cell-totals k element t need ranges rows days apart is)
      | inr not ↦
          ap (λ b. cond b by_sums by_rows) not
          ∙ sym (value_by-permutation k (map sample_of (cell_rows element t (is_row_asked need ranges) rows)) (map sample_of found) days
          (IsPermutation-map sample_of (cell_rows element t (is_row_asked need ranges) rows) found (asked_rows element t need ranges rows up apart)))
    ]
  where
    found : List Row
    found = gathered (ranged_rows rows need ranges) (filter t (groups_of element rows))

    by_sums : Option Fraction
    by_sums =
        value_of_totals k (sum_over (group_sum rows need ranges) (filter t (groups_of element rows)))
        (total (group_weight rows need ranges) (filter t (groups_of element rows))) days

    by_rows : Option Fraction
    by_rows = value_by k (map sample_of found) days

pub element-value : (r : Records) (user element : ℕ) (combo attribute : Option ℕ) (periods : List PeriodName) (units : List ℕ) (alone : Bool)
    (ranges : List (ℕ × ℕ)) (rows : List Row) (e : Element)
    → rises row_cmp rows ≡ true → AreApart ranges → AreSeenOrders r user alone units ranges → slice_get r.data_elements element ≡ Some e
    → value_in rows e.aggregation_type (filter (is_group_asked r user combo attribute periods) (groups_of element rows)) (need_for r user element) ranges
    (days_in periods)
    ≡ aggregate_of r (seen r user rows) (cell_of element combo attribute periods units alone)
unfolding aggregate_of
element-value r user element combo attribute periods units alone ranges rows e up apart are there =
    cell-value e.aggregation_type element (is_group_asked r user combo attribute periods) (need_for r user element) ranges rows (days_in periods) up apart
    ∙ ap (λ xs. value_by e.aggregation_type xs (days_in periods)) (sym (seen-cell r user element combo attribute periods units alone ranges rows are))
    ∙ ap (λ o. option_and_then (λ (x : Element). value_by x.aggregation_type
    (samples_of r (seen r user rows) (cell_of element combo attribute periods units alone)) (days_in periods)) o) (sym there)
