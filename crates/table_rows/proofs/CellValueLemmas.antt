-- The value of a cell from the sums that a store gives.
use Rattle.std.proofs.Common.{◌≡◌, ◌∙◌, ℕ, Bool, true, cond, ◌&&◌, List, [], ◌∷◌, map, ℤ, pos, ◌+ℤ◌, ◌*ℤ◌, Option, Some, None, is_some, refl, sym, ap}
use Rattle.std.specs.Prelude.{All}
use Rattle.std.specs.List.{filter, AllByRecursion}
use Rattle.std.proofs.Math.IntN.{+ℤ_idl, zero-*ℤ}
use Rattle.std.proofs.lemmas.Bool.{and_parts}
use Rattle.dh_base.proofs.FractionLemmas.{plus_times}
use Rattle.dh_base.specs.declared.plain.AggType.TheVariants as kind
use Rattle.table_rows.specs.declared.row.Row.{Row}
use Rattle.table_rows.specs.declared.row.Group.{Group}
use Rattle.table_rows.specs.declared.sum.Sum.{Sum}
use Rattle.table_rows.specs.Cells.{times, how_many, Part, is_in_part, cell_rows, part_sum, sum_of_parts}
use Rattle.table_rows.specs.Groups.{groups_of}
use Rattle.table_rows.specs.Rows.{group_of, is_in_group, is_wanted, wanted_rows, meets, in_range}
use Rattle.table_rows.specs.Sums.{sum_with, joined, sum_over, sum_of_row, sum_of_rows, sum_of_number}
use Rattle.table_rows.proofs.CellLemmas.{cell-parts, cell-sum}
use Rattle.table_rows.proofs.OrderLemmas.{same_group-true}
use Rattle.table_rows.specs.declared.sample.Sample.{Sample}
use Rattle.table_rows.specs.RowSamples.{sample_of, weighted_parts}
use Rattle.table_rows.specs.Samples.{days_of, number_in, numbered, weighted, total}
use Rattle.table_rows.specs.Values.{sum_of_samples, value_by, value_of_sum}
use Rattle.table_rows.proofs.EndLemmas.{every_kept, every_same}
use Rattle.table_rows.proofs.SumValueLemmas.{value_by-Sum, value_by-Average, value_by-Count}

-- ---- SUM, AVERAGE and COUNT

sums_of_rows : (rows : List Row) → sum_of_samples (map sample_of rows) ≡ sum_over sum_of_row rows
sums_of_rows [] = refl
sums_of_rows (r ∷ rows) = ap (joined (sum_of_row r)) (sums_of_rows rows)

pub sum_of_samples-rows : (rows : List Row) → sum_of_samples (map sample_of rows) ≡ sum_of_rows rows
unfolding sum_of_rows
sum_of_samples-rows rows = sums_of_rows rows

-- where each row that passes lies in just one part of its group, a cell's value is that of the sum of its parts
pub cell-Sum : (element : ℕ) (of_group : Group → Bool) (of_row : Row → Bool) (parts : Group → List Part) (rows : List Row) (days : ℕ)
    → All (λ r. times (of_row r) ≡ how_many (is_in_part r) (parts (group_of r))) rows
    → value_by kind.Sum (map sample_of (cell_rows element of_group of_row rows)) days ≡ value_of_sum kind.Sum (sum_of_parts element of_group parts rows)
cell-Sum element of_group of_row parts rows days all =
    value_by-Sum (map sample_of (cell_rows element of_group of_row rows)) days
    ∙ ap (value_of_sum kind.Sum) (sum_of_samples-rows (cell_rows element of_group of_row rows) ∙ cell-sum element of_group of_row parts rows all)

pub cell-Average : (element : ℕ) (of_group : Group → Bool) (of_row : Row → Bool) (parts : Group → List Part) (rows : List Row) (days : ℕ)
    → All (λ r. times (of_row r) ≡ how_many (is_in_part r) (parts (group_of r))) rows
    → value_by kind.Average (map sample_of (cell_rows element of_group of_row rows)) days ≡ value_of_sum kind.Average (sum_of_parts element of_group parts rows)
cell-Average element of_group of_row parts rows days all =
    value_by-Average (map sample_of (cell_rows element of_group of_row rows)) days
    ∙ ap (value_of_sum kind.Average) (sum_of_samples-rows (cell_rows element of_group of_row rows) ∙ cell-sum element of_group of_row parts rows all)

pub cell-Count : (element : ℕ) (of_group : Group → Bool) (of_row : Row → Bool) (parts : Group → List Part) (rows : List Row) (days : ℕ)
    → All (λ r. times (of_row r) ≡ how_many (is_in_part r) (parts (group_of r))) rows
    → value_by kind.Count (map sample_of (cell_rows element of_group of_row rows)) days ≡ value_of_sum kind.Count (sum_of_parts element of_group parts rows)
cell-Count element of_group of_row parts rows days all =
    value_by-Count (map sample_of (cell_rows element of_group of_row rows)) days
    ∙ ap (value_of_sum kind.Count) (sum_of_samples-rows (cell_rows element of_group of_row rows) ∙ cell-sum element of_group of_row parts rows all)

-- ---- AVERAGE_SUM_ORG_UNIT

weigh : Row → Sum
weigh r = sum_with (number_in r.micros *ℤ pos (days_of r.period)) 0 0

weigh-micros : (rows : List Row) → (sum_over weigh rows).micros ≡ total weighted (numbered (map sample_of rows))
unfolding weigh
weigh-micros [] = refl
weigh-micros (r ∷ rows) = ap (λ t. number_in r.micros *ℤ pos (days_of r.period) +ℤ t) (weigh-micros rows) ∙ by_number r.micros (sample_of r) refl
  where
    by_number : (micros : Option ℤ) (s : Sample) → s.micros ≡ micros
        → number_in micros *ℤ pos (days_of s.period) +ℤ total weighted (numbered (map sample_of rows))
        ≡ total weighted (cond (is_some micros) (s ∷ numbered (map sample_of rows)) (numbered (map sample_of rows)))
    by_number None s is =
        ap (λ t. t +ℤ total weighted (numbered (map sample_of rows))) (zero-*ℤ (pos (days_of s.period)))
        ∙ +ℤ_idl (total weighted (numbered (map sample_of rows)))
    by_number (Some micros) s is = ap (λ m. number_in m *ℤ pos (days_of s.period) +ℤ total weighted (numbered (map sample_of rows))) (sym is)

-- rows of one number of days
same_days : (days : ℕ) (rows : List Row) → AllByRecursion (λ (r : Row). days_of r.period ≡ days) rows
    → (sum_over weigh rows).micros ≡ (sum_over sum_of_row rows).micros *ℤ pos days
unfolding weigh
same_days days [] all = sym (zero-*ℤ (pos days))
same_days days (r ∷ rows) all =
    ap (λ t. number_in r.micros *ℤ pos (days_of r.period) +ℤ t) (same_days days rows all.1)
    ∙ ap (λ n. number_in r.micros *ℤ pos n +ℤ ((sum_over sum_of_row rows).micros *ℤ pos days)) all.0
    ∙ ap (λ m. m *ℤ pos days +ℤ ((sum_over sum_of_row rows).micros *ℤ pos days)) (micros_is r.micros)
    ∙ sym (plus_times (sum_of_row r).micros (sum_over sum_of_row rows).micros days)
  where
    micros_is : (micros : Option ℤ) → number_in micros ≡ (sum_of_number micros).micros
    micros_is None = refl
    micros_is (Some micros) = refl

wanted_days : (g : Group) (part : Part) (rows : List Row)
    → AllByRecursion (λ (r : Row). days_of r.period ≡ days_of g.period) (wanted_rows g part.need part.from part.to rows)
wanted_days g part rows =
    every_same (λ r. is_wanted g part.need part.from part.to r ≡ true) (λ (r : Row). days_of r.period ≡ days_of g.period)
    (wanted_rows g part.need part.from part.to rows)
    (λ r e.
    let in_group : is_in_group g r ≡ true = (and_parts (is_in_group g r) (meets part.need r.approved && in_range part.from part.to r) e).0 in
    ap (λ (h : Group). days_of h.period) (same_group-true (group_of r) g in_group))
    (every_kept (is_wanted g part.need part.from part.to) rows)

part_days : (g : Group) (part : Part) (rows : List Row)
    → (sum_over weigh (wanted_rows g part.need part.from part.to rows)).micros ≡ (part_sum rows g part).micros *ℤ pos (days_of g.period)
unfolding sum_of_rows
part_days g part rows = same_days (days_of g.period) (wanted_rows g part.need part.from part.to rows) (wanted_days g part rows)

parts_days : (g : Group) (parts : List Part) (rows : List Row)
    → (sum_over (λ (part : Part). sum_over weigh (wanted_rows g part.need part.from part.to rows)) parts).micros
    ≡ (sum_over (part_sum rows g) parts).micros *ℤ pos (days_of g.period)
parts_days g [] rows = sym (zero-*ℤ (pos (days_of g.period)))
parts_days g (part ∷ parts) rows =
    ap (λ t. t +ℤ (sum_over (λ (other : Part). sum_over weigh (wanted_rows g other.need other.from other.to rows)) parts).micros) (part_days g part rows)
    ∙ ap (λ t. (part_sum rows g part).micros *ℤ pos (days_of g.period) +ℤ t) (parts_days g parts rows)
    ∙ sym (plus_times (part_sum rows g part).micros (sum_over (part_sum rows g) parts).micros (days_of g.period))

groups_days : (groups : List Group) (parts : Group → List Part) (rows : List Row)
    → (sum_over (λ g. sum_over (λ (part : Part). sum_over weigh (wanted_rows g part.need part.from part.to rows)) (parts g)) groups).micros
    ≡ total (λ (g : Group). (sum_over (part_sum rows g) (parts g)).micros *ℤ pos (days_of g.period)) groups
groups_days [] parts rows = refl
groups_days (g ∷ groups) parts rows =
    ap (λ t. t +ℤ (sum_over (λ g. sum_over (λ (part : Part). sum_over weigh (wanted_rows g part.need part.from part.to rows)) (parts g)) groups).micros)
    (parts_days g (parts g) rows)
    ∙ ap (λ t. (sum_over (part_sum rows g) (parts g)).micros *ℤ pos (days_of g.period) +ℤ t) (groups_days groups parts rows)

-- a cell's sum of numbers times days, from the sums of its parts
pub cell-weighted : (element : ℕ) (of_group : Group → Bool) (of_row : Row → Bool) (parts : Group → List Part) (rows : List Row)
    → All (λ r. times (of_row r) ≡ how_many (is_in_part r) (parts (group_of r))) rows
    → total weighted (numbered (map sample_of (cell_rows element of_group of_row rows))) ≡ weighted_parts element of_group parts rows
cell-weighted element of_group of_row parts rows all =
    sym (weigh-micros (cell_rows element of_group of_row rows))
    ∙ ap (λ (s : Sum). s.micros) (cell-parts weigh element of_group of_row parts rows all)
    ∙ groups_days (filter of_group (groups_of element rows)) parts rows
