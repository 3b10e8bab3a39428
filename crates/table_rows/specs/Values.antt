-- The value of some samples by an aggregation type.
use Rattle.std.specs.Prelude.{ℕ, ◌*◌, Bool, true, false, nat_eq, if◌then◌else◌, ℤ, pos, int_le, List, [], ◌∷◌, length, map, Option, Some, None, option_map}
use Rattle.dh_base.specs.declared.plain.AggType.{AggType}
use Rattle.dh_base.specs.declared.plain.AggType.TheVariants as kind
use Rattle.dh_base.specs.Fractions.{Fraction, fraction_of, of_micros}
use Rattle.table_rows.specs.declared.sum.Sum.{Sum}
use Rattle.table_rows.specs.Sums.{sum_of_number, sum_over}
use Rattle.table_rows.specs.declared.sample.Sample.{Sample}
use Rattle.table_rows.specs.Samples.{numbered, number_of, weighted, total, lasts, firsts, series_of}

-- a sum of millionths over a count
abbrev pub mean : ℤ → ℕ → Fraction
mean micros count = fraction_of micros (1000000 * count)

-- a value, where there is a sample
abbrev pub if_any : {X : Type 0} → List X → Fraction → Option Fraction
if_any [] value = None
if_any (sample ∷ samples) value = Some value

-- the lesser and the greater of two numbers
abbrev pub lesser : ℤ → ℤ → ℤ
lesser x y = if int_le x y then x else y

abbrev pub greater : ℤ → ℤ → ℤ
greater x y = if int_le x y then y else x

-- the number that a choice between two leaves of some
abbrev pub left_from : (ℤ → ℤ → ℤ) → ℤ → List ℤ → ℤ
left_from choice x [] = x
left_from choice x (y ∷ ys) = left_from choice (choice x y) ys

abbrev pub left_of : (ℤ → ℤ → ℤ) → List ℤ → Option ℤ
left_of choice [] = None
left_of choice (x ∷ xs) = Some (left_from choice x xs)

-- one number more, where it is there
abbrev pub with_choice : (ℤ → ℤ → ℤ) → Option ℤ → Option ℤ → Option ℤ
with_choice choice found None = found
with_choice choice None (Some number) = Some number
with_choice choice (Some found) (Some number) = Some (choice found number)

abbrev pub choice_of : Bool → ℤ → ℤ → ℤ
choice_of false = lesser
choice_of true = greater

abbrev pub least : List ℤ → Option ℤ
least = left_of lesser

abbrev pub greatest : List ℤ → Option ℤ
greatest = left_of greater

-- the value of some samples over so many days: of those that have a number, but for COUNT, which counts all
abbrev pub value_over : AggType → List Sample → List Sample → ℕ → Option Fraction
value_over kind.Sum all samples days = if_any samples (of_micros (total number_of samples))
value_over kind.Average all samples days = if_any samples (mean (total number_of samples) (length samples))
value_over kind.AverageSumOrgUnit all samples days = if_any samples (mean (total weighted samples) days)
value_over kind.Last all samples days = if_any samples (of_micros (total number_of (lasts samples)))
value_over kind.First all samples days = if_any samples (of_micros (total number_of (firsts samples)))
value_over kind.LastAverageOrgUnit all samples days = if_any samples (mean (total number_of (lasts samples)) (length (series_of samples)))
value_over kind.FirstAverageOrgUnit all samples days = if_any samples (mean (total number_of (firsts samples)) (length (series_of samples)))
value_over kind.Count all samples days = if_any all (fraction_of (pos (length all)) 1)
value_over kind.Min all samples days = option_map of_micros (least (map number_of samples))
value_over kind.Max all samples days = option_map of_micros (greatest (map number_of samples))
value_over kind.None all samples days = None

unfoldable pub value_by : AggType → List Sample → ℕ → Option Fraction
value_by kind samples days = value_over kind samples (numbered samples) days

-- ---- the value of a sum

abbrev pub unless_none : ℕ → Fraction → Option Fraction
unless_none count value = if nat_eq count 0 then None else Some value

-- the value of rows by their sum, for the types that need no more
abbrev pub value_of_sum : AggType → Sum → Option Fraction
value_of_sum kind.Sum sum = unless_none sum.plain (of_micros sum.micros)
value_of_sum kind.Average sum = unless_none sum.plain (mean sum.micros sum.plain)
value_of_sum kind.Count sum = unless_none sum.count (fraction_of (pos sum.count) 1)
value_of_sum kind.AverageSumOrgUnit sum = None
value_of_sum kind.Last sum = None
value_of_sum kind.First sum = None
value_of_sum kind.LastAverageOrgUnit sum = None
value_of_sum kind.FirstAverageOrgUnit sum = None
value_of_sum kind.Min sum = None
value_of_sum kind.Max sum = None
value_of_sum kind.None sum = None

-- the sum of samples
abbrev pub sum_of_sample : Sample → Sum
sum_of_sample sample = sum_of_number sample.micros

abbrev pub sum_of_samples : List Sample → Sum
sum_of_samples samples = sum_over sum_of_sample samples
