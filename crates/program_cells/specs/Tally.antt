-- What samples come to, one after the other.
use Rattle.std.specs.Prelude.{◌+◌, ◌==◌, if◌then◌else◌, Some, None, ℕ, ℤ, List, [], ◌∷◌, length, map, Option, option_map, option_and_then, slice_get}
use Rattle.std.specs.List.{filter_map}
use Rattle.dh_base.specs.Fractions.{Fraction, fraction_of, of_micros, div_of}
use Rattle.program_cells.specs.Code.{gathered}
use Rattle.program_cells.specs.Value.{sum_from, some_of, unless_fault, whole}
use Rattle.dh_base.specs.declared.plain.AggType.{AggType}
use Rattle.dh_base.specs.declared.plain.AggType.TheVariants as kind

-- the sample of so many millionths
abbrev pub micro_sample : ℤ → Option (List Fraction)
micro_sample micros = Some (of_micros micros ∷ [])

-- the samples at these places, of a list in which they stand in some way
unfoldable pub taken_at : {T : Type 0} → (T → Option (List Fraction)) → List T → List ℕ → List (Option (List Fraction))
taken_at sample samples places = map sample (filter_map (slice_get samples) places)

-- the sum of a number over this denominator and of samples after it, if none of these is too wide
unfoldable pub summed : ℕ → ℤ → List (Option (List Fraction)) → Option Fraction
summed den sum taken = option_and_then (sum_from (fraction_of sum den)) (gathered taken)

-- how many samples there are with so many before them, if none is too wide
unfoldable pub numbered : ℕ → List (Option (List Fraction)) → Option ℕ
numbered count taken = option_map (λ xs. count + length xs) (gathered taken)

-- the one number of samples, where their sum and their number tell it
abbrev pub by_sum : AggType → Fraction → ℕ → Option (Option (Option Fraction))
by_sum kind.Sum sum count = Some (Some (Some sum))
by_sum kind.Average sum count = Some (some_of (unless_fault (div_of sum (whole count))))
by_sum kind.Count sum count = Some (Some (Some (whole count)))
by_sum _ sum count = None

unfoldable pub tallied : AggType → Fraction → ℕ → Option (Option (Option Fraction))
tallied by sum count = if count == 0 then Some (Some None) else by_sum by sum count
