-- Sums of millionths.
use Rattle.std.proofs.Common.{◌≡◌, ◌∙◌, ℕ, ◌+◌, ◌<◌, ◌≤◌, ◌^◌, ◌*◌, ◌/◌, true, ℤ, pos, List, [], ◌∷◌, ◌++◌, map}
use Rattle.std.proofs.Common.{◌+ℤ◌, ◌*ℤ◌, negsuc, unsigned_abs, length, drop, get_or, Option, Some, None, FitsSigned, w64, refl, sym, ap, arith}
use Rattle.std.proofs.Common.{div-le_self, mul-le-mul}
use Rattle.std.proofs.lemmas.List.{get_or_default}
use Rattle.std.specs.Prelude.{option_and_then, option_map, slice_get, IfSome}
use Rattle.std.specs.List.{filter_map}
use Rattle.std.specs.Option.{unwrap_or}
use Rattle.dh_base.specs.declared.plain.AggType.{AggType}
use Rattle.expr_eval.specs.declared.indicator.PiItem.{PiItem}
use Rattle.expr_eval.specs.declared.indicator.PiItem.TheVariants as asked
use Rattle.expr_eval.specs.Meaning.{zero_fraction}
use Rattle.table_rows.specs.declared.event.EventRow.{EventRow}
use Rattle.std.proofs.lemmas.Bool.{and_from}
use Rattle.std.proofs.lemmas.Bool.Decides.{nat_tests}
use Rattle.std.proofs.lemmas.Int.{ints}
use Rattle.dh_base.specs.Fractions.{Fraction, fraction_of, of_micros, gcd, over_common, fits, fits_size, can_compare, can_add, add_of, sum_of, or_wide}
use Rattle.dh_base.proofs.FractionLemmas.{fraction_of-num_size, fraction_of-den_size, abs_times}
use Rattle.dh_base.proofs.MillionthLemmas.{sum_of-micros}
use Rattle.program_cells.specs.Code.{gathered}
use Rattle.program_cells.specs.Items.{day_number, item_in}
use Rattle.program_cells.specs.Sampled.{item_sample}
use Rattle.program_cells.specs.Tally.{micro_sample, taken_at, summed, numbered}
use Rattle.program_cells.specs.Value.{unless_fault, sum_from, aggregated}
use Rattle.program_cells.proofs.SumLemmas.{micros-whole}
use Rattle.program_cells.proofs.TallyLemmas.{summed_number, numbered_number, taken_more, taken_are, numbered_end}

-- ---- numbers by their millionths

pub day_micros : (day micros : ℤ) → micros ≡ day *ℤ pos 1000000 → day_number day ≡ of_micros micros
day_micros day micros is = micros-whole day micros is

pub zero_micros : fraction_of (pos 0) 1 ≡ of_micros (pos 0)
zero_micros = micros-whole (pos 0) (pos 0) refl

-- ---- a number more

-- what is below one size times what is below another
below : (a b : ℕ) → a < 2 ^ 100 → b ≤ 1000000 → a * b < 2 ^ 121
below a b small few =
    let most : a ≤ 2 ^ 100 = omega (arith, small) in
    let bound : a * b ≤ 2 ^ 100 * 1000000 = mul-le-mul most few in
    omega (arith, bound)

over : (z : ℤ) (den g : ℕ) → unsigned_abs z < 2 ^ 100 → den ≤ 1000000 → unsigned_abs (over_common z den g) < 2 ^ 121
over z den g small few =
    let less : den / g ≤ 1000000 = omega (arith, div-le_self den g, few) in
    let bound : unsigned_abs z * (den / g) < 2 ^ 121 = below (unsigned_abs z) (den / g) small less in
    omega (arith, abs_times z (den / g), bound)

common : (x y g : ℕ) → x ≤ 1000000 → y ≤ 1000000 → x / g * y < 2 ^ 121
common x y g one other =
    let less : x / g < 2 ^ 100 = omega (arith, div-le_self x g, one) in
    below (x / g) y less other

both : (a b : ℤ) → unsigned_abs a < 2 ^ 121 → unsigned_abs b < 2 ^ 121 → unsigned_abs (a +ℤ b) < 2 ^ 127
both a b one other = omega (arith, ints)

size-fits : (n : ℕ) → n < 2 ^ 127 → fits_size n ≡ true
size-fits n small = grind (arith, nat_tests)

can-add : (x y : Fraction) → unsigned_abs x.num < 2 ^ 100 → unsigned_abs y.num < 2 ^ 100 → x.den ≤ 1000000 → y.den ≤ 1000000 → can_add x y ≡ true
unfolding can_add can_compare
can-add x y one other few many =
    let g = gcd x.den y.den in
    let left : unsigned_abs (over_common x.num y.den g) < 2 ^ 121 = over x.num y.den g one many in
    let right : unsigned_abs (over_common y.num x.den g) < 2 ^ 121 = over y.num x.den g other few in
    let den : x.den / g * y.den < 2 ^ 121 = common x.den y.den g few many in
    and_from _ _
    (and_from _ _
    (and_from _ _ (size-fits (unsigned_abs (over_common x.num y.den g)) (omega (arith, left)))
    (size-fits (unsigned_abs (over_common y.num x.den g)) (omega (arith, right))))
    (size-fits (unsigned_abs (over_common x.num y.den g +ℤ over_common y.num x.den g))
    (both (over_common x.num y.den g) (over_common y.num x.den g) left right)))
    (size-fits (x.den / g * y.den) (omega (arith, den)))

pub micros-added : (sum more : ℤ) → unsigned_abs sum < 2 ^ 100 → unsigned_abs more < 2 ^ 100
    → unless_fault (add_of (of_micros sum) (of_micros more)) ≡ Some (of_micros (sum +ℤ more))
micros-added sum more one other =
    let can : can_add (of_micros sum) (of_micros more) ≡ true =
    can-add (of_micros sum) (of_micros more) (omega (arith, one, fraction_of-num_size sum 1000000)) (omega (arith, other, fraction_of-num_size more 1000000))
    (fraction_of-den_size sum 1000000) (fraction_of-den_size more 1000000) in
    ap (λ b. unless_fault (or_wide b (sum_of (of_micros sum) (of_micros more)))) can ∙ ap Some (sum_of-micros sum more)

-- the sum of none, over one and over a million
pub summed_zero : (taken : List (Option (List Fraction))) → summed 1 (pos 0) taken ≡ summed 1000000 (pos 0) taken
unfolding summed
summed_zero taken = ap (λ zero. option_and_then (sum_from zero) (gathered taken)) zero_micros

-- all samples, in one list
pub micros-gathered : (list : List ℤ) → gathered (map micro_sample list) ≡ Some (map of_micros list)
micros-gathered [] = refl
micros-gathered (micros ∷ list) = ap (λ rest. option_map (λ more. (of_micros micros ∷ []) ++ more) rest) (micros-gathered list)

-- ---- items

-- the millionths of a day that is the value
pub day_valued : (value : Option Fraction) (day micros : ℤ) → value ≡ Some (day_number day) → micros ≡ day *ℤ pos 1000000
    → unwrap_or value zero_fraction ≡ of_micros micros
day_valued value day micros is at = ap (λ o. unwrap_or o zero_fraction) is ∙ day_micros day micros at

-- no value counts as 0
pub none_valued : (value : Option Fraction) → value ≡ None → unwrap_or value zero_fraction ≡ of_micros (pos 0)
none_valued value is = ap (λ o. unwrap_or o zero_fraction) is ∙ zero_micros

pub event-day : (item : PiItem) (event : EventRow) (micros : ℤ) → item ≡ asked.EventDate → micros ≡ event.day *ℤ pos 1000000
    → micro_sample micros ≡ item_sample item event
unfolding item_in
event-day item event micros is at = sym (ap (λ it. item_sample it event) is ∙ ap (λ x. Some (x ∷ [])) (day_micros event.day micros at))

pub nothing-held : (item : PiItem) (event : EventRow) → item ≡ asked.Nothing → micro_sample (pos 0) ≡ item_sample item event
unfolding item_in
nothing-held item event is = sym (ap (λ it. item_sample it event) is ∙ ap (λ x. Some (x ∷ [])) zero_micros)

-- ---- places

-- a number of 64 bits is small
pub small : (z : ℤ) → FitsSigned w64 z → unsigned_abs z < 2 ^ 100
small (pos n) fits = let less : n < 2 ^ 63 = fits.sfits in omega (arith, less)
small (negsuc n) fits = let less : n < 2 ^ 63 = fits.sfits in omega (arith, less)

-- a number at a place, and those at the places after it
pub place-summed : {S : Type 0} (number : S → ℤ) (sum : ℤ) (list : List ℤ) (place : ℕ) (micros : ℤ) (rest : List ℕ) (result : Option S)
    → place < length list → micros ≡ get_or list place (pos 0)
    → IfSome result (λ next. unless_fault (add_of (of_micros sum) (of_micros micros)) ≡ Some (of_micros (number next)))
    → IfSome result (λ next. summed 1000000 sum (taken_at micro_sample list (place ∷ rest)) ≡ summed 1000000 (number next) (taken_at micro_sample list rest))
place-summed number sum list place micros rest None within at is = tt
place-summed number sum list place micros rest (Some next) within at is =
    ap (summed 1000000 sum) (taken_more micro_sample list place micros rest within (at ∙ get_or_default list place (pos 0) micros within))
    ∙ summed_number 1000000 sum (number next) (of_micros micros) (taken_at micro_sample list rest) is

pub place-numbered : {S : Type 0} (count : ℕ) (list : List ℤ) (place : ℕ) (rest : List ℕ) (result : Option S) → place < length list
    → IfSome result (λ _. numbered count (taken_at micro_sample list (place ∷ rest)) ≡ numbered (count + 1) (taken_at micro_sample list rest))
place-numbered count list place rest None within = tt
place-numbered count list place rest (Some next) within =
    let micros = get_or list place (pos 0) in
    ap (numbered count) (taken_more micro_sample list place micros rest within (get_or_default list place (pos 0) micros within))
    ∙ numbered_number count (count + 1) (of_micros micros) (taken_at micro_sample list rest) refl

-- the number of those at all places
pub numbered-all : (list : List ℤ) (places : List ℕ) (i : ℕ) (all : Option ℕ) → i ≡ length places
    → all ≡ numbered i (taken_at micro_sample list (drop i places)) → all ≡ Some (length places)
numbered-all list places i all many so_far =
    numbered_end micro_sample list places i i all (omega (arith, many)) so_far ∙ ap Some many

-- the value of a list, from the numbers in it
pub listed-value : (by : AggType) (list : List ℤ) (places : List ℕ) (taken : List ℤ) (found : List Fraction)
    → taken ≡ filter_map (slice_get list) places → found ≡ map (λ each. of_micros each) taken
    → aggregated by found ≡ option_and_then (aggregated by) (gathered (taken_at micro_sample list places))
listed-value by list places taken found is are =
    ap (aggregated by) are
    ∙ sym (ap (option_and_then (aggregated by)) (micros-gathered taken))
    ∙ ap (λ ms. option_and_then (aggregated by) (gathered (map micro_sample ms))) is
    ∙ ap (λ samples. option_and_then (aggregated by) (gathered samples)) (taken_are micro_sample list places)
