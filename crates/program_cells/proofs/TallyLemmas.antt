-- What one sample more comes to.
use Rattle.std.proofs.Common.{◌≡◌, ◌∙◌, ℕ, ◌+◌, ◌<◌, ◌≤◌, ℤ, pos, Bool, true, false, List, [], ◌∷◌, ◌++◌, length, map, drop, get_or}
use Rattle.std.proofs.Common.{Option, Some, None, refl, sym, ap, subst, arith}
use Rattle.std.proofs.lemmas.List.{drop_all}
use Rattle.std.proofs.lemmas.Option.{slice_get-get_or}
use Rattle.std.specs.Prelude.{◌==◌, if◌then◌else◌, option_map, option_and_then, slice_get, IfSome}
use Rattle.std.specs.List.{filter, filter_map, cons_option}
use Rattle.std.specs.Option.{option_to_list, unwrap_or}
use Rattle.dh_base.specs.declared.plain.AggType.{AggType}
use Rattle.dh_base.specs.declared.plain.AggType.TheVariants as kind
use Rattle.dh_base.specs.Fractions.{Fraction, fraction_of, add_of, div_of}
use Rattle.program_cells.specs.Code.{gathered}
use Rattle.program_cells.specs.declared.sampled.Samples.{Samples}
use Rattle.program_cells.specs.declared.sampled.Samples.TheVariants as stored
use Rattle.program_cells.specs.Sampled.{samples_in, taken_in}
use Rattle.program_cells.specs.Tally.{micro_sample, taken_at, summed, numbered, by_sum, tallied}
use Rattle.program_cells.specs.Value.{unless_fault, sum_from, sum_of, some_of, whole, value_by, aggregated}
use Rattle.program_cells.specs.Places.{places_from}
use Rattle.program_cells.proofs.LoopLemmas.{rest_at}
use Rattle.program_cells.proofs.PlaceLemmas.{items-are}

-- a number more
pub summed_number : (den : ℕ) (sum next : ℤ) (x : Fraction) (rest : List (Option (List Fraction)))
    → unless_fault (add_of (fraction_of sum den) x) ≡ Some (fraction_of next den) → summed den sum (Some (x ∷ []) ∷ rest) ≡ summed den next rest
unfolding summed
summed_number den sum next x rest is = by (gathered rest)
  where
    by : (more : Option (List Fraction)) → option_and_then (sum_from (fraction_of sum den)) (option_map (λ xs. (x ∷ []) ++ xs) more)
        ≡ option_and_then (sum_from (fraction_of next den)) more
    by None = refl
    by (Some xs) = ap (option_and_then (λ n. sum_from n xs)) is

pub numbered_number : (count next : ℕ) (x : Fraction) (rest : List (Option (List Fraction))) → next ≡ count + 1
    → numbered count (Some (x ∷ []) ∷ rest) ≡ numbered next rest
unfolding numbered
numbered_number count next x rest is = by (gathered rest)
  where
    by : (more : Option (List Fraction)) → option_map (λ xs. count + length xs) (option_map (λ xs. (x ∷ []) ++ xs) more)
        ≡ option_map (λ xs. next + length xs) more
    by None = refl
    by (Some xs) =
        let many : count + length (x ∷ xs) ≡ next + length xs = omega (arith, is) in
        ap Some many

-- an event that gives none
pub summed_none : (den : ℕ) (sum : ℤ) (rest : List (Option (List Fraction))) → summed den sum (Some [] ∷ rest) ≡ summed den sum rest
unfolding summed
summed_none den sum rest = by (gathered rest)
  where
    by : (more : Option (List Fraction)) → option_and_then (sum_from (fraction_of sum den)) (option_map (λ xs. [] ++ xs) more)
        ≡ option_and_then (sum_from (fraction_of sum den)) more
    by None = refl
    by (Some xs) = refl

pub numbered_none : (count : ℕ) (rest : List (Option (List Fraction))) → numbered count (Some [] ∷ rest) ≡ numbered count rest
unfolding numbered
numbered_none count rest = by (gathered rest)
  where
    by : (more : Option (List Fraction)) → option_map (λ xs. count + length xs) (option_map (λ xs. [] ++ xs) more)
        ≡ option_map (λ xs. count + length xs) more
    by None = refl
    by (Some xs) = refl

-- the sample at a place, and those at the places after it
pub taken_more : {T : Type 0} (sample : T → Option (List Fraction)) (samples : List T) (place : ℕ) (x : T) (rest : List ℕ) → place < length samples
    → x ≡ get_or samples place x → taken_at sample samples (place ∷ rest) ≡ sample x ∷ taken_at sample samples rest
unfolding taken_at
taken_more sample samples place x rest within at =
    ap (λ o. map sample (cons_option o (filter_map (slice_get samples) rest))) (slice_get-get_or samples place x within ∙ ap Some (sym at))

pub taken_none : {T : Type 0} (sample : T → Option (List Fraction)) (samples : List T) → taken_at sample samples [] ≡ []
unfolding taken_at
taken_none sample samples = refl

-- what is left of the places
pub left_at : {R : Type 0} (f g : List ℕ → R) (places : List ℕ) (i place : ℕ) (all : R) → i < length places → place ≡ get_or places i place
    → all ≡ f (drop i places) → f (place ∷ drop (i + 1) places) ≡ g (drop (i + 1) places) → all ≡ g (drop (i + 1) places)
left_at f g places i place all within at so_far is = so_far ∙ ap f (rest_at places i place within at) ∙ is

-- where none is left
pub summed_end : {T : Type 0} (sample : T → Option (List Fraction)) (samples : List T) (places : List ℕ) (i den : ℕ) (sum : ℤ)
    (all : Option Fraction) → length places ≤ i
    → all ≡ summed den sum (taken_at sample samples (drop i places)) → all ≡ Some (fraction_of sum den)
unfolding summed taken_at
summed_end sample samples places i den sum all past so_far =
    so_far ∙ ap (λ ps. summed den sum (taken_at sample samples ps)) (drop_all i places past)

pub numbered_end : {T : Type 0} (sample : T → Option (List Fraction)) (samples : List T) (places : List ℕ) (i count : ℕ) (all : Option ℕ)
    → length places ≤ i → all ≡ numbered count (taken_at sample samples (drop i places)) → all ≡ Some count
unfolding numbered taken_at
numbered_end sample samples places i count all past so_far =
    let same : count + 0 ≡ count = omega arith in
    so_far ∙ ap (λ ps. numbered count (taken_at sample samples ps)) (drop_all i places past) ∙ ap Some same

-- the value by the sum and the number
pub tallied_is : (by : AggType) (taken : List (Option (List Fraction))) (sum : Fraction) (count : ℕ) (value : Option (Option (Option Fraction)))
    → summed 1 (pos 0) taken ≡ Some sum → numbered 0 taken ≡ Some count → value ≡ tallied by sum count
    → IfSome value (λ value. option_and_then (aggregated by) (gathered taken) ≡ value)
unfolding summed numbered tallied aggregated
tallied_is by taken sum count value sum_is count_is is =
    subst (λ told. IfSome told (λ value. option_and_then (aggregated by) (gathered taken) ≡ value)) (sym is) (of (gathered taken) sum_is count_is)
  where
    kinds : (by : AggType) (xs : List Fraction) → sum_of xs ≡ Some sum → length xs ≡ count
        → IfSome (by_sum by sum count) (λ value. value_by by xs ≡ value)
    kinds kind.Sum xs sums many = ap some_of sums
    kinds kind.Average xs sums many =
        ap (λ s. some_of (option_and_then (λ sum. unless_fault (div_of sum (whole (length xs)))) s)) sums
        ∙ ap (λ n. some_of (unless_fault (div_of sum (whole n)))) many
    kinds kind.Count xs sums many = ap (λ n. Some (Some (whole n))) many
    kinds _ xs sums many = tt

    by_count : (xs : List Fraction) (none : Bool) → (length xs == 0) ≡ none → (count == 0) ≡ none → sum_of xs ≡ Some sum → length xs ≡ count
        → IfSome (if none then Some (Some None) else by_sum by sum count) (λ value. (if none then Some None else value_by by xs) ≡ value)
    by_count xs true one other sums many = refl
    by_count xs false one other sums many = kinds by xs sums many

    of : (found : Option (List Fraction)) → option_and_then (sum_from (fraction_of (pos 0) 1)) found ≡ Some sum
        → option_map (λ xs. 0 + length xs) found ≡ Some count
        → IfSome (tallied by sum count) (λ value. option_and_then (aggregated by) found ≡ value)
    of None sums counts = absurd (cc)
    of (Some xs) sums counts =
        let after : 0 + length xs ≡ count = ap (λ o. unwrap_or o 0) counts in
        let many : length xs ≡ count = omega (arith, after) in
        let same : (length xs == 0) ≡ (count == 0) = ap (λ n. n == 0) many in
        subst (λ b. IfSome (if (count == 0) then Some (Some None) else by_sum by sum count) (λ value. (if b then Some None else value_by by xs) ≡ value))
        (sym same) (by_count xs (count == 0) same refl sums many)

-- the samples at places, however they are written
pub taken_are : {T : Type 0} (sample : T → Option (List Fraction)) (samples : List T) (places : List ℕ)
    → map sample (filter_map (slice_get samples) places) ≡ taken_at sample samples places
unfolding taken_at
taken_are sample samples places = refl

-- the samples of the members that pass
pub taken_within : {X T : Type 0} (of : X → Option (List Fraction)) (test : X → Bool) (xs : List X) (sample : T → Option (List Fraction))
    (samples : List T) (places : List ℕ) → map sample samples ≡ map of xs → places ≡ places_from 0 test xs
    → taken_at sample samples places ≡ map of (filter test xs)
unfolding taken_at
taken_within of test xs sample samples places are is =
    items-are of sample test xs samples (filter_map (slice_get samples) places) are (ap (filter_map (slice_get samples)) is)

-- the same of samples as they are stored
pub taken-stored : {X : Type 0} (of : X → Option (List Fraction)) (test : X → Bool) (xs : List X) (samples : Samples) (places : List ℕ)
    → samples_in samples ≡ map of xs → places ≡ places_from 0 test xs → taken_in samples places ≡ map of (filter test xs)
taken-stored of test xs (stored.Micros list) places are is = taken_within of test xs micro_sample list.items places are is
taken-stored of test xs (stored.Any list) places are is = taken_within of test xs (option_map option_to_list) list.items places are is
