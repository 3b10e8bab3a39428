-- Which category combinations have exactly one option combination.
use Rattle.std.specs.Prelude.{◌≡◌, ℕ, ◌<◌, ◌≤◌, true, false, List, [], length, take, count_by, slice_index_or}
use Rattle.dh_categories.specs.Combos.{is_of}
use Rattle.dh_categories.specs.declared.single.Single.{Single}
use Rattle.dh_categories.specs.declared.single.Single.TheVariants.{Absent, At, Several}

abbrev pub one_more : Single → ℕ → Single
one_more Absent place = At place
one_more (At other) place = Several
one_more Several place = Several

-- what is so of a combination among the first option combinations
abbrev pub Tells : List (ℕ × List ℕ) → ℕ → ℕ → Single → Type 0
Tells option_combos upto combo Absent =
    (count_by (is_of combo) (take upto option_combos) ≡ 0)
    × ((k : ℕ) → k < upto → is_of combo (slice_index_or option_combos k (0, [])) ≡ false)
Tells option_combos upto combo (At place) =
    (count_by (is_of combo) (take upto option_combos) ≡ 1) × (place < upto)
    × (is_of combo (slice_index_or option_combos place (0, [])) ≡ true)
    × ((k : ℕ) → k < place → is_of combo (slice_index_or option_combos k (0, [])) ≡ false)
Tells option_combos upto combo Several = 2 ≤ count_by (is_of combo) (take upto option_combos)

pub record AreSingles (option_combos : List (ℕ × List ℕ)) (count upto : ℕ) (singles : List Single) : Type 0 where
  pub same_length : length singles ≡ count
  pub each : (combo : ℕ) → combo < count → Tells option_combos upto combo (slice_index_or singles combo Absent)

-- each option combination names a combination below the number
pub record CombosBelow (count : ℕ) (option_combos : List (ℕ × List ℕ)) : Type 0 where
  pub below : (k : ℕ) → k < length option_combos → (slice_index_or option_combos k (0, [])).0 < count
