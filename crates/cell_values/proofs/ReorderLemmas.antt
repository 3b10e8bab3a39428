-- A cell's value doesn't depend on the order in which the samples stand.
use Rattle.std.proofs.Common.{◌≡◌, ℕ, Bool, List, [], ◌∷◌, slice_get, Option, Some, None, refl, arith}
use Rattle.std.specs.Prelude.{IsPermutation, option_and_then}
use Rattle.std.specs.List.{filter}
use Rattle.std.proofs.lemmas.List.Sorted.{IsPermutation-refl, IsPermutation-cons, IsPermutation-trans}
use Rattle.dh_base.specs.Fractions.{Fraction}
use Rattle.dh_periods.specs.declared.name.PeriodName.{PeriodName}
use Rattle.expr_lang.specs.declared.tree.Item.{Item}
use Rattle.expr_lang.specs.declared.tree.Item.TheVariants as item
use Rattle.dh_metadata.specs.declared.held.Records.{Records}
use Rattle.dh_metadata.specs.declared.kind.Kind.TheVariants as kind
use Rattle.dh_metadata.specs.declared.records.Element.{Element}
use Rattle.dh_metadata.specs.Objects.{find_of}
use Rattle.table_rows.specs.declared.sample.Sample.{Sample}
use Rattle.table_rows.specs.Values.{value_by}
use Rattle.table_rows.proofs.OrderFreeLemmas.{value_by-permutation}
use Rattle.table_rows.proofs.ShuffleLemmas.{IsClosed, closed-permutation, closed-filter}
use Rattle.cell_values.specs.Reporting.{rate_of}
use Rattle.cell_values.specs.Seen.{SeenRecords, SameSeen}
use Rattle.cell_values.specs.Cells.{Cell, cell_of, lies_in, samples_of, days_in, aggregate_of}
use Rattle.cell_values.specs.Items.{named_combo, element_value, item_value_of}
use Rattle.cell_values.proofs.RateLemmas.{rate_of-permutation}

closed-reordered : {X : Type 0} → IsClosed {X = X} (λ xs ys. IsPermutation xs ys)
closed-reordered = record {
  unmoved = λ xs. IsPermutation-refl xs;
  beyond = λ x xs ys moved. IsPermutation-cons x xs ys moved;
  turned = λ x y xs. record { moves = (0, 1) ∷ []; below = (omega arith, omega arith, tt); is = refl };
  further = λ xs ys zs a b. IsPermutation-trans xs ys zs a b;
}

-- what a test keeps of a list in another order
pub filter-permutation : {X : Type 0} (t : X → Bool) (xs ys : List X) → IsPermutation xs ys → IsPermutation (filter t xs) (filter t ys)
filter-permutation t xs ys moved =
    closed-permutation (λ us vs. IsPermutation (filter t us) (filter t vs)) (closed-filter t (λ us vs. IsPermutation us vs) closed-reordered) xs ys moved

then_alike : {X Y : Type 0} (f g : X → Option Y) (found : Option X) → ((x : X) → f x ≡ g x) → option_and_then f found ≡ option_and_then g found
then_alike f g None same = refl
then_alike f g (Some x) same = same x

-- the value of a cell over the same samples in another order
pub aggregate_of-permutation : (r : Records) (samples others : List Sample) (cell : Cell) → IsPermutation samples others
    → aggregate_of r samples cell ≡ aggregate_of r others cell
unfolding aggregate_of
aggregate_of-permutation r samples others cell moved =
    then_alike (λ (element : Element). value_by element.aggregation_type (samples_of r samples cell) (days_in cell.periods))
    (λ (element : Element). value_by element.aggregation_type (samples_of r others cell) (days_in cell.periods)) (slice_get r.data_elements cell.element)
    (λ element. value_by-permutation element.aggregation_type (samples_of r samples cell) (samples_of r others cell) (days_in cell.periods)
    (filter-permutation (lies_in r cell) samples others moved))

element_value-permutation : (r : Records) (samples others : List Sample) (element : List ℕ) (combo attribute : Option (List ℕ)) (periods : List PeriodName)
    (units : List ℕ) (alone : Bool)
    → IsPermutation samples others
    → element_value r samples element combo attribute periods units alone ≡ element_value r others element combo attribute periods units alone
element_value-permutation r samples others element combo attribute periods units alone moved =
    let by_attribute : ℕ → Option ℕ → List Sample → Option ℕ → Option Fraction = λ e c list a. aggregate_of r list (cell_of e c a periods units alone) in
    let by_combo : ℕ → List Sample → Option ℕ → Option Fraction = λ e list c. option_and_then (by_attribute e c list) (named_combo r attribute) in
    then_alike (λ e. option_and_then (by_combo e samples) (named_combo r combo)) (λ e. option_and_then (by_combo e others) (named_combo r combo))
    (find_of r kind.DataElement element)
    (λ e. then_alike (by_combo e samples) (by_combo e others) (named_combo r combo)
    (λ c. then_alike (by_attribute e c samples) (by_attribute e c others) (named_combo r attribute)
    (λ a. aggregate_of-permutation r samples others (cell_of e c a periods units alone) moved)))

-- the value of an item where the same is seen
pub item_value_of-same : (r : Records) (one other : SeenRecords) (asked : Item) (periods : List PeriodName) (units : List ℕ) (alone : Bool) → SameSeen one other
    → item_value_of r one asked periods units alone ≡ item_value_of r other asked periods units alone
unfolding item_value_of
item_value_of-same r one other (item.Element element combo attribute) periods units alone same =
    element_value-permutation r one.samples other.samples element combo attribute periods units alone same.samples
item_value_of-same r one other (item.Constant id) periods units alone same = refl
item_value_of-same r one other (item.Group id) periods units alone same = refl
item_value_of-same r one other item.Days periods units alone same = refl
item_value_of-same r one other (item.Rate set which) periods units alone same =
    then_alike (λ n. rate_of r which n periods units one.regs alone) (λ n. rate_of r which n periods units other.regs alone) (find_of r kind.DataSet set)
    (λ n. rate_of-permutation r which n periods units one.regs other.regs alone same.regs)
item_value_of-same r one other (item.StageElement stage element) periods units alone same = refl
item_value_of-same r one other (item.Attribute id) periods units alone same = refl
item_value_of-same r one other item.EventDate periods units alone same = refl
item_value_of-same r one other item.EnrollmentDate periods units alone same = refl
item_value_of-same r one other item.EventCount periods units alone same = refl
item_value_of-same r one other item.EnrollmentCount periods units alone same = refl
item_value_of-same r one other item.EntityCount periods units alone same = refl
