-- Two lists in one order, of which the second is taken in from its end.
use Rattle.std.specs.Prelude.{◌≡◌, false, List, [], ◌∷◌, ◌++◌, reverse}
use Rattle.std.specs.List.{AllByRecursion}
use Rattle.std.specs.List.Sorted.{IsStrictlySortedBy}
use Rattle.std.specs.Ordering.{is_lt}
use Rattle.std.specs.declared.cmp.Ordering.{Ordering}
use Rattle.std.specs.declared.cmp.Ordering.TheVariants.{Less}
use Rattle.table_sums.specs.Ascending.{ascending}

-- what stands after x moved from the end of one list to the end of another, the last first
pub record TakesAbove {X : Type 0} (cmp : X → X → Ordering) (x : X) (old new back back' : List X) : Type 0 where
  pub order : IsStrictlySortedBy cmp new
  pub below : AllByRecursion (λ y. is_lt (cmp x y) ≡ false) new
  pub moved : (more : List X) → AllByRecursion (λ z. cmp z x ≡ Less) more
      → ascending cmp (new ++ (more ++ x ∷ [])) ++ reverse back' ≡ ascending cmp (old ++ (more ++ x ∷ [])) ++ reverse back
