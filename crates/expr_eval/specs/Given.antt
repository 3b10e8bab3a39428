-- The items of an expression as they are given: one entry for each item of its list, in order.
use Rattle.std.specs.Prelude.{ℕ, ◌+◌, ◌^◌, ◌-◌, Bool, true, false, ◌&&◌, List, [], ◌∷◌, Option, Some, None, nat_eq, slice_get, if◌then◌else◌}
use Rattle.std.specs.Cmp.Lexicographic.{pointwise}
use Rattle.dh_base.specs.declared.plain.Rate.{Rate}
use Rattle.dh_base.specs.declared.plain.Rate.TheVariants as rates
use Rattle.dh_base.specs.Fractions.{Fraction}
use Rattle.expr_lang.specs.declared.tree.Item.{Item}
use Rattle.expr_lang.specs.declared.tree.Item.TheVariants as item

abbrev pub same_uid : List ℕ → List ℕ → Bool
same_uid a b = pointwise nat_eq a b

abbrev pub same_option : Option (List ℕ) → Option (List ℕ) → Bool
same_option None None = true
same_option (Some a) (Some b) = same_uid a b
same_option _ _ = false

abbrev pub rate_number : Rate → ℕ
rate_number rates.Expected = 0
rate_number rates.Actual = 1
rate_number rates.OnTime = 2
rate_number rates.Reported = 3
rate_number rates.ReportedOnTime = 4

-- whether two items are one
unfoldable pub same_item : Item → Item → Bool
same_item (item.Element a b c) (item.Element d e f) = same_uid a d && (same_option b e && same_option c f)
same_item (item.Constant a) (item.Constant b) = same_uid a b
same_item (item.Group a) (item.Group b) = same_uid a b
same_item item.Days item.Days = true
same_item (item.Rate a r) (item.Rate b s) = same_uid a b && nat_eq (rate_number r) (rate_number s)
same_item (item.StageElement a b) (item.StageElement c d) = same_uid a c && same_uid b d
same_item (item.Attribute a) (item.Attribute b) = same_uid a b
same_item item.EventDate item.EventDate = true
same_item item.EnrollmentDate item.EnrollmentDate = true
same_item item.EventCount item.EventCount = true
same_item item.EnrollmentCount item.EnrollmentCount = true
same_item item.EntityCount item.EntityCount = true
same_item _ _ = false

-- the place of an item in a list that begins at a place, or a number past every list
abbrev pub index_from : ℕ → List Item → Item → ℕ
index_from place [] i = 2 ^ 64 - 1
index_from place (x ∷ xs) i = if same_item x i then place else index_from (place + 1) xs i

unfoldable pub index_in : List Item → Item → ℕ
index_in items i = index_from 0 items i

abbrev pub entry_or_none : Option (Option Fraction) → Option Fraction
entry_or_none (Some entry) = entry
entry_or_none None = None

abbrev pub entry_at : List (Option Fraction) → ℕ → Option Fraction
entry_at entries n = entry_or_none (slice_get entries n)

-- what is given for an item
abbrev pub given_by : List Item → List (Option Fraction) → Item → Option Fraction
given_by items entries i = entry_at entries (index_in items i)
