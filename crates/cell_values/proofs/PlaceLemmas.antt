-- The orders under a unit are those from its own up to the end of its subtree.
use Rattle.std.proofs.Common.{◌≡◌, ◌∙◌, ℕ, ◌+◌, ◌<◌, ◌≤◌, Bool, true, false, ◌&&◌, ◌||◌, List, [], ◌∷◌, ◌++◌, length, take, get_or, inl, inr, sym, ap, arith}
use Rattle.std.specs.Prelude.{nat_eq, nat_le, nat_lt}
use Rattle.std.specs.List.{list_any}
use Rattle.std.specs.Option.{option_map_or}
use Rattle.std.proofs.lemmas.Bool.{cases_lt, false≢true, eqb-true, eq-eqb, le-ltb, and_right}
use Rattle.std.proofs.lemmas.Bool.Decides.{nat_tests}
use Rattle.std.proofs.lemmas.List.Folds.{list_any_more}
use Rattle.dh_sharing.specs.Ranges.{is_in_range}
use Rattle.dh_sharing.proofs.RangeLemmas.{within-push}
use Rattle.org_tree.specs.Units.{UnitRow, IsTree, is_under, order_of, size_of}
use Rattle.org_tree.proofs.CountLemmas.{first_below_tells}
use Rattle.org_tree.proofs.OrderLemmas.{under-interval, order-end}
use Rattle.org_tree.proofs.WalkLemmas.{order-found}
use Rattle.cell_values.specs.Places.{unit_with, is_order_under, is_at, IsRangeAt, AreOrdersAt}

past_all : (us : List UnitRow) → IsTree us → (order : ℕ) → ((x : ℕ) → x < length us → nat_eq (order_of us x) order ≡ false) → length us ≤ order
past_all us t order none =
    elim (cases_lt order (length us)) [
      | inl low ↦
          let found = order-found us t order low in
          absurd (false≢true (sym (none found.0 found.1.0) ∙ eq-eqb (order_of us found.0) order found.1.1))
      | inr high ↦ high
    ]

pub interval-under : (us : List UnitRow) → IsTree us → (y order : ℕ) → y < length us
    → is_in_range order (order_of us y, order_of us y + size_of us y) ≡ is_order_under us y order
unfolding is_order_under unit_with
interval-under us t y order h =
    let end = order_of us y + size_of us y in
    elim (first_below_tells (λ x. nat_eq (order_of us x) order) (length us)) [
      | inl found ↦
          let is : order_of us found.0 ≡ order = eqb-true (order_of us found.0) order found.2.passes in
          ap (λ n. nat_le (order_of us y) n && nat_lt n end) (sym is) ∙ sym (under-interval us t found.0 y found.2.below h)
          ∙ ap (λ o. option_map_or (λ x. is_under us x y) o false) (sym found.1)
      | inr none ↦
          let past : length us ≤ order = past_all us t order none.1 in
          let last : end ≤ length us = order-end us t y h in
          and_right (nat_le (order_of us y) order) (nat_lt order end) (le-ltb order end (omega arith))
          ∙ ap (λ o. option_map_or (λ x. is_under us x y) o false) (sym none.0)
    ]

pub range-under : (us : List UnitRow) → IsTree us → (y : ℕ) (range : ℕ × ℕ) → y < length us → range.0 ≡ order_of us y → range.1 ≡ order_of us y + size_of us y
    → IsRangeAt us false y range
range-under us t y range h first end = record {
  members = λ order.
      ap (λ n. nat_le n order && nat_lt order range.1) first ∙ ap (λ n. nat_le (order_of us y) order && nat_lt order n) end ∙ interval-under us t y order h;
}

pub one_number : (a n : ℕ) → (nat_le a n && nat_lt n (a + 1)) ≡ nat_eq a n
one_number a n = grind (arith, nat_tests)

pub range-alone : (us : List UnitRow) (y order : ℕ) → order ≡ order_of us y → IsRangeAt us true y (order, order + 1)
range-alone us y order is = record {
  members = λ n. one_number order n ∙ ap (λ v. nat_eq v n) is;
}

-- one unit more
pub ranges-more : (us : List UnitRow) (alone : Bool) (units : List ℕ) (i unit : ℕ) (ranges : List (ℕ × ℕ)) (range : ℕ × ℕ) → i < length units
    → unit ≡ get_or units i unit
    → AreOrdersAt us alone (take i units) ranges → IsRangeAt us alone unit range → AreOrdersAt us alone (take (i + 1) units) (ranges ++ range ∷ [])
ranges-more us alone units i unit ranges range within at before here = record {
  members = λ order.
      within-push ranges range order
      ∙ ap (λ b. b || is_in_range order range) (before.members order)
      ∙ ap (λ b. list_any (λ u. is_at us alone u order) (take i units) || b) (here.members order ∙ ap (λ u. is_at us alone u order) at)
      ∙ sym (list_any_more (λ u. is_at us alone u order) units i unit within);
}
