-- The units by level, then by family, siblings by their UIDs.
use Rattle.std.specs.Prelude.{◌≡◌, ℕ, ◌<◌, ◌≤◌, ◌↔◌, true, List, length, slice_index, slice_index_or, Contains, Some, unwrap_or}
use Rattle.std.specs.declared.cmp.Ordering.{Ordering}
use Rattle.std.specs.declared.cmp.Ordering.TheVariants.{Less}
use Rattle.std.specs.Ordering.{nat_cmp, is_lt, ordering_then}
use Rattle.std.specs.Cmp.Lexicographic.{slice_cmp}
use Rattle.org_tree.specs.Units.{UnitRow, id_at, parent_of, level_of}

-- the place of the parent; the root, which has a level of its own, counts as in the family of 0
abbrev pub family_of : List UnitRow → ℕ → ℕ
family_of us x = unwrap_or (parent_of us x) 0

abbrev pub kin_cmp : List UnitRow → ℕ → ℕ → Ordering
kin_cmp us a b =
    ordering_then (nat_cmp (level_of us a) (level_of us b))
    (ordering_then (nat_cmp (family_of us a) (family_of us b)) (slice_cmp nat_cmp (id_at us a) (id_at us b)))

-- the list has each unit once, in that order
pub record InFamilies (us : List UnitRow) (kin : List ℕ) : Type 0 where
  pub same_length : length kin ≡ length us
  pub in_range : (i : ℕ) → i < length us → slice_index kin i < length us
  pub found : (x : ℕ) → x < length us → (i : ℕ) × ((i < length us) × (slice_index kin i ≡ x))
  pub sorted : (i j : ℕ) → i < j → j < length us → kin_cmp us (slice_index kin i) (slice_index kin j) ≡ Less

-- the part of the list where a unit's children stand: from the first place, before the second
pub record Spans (us : List UnitRow) (kin : List ℕ) (upto x first end : ℕ) : Type 0 where
  pub end_in_range : end ≤ upto
  pub first_in_range : first ≤ end
  pub inside : (i : ℕ) → first ≤ i → i < end → parent_of us (slice_index kin i) ≡ Some x
  pub outside : (i : ℕ) → i < upto → parent_of us (slice_index kin i) ≡ Some x → (first ≤ i) × (i < end)

-- each unit's span
pub record AreSpans (us : List UnitRow) (kin : List ℕ) (upto : ℕ) (spans : List (ℕ × ℕ)) : Type 0 where
  pub same_length : length spans ≡ length us
  pub each : (x : ℕ) → x < length us → Spans us kin upto x (slice_index_or spans x (0, 0)).0 (slice_index_or spans x (0, 0)).1

-- a unit's children, ascending by the bytes of their UIDs
pub record AreChildren (us : List UnitRow) (x : ℕ) (children : List ℕ) : Type 0 where
  pub members : (z : ℕ) → Contains children z ↔ (parent_of us z ≡ Some x)
  pub ascending : (i j : ℕ) → i < j → j < length children
      → is_lt (slice_cmp nat_cmp (id_at us (slice_index children i)) (id_at us (slice_index children j))) ≡ true
