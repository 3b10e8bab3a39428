-- Organisation units as a list of rows, each with its UID and its parent's place in the list. A unit is
-- named by its own place.
use Rattle.std.specs.Prelude.{◌≡◌, ℕ, zero, suc, ◌+◌, ◌-◌, ◌<◌, ◌^◌, ◌==◌, nat_le, Bool, false, cond, ◌||◌, List, [], ◌∷◌, ◌++◌, length, Option, Some, None}
use Rattle.std.specs.Prelude.{slice_get, option_and_then}
use Rattle.std.specs.Option.{option_map_or}
use Rattle.std.specs.Ordering.{nat_cmp, is_lt}
use Rattle.std.specs.Cmp.Lexicographic.{slice_cmp}
use Rattle.org_tree.specs.Count.{count_below}

-- a unit's UID, and the place of its parent
abbrev pub UnitRow : Type 0
UnitRow = List ℕ × Option ℕ

abbrev pub id_at : List UnitRow → ℕ → List ℕ
id_at us x = option_map_or (λ u. u.0) (slice_get us x) []

abbrev pub parent_of : List UnitRow → ℕ → Option ℕ
parent_of us x = option_and_then (λ u. u.1) (slice_get us x)

-- whether p is x's parent
abbrev pub is_child : List UnitRow → ℕ → ℕ → Bool
is_child us x p = option_map_or (λ q. q == p) (parent_of us x) false

-- the unit that many steps above x, None where the parents end before
unfoldable pub climb : ℕ → List UnitRow → ℕ → Option ℕ
climb zero us x = Some x
climb (suc steps) us x = option_and_then (λ p. climb steps us p) (parent_of us x)

-- x is under y: x is y, or x has a parent and that parent is under y. It looks at so many units at most
unfoldable pub under_within : ℕ → List UnitRow → ℕ → ℕ → Bool
under_within zero us x y = false
under_within (suc most) us x y =
    (x == y) || option_map_or (λ p. under_within most us p y) (parent_of us x) false

-- x is under y. No unit has more different ones above it than there are units
unfoldable pub is_under : List UnitRow → ℕ → ℕ → Bool
is_under us x y = under_within (length us) us x y

-- the root's level is 1, and a child's is one more than its parent's
unfoldable pub level_within : ℕ → List UnitRow → ℕ → ℕ
level_within zero us x = 0
level_within (suc most) us x = option_map_or (λ p. level_within most us p) (parent_of us x) 0 + 1

unfoldable pub level_of : List UnitRow → ℕ → ℕ
level_of us x = level_within (length us) us x

-- the unit above x, or x itself, that has the level
unfoldable pub ancestor_of : List UnitRow → ℕ → ℕ → Option ℕ
ancestor_of us x level =
    cond (nat_le level (level_of us x)) (climb (level_of us x - level) us x) None

-- the UIDs of the units from the root down to x
unfoldable pub trail_within : ℕ → List UnitRow → ℕ → List (List ℕ)
trail_within zero us x = []
trail_within (suc most) us x =
    option_map_or (λ p. trail_within most us p) (parent_of us x) [] ++ id_at us x ∷ []

unfoldable pub trail_of : List UnitRow → ℕ → List (List ℕ)
trail_of us x = trail_within (length us) us x

-- x comes before y in the walk that meets a parent before its children, and children by the bytes of
-- their UIDs
unfoldable pub is_before : List UnitRow → ℕ → ℕ → Bool
is_before us x y = is_lt (slice_cmp (slice_cmp nat_cmp) (trail_of us x) (trail_of us y))

-- a unit's place in the walk, counted from 0
unfoldable pub order_of : List UnitRow → ℕ → ℕ
order_of us x = count_below (λ z. is_before us z x) (length us)

-- how many units are under x, x among them
unfoldable pub size_of : List UnitRow → ℕ → ℕ
size_of us x = count_below (λ z. is_under us z x) (length us)

-- each parent is a unit of the list
pub record HasParents (us : List UnitRow) : Type 0 where
  pub in_range : (x p : ℕ) → parent_of us x ≡ Some p → p < length us

-- no two units have one UID
pub record HasOwnIds (us : List UnitRow) : Type 0 where
  pub differ : (x y : ℕ) → x < length us → y < length us → id_at us x ≡ id_at us y → x ≡ y

-- what makes a list of units a tree of at most twelve levels
pub record IsTree (us : List UnitRow) : Type 0 where
  pub few : length us < 2 ^ 32
  pub ids_differ : (x y : ℕ) → x < length us → y < length us → id_at us x ≡ id_at us y → x ≡ y
  pub parent_in_range : (x p : ℕ) → parent_of us x ≡ Some p → p < length us
  pub has_root : 0 < length us
  pub one_root : (x y : ℕ) → x < length us → y < length us → parent_of us x ≡ None → parent_of us y ≡ None → x ≡ y
  pub twelve_levels : (x : ℕ) → x < length us → climb 12 us x ≡ None
