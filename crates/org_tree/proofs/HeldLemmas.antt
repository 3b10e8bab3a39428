-- What a tree's lists say of its units.
use Rattle.std.proofs.Common.{◌≡◌, ℕ, ◌+◌, ◌-◌, ◌<◌, ◌≤◌, cond, ◌&&◌, List, length, get_or, None, sym, ap, ◌∙◌, subst, arith}
use Rattle.std.specs.Prelude.{nat_le, nat_lt, slice_index}
use Rattle.std.proofs.lemmas.Bool.{le-leb, lt-leb}
use Rattle.std.proofs.lemmas.List.{get_or_default}
use Rattle.org_tree.specs.Units.{UnitRow, IsTree, climb, is_under, level_of, ancestor_of, order_of, size_of}
use Rattle.org_tree.specs.declared.tree.Tree.TheInside.{Inside}
use Rattle.org_tree.specs.Held.{units_of, IsHeld}
use Rattle.org_tree.specs.Levels.{AreLevels}
use Rattle.org_tree.specs.Families.{InFamilies, AreSpans}
use Rattle.org_tree.specs.Walk.{AreOrders, AreSizes, IsWalk}
use Rattle.org_tree.proofs.KinLemmas.{level_of-HasLevel}
use Rattle.org_tree.proofs.OrderLemmas.{under-interval}

-- a value that was read of a list of numbers, whatever stood for one past the end
pub order_read : (us : List UnitRow) (orders : List ℕ) (x v : ℕ) → AreOrders us orders → x < length us → v ≡ get_or orders x v → v ≡ order_of us x
order_read us orders x v are h read =
    read ∙ get_or_default orders x v 0 (let e = are.same_length in omega arith) ∙ are.each x h

pub size_read : (us : List UnitRow) (sizes : List ℕ) (x v : ℕ) → AreSizes us sizes → x < length us → v ≡ get_or sizes x v → v ≡ size_of us x
size_read us sizes x v are h read =
    read ∙ get_or_default sizes x v 0 (let e = are.same_length in omega arith) ∙ are.each x h

-- the interval test, once the first half is settled
pub under_inside : (us : List UnitRow) → IsTree us → (x y order first size : ℕ) → x < length us → y < length us → order ≡ order_of us x → first ≡ order_of us y
    → size ≡ size_of us y → first ≤ order → nat_lt order (first + size) ≡ is_under us x y
under_inside us t x y order first size h i o f s le =
    ap (λ (v : ℕ). nat_lt v (first + size)) o ∙ ap (λ (v : ℕ). nat_lt (order_of us x) (v + size)) f
    ∙ ap (λ (v : ℕ). nat_lt (order_of us x) (order_of us y + v)) s
    ∙ sym (under-interval us t x y h i
    ∙ ap (λ b. b && nat_lt (order_of us x) (order_of us y + size_of us y)) (le-leb (order_of us y) (order_of us x) (omega arith)))

pub under_left : (us : List UnitRow) → IsTree us → (x y order first : ℕ) → x < length us → y < length us → order ≡ order_of us x → first ≡ order_of us y
    → order < first → nat_le first order ≡ is_under us x y
under_left us t x y order first h i o f lt =
    lt-leb first order lt
    ∙ sym (under-interval us t x y h i
    ∙ ap (λ b. b && nat_lt (order_of us x) (order_of us y + size_of us y)) (lt-leb (order_of us y) (order_of us x) (omega arith)))

-- the ancestor at a level, by the level that a tree keeps
pub ancestor-low : (us : List UnitRow) (x level from : ℕ) → from ≡ level_of us x → from < level → ancestor_of us x level ≡ None
unfolding ancestor_of
ancestor-low us x level from is low =
    ap (λ b. cond b (climb (level_of us x - level) us x) None) (lt-leb level (level_of us x) (omega arith))

pub ancestor-high : (us : List UnitRow) (x level from : ℕ) → from ≡ level_of us x → level ≤ from → ancestor_of us x level ≡ climb (from - level) us x
unfolding ancestor_of
ancestor-high us x level from is high =
    ap (λ b. cond b (climb (level_of us x - level) us x) None) (le-leb level (level_of us x) (omega arith))
    ∙ ap (λ (v : ℕ). climb (v - level) us x) (sym is)

-- all that a tree keeps, from what was worked out for the units
pub IsHeld-from : (tree : Inside) (us : List UnitRow) → units_of tree ≡ us → IsTree us → AreLevels us tree.levels.items → AreOrders us tree.orders.items
    → AreSizes us tree.sizes.items → IsWalk us tree.walk.items → InFamilies us tree.kin.items → AreSpans us tree.kin.items (length us) tree.spans.items
    → IsHeld tree
IsHeld-from tree us same t levels orders sizes walk kin spans =
    record {
      is_tree = subst (λ (v : List UnitRow). IsTree v) (sym same) t;
      levels_length = levels.same_length ∙ ap length (sym same);
      levels = λ x h.
          (let inside : x < length us = subst (λ (v : List UnitRow). x < length v) same h in
          sym (level_of-HasLevel us t x (slice_index tree.levels.items x) inside (levels.each x inside)) ∙ ap (λ (v : List UnitRow). level_of v x) (sym same));
      orders = subst (λ (v : List UnitRow). AreOrders v tree.orders.items) (sym same) orders;
      sizes = subst (λ (v : List UnitRow). AreSizes v tree.sizes.items) (sym same) sizes;
      walk = subst (λ (v : List UnitRow). IsWalk v tree.walk.items) (sym same) walk;
      kin = subst (λ (v : List UnitRow). InFamilies v tree.kin.items) (sym same) kin;
      spans = subst (λ (v : List UnitRow). AreSpans v tree.kin.items (length v) tree.spans.items) (sym same) spans;
    }

pub level_read : (us : List UnitRow) (levels : List ℕ) (x v : ℕ) → length levels ≡ length us → ((x : ℕ) → x < length us → slice_index levels x ≡ level_of us x)
    → x < length us → v ≡ get_or levels x v → v ≡ level_of us x
level_read us levels x v len each h read = read ∙ get_or_default levels x v 0 (omega arith) ∙ each x h
