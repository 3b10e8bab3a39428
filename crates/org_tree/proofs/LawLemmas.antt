-- The laws of a tree, for those who build on it.
use Rattle.std.proofs.Common.{◌≡◌, ℕ, ◌+◌, ◌<◌, ◌≤◌, Bool, true, false, cond, ◌==◌, ◌||◌, ◌&&◌, List, [], length, Some, refl, sym, ap, ◌∙◌, subst, inl, inr}
use Rattle.std.proofs.Common.{arith}
use Rattle.std.specs.Prelude.{nat_le, nat_lt}
use Rattle.std.specs.Option.{option_map_or}
use Rattle.std.specs.Ordering.{nat_cmp, is_lt}
use Rattle.std.specs.Cmp.Lexicographic.{slice_cmp}
use Rattle.std.proofs.lemmas.Bool.{false≢true, ne_eqb}
use Rattle.org_tree.specs.Units.{UnitRow, id_at, parent_of, is_under, is_before, level_of, order_of, size_of, IsTree}
use Rattle.org_tree.specs.Laws.{IsBehindParent, IsBehindElders, HasInterval}
use Rattle.org_tree.proofs.ClimbLemmas.{some_or_none}
use Rattle.org_tree.proofs.WayLemmas.{way_to-child, is_under-child, is_under-root, level_of-child, level_of-root}
use Rattle.org_tree.proofs.OrderLemmas.{before-child, parent-before, order-before, order-outside, under-child, under-interval, elder-not_itself}

-- x is under y where x is y, or x has a parent and that parent is under y
pub under_rule : (us : List UnitRow) → IsTree us → (x y : ℕ) → x < length us
    → is_under us x y ≡ ((x == y) || option_map_or (λ p. is_under us p y) (parent_of us x) false)
under_rule us t x y h =
    elim (some_or_none (parent_of us x)) [
      | inl up ↦ is_under-child us t x up.0 y h up.1 ∙ sym (ap (λ o. (x == y) || option_map_or (λ p. is_under us p y) o false) up.1)
      | inr top ↦ is_under-root us x y h top ∙ sym (ap (λ o. (x == y) || option_map_or (λ p. is_under us p y) o false) top ∙ or_none (x == y))
    ]
  where
    or_none : (b : Bool) → (b || false) ≡ b
    or_none true = refl
    or_none false = refl

-- the root has level 1, a child one more than its parent
pub level_rule : (us : List UnitRow) → IsTree us → (x : ℕ) → x < length us → level_of us x ≡ option_map_or (λ p. level_of us p + 1) (parent_of us x) 1
level_rule us t x h =
    elim (some_or_none (parent_of us x)) [
      | inl up ↦ level_of-child us t x up.0 h up.1 ∙ sym (ap (λ o. option_map_or (λ p. level_of us p + 1) o 1) up.1)
      | inr top ↦ level_of-root us x h top ∙ sym (ap (λ o. option_map_or (λ p. level_of us p + 1) o 1) top)
    ]

pub behind_parent : (us : List UnitRow) → IsTree us → (x : ℕ) → x < length us → IsBehindParent us x
behind_parent us t x h = record { parent_first = λ p up. order-before us t p x (t.parent_in_range x p up) (parent-before us t x p h up) }

pub behind_elders : (us : List UnitRow) → IsTree us → (x : ℕ) → x < length us → IsBehindElders us x
behind_elders us t x h = record { elder_first = λ z p l up_z up_x elder. elder_first z p l up_z up_x elder }
  where
    elder_first : (z p : ℕ) → z < length us → parent_of us z ≡ Some p → parent_of us x ≡ Some p → is_lt (slice_cmp nat_cmp (id_at us z) (id_at us x)) ≡ true
        → order_of us z + size_of us z ≤ order_of us x
    elder_first z p l up_z up_x elder =
        let apart : ¬ (z ≡ x) =
        λ same. false≢true (sym (elder-not_itself us z) ∙ subst (λ (v : ℕ). is_lt (slice_cmp nat_cmp (id_at us z) (id_at us v)) ≡ true) (sym same) elder) in
        let before : is_before us z x ≡ true =
        before-child us t z p z x [] l h up_x (way_to-child us t z p l up_z)
        ∙ ap (λ b. cond b false (is_lt (slice_cmp nat_cmp (id_at us z) (id_at us x)))) (ne_eqb z x apart) ∙ elder in
        let sooner : order_of us z < order_of us x = order-before us t z x l before in
        let outside : is_under us x z ≡ false =
        under-child us t x p x z [] h l up_z (way_to-child us t x p h up_x) ∙ ne_eqb x z (λ same. apart (sym same)) in
        elim (order-outside us t x z h l outside) [
          | inl first ↦ absurd (omega arith)
          | inr beyond ↦ beyond
        ]

pub has_interval : (us : List UnitRow) → IsTree us → (y first end : ℕ) → y < length us → first ≡ order_of us y → end ≡ order_of us y + size_of us y
    → HasInterval us y first end
has_interval us t y first end h at upto = record {
  members = λ x l.
      under-interval us t x y l h
      ∙ ap (λ (v : ℕ). nat_le v (order_of us x) && nat_lt (order_of us x) (order_of us y + size_of us y)) (sym at)
      ∙ ap (λ (v : ℕ). nat_le first (order_of us x) && nat_lt (order_of us x) v) (sym upto);
}
