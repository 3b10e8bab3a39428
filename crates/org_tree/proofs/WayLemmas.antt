-- The way from the root down to a unit, as places: who is under whom, levels and trails, read off it.
use Rattle.std.proofs.Common.{◌≡◌, ℕ, zero, suc, ◌+◌, ◌<◌, ◌≤◌, Bool, true, false, ◌==◌, ◌||◌, List, [], ◌∷◌, ◌++◌, map, length, Option, Some, None, refl}
use Rattle.std.proofs.Common.{sym, ap, ◌∙◌, subst, inl, inr, arith, length-append, append_assoc}
use Rattle.std.specs.Option.{option_map_or}
use Rattle.std.specs.List.{list_any}
use Rattle.std.proofs.lemmas.Bool.{eq-eqb, eqb-true, or_cases}
use Rattle.std.proofs.lemmas.List.{map-append, append-nil}
use Rattle.std.proofs.lemmas.List.Folds.{list_any-append}
use Rattle.org_tree.specs.Units.{UnitRow, id_at, parent_of, climb, under_within, is_under, level_within, level_of, trail_within, trail_of, IsTree}
use Rattle.org_tree.proofs.ClimbLemmas.{some_or_none, climb-zero, climb-child, climb-ends}

-- the units from the root down to x, x last
unfoldable pub way_within : ℕ → List UnitRow → ℕ → List ℕ
way_within zero us x = []
way_within (suc most) us x = option_map_or (λ p. way_within most us p) (parent_of us x) [] ++ x ∷ []

unfoldable pub way_to : List UnitRow → ℕ → List ℕ
way_to us x = way_within (length us) us x

pub way_within-child : (most : ℕ) (us : List UnitRow) (x p : ℕ) → parent_of us x ≡ Some p → way_within (suc most) us x ≡ way_within most us p ++ x ∷ []
unfolding way_within
way_within-child most us x p up = ap (λ o. option_map_or (λ q. way_within most us q) o [] ++ x ∷ []) up

pub way_within-root : (most : ℕ) (us : List UnitRow) (x : ℕ) → parent_of us x ≡ None → way_within (suc most) us x ≡ x ∷ []
unfolding way_within
way_within-root most us x top = ap (λ o. option_map_or (λ q. way_within most us q) o [] ++ x ∷ []) top

-- more room changes nothing once the parents end
way_within-enough : (steps most : ℕ) (us : List UnitRow) (x : ℕ) → steps ≤ most → climb steps us x ≡ None → way_within most us x ≡ way_within steps us x
way_within-enough zero most us x le ends = absurd (let e = climb-zero us x in cc)
way_within-enough (suc steps) zero us x le ends = absurd (omega arith)
way_within-enough (suc steps) (suc most) us x le ends =
    elim (some_or_none (parent_of us x)) [
      | inl up ↦
          let p = up.0 in
          let above : way_within most us p ≡ way_within steps us p =
          way_within-enough steps most us p (omega arith) (sym (climb-child steps us x p up.1) ∙ ends) in
          way_within-child most us x p up.1 ∙ ap (λ w. w ++ x ∷ []) above ∙ sym (way_within-child steps us x p up.1)
      | inr top ↦ way_within-root most us x top ∙ sym (way_within-root steps us x top)
    ]

-- in a tree the parents of each unit end within as many steps as there are units
pub tree-ends : (us : List UnitRow) → IsTree us → (x : ℕ) → x < length us → climb (length us) us x ≡ None
tree-ends us t x h = climb-ends us t.parent_in_range 12 x h (t.twelve_levels x h)

-- a count above another is one more than some number
pred_of : (x n : ℕ) → x < n → (m : ℕ) × (n ≡ suc m)
pred_of x zero h = absurd (omega arith)
pred_of x (suc m) h = (m, refl)

pub way_to-child : (us : List UnitRow) → IsTree us → (x p : ℕ) → x < length us → parent_of us x ≡ Some p → way_to us x ≡ way_to us p ++ x ∷ []
unfolding way_to
way_to-child us t x p h up =
    let n = length us in
    let one_less = pred_of x n h in
    let m = one_less.0 in
    let ends : climb (suc m) us x ≡ None = subst (λ (v : ℕ). climb v us x ≡ None) one_less.1 (tree-ends us t x h) in
    let ends_above : climb m us p ≡ None = sym (climb-child m us x p up) ∙ ends in
    let le : m ≤ n = let e = one_less.1 in omega arith in
    let above : way_within n us p ≡ way_within m us p = way_within-enough m n us p le ends_above in
    let here : way_within (suc m) us x ≡ way_within m us p ++ x ∷ [] = way_within-child m us x p up in
    ap (λ (v : ℕ). way_within v us x) one_less.1 ∙ here ∙ ap (λ w. w ++ x ∷ []) (sym above)

pub way_to-root : (us : List UnitRow) (x : ℕ) → x < length us → parent_of us x ≡ None → way_to us x ≡ x ∷ []
unfolding way_to
way_to-root us x h top =
    let one_less = pred_of x (length us) h in
    ap (λ (v : ℕ). way_within v us x) one_less.1 ∙ way_within-root one_less.0 us x top

-- whether a unit is on a way
abbrev pub among : ℕ → List ℕ → Bool
among y way = list_any (λ v. v == y) way

or_false : (b : Bool) → (b || false) ≡ b
or_false true = refl
or_false false = refl

or_swap : (a b : Bool) → (a || b) ≡ (b || a)
or_swap true true = refl
or_swap true false = refl
or_swap false true = refl
or_swap false false = refl

under_within-among : (most : ℕ) (us : List UnitRow) (x y : ℕ) → under_within most us x y ≡ among y (way_within most us x)
unfolding under_within way_within
under_within-among zero us x y = refl
under_within-among (suc most) us x y =
    by_parent (λ p. under_within-among most us p y) (parent_of us x)
  where
    by_parent : ((p : ℕ) → under_within most us p y ≡ among y (way_within most us p)) → (o : Option ℕ)
        → ((x == y) || option_map_or (λ p. under_within most us p y) o false)
        ≡ list_any (λ v. v == y) (option_map_or (λ p. way_within most us p) o [] ++ x ∷ [])
    by_parent above None = refl
    by_parent above (Some p) =
        let split : list_any (λ v. v == y) (way_within most us p ++ x ∷ []) ≡ (list_any (λ v. v == y) (way_within most us p) || ((x == y) || false)) =
        list_any-append (λ v. v == y) (way_within most us p) (x ∷ []) in
        or_swap (x == y) (under_within most us p y) ∙ ap (λ b. b || (x == y)) (above p)
        ∙ ap (λ b. list_any (λ v. v == y) (way_within most us p) || b) (sym (or_false (x == y))) ∙ sym split

pub is_under-among : (us : List UnitRow) (x y : ℕ) → is_under us x y ≡ among y (way_to us x)
unfolding is_under way_to
is_under-among us x y = under_within-among (length us) us x y

trail_within-way : (most : ℕ) (us : List UnitRow) (x : ℕ) → trail_within most us x ≡ map (id_at us) (way_within most us x)
unfolding trail_within way_within
trail_within-way zero us x = refl
trail_within-way (suc most) us x = by_parent (λ p. trail_within-way most us p) (parent_of us x)
  where
    by_parent : ((p : ℕ) → trail_within most us p ≡ map (id_at us) (way_within most us p)) → (o : Option ℕ)
        → (option_map_or (λ p. trail_within most us p) o [] ++ id_at us x ∷ []) ≡ map (id_at us) (option_map_or (λ p. way_within most us p) o [] ++ x ∷ [])
    by_parent above None = refl
    by_parent above (Some p) =
        ap (λ w. w ++ id_at us x ∷ []) (above p)
        ∙ sym (map-append (id_at us) (way_within most us p) (x ∷ []))

pub trail_of-way : (us : List UnitRow) (x : ℕ) → trail_of us x ≡ map (id_at us) (way_to us x)
unfolding trail_of way_to
trail_of-way us x = trail_within-way (length us) us x

level_within-way : (most : ℕ) (us : List UnitRow) (x : ℕ) → level_within most us x ≡ length (way_within most us x)
unfolding level_within way_within
level_within-way zero us x = refl
level_within-way (suc most) us x = by_parent (λ p. level_within-way most us p) (parent_of us x)
  where
    by_parent : ((p : ℕ) → level_within most us p ≡ length (way_within most us p)) → (o : Option ℕ)
        → (option_map_or (λ p. level_within most us p) o 0 + 1) ≡ length (option_map_or (λ p. way_within most us p) o [] ++ x ∷ [])
    by_parent above None = refl
    by_parent above (Some p) =
        ap (λ w. w + 1) (above p) ∙ sym (length-append (way_within most us p) (x ∷ []))

pub level_of-way : (us : List UnitRow) (x : ℕ) → level_of us x ≡ length (way_to us x)
unfolding level_of way_to
level_of-way us x = level_within-way (length us) us x

-- a way ends at its unit
pub way_to-last : (us : List UnitRow) (x : ℕ) → x < length us → (above : List ℕ) × (way_to us x ≡ above ++ x ∷ [])
unfolding way_to way_within
way_to-last us x h =
    let one_less = pred_of x (length us) h in
    (option_map_or (λ p. way_within one_less.0 us p) (parent_of us x) [], ap (λ (v : ℕ). way_within v us x) one_less.1)

among-itself : (x : ℕ) (above rest : List ℕ) → among x ((above ++ x ∷ []) ++ rest) ≡ true
among-itself x [] rest = ap (λ b. b || list_any (λ v. v == x) rest) (eq-eqb x x refl)
among-itself x (a ∷ above) rest = rw (among-itself x above rest) (or_swap (a == x) true)

-- who has y's way as a prefix of its own is under y
pub under-from_front : (us : List UnitRow) (z y : ℕ) (rest : List ℕ) → y < length us → way_to us z ≡ way_to us y ++ rest → is_under us z y ≡ true
under-from_front us z y rest h front =
    let last = way_to-last us y h in
    is_under-among us z y ∙ ap (among y) (front ∙ ap (λ w. w ++ rest) last.1) ∙ among-itself y last.0 rest

pub under-itself : (us : List UnitRow) (x : ℕ) → x < length us → is_under us x x ≡ true
under-itself us x h = under-from_front us x x [] h (sym (append-nil (way_to us x)))

pub among-push : (y x : ℕ) (way : List ℕ) → among y (way ++ x ∷ []) ≡ (among y way || (x == y))
among-push y x way = list_any-append (λ v. v == y) way (x ∷ []) ∙ ap (λ b. list_any (λ v. v == y) way || b) (or_false (x == y))

-- the rule of who is under whom, as an equation: x is y, or its parent is under y
pub is_under-child : (us : List UnitRow) → IsTree us → (x p y : ℕ) → x < length us → parent_of us x ≡ Some p → is_under us x y ≡ ((x == y) || is_under us p y)
is_under-child us t x p y h up =
    is_under-among us x y ∙ ap (among y) (way_to-child us t x p h up) ∙ among-push y x (way_to us p)
    ∙ ap (λ b. b || (x == y)) (sym (is_under-among us p y)) ∙ or_swap (is_under us p y) (x == y)

pub is_under-root : (us : List UnitRow) (x y : ℕ) → x < length us → parent_of us x ≡ None → is_under us x y ≡ (x == y)
is_under-root us x y h top = is_under-among us x y ∙ ap (among y) (way_to-root us x h top) ∙ or_false (x == y)

pub level_of-child : (us : List UnitRow) → IsTree us → (x p : ℕ) → x < length us → parent_of us x ≡ Some p → level_of us x ≡ level_of us p + 1
level_of-child us t x p h up =
    level_of-way us x ∙ ap length (way_to-child us t x p h up) ∙ length-append (way_to us p) (x ∷ [])
    ∙ ap (λ v. v + 1) (sym (level_of-way us p))

pub level_of-root : (us : List UnitRow) (x : ℕ) → x < length us → parent_of us x ≡ None → level_of us x ≡ 1
level_of-root us x h top = level_of-way us x ∙ ap length (way_to-root us x h top)

-- a fact of a unit from the same fact of its parent, down from the root
pub tree_induction : (us : List UnitRow) → IsTree us → (P : ℕ → Type 0) → ((x : ℕ) → x < length us → parent_of us x ≡ None → P x)
    → ((x p : ℕ) → x < length us → p < length us → parent_of us x ≡ Some p → P p → P x) → (x : ℕ) → x < length us → P x
tree_induction us t P at_root at_child x h = down 12 x h (t.twelve_levels x h)
  where
    down : (steps x : ℕ) → x < length us → climb steps us x ≡ None → P x
    down zero x h ends = absurd (let e = climb-zero us x in cc)
    down (suc steps) x h ends =
        elim (some_or_none (parent_of us x)) [
          | inr top ↦ at_root x h top
          | inl up ↦
              let in_range : up.0 < length us = t.parent_in_range x up.0 up.1 in
              at_child x up.0 h in_range up.1 (down steps up.0 in_range (sym (climb-child steps us x up.0 up.1) ∙ ends))
        ]

-- who is under y has y's way as a prefix of its own
pub front-from_under : (us : List UnitRow) → IsTree us → (z y : ℕ) → z < length us → is_under us z y ≡ true
    → (y < length us) × ((rest : List ℕ) × (way_to us z ≡ way_to us y ++ rest))
front-from_under us t z y h =
    tree_induction us t (λ z. is_under us z y ≡ true → (y < length us) × ((rest : List ℕ) × (way_to us z ≡ way_to us y ++ rest)))
    (λ z h top under.
    let same : z ≡ y = eqb-true z y (sym (is_under-root us z y h top) ∙ under) in
    itself z h same)
    (λ z p h in_range up above under.
    elim (or_cases (z == y) (is_under us p y) (sym (is_under-child us t z p y h up) ∙ under)) [
      | inl here ↦ itself z h (eqb-true z y here)
      | inr higher ↦
          let more = above higher in
          (more.0, (more.1.0 ++ z ∷ [], way_to-child us t z p h up ∙ ap (λ w. w ++ z ∷ []) more.1.1 ∙ append_assoc (way_to us y) more.1.0 (z ∷ [])))
    ])
    z h
  where
    itself : (z : ℕ) → z < length us → z ≡ y → (y < length us) × ((rest : List ℕ) × (way_to us z ≡ way_to us y ++ rest))
    itself z h same =
        subst (λ (v : ℕ). (v < length us) × ((rest : List ℕ) × (way_to us z ≡ way_to us v ++ rest))) same (h, ([], sym (append-nil (way_to us z))))
