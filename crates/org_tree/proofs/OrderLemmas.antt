-- Places in the walk: a subtree is an interval, and how a child's place follows from its parent's and from
-- those of the children before it.
use Rattle.std.proofs.Common.{◌≡◌, ◌⊎◌, ℕ, ◌+◌, ◌<◌, ◌≤◌, Bool, true, false, cond, ◌==◌, ◌&&◌, ◌||◌, List, [], ◌∷◌, ◌++◌, length, Some, None, Ordering, refl}
use Rattle.std.proofs.Common.{sym, ap, ◌∙◌, subst, inl, inr, arith, append_assoc}
use Rattle.std.specs.Prelude.{nat_le, nat_lt}
use Rattle.std.specs.declared.cmp.Ordering.TheVariants.{Less, Equal, Greater}
use Rattle.std.specs.Ordering.{is_lt, ordering_reverse}
use Rattle.std.proofs.lemmas.Bool.{and_parts, and_from, and_left, and_right, or_right, cases_eq, cases_Bool, false≢true, eq-eqb, ne_eqb, eqb-true, or_cases}
use Rattle.std.proofs.lemmas.Bool.{le-leb, lt-leb, lt-ltb, le-ltb}
use Rattle.std.specs.Cmp.{both_ways}
use Rattle.std.proofs.lemmas.Cmp.{nat_list_cmp_total}
use Rattle.std.proofs.lemmas.List.{append-nil, append_cancel_left}
use Rattle.org_tree.specs.Count.{count_below}
use Rattle.org_tree.specs.Units.{UnitRow, id_at, parent_of, is_under, is_before, order_of, size_of, IsTree}
use Rattle.org_tree.proofs.CountLemmas.{count_below-agree, count_below-le, count_below-more, count_below-lt, count_below-or, count_below-none, count_below-one}
use Rattle.org_tree.proofs.WayLemmas.{way_to, way_to-child, tree_induction, front-from_under, under-from_front, under-itself, is_under-child, is_under-root}
use Rattle.org_tree.proofs.BeforeLemmas.{by_id, ahead, is_before-ahead, under-not_before, before-in_subtree, beyond-subtree, before-trans, before-not_itself}
use Rattle.org_tree.proofs.BeforeLemmas.{before-total}

pub under-trans : (us : List UnitRow) → IsTree us → (x y z : ℕ) → x < length us → is_under us x y ≡ true → is_under us y z ≡ true → is_under us x z ≡ true
under-trans us t x y z h first then =
    let to_y = front-from_under us t x y h first in
    let to_z = front-from_under us t y z to_y.0 then in
    under-from_front us x z (to_z.1.0 ++ to_y.1.0) to_z.0 (to_y.1.1 ∙ ap (λ w. w ++ to_y.1.0) to_z.1.1 ∙ append_assoc (way_to us z) to_z.1.0 to_y.1.0)

pub order-lt : (us : List UnitRow) → IsTree us → (x : ℕ) → x < length us → order_of us x < length us
unfolding order_of
order-lt us t x h =
    let less : count_below (λ z. is_before us z x) (length us) < count_below (λ _. true) (length us) =
    count_below-lt (λ z. is_before us z x) (λ _. true) (length us) x (λ k l e. refl) h (before-not_itself us t x h) refl in
    let all : count_below (λ _. true) (length us) ≤ length us = count_below-le (λ _. true) (length us) in
    omega arith

pub order-before : (us : List UnitRow) → IsTree us → (x y : ℕ) → x < length us → is_before us x y ≡ true → order_of us x < order_of us y
unfolding order_of
order-before us t x y h before =
    count_below-lt (λ z. is_before us z x) (λ z. is_before us z y) (length us) x
    (λ k l e. before-trans us k x y e before) h (before-not_itself us t x h) before

pub order-differs : (us : List UnitRow) → IsTree us → (x y : ℕ) → x < length us → y < length us → order_of us x ≡ order_of us y → x ≡ y
order-differs us t x y h i same =
    elim (before-total us t x y h i) [
      | inl e ↦ e
      | inr apart ↦
          elim apart [
            | inl first ↦ absurd (let l : order_of us x < order_of us y = order-before us t x y h first in omega arith)
            | inr second ↦ absurd (let l : order_of us y < order_of us x = order-before us t y x i second in omega arith)
          ]
    ]

-- a unit's place is its place among what comes before y and what is under y
order-under : (us : List UnitRow) → IsTree us → (x y : ℕ) → x < length us → y < length us → is_under us x y ≡ true
    → (order_of us y ≤ order_of us x) × (order_of us x < order_of us y + size_of us y)
unfolding order_of size_of
order-under us t x y h i under =
    let inside : ℕ → Bool = λ z. is_under us z y && is_before us z x in
    let split : count_below (λ z. is_before us z x) (length us) ≡ count_below (λ z. is_before us z y || inside z) (length us) =
    count_below-agree (λ z. is_before us z x) (λ z. is_before us z y || inside z) (length us)
    (λ z l. by_under (is_under us z y) (is_before us z y) (is_before us z x) (λ e. under-not_before us t z y l e) (λ e.
    before-in_subtree us t z x y l h under e)) in
    let sum : count_below (λ z. is_before us z y || inside z) (length us) ≡ count_below (λ z. is_before us z y) (length us) + count_below inside (length us) =
    count_below-or (λ z. is_before us z y) inside (length us)
    (λ z l e. apart (is_under us z y) (is_before us z y) (is_before us z x) (λ u. under-not_before us t z y l u) e) in
    let less : count_below inside (length us) < count_below (λ z. is_under us z y) (length us) =
    count_below-lt inside (λ z. is_under us z y) (length us) x
    (λ k l e. (and_parts (is_under us k y) (is_before us k x) e).0) h
    (ap (λ b. is_under us x y && b) (before-not_itself us t x h) ∙ and_false (is_under us x y)) under in
    (omega arith, omega arith)
  where
    by_under : (u b c : Bool) → (u ≡ true → b ≡ false) → (u ≡ false → c ≡ b) → c ≡ (b || (u && c))
    by_under true b c inner outer = rw (inner refl) refl
    by_under false true c inner outer = outer refl
    by_under false false c inner outer = outer refl

    apart : (u b c : Bool) → (u ≡ true → b ≡ false) → b ≡ true → (u && c) ≡ false
    apart true b c inner e = absurd (false≢true (sym (inner refl) ∙ e))
    apart false b c inner e = refl

    and_false : (b : Bool) → (b && false) ≡ false
    and_false true = refl
    and_false false = refl

behind_all : (us : List UnitRow) → IsTree us → (x y : ℕ) → x < length us → y < length us → is_under us x y ≡ false → is_before us y x ≡ true
    → order_of us y + size_of us y ≤ order_of us x
unfolding order_of size_of
behind_all us t x y h i not_under second =
    let sum : count_below (λ z. is_before us z y || is_under us z y) (length us)
    ≡ count_below (λ z. is_before us z y) (length us) + count_below (λ z. is_under us z y) (length us) =
    count_below-or (λ z. is_before us z y) (λ z. is_under us z y) (length us)
    (λ z l e. elim (cases_Bool (is_under us z y)) [ inl u ↦ absurd (false≢true (sym (under-not_before us t z y l u) ∙ e)) | inr u ↦ u ]) in
    let more : count_below (λ z. is_before us z y || is_under us z y) (length us) ≤ count_below (λ z. is_before us z x) (length us) =
    count_below-more (λ z. is_before us z y || is_under us z y) (λ z. is_before us z x) (length us)
    (λ z l e. elim (or_cases (is_before us z y) (is_under us z y) e) [
      | inl before ↦ before-trans us z y x before second
      | inr u ↦ beyond-subtree us t x z y h l u not_under ∙ second
    ]) in
    omega arith

pub order-outside : (us : List UnitRow) → IsTree us → (x y : ℕ) → x < length us → y < length us → is_under us x y ≡ false
    → (order_of us x < order_of us y) ⊎ (order_of us y + size_of us y ≤ order_of us x)
order-outside us t x y h i not_under =
    elim (before-total us t x y h i) [
      | inl same ↦ absurd (false≢true (sym not_under ∙ subst (λ (v : ℕ). is_under us x v ≡ true) same (under-itself us x h)))
      | inr apart ↦
          elim apart [
            | inl first ↦ inl (order-before us t x y h first)
            | inr second ↦ inr (behind_all us t x y h i not_under second)
          ]
    ]

-- x is under y exactly where its place lies in y's interval
pub under-interval : (us : List UnitRow) → IsTree us → (x y : ℕ) → x < length us → y < length us
    → is_under us x y ≡ (nat_le (order_of us y) (order_of us x) && nat_lt (order_of us x) (order_of us y + size_of us y))
under-interval us t x y h i =
    elim (cases_Bool (is_under us x y)) [
      | inl under ↦
          let lies = order-under us t x y h i under in
          under ∙ sym (and_from _ _ (le-leb _ _ lies.0) (lt-ltb _ _ lies.1))
      | inr not_under ↦
          not_under ∙ sym (elim (order-outside us t x y h i not_under) [
            | inl left ↦ and_left _ _ (lt-leb _ _ left)
            | inr right ↦ and_right _ _ (le-ltb _ _ right)
          ])
    ]

-- every unit is under the root
pub under-root : (us : List UnitRow) → IsTree us → (r x : ℕ) → r < length us → parent_of us r ≡ None → x < length us → is_under us x r ≡ true
under-root us t r x i top h =
    tree_induction us t (λ x. is_under us x r ≡ true)
    (λ x h none. is_under-root us x r h none ∙ eq-eqb x r (t.one_root x r h i none top))
    (λ x p h in_range up above. is_under-child us t x p r h up ∙ or_right (x == r) (is_under us p r) above)
    x h

pub order-root : (us : List UnitRow) → IsTree us → (r : ℕ) → r < length us → parent_of us r ≡ None → order_of us r ≡ 0
unfolding order_of
order-root us t r h top =
    count_below-none (λ z. is_before us z r) (length us) (λ z l. under-not_before us t z r l (under-root us t r z h top l))

-- whoever is below p is under one child of p, and its way goes through it
pub child_on_way : (us : List UnitRow) → IsTree us → (z p : ℕ) → z < length us → is_under us z p ≡ true → ¬ (z ≡ p)
    → (s : ℕ) × ((s < length us) × ((parent_of us s ≡ Some p) × ((rest : List ℕ) × (way_to us z ≡ way_to us p ++ s ∷ rest))))
child_on_way us t z p h under =
    tree_induction us t (λ z. is_under us z p ≡ true → ¬ (z ≡ p)
    → (s : ℕ) × ((s < length us) × ((parent_of us s ≡ Some p) × ((rest : List ℕ) × (way_to us z ≡ way_to us p ++ s ∷ rest)))))
    (λ z h top under apart. absurd (apart (eqb-true z p (sym (is_under-root us z p h top) ∙ under))))
    (λ z q h in_range up above under apart.
    elim (or_cases (z == p) (is_under us q p) (sym (is_under-child us t z q p h up) ∙ under)) [
      | inl here ↦ absurd (apart (eqb-true z p here))
      | inr higher ↦
          elim (cases_eq q p) [
            | inl at_p ↦ (z, (h, (up ∙ ap Some at_p, ([], way_to-child us t z q h up ∙ ap (λ (v : ℕ). way_to us v ++ z ∷ []) at_p))))
            | inr below ↦
                let more = above higher below in (
                  more.0,
                  (
                    more.1.0,
                    (
                      more.1.1.0,
                      (
                        more.1.1.1.0 ++ z ∷ [],
                        way_to-child us t z q h up ∙ ap (λ w. w ++ z ∷ []) more.1.1.1.1
                            ∙ append_assoc (way_to us p) (more.0 ∷ more.1.1.1.0) (z ∷ []),
                      ),
                    ),
                  ),
                )
          ]
    ])
    z h under

-- with a prefix in common, ways stand as what follows it
ahead-common : (us : List UnitRow) (front way other : List ℕ) → ahead us (front ++ way) (front ++ other) ≡ ahead us way other
ahead-common us [] way other = refl
ahead-common us (a ∷ front) way other = rw (eq-eqb a a refl) (ahead-common us front way other)

-- a parent comes before its children
pub parent-before : (us : List UnitRow) → IsTree us → (c p : ℕ) → c < length us → parent_of us c ≡ Some p → is_before us p c ≡ true
parent-before us t c p h up =
    is_before-ahead us t p c (t.parent_in_range c p up) h
    ∙ ap (λ w. ahead us w (way_to us c)) (sym (append-nil (way_to us p)))
    ∙ ap (ahead us (way_to us p ++ [])) (way_to-child us t c p h up)
    ∙ ahead-common us (way_to us p) [] (c ∷ [])

pub under-parent : (us : List UnitRow) → IsTree us → (c p : ℕ) → c < length us → parent_of us c ≡ Some p → is_under us c p ≡ true
under-parent us t c p h up =
    is_under-child us t c p p h up ∙ or_right (c == p) (is_under us p p) (under-itself us p (t.parent_in_range c p up))

-- a sibling's UID is the smaller one
abbrev pub is_elder : List UnitRow → ℕ → ℕ → Bool
is_elder us a b = is_lt (by_id us a b)

ahead-at : (us : List UnitRow) (v : ℕ) (rest : List ℕ) (c : ℕ) → ahead us (v ∷ rest) (c ∷ []) ≡ cond (v == c) false (is_elder us v c)
ahead-at us v rest c = refl

-- below p, before its child c: at a unit whose way goes through the child v
pub before-child : (us : List UnitRow) → IsTree us → (z p v c : ℕ) (rest : List ℕ) → z < length us → c < length us → parent_of us c ≡ Some p
    → way_to us z ≡ way_to us p ++ v ∷ rest → is_before us z c ≡ cond (v == c) false (is_elder us v c)
before-child us t z p v c rest h i up through =
    is_before-ahead us t z c h i ∙ ap (λ w. ahead us w (way_to us c)) through
    ∙ ap (ahead us (way_to us p ++ v ∷ rest)) (way_to-child us t c p i up)
    ∙ ahead-common us (way_to us p) (v ∷ rest) (c ∷ []) ∙ ahead-at us v rest c

-- the first child comes right after its parent
pub order-first_child : (us : List UnitRow) → IsTree us → (c p : ℕ) → c < length us → parent_of us c ≡ Some p
    → ((v : ℕ) → v < length us → parent_of us v ≡ Some p → is_elder us v c ≡ false) → order_of us c ≡ order_of us p + 1
unfolding order_of
order-first_child us t c p h up no_elder =
    let in_range : p < length us = t.parent_in_range c p up in
    let split : count_below (λ z. is_before us z c) (length us) ≡ count_below (λ z. is_before us z p || (z == p)) (length us) =
    count_below-agree (λ z. is_before us z c) (λ z. is_before us z p || (z == p)) (length us)
    (λ z l. elim (cases_eq z p) [
      | inl here ↦
          subst (λ (v : ℕ). is_before us v c ≡ (is_before us v p || (v == p))) (sym here)
          (parent-before us t c p h up ∙ sym (or_right (is_before us p p) (p == p) (eq-eqb p p refl)))
      | inr other ↦
          let missed : (z == p) ≡ false = ne_eqb z p other in
          elim (cases_Bool (is_under us z p)) [
            | inl under ↦
                let child = child_on_way us t z p l under other in
                let v = child.0 in
                before-child us t z p v c child.1.1.1.0 l h up child.1.1.1.1
                ∙ ap (cond (v == c) false) (no_elder v child.1.0 child.1.1.0) ∙ cond_same (v == c) false
                ∙ sym (ap (λ b. b || (z == p)) (under-not_before us t z p l under) ∙ missed)
            | inr outside ↦
                before-in_subtree us t z c p l h (under-parent us t c p h up) outside
                ∙ sym (ap (λ b. is_before us z p || b) missed ∙ or_none (is_before us z p))
          ]
    ]) in
    let sum : count_below (λ z. is_before us z p || (z == p)) (length us)
    ≡ count_below (λ z. is_before us z p) (length us) + count_below (λ z. z == p) (length us) =
    count_below-or (λ z. is_before us z p) (λ z. z == p) (length us)
    (λ z l e. ne_eqb z p (λ same. false≢true (sym (before-not_itself us t p in_range) ∙ subst (λ (v : ℕ). is_before us v p ≡ true) same e))) in
    let one : count_below (λ z. z == p) (length us) ≡ 1 = count_below-one p (length us) in_range in
    omega arith
  where
    cond_same : (b v : Bool) → cond b v v ≡ v
    cond_same true v = refl
    cond_same false v = refl

    or_none : (b : Bool) → (b || false) ≡ b
    or_none true = refl
    or_none false = refl

elder-not_back : (us : List UnitRow) (a b : ℕ) → is_elder us a b ≡ true → is_elder us b a ≡ false
elder-not_back us a b e = turned (by_id us a b) (by_id us b a) (nat_list_cmp_total.antisymm (id_at us b) (id_at us a)) e
  where
    turned : (o back : Ordering) → back ≡ ordering_reverse o → is_lt o ≡ true → is_lt back ≡ false
    turned Less back r e = ap is_lt r
    turned Equal back r e = absurd (false≢true e)
    turned Greater back r e = absurd (false≢true e)

elder-trans : (us : List UnitRow) (a b c : ℕ) → is_elder us a b ≡ true → is_elder us b c ≡ true → is_elder us a c ≡ true
elder-trans us a b c e f = ap is_lt (nat_list_cmp_total.trans (id_at us a) (id_at us b) (id_at us c) (less_from (by_id us a b) e) (less_from (by_id us b c) f))
  where
    less_from : (o : Ordering) → is_lt o ≡ true → o ≡ Less
    less_from Less e = refl
    less_from Equal e = absurd (false≢true e)
    less_from Greater e = absurd (false≢true e)

pub elder-not_itself : (us : List UnitRow) (a : ℕ) → is_elder us a a ≡ false
elder-not_itself us a = elim (cases_Bool (is_elder us a a)) [ inl e ↦ elder-not_back us a a e | inr e ↦ e ]

-- of a unit whose way goes through the child v, whether it is under the child s
pub under-child : (us : List UnitRow) → IsTree us → (z p v s : ℕ) (rest : List ℕ) → z < length us → s < length us → parent_of us s ≡ Some p
    → way_to us z ≡ way_to us p ++ v ∷ rest → is_under us z s ≡ (v == s)
under-child us t z p v s rest h i up through =
    elim (cases_eq v s) [
      | inl same ↦
          let here : way_to us z ≡ way_to us s ++ rest =
          through ∙ ap (λ (u : ℕ). way_to us p ++ u ∷ rest) same
          ∙ sym (ap (λ w. w ++ rest) (way_to-child us t s p i up) ∙ append_assoc (way_to us p) (s ∷ []) rest) in
          under-from_front us z s rest i here ∙ sym (eq-eqb v s same)
      | inr other ↦
          elim (cases_Bool (is_under us z s)) [
            | inr outside ↦ outside ∙ sym (ne_eqb v s other)
            | inl under ↦
                let front = front-from_under us t z s h under in
                let whole : way_to us p ++ v ∷ rest ≡ way_to us p ++ s ∷ front.1.0 =
                sym through ∙ front.1.1 ∙ ap (λ w. w ++ front.1.0) (way_to-child us t s p i up) ∙ append_assoc (way_to us p) (s ∷ []) front.1.0 in
                let tails : v ∷ rest ≡ s ∷ front.1.0 = append_cancel_left (way_to us p) (v ∷ rest) (s ∷ front.1.0) whole in
                absurd (other (let e : v ≡ s = cc in e))
          ]
    ]

-- the next child comes right after the subtree of the one before it
pub order-next_child : (us : List UnitRow) → IsTree us → (c s p : ℕ) → c < length us → s < length us → parent_of us c ≡ Some p → parent_of us s ≡ Some p
    → is_elder us s c ≡ true → ((v : ℕ) → v < length us → parent_of us v ≡ Some p → is_elder us v c ≡ true → (v ≡ s) ⊎ (is_elder us v s ≡ true))
    → order_of us c ≡ order_of us s + size_of us s
unfolding order_of size_of
order-next_child us t c s p h i up_c up_s elder nearest =
    let split : count_below (λ z. is_before us z c) (length us) ≡ count_below (λ z. is_before us z s || is_under us z s) (length us) =
    count_below-agree (λ z. is_before us z c) (λ z. is_before us z s || is_under us z s) (length us)
    (λ z l. elim (cases_Bool (is_under us z p)) [
      | inr outside ↦
          let not_s : is_under us z s ≡ false = by_cases z l outside in
          before-in_subtree us t z c p l h (under-parent us t c p h up_c) outside
          ∙ sym (ap (λ b. is_before us z s || b) not_s ∙ or_none (is_before us z s) ∙ before-in_subtree us t z s p l i (under-parent us t s p i up_s) outside)
      | inl under ↦
          elim (cases_eq z p) [
            | inl here ↦
                subst (λ (v : ℕ). is_before us v c ≡ (is_before us v s || is_under us v s)) (sym here)
                (parent-before us t c p h up_c ∙ sym (ap (λ b. b || is_under us p s) (parent-before us t s p i up_s)))
            | inr other ↦
                let child = child_on_way us t z p l under other in
                let v = child.0 in
                before-child us t z p v c child.1.1.1.0 l h up_c child.1.1.1.1
                ∙ through v child.1.0 child.1.1.0
                ∙ sym (ap (λ b. b || is_under us z s) (before-child us t z p v s child.1.1.1.0 l i up_s child.1.1.1.1)
                ∙ ap (λ b. cond (v == s) false (is_elder us v s) || b) (under-child us t z p v s child.1.1.1.0 l i up_s child.1.1.1.1))
          ]
    ]) in
    let sum : count_below (λ z. is_before us z s || is_under us z s) (length us)
    ≡ count_below (λ z. is_before us z s) (length us) + count_below (λ z. is_under us z s) (length us) =
    count_below-or (λ z. is_before us z s) (λ z. is_under us z s) (length us)
    (λ z l e. elim (cases_Bool (is_under us z s)) [ inl u ↦ absurd (false≢true (sym (under-not_before us t z s l u) ∙ e)) | inr u ↦ u ]) in
    split ∙ sum
  where
    or_none : (b : Bool) → (b || false) ≡ b
    or_none true = refl
    or_none false = refl

    by_cases : (z : ℕ) → z < length us → is_under us z p ≡ false → is_under us z s ≡ false
    by_cases z l outside =
        elim (cases_Bool (is_under us z s)) [
          | inr no_under ↦ no_under
          | inl u ↦ absurd (false≢true (sym outside ∙ under-trans us t z s p l u (under-parent us t s p i up_s)))
        ]

    c_is_not_s : ¬ (c ≡ s)
    c_is_not_s same = false≢true (sym (elder-not_itself us s) ∙ subst (λ (v : ℕ). is_elder us s v ≡ true) same elder)

    through : (v : ℕ) → v < length us → parent_of us v ≡ Some p → cond (v == c) false (is_elder us v c) ≡ (cond (v == s) false (is_elder us v s) || (v == s))
    through v l up =
        elim (cases_eq v s) [
          | inl at_s ↦
              let test_s : (v == s) ≡ true = eq-eqb v s at_s in
              let test_c : (v == c) ≡ false = ne_eqb v c (λ e. c_is_not_s (sym e ∙ at_s)) in
              let sooner : is_elder us v c ≡ true = subst (λ (w : ℕ). is_elder us w c ≡ true) (sym at_s) elder in
              rw (test_s, test_c) sooner
          | inr not_s ↦
              let test_s : (v == s) ≡ false = ne_eqb v s not_s in
              elim (cases_eq v c) [
                | inl at_c ↦
                    let test_c : (v == c) ≡ true = eq-eqb v c at_c in
                    let later : is_elder us v s ≡ false = subst (λ (w : ℕ). is_elder us w s ≡ false) (sym at_c) (elder-not_back us s c elder) in
                    rw (test_s, test_c, later) refl
                | inr not_c ↦
                    let test_c : (v == c) ≡ false = ne_eqb v c not_c in
                    let same : is_elder us v c ≡ is_elder us v s =
                    both_ways (is_elder us v c) (is_elder us v s)
                    (λ e. elim (nearest v l up e) [ inl at_s ↦ absurd (not_s at_s) | inr sooner ↦ sooner ])
                    (λ e. elder-trans us v s c e elder) in
                    rw (test_s, test_c) (same ∙ sym (or_none (is_elder us v s)))
              ]
        ]

-- a subtree ends within the walk
pub order-end : (us : List UnitRow) → IsTree us → (x : ℕ) → x < length us → order_of us x + size_of us x ≤ length us
unfolding order_of size_of
order-end us t x h =
    let sum : count_below (λ z. is_before us z x || is_under us z x) (length us)
    ≡ count_below (λ z. is_before us z x) (length us) + count_below (λ z. is_under us z x) (length us) =
    count_below-or (λ z. is_before us z x) (λ z. is_under us z x) (length us)
    (λ z l e. elim (cases_Bool (is_under us z x)) [ inl u ↦ absurd (false≢true (sym (under-not_before us t z x l u) ∙ e)) | inr u ↦ u ]) in
    let most : count_below (λ z. is_before us z x || is_under us z x) (length us) ≤ length us =
    count_below-le (λ z. is_before us z x || is_under us z x) (length us) in
    omega arith
