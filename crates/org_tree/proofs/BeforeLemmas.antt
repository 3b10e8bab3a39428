-- The order of the walk, read off the ways from the root.
use Rattle.std.proofs.Common.{◌≡◌, ◌⊎◌, ℕ, ◌<◌, Bool, true, false, cond, ◌==◌, ◌&&◌, List, [], ◌∷◌, ◌++◌, map, length, Ordering, refl, sym, ap, ◌∙◌, inl, inr}
use Rattle.std.specs.declared.cmp.Ordering.TheVariants.{Less, Equal, Greater}
use Rattle.std.specs.Cmp.{IsTotalOrder}
use Rattle.std.specs.Ordering.{nat_cmp, is_lt, ordering_then, ordering_reverse}
use Rattle.std.specs.Cmp.Lexicographic.{slice_cmp}
use Rattle.std.proofs.lemmas.Bool.{cases_eq, cases_Bool, false≢true, eq-eqb, ne_eqb, eqb-true, and_parts}
use Rattle.std.proofs.lemmas.Cmp.{nat_list_cmp_total, lists_total, tied_itself}
use Rattle.std.proofs.lemmas.Map.Lookups.{exact_bytes}
use Rattle.std.proofs.lemmas.List.{map-append, same_from_push}
use Rattle.org_tree.specs.Units.{UnitRow, id_at, is_under, trail_of, is_before, IsTree}
use Rattle.org_tree.proofs.WayLemmas.{way_to, way_to-child, way_to-root, way_to-last, trail_of-way, tree_induction, front-from_under, under-from_front}
use Rattle.org_tree.proofs.WayLemmas.{under-itself}

abbrev pub by_id : List UnitRow → ℕ → ℕ → Ordering
by_id us a b = slice_cmp nat_cmp (id_at us a) (id_at us b)

-- two ways in the order of the walk, by places
abbrev pub ahead : List UnitRow → List ℕ → List ℕ → Bool
ahead us way [] = false
ahead us [] (b ∷ bs) = true
ahead us (a ∷ rest) (b ∷ bs) = cond (a == b) (ahead us rest bs) (is_lt (by_id us a b))

-- every place on a way is a unit's
abbrev AreUnits : List UnitRow → List ℕ → Type 0
AreUnits us [] = Unit {0}
AreUnits us (a ∷ way) = (a < length us) × AreUnits us way

AreUnits-push : (us : List UnitRow) (way : List ℕ) (x : ℕ) → AreUnits us way → x < length us → AreUnits us (way ++ x ∷ [])
AreUnits-push us [] x all h = (h, tt)
AreUnits-push us (a ∷ way) x all h = (all.0, AreUnits-push us way x all.1 h)

way-AreUnits : (us : List UnitRow) → IsTree us → (x : ℕ) → x < length us → AreUnits us (way_to us x)
way-AreUnits us t x h =
    tree_induction us t (λ x. AreUnits us (way_to us x))
    (λ x h top. rw (way_to-root us x h top) (h, tt))
    (λ x p h in_range up above. rw (way_to-child us t x p h up) (AreUnits-push us (way_to us p) x above h))
    x h

-- at one unit the UIDs are equal, at two they differ
lt-then : (o rest : Ordering) → ¬ (o ≡ Equal) → is_lt (ordering_then o rest) ≡ is_lt o
lt-then Less rest ne = refl
lt-then Equal rest ne = absurd (ne refl)
lt-then Greater rest ne = refl

ahead-ids : (us : List UnitRow) → IsTree us → (ways bs : List ℕ) → AreUnits us ways → AreUnits us bs
    → is_lt (slice_cmp (slice_cmp nat_cmp) (map (id_at us) ways) (map (id_at us) bs)) ≡ ahead us ways bs
ahead-ids us t [] [] all others = refl
ahead-ids us t [] (b ∷ bs) all others = refl
ahead-ids us t (a ∷ rest) [] all others = refl
ahead-ids us t (a ∷ rest) (b ∷ bs) all others =
    let tail : is_lt (slice_cmp (slice_cmp nat_cmp) (map (id_at us) rest) (map (id_at us) bs)) ≡ ahead us rest bs = ahead-ids us t rest bs all.1 others.1 in
    elim (cases_eq a b) [
      | inl same ↦
          let test : (a == b) ≡ true = eq-eqb a b same in
          let tie : by_id us a b ≡ Equal = ap (by_id us a) (sym same) ∙ tied_itself nat_list_cmp_total (id_at us a) in
          rw (test, tie) tail
      | inr other ↦
          let test : (a == b) ≡ false = ne_eqb a b other in
          let apart : ¬ (by_id us a b ≡ Equal) = λ tie. other (t.ids_differ a b all.0 others.0 (exact_bytes (id_at us a) (id_at us b) tie)) in
          rw test (lt-then (by_id us a b) _ apart)
    ]

pub is_before-ahead : (us : List UnitRow) → IsTree us → (x y : ℕ) → x < length us → y < length us → is_before us x y ≡ ahead us (way_to us x) (way_to us y)
unfolding is_before
is_before-ahead us t x y h i =
    ap (λ w. is_lt (slice_cmp (slice_cmp nat_cmp) w (trail_of us y))) (trail_of-way us x)
    ∙ ap (λ w. is_lt (slice_cmp (slice_cmp nat_cmp) (map (id_at us) (way_to us x)) w)) (trail_of-way us y)
    ∙ ahead-ids us t (way_to us x) (way_to us y) (way-AreUnits us t x h) (way-AreUnits us t y i)

-- whether a way begins with another
abbrev is_front : List ℕ → List ℕ → Bool
is_front [] way = true
is_front (a ∷ front) [] = false
is_front (a ∷ front) (b ∷ way) = (a == b) && is_front front way

rest-from_front : (front way : List ℕ) → is_front front way ≡ true → (rest : List ℕ) × (way ≡ front ++ rest)
rest-from_front [] way is = (way, refl)
rest-from_front (a ∷ front) [] is = absurd (false≢true is)
rest-from_front (a ∷ front) (b ∷ way) is =
    let parts = and_parts (a == b) (is_front front way) is in
    let more = rest-from_front front way parts.1 in
    (more.0, let same : a ≡ b = eqb-true a b parts.0 in let e = more.1 in cc)

ahead-front : (us : List UnitRow) (front rest : List ℕ) → ahead us (front ++ rest) front ≡ false
ahead-front us [] rest = refl
ahead-front us (a ∷ front) rest = rw (eq-eqb a a refl) (ahead-front us front rest)

-- what is below another way's end stands to a way that doesn't begin with that other as that other does
ahead-below_right : (us : List UnitRow) (way front rest : List ℕ) → is_front front way ≡ false → ahead us way (front ++ rest) ≡ ahead us way front
ahead-below_right us way [] rest not_front = absurd (false≢true (sym not_front))
ahead-below_right us [] (a ∷ front) rest not_front = refl
ahead-below_right us (b ∷ way) (a ∷ front) rest not_front =
    elim (cases_eq b a) [
      | inl same ↦
          let test : (b == a) ≡ true = eq-eqb b a same in
          let back : (a == b) ≡ true = eq-eqb a b (sym same) in
          let deeper : is_front front way ≡ false = ap (λ v. v && is_front front way) (sym back) ∙ not_front in
          rw test (ahead-below_right us way front rest deeper)
      | inr other ↦
          let test : (b == a) ≡ false = ne_eqb b a other in
          rw test refl
    ]

ahead-below_left : (us : List UnitRow) (way front rest : List ℕ) → is_front front way ≡ false → ahead us (front ++ rest) way ≡ ahead us front way
ahead-below_left us way [] rest not_front = absurd (false≢true (sym not_front))
ahead-below_left us [] (a ∷ front) rest not_front = refl
ahead-below_left us (b ∷ way) (a ∷ front) rest not_front =
    elim (cases_eq a b) [
      | inl same ↦
          let test : (a == b) ≡ true = eq-eqb a b same in
          let deeper : is_front front way ≡ false = ap (λ v. v && is_front front way) (sym test) ∙ not_front in
          rw test (ahead-below_left us way front rest deeper)
      | inr other ↦
          let test : (a == b) ≡ false = ne_eqb a b other in
          rw test refl
    ]

-- who isn't under y has a way that doesn't begin with y's
front-not_under : (us : List UnitRow) (z y : ℕ) → y < length us → is_under us z y ≡ false → is_front (way_to us y) (way_to us z) ≡ false
front-not_under us z y h not_under =
    elim (cases_Bool (is_front (way_to us y) (way_to us z))) [
      | inl front ↦
          let more = rest-from_front (way_to us y) (way_to us z) front in
          absurd (false≢true (sym not_under ∙ under-from_front us z y more.0 h more.1))
      | inr other ↦ other
    ]

-- who is under y doesn't come before y
pub under-not_before : (us : List UnitRow) → IsTree us → (z y : ℕ) → z < length us → is_under us z y ≡ true → is_before us z y ≡ false
under-not_before us t z y h under =
    let front = front-from_under us t z y h under in
    is_before-ahead us t z y h front.0 ∙ ap (λ w. ahead us w (way_to us y)) front.1.1 ∙ ahead-front us (way_to us y) front.1.0

-- a unit outside y's subtree comes before one in it exactly where it comes before y
pub before-in_subtree : (us : List UnitRow) → IsTree us → (z x y : ℕ) → z < length us → x < length us → is_under us x y ≡ true → is_under us z y ≡ false
    → is_before us z x ≡ is_before us z y
before-in_subtree us t z x y h i under not_under =
    let front = front-from_under us t x y i under in
    is_before-ahead us t z x h i ∙ ap (ahead us (way_to us z)) front.1.1
    ∙ ahead-below_right us (way_to us z) (way_to us y) front.1.0 (front-not_under us z y front.0 not_under)
    ∙ sym (is_before-ahead us t z y h front.0)

-- and comes after one in it exactly where it comes after y
pub beyond-subtree : (us : List UnitRow) → IsTree us → (z x y : ℕ) → z < length us → x < length us → is_under us x y ≡ true → is_under us z y ≡ false
    → is_before us x z ≡ is_before us y z
beyond-subtree us t z x y h i under not_under =
    let front = front-from_under us t x y i under in
    is_before-ahead us t x z i h ∙ ap (λ w. ahead us w (way_to us z)) front.1.1
    ∙ ahead-below_left us (way_to us z) (way_to us y) front.1.0 (front-not_under us z y front.0 not_under)
    ∙ sym (is_before-ahead us t y z front.0 h)

trails_total : IsTotalOrder (slice_cmp (slice_cmp nat_cmp))
trails_total = lists_total nat_list_cmp_total

less_from : (o : Ordering) → is_lt o ≡ true → o ≡ Less
less_from Less e = refl
less_from Equal e = absurd (false≢true e)
less_from Greater e = absurd (false≢true e)

pub before-trans : (us : List UnitRow) (x y z : ℕ) → is_before us x y ≡ true → is_before us y z ≡ true → is_before us x z ≡ true
unfolding is_before
before-trans us x y z first then =
    ap is_lt (trails_total.trans (trail_of us x) (trail_of us y) (trail_of us z) (less_from _ first) (less_from _ then))

pub before-not_itself : (us : List UnitRow) → IsTree us → (x : ℕ) → x < length us → is_before us x x ≡ false
before-not_itself us t x h = under-not_before us t x x h (under-itself us x h)

exact_trails : (ways bs : List (List ℕ)) → slice_cmp (slice_cmp nat_cmp) ways bs ≡ Equal → ways ≡ bs
exact_trails [] [] e = refl
exact_trails [] (b ∷ bs) e = absurd (cc)
exact_trails (a ∷ rest) [] e = absurd (cc)
exact_trails (a ∷ rest) (b ∷ bs) e = by_head (slice_cmp nat_cmp a b) (slice_cmp (slice_cmp nat_cmp) rest bs) (exact_bytes a b) (exact_trails rest bs) e
  where
    by_head : (o more : Ordering) → (o ≡ Equal → a ≡ b) → (more ≡ Equal → rest ≡ bs) → ordering_then o more ≡ Equal → a ∷ rest ≡ b ∷ bs
    by_head Less more head tail e = absurd (cc)
    by_head Equal more head tail e = let h = head refl in let s = tail e in cc
    by_head Greater more head tail e = absurd (cc)

-- of two different units one comes before the other
pub before-total : (us : List UnitRow) → IsTree us → (x y : ℕ) → x < length us → y < length us
    → (x ≡ y) ⊎ ((is_before us x y ≡ true) ⊎ (is_before us y x ≡ true))
unfolding is_before
before-total us t x y h i =
    by_order (slice_cmp (slice_cmp nat_cmp) (trail_of us x) (trail_of us y)) (slice_cmp (slice_cmp nat_cmp) (trail_of us y) (trail_of us x))
    (trails_total.antisymm (trail_of us y) (trail_of us x)) (λ tie. same_unit (exact_trails (trail_of us x) (trail_of us y) tie))
  where
    same_unit : trail_of us x ≡ trail_of us y → x ≡ y
    same_unit e =
        let last_x = way_to-last us x h in
        let last_y = way_to-last us y i in
        let ids_x : trail_of us x ≡ map (id_at us) last_x.0 ++ id_at us x ∷ [] =
        trail_of-way us x ∙ ap (map (id_at us)) last_x.1 ∙ map-append (id_at us) last_x.0 (x ∷ []) in
        let ids_y : trail_of us y ≡ map (id_at us) last_y.0 ++ id_at us y ∷ [] =
        trail_of-way us y ∙ ap (map (id_at us)) last_y.1 ∙ map-append (id_at us) last_y.0 (y ∷ []) in
        t.ids_differ x y h i (same_from_push _ _ _ _ (sym ids_x ∙ e ∙ ids_y)).1

    by_order : (o back : Ordering) → back ≡ ordering_reverse o → (o ≡ Equal → x ≡ y) → (x ≡ y) ⊎ ((is_lt o ≡ true) ⊎ (is_lt back ≡ true))
    by_order Less back turned tie = inr (inl refl)
    by_order Equal back turned tie = inl (tie refl)
    by_order Greater back turned tie = inr (inr (ap is_lt turned))
