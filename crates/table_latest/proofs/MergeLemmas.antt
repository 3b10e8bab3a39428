-- Two lists in one order, of which the second is taken in from its end.
use Rattle.std.proofs.Common.{◌≡◌, ◌∙◌, ℕ, suc, ◌-◌, Bool, true, false, cond, List, [], ◌∷◌, ◌++◌, length, slice_get, Option, Some, None, arith}
use Rattle.std.proofs.Common.{reverse, refl, sym, ap, subst, append_assoc, Ordering, Less, Equal, Greater}
use Rattle.std.specs.Cmp.{IsTotalOrder}
use Rattle.std.specs.List.{AllByRecursion}
use Rattle.std.specs.List.Sorted.{IsStrictlySortedBy}
use Rattle.std.specs.Ordering.{is_lt, is_gt, ordering_reverse}
use Rattle.std.proofs.lemmas.List.{append-nil, reverse-append}
use Rattle.table_sums.specs.Ascending.{put_in, ascending}
use Rattle.table_sums.proofs.AscendingLemmas.{every-append, every-to, ascending-every, ascending-sorted}
use Rattle.table_latest.specs.Merged.{TakesAbove}
use Rattle.table_latest.proofs.OrderLemmas.{turned-less}

pub every-front : {X : Type 0} (P : X → Type 0) (xs ys : List X) → AllByRecursion P (xs ++ ys) → AllByRecursion P xs
every-front P [] ys all = tt
every-front P (x ∷ xs) ys all = (all.0, every-front P xs ys all.1)

every-last : {X : Type 0} (P : X → Type 0) (xs : List X) (y : X) → AllByRecursion P (xs ++ y ∷ []) → P y
every-last P [] y all = all.0
every-last P (x ∷ xs) y all = every-last P xs y all.1

less-is : (o : Ordering) → is_lt o ≡ true → o ≡ Less
less-is Less e = refl
less-is Equal e = absurd (cc)
less-is Greater e = absurd (cc)

not-gt : (o : Ordering) → is_lt (ordering_reverse o) ≡ false → is_gt o ≡ false
not-gt Less e = refl
not-gt Equal e = refl
not-gt Greater e = absurd (cc)

same-member : {X : Type 0} (x a : X) → Some x ≡ Some a → x ≡ a
same-member {X = X} x a e = ap (either x) e
  where
    either : X → Option X → X
    either d None = d
    either d (Some y) = y

module _ {X : Type 0} (cmp : X → X → Ordering) where
  pub sorted-front : (xs : List X) (y : X) → IsStrictlySortedBy cmp (xs ++ y ∷ []) → IsStrictlySortedBy cmp xs
  unfolding IsStrictlySortedBy
  sorted-front [] y sorted = tt
  sorted-front (x ∷ xs) y sorted = (every-front (λ z. cmp x z ≡ Less) xs (y ∷ []) sorted.0, sorted-front xs y sorted.1)

  pub sorted-last : (xs : List X) (y : X) → IsStrictlySortedBy cmp (xs ++ y ∷ []) → AllByRecursion (λ z. cmp z y ≡ Less) xs
  unfolding IsStrictlySortedBy
  sorted-last [] y sorted = tt
  sorted-last (x ∷ xs) y sorted = (every-last (λ z. cmp x z ≡ Less) xs y sorted.0, sorted-last xs y sorted.1)

  put_in-last : (x : X) (ys : List X) → AllByRecursion (λ y. is_gt (cmp x y) ≡ true) ys → put_in cmp x ys ≡ ys ++ x ∷ []
  put_in-last x [] all = refl
  put_in-last x (y ∷ ys) all = ap (λ b. cond b (y ∷ put_in cmp x ys) (x ∷ y ∷ ys)) all.0 ∙ ap (λ v. y ∷ v) (put_in-last x ys all.1)

  put_in-before : (x y : X) (xs : List X) → is_gt (cmp x y) ≡ false → put_in cmp x (xs ++ y ∷ []) ≡ put_in cmp x xs ++ y ∷ []
  put_in-before x y [] upto = ap (λ b. cond b (y ∷ x ∷ []) (x ∷ y ∷ [])) upto
  put_in-before x y (z ∷ zs) upto = by_order (is_gt (cmp x z)) (put_in-before x y zs upto)
    where
      by_order : (b : Bool) → put_in cmp x (zs ++ y ∷ []) ≡ put_in cmp x zs ++ y ∷ []
          → cond b (z ∷ put_in cmp x (zs ++ y ∷ [])) (x ∷ z ∷ (zs ++ y ∷ [])) ≡ cond b (z ∷ put_in cmp x zs) (x ∷ z ∷ zs) ++ y ∷ []
      by_order true rest = ap (λ v. z ∷ v) rest
      by_order false rest = refl

  -- what no other stands after comes last
  ascending-end : (zs : List X) (x : X) → AllByRecursion (λ z. is_gt (cmp z x) ≡ false) zs → ascending cmp (zs ++ x ∷ []) ≡ ascending cmp zs ++ x ∷ []
  ascending-end [] x all = refl
  ascending-end (z ∷ zs) x all = ap (put_in cmp z) (ascending-end zs x all.1) ∙ put_in-before z x (ascending cmp zs) all.0

  -- a loop's state: what was moved so far
  pub record Taking (x : X) (old new back back' : List X) : Type 0 where
    pub order : IsStrictlySortedBy cmp new
    pub moved : (more : List X) → AllByRecursion (λ z. cmp z x ≡ Less) more
        → ascending cmp (new ++ (more ++ x ∷ [])) ++ reverse back' ≡ ascending cmp (old ++ (more ++ x ∷ [])) ++ reverse back

  -- a loop's state: what was taken in so far
  pub record Merging (first second list more back : List X) : Type 0 where
    pub held : ascending cmp (list ++ more) ++ reverse back ≡ ascending cmp (first ++ second)
    pub list_order : IsStrictlySortedBy cmp list
    pub more_order : IsStrictlySortedBy cmp more

  module _ (total : IsTotalOrder cmp) where
    -- wherever it stood
    ascending-above : (front : List X) (y : X) (more : List X) → AllByRecursion (λ z. cmp z y ≡ Less) front → AllByRecursion (λ z. cmp z y ≡ Less) more
        → ascending cmp (front ++ y ∷ more) ≡ ascending cmp (front ++ more) ++ y ∷ []
    ascending-above [] y more before after =
        put_in-last y (ascending cmp more) (ascending-every cmp (λ z. is_gt (cmp y z) ≡ true) more
        (every-to (λ z. cmp z y ≡ Less) (λ z. is_gt (cmp y z) ≡ true) more (λ z less. ap is_gt (turned-less cmp total z y less)) after))
    ascending-above (z ∷ front) y more before after =
        ap (put_in cmp z) (ascending-above front y more before.1 after) ∙ put_in-before z y (ascending cmp (front ++ more)) (ap is_gt before.0)

    -- ---- what stands after x is moved

    pub taking-begins : (x : X) (old back : List X) → IsStrictlySortedBy cmp old → Taking x old old back back
    taking-begins x old back sorted = record { order = sorted; moved = λ more below. refl }

    turned-end : (list back : List X) (y : X) → list ++ reverse (back ++ y ∷ []) ≡ (list ++ y ∷ []) ++ reverse back
    turned-end list back y = ap (λ v. list ++ v) (reverse-append back (y ∷ [])) ∙ sym (append_assoc list (y ∷ []) (reverse back))

    pub taking-more : (x y : X) (old held new back begun back' : List X) → is_lt (cmp x y) ≡ true → held ≡ new ++ y ∷ [] → back' ≡ begun ++ y ∷ []
        → Taking x old held back begun → Taking x old new back back'
    taking-more x y old held new back begun back' above is put before =
        let sorted : IsStrictlySortedBy cmp (new ++ y ∷ []) = subst (IsStrictlySortedBy cmp) is before.order in
        let under = sorted-last new y sorted in
        let later : cmp x y ≡ Less = less-is (cmp x y) above in
        record {
          order = sorted-front new y sorted;
          moved = λ more below.
              ap (λ v. ascending cmp (new ++ (more ++ x ∷ [])) ++ reverse v) put
              ∙ turned-end (ascending cmp (new ++ (more ++ x ∷ []))) begun y
              ∙ ap (λ v. v ++ reverse begun) (sym (ascending-above new y (more ++ x ∷ []) under
              (every-append (λ z. cmp z y ≡ Less) more (x ∷ [])
              (every-to (λ z. cmp z x ≡ Less) (λ z. cmp z y ≡ Less) more (λ z less. total.trans z x y less later) below) (later, tt))))
              ∙ ap (λ v. ascending cmp v ++ reverse begun) (sym (append_assoc new (y ∷ []) (more ++ x ∷ [])))
              ∙ ap (λ v. ascending cmp (v ++ (more ++ x ∷ [])) ++ reverse begun) (sym is)
              ∙ before.moved more below;
        }

    pub taking-none : (x : X) (old held new back begun : List X) → held ≡ [] → new ≡ [] → Taking x old held back begun → TakesAbove cmp x old new back begun
    taking-none x old held new back begun none also before =
        let same : held ≡ new = none ∙ sym also in
        record {
          order = subst (IsStrictlySortedBy cmp) same before.order;
          below = subst (AllByRecursion (λ y. is_lt (cmp x y) ≡ false)) (sym also) tt;
          moved = λ more below. ap (λ v. ascending cmp (v ++ (more ++ x ∷ [])) ++ reverse begun) (sym same) ∙ before.moved more below;
        }

    not-over : (x y z : X) → is_lt (cmp x y) ≡ false → cmp z y ≡ Less → is_lt (cmp x z) ≡ false
    not-over x y z upto less = by_order (cmp x z) refl
      where
        by_order : (o : Ordering) → cmp x z ≡ o → is_lt o ≡ false
        by_order Less is = absurd (let over : is_lt (cmp x y) ≡ true = ap is_lt (total.trans x z y is less) in (cc))
        by_order Equal is = refl
        by_order Greater is = refl

    pub taking-ends : (x y : X) (old held popped new back begun : List X) → is_lt (cmp x y) ≡ false → held ≡ popped ++ y ∷ [] → new ≡ popped ++ y ∷ []
        → Taking x old held back begun → TakesAbove cmp x old new back begun
    taking-ends x y old held popped new back begun upto is again before =
        let same : held ≡ new = is ∙ sym again in
        let sorted : IsStrictlySortedBy cmp (popped ++ y ∷ []) = subst (IsStrictlySortedBy cmp) is before.order in
        record {
          order = subst (IsStrictlySortedBy cmp) same before.order;
          below = subst (AllByRecursion (λ z. is_lt (cmp x z) ≡ false)) (sym again)
              (every-append (λ z. is_lt (cmp x z) ≡ false) popped (y ∷ [])
              (every-to (λ z. cmp z y ≡ Less) (λ z. is_lt (cmp x z) ≡ false) popped (λ z less. not-over x y z upto less) (sorted-last popped y sorted))
              (upto, tt));
          moved = λ more below. ap (λ v. ascending cmp (v ++ (more ++ x ∷ [])) ++ reverse begun) (sym same) ∙ before.moved more below;
        }

    -- ---- the second list is taken in

    pub merging-begins : (first second back : List X) → IsStrictlySortedBy cmp first → IsStrictlySortedBy cmp second → back ≡ []
        → Merging first second first second back
    merging-begins first second back up over none =
        record {
          held = ap (λ v. ascending cmp (first ++ second) ++ reverse v) none ∙ append-nil (ascending cmp (first ++ second));
          list_order = up;
          more_order = over;
        }

    pub merging-more : (first second list more popped taken back moved new : List X) (x : X) → more ≡ popped ++ x ∷ [] → TakesAbove cmp x list taken back moved
        → new ≡ moved ++ x ∷ [] → Merging first second list more back → Merging first second taken popped new
    merging-more first second list more popped taken back moved new x is takes put before =
        let sorted : IsStrictlySortedBy cmp (popped ++ x ∷ []) = subst (IsStrictlySortedBy cmp) is before.more_order in
        let under = sorted-last popped x sorted in
        record {
          held = ap (λ v. ascending cmp (taken ++ popped) ++ reverse v) put
              ∙ turned-end (ascending cmp (taken ++ popped)) moved x
              ∙ ap (λ v. v ++ reverse moved) (sym (ascending-end (taken ++ popped) x
              (every-append (λ z. is_gt (cmp z x) ≡ false) taken popped
              (every-to (λ z. is_lt (cmp x z) ≡ false) (λ z. is_gt (cmp z x) ≡ false) taken
              (λ z upto. not-gt (cmp z x) (ap is_lt (sym (total.antisymm x z)) ∙ upto)) takes.below)
              (every-to (λ z. cmp z x ≡ Less) (λ z. is_gt (cmp z x) ≡ false) popped (λ z less. ap is_gt less) under))))
              ∙ ap (λ v. ascending cmp v ++ reverse moved) (append_assoc taken popped (x ∷ []))
              ∙ takes.moved popped under
              ∙ ap (λ v. ascending cmp (list ++ v) ++ reverse back) (sym is)
              ∙ before.held;
          list_order = takes.order;
          more_order = sorted-front popped x sorted;
        }

    pub merging-done : (first second list more back whole : List X) → more ≡ [] → whole ≡ list ++ reverse back → Merging first second list more back
        → whole ≡ ascending cmp (first ++ second)
    merging-done first second list more back whole none is before =
        is
        ∙ ap (λ v. v ++ reverse back) (sym (ascending-sorted cmp list before.list_order))
        ∙ ap (λ v. ascending cmp v ++ reverse back) (sym (append-nil list) ∙ ap (λ v. list ++ v) (sym none))
        ∙ before.held

    -- ---- one list after the other

    sorted-append : (xs ys : List X) → IsStrictlySortedBy cmp xs → IsStrictlySortedBy cmp ys
        → AllByRecursion (λ x. AllByRecursion (λ y. cmp x y ≡ Less) ys) xs → IsStrictlySortedBy cmp (xs ++ ys)
    unfolding IsStrictlySortedBy
    sorted-append [] ys up over all = over
    sorted-append (x ∷ xs) ys up over all = (every-append (λ y. cmp x y ≡ Less) xs ys up.0 all.0, sorted-append xs ys up.1 over all.1)

    -- what stands after the last of a list stands after all of it
    every-upto-last : (xs : List X) (a b : X) → IsStrictlySortedBy cmp xs → slice_get xs (length xs - 1) ≡ Some a → cmp a b ≡ Less
        → AllByRecursion (λ x. cmp x b ≡ Less) xs
    unfolding IsStrictlySortedBy
    every-upto-last [] a b sorted last less = tt
    every-upto-last (x ∷ []) a b sorted last less = (subst (λ v. cmp v b ≡ Less) (sym (same-member x a last)) less, tt)
    every-upto-last (x ∷ y ∷ ys) a b sorted last less =
        let n : ℕ = length (y ∷ ys) - 1 in
        let at : length (x ∷ y ∷ ys) - 1 ≡ suc n = omega arith in
        let rest = every-upto-last (y ∷ ys) a b sorted.1 (ap (slice_get (x ∷ y ∷ ys)) (sym at) ∙ last) less in
        (total.trans x y b sorted.0.0 rest.0, rest)

    every-from-first : (x b : X) (ys : List X) → IsStrictlySortedBy cmp ys → slice_get ys 0 ≡ Some b → cmp x b ≡ Less → AllByRecursion (λ y. cmp x y ≡ Less) ys
    unfolding IsStrictlySortedBy
    every-from-first x b [] sorted at less = tt
    every-from-first x b (y ∷ ys) sorted at less =
        let here : cmp x y ≡ Less = subst (λ v. cmp x v ≡ Less) (sym (same-member y b at)) less in
        (here, every-to (λ z. cmp y z ≡ Less) (λ z. cmp x z ≡ Less) ys (λ z over. total.trans x y z here over) sorted.0)

    -- where the last of one stands before the first of the other
    pub in-order : (xs ys : List X) (a b : X) → IsStrictlySortedBy cmp xs → IsStrictlySortedBy cmp ys → slice_get xs (length xs - 1) ≡ Some a
        → slice_get ys 0 ≡ Some b → is_lt (cmp a b) ≡ true → ascending cmp (xs ++ ys) ≡ xs ++ ys
    in-order xs ys a b up over last first before =
        ascending-sorted cmp (xs ++ ys)
        (sorted-append xs ys up over
        (every-to (λ x. cmp x b ≡ Less) (λ x. AllByRecursion (λ y. cmp x y ≡ Less) ys) xs (λ x less. every-from-first x b ys over first less)
        (every-upto-last xs a b up last (less-is (cmp a b) before))))
