-- Lists that are brought into their order, filtered and summed.
use Rattle.std.proofs.Common.{◌≡◌, ◌∙◌, Bool, true, false, not, cond, ◌||◌, List, [], ◌∷◌, ◌++◌, refl, sym, ap, Ordering, Less, Equal, Greater}
use Rattle.std.specs.Cmp.{IsTotalOrder, tied_back}
use Rattle.std.specs.List.{AllByRecursion, filter, list_any}
use Rattle.std.specs.List.Sorted.{IsStrictlySortedBy}
use Rattle.std.specs.Ordering.{is_gt, ordering_reverse}
use Rattle.std.proofs.lemmas.List.Elements.{filter-append}
use Rattle.std.proofs.lemmas.List.Kept.{IsStrictlySortedBy-filter}
use Rattle.table_rows.specs.declared.sum.Sum.{Sum}
use Rattle.table_rows.specs.Sums.{joined, sum_over}
use Rattle.table_rows.specs.Store.{rises}
use Rattle.table_rows.proofs.RiseLemmas.{sorted_from_rises}
use Rattle.table_rows.proofs.RunLemmas.{every-filter}
use Rattle.table_rows.proofs.SumLemmas.{joined-comm, joined-assoc}
use Rattle.table_sums.specs.Ascending.{put_in, ascending}
use Rattle.table_sums.proofs.AscendingLemmas.{every-to, put_in-every, put_in-first}
use Rattle.table_sums.proofs.YearLemmas.{filter-swap}
use Rattle.table_latest.specs.Latest.{laid_over, untouched}

pub turned-less : {X : Type 0} (cmp : X → X → Ordering) → IsTotalOrder cmp → (x y : X) → cmp x y ≡ Less → cmp y x ≡ Greater
turned-less cmp total x y less = total.antisymm y x ∙ ap ordering_reverse less

pub turned-greater : {X : Type 0} (cmp : X → X → Ordering) → IsTotalOrder cmp → (x y : X) → cmp x y ≡ Greater → cmp y x ≡ Less
turned-greater cmp total x y more = total.antisymm y x ∙ ap ordering_reverse more

gt-is : (o : Ordering) → is_gt o ≡ true → o ≡ Greater
gt-is Less e = absurd (cc)
gt-is Equal e = absurd (cc)
gt-is Greater e = refl

module _ {X : Type 0} (cmp : X → X → Ordering) (total : IsTotalOrder cmp) where
  -- what isn't after what isn't after z isn't after z
  pub upto-again : (x y z : X) → is_gt (cmp x y) ≡ false → is_gt (cmp y z) ≡ false → is_gt (cmp x z) ≡ false
  upto-again x y z first second = by_orders (cmp x y) (cmp y z) refl refl first second
    where
      by_orders : (o p : Ordering) → cmp x y ≡ o → cmp y z ≡ p → is_gt o ≡ false → is_gt p ≡ false → is_gt (cmp x z) ≡ false
      by_orders Less Less is also a b = ap is_gt (total.trans x y z is also)
      by_orders Less Equal is also a b =
          let back : cmp z x ≡ Greater = total.congr z y x (tied_back total y z also) ∙ turned-less cmp total x y is in
          ap is_gt (turned-greater cmp total z x back)
      by_orders Less Greater is also a b = absurd (cc)
      by_orders Equal p is also a b = ap is_gt (total.congr x y z is ∙ also) ∙ b
      by_orders Greater p is also a b = absurd (cc)

  -- no member stands after a later one
  abbrev pub IsUp : List X → Type 0
  IsUp [] = Unit {0}
  IsUp (x ∷ xs) = AllByRecursion (λ y. is_gt (cmp x y) ≡ false) xs × IsUp xs

  upto-rest : (x y : X) (ys : List X) → is_gt (cmp x y) ≡ false → AllByRecursion (λ z. is_gt (cmp y z) ≡ false) ys
      → AllByRecursion (λ z. is_gt (cmp x z) ≡ false) ys
  upto-rest x y ys first up = every-to (λ z. is_gt (cmp y z) ≡ false) (λ z. is_gt (cmp x z) ≡ false) ys (λ z second. upto-again x y z first second) up

  put_in-up : (x : X) (ys : List X) → IsUp ys → IsUp (put_in cmp x ys)
  put_in-up x [] up = (tt, tt)
  put_in-up x (y ∷ ys) up = by_order (is_gt (cmp x y)) refl (put_in-up x ys up.1)
    where
      by_order : (b : Bool) → is_gt (cmp x y) ≡ b → IsUp (put_in cmp x ys) → IsUp (cond b (y ∷ put_in cmp x ys) (x ∷ y ∷ ys))
      by_order true is rest =
          let before : is_gt (cmp y x) ≡ false = ap is_gt (turned-greater cmp total x y (gt-is (cmp x y) is)) in
          (put_in-every cmp (λ z. is_gt (cmp y z) ≡ false) x ys before up.0, rest)
      by_order false is rest = ((is, upto-rest x y ys is up.0), up)

  pub ascending-up : (xs : List X) → IsUp (ascending cmp xs)
  ascending-up [] = tt
  ascending-up (x ∷ xs) = put_in-up x (ascending cmp xs) (ascending-up xs)

  filter-put_in : (p : X → Bool) (x : X) (ys : List X) → IsUp ys → filter p (put_in cmp x ys) ≡ cond (p x) (put_in cmp x (filter p ys)) (filter p ys)
  filter-put_in p x [] up = refl
  filter-put_in p x (y ∷ ys) up = by_order (is_gt (cmp x y)) refl (filter-put_in p x ys up.1)
    where
      after : (a b : Bool) → is_gt (cmp x y) ≡ true → filter p (put_in cmp x ys) ≡ cond b (put_in cmp x (filter p ys)) (filter p ys)
          → cond a (y ∷ filter p (put_in cmp x ys)) (filter p (put_in cmp x ys))
          ≡ cond b (put_in cmp x (cond a (y ∷ filter p ys) (filter p ys))) (cond a (y ∷ filter p ys) (filter p ys))
      after true true is rest = ap (λ v. y ∷ v) rest ∙ sym (ap (λ c. cond c (y ∷ put_in cmp x (filter p ys)) (x ∷ y ∷ filter p ys)) is)
      after true false is rest = ap (λ v. y ∷ v) rest
      after false true is rest = rest
      after false false is rest = rest

      before : (b : Bool) → AllByRecursion (λ z. is_gt (cmp x z) ≡ false) (filter p (y ∷ ys))
          → cond b (x ∷ filter p (y ∷ ys)) (filter p (y ∷ ys)) ≡ cond b (put_in cmp x (filter p (y ∷ ys))) (filter p (y ∷ ys))
      before true all = sym (put_in-first cmp x (filter p (y ∷ ys)) all)
      before false all = refl

      by_order : (b : Bool) → is_gt (cmp x y) ≡ b → filter p (put_in cmp x ys) ≡ cond (p x) (put_in cmp x (filter p ys)) (filter p ys)
          → filter p (cond b (y ∷ put_in cmp x ys) (x ∷ y ∷ ys)) ≡ cond (p x) (put_in cmp x (filter p (y ∷ ys))) (filter p (y ∷ ys))
      by_order true is rest = after (p y) (p x) is rest
      by_order false is rest =
          before (p x) (every-filter (λ z. is_gt (cmp x z) ≡ false) p (y ∷ ys) (is, upto-rest x y ys is up.0))

  -- what a filter keeps may be brought into its order before or after it
  pub filter-ascending : (p : X → Bool) (xs : List X) → filter p (ascending cmp xs) ≡ ascending cmp (filter p xs)
  filter-ascending p [] = refl
  filter-ascending p (x ∷ xs) =
      filter-put_in p x (ascending cmp xs) (ascending-up xs) ∙ by_test (p x) (filter-ascending p xs)
    where
      by_test : (b : Bool) → filter p (ascending cmp xs) ≡ ascending cmp (filter p xs)
          → cond b (put_in cmp x (filter p (ascending cmp xs))) (filter p (ascending cmp xs)) ≡ ascending cmp (cond b (x ∷ filter p xs) (filter p xs))
      by_test true rest = ap (put_in cmp x) rest
      by_test false rest = rest

  -- a part of what is laid over is the part of the one laid over that of the other
  pub part-over : (p touched : X → Bool) (base now : List X) → filter p (laid_over cmp touched base now) ≡ laid_over cmp touched (filter p base) (filter p now)
  part-over p touched base now =
      filter-ascending p (untouched touched base ++ now)
      ∙ ap (ascending cmp) (filter-append p (untouched touched base) now
      ∙ ap (λ v. v ++ filter p now) (filter-swap p (λ x. not (touched x)) base))

  pub part-sorted : (p : X → Bool) (xs : List X) → rises cmp xs ≡ true → IsStrictlySortedBy cmp (filter p xs)
  part-sorted p xs up = IsStrictlySortedBy-filter cmp p xs (sorted_from_rises cmp total xs up)

  pub kept-sorted : (p touched : X → Bool) (xs : List X) → rises cmp xs ≡ true → IsStrictlySortedBy cmp (untouched touched (filter p xs))
  kept-sorted p touched xs up = IsStrictlySortedBy-filter cmp (λ x. not (touched x)) (filter p xs) (part-sorted p xs up)

-- ---- what doesn't depend on the order

module _ {X : Type 0} (cmp : X → X → Ordering) where
  any-put_in : (t : X → Bool) (x : X) (ys : List X) → list_any t (put_in cmp x ys) ≡ (t x || list_any t ys)
  any-put_in t x [] = refl
  any-put_in t x (y ∷ ys) = by_order (is_gt (cmp x y)) (any-put_in t x ys)
    where
      swap : (a b c : Bool) → (a || (b || c)) ≡ (b || (a || c))
      swap true true c = refl
      swap true false c = refl
      swap false b c = refl

      by_order : (b : Bool) → list_any t (put_in cmp x ys) ≡ (t x || list_any t ys)
          → list_any t (cond b (y ∷ put_in cmp x ys) (x ∷ y ∷ ys)) ≡ (t x || (t y || list_any t ys))
      by_order true rest = ap (λ b. t y || b) rest ∙ swap (t y) (t x) (list_any t ys)
      by_order false rest = refl

  pub any-ascending : (t : X → Bool) (xs : List X) → list_any t (ascending cmp xs) ≡ list_any t xs
  any-ascending t [] = refl
  any-ascending t (x ∷ xs) = any-put_in t x (ascending cmp xs) ∙ ap (λ b. t x || b) (any-ascending t xs)

  sum-put_in : (f : X → Sum) (x : X) (ys : List X) → sum_over f (put_in cmp x ys) ≡ joined (f x) (sum_over f ys)
  sum-put_in f x [] = refl
  sum-put_in f x (y ∷ ys) = by_order (is_gt (cmp x y)) (sum-put_in f x ys)
    where
      by_order : (b : Bool) → sum_over f (put_in cmp x ys) ≡ joined (f x) (sum_over f ys)
          → sum_over f (cond b (y ∷ put_in cmp x ys) (x ∷ y ∷ ys)) ≡ joined (f x) (joined (f y) (sum_over f ys))
      by_order true rest =
          ap (joined (f y)) rest ∙ sym (joined-assoc (f y) (f x) (sum_over f ys)) ∙ ap (λ s. joined s (sum_over f ys)) (joined-comm (f y) (f x))
          ∙ joined-assoc (f x) (f y) (sum_over f ys)
      by_order false rest = refl

  pub sum-ascending : (f : X → Sum) (xs : List X) → sum_over f (ascending cmp xs) ≡ sum_over f xs
  sum-ascending f [] = refl
  sum-ascending f (x ∷ xs) = sum-put_in f x (ascending cmp xs) ∙ ap (joined (f x)) (sum-ascending f xs)
