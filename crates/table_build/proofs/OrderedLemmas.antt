-- Lists in the order of a key.
use Rattle.std.proofs.Common.{◌≡◌, ◌∙◌, ◌≤◌, ◌+◌, List, [], ◌∷◌, ◌++◌, length, map, refl, sym, ap, arith, Ordering, Less, Equal, Greater, subst}
use Rattle.std.specs.Cmp.{IsTotalOrder}
use Rattle.std.specs.FinMap.{IsAntisymmetric}
use Rattle.std.specs.List.{All, AllByRecursion}
use Rattle.std.specs.List.Sorted.{IsStrictlySortedBy}
use Rattle.std.specs.Ordering.{ordering_reverse, match_ordering}
use Rattle.std.specs.BTreeMap.{insert_entry}
use Rattle.std.specs.Map.{keys_of, values_of}
use Rattle.std.proofs.lemmas.Map.Views.{All-values-insert_entry}
use Rattle.std.proofs.lemmas.List.Elements.{All-nil, All-head, All-tail}
use Rattle.table_build.specs.Ordered.{put_all, in_order}

-- ---- the keys ascend

module _ {K X : Type 0} (cmp : K → K → Ordering) (k : K) (v : X) where
  insert-above : (x : K) (es : List (K × X)) → AllByRecursion (λ y. cmp x y ≡ Less) (keys_of es) → cmp x k ≡ Less
      → AllByRecursion (λ y. cmp x y ≡ Less) (keys_of (insert_entry cmp es k v))
  insert-above x [] above h = (h, tt)
  insert-above x (e ∷ es) above h =
      elim (cmp k e.0) as (λ r. AllByRecursion (λ y. cmp x y ≡ Less)
      (keys_of (match_ordering r ((k, v) ∷ e ∷ es) ((e.0, v) ∷ es) (e ∷ insert_entry cmp es k v)))) [
        | Less ↦ (h, above)
        | Equal ↦ above
        | Greater ↦ (above.0, insert-above x es above.1 h)
      ]

pub below_all : {K : Type 0} (cmp : K → K → Ordering) → IsTotalOrder cmp → (x y : K) (ys : List K) → cmp x y ≡ Less → AllByRecursion (λ z. cmp y z ≡ Less) ys
    → AllByRecursion (λ z. cmp x z ≡ Less) ys
below_all cmp total x y [] h all = tt
below_all cmp total x y (z ∷ zs) h all = (total.trans x y z h all.0, below_all cmp total x y zs h all.1)

pub insert-sorted : {K X : Type 0} (cmp : K → K → Ordering) → IsTotalOrder cmp → (k : K) (v : X) (es : List (K × X)) → IsStrictlySortedBy cmp (keys_of es)
    → IsStrictlySortedBy cmp (keys_of (insert_entry cmp es k v))
unfolding IsStrictlySortedBy
insert-sorted cmp total k v [] s = (tt, tt)
insert-sorted cmp total k v (e ∷ es) s =
    elim (cmp k e.0) as (λ r. cmp k e.0 ≡ r
    → IsStrictlySortedBy cmp (keys_of (match_ordering r ((k, v) ∷ e ∷ es) ((e.0, v) ∷ es) (e ∷ insert_entry cmp es k v)))) [
      | Less ↦ λ is. ((is, below_all cmp total k e.0 (keys_of es) is s.0), s)
      | Equal ↦ λ is. s
      | Greater ↦ λ is. (insert-above cmp k v e.0 es s.0 (total.antisymm e.0 k ∙ ap ordering_reverse is), insert-sorted cmp total k v es s.1)
    ] refl

module _ {K X : Type 0} (cmp : K → K → Ordering) (key : X → K) where
  pub put_all-sorted : IsTotalOrder cmp → (es : List (K × X)) (xs : List X) → IsStrictlySortedBy cmp (keys_of es)
      → IsStrictlySortedBy cmp (keys_of (put_all cmp key es xs))
  put_all-sorted total es [] s = s
  put_all-sorted total es (x ∷ xs) s = put_all-sorted total (insert_entry cmp es (key x) x) xs (insert-sorted cmp total (key x) x es s)

-- ---- each entry's key is its member's

module _ {K X : Type 0} (cmp : K → K → Ordering) (key : X → K) where
  abbrev pub Keyed : List (K × X) → Type 0
  Keyed es = AllByRecursion (λ e. e.0 ≡ key e.1) es

  pub insert-keyed : IsAntisymmetric cmp → (x : X) (es : List (K × X)) → Keyed es → Keyed (insert_entry cmp es (key x) x)
  insert-keyed same x [] keyed = (refl, tt)
  insert-keyed same x (e ∷ es) keyed =
      elim (cmp (key x) e.0) as (λ r. cmp (key x) e.0 ≡ r
      → Keyed (match_ordering r ((key x, x) ∷ e ∷ es) ((e.0, x) ∷ es) (e ∷ insert_entry cmp es (key x) x))) [
        | Less ↦ λ is. (refl, keyed)
        | Equal ↦ λ is. (sym (same (key x) e.0 is), keyed.1)
        | Greater ↦ λ is. (keyed.0, insert-keyed same x es keyed.1)
      ] refl

  pub put_all-keyed : IsAntisymmetric cmp → (es : List (K × X)) (xs : List X) → Keyed es → Keyed (put_all cmp key es xs)
  put_all-keyed same es [] keyed = keyed
  put_all-keyed same es (x ∷ xs) keyed = put_all-keyed same (insert_entry cmp es (key x) x) xs (insert-keyed same x es keyed)

  pub keys-keyed : (es : List (K × X)) → Keyed es → keys_of es ≡ map key (values_of es)
  keys-keyed [] keyed = refl
  keys-keyed (e ∷ es) keyed = ap (λ k. k ∷ keys_of es) keyed.0 ∙ ap (λ ks. key e.1 ∷ ks) (keys-keyed es keyed.1)

  -- ---- length and members

  insert-length : (x : X) (es : List (K × X)) → length (insert_entry cmp es (key x) x) ≤ length es + 1
  insert-length x [] = omega arith
  insert-length x (e ∷ es) =
      elim (cmp (key x) e.0) as (λ r. length (match_ordering r ((key x, x) ∷ e ∷ es) ((e.0, x) ∷ es) (e ∷ insert_entry cmp es (key x) x))
      ≤ length (e ∷ es) + 1) [
        | Less ↦ omega arith
        | Equal ↦ omega arith
        | Greater ↦ (let more = insert-length x es in omega arith)
      ]

  pub put_all-length : (es : List (K × X)) (xs : List X) → length (put_all cmp key es xs) ≤ length es + length xs
  put_all-length es [] = omega arith
  put_all-length es (x ∷ xs) =
      let one = insert-length x es in
      let more = put_all-length (insert_entry cmp es (key x) x) xs in
      omega arith

  pub put_all-All : (P : X → Type 0) (es : List (K × X)) (xs : List X) → All P (values_of es) → All P xs → All P (values_of (put_all cmp key es xs))
  put_all-All P es [] was all = was
  put_all-All P es (x ∷ xs) was all =
      put_all-All P (insert_entry cmp es (key x) x) xs (All-values-insert_entry cmp (key x) x P es was (All-head P x xs all)) (All-tail P x xs all)

  length-values : (es : List (K × X)) → length (values_of es) ≡ length es
  length-values [] = refl
  length-values (e ∷ es) = let more = length-values es in omega arith

  pub in_order-length : (xs : List X) → length (in_order cmp key xs) ≤ length xs
  in_order-length xs = let values = length-values (put_all cmp key [] xs) in let more = put_all-length [] xs in omega arith

  pub in_order-All : (P : X → Type 0) (xs : List X) → All P xs → All P (in_order cmp key xs)
  in_order-All P xs all = put_all-All P [] xs (All-nil P) all

  -- ---- they ascend by their keys

  unmapped : (x : X) (xs : List X) → AllByRecursion (λ k. cmp (key x) k ≡ Less) (map key xs) → AllByRecursion (λ y. cmp (key x) (key y) ≡ Less) xs
  unmapped x [] all = tt
  unmapped x (y ∷ ys) all = (all.0, unmapped x ys all.1)

  sorted-unmapped : (xs : List X) → IsStrictlySortedBy cmp (map key xs) → IsStrictlySortedBy (λ a b. cmp (key a) (key b)) xs
  unfolding IsStrictlySortedBy
  sorted-unmapped [] s = tt
  sorted-unmapped (x ∷ xs) s = (unmapped x xs s.0, sorted-unmapped xs s.1)

  pub in_order-sorted : IsTotalOrder cmp → IsAntisymmetric cmp → (xs : List X) → IsStrictlySortedBy (λ a b. cmp (key a) (key b)) (in_order cmp key xs)
  unfolding IsStrictlySortedBy
  in_order-sorted total same xs =
      sorted-unmapped (in_order cmp key xs)
      (subst (IsStrictlySortedBy cmp) (keys-keyed (put_all cmp key [] xs) (put_all-keyed same [] xs tt)) (put_all-sorted cmp key total [] xs tt))

  -- ---- in two parts

  pub put_all_append : (es : List (K × X)) (xs ys : List X) → put_all cmp key es (xs ++ ys) ≡ put_all cmp key (put_all cmp key es xs) ys
  put_all_append es [] ys = refl
  put_all_append es (x ∷ xs) ys = put_all_append (insert_entry cmp es (key x) x) xs ys
