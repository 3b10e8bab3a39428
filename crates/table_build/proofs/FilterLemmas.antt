-- The members of an ordered list that pass a test of their keys are the ordered list of those that pass.
use Rattle.std.proofs.Common.{◌≡◌, ◌∙◌, Bool, true, false, cond, List, [], ◌∷◌, Option, Some, None, refl, sym, ap, Ordering, Less, Equal, Greater}
use Rattle.std.specs.Cmp.{IsTotalOrder}
use Rattle.std.specs.FinMap.{IsAntisymmetric}
use Rattle.std.specs.List.{AllByRecursion, filter, filter_map, cons_option}
use Rattle.std.specs.List.Sorted.{IsStrictlySortedBy}
use Rattle.std.specs.Ordering.{match_ordering}
use Rattle.std.specs.BTreeMap.{insert_entry}
use Rattle.std.specs.Map.{keys_of, values_of}
use Rattle.table_build.specs.Ordered.{put_all, in_order}
use Rattle.table_build.proofs.OrderedLemmas.{Keyed, below_all, insert-sorted, put_all-keyed}

-- ---- what comes of the members that pass

pub filter_map-filter : {A B : Type 0} (f : A → Option B) (p : A → Bool) (q : B → Bool) (xs : List A) → ((a : A) (b : B) → f a ≡ Some b → q b ≡ p a)
    → filter_map f (filter p xs) ≡ filter q (filter_map f xs)
filter_map-filter f p q [] same = refl
filter_map-filter {A} {B} f p q (x ∷ xs) same = by_tests (f x) (p x) refl refl (filter_map-filter f p q xs same)
  where
    by_tests : (o : Option B) (b : Bool) → f x ≡ o → p x ≡ b → filter_map f (filter p xs) ≡ filter q (filter_map f xs)
        → filter_map f (cond b (x ∷ filter p xs) (filter p xs)) ≡ filter q (cons_option o (filter_map f xs))
    by_tests (Some y) true found is rest =
        ap (λ o. cons_option o (filter_map f (filter p xs))) found ∙ ap (λ ys. y ∷ ys) rest
        ∙ sym (ap (λ c. cond c (y ∷ filter q (filter_map f xs)) (filter q (filter_map f xs))) (same x y found ∙ is))
    by_tests (Some y) false found is rest =
        rest ∙ sym (ap (λ c. cond c (y ∷ filter q (filter_map f xs)) (filter q (filter_map f xs))) (same x y found ∙ is))
    by_tests None true found is rest = ap (λ o. cons_option o (filter_map f (filter p xs))) found ∙ rest
    by_tests None false found is rest = rest

-- ---- entries by a test of their keys

module _ {K X : Type 0} (cmp : K → K → Ordering) (total : IsTotalOrder cmp) (decides : IsAntisymmetric cmp) (p : K → Bool) where
  abbrev kept : List (K × X) → List (K × X)
  kept es = filter (λ (e : K × X). p e.0) es

  kept-above : (k : K) (es : List (K × X)) → AllByRecursion (λ y. cmp k y ≡ Less) (keys_of es) → AllByRecursion (λ y. cmp k y ≡ Less) (keys_of (kept es))
  kept-above k [] above = tt
  kept-above k (e ∷ es) above = by_test (p e.0) (kept-above k es above.1)
    where
      by_test : (b : Bool) → AllByRecursion (λ y. cmp k y ≡ Less) (keys_of (kept es))
          → AllByRecursion (λ y. cmp k y ≡ Less) (keys_of (cond b (e ∷ kept es) (kept es)))
      by_test true rest = (above.0, rest)
      by_test false rest = rest

  insert-first : (k : K) (v : X) (es : List (K × X)) → AllByRecursion (λ y. cmp k y ≡ Less) (keys_of es) → insert_entry cmp es k v ≡ (k, v) ∷ es
  insert-first k v [] above = refl
  insert-first k v (e ∷ es) above = ap (λ r. match_ordering r ((k, v) ∷ e ∷ es) ((e.0, v) ∷ es) (e ∷ insert_entry cmp es k v)) above.0

  insert-kept : (k : K) (v : X) (es : List (K × X)) → IsStrictlySortedBy cmp (keys_of es)
      → kept (insert_entry cmp es k v) ≡ cond (p k) (insert_entry cmp (kept es) k v) (kept es)
  unfolding IsStrictlySortedBy
  insert-kept k v [] s = refl
  insert-kept k v (e ∷ es) s =
      elim (cmp k e.0) as (λ r. cmp k e.0 ≡ r → kept (match_ordering r ((k, v) ∷ e ∷ es) ((e.0, v) ∷ es) (e ∷ insert_entry cmp es k v))
      ≡ cond (p k) (insert_entry cmp (kept (e ∷ es)) k v) (kept (e ∷ es))) [
        | Less ↦ λ is. ap (λ ys. cond (p k) ys (kept (e ∷ es)))
            (sym (insert-first k v (kept (e ∷ es)) (kept-above k (e ∷ es) (is, below_all cmp total k e.0 (keys_of es) is s.0))))
        | Equal ↦ λ is. at_equal is (p e.0) refl
        | Greater ↦ λ is. at_greater is (p e.0) refl (insert-kept k v es s.1)
      ] refl
    where
      at_equal : cmp k e.0 ≡ Equal → (b : Bool) → p e.0 ≡ b
          → cond (p e.0) ((e.0, v) ∷ kept es) (kept es)
          ≡ cond (p k) (insert_entry cmp (cond (p e.0) (e ∷ kept es) (kept es)) k v) (cond (p e.0) (e ∷ kept es) (kept es))
      at_equal is true passes =
          ap (λ c. cond c ((e.0, v) ∷ kept es) (kept es)) passes
          ∙ sym (ap (λ r. match_ordering r ((k, v) ∷ e ∷ kept es) ((e.0, v) ∷ kept es) (e ∷ insert_entry cmp (kept es) k v)) is)
          ∙ sym (ap (λ c. cond c (insert_entry cmp (e ∷ kept es) k v) (e ∷ kept es)) (ap p (decides k e.0 is) ∙ passes))
          ∙ sym (ap (λ c. cond (p k) (insert_entry cmp (cond c (e ∷ kept es) (kept es)) k v) (cond c (e ∷ kept es) (kept es))) passes)
      at_equal is false fails =
          ap (λ c. cond c ((e.0, v) ∷ kept es) (kept es)) fails
          ∙ sym (ap (λ c. cond c (insert_entry cmp (kept es) k v) (kept es)) (ap p (decides k e.0 is) ∙ fails))
          ∙ sym (ap (λ c. cond (p k) (insert_entry cmp (cond c (e ∷ kept es) (kept es)) k v) (cond c (e ∷ kept es) (kept es))) fails)

      put-first : cmp k e.0 ≡ Greater → (c : Bool)
          → e ∷ cond c (insert_entry cmp (kept es) k v) (kept es) ≡ cond c (insert_entry cmp (e ∷ kept es) k v) (e ∷ kept es)
      put-first is true = sym (ap (λ r. match_ordering r ((k, v) ∷ e ∷ kept es) ((e.0, v) ∷ kept es) (e ∷ insert_entry cmp (kept es) k v)) is)
      put-first is false = refl

      at_greater : cmp k e.0 ≡ Greater → (b : Bool) → p e.0 ≡ b → kept (insert_entry cmp es k v) ≡ cond (p k) (insert_entry cmp (kept es) k v) (kept es)
          → cond (p e.0) (e ∷ kept (insert_entry cmp es k v)) (kept (insert_entry cmp es k v))
          ≡ cond (p k) (insert_entry cmp (cond (p e.0) (e ∷ kept es) (kept es)) k v) (cond (p e.0) (e ∷ kept es) (kept es))
      at_greater is true passes rest =
          ap (λ c. cond c (e ∷ kept (insert_entry cmp es k v)) (kept (insert_entry cmp es k v))) passes
          ∙ ap (λ ys. e ∷ ys) rest ∙ put-first is (p k)
          ∙ sym (ap (λ c. cond (p k) (insert_entry cmp (cond c (e ∷ kept es) (kept es)) k v) (cond c (e ∷ kept es) (kept es))) passes)
      at_greater is false fails rest =
          ap (λ c. cond c (e ∷ kept (insert_entry cmp es k v)) (kept (insert_entry cmp es k v))) fails ∙ rest
          ∙ sym (ap (λ c. cond (p k) (insert_entry cmp (cond c (e ∷ kept es) (kept es)) k v) (cond c (e ∷ kept es) (kept es))) fails)

  module _ (key : X → K) where
    put-kept : (es : List (K × X)) (xs : List X) → IsStrictlySortedBy cmp (keys_of es)
        → kept (put_all cmp key es xs) ≡ put_all cmp key (kept es) (filter (λ x. p (key x)) xs)
    put-kept es [] s = refl
    put-kept es (x ∷ xs) s =
        put-kept (insert_entry cmp es (key x) x) xs (insert-sorted cmp total (key x) x es s)
        ∙ ap (λ fs. put_all cmp key fs (filter (λ y. p (key y)) xs)) (insert-kept (key x) x es s) ∙ by_test (p (key x))
      where
        by_test : (b : Bool) → put_all cmp key (cond b (insert_entry cmp (kept es) (key x) x) (kept es)) (filter (λ y. p (key y)) xs)
            ≡ put_all cmp key (kept es) (cond b (x ∷ filter (λ y. p (key y)) xs) (filter (λ y. p (key y)) xs))
        by_test true = refl
        by_test false = refl

    values-kept : (es : List (K × X)) → Keyed cmp key es → values_of (kept es) ≡ filter (λ x. p (key x)) (values_of es)
    values-kept [] keyed = refl
    values-kept (e ∷ es) keyed =
        by_test (p e.0) (values-kept es keyed.1)
        ∙ ap (λ k. cond (p k) (e.1 ∷ filter (λ x. p (key x)) (values_of es)) (filter (λ x. p (key x)) (values_of es))) keyed.0
      where
        by_test : (b : Bool) → values_of (kept es) ≡ filter (λ x. p (key x)) (values_of es)
            → values_of (cond b (e ∷ kept es) (kept es)) ≡ cond b (e.1 ∷ filter (λ x. p (key x)) (values_of es)) (filter (λ x. p (key x)) (values_of es))
        by_test true rest = ap (λ ys. e.1 ∷ ys) rest
        by_test false rest = rest

    pub in_order-filter : (xs : List X) → in_order cmp key (filter (λ x. p (key x)) xs) ≡ filter (λ x. p (key x)) (in_order cmp key xs)
    unfolding IsStrictlySortedBy
    in_order-filter xs =
        ap values_of (sym (put-kept [] xs tt)) ∙ values-kept (put_all cmp key [] xs) (put_all-keyed cmp key decides [] xs tt)
