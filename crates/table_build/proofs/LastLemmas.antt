-- What is put at places one after the other, told by a list that was put in their order: of each place the last member.
use Rattle.std.proofs.Common.{◌≡◌, ◌∙◌, suc, Bool, true, false, not, ◌&&◌, cond, List, [], ◌∷◌, Option, Some, None, get_or}
use Rattle.std.proofs.Common.{refl, sym, ap, subst, arith, add-one, Ordering, Less, Equal, Greater}
use Rattle.std.specs.Cmp.{IsTotalOrder, tied_itself}
use Rattle.std.specs.FinMap.{IsAntisymmetric}
use Rattle.std.specs.List.{AllByRecursion, filter}
use Rattle.std.specs.List.Sorted.{IsSortedBy, IsStableBy, IsStrictlySortedBy, ties}
use Rattle.std.specs.Option.{option_or}
use Rattle.std.specs.Ordering.{is_eq, is_lt, ordering_reverse}
use Rattle.std.specs.BTreeMap.{is_at}
use Rattle.std.specs.Map.{keys_of, lookup}
use Rattle.std.proofs.lemmas.Bool.{false≢true}
use Rattle.table_build.specs.Last.{is_again, last_of_each}
use Rattle.table_build.specs.Ordered.{put_each}
use Rattle.table_build.proofs.PlaceLemmas.{equal-from, last_at, put-lookup, put-sorted, last-in}

or-none : {A : Type 0} (o : Option A) → option_or o None ≡ o
or-none None = refl
or-none (Some a) = refl

-- ---- entries in the order of their keys are told by their look-ups

module _ {K V : Type 0} (cmp : K → K → Ordering) (total : IsTotalOrder cmp) (decides : IsAntisymmetric cmp) where
  abbrev Above : K → List (K × V) → Type 0
  Above k es = AllByRecursion (λ y. cmp k y ≡ Less) (keys_of es)

  -- nothing stands at a key below all
  none-below : (k : K) (es : List (K × V)) → Above k es → lookup (is_at (cmp k)) es ≡ None
  none-below k [] above = refl
  none-below k (e ∷ es) above = ap (λ r. cond (is_eq r) (Some e.1) (lookup (is_at (cmp k)) es)) above.0 ∙ none-below k es above.1

  at-own : (k : K) (v : V) (es : List (K × V)) → lookup (is_at (cmp k)) ((k, v) ∷ es) ≡ Some v
  at-own k v es = ap (λ r. cond (is_eq r) (Some v) (lookup (is_at (cmp k)) es)) (tied_itself total k)

  more-above : (j k : K) (es : List (K × V)) → cmp j k ≡ Less → Above k es → Above j es
  more-above j k [] less above = tt
  more-above j k (e ∷ es) less above = (total.trans j k e.0 less above.0, more-above j k es less above.1)

  abbrev Alike : List (K × V) → List (K × V) → Type 0
  Alike es fs = (q : K) → lookup (is_at (cmp q)) es ≡ lookup (is_at (cmp q)) fs

  -- a key that is below all of the other list stands in neither
  lacks : (e : K × V) (es fs : List (K × V)) → Alike (e ∷ es) fs → Above e.0 fs → ⊥
  lacks e es fs alike above =
      let is : Some e.1 ≡ None = sym (at-own e.0 e.1 es) ∙ alike e.0 ∙ none-below e.0 fs above in
      cc

  alike-back : (es fs : List (K × V)) → Alike es fs → Alike fs es
  alike-back es fs alike q = sym (alike q)

  tails : (k : K) (v w : V) (es fs : List (K × V)) → Alike ((k, v) ∷ es) ((k, w) ∷ fs) → Above k es → Above k fs → Alike es fs
  tails k v w es fs alike left right q = by_first (is_at (cmp q) k) refl (alike q)
    where
      none : (gs : List (K × V)) → is_at (cmp q) k ≡ true → Above k gs → lookup (is_at (cmp q)) gs ≡ None
      none gs at above = subst (λ j. lookup (is_at (cmp j)) gs ≡ None) (sym (decides q k (equal-from (cmp q k) at))) (none-below k gs above)

      by_first : (b : Bool) → is_at (cmp q) k ≡ b → cond b (Some v) (lookup (is_at (cmp q)) es) ≡ cond b (Some w) (lookup (is_at (cmp q)) fs)
          → lookup (is_at (cmp q)) es ≡ lookup (is_at (cmp q)) fs
      by_first true at same = none es at left ∙ sym (none fs at right)
      by_first false at same = same

  entries-same : (es fs : List (K × V)) → IsStrictlySortedBy cmp (keys_of es) → IsStrictlySortedBy cmp (keys_of fs) → Alike es fs → es ≡ fs
  unfolding IsStrictlySortedBy
  entries-same [] [] s t alike = refl
  entries-same [] (f ∷ fs) s t alike = absurd (lacks f fs [] (alike-back [] (f ∷ fs) alike) tt)
  entries-same (e ∷ es) [] s t alike = absurd (lacks e es [] alike tt)
  entries-same (e ∷ es) (f ∷ fs) s t alike = by_order (cmp e.0 f.0) refl (λ rest. entries-same es fs s.1 t.1 rest)
    where
      values : e.0 ≡ f.0 → e.1 ≡ f.1
      values same =
          let is : Some e.1 ≡ Some f.1 = sym (at-own e.0 e.1 es) ∙ alike e.0 ∙ ap (λ k. lookup (is_at (cmp k)) (f ∷ fs)) same ∙ at-own f.0 f.1 fs in
          cc

      one : e.0 ≡ f.0 → (Alike es fs → es ≡ fs) → (e ∷ es) ≡ (f ∷ fs)
      one same rest =
          let value = values same in
          let tail = rest (tails f.0 e.1 f.1 es fs (subst (λ k. Alike ((k, e.1) ∷ es) (f ∷ fs)) same alike) (subst (λ k. Above k es) same s.0) t.0) in
          λ i. (same i, value i) ∷ tail i

      by_order : (r : Ordering) → cmp e.0 f.0 ≡ r → (Alike es fs → es ≡ fs) → (e ∷ es) ≡ (f ∷ fs)
      by_order Less is rest = absurd (lacks e es (f ∷ fs) alike (is, more-above e.0 f.0 fs is t.0))
      by_order Equal is rest = one (decides e.0 f.0 is) rest
      by_order Greater is rest =
          let less : cmp f.0 e.0 ≡ Less = total.antisymm f.0 e.0 ∙ ap ordering_reverse is in
          absurd (lacks f fs (e ∷ es) (alike-back (e ∷ es) (f ∷ fs) alike) (less, more-above f.0 e.0 es less s.0))

module _ {K X V : Type 0} (cmp : K → K → Ordering) (total : IsTotalOrder cmp) (decides : IsAntisymmetric cmp) (key : X → K) (value : X → V) where
  abbrev below : X → X → Bool
  below a b = is_lt (cmp (key a) (key b))

  abbrev last : K → List X → Option V
  last = last_at cmp total decides key value

  abbrev lasts : List X → List (K × V)
  lasts xs = last_of_each cmp key value xs

  -- ---- a list in the order of its keys

  -- no member is below the one before it
  abbrev Rises : List X → Type 0
  Rises [] = Unit {0}
  Rises (x ∷ []) = Unit {0}
  Rises (x ∷ y ∷ ys) = (below y x ≡ false) × Rises (y ∷ ys)

  rises-from : (xs : List X) → IsSortedBy below xs → Rises xs
  rises-from [] s = tt
  rises-from (x ∷ []) s = tt
  rises-from (x ∷ y ∷ ys) s = (s 0 x (omega arith) (omega arith), rises-from (y ∷ ys) tail)
    where
      tail : IsSortedBy below (y ∷ ys)
      tail k d low within =
          let later : below (get_or (x ∷ y ∷ ys) (suc (suc k)) d) (get_or (x ∷ y ∷ ys) (suc k) d) ≡ false =
          subst (λ n. below (get_or (x ∷ y ∷ ys) n d) (get_or (x ∷ y ∷ ys) (suc k) d) ≡ false) (add-one (suc k))
          (s (suc k) d (omega arith) (omega (arith, within))) in
          rw add-one later

  -- the first of a list is above a key, if there is one
  abbrev Over : K → List X → Type 0
  Over k [] = Unit {0}
  Over k (y ∷ ys) = cmp k (key y) ≡ Less

  over-next : (k : K) (y : X) (ys : List X) → Rises (y ∷ ys) → cmp k (key y) ≡ Less → Over k ys
  over-next k y [] rises less = tt
  over-next k y (z ∷ zs) rises less = by_order (cmp (key y) (key z)) refl
    where
      by_order : (r : Ordering) → cmp (key y) (key z) ≡ r → cmp k (key z) ≡ Less
      by_order Less is = total.trans k (key y) (key z) less is
      by_order Equal is = ap (cmp k) (sym (decides (key y) (key z) is)) ∙ less
      by_order Greater is = absurd (false≢true (sym rises.0 ∙ ap is_lt (total.antisymm (key z) (key y) ∙ ap ordering_reverse is)))

  rises-tail : (x : X) (xs : List X) → Rises (x ∷ xs) → Rises xs
  rises-tail x [] rises = tt
  rises-tail x (y ∷ ys) rises = rises.1

  over-all : (k : K) (xs : List X) → Rises xs → Over k xs → AllByRecursion (λ j. cmp k j ≡ Less) (keys_of (lasts xs))
  over-all k [] rises over = tt
  over-all k (x ∷ xs) rises over = by_next (is_again cmp key x xs) (over-all k xs (rises-tail x xs rises) (over-next k x xs rises over))
    where
      by_next : (b : Bool) → AllByRecursion (λ j. cmp k j ≡ Less) (keys_of (lasts xs))
          → AllByRecursion (λ j. cmp k j ≡ Less) (keys_of (cond b (lasts xs) ((key x, value x) ∷ lasts xs)))
      by_next true rest = rest
      by_next false rest = (over, rest)

  -- where the next member has another key, that is above
  over-last : (x : X) (xs : List X) → Rises (x ∷ xs) → is_again cmp key x xs ≡ false → Over (key x) xs
  over-last x [] rises not = tt
  over-last x (y ∷ ys) rises not = by_order (cmp (key x) (key y)) refl
    where
      by_order : (r : Ordering) → cmp (key x) (key y) ≡ r → cmp (key x) (key y) ≡ Less
      by_order Less is = is
      by_order Equal is = absurd (false≢true (sym not ∙ ap is_eq is))
      by_order Greater is = absurd (false≢true (sym rises.0 ∙ ap is_lt (total.antisymm (key y) (key x) ∙ ap ordering_reverse is)))

  lasts-sorted : (xs : List X) → Rises xs → IsStrictlySortedBy cmp (keys_of (lasts xs))
  unfolding IsStrictlySortedBy
  lasts-sorted [] rises = tt
  lasts-sorted (x ∷ xs) rises = by_next (is_again cmp key x xs) refl (lasts-sorted xs (rises-tail x xs rises))
    where
      by_next : (b : Bool) → is_again cmp key x xs ≡ b → IsStrictlySortedBy cmp (keys_of (lasts xs))
          → IsStrictlySortedBy cmp (keys_of (cond b (lasts xs) ((key x, value x) ∷ lasts xs)))
      by_next true is rest = rest
      by_next false is rest = (over-all (key x) xs (rises-tail x xs rises) (over-last x xs rises is), rest)

  -- ---- what stands at a key is what the last member with that key has

  or-again : (o : Option V) (v : V) (more : Option V) → option_or (option_or o (Some v)) more ≡ option_or o (Some v)
  or-again None v more = refl
  or-again (Some w) v more = refl

  -- a member that another of its key follows counts for nothing
  last-again : (q : K) (x : X) (xs : List X) → is_again cmp key x xs ≡ true → last q (x ∷ xs) ≡ last q xs
  last-again q x [] again = absurd (false≢true again)
  last-again q x (y ∷ ys) again = by_key (is_at (cmp q) (key y)) refl
    where
      same : is_at (cmp q) (key x) ≡ is_at (cmp q) (key y)
      same = ap (is_at (cmp q)) (decides (key x) (key y) (equal-from (cmp (key x) (key y)) again))

      by_key : (b : Bool) → is_at (cmp q) (key y) ≡ b → last q (x ∷ y ∷ ys) ≡ last q (y ∷ ys)
      by_key true at =
          ap (λ b. option_or (last q (y ∷ ys)) (cond b (Some (value x)) None)) (same ∙ at)
          ∙ ap (λ b. option_or (option_or (last q ys) (cond b (Some (value y)) None)) (Some (value x))) at
          ∙ or-again (last q ys) (value y) (Some (value x))
          ∙ ap (λ b. option_or (last q ys) (cond b (Some (value y)) None)) (sym at)
      by_key false at = ap (λ b. option_or (last q (y ∷ ys)) (cond b (Some (value x)) None)) (same ∙ at) ∙ or-none (last q (y ∷ ys))

  lasts-lookup : (q : K) (xs : List X) → Rises xs → lookup (is_at (cmp q)) (lasts xs) ≡ last q xs
  lasts-lookup q [] rises = refl
  lasts-lookup q (x ∷ xs) rises = by_next (is_again cmp key x xs) refl (lasts-lookup q xs (rises-tail x xs rises))
    where
      none : is_again cmp key x xs ≡ false → q ≡ key x → lookup (is_at (cmp q)) (lasts xs) ≡ None
      none is same =
          subst (λ k. lookup (is_at (cmp k)) (lasts xs) ≡ None) (sym same)
          (none-below cmp total decides (key x) (lasts xs) (over-all (key x) xs (rises-tail x xs rises) (over-last x xs rises is)))

      by_key : is_again cmp key x xs ≡ false → (b : Bool) → is_at (cmp q) (key x) ≡ b → lookup (is_at (cmp q)) (lasts xs) ≡ last q xs
          → cond b (Some (value x)) (lookup (is_at (cmp q)) (lasts xs)) ≡ option_or (last q xs) (cond b (Some (value x)) None)
      by_key is true at rest =
          ap (λ o. option_or o (Some (value x))) (sym (none is (decides q (key x) (equal-from (cmp q (key x)) at))) ∙ rest)
      by_key is false at rest = rest ∙ sym (or-none (last q xs))

      by_next : (b : Bool) → is_again cmp key x xs ≡ b → lookup (is_at (cmp q)) (lasts xs) ≡ last q xs
          → lookup (is_at (cmp q)) (cond b (lasts xs) ((key x, value x) ∷ lasts xs)) ≡ last q (x ∷ xs)
      by_next true is rest = rest ∙ sym (last-again q x xs is)
      by_next false is rest = by_key is (is_at (cmp q) (key x)) refl rest

  -- ---- a stable sort moves no member over another of its key

  last-tied : (x : X) (xs : List X) → last (key x) xs ≡ last (key x) (filter (ties below x) xs)
  last-tied x [] = refl
  last-tied x (y ∷ ys) = by_order (cmp (key x) (key y)) refl (last-tied x ys)
    where
      back : (r : Ordering) → cmp (key x) (key y) ≡ r → below y x ≡ is_lt (ordering_reverse r)
      back r is = ap is_lt (total.antisymm (key y) (key x) ∙ ap ordering_reverse is)

      tied : (r : Ordering) → cmp (key x) (key y) ≡ r → ties below x y ≡ not (is_lt r) && not (is_lt (ordering_reverse r))
      tied r is = ap (λ o. not (is_lt o) && not (below y x)) is ∙ ap (λ b. not (is_lt r) && not b) (back r is)

      apart : (r : Ordering) → cmp (key x) (key y) ≡ r → is_eq r ≡ false → (not (is_lt r) && not (is_lt (ordering_reverse r))) ≡ false
          → last (key x) ys ≡ last (key x) (filter (ties below x) ys) → last (key x) (y ∷ ys) ≡ last (key x) (filter (ties below x) (y ∷ ys))
      apart r is other untied rest =
          ap (λ o. option_or (last (key x) ys) (cond (is_eq o) (Some (value y)) None)) is
          ∙ ap (λ b. option_or (last (key x) ys) (cond b (Some (value y)) None)) other ∙ or-none (last (key x) ys) ∙ rest
          ∙ ap (λ b. last (key x) (cond b (y ∷ filter (ties below x) ys) (filter (ties below x) ys))) (sym (tied r is ∙ untied))

      by_order : (r : Ordering) → cmp (key x) (key y) ≡ r → last (key x) ys ≡ last (key x) (filter (ties below x) ys)
          → last (key x) (y ∷ ys) ≡ last (key x) (filter (ties below x) (y ∷ ys))
      by_order Less is rest = apart Less is refl refl rest
      by_order Equal is rest =
          ap (λ o. option_or o (cond (is_at (cmp (key x)) (key y)) (Some (value y)) None)) rest
          ∙ ap (λ b. last (key x) (cond b (y ∷ filter (ties below x) ys) (filter (ties below x) ys))) (sym (tied Equal is))
      by_order Greater is rest = apart Greater is refl refl rest

  module _ (xs ys : List X) (stable : IsStableBy below xs ys) where
    last-kept : (x : X) → last (key x) ys ≡ last (key x) xs
    last-kept x = last-tied x ys ∙ ap (last (key x)) (stable x) ∙ sym (last-tied x xs)

    at-key : (q : K) (zs : List X) (v : V) → last q zs ≡ Some v → last q ys ≡ last q xs
    at-key q zs v is =
        let found = last-in cmp total decides key value q zs v is in
        subst (λ k. last k ys ≡ last k xs) (sym found.at) (last-kept found.x)

    last-same : (q : K) → last q ys ≡ last q xs
    last-same q = by_last (last q ys) refl (last q xs) refl
      where
        by_last : (o : Option V) → last q ys ≡ o → (p : Option V) → last q xs ≡ p → last q ys ≡ last q xs
        by_last (Some v) is p also = at-key q ys v is
        by_last None is (Some v) also = at-key q xs v also
        by_last None is None also = is ∙ sym also

  -- what the members of a list leave at their places is what the last ones leave of a list that was put in order by a stable sort
  pub put-last : (xs ys : List X) → IsSortedBy below ys → IsStableBy below xs ys → put_each cmp key value [] xs ≡ lasts ys
  unfolding IsStrictlySortedBy
  put-last xs ys sorted stable =
      let rises = rises-from ys sorted in
      entries-same cmp total decides (put_each cmp key value [] xs) (lasts ys) (put-sorted cmp total decides key value [] xs tt) (lasts-sorted ys rises)
      (λ q. put-lookup cmp total decides key value q [] xs ∙ or-none (last q xs) ∙ sym (last-same xs ys stable q) ∙ sym (lasts-lookup q ys rises))
