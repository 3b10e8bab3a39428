-- An ascending list is told by its members.
use Rattle.std.proofs.Common.{◌≡◌, ◌∙◌, ◌⊎◌, inl, inr, Bool, true, false, List, [], ◌∷◌, refl, sym, ap, subst, Ordering, Less, Equal, Greater}
use Rattle.std.specs.Cmp.{IsTotalOrder, tied_itself}
use Rattle.std.specs.FinMap.{IsAntisymmetric}
use Rattle.std.specs.List.{AllByRecursion}
use Rattle.std.specs.List.Sorted.{IsStrictlySortedBy}
use Rattle.std.specs.Ordering.{ordering_reverse, match_ordering}
use Rattle.std.specs.BTreeMap.{insert_entry}
use Rattle.std.specs.Map.{values_of}
use Rattle.std.proofs.lemmas.List.Elements.{All-from_recursion, recursion_from_All}
use Rattle.std.proofs.lemmas.Bool.{cases_Bool}
use Rattle.table_rows.specs.Store.{all_differ}
use Rattle.table_rows.proofs.DifferLemmas.{differ-more}
use Rattle.table_build.specs.Ordered.{put_all, in_order}
use Rattle.table_build.proofs.OrderedLemmas.{Keyed, insert-keyed, in_order-All, in_order-sorted}

-- x is a member of a list
abbrev pub IsIn : {X : Type 0} → X → List X → Type 0
IsIn x [] = ⊥
IsIn x (y ∷ ys) = (x ≡ y) ⊎ IsIn x ys

pub at-member : {X : Type 0} (P : X → Type 0) (x : X) (xs : List X) → AllByRecursion P xs → IsIn x xs → P x
at-member P x [] all is = absurd is
at-member P x (y ∷ ys) all (inl e) = subst P (sym e) all.0
at-member P x (y ∷ ys) all (inr later) = at-member P x ys all.1 later

more-members : {X : Type 0} (y : X) (ys : List X) (xs : List X) → AllByRecursion (λ x. IsIn x ys) xs → AllByRecursion (λ x. IsIn x (y ∷ ys)) xs
more-members y ys [] all = tt
more-members y ys (x ∷ xs) all = (inr all.0, more-members y ys xs all.1)

pub each-member : {X : Type 0} (xs : List X) → AllByRecursion (λ x. IsIn x xs) xs
each-member [] = tt
each-member (x ∷ xs) = (inl refl, more-members x xs xs (each-member xs))

-- ---- two ascending lists with the same members are one

module _ {X : Type 0} (cmp : X → X → Ordering) (total : IsTotalOrder cmp) where
  not-below : (x y : X) → cmp x y ≡ Less → x ≡ y → ⊥
  not-below x y less same =
      let tied : cmp x y ≡ Equal = ap (cmp x) (sym same) ∙ tied_itself total x in
      (cc)

  not-both : (x y : X) → cmp x y ≡ Less → cmp y x ≡ Less → ⊥
  not-both x y less back =
      let turned : cmp x y ≡ Greater = total.antisymm x y ∙ ap ordering_reverse back in
      (cc)

  -- the member of the one list is the first of the other or stands after it
  first-is : (a b : X) (bs : List X) → IsIn a (b ∷ bs) → AllByRecursion (λ z. cmp b z ≡ Less) bs → (a ≡ b) ⊎ (cmp b a ≡ Less)
  first-is a b bs (inl e) above = inl e
  first-is a b bs (inr later) above = inr (at-member (λ z. cmp b z ≡ Less) a bs above later)

  later-is : (a x : X) (xs : List X) → IsIn x (a ∷ xs) → cmp a x ≡ Less → IsIn x xs
  later-is a x xs (inl e) less = absurd (not-below a x less (sym e))
  later-is a x xs (inr later) less = later

  heads : (a b : X) (left right : List X) → IsIn a (b ∷ right) → IsIn b (a ∷ left) → AllByRecursion (λ z. cmp a z ≡ Less) left
      → AllByRecursion (λ z. cmp b z ≡ Less) right → a ≡ b
  heads a b left right here there above over =
      elim (first-is a b right here over) [
        | inl e ↦ e
        | inr less ↦ elim (first-is b a left there above) [
          | inl e ↦ sym e
          | inr back ↦ absurd (not-both b a less back)
        ]
      ]

  pub sorted-same : (left right : List X) → IsStrictlySortedBy cmp left → IsStrictlySortedBy cmp right
      → ((x : X) → IsIn x left → IsIn x right) → ((x : X) → IsIn x right → IsIn x left) → left ≡ right
  unfolding IsStrictlySortedBy
  sorted-same [] [] s t to from = refl
  sorted-same [] (b ∷ right) s t to from = absurd (from b (inl refl))
  sorted-same (a ∷ left) [] s t to from = absurd (to a (inl refl))
  sorted-same (a ∷ left) (b ∷ right) s t to from =
      let same = heads a b left right (to a (inl refl)) (from b (inl refl)) s.0 t.0 in
      let to_rest : (x : X) → IsIn x left → IsIn x right =
      λ x is. later-is b x right (to x (inr is)) (ap (λ y. cmp y x) (sym same) ∙ at-member (λ z. cmp a z ≡ Less) x left s.0 is) in
      let from_rest : (x : X) → IsIn x right → IsIn x left =
      λ x is. later-is a x left (from x (inr is)) (ap (λ y. cmp y x) same ∙ at-member (λ z. cmp b z ≡ Less) x right t.0 is) in
      let rest = sorted-same left right s.1 t.1 to_rest from_rest in
      λ i. same i ∷ rest i

-- ---- of an ascending list no member is like a later one, where a test tells members apart

module _ {X : Type 0} (cmp : X → X → Ordering) (total : IsTotalOrder cmp) (like : X → X → Bool) (P : X → Type 0) (one : (x y : X) → P x → P y → like x y ≡ true
    → x ≡ y) where
  unlike : (x y : X) → P x → P y → cmp x y ≡ Less → like x y ≡ false
  unlike x y p q less =
      elim (cases_Bool (like x y)) [
        | inl is ↦ absurd (not-below cmp total x y less (one x y p q is))
        | inr not ↦ not
      ]

  unlike-all : (x : X) (ys : List X) → P x → AllByRecursion P ys → AllByRecursion (λ y. cmp x y ≡ Less) ys → AllByRecursion (λ y. like x y ≡ false) ys
  unlike-all x [] p all above = tt
  unlike-all x (y ∷ ys) p all above = (unlike x y p all.0 above.0, unlike-all x ys p all.1 above.1)

  pub sorted-differ : (xs : List X) → AllByRecursion P xs → IsStrictlySortedBy cmp xs → all_differ like xs ≡ true
  unfolding IsStrictlySortedBy
  sorted-differ [] all s = refl
  sorted-differ (x ∷ xs) all s = differ-more like x xs (unlike-all x xs all.0 all.1 s.0) (sorted-differ xs all.1 s.1)

-- ---- the members of an ordered list

module _ {K X : Type 0} (cmp : K → K → Ordering) (key : X → K) (total : IsTotalOrder cmp) (decides : IsAntisymmetric cmp) (P : X → Type 0) (own : (x y : X)
    → P x → P y → key x ≡ key y → x ≡ y) where
  put-in : (x : X) (es : List (K × X)) → IsIn x (values_of (insert_entry cmp es (key x) x))
  put-in x [] = inl refl
  put-in x (e ∷ es) =
      elim (cmp (key x) e.0) as (λ r. IsIn x (values_of (match_ordering r ((key x, x) ∷ e ∷ es) ((e.0, x) ∷ es) (e ∷ insert_entry cmp es (key x) x)))) [
        | Less ↦ inl refl
        | Equal ↦ inl refl
        | Greater ↦ inr (put-in x es)
      ]

  -- what was there stays, or has the key of what is put
  still-in : (x y : X) (es : List (K × X)) → Keyed cmp key es → IsIn y (values_of es) → IsIn y (values_of (insert_entry cmp es (key x) x)) ⊎ (key y ≡ key x)
  still-in x y [] keyed is = absurd is
  still-in x y (e ∷ es) keyed is =
      elim (cmp (key x) e.0) as (λ r. cmp (key x) e.0 ≡ r
      → IsIn y (values_of (match_ordering r ((key x, x) ∷ e ∷ es) ((e.0, x) ∷ es) (e ∷ insert_entry cmp es (key x) x))) ⊎ (key y ≡ key x)) [
        | Less ↦ λ found. inl (inr is)
        | Equal ↦ λ found. by_equal found is
        | Greater ↦ λ found. by_greater is (λ later. still-in x y es keyed.1 later)
      ] refl
    where
      by_equal : cmp (key x) e.0 ≡ Equal → IsIn y (e.1 ∷ values_of es) → IsIn y (x ∷ values_of es) ⊎ (key y ≡ key x)
      by_equal found (inl same) = inr (ap key same ∙ sym keyed.0 ∙ sym (decides (key x) e.0 found))
      by_equal found (inr later) = inl (inr later)

      by_greater : IsIn y (e.1 ∷ values_of es) → (IsIn y (values_of es) → IsIn y (values_of (insert_entry cmp es (key x) x)) ⊎ (key y ≡ key x))
          → IsIn y (e.1 ∷ values_of (insert_entry cmp es (key x) x)) ⊎ (key y ≡ key x)
      by_greater (inl same) later = inl (inl same)
      by_greater (inr is) later = elim (later is) [
        | inl stays ↦ inl (inr stays)
        | inr tied ↦ inr tied
      ]

  put_all-has : (es : List (K × X)) (xs : List X) (y : X) → Keyed cmp key es → P y → AllByRecursion P xs → IsIn y (values_of es) ⊎ IsIn y xs
      → IsIn y (values_of (put_all cmp key es xs))
  put_all-has es [] y keyed one all (inl was) = was
  put_all-has es [] y keyed one all (inr none) = absurd none
  put_all-has es (x ∷ xs) y keyed one all (inl was) =
      put_all-has (insert_entry cmp es (key x) x) xs y (insert-keyed cmp key decides x es keyed) one all.1
      (elim (still-in x y es keyed was) [
        | inl stays ↦ inl stays
        | inr tied ↦ inl (subst (λ z. IsIn z (values_of (insert_entry cmp es (key x) x))) (own x y all.0 one (sym tied)) (put-in x es))
      ])
  put_all-has es (x ∷ xs) y keyed one all (inr (inl same)) =
      put_all-has (insert_entry cmp es (key x) x) xs y (insert-keyed cmp key decides x es keyed) one all.1
      (inl (subst (λ z. IsIn z (values_of (insert_entry cmp es (key x) x))) (sym same) (put-in x es)))
  put_all-has es (x ∷ xs) y keyed one all (inr (inr later)) =
      put_all-has (insert_entry cmp es (key x) x) xs y (insert-keyed cmp key decides x es keyed) one all.1 (inr later)

  -- each member of the list is there, where no two members that differ have one key
  pub in_order-has : (xs : List X) (x : X) → AllByRecursion P xs → IsIn x xs → IsIn x (in_order cmp key xs)
  in_order-has xs x all is = put_all-has [] xs x tt (at-member P x xs all is) all (inr is)

  -- and no other
  pub in_order-from : (xs : List X) (x : X) → IsIn x (in_order cmp key xs) → IsIn x xs
  in_order-from xs x is =
      at-member (λ y. IsIn y xs) x (in_order cmp key xs)
      (recursion_from_All _ _ (in_order-All cmp key (λ y. IsIn y xs) xs (All-from_recursion _ _ (each-member xs)))) is

  -- an ascending list of just these members is the ordered list
  pub in_order-is : (xs ys : List X) → AllByRecursion P xs → IsStrictlySortedBy (λ a b. cmp (key a) (key b)) ys
      → ((x : X) → IsIn x xs → IsIn x ys) → ((x : X) → IsIn x ys → IsIn x xs) → ys ≡ in_order cmp key xs
  in_order-is xs ys all sorted to from =
      sorted-same (λ a b. cmp (key a) (key b)) by_key ys (in_order cmp key xs) sorted (in_order-sorted cmp key total decides xs)
      (λ x is. in_order-has xs x all (from x is)) (λ x is. to x (in_order-from xs x is))
    where
      by_key : IsTotalOrder (λ (a b : X). cmp (key a) (key b))
      by_key =
          record {
            antisymm = λ a b. total.antisymm (key a) (key b);
            trans = λ a b c p q. total.trans (key a) (key b) (key c) p q;
            congr =
                λ a b c p. total.congr (key a) (key b) (key c) p;
          }
