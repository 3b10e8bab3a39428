-- The value of samples doesn't depend on the order in which they stand.
use Rattle.std.proofs.Common.{◌≡◌, ◌∙◌, ℕ, zero, suc, ◌+◌, ◌<◌, Bool, true, false, not, cond, ◌&&◌, ◌||◌, List, [], ◌∷◌, length, map, get_or, set, ℤ, ◌+ℤ◌}
use Rattle.std.proofs.Common.{◌≤ℤ◌, ◌<ℤ◌, ◌⊎◌, Option, Some, None, inl, inr, refl, sym, ap, subst, arith}
use Rattle.std.specs.Prelude.{IsPermutation, int_le, if◌then◌else◌}
use Rattle.std.specs.List.{filter, list_any, swap}
use Rattle.std.proofs.Math.Nat.{add_left_comm}
use Rattle.std.proofs.Math.IntN.{+ℤ_comm, +ℤ_assoc}
use Rattle.std.proofs.lemmas.List.Sorted.{IsPermutation-keeps}
use Rattle.std.proofs.lemmas.Bool.{cases_Bool}
use Rattle.std.proofs.lemmas.Int.{ints}
use borrow.Author.Differences.{le-false}
use Rattle.dh_periods.proofs.HeldLemmas.{int_le-at, int_le-yes}
use Rattle.table_rows.specs.Cells.{times, how_many}
use Rattle.table_rows.specs.Groups.{each_once}
use Rattle.table_rows.specs.declared.sample.Sample.{Sample}
use Rattle.table_rows.specs.Values.{left_from, left_of, lesser, greater}
use Rattle.table_rows.specs.Samples.{total}

-- ---- what holds between a list and one in another order

pub record IsClosed {X : Type 0} (R : List X → List X → Type 0) : Type 0 where
  pub unmoved : (xs : List X) → R xs xs
  pub beyond : (x : X) (xs ys : List X) → R xs ys → R (x ∷ xs) (x ∷ ys)
  pub turned : (x y : X) (xs : List X) → R (x ∷ y ∷ xs) (y ∷ x ∷ xs)
  pub further : (xs ys zs : List X) → R xs ys → R ys zs → R xs zs

with_first : {X : Type 0} (R : List X → List X → Type 0) → IsClosed R → (x : X) (xs : List X) (k : ℕ) (d : X) → k < length xs
    → R (x ∷ xs) (get_or xs k d ∷ set xs k x)
with_first R r x [] k d within = absurd (omega arith)
with_first R r x (z ∷ zs) zero d within = r.turned x z zs
with_first R r x (z ∷ zs) (suc k) d within =
    r.further (x ∷ z ∷ zs) (z ∷ x ∷ zs) (get_or zs k d ∷ z ∷ set zs k x) (r.turned x z zs)
    (r.further (z ∷ x ∷ zs) (z ∷ get_or zs k d ∷ set zs k x) (get_or zs k d ∷ z ∷ set zs k x)
    (r.beyond z (x ∷ zs) (get_or zs k d ∷ set zs k x) (with_first R r x zs k d (omega arith))) (r.turned z (get_or zs k d) (set zs k x)))

exchanged : {X : Type 0} (R : List X → List X → Type 0) → IsClosed R → (xs : List X) (i j : ℕ) (d : X) → i < length xs → j < length xs
    → R xs (set (set xs i (get_or xs j d)) j (get_or xs i d))
exchanged R r [] i j d p q = absurd (omega arith)
exchanged R r (x ∷ xs) zero zero d p q = r.unmoved (x ∷ xs)
exchanged R r (x ∷ xs) zero (suc k) d p q = with_first R r x xs k d (omega arith)
exchanged R r (x ∷ xs) (suc k) zero d p q = with_first R r x xs k d (omega arith)
exchanged R r (x ∷ xs) (suc i) (suc j) d p q =
    r.beyond x xs (set (set xs i (get_or xs j d)) j (get_or xs i d)) (exchanged R r xs i j d (omega arith) (omega arith))

swapped : {X : Type 0} (R : List X → List X → Type 0) → IsClosed R → (xs : List X) (i j : ℕ) → i < length xs → j < length xs → R xs (swap xs i j)
swapped R r [] i j p q = absurd (omega arith)
swapped R r (x ∷ xs) i j p q = exchanged R r (x ∷ xs) i j x p q

pub closed-permutation : {X : Type 0} (R : List X → List X → Type 0) → IsClosed R → (xs ys : List X) → IsPermutation xs ys → R xs ys
closed-permutation R r xs ys moved =
    IsPermutation-keeps xs (λ l. R xs l) (r.unmoved xs) (λ l i j p q h. r.further xs l (swap l i j) h (swapped R r l i j p q)) ys moved

-- it holds of what a test keeps, and of what a function makes
pub closed-filter : {X : Type 0} (t : X → Bool) (R : List X → List X → Type 0) → IsClosed R → IsClosed (λ xs ys. R (filter t xs) (filter t ys))
closed-filter {X = X} t R r = record {
  unmoved = λ xs. r.unmoved (filter t xs);
  beyond = λ x xs ys h. one (t x) x xs ys h;
  turned = λ x y xs. two (t x) (t y) x y xs;
  further = λ xs ys zs a b. r.further (filter t xs) (filter t ys) (filter t zs) a b;
}
  where
    one : (b : Bool) (x : X) (xs ys : List X) → R (filter t xs) (filter t ys)
        → R (cond b (x ∷ filter t xs) (filter t xs)) (cond b (x ∷ filter t ys) (filter t ys))
    one true x xs ys h = r.beyond x (filter t xs) (filter t ys) h
    one false x xs ys h = h

    two : (a b : Bool) (x y : X) (xs : List X)
        → R (cond a (x ∷ cond b (y ∷ filter t xs) (filter t xs)) (cond b (y ∷ filter t xs) (filter t xs)))
        (cond b (y ∷ cond a (x ∷ filter t xs) (filter t xs)) (cond a (x ∷ filter t xs) (filter t xs)))
    two true true x y xs = r.turned x y (filter t xs)
    two true false x y xs = r.unmoved (x ∷ filter t xs)
    two false true x y xs = r.unmoved (y ∷ filter t xs)
    two false false x y xs = r.unmoved (filter t xs)

pub closed-map : {A B : Type 0} (f : A → B) (R : List B → List B → Type 0) → IsClosed R → IsClosed (λ xs ys. R (map f xs) (map f ys))
closed-map f R r = record {
  unmoved = λ xs. r.unmoved (map f xs);
  beyond = λ x xs ys h. r.beyond (f x) (map f xs) (map f ys) h;
  turned = λ x y xs. r.turned (f x) (f y) (map f xs);
  further = λ xs ys zs a b. r.further (map f xs) (map f ys) (map f zs) a b;
}

-- ---- sums and counts

swap_sum : (a b c : ℤ) → a +ℤ (b +ℤ c) ≡ b +ℤ (a +ℤ c)
swap_sum a b c = sym (+ℤ_assoc a b c) ∙ ap (λ t. t +ℤ c) (+ℤ_comm a b) ∙ +ℤ_assoc b a c

pub closed-total : (f : Sample → ℤ) → IsClosed (λ xs ys. total f xs ≡ total f ys)
closed-total f = record {
  unmoved = λ xs. refl;
  beyond = λ x xs ys h. ap (λ t. f x +ℤ t) h;
  turned = λ x y xs. swap_sum (f x) (f y) (total f xs);
  further = λ xs ys zs a b. a ∙ b;
}

or_swap : (a b c : Bool) → (a || (b || c)) ≡ (b || (a || c))
or_swap true true c = refl
or_swap true false c = refl
or_swap false b c = refl

pub closed-any : {X : Type 0} (p : X → Bool) → IsClosed (λ xs ys. list_any p xs ≡ list_any p ys)
closed-any p = record {
  unmoved = λ xs. refl;
  beyond = λ x xs ys h. ap (λ b. p x || b) h;
  turned = λ x y xs. or_swap (p x) (p y) (list_any p xs);
  further = λ xs ys zs a b. a ∙ b;
}

pub closed-length : {X : Type 0} → IsClosed {X = X} (λ xs ys. length xs ≡ length ys)
closed-length = record {
  unmoved = λ xs. refl;
  beyond = λ x xs ys h. ap suc h;
  turned = λ x y xs. refl;
  further = λ xs ys zs a b. a ∙ b;
}

-- ---- members that differ

filter_counts : {X : Type 0} (p q : X → Bool) (xs : List X) → how_many p (filter q xs) ≡ how_many (λ x. q x && p x) xs
filter_counts p q [] = refl
filter_counts p q (x ∷ xs) = by_test (q x) (filter_counts p q xs)
  where
    by_test : (b : Bool) → how_many p (filter q xs) ≡ how_many (λ x. q x && p x) xs
        → how_many p (cond b (x ∷ filter q xs) (filter q xs)) ≡ times (b && p x) + how_many (λ x. q x && p x) xs
    by_test true h = ap (λ n. times (p x) + n) h
    by_test false h = h ∙ sym_zero (how_many (λ x. q x && p x) xs)
      where
        sym_zero : (n : ℕ) → n ≡ 0 + n
        sym_zero n = omega arith

counts_same : {X : Type 0} (s t : X → Bool) (xs : List X) → ((x : X) → s x ≡ t x) → how_many s xs ≡ how_many t xs
counts_same s t [] same = refl
counts_same s t (x ∷ xs) same = ap (λ b. times b + how_many s xs) (same x) ∙ ap (λ n. times (t x) + n) (counts_same s t xs same)

-- equality that tells members apart
pub record Tells {X : Type 0} (same : X → X → Bool) : Type 0 where
  pub is : (x y : X) → same x y ≡ true → x ≡ y
  pub turns : (x y : X) → same x y ≡ same y x

pub closed-once : {X : Type 0} (same : X → X → Bool) → Tells same
    → IsClosed (λ xs ys. (p : X → Bool) → how_many p (each_once same xs) ≡ how_many p (each_once same ys))
closed-once {X = X} same tells = record {
  unmoved = λ xs p. refl;
  beyond = λ x xs ys h p.
      ap (λ n. times (p x) + n) (filter_counts p (λ y. not (same x y)) (each_once same xs) ∙ h (λ y. not (same x y) && p y)
      ∙ sym (filter_counts p (λ y. not (same x y)) (each_once same ys)));
  turned = λ x y xs p. two x y xs p (same x y) refl;
  further = λ xs ys zs a b p. a p ∙ b p;
}
  where
    tail : (x y : X) (xs : List X) (p : X → Bool) → how_many p (filter (λ z. not (same x z)) (filter (λ z. not (same y z)) (each_once same xs)))
        ≡ how_many (λ z. not (same y z) && (not (same x z) && p z)) (each_once same xs)
    tail x y xs p =
        filter_counts p (λ z. not (same x z)) (filter (λ z. not (same y z)) (each_once same xs))
        ∙ filter_counts (λ z. not (same x z) && p z) (λ z. not (same y z)) (each_once same xs)

    and_swap : (a b c : Bool) → (a && (b && c)) ≡ (b && (a && c))
    and_swap true b c = refl
    and_swap false true c = refl
    and_swap false false c = refl

    two : (x y : X) (xs : List X) (p : X → Bool) (b : Bool) → same x y ≡ b
        → how_many p (x ∷ filter (λ z. not (same x z)) (y ∷ filter (λ z. not (same y z)) (each_once same xs)))
        ≡ how_many p (y ∷ filter (λ z. not (same y z)) (x ∷ filter (λ z. not (same x z)) (each_once same xs)))
    two x y xs p true is =
        subst (λ (v : X). how_many p (x ∷ filter (λ z. not (same x z)) (v ∷ filter (λ z. not (same v z)) (each_once same xs)))
        ≡ how_many p (v ∷ filter (λ z. not (same v z)) (x ∷ filter (λ z. not (same x z)) (each_once same xs)))) (tells.is x y is) refl
    two x y xs p false is =
        ap (λ b. times (p x) + how_many p (cond (not b) (y ∷ filter (λ z. not (same x z)) (filter (λ z. not (same y z)) (each_once same xs)))
        (filter (λ z. not (same x z)) (filter (λ z. not (same y z)) (each_once same xs))))) is
        ∙ ap (λ n. times (p x) + (times (p y) + n))
        (tail x y xs p
        ∙ counts_same (λ z. not (same y z) && (not (same x z) && p z)) (λ z. not (same x z) && (not (same y z) && p z)) (each_once same xs)
        (λ z. and_swap (not (same y z)) (not (same x z)) (p z))
        ∙ sym (tail y x xs p))
        ∙ add_left_comm (times (p x)) (times (p y)) (how_many p (filter (λ z. not (same y z)) (filter (λ z. not (same x z)) (each_once same xs))))
        ∙ ap (λ b. times (p y) + how_many p (cond (not b) (x ∷ filter (λ z. not (same y z)) (filter (λ z. not (same x z)) (each_once same xs)))
        (filter (λ z. not (same y z)) (filter (λ z. not (same x z)) (each_once same xs))))) (sym (tells.turns y x ∙ is))

pub length_counts : {X : Type 0} (xs : List X) → how_many (λ x. true) xs ≡ length xs
length_counts [] = refl
length_counts (x ∷ xs) = ap (λ n. 1 + n) (length_counts xs) ∙ omega arith

-- ---- extremes

-- a choice between two that may be made in any order
pub record IsChoice (choice : ℤ → ℤ → ℤ) : Type 0 where
  pub comm : (x y : ℤ) → choice x y ≡ choice y x
  pub assoc : (x y z : ℤ) → choice (choice x y) z ≡ choice x (choice y z)

first_with : (ℤ → ℤ → ℤ) → ℤ → Option ℤ → Option ℤ
first_with choice x None = Some x
first_with choice x (Some y) = Some (choice x y)

left_from_first : (choice : ℤ → ℤ → ℤ) → IsChoice choice → (x y : ℤ) (xs : List ℤ) → left_from choice (choice x y) xs ≡ choice x (left_from choice y xs)
left_from_first choice c x y [] = refl
left_from_first choice c x y (z ∷ zs) = ap (λ v. left_from choice v zs) (c.assoc x y z) ∙ left_from_first choice c x (choice y z) zs

left_of_first : (choice : ℤ → ℤ → ℤ) → IsChoice choice → (x : ℤ) (xs : List ℤ) → left_of choice (x ∷ xs) ≡ first_with choice x (left_of choice xs)
unfolding first_with
left_of_first choice c x [] = refl
left_of_first choice c x (y ∷ ys) = ap Some (left_from_first choice c x y ys)

pub closed-left : (choice : ℤ → ℤ → ℤ) → IsChoice choice → IsClosed (λ xs ys. left_of choice xs ≡ left_of choice ys)
closed-left choice c = record {
  unmoved = λ xs. refl;
  beyond = λ x xs ys h. left_of_first choice c x xs ∙ ap (first_with choice x) h ∙ sym (left_of_first choice c x ys);
  turned = λ x y xs. ap (λ v. Some (left_from choice v xs)) (c.comm x y);
  further = λ xs ys zs a b. a ∙ b;
}

below_or : (x y : ℤ) → (x ≤ℤ y) ⊎ (y <ℤ x)
below_or x y =
    elim (cases_Bool (int_le x y)) [
      | inl is ↦ inl (int_le-yes x y is)
      | inr other ↦ inr (let back = le-false x y other in omega (arith, ints))
    ]

int_le-not : (x y : ℤ) → y <ℤ x → int_le x y ≡ false
int_le-not x y less =
    elim (cases_Bool (int_le x y)) [
      | inl is ↦ (let le : x ≤ℤ y = int_le-yes x y is in absurd (omega (arith, ints)))
      | inr other ↦ other
    ]

equal_between : (x y : ℤ) → x ≤ℤ y → y ≤ℤ x → x ≡ y
equal_between x y a b = omega (arith, ints)

lesser-first : (x y : ℤ) → x ≤ℤ y → lesser x y ≡ x
lesser-first x y h = ap (λ b. if b then x else y) (int_le-at x y h)

lesser-second : (x y : ℤ) → y <ℤ x → lesser x y ≡ y
lesser-second x y h = ap (λ b. if b then x else y) (int_le-not x y h)

greater-second : (x y : ℤ) → x ≤ℤ y → greater x y ≡ y
greater-second x y h = ap (λ b. if b then y else x) (int_le-at x y h)

greater-first : (x y : ℤ) → y <ℤ x → greater x y ≡ x
greater-first x y h = ap (λ b. if b then y else x) (int_le-not x y h)

pub lesser-choice : IsChoice lesser
lesser-choice = record {
  comm = λ x y.
      elim (below_or x y) [
        | inl le ↦ elim (below_or y x) [
          | inl back ↦ lesser-first x y le ∙ equal_between x y le back ∙ sym (lesser-first y x back)
          | inr less ↦ lesser-first x y le ∙ sym (lesser-second y x less)
        ]
        | inr less ↦ lesser-second x y less ∙ sym (lesser-first y x (omega (arith, ints)))
      ];
  assoc = λ x y z.
      elim (below_or x y) [
        | inl le ↦ elim (below_or y z) [
          | inl next ↦ ap (λ v. lesser v z) (lesser-first x y le) ∙ lesser-first x z (omega (arith, ints)) ∙ sym (lesser-first x y le)
              ∙ ap (lesser x) (sym (lesser-first y z next))
          | inr next ↦ ap (λ v. lesser v z) (lesser-first x y le) ∙ ap (lesser x) (sym (lesser-second y z next))
        ]
        | inr less ↦ elim (below_or y z) [
          | inl next ↦ ap (λ v. lesser v z) (lesser-second x y less) ∙ lesser-first y z next ∙ sym (lesser-second x y less)
              ∙ ap (lesser x) (sym (lesser-first y z next))
          | inr next ↦ ap (λ v. lesser v z) (lesser-second x y less) ∙ lesser-second y z next ∙ sym (lesser-second x z (omega (arith, ints)))
              ∙ ap (lesser x) (sym (lesser-second y z next))
        ]
      ];
}

pub greater-choice : IsChoice greater
greater-choice = record {
  comm = λ x y.
      elim (below_or x y) [
        | inl le ↦ elim (below_or y x) [
          | inl back ↦ greater-second x y le ∙ equal_between y x back le ∙ sym (greater-second y x back)
          | inr less ↦ greater-second x y le ∙ sym (greater-first y x less)
        ]
        | inr less ↦ greater-first x y less ∙ sym (greater-second y x (omega (arith, ints)))
      ];
  assoc = λ x y z.
      elim (below_or x y) [
        | inl le ↦ elim (below_or y z) [
          | inl next ↦ ap (λ v. greater v z) (greater-second x y le) ∙ greater-second y z next ∙ sym (greater-second x z (omega (arith, ints)))
              ∙ ap (greater x) (sym (greater-second y z next))
          | inr next ↦ ap (λ v. greater v z) (greater-second x y le) ∙ greater-first y z next ∙ sym (greater-second x y le)
              ∙ ap (greater x) (sym (greater-first y z next))
        ]
        | inr less ↦ elim (below_or y z) [
          | inl next ↦ ap (λ v. greater v z) (greater-first x y less) ∙ ap (greater x) (sym (greater-second y z next))
          | inr next ↦ ap (λ v. greater v z) (greater-first x y less) ∙ greater-first x z (omega (arith, ints)) ∙ sym (greater-first x y less)
              ∙ ap (greater x) (sym (greater-first y z next))
        ]
      ];
}
