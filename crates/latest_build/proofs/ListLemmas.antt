-- Lists of what keys hold, of which some keys are touched.
use Rattle.std.proofs.Common.{◌≡◌, ◌∙◌, ℕ, zero, suc, ◌<◌, inl, inr, Bool, true, false}
use Rattle.std.proofs.Common.{not, cond, ◌||◌, List, [], ◌∷◌, length, get_or, Option, Some, None, refl, sym, ap}
use Rattle.std.proofs.Common.{subst, arith, Ordering, Less, Equal, Greater}
use Rattle.std.specs.Prelude.{Contains}
use Rattle.std.specs.Cmp.{IsTotalOrder, tied_itself}
use Rattle.std.specs.FinMap.{IsAntisymmetric}
use Rattle.std.specs.List.{AllByRecursion, filter, filter_map, cons_option}
use Rattle.std.specs.List.Sorted.{IsStrictlySortedBy}
use Rattle.std.specs.Ordering.{is_eq}
use Rattle.std.proofs.lemmas.Bool.{false≢true}
use Rattle.std.proofs.lemmas.List.Kept.{IsStrictlySortedBy-filter}
use Rattle.table_build.specs.Ordered.{in_order}
use Rattle.table_build.proofs.EachLemmas.{every}
use Rattle.table_build.proofs.KeyLemmas.{given-in}
use Rattle.table_build.proofs.MemberLemmas.{IsIn, in_order-from, in_order-has, sorted-same}
use Rattle.table_latest.specs.Keys.{is_among}

-- ---- members

pub from-contains : {X : Type 0} (x : X) (xs : List X) → Contains xs x → IsIn x xs
from-contains {X = X} x [] there = absurd (let within = there.1 in omega (arith, within))
from-contains {X = X} x (y ∷ ys) there = by_place there.0 there.1 there.2
  where
    by_place : (i : ℕ) → i < suc (length ys) → get_or (y ∷ ys) i x ≡ x → IsIn x (y ∷ ys)
    by_place zero within at = inl (sym at)
    by_place (suc i) within at = inr (later i ys (omega (arith, within)) at)
      where
        later : (i : ℕ) (ys : List X) → i < length ys → get_or ys i x ≡ x → IsIn x ys
        later i [] within at = absurd (omega (arith, within))
        later zero (z ∷ zs) within at = inl (sym at)
        later (suc i) (z ∷ zs) within at = inr (later i zs (omega (arith, within)) at)

pub to-contains : {X : Type 0} (x : X) (xs : List X) → IsIn x xs → Contains xs x
to-contains x [] none = absurd none
to-contains x (y ∷ ys) (inl e) = (0, omega arith, sym e)
to-contains x (y ∷ ys) (inr rest) =
    let found = to-contains x ys rest in
    (suc found.0, (let within = found.1 in omega (arith, within)), found.2)

pub in-filter : {X : Type 0} (p : X → Bool) (x : X) (xs : List X) → IsIn x (filter p xs) → IsIn x xs × (p x ≡ true)
in-filter p x [] none = absurd none
in-filter p x (y ∷ ys) is = by_test (p y) refl is (λ later. in-filter p x ys later)
  where
    by_test : (b : Bool) → p y ≡ b → IsIn x (cond b (y ∷ filter p ys) (filter p ys)) → (IsIn x (filter p ys) → IsIn x ys × (p x ≡ true))
        → IsIn x (y ∷ ys) × (p x ≡ true)
    by_test true kept (inl e) rest = (inl e, ap p e ∙ kept)
    by_test true kept (inr later) rest = let found = rest later in (inr found.0, found.1)
    by_test false left later rest = let found = rest later in (inr found.0, found.1)

pub to-filter : {X : Type 0} (p : X → Bool) (x : X) (xs : List X) → IsIn x xs → p x ≡ true → IsIn x (filter p xs)
to-filter p x [] none kept = absurd none
to-filter p x (y ∷ ys) (inl e) kept =
    subst (λ b. IsIn x (cond b (y ∷ filter p ys) (filter p ys))) (sym (ap p (sym e) ∙ kept)) (inl e)
to-filter p x (y ∷ ys) (inr later) kept = by_test (p y) (to-filter p x ys later kept)
  where
    by_test : (b : Bool) → IsIn x (filter p ys) → IsIn x (cond b (y ∷ filter p ys) (filter p ys))
    by_test true rest = inr rest
    by_test false rest = rest

-- a member of a list of which f gives b
pub record Gives {A B : Type 0} (f : A → Option B) (xs : List A) (b : B) : Type 0 where
  pub a : A
  pub there : IsIn a xs
  pub is : f a ≡ Some b

later : {A B : Type 0} (f : A → Option B) (x : A) (xs : List A) (b : B) → Gives f xs b → Gives f (x ∷ xs) b
later f x xs b g = record { a = g.a; there = inr g.there; is = g.is }

pub in-given : {A B : Type 0} (f : A → Option B) (xs : List A) (b : B) → IsIn b (filter_map f xs) → Gives f xs b
in-given f [] b none = absurd none
in-given {A = A} {B = B} f (x ∷ xs) b is = by_first (f x) refl is (λ in_rest. in-given f xs b in_rest)
  where
    by_first : (o : Option B) → f x ≡ o → IsIn b (cons_option o (filter_map f xs)) → (IsIn b (filter_map f xs) → Gives f xs b) → Gives f (x ∷ xs) b
    by_first None e in_rest more = later f x xs b (more in_rest)
    by_first (Some y) e (inl same) more = record { a = x; there = inl refl; is = e ∙ ap Some (sym same) }
    by_first (Some y) e (inr in_rest) more = later f x xs b (more in_rest)

-- each of what f gives has what it gives of any
pub in-given-all : {A X : Type 0} (f : A → Option X) (P : X → Type 0) → ((a : A) (x : X) → f a ≡ Some x → P x) → (list : List A)
    → AllByRecursion P (filter_map f list)
in-given-all f P one [] = tt
in-given-all f P one (a ∷ list) =
    elim (f a) as (λ o. f a ≡ o → AllByRecursion P (cons_option o (filter_map f list))) [
      | Some x ↦ λ is. (one a x is, in-given-all f P one list)
      | None ↦ λ is. in-given-all f P one list
    ] refl

-- ---- the keys in tables of some keys

module _ {K P : Type 0} (cmp : P → P → Ordering) (total : IsTotalOrder cmp) (decides : IsAntisymmetric cmp) (placed : K → Option P) (keys : List K) where
  eq-is : (o : Ordering) → is_eq o ≡ true → o ≡ Equal
  eq-is Less e = absurd (cc)
  eq-is Equal e = refl
  eq-is Greater e = absurd (cc)

  found : (p : P) (ps : List P) → is_among cmp ps p ≡ true → IsIn p ps
  found p [] e = absurd (false≢true e)
  found p (q ∷ qs) e = by_first (is_eq (cmp q p)) refl e (λ rest. found p qs rest)
    where
      by_first : (b : Bool) → is_eq (cmp q p) ≡ b → (b || is_among cmp qs p) ≡ true → (is_among cmp qs p ≡ true → IsIn p qs) → IsIn p (q ∷ qs)
      by_first true is e rest = inl (sym (decides q p (eq-is (cmp q p) is)))
      by_first false is e rest = inr (rest e)

  seen : (p : P) (ps : List P) → IsIn p ps → is_among cmp ps p ≡ true
  seen p [] none = absurd none
  seen p (q ∷ qs) (inl e) = ap (λ b. b || is_among cmp qs p) (ap (λ v. is_eq (cmp v p)) (sym e) ∙ ap is_eq (tied_itself total p))
  seen p (q ∷ qs) (inr rest) = ap (λ b. is_eq (cmp q p) || b) (seen p qs rest) ∙ or_true (is_eq (cmp q p))
    where
      or_true : (b : Bool) → (b || true) ≡ true
      or_true true = refl
      or_true false = refl

  -- one of them is that of a key
  pub among-from : (p : P) → is_among cmp (in_order cmp (λ q. q) (filter_map placed keys)) p ≡ true → Gives placed keys p
  among-from p e =
      in-given placed keys p
      (in_order-from cmp (λ q. q) total decides (λ q. Unit {0}) (λ x y p q same. same) (filter_map placed keys) p
      (found p (in_order cmp (λ q. q) (filter_map placed keys)) e))

  pub among-to : (k : K) (p : P) → IsIn k keys → placed k ≡ Some p → is_among cmp (in_order cmp (λ q. q) (filter_map placed keys)) p ≡ true
  among-to k p there is =
      seen p (in_order cmp (λ q. q) (filter_map placed keys))
      (in_order-has cmp (λ q. q) total decides (λ q. Unit {0}) (λ x y p q same. same) (filter_map placed keys) p (every (filter_map placed keys))
      (given-in placed k p is keys there))

-- ---- lists of what keys hold

-- an ascending list of just what keys hold
pub record IsListOf {K X : Type 0} (cmp : X → X → Ordering) (at : K → Option X) (keys : List K) (xs : List X) : Type 0 where
  pub sorted : IsStrictlySortedBy cmp xs
  pub has : (k : K) (x : X) → IsIn k keys → at k ≡ Some x → IsIn x xs
  pub from : (x : X) → IsIn x xs → Gives at keys x

-- what keys hold has their place, no two keys have one place, and keys that hold something are named
pub record IsPlaced {K X P : Type 0} (at : K → Option X) (placed : K → Option P) (place : X → P) (named : List K) : Type 0 where
  pub at_place : (k : K) (x : X) → at k ≡ Some x → placed k ≡ Some (place x)
  pub one : (a b : K) (p : P) → placed a ≡ Some p → placed b ≡ Some p → a ≡ b
  pub named_all : (k : K) (x : X) → at k ≡ Some x → IsIn k named

module _ {K X P : Type 0} (cmp : X → X → Ordering) (total : IsTotalOrder cmp) (order : P → P → Ordering) (ordered : IsTotalOrder order)
    (decides : IsAntisymmetric order) (place : X → P) (placed : K → Option P) (keys : List K) where
  abbrev pub touched : X → Bool
  touched x = is_among order (in_order order (λ p. p) (filter_map placed keys)) (place x)

  -- what touched keys hold is what is touched of all
  pub changed-is : (at : K → Option X) (named : List K) (later now : List X) → IsPlaced at placed place named → IsListOf cmp at named later
      → IsListOf cmp at keys now → filter (λ x. is_among order (in_order order (λ p. p) (filter_map placed keys)) (place x)) later ≡ now
  changed-is at named later now is whole part =
      sorted-same cmp total (filter touched later) now (IsStrictlySortedBy-filter cmp touched later whole.sorted) part.sorted to from
    where
      to : (x : X) → IsIn x (filter (λ x. is_among order (in_order order (λ p. p) (filter_map placed keys)) (place x)) later) → IsIn x now
      to x there =
          let kept = in-filter (λ x. is_among order (in_order order (λ p. p) (filter_map placed keys)) (place x)) x later there in
          let own = whole.from x kept.0 in
          let key = among-from order ordered decides placed keys (place x) kept.1 in
          let same = is.one own.a key.a (place x) (is.at_place own.a x own.is) key.is in
          part.has key.a x key.there (ap at (sym same) ∙ own.is)

      from : (x : X) → IsIn x now → IsIn x (filter (λ x. is_among order (in_order order (λ p. p) (filter_map placed keys)) (place x)) later)
      from x there =
          let own = part.from x there in
          to-filter (λ x. is_among order (in_order order (λ p. p) (filter_map placed keys)) (place x)) x later
          (whole.has own.a x (is.named_all own.a x own.is) own.is)
          (among-to order ordered decides placed keys own.a (place x) own.there (is.at_place own.a x own.is))

  apart : (at : K → Option X) (k : K) (x : X) → ((k : K) (x : X) → at k ≡ Some x → placed k ≡ Some (place x)) → at k ≡ Some x
      → not (is_among order (in_order order (λ p. p) (filter_map placed keys)) (place x)) ≡ true → IsIn k keys → ⊥
  apart at k x at_place is left there =
      let touched_too = among-to order ordered decides placed keys k (place x) there (at_place k x is) in
      false≢true (sym (ap not touched_too) ∙ left)

  -- what isn't touched is the same where no other key changed
  pub same-is : (before at : K → Option X) (was named : List K) (base later : List X) → IsPlaced before placed place was → IsPlaced at placed place named
      → IsListOf cmp before was base → IsListOf cmp at named later → ((k : K) → (IsIn k keys → ⊥) → before k ≡ at k)
      → filter (λ x. not (is_among order (in_order order (λ p. p) (filter_map placed keys)) (place x))) later
      ≡ filter (λ x. not (is_among order (in_order order (λ p. p) (filter_map placed keys)) (place x))) base
  same-is before at was named base later old new first second cover =
      sorted-same cmp total (filter (λ x. not (touched x)) later) (filter (λ x. not (touched x)) base)
      (IsStrictlySortedBy-filter cmp (λ x. not (touched x)) later second.sorted) (IsStrictlySortedBy-filter cmp (λ x. not
      (touched x)) base first.sorted) to from
    where
      to : (x : X) → IsIn x (filter (λ x. not (is_among order (in_order order (λ p. p) (filter_map placed keys)) (place x))) later)
          → IsIn x (filter (λ x. not (is_among order (in_order order (λ p. p) (filter_map placed keys)) (place x))) base)
      to x there =
          let kept = in-filter (λ x. not (is_among order (in_order order (λ p. p) (filter_map placed keys)) (place x))) x later there in
          let own = second.from x kept.0 in
          let held = cover own.a (apart at own.a x new.at_place own.is kept.1) ∙ own.is in
          to-filter (λ x. not (is_among order (in_order order (λ p. p) (filter_map placed keys)) (place x))) x base
          (first.has own.a x (old.named_all own.a x held) held) kept.1

      from : (x : X) → IsIn x (filter (λ x. not (is_among order (in_order order (λ p. p) (filter_map placed keys)) (place x))) base)
          → IsIn x (filter (λ x. not (is_among order (in_order order (λ p. p) (filter_map placed keys)) (place x))) later)
      from x there =
          let kept = in-filter (λ x. not (is_among order (in_order order (λ p. p) (filter_map placed keys)) (place x))) x base there in
          let own = first.from x kept.0 in
          let held = sym (cover own.a (apart before own.a x old.at_place own.is kept.1)) ∙ own.is in
          to-filter (λ x. not (is_among order (in_order order (λ p. p) (filter_map placed keys)) (place x))) x later
          (second.has own.a x (new.named_all own.a x held) held) kept.1
