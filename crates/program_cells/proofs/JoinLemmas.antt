-- The places of the members of several numbers, put together.
use Rattle.std.proofs.Common.{◌≡◌, ◌∙◌, ℕ, zero, suc, ◌+◌, ◌<◌, ◌≤◌, inl, inr, Bool, true, false, cond, ◌&&◌, ◌||◌, nat_eq, List, [], ◌∷◌, ◌++◌, length, take}
use Rattle.std.proofs.Common.{get_or, eqb, Option, Some, None, slice_get, refl, sym, ap, arith}
use Rattle.std.specs.Prelude.{nat_lt}
use Rattle.std.specs.Option.{option_map_or}
use Rattle.std.specs.List.{AllPairs, list_any}
use Rattle.std.proofs.lemmas.Bool.{and_parts, cases_Bool, false≢true, eq-eqb, ne_eqb}
use Rattle.std.proofs.lemmas.Bool.Decides.{nat_tests}
use Rattle.std.proofs.lemmas.List.{take_more}
use Rattle.std.proofs.lemmas.List.Folds.{list_any-append}
use Rattle.std.proofs.lemmas.List.Kept.{AllPairs-from_increasing}
use Rattle.dh_metadata.specs.Members.{has, IsSortedCopy}
use Rattle.dh_sharing.specs.Ranges.{is_within}
use Rattle.program_cells.specs.Places.{ArePlaces, is_between, passes_at, places_from}

-- a number is in a list
abbrev any_is : ℕ → List ℕ → Bool
any_is p list = list_any (nat_eq p) list

turned : (x p : ℕ) → eqb x p ≡ nat_eq p x
turned x p = elim (cases_Bool (nat_eq p x)) [
  | inl same ↦ let e : nat_eq p x ≡ true = same in let is : x ≡ p = grind (arith, nat_tests) in eq-eqb x p is ∙ sym e
  | inr not ↦
      let e : nat_eq p x ≡ false = not in
      ne_eqb x p (λ is. let same : x ≡ p = is in absurd (false≢true (sym e ∙ (let yes_one : nat_eq p x ≡ true = grind (arith, nat_tests) in yes_one)))) ∙ sym e
]

has-is : (list : List ℕ) (p : ℕ) → has list p ≡ any_is p list
has-is [] p = refl
has-is (x ∷ xs) p = ap (λ b. b || has xs p) (turned x p) ∙ ap (λ b. nat_eq p x || b) (has-is xs p)

or_assoc : (a b c : Bool) → ((a || b) || c) ≡ (a || (b || c))
or_assoc true b c = refl
or_assoc false true c = refl
or_assoc false false c = refl

-- ---- what the places of a test are

before-none : {X : Type 0} (p n : ℕ) (test : X → Bool) (xs : List X) → p < n → any_is p (places_from n test xs) ≡ false
before-none p n test [] less = refl
before-none {X} p n test (x ∷ xs) less = by_test (test x) (before-none p (suc n) test xs (omega (arith, less)))
  where
    by_test : (b : Bool) → any_is p (places_from (suc n) test xs) ≡ false
        → any_is p (cond b (n ∷ places_from (suc n) test xs) (places_from (suc n) test xs)) ≡ false
    by_test true rest = let other : nat_eq p n ≡ false = grind (arith, nat_tests) in ap (λ b. b || any_is p (places_from (suc n) test xs)) other ∙ rest
    by_test false rest = rest

any-here : {X : Type 0} (n : ℕ) (test : X → Bool) (x : X) (xs : List X) (b : Bool) → test x ≡ b
    → any_is (n + 0) (cond b (n ∷ places_from (suc n) test xs) (places_from (suc n) test xs)) ≡ test x
any-here n test x xs true is =
    let here : nat_eq (n + 0) n ≡ true = grind (arith, nat_tests) in
    ap (λ b. b || any_is (n + 0) (places_from (suc n) test xs)) here ∙ sym is
any-here n test x xs false is = before-none (n + 0) (suc n) test xs (omega arith) ∙ sym is

any-later : {X : Type 0} (n i : ℕ) (test : X → Bool) (xs : List X) (b : Bool)
    → any_is (n + suc i) (places_from (suc n) test xs) ≡ passes_at test xs i
    → any_is (n + suc i) (cond b (n ∷ places_from (suc n) test xs) (places_from (suc n) test xs)) ≡ passes_at test xs i
any-later n i test xs true is =
    let other : nat_eq (n + suc i) n ≡ false = grind (arith, nat_tests) in
    ap (λ b. b || any_is (n + suc i) (places_from (suc n) test xs)) other ∙ is
any-later n i test xs false is = is

-- at the distance i from the first place
any-from : {X : Type 0} (n i : ℕ) (test : X → Bool) (xs : List X) → any_is (n + i) (places_from n test xs) ≡ passes_at test xs i
any-from n i test [] = refl
any-from n zero test (x ∷ xs) = any-here n test x xs (test x) refl
any-from n (suc i) test (x ∷ xs) =
    let next : suc n + i ≡ n + suc i = omega arith in
    any-later n i test xs (test x) (ap (λ m. any_is m (places_from (suc n) test xs)) (sym next) ∙ any-from (suc n) i test xs)

pub any-places : {X : Type 0} (p : ℕ) (test : X → Bool) (xs : List X) → any_is p (places_from 0 test xs) ≡ passes_at test xs p
any-places p test xs = ap (λ m. any_is m (places_from 0 test xs)) (let same : p ≡ 0 + p = omega arith in same) ∙ any-from 0 p test xs

-- ---- lists in order

-- all members are above n
abbrev pub above : ℕ → List ℕ → Bool
above n [] = true
above n (x ∷ xs) = nat_lt n x && above x xs

above-first : (n x : ℕ) (xs : List ℕ) → (nat_lt n x && above x xs) ≡ true → (n < x) × (above x xs ≡ true)
above-first n x xs up =
    let parts = and_parts (nat_lt n x) (above x xs) up in
    let less : nat_lt n x ≡ true = parts.0 in
    (grind (arith, nat_tests), parts.1)

above-none : (p n : ℕ) (xs : List ℕ) → p ≤ n → above n xs ≡ true → any_is p xs ≡ false
above-none p n [] upto up = refl
above-none p n (x ∷ xs) upto up =
    let parts = above-first n x xs up in
    let under : n < x = parts.0 in
    let other : nat_eq p x ≡ false = grind (arith, nat_tests) in
    ap (λ b. b || any_is p xs) other ∙ above-none p x xs (omega (arith, upto, under)) parts.1

-- each member is below the next
abbrev pub mounts : List ℕ → Bool
mounts [] = true
mounts (x ∷ xs) = above x xs

above-mounts : (n : ℕ) (xs : List ℕ) → above n xs ≡ true → mounts xs ≡ true
above-mounts n [] up = refl
above-mounts n (x ∷ xs) up = (above-first n x xs up).1

places-above : {X : Type 0} (n m : ℕ) (test : X → Bool) (xs : List X) → n < m → above n (places_from m test xs) ≡ true
places-above n m test [] less = refl
places-above n m test (x ∷ xs) less = by_test n m test x xs (test x) less (places-above n (suc m) test xs (omega (arith, less)))
    (places-above m (suc m) test xs (omega arith))
  where
    by_test : {X : Type 0} (n m : ℕ) (test : X → Bool) (x : X) (xs : List X) (b : Bool) → n < m → above n (places_from (suc m) test xs) ≡ true
        → above m (places_from (suc m) test xs) ≡ true
        → above n (cond b (m ∷ places_from (suc m) test xs) (places_from (suc m) test xs)) ≡ true
    by_test n m test x xs true less far near =
        let here : nat_lt n m ≡ true = grind (arith, nat_tests) in
        ap (λ b. b && above m (places_from (suc m) test xs)) here ∙ near
    by_test n m test x xs false less far near = far

-- the places of what passes ascend
pub places-mount : {X : Type 0} (n : ℕ) (test : X → Bool) (xs : List X) → mounts (places_from n test xs) ≡ true
places-mount n test [] = refl
places-mount n test (x ∷ xs) = by_test n test xs (test x) (places-above n (suc n) test xs (omega arith)) (places-mount (suc n) test xs)
  where
    by_test : {X : Type 0} (n : ℕ) (test : X → Bool) (xs : List X) (b : Bool) → above n (places_from (suc n) test xs) ≡ true
        → mounts (places_from (suc n) test xs) ≡ true
        → mounts (cond b (n ∷ places_from (suc n) test xs) (places_from (suc n) test xs)) ≡ true
    by_test n test xs true near rest = near
    by_test n test xs false near rest = rest

own-first : (x : ℕ) (xs : List ℕ) → any_is x (x ∷ xs) ≡ true
own-first x xs = let here : nat_eq x x ≡ true = grind (arith, nat_tests) in ap (λ b. b || any_is x xs) here

not-below : (x y : ℕ) (ys : List ℕ) → above y ys ≡ true → any_is x (y ∷ ys) ≡ true → y ≤ x
not-below x y ys up there = elim (cases_Bool (nat_lt x y)) [
  | inl less ↦
      let under : x < y = (let l : nat_lt x y ≡ true = less in grind (arith, nat_tests)) in
      let other : nat_eq x y ≡ false = grind (arith, nat_tests) in
      absurd (false≢true (sym (ap (λ b. b || any_is x ys) other ∙ above-none x y ys (omega (arith, under)) up) ∙ there))
  | inr not ↦ let l : nat_lt x y ≡ false = not in grind (arith, nat_tests)
]

-- two lists that ascend and have the same members are one
pub same-mounting : (xs ys : List ℕ) → mounts xs ≡ true → mounts ys ≡ true → ((p : ℕ) → any_is p xs ≡ any_is p ys) → xs ≡ ys
same-mounting [] [] one other same = refl
same-mounting (x ∷ xs) [] one other same = absurd (false≢true (sym (same x) ∙ own-first x xs))
same-mounting [] (y ∷ ys) one other same = absurd (false≢true (same y ∙ own-first y ys))
same-mounting (x ∷ xs) (y ∷ ys) one other same =
    let upto : y ≤ x = not-below x y ys other (sym (same x) ∙ own-first x xs) in
    let from : x ≤ y = not-below y x xs one (same y ∙ own-first y ys) in
    let head : x ≡ y = omega (arith, upto, from) in
    let tail : xs ≡ ys =
    same-mounting xs ys (above-mounts x xs one) (above-mounts y ys other) (λ p. rest p x y xs ys head one other (same p)) in
    ap (λ z. z ∷ xs) head ∙ ap (λ zs. y ∷ zs) tail
  where
    rest : (p x y : ℕ) (xs ys : List ℕ) → x ≡ y → above x xs ≡ true → above y ys ≡ true → any_is p (x ∷ xs) ≡ any_is p (y ∷ ys) → any_is p xs ≡ any_is p ys
    rest p x y xs ys head one other is = elim (cases_Bool (nat_eq p x)) [
      | inl here ↦
          let at : p ≡ x = (let e : nat_eq p x ≡ true = here in grind (arith, nat_tests)) in
          above-none p x xs (omega (arith, at)) one ∙ sym (above-none p y ys (omega (arith, at, head)) other)
      | inr not ↦
          let off : nat_eq p x ≡ false = not in
          let apart : nat_eq p y ≡ false = grind (arith, nat_tests) in
          sym (ap (λ b. b || any_is p xs) off) ∙ is ∙ ap (λ b. b || any_is p ys) apart
    ]

mounts-from : (xs : List ℕ) → AllPairs (λ x y. x < y) xs → mounts xs ≡ true
mounts-from [] up = refl
mounts-from (x ∷ []) up = refl
mounts-from (x ∷ y ∷ ys) up =
    let first : x < y = up 0 1 0 (omega arith) (omega arith) in
    let here : nat_lt x y ≡ true = grind (arith, nat_tests) in
    ap (λ b. b && above y ys) here
    ∙ mounts-from (y ∷ ys) (λ i j d less within. up (suc i) (suc j) d (omega (arith, less)) (omega (arith, within)))

-- a sorted copy of the places of what passes is the list of them
pub sorted-places : {X : Type 0} (test : X → Bool) (xs : List X) (found list : List ℕ) → IsSortedCopy found list
    → ((p : ℕ) → has found p ≡ passes_at test xs p) → list ≡ places_from 0 test xs
sorted-places test xs found list copy known =
    same-mounting list (places_from 0 test xs) (mounts-from list (AllPairs-from_increasing list copy.ascend)) (places-mount 0 test xs)
    (λ p. sym (has-is list p) ∙ copy.same p ∙ known p ∙ sym (any-places p test xs))

-- ---- tests joined

passes-or : {X : Type 0} (one other both : X → Bool) (o : Option X) → ((x : X) → (one x || other x) ≡ both x)
    → (option_map_or one o false || option_map_or other o false) ≡ option_map_or both o false
passes-or one other both None same = refl
passes-or one other both (Some x) same = same x

passes-none : {X : Type 0} (test : X → Bool) (o : Option X) → ((x : X) → test x ≡ false) → option_map_or test o false ≡ false
passes-none test None not = refl
passes-none test (Some x) not = not x

or-none : (b : Bool) → (b || false) ≡ b
or-none true = refl
or-none false = refl

between-none : (from n : ℕ) → is_between from from n ≡ false
between-none from n = grind (arith, nat_tests)

between-more : (from unit n : ℕ) → from ≤ unit → (is_between from unit n || nat_eq n unit) ≡ is_between from (unit + 1) n
between-more from unit n order = grind (arith, nat_tests)

-- ---- the units of a range

pub units-start : {X : Type 0} (number : X → ℕ) (xs : List X) (from : ℕ) (start : List ℕ) (p : ℕ)
    → has start p ≡ (has start p || passes_at (λ x. is_between from from (number x)) xs p)
units-start number xs from start p =
    sym (ap (λ b. has start p || b)
    (passes-none (λ x. is_between from from (number x)) (slice_get xs p) (λ x. between-none from (number x))) ∙ or-none (has start p))

pub units-more : {X : Type 0} (number : X → ℕ) (xs : List X) (lists : List (List ℕ)) (from unit : ℕ) (start old new : List ℕ) → ArePlaces number xs lists
    → from ≤ unit → unit < length lists → new ≡ old ++ get_or lists unit []
    → ((p : ℕ) → has old p ≡ (has start p || passes_at (λ x. is_between from unit (number x)) xs p))
    → (p : ℕ) → has new p ≡ (has start p || passes_at (λ x. is_between from (unit + 1) (number x)) xs p)
units-more {X} number xs lists from unit start old new known order within is so_far p =
    let list = get_or lists unit [] in
    let test : X → Bool = λ x. is_between from unit (number x) in
    let own : X → Bool = λ x. nat_eq (number x) unit in
    let next : X → Bool = λ x. is_between from (unit + 1) (number x) in
    let added : has list p ≡ passes_at own xs p =
    has-is list p ∙ ap (any_is p) (known.each unit [] within) ∙ any-places p own xs in
    ap (λ l. has l p) is ∙ list_any-append (λ own. eqb own p) old list ∙ ap (λ b. b || has list p) (so_far p)
    ∙ ap (λ b. (has start p || passes_at test xs p) || b) added
    ∙ or_assoc (has start p) (passes_at test xs p) (passes_at own xs p)
    ∙ ap (λ b. has start p || b) (passes-or test own next (slice_get xs p) (λ x. between-more from unit (number x) order))

-- ---- the ranges

pub ranges-start : {X : Type 0} (number : X → ℕ) (xs : List X) (found : List ℕ) (p : ℕ) → found ≡ []
    → has found p ≡ passes_at (λ x. is_within [] (number x)) xs p
ranges-start number xs found p none =
    ap (λ l. has l p) none ∙ sym (passes-none (λ x. is_within [] (number x)) (slice_get xs p) (λ x. refl))

within-more : (parts : List (ℕ × ℕ)) (i : ℕ) (part : ℕ × ℕ) (n : ℕ) → i < length parts → part ≡ get_or parts i part
    → (is_within (take i parts) n || is_between part.0 part.1 n) ≡ is_within (take (i + 1) parts) n
within-more parts i part n within at =
    let test : ℕ × ℕ → Bool = λ (range : ℕ × ℕ). is_between range.0 range.1 n in
    sym (ap (list_any test) (take_more parts i part within ∙ ap (λ q. take i parts ++ q ∷ []) (sym at))
    ∙ list_any-append test (take i parts) (part ∷ []) ∙ ap (λ b. is_within (take i parts) n || b) (or-none (test part)))

pub ranges-more : {X : Type 0} (number : X → ℕ) (xs : List X) (parts : List (ℕ × ℕ)) (i : ℕ) (part : ℕ × ℕ) (old new : List ℕ) → i < length parts
    → part ≡ get_or parts i part → ((p : ℕ) → has old p ≡ passes_at (λ x. is_within (take i parts) (number x)) xs p)
    → ((p : ℕ) → has new p ≡ (has old p || passes_at (λ x. is_between part.0 part.1 (number x)) xs p))
    → (p : ℕ) → has new p ≡ passes_at (λ x. is_within (take (i + 1) parts) (number x)) xs p
ranges-more number xs parts i part old new within at so_far is p =
    is p ∙ ap (λ b. b || passes_at (λ x. is_between part.0 part.1 (number x)) xs p) (so_far p)
    ∙ passes-or (λ x. is_within (take i parts) (number x)) (λ x. is_between part.0 part.1 (number x)) (λ x. is_within (take (i + 1) parts) (number x))
    (slice_get xs p) (λ x. within-more parts i part (number x) within at)
