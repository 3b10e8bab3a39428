-- Where members of a list stand, by a number that each has.
use Rattle.std.proofs.Common.{◌≡◌, ◌∙◌, ℕ, zero, suc, ◌+◌, ◌<◌, ◌≤◌, inl, inr, Bool, true, false, cond, ◌&&◌, ◌||◌, nat_eq, List, [], ◌∷◌}
use Rattle.std.proofs.Common.{◌++◌, length, map, take}
use Rattle.std.proofs.Common.{get_or, set, Option, Some, None, slice_get, refl, sym, ap, append_assoc, arith}
use Rattle.std.specs.Prelude.{nat_lt, nat_le, option_map, OnOk, Result, Ok, Err}
use Rattle.std.specs.Option.{option_to_list}
use Rattle.std.specs.List.{filter, filter_map, cons_option, list_all, list_any}
use Rattle.std.proofs.lemmas.Bool.{and_parts, cases_Bool}
use Rattle.std.proofs.lemmas.Bool.Decides.{nat_tests}
use Rattle.std.proofs.lemmas.List.{append-nil, map-append, length_push, length-set, get_or-set_same, get_or-set_other, get_or_append_left, get_or_at, take_more}
use Rattle.std.proofs.lemmas.List.Elements.{filter_map-append}
use Rattle.program_cells.specs.Places.{places_from, items_of, ArePlaces}

one_more : (b : Bool) (n : ℕ) (rest last : List ℕ) → cond b (n ∷ (rest ++ last)) (rest ++ last) ≡ cond b (n ∷ rest) rest ++ last
one_more true n rest last = refl
one_more false n rest last = refl

-- the place of a member more
pub places-push : {X : Type 0} (n : ℕ) (test : X → Bool) (xs : List X) (x : X) (at : ℕ) → at ≡ n + length xs
    → places_from n test (xs ++ x ∷ []) ≡ places_from n test xs ++ cond (test x) (at ∷ []) []
places-push n test [] x at is = let same : n ≡ at = omega (arith, is) in ap (λ m. cond (test x) (m ∷ []) []) same
places-push n test (y ∷ ys) x at is =
    let more : places_from (suc n) test (ys ++ x ∷ []) ≡ places_from (suc n) test ys ++ cond (test x) (at ∷ []) [] =
    places-push (suc n) test ys x at (omega (arith, is)) in
    ap (λ rest. cond (test y) (n ∷ rest) rest) more ∙ one_more (test y) n (places_from (suc n) test ys) (cond (test x) (at ∷ []) [])

-- ---- the members at places

at_end : {X : Type 0} (before : List X) (x : X) (xs : List X) → slice_get (before ++ x ∷ xs) (length before) ≡ Some x
at_end [] x xs = refl
at_end (y ∷ ys) x xs = at_end ys x xs

picked_after : {X : Type 0} (test : X → Bool) (before xs : List X) (n : ℕ) → n ≡ length before
    → filter_map (slice_get (before ++ xs)) (places_from n test xs) ≡ filter test xs
picked_after test before [] n is = refl
picked_after {X} test before (x ∷ xs) n is =
    let all : List X = before ++ x ∷ xs in
    let next : List X = before ++ x ∷ [] in
    let many = length_push before x in
    let same : next ++ xs ≡ all = append_assoc before (x ∷ []) xs in
    let here : slice_get all n ≡ Some x = ap (slice_get all) is ∙ at_end before x xs in
    let rest : filter_map (slice_get all) (places_from (suc n) test xs) ≡ filter test xs =
    ap (λ l. filter_map (slice_get l) (places_from (suc n) test xs)) (sym same) ∙ picked_after test next xs (suc n) (omega (arith, is, many)) in
    by_test (test x) all (places_from (suc n) test xs) here rest
  where
    by_test : (b : Bool) (all : List X) (later : List ℕ) → slice_get all n ≡ Some x → filter_map (slice_get all) later ≡ filter test xs
        → filter_map (slice_get all) (cond b (n ∷ later) later) ≡ cond b (x ∷ filter test xs) (filter test xs)
    by_test true all later here rest = ap (λ o. cons_option o (filter_map (slice_get all) later)) here ∙ ap (λ ys. x ∷ ys) rest
    by_test false all later here rest = rest

-- those at the places of what passes are what passes
pub picked : {X : Type 0} (test : X → Bool) (xs : List X) → filter_map (slice_get xs) (places_from 0 test xs) ≡ filter test xs
picked test xs = picked_after test [] xs 0 refl

-- ---- the lists of places

pub none-yet : {X : Type 0} (number : X → ℕ) (lists : List (List ℕ)) → lists ≡ [] → ArePlaces number [] lists
none-yet number lists none =
    let many : length lists ≡ 0 = ap length none in
    record { each = λ n d within. absurd (omega (arith, many, within)) }

-- one empty list more
pub empty-more : {X : Type 0} (number : X → ℕ) (lists new : List (List ℕ)) (x : List ℕ) → x ≡ [] → new ≡ lists ++ x ∷ [] → ArePlaces number [] lists
    → ArePlaces number [] new
empty-more {X} number lists new x none is known = record { each = each }
  where
    each : (order : ℕ) (d : List ℕ) → order < length new → get_or new order d ≡ []
    each order d within =
        let many : length new ≡ length lists + 1 = ap length is ∙ length_push lists x in
        elim (cases_Bool (nat_lt order (length lists))) [
          | inl less ↦
              let inside : order < length lists = grind (arith, nat_tests) in
              ap (λ l. get_or l order d) is ∙ get_or_append_left lists (x ∷ []) d order inside ∙ known.each order d inside
          | inr not ↦
              let last : length lists ≡ order = (let outside : nat_lt order (length lists) ≡ false = not in grind (arith, nat_tests)) in
              ap (λ l. get_or l order d) is ∙ get_or_at lists x [] d order last ∙ none
        ]

-- a member with a number for which there is no list
pub put-out : {X : Type 0} (number : X → ℕ) (before : List X) (x : X) (lists : List (List ℕ)) → length lists ≤ number x → ArePlaces number before lists
    → ArePlaces number (before ++ x ∷ []) lists
put-out {X} number before x lists past known = record { each = each }
  where
    each : (order : ℕ) (d : List ℕ) → order < length lists → get_or lists order d ≡ places_from 0 (λ event. nat_eq (number event) order) (before ++ x ∷ [])
    each order d within =
        let test : X → Bool = λ event. nat_eq (number event) order in
        let other : nat_eq (number x) order ≡ false = grind (arith, nat_tests) in
        known.each order d within
        ∙ sym (places-push 0 test before x (length before) (omega arith) ∙ ap (λ b. places_from 0 test before ++ cond b (length before ∷ []) []) other
        ∙ append-nil (places_from 0 test before))

-- a member more
pub put-in : {X : Type 0} (number : X → ℕ) (before : List X) (x : X) (lists new : List (List ℕ)) (unit at : ℕ) → number x ≡ unit → at ≡ length before
    → unit < length lists → new ≡ set lists unit (get_or lists unit [] ++ at ∷ []) → ArePlaces number before lists
    → ArePlaces number (before ++ x ∷ []) new
put-in {X} number before x lists new unit at own here within is known = record { each = each }
  where
    each : (order : ℕ) (d : List ℕ) → order < length new → get_or new order d ≡ places_from 0 (λ event. nat_eq (number event) order) (before ++ x ∷ [])
    each order d less =
        let test : X → Bool = λ event. nat_eq (number event) order in
        let more : List ℕ = get_or lists unit [] ++ at ∷ [] in
        let many : length new ≡ length lists = ap length is ∙ length-set lists unit more in
        let inside : order < length lists = omega (arith, less, many) in
        let pushed : places_from 0 test (before ++ x ∷ []) ≡ places_from 0 test before ++ cond (nat_eq (number x) order) (at ∷ []) [] =
        places-push 0 test before x at (omega (arith, here)) in
        elim (cases_Bool (nat_eq order unit)) [
          | inl same ↦
              let equal : order ≡ unit = grind (arith, nat_tests) in
              let yes_own : nat_eq (number x) order ≡ true = grind (arith, nat_tests) in
              ap (λ l. get_or l order d) is ∙ ap (λ n. get_or (set lists unit more) n d) equal ∙ get_or-set_same lists unit more d within
              ∙ ap (λ l. l ++ at ∷ []) (ap (λ n. get_or lists n []) (sym equal) ∙ known.each order [] inside)
              ∙ sym (pushed ∙ ap (λ b. places_from 0 test before ++ cond b (at ∷ []) []) yes_own)
          | inr apart ↦
              let off : nat_eq order unit ≡ false = apart in
              let other : nat_eq (number x) order ≡ false = grind (arith, nat_tests) in
              ap (λ l. get_or l order d) is ∙ get_or-set_other lists unit order more d (λ e. let equal : order ≡ unit = e in absurd (grind (arith, nat_tests)))
              ∙ known.each order d inside
              ∙ sym (pushed ∙ ap (λ b. places_from 0 test before ++ cond b (at ∷ []) []) other ∙ append-nil (places_from 0 test before))
        ]

-- ---- one order

pub only : (a b n : ℕ) → b ≡ a + 1 → ((nat_le a n && nat_lt n b) || false) ≡ nat_eq n a
only a b n next = grind (arith, nat_tests)

pub only_one : (parts : List (ℕ × ℕ)) (part : ℕ × ℕ) (n : ℕ) → length parts ≡ 1 → part ≡ get_or parts 0 part → part.1 ≡ part.0 + 1
    → list_any (λ (range : ℕ × ℕ). nat_le range.0 n && nat_lt n range.1) parts ≡ nat_eq n part.0
only_one [] part n one is next = absurd (omega (arith, one))
only_one (p ∷ []) part n one is next =
    ap (λ (q : ℕ × ℕ). (nat_le q.0 n && nat_lt n q.1) || false) (sym is) ∙ only part.0 part.1 n next
only_one (p ∷ q ∷ rest) part n one is next = absurd (omega (arith, one))

same-test : {X : Type 0} (one other : X → Bool) (xs : List X) → ((x : X) → one x ≡ other x) → filter one xs ≡ filter other xs
same-test one other [] same = refl
same-test one other (x ∷ xs) same =
    ap (λ b. cond b (x ∷ filter one xs) (filter one xs)) (same x) ∙ ap (λ ys. cond (other x) (x ∷ ys) ys) (same-test one other xs same)

-- the members with one number
pub own : {X : Type 0} (number : X → ℕ) (test : ℕ → Bool) (xs : List X) (lists : List (List ℕ)) (unit : ℕ) (list : List ℕ) → ArePlaces number xs lists
    → unit < length lists → list ≡ get_or lists unit list → ((n : ℕ) → test n ≡ nat_eq n unit)
    → filter_map (slice_get xs) list ≡ filter (λ x. test (number x)) xs
own {X} number test xs lists unit list known within at one =
    ap (filter_map (slice_get xs)) (at ∙ known.each unit list within)
    ∙ picked (λ x. nat_eq (number x) unit) xs
    ∙ same-test (λ x. nat_eq (number x) unit) (λ x. test (number x)) xs (λ x. sym (one (number x)))

same-places : {X : Type 0} (one other : X → Bool) (n : ℕ) (xs : List X) → ((x : X) → one x ≡ other x) → places_from n one xs ≡ places_from n other xs
same-places one other n [] same = refl
same-places one other n (x ∷ xs) same =
    ap (λ b. cond b (n ∷ places_from (suc n) one xs) (places_from (suc n) one xs)) (same x)
    ∙ ap (λ ps. cond (other x) (n ∷ ps) ps) (same-places one other (suc n) xs same)

-- their places
pub own-places : {X : Type 0} (number : X → ℕ) (test : ℕ → Bool) (xs : List X) (lists : List (List ℕ)) (unit : ℕ) (list : List ℕ) → ArePlaces number xs lists
    → unit < length lists → list ≡ get_or lists unit list → ((n : ℕ) → test n ≡ nat_eq n unit) → list ≡ places_from 0 (λ x. test (number x)) xs
own-places {X} number test xs lists unit list known within at one =
    at ∙ known.each unit list within
    ∙ same-places (λ x. nat_eq (number x) unit) (λ x. test (number x)) 0 xs (λ x. sym (one (number x)))

-- ---- items, one for each member

one_option : {X : Type 0} (o : Option X) → cons_option o [] ≡ option_to_list o
one_option None = refl
one_option (Some x) = refl

item-at : {X Y : Type 0} (f : X → Y) (xs : List X) (i : ℕ) → slice_get (map f xs) i ≡ option_map f (slice_get xs i)
item-at f [] i = refl
item-at f (x ∷ xs) zero = refl
item-at f (x ∷ xs) (suc i) = item-at f xs i

consed : {X Y : Type 0} (f : X → Y) (o : Option X) (xs : List X) → cons_option (option_map f o) (map f xs) ≡ map f (cons_option o xs)
consed f None xs = refl
consed f (Some x) xs = refl

items-at : {X Y : Type 0} (f : X → Y) (xs : List X) (places : List ℕ) → filter_map (slice_get (map f xs)) places ≡ map f (filter_map (slice_get xs) places)
items-at f xs [] = refl
items-at f xs (place ∷ places) =
    ap (λ o. cons_option o (filter_map (slice_get (map f xs)) places)) (item-at f xs place)
    ∙ ap (λ ys. cons_option (option_map f (slice_get xs place)) ys) (items-at f xs places)
    ∙ consed f (slice_get xs place) (filter_map (slice_get xs) places)

-- the items of the members that pass
pub items-are : {X T Y : Type 0} (of : X → Y) (view : T → Y) (test : X → Bool) (xs : List X) (items kept : List T) → map view items ≡ map of xs
    → kept ≡ items_of test xs items → map view kept ≡ map of (filter test xs)
items-are of view test xs items kept are is =
    ap (map view) is ∙ sym (items-at view items (places_from 0 test xs))
    ∙ ap (λ list. filter_map (slice_get list) (places_from 0 test xs)) are
    ∙ items-at of xs (places_from 0 test xs) ∙ ap (map of) (picked test xs)

-- an item more
pub item-more : {T : Type 0} (items : List T) (places : List ℕ) (i place : ℕ) (old new : List T) → i < length places → place ≡ get_or places i place
    → old ≡ filter_map (slice_get items) (take i places) → new ≡ old ++ option_to_list (slice_get items place)
    → new ≡ filter_map (slice_get items) (take (i + 1) places)
item-more {T} items places i place old new within at so_far is =
    let found : List ℕ → List T = filter_map (slice_get items) in
    is ∙ ap (λ ys. ys ++ option_to_list (slice_get items place)) so_far
    ∙ sym (ap found (take_more places i place within ∙ ap (λ n. take i places ++ n ∷ []) (sym at))
    ∙ filter_map-append (slice_get items) (take i places) (place ∷ [])
    ∙ ap (λ ys. found (take i places) ++ ys) (one_option (slice_get items place)))

pub item-there : {T : Type 0} (items : List T) (place : ℕ) (x : T) (old new : List T) → place < length items → x ≡ get_or items place x
    → new ≡ old ++ x ∷ [] → new ≡ old ++ option_to_list (slice_get items place)
item-there items place x old new within at is =
    is ∙ ap (λ o. old ++ option_to_list o) (sym (lent-here items place x within at))
  where
    lent-here : {T : Type 0} (xs : List T) (i : ℕ) (x : T) → i < length xs → x ≡ get_or xs i x → slice_get xs i ≡ Some x
    lent-here [] i x within at = absurd (omega (arith, within))
    lent-here (y ∷ ys) zero x within at = ap (λ z. Some z) (sym at)
    lent-here (y ∷ ys) (suc i) x within at = lent-here ys i x (omega (arith, within)) at

pub item-past : {T : Type 0} (items : List T) (place : ℕ) (old : List T) → length items ≤ place → old ≡ old ++ option_to_list (slice_get items place)
item-past items place old past = sym (ap (λ o. old ++ option_to_list o) (none-here items place past) ∙ append-nil old)
  where
    none-here : {T : Type 0} (xs : List T) (i : ℕ) → length xs ≤ i → slice_get xs i ≡ None
    none-here [] i past = refl
    none-here (y ∷ ys) zero past = absurd (omega (arith, past))
    none-here (y ∷ ys) (suc i) past = none-here ys i (omega (arith, past))

-- what follows where memory suffices
pub on_ok : {A E P Q : Type 0} (result : Result A E) → (P → Q) → OnOk result P → OnOk result Q
on_ok (Ok a) follows is = follows is
on_ok (Err e) follows is = tt

-- ---- the members at places, one by one

pub picked-more : {X S Y : Type 0} (view : S → Y) (f : X → Y) (xs : List X) (places : List ℕ) (i place : ℕ) (old new : List S) → i < length places
    → place ≡ get_or places i place → map view old ≡ map f (filter_map (slice_get xs) (take i places))
    → map view new ≡ map view old ++ map f (option_to_list (slice_get xs place))
    → map view new ≡ map f (filter_map (slice_get xs) (take (i + 1) places))
picked-more {X} view f xs places i place old new within at so_far is =
    let found : List ℕ → List X = filter_map (slice_get xs) in
    is ∙ ap (λ ys. ys ++ map f (option_to_list (slice_get xs place))) so_far
    ∙ sym (ap (λ ps. map f (found ps)) (take_more places i place within ∙ ap (λ n. take i places ++ n ∷ []) (sym at))
    ∙ ap (map f) (filter_map-append (slice_get xs) (take i places) (place ∷ []))
    ∙ map-append f (found (take i places)) (found (place ∷ []))
    ∙ ap (λ ys. map f (found (take i places)) ++ map f ys) (one_option (slice_get xs place)))

pub along_own : {X : Type 0} (xs : List X) (test : X → Bool) (places list : List ℕ) → places ≡ list → filter_map (slice_get xs) list ≡ filter test xs
    → filter_map (slice_get xs) places ≡ filter test xs
along_own xs test places list same is = ap (filter_map (slice_get xs)) same ∙ is

-- the member at a place among lent ones
lent-at : {L X : Type 0} (seen : L → X) (xs : List L) (i : ℕ) (x : L) → i < length xs → x ≡ get_or xs i x → slice_get (map seen xs) i ≡ Some (seen x)
lent-at seen [] i x within at = absurd (omega (arith, within))
lent-at seen (y ∷ ys) zero x within at = ap (λ z. Some (seen z)) (sym at)
lent-at seen (y ∷ ys) (suc i) x within at = lent-at seen ys i x (omega (arith, within)) at

lent-past : {L X : Type 0} (seen : L → X) (xs : List L) (i : ℕ) → length xs ≤ i → slice_get (map seen xs) i ≡ None
lent-past seen [] i past = refl
lent-past seen (y ∷ ys) zero past = absurd (omega (arith, past))
lent-past seen (y ∷ ys) (suc i) past = lent-past seen ys i (omega (arith, past))

-- the member at a place, if there is one
pub put-there : {L X S : Type 0} (seen : L → X) (view : S → List X) (xs : List L) (place : ℕ) (x : L) (s : S) (old new : List S) → place < length xs
    → x ≡ get_or xs place x → view s ≡ seen x ∷ [] → new ≡ old ++ s ∷ []
    → map view new ≡ map view old ++ map (λ y. y ∷ []) (option_to_list (slice_get (map seen xs) place))
put-there seen view xs place x s old new within at alone is =
    ap (map view) is ∙ map-append view old (s ∷ []) ∙ ap (λ l. map view old ++ l ∷ []) alone
    ∙ ap (λ o. map view old ++ map (λ y. y ∷ []) (option_to_list o)) (sym (lent-at seen xs place x within at))

pub put-past : {L X S : Type 0} (seen : L → X) (view : S → List X) (xs : List L) (place : ℕ) (old : List S) → length xs ≤ place
    → map view old ≡ map view old ++ map (λ y. y ∷ []) (option_to_list (slice_get (map seen xs) place))
put-past seen view xs place old past =
    sym (ap (λ o. map view old ++ map (λ y. y ∷ []) (option_to_list o)) (lent-past seen xs place past) ∙ append-nil (map view old))

-- ---- places, one by one

many-taken : {L X : Type 0} (view : L → X) (xs : List L) (i : ℕ) → i ≤ length xs → i ≡ length (map view (take i xs))
many-taken view [] zero within = refl
many-taken view (y ∷ ys) zero within = refl
many-taken view [] (suc i) within = absurd (omega (arith, within))
many-taken view (y ∷ ys) (suc i) within = ap suc (many-taken view ys i (omega (arith, within)))

place-more : {L X : Type 0} (view : L → X) (test : X → Bool) (xs : List L) (i : ℕ) (x : L) → i < length xs → x ≡ get_or xs i x
    → places_from 0 test (map view (take (i + 1) xs)) ≡ places_from 0 test (map view (take i xs)) ++ cond (test (view x)) (i ∷ []) []
place-more view test xs i x within at =
    let many : i ≡ length (map view (take i xs)) = many-taken view xs i (omega (arith, within)) in
    ap (λ ys. places_from 0 test (map view ys)) (take_more xs i x within ∙ ap (λ y. take i xs ++ y ∷ []) (sym at))
    ∙ ap (places_from 0 test) (map-append view (take i xs) (x ∷ []))
    ∙ places-push 0 test (map view (take i xs)) (view x) i (omega (arith, many))

-- the place of a member that passes, and none of one that doesn't
pub place-step : {L X : Type 0} (view : L → X) (test : X → Bool) (xs : List L) (i : ℕ) (x : L) (old new : List ℕ) → i < length xs → x ≡ get_or xs i x
    → old ≡ places_from 0 test (map view (take i xs)) → new ≡ old ++ cond (test (view x)) (i ∷ []) []
    → new ≡ places_from 0 test (map view (take (i + 1) xs))
place-step view test xs i x old new within at so_far is =
    is ∙ ap (λ ps. ps ++ cond (test (view x)) (i ∷ []) []) so_far ∙ sym (place-more view test xs i x within at)

-- ---- all members

-- where all pass, all are kept
pub all-kept : {X : Type 0} (test : X → Bool) (xs : List X) → list_all test xs ≡ true → xs ≡ filter test xs
all-kept test [] all = refl
all-kept test (x ∷ xs) all =
    let parts = and_parts (test x) (list_all test xs) all in
    ap (λ ys. x ∷ ys) (all-kept test xs parts.1) ∙ sym (ap (λ b. cond b (x ∷ filter test xs) (filter test xs)) parts.0)

and_none : (b : Bool) → (b && false) ≡ false
and_none true = refl
and_none false = refl

-- where one of lent members doesn't pass, not all pass
pub some-not : {L X : Type 0} (test : X → Bool) (seen : L → X) (xs : List L) (i : ℕ) (x : L) → i < length xs → x ≡ get_or xs i x
    → test (seen x) ≡ false → false ≡ list_all test (map seen xs)
some-not test seen [] i x within at not = absurd (omega (arith, within))
some-not test seen (y ∷ ys) zero x within at not = sym (ap (λ b. b && list_all test (map seen ys)) (ap (λ z. test (seen z)) (sym at) ∙ not))
some-not test seen (y ∷ ys) (suc i) x within at not =
    sym (ap (λ b. test (seen y) && b) (sym (some-not test seen ys i x (omega (arith, within)) at not)) ∙ and_none (test (seen y)))
