-- One step of the loops over subjects, samples and identifiers.
use Rattle.std.proofs.Common.{◌≡◌, ◌∙◌, ◌<◌, ◌≤◌, ◌+◌, ℕ, suc, Bool, true, false, cond, List, [], ◌∷◌, ◌++◌, map, take, drop, get_or, length, refl, sym, ap, add-one}
use Rattle.std.proofs.Common.{zero, ◌&&◌, subst}
use Rattle.std.proofs.Common.{drop-cons, append_assoc, append-nil, arith}
use Rattle.std.proofs.Common.{Option, Some, None}
use Rattle.std.proofs.lemmas.List.{drop_all, length-map, length-take-le, map-append, take_more}
use Rattle.std.proofs.lemmas.List.Elements.{filter_more, filter-append}
use Rattle.std.proofs.lemmas.List.Folds.{list_all-append}
use Rattle.std.proofs.lemmas.Bool.{and_from}
use Rattle.std.specs.List.{filter, find, list_all}
use Rattle.std.specs.Prelude.{option_and_then, option_map, if◌then◌else◌}
use Rattle.std.specs.Option.{unwrap_or}
use Rattle.dh_base.specs.Fractions.{Fraction, add_of}
use Rattle.dh_metadata.specs.Places.{is_one_of}
use Rattle.program_cells.specs.Places.{ArePlaces}
use Rattle.program_cells.specs.Value.{if_passing, collected, sum_from, best_from, better_if_any, unless_fault, different_after}

-- the rest of a list at a place
pub rest_at : {A : Type 0} (xs : List A) (i : ℕ) (x : A) → i < length xs → x ≡ get_or xs i x → drop i xs ≡ x ∷ drop (i + 1) xs
rest_at xs i x within is = rw add-one (drop-cons xs i x within ∙ ap (λ y. y ∷ drop (suc i) xs) (sym is))

-- the first members of a list up to a place
pub first_at : {A : Type 0} (xs : List A) (i : ℕ) (x : A) → i < length xs → x ≡ get_or xs i x → take (i + 1) xs ≡ take i xs ++ x ∷ []
first_at xs i x within is = take_more xs i x within ∙ ap (λ y. take i xs ++ y ∷ []) (sym is)

-- a loop over lent members that lists something of each: what is made of it is f of what the member is
pub viewed_more : {X Y Z W : Type 0} (made : W → Z) (f : Y → Z) (view : X → Y) (xs : List X) (found more : List W) (i : ℕ) (x : X) (y : W) → i < length xs
    → x ≡ get_or xs i x → map made found ≡ map f (map view (take i xs)) → more ≡ found ++ y ∷ [] → made y ≡ f (view x)
    → map made more ≡ map f (map view (take (i + 1) xs))
viewed_more made f view xs found more i x y within at before is of =
    ap (map made) is
    ∙ map-append made found (y ∷ [])
    ∙ ap (λ z. map made found ++ z ∷ []) of
    ∙ ap (λ all. all ++ f (view x) ∷ []) before
    ∙ sym (ap (map f) (ap (map view) (first_at xs i x within at) ∙ map-append view (take i xs) (x ∷ []))
    ∙ map-append f (map view (take i xs)) (view x ∷ []))

-- what is made of one more stands after what was there at the start, and what is made of those before it
pub listed_more : {X Y : Type 0} (f : X → Y) (xs : List X) (start found more : List Y) (i : ℕ) (x : X) (y : Y) → i < length xs → x ≡ get_or xs i x
    → found ≡ start ++ map f (take i xs) → more ≡ found ++ y ∷ [] → y ≡ f x → more ≡ start ++ map f (take (i + 1) xs)
listed_more f xs start found more i x y within at before is made =
    is
    ∙ ap (λ v. found ++ v ∷ []) made
    ∙ ap (λ all. all ++ f x ∷ []) before
    ∙ append_assoc start (map f (take i xs)) (f x ∷ [])
    ∙ ap (λ all. start ++ all) (sym (ap (map f) (first_at xs i x within at) ∙ map-append f (take i xs) (x ∷ [])))

-- one member more that passes and is lent
pub lent_more : {W Y : Type 0} (made : W → Y) (p : Y → Bool) (xs : List Y) (found more : List W) (i : ℕ) (x : Y) (w : W) → i < length xs
    → x ≡ get_or xs i x → map made found ≡ filter p (take i xs) → more ≡ found ++ w ∷ [] → made w ≡ x → p x ≡ true
    → map made more ≡ filter p (take (i + 1) xs)
lent_more made p xs found more i x w within at before is of passes =
    ap (map made) is
    ∙ map-append made found (w ∷ [])
    ∙ ap (λ y. map made found ++ y ∷ []) of
    ∙ ap (λ all. all ++ x ∷ []) before
    ∙ ap (λ b. filter p (take i xs) ++ cond b (x ∷ []) []) (sym passes)
    ∙ sym (filter_more p xs i x within ∙ ap (λ y. filter p (take i xs) ++ cond (p y) (y ∷ []) []) (sym at))

-- one that doesn't pass
pub lent_no_more : {W Y : Type 0} (made : W → Y) (p : Y → Bool) (xs : List Y) (found : List W) (i : ℕ) (x : Y) → i < length xs → x ≡ get_or xs i x
    → map made found ≡ filter p (take i xs) → p x ≡ false → map made found ≡ filter p (take (i + 1) xs)
lent_no_more made p xs found i x within at before out =
    before
    ∙ sym (append-nil (filter p (take i xs)))
    ∙ ap (λ b. filter p (take i xs) ++ cond b (x ∷ []) []) (sym out)
    ∙ sym (filter_more p xs i x within ∙ ap (λ y. filter p (take i xs) ++ cond (p y) (y ∷ []) []) (sym at))

one_kept : {X Y : Type 0} (view : X → Y) (p : Y → Bool) (x : X) (keeps : Bool) → keeps ≡ p (view x)
    → map view (cond keeps (x ∷ []) []) ≡ filter p (view x ∷ [])
one_kept view p x true same = ap (λ b. cond b (view x ∷ []) []) same
one_kept view p x false same = ap (λ b. cond b (view x ∷ []) []) same

-- one lent member more, kept if what it is passes
pub kept_more : {X Y : Type 0} (view : X → Y) (p : Y → Bool) (xs found more : List X) (i : ℕ) (x : X) (keeps : Bool) → i < length xs → x ≡ get_or xs i x
    → map view found ≡ filter p (map view (take i xs)) → more ≡ found ++ cond keeps (x ∷ []) [] → keeps ≡ p (view x)
    → map view more ≡ filter p (map view (take (i + 1) xs))
kept_more view p xs found more i x keeps within at before is same =
    ap (map view) is
    ∙ map-append view found (cond keeps (x ∷ []) [])
    ∙ ap (λ all. all ++ map view (cond keeps (x ∷ []) [])) before
    ∙ ap (λ all. filter p (map view (take i xs)) ++ all) (one_kept view p x keeps same)
    ∙ sym (ap (filter p) (ap (map view) (first_at xs i x within at) ∙ map-append view (take i xs) (x ∷ []))
    ∙ filter-append p (map view (take i xs)) (view x ∷ []))

-- one lent member more passes, as those before it
pub all_more : {X Y : Type 0} (view : X → Y) (p : Y → Bool) (xs : List X) (i : ℕ) (x : X) → i < length xs → x ≡ get_or xs i x
    → list_all p (map view (take i xs)) ≡ true → p (view x) ≡ true → list_all p (map view (take (i + 1) xs)) ≡ true
all_more view p xs i x within at before here =
    ap (list_all p) (ap (map view) (first_at xs i x within at) ∙ map-append view (take i xs) (x ∷ []))
    ∙ list_all-append p (map view (take i xs)) (view x ∷ [])
    ∙ and_from (list_all p (map view (take i xs))) (p (view x) && true) before (and_from (p (view x)) true here refl)

-- one lent member more has its place
pub placed_more : {X Y : Type 0} (number : Y → ℕ) (view : X → Y) (xs : List X) (i : ℕ) (x : X) (old new : List (List ℕ)) → i < length xs → x ≡ get_or xs i x
    → ArePlaces number (map view (take i xs)) old
    → ((before : List Y) → i ≡ length before → ArePlaces number before old → ArePlaces number (before ++ view x ∷ []) new)
    → ArePlaces number (map view (take (i + 1) xs)) new
placed_more number view xs i x old new within at are put =
    let before = map view (take i xs) in
    let many : i ≡ length before = sym (length-map (take i xs) view ∙ length-take-le i xs (omega arith)) in
    subst (λ list. ArePlaces number list new) (sym (ap (map view) (first_at xs i x within at) ∙ map-append view (take i xs) (x ∷ []))) (put before many are)

-- ---- subjects

joined : {B : Type 0} (done own : List B) (rest : Option (List B)) → option_map (λ more. done ++ more) (option_map (λ more. own ++ more) rest)
    ≡ option_map (λ more. done ++ own ++ more) rest
joined done own None = refl
joined done own (Some more) = ap Some (sym (append_assoc done own more))

value_of : {B : Type 0} (one other : List B) → Some one ≡ Some other → one ≡ other
value_of one other same = ap (λ found. unwrap_or found one) same

added : {B : Type 0} (taken : Option (List B)) (done new : List B) (rest : Option (List B)) → option_map (λ found. done ++ found) taken ≡ Some new
    → option_map (λ more. done ++ more) (option_and_then (λ found. option_map (λ more. found ++ more) rest) taken) ≡ option_map (λ more. new ++ more) rest
added None done new rest is = absurd (cc)
added (Some found) done new rest is = joined done found rest ∙ ap (λ list. option_map (λ more. list ++ more) rest) (value_of (done ++ found) new is)

lacking : {B : Type 0} (taken : Option (List B)) (done : List B) (rest : Option (List B)) → option_map (λ found. done ++ found) taken ≡ None
    → option_map (λ more. done ++ more) (option_and_then (λ found. option_map (λ more. found ++ more) rest) taken) ≡ None
lacking None done rest is = refl
lacking (Some found) done rest is = absurd (cc)

-- one subject more
pub subjects_step : {X A B : Type 0} (view : X → A) (passing : A → Option Bool) (own : A → Option (List B)) (xs : List X) (i : ℕ) (x : X) (done new : List B)
    (all : Option (List B)) → i < length xs → x ≡ get_or xs i x
    → all ≡ option_map (λ more. done ++ more) (collected passing own (map view (drop i xs)))
    → option_map (λ found. done ++ found) (if_passing (passing (view x)) (own (view x))) ≡ Some new
    → all ≡ option_map (λ more. new ++ more) (collected passing own (map view (drop (i + 1) xs)))
subjects_step view passing own xs i x done new all within at so_far is =
    so_far ∙ ap (λ rest. option_map (λ more. done ++ more) (collected passing own (map view rest))) (rest_at xs i x within at)
    ∙ added (if_passing (passing (view x)) (own (view x))) done new (collected passing own (map view (drop (i + 1) xs))) is

-- one of which a number is too wide
pub subjects_end : {X A B : Type 0} (view : X → A) (passing : A → Option Bool) (own : A → Option (List B)) (xs : List X) (i : ℕ) (x : X) (done : List B)
    (all : Option (List B)) → i < length xs → x ≡ get_or xs i x
    → all ≡ option_map (λ more. done ++ more) (collected passing own (map view (drop i xs)))
    → option_map (λ found. done ++ found) (if_passing (passing (view x)) (own (view x))) ≡ None → None ≡ all
subjects_end view passing own xs i x done all within at so_far is =
    sym (so_far ∙ ap (λ rest. option_map (λ more. done ++ more) (collected passing own (map view rest))) (rest_at xs i x within at)
    ∙ lacking (if_passing (passing (view x)) (own (view x))) done (collected passing own (map view (drop (i + 1) xs))) is)

-- before the first subject
pub subjects_start : {B : Type 0} (done : List B) (all : Option (List B)) → done ≡ [] → all ≡ option_map (λ more. done ++ more) all
subjects_start done None none = refl
subjects_start done (Some more) none = ap (λ l. Some (l ++ more)) (sym none)

-- after the last one
pub subjects_done : {X A B : Type 0} (view : X → A) (passing : A → Option Bool) (own : A → Option (List B)) (xs : List X) (i : ℕ) (done : List B)
    (all : Option (List B)) → length xs ≤ i → all ≡ option_map (λ more. done ++ more) (collected passing own (map view (drop i xs))) → Some done ≡ all
subjects_done view passing own xs i done all past so_far =
    ap Some (sym (append-nil done))
    ∙ sym (so_far ∙ ap (λ rest. option_map (λ more. done ++ more) (collected passing own (map view rest))) (drop_all i xs past))

-- ---- numbers

sum_next : (rest : List Fraction) (x sum next : Fraction) → Some next ≡ unless_fault (add_of sum x) → sum_from sum (x ∷ rest) ≡ sum_from next rest
sum_next rest x sum next is = ap (λ (o : Option Fraction). option_and_then (λ n. sum_from n rest) o) (sym is)

sum_wide : (rest : List Fraction) (x sum : Fraction) → None ≡ unless_fault (add_of sum x) → sum_from sum (x ∷ rest) ≡ None
sum_wide rest x sum is = ap (λ (o : Option Fraction). option_and_then (λ n. sum_from n rest) o) (sym is)

-- one number more in a sum
pub sum_step : (xs : List Fraction) (i : ℕ) (x sum next : Fraction) (all : Option Fraction) → i < length xs → x ≡ get_or xs i x
    → all ≡ sum_from sum (drop i xs) → Some next ≡ unless_fault (add_of sum x) → all ≡ sum_from next (drop (i + 1) xs)
sum_step xs i x sum next all within at so_far is =
    so_far ∙ ap (sum_from sum) (rest_at xs i x within at) ∙ sum_next (drop (i + 1) xs) x sum next is

pub sum_end : (xs : List Fraction) (i : ℕ) (x sum : Fraction) (all : Option Fraction) → i < length xs → x ≡ get_or xs i x
    → all ≡ sum_from sum (drop i xs) → None ≡ unless_fault (add_of sum x) → None ≡ all
sum_end xs i x sum all within at so_far is =
    sym (so_far ∙ ap (sum_from sum) (rest_at xs i x within at) ∙ sum_wide (drop (i + 1) xs) x sum is)

-- one number more among which the greatest or the least is sought
pub best_step : (greatest : Bool) (xs : List Fraction) (i : ℕ) (x next : Fraction) (best : Option Fraction) (all : Option (Option Fraction)) → i < length xs
    → x ≡ get_or xs i x → all ≡ best_from greatest best (drop i xs) → Some next ≡ better_if_any greatest best x
    → all ≡ best_from greatest (Some next) (drop (i + 1) xs)
best_step greatest xs i x next best all within at so_far is =
    so_far ∙ ap (best_from greatest best) (rest_at xs i x within at)
    ∙ ap (λ (o : Option Fraction). option_and_then (λ n. best_from greatest (Some n) (drop (i + 1) xs)) o) (sym is)

pub best_end : (greatest : Bool) (xs : List Fraction) (i : ℕ) (x : Fraction) (best : Option Fraction) (all : Option (Option Fraction)) → i < length xs
    → x ≡ get_or xs i x → all ≡ best_from greatest best (drop i xs) → None ≡ better_if_any greatest best x → None ≡ all
best_end greatest xs i x best all within at so_far is =
    sym (so_far ∙ ap (best_from greatest best) (rest_at xs i x within at)
    ∙ ap (λ (o : Option Fraction). option_and_then (λ n. best_from greatest (Some n) (drop (i + 1) xs)) o) (sym is))

-- ---- counting

more_here : (count n m rest all : ℕ) → n ≡ m → all ≡ count + (m + rest) → all ≡ (count + n) + rest
more_here count n m rest all same is = omega (arith, same, is)

-- one identifier more, counted if it is new
pub counted_step : (before : List (List ℕ)) (x : List ℕ) (rest : List (List ℕ)) (count n all : ℕ) (held : Bool) → held ≡ is_one_of before x
    → n ≡ (if held then 0 else 1) → all ≡ count + different_after before (x ∷ rest) → all ≡ (count + n) + different_after (before ++ x ∷ []) rest
counted_step before x rest count n all held is counted so_far =
    more_here count n (if is_one_of before x then 0 else 1) (different_after (before ++ x ∷ []) rest) all
    (counted ∙ ap (λ b. if b then 0 else 1) is) so_far

-- ---- the first that passes

not_found : {X : Type 0} (b : Bool) (x : X) (rest : Option X) → cond b (Some x) rest ≡ None → (b ≡ false) × (rest ≡ None)
not_found true x rest none = absurd (cc)
not_found false x rest none = (refl, none)

pub find-here : {X : Type 0} (p : X → Bool) (xs : List X) (i : ℕ) (d : X) → i < length xs → find p (take i xs) ≡ None → p (get_or xs i d) ≡ true
    → find p xs ≡ Some (get_or xs i d)
find-here p [] i d within none here = absurd (omega arith)
find-here p (x ∷ xs) zero d within none here = rw here refl
find-here p (x ∷ xs) (suc i) d within none here =
    let parts = not_found (p x) x (find p (take i xs)) none in
    rw parts.0 (find-here p xs i d (omega arith) parts.1 here)

find-last : {X : Type 0} (p : X → Bool) (xs : List X) (x : X) → find p xs ≡ None → p x ≡ false → find p (xs ++ x ∷ []) ≡ None
find-last p [] x none here = rw here refl
find-last p (y ∷ xs) x none here =
    let parts = not_found (p y) y (find p xs) none in
    rw parts.0 (find-last p xs x parts.1 here)

pub find-past : {X : Type 0} (p : X → Bool) (xs : List X) (i : ℕ) (d : X) → i < length xs → find p (take i xs) ≡ None → p (get_or xs i d) ≡ false
    → find p (take (i + 1) xs) ≡ None
find-past p xs i d within none here = ap (find p) (take_more xs i d within) ∙ find-last p (take i xs) (get_or xs i d) none here
