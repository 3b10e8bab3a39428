-- Numbers of which no two are the same, and whose the entries of a history are.
use Rattle.std.proofs.Common.{◌≡◌, ◌≢◌, ◌<◌, ◌≤◌, ◌+◌, ◌∙◌, ◌⊎◌, ℕ, zero, suc, cond, List, [], ◌∷◌, ◌++◌}
use Rattle.std.proofs.Common.{length, get_or, map, refl, sym, ap, subst, inl, inr, ⊎_elim, arith, eq-eqb, ne_eqb}
use Rattle.std.specs.Prelude.{◌==◌, All, Any, filter, not}
use Rattle.std.proofs.lemmas.Bool.{cases_eq, cases_lt}
use Rattle.std.proofs.lemmas.List.{length-map}
use Rattle.std.proofs.lemmas.List.Elements.{All-nil, All-cons, All-head, All-tail, All-push, All-map, All-filter}
use Rattle.shared_engine.specs.Views.{AreApart, Settled, own}
use Rattle.shared_engine.specs.declared.views.Known.{Known}

-- one number more, which is none of them
pub apart_push : (xs : List ℕ) (x : ℕ) → AreApart xs → All (λ y. y ≢ x) xs → AreApart (xs ++ x ∷ [])
apart_push [] x apart other = (All-nil (λ y. x ≢ y), tt)
apart_push (y ∷ xs) x apart other =
    (All-push (λ z. y ≢ z) xs x apart.0 (other 0 x (omega arith)), apart_push xs x apart.1 (All-tail (λ z. z ≢ x) y xs other))

-- ---- as many numbers below a count as that count are all of them

-- all but one number
abbrev without : ℕ → List ℕ → List ℕ
without c xs = filter (λ x. not (x == c)) xs

without_yes : (c x : ℕ) (xs : List ℕ) → x ≡ c → without c (x ∷ xs) ≡ without c xs
without_yes c x xs e = ap (λ b. cond (not b) (x ∷ without c xs) (without c xs)) (eq-eqb x c e)

without_no : (c x : ℕ) (xs : List ℕ) → x ≢ c → without c (x ∷ xs) ≡ x ∷ without c xs
without_no c x xs n = ap (λ b. cond (not b) (x ∷ without c xs) (without c xs)) (ne_eqb x c n)

without_none : (c : ℕ) (xs : List ℕ) → All (λ y. c ≢ y) xs → without c xs ≡ xs
without_none c [] other = refl
without_none c (x ∷ xs) other =
    without_no c x xs (λ e. All-head (λ y. c ≢ y) x xs other (sym e)) ∙ ap (λ l. x ∷ l) (without_none c xs (All-tail (λ y. c ≢ y) x xs other))

-- at most one is left out
one_less : (c : ℕ) (xs : List ℕ) → AreApart xs → length xs ≤ length (without c xs) + 1
one_less c [] apart = omega arith
one_less c (x ∷ xs) apart = ⊎_elim
    (λ e. let same = without_yes c x xs e ∙ without_none c xs (subst (λ (n : ℕ). All (λ y. n ≢ y) xs) e apart.0) in
    omega (arith, ap length same))
    (λ n. let rest = one_less c xs apart.1 in omega (arith, ap length (without_no c x xs n)))
    (cases_eq x c)

apart_without : (c : ℕ) (xs : List ℕ) → AreApart xs → AreApart (without c xs)
apart_without c [] apart = tt
apart_without c (x ∷ xs) apart = ⊎_elim
    (λ e. subst AreApart (sym (without_yes c x xs e)) (apart_without c xs apart.1))
    (λ n. subst AreApart (sym (without_no c x xs n))
    (All-filter (λ y. not (y == c)) (λ y. x ≢ y) xs apart.0, apart_without c xs apart.1))
    (cases_eq x c)

below_without : (c : ℕ) (xs : List ℕ) → All (λ x. x < suc c) xs → All (λ x. x < c) (without c xs)
below_without c [] below = All-nil (λ x. x < c)
below_without c (x ∷ xs) below =
    let rest = below_without c xs (All-tail (λ y. y < suc c) x xs below) in
    let first = All-head (λ y. y < suc c) x xs below in
    ⊎_elim
    (λ e. subst (All (λ y. y < c)) (sym (without_yes c x xs e)) rest)
    (λ n. subst (All (λ y. y < c)) (sym (without_no c x xs n)) (All-cons (λ y. y < c) x (without c xs) (omega arith) rest))
    (cases_eq x c)

-- no more than the count
at_most : (count : ℕ) (xs : List ℕ) → AreApart xs → All (λ x. x < count) xs → length xs ≤ count
at_most zero [] apart below = omega arith
at_most zero (x ∷ xs) apart below = absurd (omega (arith, All-head (λ y. y < zero) x xs below))
at_most (suc count) xs apart below =
    omega (arith, one_less count xs apart, at_most count (without count xs) (apart_without count xs apart) (below_without count xs below))

any_cons : {X : Type 0} (P : X → Type 0) (y : X) (xs : List X) → Any P xs → Any P (y ∷ xs)
any_cons P y xs some = (suc some.0, some.1, omega (arith, some.2), some.3, some.4)

found : (k : ℕ) (xs : List ℕ) → Any (λ x. k ≡ x) xs ⊎ All (λ x. k ≢ x) xs
found k [] = inr (All-nil (λ x. k ≢ x))
found k (x ∷ xs) = ⊎_elim
    (λ e. inl (0, x, omega arith, refl, e))
    (λ n. ⊎_elim (λ some. inl (any_cons (λ y. k ≡ y) x xs some)) (λ none. inr (All-cons (λ y. k ≢ y) x xs n none)) (found k xs))
    (cases_eq k x)

pub all_there : (count : ℕ) (xs : List ℕ) → AreApart xs → All (λ x. x < count) xs → length xs ≡ count → (k : ℕ) → k < count → Any (λ x. k ≡ x) xs
all_there count xs apart below long k lt = ⊎_elim
    (λ some. some)
    (λ none. absurd (omega (arith, at_most count (k ∷ xs) (none, apart) (All-cons (λ x. x < count) k xs lt below))))
    (found k xs)

-- an element of a list is the first or one of the others
any_cases : (k x : ℕ) (xs : List ℕ) → Any (λ y. k ≡ y) (x ∷ xs) → k ≢ x → Any (λ y. k ≡ y) xs
any_cases k x xs (zero, y, lt, at, is) other = absurd (other (is ∙ sym at))
any_cases k x xs (suc n, y, lt, at, is) other = (n, y, omega arith, at, is)

-- the same of numbers from 1 on
pub all_there_from_one : (count : ℕ) (xs : List ℕ) → AreApart xs → All (λ x. (x < count) × (x ≢ 0)) xs → length xs + 1 ≡ count
    → (k : ℕ) → k < count → k ≢ 0 → Any (λ x. k ≡ x) xs
all_there_from_one count xs apart within long k lt nonzero =
    let apart_more : AreApart (0 ∷ xs) = (λ i d l e. (within i d l).1 (sym e), apart) in
    let below : All (λ x. x < count) (0 ∷ xs) = All-cons (λ x. x < count) 0 xs (omega arith) (λ i d l. (within i d l).0) in
    any_cases k 0 xs (all_there count (0 ∷ xs) apart_more below (omega arith) k lt) nonzero

-- ---- whose the entries are

any_map : {X : Type 0} (number : X → ℕ) (k : ℕ) (xs : List X) → Any (λ y. k ≡ y) (map number xs) → Any (λ x. k ≡ number x) xs
any_map number k [] some = absurd (omega (arith, some.2))
any_map number k (x ∷ xs) some = ⊎_elim
    (λ e. (0, x, omega arith, refl, e))
    (λ n. any_cons (λ y. k ≡ number y) x xs (any_map number k xs (any_cases k (number x) (map number xs) some n)))
    (cases_eq k (number x))

module _ {E : Type 0} (caller : E → ℕ) where
  -- who has no entry, of whom none is
  pub none_own : (number : ℕ) (list : List E) → own caller number list ≡ [] → All (λ (entry : E). caller entry ≢ number) list
  none_own number [] none = All-nil (λ (entry : E). caller entry ≢ number)
  none_own number (x ∷ xs) none = ⊎_elim
      (λ e. absurd (filled x xs (sym (ap (λ b. cond b (x ∷ own caller number xs) (own caller number xs)) (eq-eqb (caller x) number e)) ∙ none)))
      (λ n. All-cons (λ (entry : E). caller entry ≢ number) x xs n
      (none_own number xs (sym (ap (λ b. cond b (x ∷ own caller number xs) (own caller number xs)) (ne_eqb (caller x) number n)) ∙ none)))
      (cases_eq (caller x) number)
    where
      filled : (y : E) (ys : List E) → y ∷ own caller number ys ≡ [] → ⊥
      filled y ys e = cc

  -- where all who came are gone, each entry is of one of them
  pub theirs : (count : ℕ) (gone : List (Known E)) (list : List E) → Settled caller count gone list → own caller 0 list ≡ [] → length gone + 1 ≡ count
      → All (λ (entry : E). Any (λ (known : Known E). caller entry ≡ known.caller) gone) list
  theirs count gone list settled nobody long k d lt =
      let number : ℕ = caller (get_or list k d) in
      let numbers : List ℕ = map (λ (known : Known E). known.caller) gone in
      let within : All (λ x. (x < count) × (x ≢ 0)) numbers =
      All-map (λ x. (x < count) × (x ≢ 0)) (λ (known : Known E). known.caller) gone (λ i e l. ((settled.all i e l).2, (settled.all i e l).3)) in
      let came : number < count =
      ⊎_elim (λ below. below) (λ past. absurd (none_own number list (settled.fresh number past) k d lt refl)) (cases_lt number count) in
      any_map (λ (known : Known E). known.caller) number gone
      (all_there_from_one count numbers settled.apart within (omega (arith, length-map gone (λ (known : Known E). known.caller))) number came
      (none_own 0 list nobody k d lt))
