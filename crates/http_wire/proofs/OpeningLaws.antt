-- Empty lines, heads and what stands at the front of bytes, as more bytes come.
use Rattle.std.proofs.Common.{◌≡◌, ◌∙◌, ℕ, suc, ◌+◌, ◌-◌, ◌<◌, ◌≤◌, ◌&&◌, Bool, true, false, cond, List, [], ◌∷◌, ◌++◌, length, drop, take, Option, Some}
use Rattle.std.proofs.Common.{None, refl, sym, ap, arith, append-nil, zero, length-append, nat_eq, nat_lt, nat_le}
use Rattle.std.proofs.lemmas.List.{drop-drop, drop-append-le, take-append-le, length-take, take_all}
use Rattle.std.proofs.Math.Seq.{take-append-add}
use Rattle.std.proofs.lemmas.Bool.Decides.{nat_tests}
use Rattle.http_wire.specs.Lines.{empty_line, blank_length, shifted, head_length, head_limit, opening_by, opening_of, IsPassed}
use Rattle.http_wire.specs.declared.lines.Opening.TheVariants.{Nothing, Unfinished, TooLong, Whole}
use Rattle.http_wire.specs.Next.{skipped}

-- ---- empty lines

lf_first : (x : ℕ) (more : List ℕ) → nat_eq x 10 ≡ true → blank_length (x ∷ more) ≡ 1 + blank_length more
lf_first x [] feed = rw feed refl
lf_first x (y ∷ more) feed = rw feed refl

lone : (x : ℕ) (more : List ℕ) (t : Bool) → nat_eq x 10 ≡ t → blank_length (x ∷ more) ≡ cond t 1 0 + blank_length (drop {A = ℕ} (cond t 1 0) (x ∷ []) ++ more)
lone x more true feed = lf_first x more feed
lone x more false feed = omega arith

drop_one : (n x : ℕ) (xs : List ℕ) → drop (1 + n) (x ∷ xs) ≡ drop n xs
drop_one n x xs = let e : 1 + n ≡ suc n = omega arith in rw e refl

drop_two : (n x y : ℕ) (xs : List ℕ) → drop (2 + n) (x ∷ y ∷ xs) ≡ drop n xs
drop_two n x y xs = let e : 2 + n ≡ suc (suc n) = omega arith in rw e refl

on_feed : (x : ℕ) (b more : List ℕ) (n m : ℕ) → m ≡ n + blank_length (drop n b ++ more) → 1 + m ≡ (1 + n) + blank_length (drop (1 + n) (x ∷ b) ++ more)
on_feed x b more n m all = let e = ap (λ xs. blank_length (xs ++ more)) (drop_one n x b) in omega arith

on_both : (x y : ℕ) (b more : List ℕ) (n m : ℕ) → m ≡ n + blank_length (drop n b ++ more) → 2 + m ≡ (2 + n) + blank_length (drop (2 + n) (x ∷ y ∷ b) ++ more)
on_both x y b more n m all = let e = ap (λ xs. blank_length (xs ++ more)) (drop_two n x y b) in omega arith

on_two : (x y : ℕ) (b more : List ℕ) (t u : Bool) → nat_eq x 10 ≡ t → (nat_eq x 13 && nat_eq y 10) ≡ u
    → blank_length (y ∷ (b ++ more)) ≡ blank_length (y ∷ b) + blank_length (drop (blank_length (y ∷ b)) (y ∷ b) ++ more)
    → blank_length (b ++ more) ≡ blank_length b + blank_length (drop (blank_length b) b ++ more)
    → cond t (1 + blank_length (y ∷ (b ++ more))) (cond u (2 + blank_length (b ++ more)) 0)
    ≡ cond t (1 + blank_length (y ∷ b)) (cond u (2 + blank_length b) 0)
    + blank_length (drop {A = ℕ} (cond t (1 + blank_length (y ∷ b)) (cond u (2 + blank_length b) 0)) (x ∷ y ∷ b) ++ more)
on_two x y b more true u feed both one two = on_feed x (y ∷ b) more (blank_length (y ∷ b)) (blank_length (y ∷ (b ++ more))) one
on_two x y b more false true feed both one two = on_both x y b more (blank_length b) (blank_length (b ++ more)) two
on_two x y b more false false feed both one two = rw (feed, both) refl

pub blank_on : (b more : List ℕ) → blank_length (b ++ more) ≡ blank_length b + blank_length (drop (blank_length b) b ++ more)
blank_on [] more = omega arith
blank_on (x ∷ []) more = lone x more (nat_eq x 10) refl
blank_on (x ∷ y ∷ b) more = on_two x y b more (nat_eq x 10) (nat_eq x 13 && nat_eq y 10) refl refl (blank_on (y ∷ b) more) (blank_on b more)

pub blank_within : (b : List ℕ) → blank_length b ≤ length b
blank_within [] = omega arith
blank_within (x ∷ []) = elim (nat_eq x 10) as (λ t. cond t 1 0 ≤ 1) [ true ↦ omega arith | false ↦ omega arith ]
blank_within (x ∷ y ∷ b) =
    let one = blank_within (y ∷ b) in
    let two = blank_within b in
    elim (nat_eq x 10) as (λ t. cond t (1 + blank_length (y ∷ b)) (cond (nat_eq x 13 && nat_eq y 10) (2 + blank_length b) 0) ≤ length (x ∷ y ∷ b)) [
      | true ↦ omega arith
      | false ↦ elim (nat_eq x 13 && nat_eq y 10) as (λ u. cond u (2 + blank_length b) 0 ≤ length (x ∷ y ∷ b)) [ true ↦ omega arith | false ↦ omega arith ]
    ]

-- skipping at once, or as the bytes come
pub skip_on : (b more : List ℕ) → skipped (b ++ more) ≡ skipped (skipped b ++ more)
skip_on b more =
    ap (λ n. drop n (b ++ more)) (blank_on b more)
    ∙ sym (drop-drop (blank_length (skipped b ++ more)) (blank_length b) (b ++ more))
    ∙ ap (drop (blank_length (skipped b ++ more))) (drop-append-le (blank_length b) b more (blank_within b))

pub blank_skipped : (b : List ℕ) → blank_length (skipped b) ≡ 0
blank_skipped b =
    let on = blank_on b [] in
    let whole = ap blank_length (append-nil b) in
    let rest = ap blank_length (append-nil (skipped b)) in
    omega arith

pub skip_twice : (b : List ℕ) → skipped (skipped b) ≡ skipped b
skip_twice b = ap (λ n. drop n (skipped b)) (blank_skipped b)

some_one : (n : ℕ) → 1 + n ≡ 0 → ⊥
some_one n e = absurd (omega arith)

some_two : (n : ℕ) → 2 + n ≡ 0 → ⊥
some_two n e = absurd (omega arith)

still_by : (t u : Bool) (a b c d : ℕ) → cond t (1 + a) (cond u (2 + b) 0) ≡ 0 → cond t (1 + c) (cond u (2 + d) 0) ≡ 0
still_by true u a b c d none = absurd (some_one a none)
still_by false true a b c d none = absurd (some_two b none)
still_by false false a b c d none = refl

-- two bytes that begin with no empty line go on so
pub blank_still : (r more : List ℕ) → blank_length r ≡ 0 → 2 ≤ length r → blank_length (r ++ more) ≡ 0
blank_still [] more none two = absurd (omega arith)
blank_still (x ∷ []) more none two = absurd (omega arith)
blank_still (x ∷ y ∷ r) more none two =
    still_by (nat_eq x 10) (nat_eq x 13 && nat_eq y 10) (blank_length (y ∷ r)) (blank_length r) (blank_length (y ∷ (r ++ more))) (blank_length (r ++ more)) none

-- after empty lines that are followed by two bytes
pub skip_still : (b more : List ℕ) → 2 ≤ length (skipped b) → (blank_length (b ++ more) ≡ blank_length b) × (skipped (b ++ more) ≡ skipped b ++ more)
skip_still b more two =
    let on = blank_on b more in
    let still = blank_still (skipped b) more (blank_skipped b) two in
    let same : blank_length (b ++ more) ≡ blank_length b = omega arith in
    (same, ap (λ n. drop n (b ++ more)) same ∙ drop-append-le (blank_length b) b more (blank_within b))

-- ---- the end of a head

and_right : (a b : Bool) → (a && b) ≡ true → b ≡ true
and_right true b is = is
and_right false b is = absurd (cc)

empty_within : (b : List ℕ) → empty_line b ≤ length b
empty_within [] = omega arith
empty_within (x ∷ []) = elim (nat_eq x 10) as (λ t. cond t 1 0 ≤ 1) [ true ↦ omega arith | false ↦ omega arith ]
empty_within (x ∷ y ∷ b) =
    elim (nat_eq x 10) as (λ t. cond t 1 (cond (nat_eq x 13 && nat_eq y 10) 2 0) ≤ length (x ∷ y ∷ b)) [
      | true ↦ omega arith
      | false ↦ elim (nat_eq x 13 && nat_eq y 10) as (λ u. cond u 2 0 ≤ length (x ∷ y ∷ b)) [ true ↦ omega arith | false ↦ omega arith ]
    ]

lone_line : (t : Bool) (n : ℕ) → 0 < cond t 1 0 → cond t 1 n ≡ cond t 1 0
lone_line true n some = refl
lone_line false n some = absurd (omega arith)

empty_more : (b more : List ℕ) → 0 < empty_line b → empty_line (b ++ more) ≡ empty_line b
empty_more [] more some = absurd (omega arith)
empty_more (x ∷ []) [] some = refl
empty_more (x ∷ []) (y ∷ more) some =
    lone_line (nat_eq x 10) (cond (nat_eq x 13 && nat_eq y 10) 2 0) some
empty_more (x ∷ y ∷ b) more some = refl

empty_two : (b more : List ℕ) → 2 ≤ length b → empty_line (b ++ more) ≡ empty_line b
empty_two [] more two = absurd (omega arith)
empty_two (x ∷ []) more two = absurd (omega arith)
empty_two (x ∷ y ∷ b) more two = refl

some_line : (x : ℕ) (b : List ℕ) → (nat_eq x 10 && nat_lt 0 (empty_line b)) ≡ true → 0 < empty_line b
some_line x b test = let some : nat_lt 0 (empty_line b) ≡ true = and_right (nat_eq x 10) (nat_lt 0 (empty_line b)) test in grind (arith, nat_tests)

within_by : (x : ℕ) (b : List ℕ) (n : ℕ) (t : Bool) (found : Option ℕ) → (nat_eq x 10 && nat_lt 0 (empty_line b)) ≡ t
    → ((m : ℕ) → found ≡ Some m → (2 ≤ m) × (m ≤ length b)) → cond t (Some (1 + empty_line b)) (shifted 1 found) ≡ Some n → (2 ≤ n) × (n ≤ 1 + length b)
within_by x b n true found test ih is =
    let some = some_line x b test in
    let short = empty_within b in
    let s : 1 + empty_line b ≡ n = cc in
    (omega arith, omega arith)
within_by x b n false None test ih is = absurd (cc)
within_by x b n false (Some m) test ih is =
    let i = ih m refl in
    let low : 2 ≤ m = i.0 in
    let high : m ≤ length b = i.1 in
    let s : 1 + m ≡ n = cc in
    (omega arith, omega arith)

pub head_within : (b : List ℕ) (n : ℕ) → head_length b ≡ Some n → (2 ≤ n) × (n ≤ length b)
head_within [] n is = absurd (cc)
head_within (x ∷ b) n is =
    let i = within_by x b n (nat_eq x 10 && nat_lt 0 (empty_line b)) (head_length b) refl (λ m e. head_within b m e) is in
    let high : n ≤ 1 + length b = i.1 in
    (i.0, omega arith)

more_by : (x : ℕ) (b more : List ℕ) (n : ℕ) (t : Bool) (found : Option ℕ) → (nat_eq x 10 && nat_lt 0 (empty_line b)) ≡ t
    → ((m : ℕ) → found ≡ Some m → (2 ≤ length b) × (head_length (b ++ more) ≡ Some m)) → cond t (Some (1 + empty_line b)) (shifted 1 found) ≡ Some n
    → cond (nat_eq x 10 && nat_lt 0 (empty_line (b ++ more))) (Some (1 + empty_line (b ++ more))) (shifted 1 (head_length (b ++ more))) ≡ Some n
more_by x b more n true found test ih is = rw (empty_more b more (some_line x b test), test) is
more_by x b more n false None test ih is = absurd (cc)
more_by x b more n false (Some m) test ih is = let i = ih m refl in rw (empty_two b more i.0, test, i.1) is

pub head_more : (b more : List ℕ) (n : ℕ) → head_length b ≡ Some n → head_length (b ++ more) ≡ Some n
head_more [] more n is = absurd (cc)
head_more (x ∷ b) more n is =
    more_by x b more n (nat_eq x 10 && nat_lt 0 (empty_line b)) (head_length b) refl
    (λ m e. (let w = head_within b m e in let low : 2 ≤ m = w.0 in let high : m ≤ length b = w.1 in (omega arith, head_more b more m e))) is

none_by : (t : Bool) (e : ℕ) (found : Option ℕ) → cond t (Some e) (shifted 1 found) ≡ None → (t ≡ false) × (found ≡ None)
none_by true e found is = absurd (cc)
none_by false e None is = (refl, refl)
none_by false e (Some m) is = absurd (cc)

shifted_none : (found : Option ℕ) → shifted 0 found ≡ found
shifted_none None = refl
shifted_none (Some n) = ap Some (omega arith)

shifted_one : (n : ℕ) (found : Option ℕ) → shifted 1 (shifted n found) ≡ shifted (suc n) found
shifted_one n None = refl
shifted_one n (Some m) = ap Some (omega arith)

-- where no head ended, one ends no earlier than after the last two bytes
pub head_resume : (b more : List ℕ) → head_length b ≡ None → head_length (b ++ more) ≡ shifted (length b - 2) (head_length (drop (length b - 2) (b ++ more)))
head_resume [] more none = sym (shifted_none (head_length more))
head_resume (x ∷ []) more none = sym (shifted_none (head_length (x ∷ more)))
head_resume (x ∷ y ∷ []) more none = sym (shifted_none (head_length (x ∷ y ∷ more)))
head_resume (x ∷ y ∷ z ∷ b) more none =
    let here = none_by (nat_eq x 10 && nat_lt 0 (empty_line (y ∷ z ∷ b))) (1 + empty_line (y ∷ z ∷ b)) (head_length (y ∷ z ∷ b)) none in
    let later = head_resume (y ∷ z ∷ b) more here.1 in
    let inner : length (y ∷ z ∷ b) - 2 ≡ length b = omega arith in
    let outer : length (x ∷ y ∷ z ∷ b) - 2 ≡ suc (length b) = omega arith in
    let moved : head_length (y ∷ z ∷ (b ++ more)) ≡ shifted (length b) (head_length (drop (length b) (y ∷ z ∷ (b ++ more)))) =
    later ∙ ap (λ n. shifted n (head_length (drop n (y ∷ z ∷ (b ++ more))))) inner in
    ap (λ t. cond t (Some (1 + empty_line (y ∷ z ∷ (b ++ more)))) (shifted 1 (head_length (y ∷ z ∷ (b ++ more))))) here.0
    ∙ ap (shifted 1) moved
    ∙ shifted_one (length b) (head_length (drop (length b) (y ∷ z ∷ (b ++ more))))
    ∙ sym (ap (λ n. shifted n (head_length (drop n (x ∷ y ∷ z ∷ (b ++ more))))) outer)

-- ---- what stands at the front

take_grows : (k : ℕ) (r more : List ℕ) → (rest : List ℕ) × (take k (r ++ more) ≡ take k r ++ rest)
take_grows zero r more = ([], refl)
take_grows (suc k) [] more = (take (suc k) more, refl)
take_grows (suc k) (x ∷ r) more = let i = take_grows k r more in (i.0, ap (λ xs. x ∷ xs) i.1)

whole_by : (found : Option ℕ) (count n : ℕ) → opening_by found count ≡ Whole n → found ≡ Some n
whole_by (Some end) count n is = ap Some (cc)
whole_by None count n is =
    elim (nat_le head_limit count) as (λ t. cond t TooLong (cond (nat_eq count 0) Nothing Unfinished) ≡ Whole n → None ≡ Some n) [
      | true ↦ λ e. absurd (cc)
      | false ↦ elim (nat_eq count 0) as (λ t. cond t Nothing Unfinished ≡ Whole n → None ≡ Some n) [ true ↦ λ e. absurd (cc) | false ↦ λ e. absurd (cc) ]
    ] is

pub opening_head : (r : List ℕ) (n : ℕ) → opening_of r ≡ Whole n → (2 ≤ n) × (n ≤ length r)
opening_head r n is =
    let w = head_within (take head_limit r) n (whole_by (head_length (take head_limit r)) (length r) n is) in
    let low : 2 ≤ n = w.0 in
    let high : n ≤ length (take head_limit r) = w.1 in
    (low, omega (arith, length-take head_limit r))

pub opening_more : (r more : List ℕ) (n : ℕ) → opening_of r ≡ Whole n → opening_of (r ++ more) ≡ Whole n
opening_more r more n is =
    let grown = take_grows head_limit r more in
    let at : head_length (take head_limit (r ++ more)) ≡ Some n =
    ap head_length grown.1 ∙ head_more (take head_limit r) grown.0 n (whole_by (head_length (take head_limit r)) (length r) n is) in
    ap (λ found. opening_by found (length (r ++ more))) at

long_by : (found : Option ℕ) (count : ℕ) → opening_by found count ≡ TooLong → (found ≡ None) × (nat_le head_limit count ≡ true)
long_by (Some end) count is = absurd (cc)
long_by None count is = (refl, of (nat_le head_limit count) (nat_eq count 0) is)
  where
    of : (t u : Bool) → cond t TooLong (cond u Nothing Unfinished) ≡ TooLong → t ≡ true
    of true u e = refl
    of false true e = absurd (cc)
    of false false e = absurd (cc)

limit_two : 2 ≤ head_limit
unfolding head_limit
limit_two = omega arith

pub opening_long : (r more : List ℕ) → opening_of r ≡ TooLong → (2 ≤ length r) × (opening_of (r ++ more) ≡ TooLong)
opening_long r more is =
    let by = long_by (head_length (take head_limit r)) (length r) is in
    let long : head_limit ≤ length r = (let t : nat_le head_limit (length r) ≡ true = by.1 in grind (arith, nat_tests)) in
    let two = limit_two in
    let longer : nat_le head_limit (length (r ++ more)) ≡ true = (let sum = length-append r more in grind (arith, nat_tests)) in
    let none : head_length (take head_limit (r ++ more)) ≡ None = ap head_length (take-append-le head_limit r more long) ∙ by.0 in (
      omega arith,
      ap (λ found. opening_by found (length (r ++ more))) none
          ∙ ap (λ t. cond t TooLong (cond (nat_eq (length (r ++ more)) 0) Nothing Unfinished)) longer,
    )

open_by : (found : Option ℕ) (count : ℕ) → opening_by found count ≡ Unfinished → (found ≡ None) × (nat_le head_limit count ≡ false)
open_by (Some end) count is = absurd (cc)
open_by None count is = (refl, of (nat_le head_limit count) (nat_eq count 0) is)
  where
    of : (t u : Bool) → cond t TooLong (cond u Nothing Unfinished) ≡ Unfinished → t ≡ false
    of true u e = absurd (cc)
    of false u e = refl

-- the bytes that were looked at need no second look
pub passed_more : (r more : List ℕ) → opening_of r ≡ Unfinished → IsPassed (r ++ more) (length r - 2)
unfolding IsPassed
passed_more r more is =
    let by = open_by (head_length (take head_limit r)) (length r) is in
    let short : length r < head_limit = (let t : nat_le head_limit (length r) ≡ false = by.1 in grind (arith, nat_tests)) in
    let split : length r + (head_limit - length r) ≡ head_limit = omega arith in
    let all : take head_limit r ≡ r = take_all head_limit r (omega arith) in
    let none : head_length r ≡ None = sym (ap head_length all) ∙ by.0 in
    let grown : take head_limit (r ++ more) ≡ r ++ take (head_limit - length r) more =
    ap (λ n. take n (r ++ more)) (sym split) ∙ take-append-add r more (head_limit - length r) in
    ap head_length grown ∙ head_resume r (take (head_limit - length r) more) none
    ∙ sym (ap (λ xs. shifted (length r - 2) (head_length (drop (length r - 2) xs))) grown)

pub passed_none : (r : List ℕ) → IsPassed r 0
unfolding IsPassed
passed_none r = sym (shifted_none (head_length (take head_limit r)))

nothing_by : (found : Option ℕ) (count : ℕ) → opening_by found count ≡ Nothing → nat_eq count 0 ≡ true
nothing_by (Some end) count is = absurd (cc)
nothing_by None count is = of (nat_le head_limit count) (nat_eq count 0) is
  where
    of : (t u : Bool) → cond t TooLong (cond u Nothing Unfinished) ≡ Nothing → u ≡ true
    of true u e = absurd (cc)
    of false true e = refl
    of false false e = absurd (cc)

none_left : (r : List ℕ) → nat_eq (length r) 0 ≡ true → r ≡ []
none_left [] none = refl
none_left (x ∷ r) none = let no : length r + 1 ≡ 0 = grind (arith, nat_tests) in absurd (omega arith)

pub opening_nothing : (r : List ℕ) → opening_of r ≡ Nothing → r ≡ []
opening_nothing r is = none_left r (nothing_by (head_length (take head_limit r)) (length r) is)
