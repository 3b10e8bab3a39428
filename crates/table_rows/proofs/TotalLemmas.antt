-- Totals of samples that come one by one.
use Rattle.std.proofs.Common.{◌≡◌, ◌∙◌, ℕ, suc, ◌+◌, ◌<◌, Bool, true, false, cond, ◌||◌, List, [], ◌∷◌, ◌++◌, length, map, take, get_or, ℤ, pos}
use Rattle.std.proofs.Common.{unsigned_abs, ◌+ℤ◌, ◌*ℤ◌, Option, Some, None, is_some, refl, sym, ap, arith}
use Rattle.std.specs.List.{list_any}
use Rattle.std.proofs.Math.IntN.{+ℤ_assoc, +ℤ_idr, +ℤ_idl, zero-*ℤ}
use Rattle.std.proofs.lemmas.List.{take_more, map-append, append-nil}
use Rattle.std.proofs.lemmas.List.Elements.{filter_more}
use Rattle.dh_base.specs.Fractions.{Fraction}
use Rattle.table_rows.specs.declared.sum.Sum.{Sum}
use Rattle.table_rows.specs.Sums.{joined, sum_of_number}
use Rattle.table_rows.proofs.SumLemmas.{sum_over-push}
use Rattle.table_rows.specs.declared.sample.Sample.{Sample}
use Rattle.table_rows.specs.Samples.{has_number, numbered, number_of, number_in, weighted, total}
use Rattle.table_rows.specs.Values.{if_any, left_from, left_of, with_choice, sum_of_sample, sum_of_samples}

-- a loop's step: one sample more
pub sums-more : (samples : List Sample) (i : ℕ) (x : Sample) (old new : Sum) → i < length samples → x ≡ get_or samples i x
    → old ≡ sum_of_samples (take i samples) → new ≡ joined old (sum_of_sample x) → new ≡ sum_of_samples (take (i + 1) samples)
sums-more samples i x old new within at before is =
    is ∙ ap (λ s. joined s (sum_of_sample x)) before
    ∙ sym (sum_over-push sum_of_sample (take i samples) x)
    ∙ ap (λ y. sum_of_samples (take i samples ++ y ∷ [])) at
    ∙ ap sum_of_samples (sym (take_more samples i x within))

pub total-append : (f : Sample → ℤ) (xs ys : List Sample) → total f (xs ++ ys) ≡ total f xs +ℤ total f ys
total-append f [] ys = sym (+ℤ_idl (total f ys))
total-append f (x ∷ xs) ys = ap (λ t. f x +ℤ t) (total-append f xs ys) ∙ sym (+ℤ_assoc (f x) (total f xs) (total f ys))

pub total-push : (f : Sample → ℤ) (xs : List Sample) (x : Sample) → total f (xs ++ x ∷ []) ≡ total f xs +ℤ f x
total-push f xs x = total-append f xs (x ∷ []) ∙ ap (λ t. total f xs +ℤ t) (+ℤ_idr (f x))

pub numbered-more : (samples : List Sample) (i : ℕ) (x : Sample) → i < length samples → x ≡ get_or samples i x
    → numbered (take (i + 1) samples) ≡ numbered (take i samples) ++ cond (has_number x) (x ∷ []) []
numbered-more samples i x within at =
    filter_more has_number samples i x within ∙ ap (λ y. numbered (take i samples) ++ cond (has_number y) (y ∷ []) []) (sym at)

pub total-more : (f : Sample → ℤ) (samples : List Sample) (i : ℕ) (x : Sample) → (has_number x ≡ false → f x ≡ pos 0) → i < length samples
    → x ≡ get_or samples i x
    → total f (numbered (take (i + 1) samples)) ≡ total f (numbered (take i samples)) +ℤ f x
total-more f samples i x absent within at =
    ap (total f) (numbered-more samples i x within at) ∙ by_test (has_number x) absent
  where
    by_test : (b : Bool) → (b ≡ false → f x ≡ pos 0) → total f (numbered (take i samples) ++ cond b (x ∷ []) []) ≡ total f (numbered (take i samples)) +ℤ f x
    by_test true gone = total-push f (numbered (take i samples)) x
    by_test false gone =
        ap (total f) (append-nil (numbered (take i samples)))
        ∙ sym (+ℤ_idr (total f (numbered (take i samples))))
        ∙ ap (λ t. total f (numbered (take i samples)) +ℤ t) (sym (gone refl))

none-weighs : (micros : Option ℤ) (days : ℤ) → is_some micros ≡ false → number_in micros *ℤ days ≡ pos 0
none-weighs None days absent = zero-*ℤ days
none-weighs (Some micros) days absent = absurd (cc)

pub weighted-more : (samples : List Sample) (i : ℕ) (x : Sample) (old new : ℤ) → i < length samples → x ≡ get_or samples i x
    → old ≡ total weighted (numbered (take i samples)) → new ≡ old +ℤ weighted x → new ≡ total weighted (numbered (take (i + 1) samples))
weighted-more samples i x old new within at before is =
    is ∙ ap (λ t. t +ℤ weighted x) before ∙ sym (total-more weighted samples i x (none-weighs x.micros _) within at)

-- ---- extremes

left_from-push : (choice : ℤ → ℤ → ℤ) (x y : ℤ) (xs : List ℤ) → left_from choice x (xs ++ y ∷ []) ≡ choice (left_from choice x xs) y
left_from-push choice x y [] = refl
left_from-push choice x y (z ∷ zs) = left_from-push choice (choice x z) y zs

left_of-push : (choice : ℤ → ℤ → ℤ) (xs : List ℤ) (y : ℤ) → left_of choice (xs ++ y ∷ []) ≡ with_choice choice (left_of choice xs) (Some y)
left_of-push choice [] y = refl
left_of-push choice (x ∷ xs) y = ap Some (left_from-push choice x y xs)

map_cond : (b : Bool) (x : Sample) → map number_of (cond b (x ∷ []) []) ≡ cond b (number_of x ∷ []) []
map_cond true x = refl
map_cond false x = refl

pub left-more : (choice : ℤ → ℤ → ℤ) (samples : List Sample) (i : ℕ) (x : Sample) (old new : Option ℤ) → i < length samples → x ≡ get_or samples i x
    → old ≡ left_of choice (map number_of (numbered (take i samples))) → new ≡ with_choice choice old x.micros
    → new ≡ left_of choice (map number_of (numbered (take (i + 1) samples)))
left-more choice samples i x old new within at before is =
    is ∙ by_number x.micros
    ∙ ap (λ ys. left_of choice (map number_of (numbered (take i samples)) ++ ys)) (sym (map_cond (has_number x) x))
    ∙ ap (left_of choice) (sym (map-append number_of (numbered (take i samples)) (cond (has_number x) (x ∷ []) [])))
    ∙ ap (λ xs. left_of choice (map number_of xs)) (sym (numbered-more samples i x within at))
  where
    by_number : (micros : Option ℤ)
        → with_choice choice old micros ≡ left_of choice (map number_of (numbered (take i samples)) ++ cond (is_some micros) (number_in micros ∷ []) [])
    by_number None = before ∙ sym (ap (left_of choice) (append-nil (map number_of (numbered (take i samples)))))
    by_number (Some micros) = ap (λ o. with_choice choice o (Some micros)) before ∙ sym (left_of-push choice (map number_of (numbered (take i samples))) micros)

-- ---- where there is a sample

pub any-numbered : (samples : List Sample) (value : Fraction) → if_any (numbered samples) value ≡ cond (list_any has_number samples) (Some value) None
any-numbered [] value = refl
any-numbered (x ∷ xs) value = by_test (has_number x) (any-numbered xs value)
  where
    by_test : (b : Bool) → if_any (numbered xs) value ≡ cond (list_any has_number xs) (Some value) None
        → if_any (cond b (x ∷ numbered xs) (numbered xs)) value ≡ cond (b || list_any has_number xs) (Some value) None
    by_test true rest = refl
    by_test false rest = rest

-- ---- a sum of samples tells their totals

one_micros : (micros : Option ℤ) (t : ℤ) → (sum_of_number micros).micros +ℤ t ≡ cond (is_some micros) (number_in micros +ℤ t) t
one_micros None t = +ℤ_idl t
one_micros (Some micros) t = refl

total_cond : (b : Bool) (x : Sample) (xs : List Sample) → total number_of (cond b (x ∷ xs) xs) ≡ cond b (number_of x +ℤ total number_of xs) (total number_of xs)
total_cond true x xs = refl
total_cond false x xs = refl

pub sum-micros : (samples : List Sample) → (sum_of_samples samples).micros ≡ total number_of (numbered samples)
sum-micros [] = refl
sum-micros (x ∷ xs) =
    ap (λ t. (sum_of_sample x).micros +ℤ t) (sum-micros xs) ∙ one_micros x.micros (total number_of (numbered xs))
    ∙ sym (total_cond (has_number x) x (numbered xs))

one_count : (micros : Option ℤ) (n : ℕ) → (sum_of_number micros).count + n ≡ suc n
one_count None n = omega arith
one_count (Some micros) n = omega arith

pub sum-count : (samples : List Sample) → (sum_of_samples samples).count ≡ length samples
sum-count [] = refl
sum-count (x ∷ xs) = ap (λ n. (sum_of_sample x).count + n) (sum-count xs) ∙ one_count x.micros (length xs)

one_plain : (micros : Option ℤ) (n : ℕ) → (sum_of_number micros).plain + n ≡ cond (is_some micros) (suc n) n
one_plain None n = omega arith
one_plain (Some micros) n = omega arith

length_cond : (b : Bool) (x : Sample) (xs : List Sample) → length (cond b (x ∷ xs) xs) ≡ cond b (suc (length xs)) (length xs)
length_cond true x xs = refl
length_cond false x xs = refl

pub sum-plain : (samples : List Sample) → (sum_of_samples samples).plain ≡ length (numbered samples)
sum-plain [] = refl
sum-plain (x ∷ xs) =
    ap (λ n. (sum_of_sample x).plain + n) (sum-plain xs) ∙ one_plain x.micros (length (numbered xs)) ∙ sym (length_cond (has_number x) x (numbered xs))

pub days-told : (n : ℕ) (z : ℤ) → pos n ≡ z → n ≡ unsigned_abs z
days-told n z is = ap unsigned_abs is

pub ruleset days_told = (days-told)
