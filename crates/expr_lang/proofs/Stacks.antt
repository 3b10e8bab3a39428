-- Items of a stack by how many stand above them.
use Rattle.std.proofs.Common.{◌≡◌, ℕ, zero, suc, ◌+◌, List, [], ◌∷◌, ◌-◌, ◌++◌, length, take, drop, reverse, Option, Some, None, refl, sym, ap}
use Rattle.std.proofs.Common.{add-one, ◌∙◌, inl, inr, arith}
use Rattle.std.proofs.lemmas.Bool.{cases_lt}
use Rattle.std.proofs.lemmas.List.{take-append-drop, reverse-append, length-reverse, length-drop, drop_at, drop_all}
use Rattle.std.specs.Prelude.{slice_get, IfSome, IfNone}

at_some : {T : Type 0} (xs : List T) (n : ℕ) (x : T) → slice_get xs n ≡ Some x → drop n xs ≡ x ∷ drop (suc n) xs
at_some [] n x h = absurd cc
at_some (y ∷ xs) zero x h = let e : y ≡ x = cc in ap (λ z. z ∷ xs) e
at_some (y ∷ xs) (suc n) x h = at_some xs n x h

at_none : {T : Type 0} (xs : List T) (n : ℕ) → slice_get xs n ≡ None → drop n xs ≡ []
at_none [] zero h = refl
at_none [] (suc n) h = refl
at_none (y ∷ xs) zero h = absurd cc
at_none (y ∷ xs) (suc n) h = at_none xs n h

pub found_at : {T : Type 0} (xs : List T) (n : ℕ) (o : Option T) → o ≡ slice_get xs n → IfSome o (λ x. drop n xs ≡ x ∷ drop (n + 1) xs)
found_at xs n None h = tt
found_at xs n (Some x) h = at_some xs n x (sym h) ∙ ap (λ k. x ∷ drop k xs) (sym (add-one n))

pub none_at : {T : Type 0} (xs : List T) (n : ℕ) (o : Option T) → o ≡ slice_get xs n → IfNone o (drop n xs ≡ [])
none_at xs n None h = at_none xs n (sym h)
none_at xs n (Some x) h = tt

-- what is left where the last are taken off
pub cut_off : {T : Type 0} (xs : List T) (n : ℕ) → reverse (take (length xs - n) xs) ≡ drop n (reverse xs)
cut_off xs n =
    elim (cases_lt (length xs) n) [
      | inr within ↦
          let k = length xs - n in
          let all : reverse xs ≡ reverse (drop k xs) ++ reverse (take k xs) = ap reverse (sym (take-append-drop k xs))
          ∙ reverse-append (take k xs) (drop k xs) in
          let len : length (reverse (drop k xs)) ≡ n = omega (arith, length-reverse (drop k xs), length-drop k xs) in
          sym (ap (drop n) all ∙ drop_at (reverse (drop k xs)) (reverse (take k xs)) n len)
      | inl past ↦
          let none : length xs - n ≡ 0 = omega arith in
          ap (λ (k : ℕ). reverse (take k xs)) none ∙ sym (drop_all n (reverse xs) (omega (arith, length-reverse xs)))
    ]
