-- A history that grows, and the entries of one caller in it.
use Rattle.std.proofs.Common.{◌≡◌, ◌≢◌, ℕ, ◌+◌, ◌*◌, ◌/◌, ◌%◌, ◌<◌, List, [], ◌∷◌, ◌++◌, length, cond}
use Rattle.std.proofs.Common.{Option, append-nil, sym, ap, ◌∙◌, ⊎_elim, inl, inr, arith, length-append, ne_eqb}
use native.Mathlib.Nat.{mod-add-div, add-mul-mod_self_left}
use Rattle.std.proofs.lemmas.List.{get_or_append_left}
use Rattle.std.proofs.lemmas.List.Elements.{filter-append}
use Rattle.std.specs.Prelude.{◌==◌}
use Rattle.shared_engine.specs.Views.{own}
use Rattle.shared_engine.specs.Rule.{Names, IsTold}

-- a count that wraps, one more
pub wraps : (n m : ℕ) → (n % m + 1) % m ≡ (n + 1) % m
wraps n m =
    let whole : n % m + m * (n / m) ≡ n = mod-add-div n m in
    let more : n % m + 1 + m * (n / m) ≡ n + 1 = omega (arith, whole) in
    sym (add-mul-mod_self_left (n % m + 1) m (n / m)) ∙ ap (λ (k : ℕ). k % m) more

module _ {E : Type 0} (caller : E → ℕ) where
  own_none : (c : ℕ) (e : E) → caller e ≢ c → own caller c (e ∷ []) ≡ []
  own_none c e ne = ap (λ b. cond b (e ∷ []) []) (ne_eqb (caller e) c ne)

  pub own-append : (c : ℕ) (xs ys : List E) → own caller c (xs ++ ys) ≡ own caller c xs ++ own caller c ys
  own-append c xs ys = filter-append (λ (e : E). caller e == c) xs ys

  -- an entry of another caller changes nothing
  pub own_other : (c : ℕ) (xs : List E) (e : E) → caller e ≢ c → own caller c (xs ++ e ∷ []) ≡ own caller c xs
  own_other c xs e ne =
      own-append c xs (e ∷ []) ∙ ap (λ l. own caller c xs ++ l) (own_none c e ne) ∙ append-nil (own caller c xs)

module _ {E : Type 0} (named : E → Option ℕ) where
  pub names_more : (caller : E → ℕ) (xs ys : List E) (n : ℕ) → Names caller named xs n → Names caller named (xs ++ ys) n
  names_more caller xs ys n h = (
    h.0,
    h.1,
    (let long = length-append xs ys in let lt : h.0 < length xs = h.2 in omega (arith, long)),
    get_or_append_left xs ys h.1 h.0 h.2 ∙ h.3,
    h.4,
  )

  pub told_more : (caller : E → ℕ) (xs ys : List E) (n : ℕ) → IsTold caller named xs n → IsTold caller named (xs ++ ys) n
  told_more caller xs ys n h = ⊎_elim (λ none. inl none) (λ some. inr (names_more caller xs ys n some)) h
