-- Children noted under a parent, in a map that grows.
use Rattle.std.proofs.Common.{◌≡◌, ◌∙◌, ℕ, Bool, true, false, cond, List, [], ◌∷◌, ◌++◌, ◌||◌, Option, Some, Result, Ok, Err, OnOk, OnErr, refl, sym, ap}
use Rattle.std.proofs.lemmas.List.Folds.{list_any-append}
use Rattle.std.specs.Option.{unwrap_or, is_some}
use Rattle.std.specs.List.{list_any}
use Rattle.std.specs.Cmp.Lexicographic.{same_text, nat_list_eq_equiv}
use Rattle.std.specs.Map.{lookup}
use Rattle.dh_changes.specs.Said.{same_id}

abbrev pub noted_by : (List ℕ → Option (List (List ℕ))) → List ℕ → List ℕ → Bool
noted_by children parent child = list_any (λ other. same_id child other) (unwrap_or (children parent) [])

-- a key that is entered holds what it held, or nothing; what else there was stays
pub entered : {K V : Type 0} (same : K → K → Bool) (nothing : V) (old new : K → Option V) (key : K)
    → ((q : K) → same key q ≡ true → old key ≡ old q)
    → ((q : K) → new q ≡ cond (same key q) (Some (unwrap_or (old key) nothing)) (old q))
    → (q : K) → (unwrap_or (new q) nothing ≡ unwrap_or (old q) nothing) × (is_some (old q) ≡ true → is_some (new q) ≡ true)
entered {V} same nothing old new key alike update q =
    elim (same key q) as (λ b. same key q ≡ b
    → (unwrap_or (new q) nothing ≡ unwrap_or (old q) nothing) × (is_some (old q) ≡ true → is_some (new q) ≡ true)) [
      | true ↦ λ hit.
          let is : new q ≡ Some (unwrap_or (old key) nothing) = update q ∙ ap (λ b. cond b (Some (unwrap_or (old key) nothing)) (old q)) hit in
          (ap (λ o. unwrap_or o nothing) is ∙ ap (λ o. unwrap_or o nothing) (alike q hit), λ had. ap is_some is)
      | false ↦ λ miss.
          let is : new q ≡ old q = update q ∙ ap (λ b. cond b (Some (unwrap_or (old key) nothing)) (old q)) miss in
          (ap (λ o. unwrap_or o nothing) is, λ had. ap is_some is ∙ had)
    ] refl

-- the same of the entries of a map
pub grows-entered : {K V : Type 0} (same : K → K → Bool) (nothing : V) (old new : List (K × V)) (key : K)
    → ((q : K) → same key q ≡ true → lookup (same key) old ≡ lookup (same q) old)
    → ((q : K) → lookup (same q) new ≡ cond (same key q) (Some (unwrap_or (lookup (same key) old) nothing)) (lookup (same q) old))
    → ((q : K) → unwrap_or (lookup (same q) new) nothing ≡ unwrap_or (lookup (same q) old) nothing)
    × ((q : K) → is_some (lookup (same q) old) ≡ true → is_some (lookup (same q) new) ≡ true)
grows-entered same nothing old new key alike update =
    let each = entered same nothing (λ q. lookup (same q) old) (λ q. lookup (same q) new) key alike update in
    (λ q. (each q).0, λ q. (each q).1)

or_left : (a b : Bool) → a ≡ true → (a || b) ≡ true
or_left a b is = ap (λ t. t || b) is

or_right : (a b : Bool) → b ≡ true → (a || b) ≡ true
or_right true b is = refl
or_right false b is = is

-- a list after a push has at least what it had
pub pushed-keeps : {E : Type 0} (result : Result (Unit {0}) E) (list more : List (List ℕ)) (x : List ℕ)
    → OnOk result (more ≡ list ++ x ∷ []) → OnErr result (more ≡ list)
    → (test : List ℕ → Bool) → list_any test list ≡ true → list_any test more ≡ true
pushed-keeps (Ok done) list more x ok err test had = ap (list_any test) ok ∙ list_any-append test list (x ∷ []) ∙ or_left _ _ had
pushed-keeps (Err e) list more x ok err test had = ap (list_any test) err ∙ had

module _ (old new : List ℕ → Option (List (List ℕ))) (parent : List ℕ) (list more : List (List ℕ)) where
  -- the parent's list has at least what it had: what was noted is noted
  pub noted-stays : old parent ≡ Some list
      → ((q : List ℕ) → new q ≡ cond (same_id parent q) (Some more) (old q))
      → ((test : List ℕ → Bool) → list_any test list ≡ true → list_any test more ≡ true)
      → (p c : List ℕ) → noted_by old p c ≡ true → noted_by new p c ≡ true
  noted-stays at update keeps p c noted =
      elim (same_id parent p) as (λ b. same_id parent p ≡ b → noted_by new p c ≡ true) [
        | true ↦ λ same.
            let equal : parent ≡ p = same_text parent p (sym same) in
            let was : list_any (λ other. same_id c other) list ≡ true =
            ap (λ o. list_any (λ other. same_id c other) (unwrap_or o [])) (sym at ∙ ap old equal) ∙ noted in
            ap (λ o. list_any (λ other. same_id c other) (unwrap_or o [])) (update p ∙ ap (λ b. cond b (Some more) (old p)) same)
            ∙ keeps (λ other. same_id c other) was
        | false ↦ λ apart.
            ap (λ o. list_any (λ other. same_id c other) (unwrap_or o [])) (update p ∙ ap (λ b. cond b (Some more) (old p)) apart) ∙ noted
      ] refl

  -- the child at the list's end is noted
  pub noted-new : {E : Type 0} (result : Result (Unit {0}) E) (child : List ℕ)
      → ((q : List ℕ) → new q ≡ cond (same_id parent q) (Some more) (old q))
      → OnOk result (more ≡ list ++ child ∷ [])
      → OnOk result (noted_by new parent child ≡ true)
  noted-new (Err e) child update ok = ok
  noted-new (Ok done) child update ok =
      ap (λ o. list_any (λ other. same_id child other) (unwrap_or o []))
      (update parent ∙ ap (λ b. cond b (Some more) (old parent)) (nat_list_eq_equiv.refl parent))
      ∙ ap (list_any (λ other. same_id child other)) ok
      ∙ list_any-append (λ other. same_id child other) list (child ∷ [])
      ∙ or_right _ _ (or_left _ _ (nat_list_eq_equiv.refl child))

-- where each parent has the children that it had, what was noted is noted
pub noted-same : (old new : List ℕ → Option (List (List ℕ))) (nothing : List (List ℕ)) → nothing ≡ []
    → ((q : List ℕ) → unwrap_or (new q) nothing ≡ unwrap_or (old q) nothing)
    → (p c : List ℕ) → noted_by old p c ≡ true → noted_by new p c ≡ true
noted-same old new nothing none same p c noted =
    ap (λ d. list_any (λ other. same_id c other) (unwrap_or (new p) d)) (sym none) ∙ ap (list_any (λ other. same_id c other)) (same p)
    ∙ ap (λ d. list_any (λ other. same_id c other) (unwrap_or (old p) d)) none ∙ noted
