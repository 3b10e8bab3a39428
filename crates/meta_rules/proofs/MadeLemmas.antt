-- Objects made one after the other.
use Rattle.std.proofs.Common.{◌≡◌, ◌∙◌, ℕ, zero, suc, ◌+◌, ◌<◌, ◌≤◌, List, [], ◌∷◌, ◌++◌, length, get_or, drop, Option}
use Rattle.std.proofs.Common.{None, Some, Result, Ok, Err, sym, ap, subst}
use Rattle.std.proofs.Common.{add-one, drop-cons, append_assoc}
use Rattle.std.proofs.lemmas.List.{append-nil, drop_all}
use Rattle.std.specs.Option.{option_or}
use Rattle.dh_base.specs.Memory.{IsFirst, Finds}
use Rattle.meta_rules.specs.declared.expr_fault.ExprFault.{ExprFault}
use Rattle.meta_rules.specs.declared.expr_fault.ExprError.{ExprError}
use Rattle.meta_rules.specs.Objects.{first_unread, made_of, expr_cause, IsKept}

-- the items after the first of those that are left
rest_of : {B : Type 0} (ys : List B) (i : ℕ) (y : B) (rest : List B) → drop i ys ≡ y ∷ rest → rest ≡ drop (suc i) ys
rest_of [] zero y rest at = absurd (cc)
rest_of [] (suc i) y rest at = absurd (cc)
rest_of (x ∷ ys) zero y rest at = (let same : ys ≡ rest = cc in sym same)
rest_of (x ∷ ys) (suc i) y rest at = rest_of ys i y rest at

split : {A : Type 0} (xs : List A) (i : ℕ) (x : A) → i < length xs → x ≡ get_or xs i x → drop i xs ≡ x ∷ drop (i + 1) xs
split xs i x within at = rw add-one (drop-cons xs i x within ∙ ap (λ y. y ∷ drop (suc i) xs) (sym at))

-- what is known after one object more
pub record Step {A B C : Type 0} (unread_of : A → Option ExprFault) (make : A → B → C) (raw : List A) (links : List B) (i : ℕ) (rest : List B) (all : List C)
    : Type 0 where
  pub unread : first_unread unread_of (drop i raw) ≡ first_unread unread_of (drop (i + 1) raw)
  pub left : rest ≡ drop (i + 1) links
  pub made : made_of make raw links ≡ all ++ made_of make (drop (i + 1) raw) (drop (i + 1) links)

pub made_step : {A B C : Type 0} (unread_of : A → Option ExprFault) (make : A → B → C) (raw : List A) (links : List B) (i : ℕ) (x : A) (own : B)
    (old new : List B) (made : List C) (one : C) → i < length raw → x ≡ get_or raw i x → old ≡ drop i links → old ≡ own ∷ new
    → unread_of x ≡ None → one ≡ make x own → made_of make raw links ≡ made ++ made_of make (drop i raw) (drop i links)
    → Step unread_of make raw links i new (made ++ one ∷ [])
made_step unread_of make raw links i x own old new made one within at left taken read is so_far =
    let left_at : drop i links ≡ own ∷ new = sym left ∙ taken in
    let after : new ≡ drop (i + 1) links = rw add-one (rest_of links i own new left_at) in
    record {
      unread = ap (first_unread unread_of) (split raw i x within at) ∙ ap (λ o. option_or o (first_unread unread_of (drop (i + 1) raw))) read;
      left = after;
      made = so_far ∙ ap (λ l. made ++ made_of make l (drop i links)) (split raw i x within at)
          ∙ ap (λ l. made ++ made_of make (x ∷ drop (i + 1) raw) l) left_at
          ∙ ap (λ l. made ++ make x own ∷ made_of make (drop (i + 1) raw) l) after
          ∙ ap (λ y. made ++ y ∷ made_of make (drop (i + 1) raw) (drop (i + 1) links)) (sym is)
          ∙ sym (append_assoc made (one ∷ []) (made_of make (drop (i + 1) raw) (drop (i + 1) links)));
    }

-- all are made
pub made_all : {A B C : Type 0} (unread_of : A → Option ExprFault) (make : A → B → C) (raw : List A) (links : List B) (i : ℕ) (made : List C)
    → length raw ≤ i → first_unread unread_of raw ≡ first_unread unread_of (drop i raw)
    → made_of make raw links ≡ made ++ made_of make (drop i raw) (drop i links)
    → (first_unread unread_of raw ≡ None) × (made ≡ made_of make raw links)
made_all unread_of make raw links i made past unread so_far =
    let none : drop i raw ≡ [] = drop_all i raw past in (
      unread ∙ ap (first_unread unread_of) none,
      sym (so_far ∙ ap (λ l. made ++ made_of make l (drop i links)) none ∙ append-nil made),
    )

-- one isn't read
pub unread_at : {A : Type 0} (unread_of : A → Option ExprFault) (raw : List A) (i : ℕ) (x : A) (cause : Option ExprFault) → i < length raw
    → x ≡ get_or raw i x → first_unread unread_of raw ≡ first_unread unread_of (drop i raw) → IsFirst (unread_of x) cause
    → IsFirst (first_unread unread_of raw) cause
unread_at unread_of raw i x None within at unread met = tt
unread_at unread_of raw i x (Some fault) within at unread met =
    unread ∙ ap (first_unread unread_of) (split raw i x within at) ∙ ap (λ o. option_or o (first_unread unread_of (drop (i + 1) raw))) met

-- the same, where what is made is kept in one step
pub kept_step : {A B C : Type 0} (unread_of : A → Option ExprFault) (make : A → B → C) (raw : List A) (links : List B) (i : ℕ) (x : A) (own : B)
    (old new : List B) (made made' : List C) (one : Result C ExprError) → i < length raw → x ≡ get_or raw i x → old ≡ drop i links → old ≡ own ∷ new
    → Finds expr_cause (unread_of x) (λ m. m ≡ make x own) one → IsKept one made made' (Ok tt)
    → made_of make raw links ≡ made ++ made_of make (drop i raw) (drop i links) → Step unread_of make raw links i new made'
kept_step unread_of make raw links i x own old new made made' (Ok y) within at left taken found kept so_far =
    subst (Step unread_of make raw links i new) (sym kept)
    (made_step unread_of make raw links i x own old new made y within at left taken found.0 found.1 so_far)
kept_step unread_of make raw links i x own old new made made' (Err fault) within at left taken found kept so_far = absurd kept

-- a fault that is handed on
pub kept_unread : {A C : Type 0} (unread_of : A → Option ExprFault) (x : A) (Is : C → Type 0) (made made' : List C) (one : Result C ExprError)
    (fault : ExprError) → Finds expr_cause (unread_of x) Is one → IsKept one made made' (Err fault) → IsFirst (unread_of x) (expr_cause fault)
kept_unread unread_of x Is made made' (Ok y) fault found kept = subst (λ f. IsFirst (unread_of x) (expr_cause f)) (sym kept) tt
kept_unread unread_of x Is made made' (Err told) fault found kept = subst (λ f. IsFirst (unread_of x) (expr_cause f)) (sym kept) found
