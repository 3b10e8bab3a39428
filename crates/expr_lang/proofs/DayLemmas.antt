-- A set of identifiers that grows with a list.
use Rattle.std.proofs.Common.{◌≡◌, ◌∙◌, ℕ, Bool, true, false, cond, List, [], ◌∷◌, ◌++◌, ◌||◌, nat_eq, refl, sym, ap}
use Rattle.std.proofs.lemmas.List.Folds.{list_any-append}
use Rattle.std.specs.Cmp.Lexicographic.{pointwise}
use Rattle.expr_lang.specs.Item.{is_among_of}

choice_or : (a b : Bool) → cond a true b ≡ (b || (a || false))
choice_or true true = refl
choice_or true false = refl
choice_or false true = refl
choice_or false false = refl

-- an identifier more
pub among-more : (uids : List (List ℕ)) (x uid : List ℕ) (old new : Bool) → old ≡ is_among_of uid uids → new ≡ cond (pointwise nat_eq x uid) true old
    → new ≡ is_among_of uid (uids ++ x ∷ [])
among-more uids x uid old new known put =
    put ∙ ap (λ b. cond (pointwise nat_eq x uid) true b) known
    ∙ choice_or (pointwise nat_eq x uid) (is_among_of uid uids)
    ∙ sym (list_any-append (λ day. pointwise nat_eq day uid) uids (x ∷ []))
