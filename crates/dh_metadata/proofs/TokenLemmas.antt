-- Tokens of which one stands earlier too.
use Rattle.std.proofs.Common.{◌≡◌, ◌∙◌, ◌+◌, ◌<◌, ℕ, Bool, true, false, not, cond, List, [], ◌∷◌, ◌++◌, length, get_or, map, take, drop, Some, refl}
use Rattle.std.proofs.Common.{sym, ap}
use Rattle.std.proofs.lemmas.List.{map_more, drop_more}
use Rattle.dh_metadata.specs.Places.{is_one_of}
use Rattle.dh_metadata.specs.Ids.{user_behind}

pub was_there : (new old : Bool) → new ≡ not old → new ≡ false → old ≡ true
was_there new true is no_more = refl
was_there new false is no_more = absurd (cc)

pub was_absent : (new old : Bool) → new ≡ not old → new ≡ true → old ≡ false
was_absent new false is more = refl
was_absent new true is more = absurd (cc)

-- the token at a place is the first of the rest
pub rest_at : (tokens : List (List ℕ × List ℕ)) (i : ℕ) (token : List ℕ × List ℕ) → i < length tokens → token ≡ get_or tokens i token
    → drop i tokens ≡ token ∷ drop (i + 1) tokens
rest_at tokens i token within is = drop_more tokens i token within ∙ ap (λ first. first ∷ drop (i + 1) tokens) (sym is)

pub texts_more : (tokens : List (List ℕ × List ℕ)) (i : ℕ) (token : List ℕ × List ℕ) → i < length tokens → token ≡ get_or tokens i token
    → map (λ token. token.0) (take (i + 1) tokens) ≡ map (λ token. token.0) (take i tokens) ++ token.0 ∷ []
texts_more tokens i token within is =
    map_more (λ (each : List ℕ × List ℕ). each.0) tokens i token within
    ∙ ap (λ (each : List ℕ × List ℕ). map (λ token. token.0) (take i tokens) ++ each.0 ∷ []) (sym is)

pub user_behind-same : (before : List (List ℕ)) (token : List ℕ × List ℕ) (rest : List (List ℕ × List ℕ)) → is_one_of before token.0 ≡ true
    → user_behind before (token ∷ rest) ≡ Some token.1
user_behind-same before token rest there = ap (λ b. cond b (Some token.1) (user_behind (before ++ token.0 ∷ []) rest)) there

pub user_behind-new : (before : List (List ℕ)) (token : List ℕ × List ℕ) (rest : List (List ℕ × List ℕ)) → is_one_of before token.0 ≡ false
    → user_behind before (token ∷ rest) ≡ user_behind (before ++ token.0 ∷ []) rest
user_behind-new before token rest absent = ap (λ b. cond b (Some token.1) (user_behind (before ++ token.0 ∷ []) rest)) absent
