-- A set and a list that get the same item.
use Rattle.std.proofs.Common.{◌≡◌, ◌∙◌, ◌<◌, ◌+◌, ◌==◌, ℕ, Bool, true, false, cond, List, [], ◌∷◌, ◌++◌, ◌||◌, length, get_or, drop}
use Rattle.std.proofs.Common.{refl, sym, ap, append_assoc}
use Rattle.std.specs.Bool.{MatchBool}
use Rattle.std.specs.List.{list_any}
use Rattle.std.specs.List.Sorted.{IsPermutation}
use Rattle.std.proofs.lemmas.List.{drop_more}
use Rattle.query_lang.specs.Once.{pieces_from}
use Rattle.std.proofs.lemmas.List.Sorted.{list_any-IsPermutation}
use Rattle.std.proofs.lemmas.List.Folds.{list_any-append}

turned : (a b : Bool) → (a || b) ≡ (b || (a || false))
turned true true = refl
turned true false = refl
turned false true = refl
turned false false = refl

-- a key was put into a set, and an item that passes the same tests at the end of a list
pub put_one : {K T : Type 0} (test : K → Bool) (other : T → Bool) (key : K) (x : T) (old new : List K) (kept : List T) (added : Bool)
    → added ≡ true → MatchBool added (IsPermutation (key ∷ old) new) (new ≡ old) → test key ≡ other x
    → list_any test old ≡ list_any other kept → list_any test new ≡ list_any other (kept ++ x ∷ [])
put_one test other key x old new kept true is moved same known =
    sym (list_any-IsPermutation test (key ∷ old) new moved)
    ∙ ap (λ b. b || list_any test old) same
    ∙ ap (λ b. other x || b) known
    ∙ turned (other x) (list_any other kept)
    ∙ sym (list_any-append other kept (x ∷ []))
put_one test other key x old new kept false is moved same known = absurd (cc)

-- a semicolon ends a piece
pub piece-ended : (text : List ℕ) (i : ℕ) (found : List (List ℕ)) (piece : List ℕ) → i < length text → (get_or text i 0 == 59) ≡ true
    → (found ++ piece ∷ []) ++ pieces_from [] (drop (i + 1) text) ≡ found ++ pieces_from piece (drop i text)
piece-ended text i found piece within ends =
    let left = drop (i + 1) text in
    let b = get_or text i 0 in
    append_assoc found (piece ∷ []) (pieces_from [] left)
    ∙ sym (ap (λ l. found ++ pieces_from piece l) (drop_more text i 0 within)
    ∙ ap (λ end. found ++ cond end (piece ∷ pieces_from [] left) (pieces_from (piece ++ b ∷ []) left)) ends)

-- any other byte is a piece's
pub piece-grown : (text : List ℕ) (i : ℕ) (found : List (List ℕ)) (piece : List ℕ) → i < length text → (get_or text i 0 == 59) ≡ false
    → found ++ pieces_from (piece ++ get_or text i 0 ∷ []) (drop (i + 1) text) ≡ found ++ pieces_from piece (drop i text)
piece-grown text i found piece within goes_on =
    let left = drop (i + 1) text in
    let b = get_or text i 0 in
    sym (ap (λ l. found ++ pieces_from piece l) (drop_more text i 0 within)
    ∙ ap (λ end. found ++ cond end (piece ∷ pieces_from [] left) (pieces_from (piece ++ b ∷ []) left)) goes_on)
