-- A read of bytes in memory.
use Rattle.std.proofs.Common.{◌≡◌, ◌∙◌, ◌<◌, ◌+◌, ℕ, List, [], ◌∷◌, ◌++◌, length, take, drop, min, refl, sym, ap, arith, take-append-drop}
use Rattle.std.proofs.Common.{true, false, Result, Ok, Err}
use Rattle.std.proofs.lemmas.List.{drop-drop}
use Rattle.std.specs.Prelude.{OnOk, OnErr}
use Rattle.std.specs.Result.{is_err}

-- what was read stands before what is left
pub read_moved : (bytes into : List ℕ) (at count : ℕ) → take count into ≡ take count (drop at bytes)
    → drop at bytes ≡ take count into ++ drop (at + count) bytes
read_moved bytes into at count front =
    sym (take-append-drop count (drop at bytes)) ∙ ap (λ xs. xs ++ drop count (drop at bytes)) (sym front)
    ∙ ap (λ xs. take count into ++ xs) (drop-drop count at bytes)

pub none_of : (xs : List ℕ) → length xs ≡ 0 → xs ≡ []
none_of [] none = refl
none_of (x ∷ xs) none = absurd (omega arith)

-- a read of nothing, where there is room, shows that nothing is left
pub read_end : (bytes : List ℕ) (at count room : ℕ) → count ≡ min (length (drop at bytes)) room → count ≡ 0 → 0 < room → drop (at + count) bytes ≡ []
read_end bytes at count room is none some =
    sym (drop-drop count at bytes) ∙ ap (λ n. drop n (drop at bytes)) none ∙ none_of (drop at bytes) (omega arith)

-- what a call says of its answer, where that is known by a test
pub went_so : {A E : Type 0} (r : Result A E) (Holds : Type 0) → is_err r ≡ false → OnOk r Holds → Holds
went_so (Ok value) Holds is said = said
went_so (Err e) Holds is said = absurd (cc)

pub failed_so : {A E : Type 0} (r : Result A E) (Holds : Type 0) → is_err r ≡ true → OnErr r Holds → Holds
failed_so (Ok value) Holds is said = absurd (cc)
failed_so (Err e) Holds is said = said
