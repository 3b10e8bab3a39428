-- What one read gives.
use Rattle.std.proofs.Common.{◌≡◌, ◌∙◌, ◌+◌, ◌≤◌, ℕ, List, [], ◌∷◌, ◌++◌, Option, length, take, sym, ap, subst, inl, inr, arith, append-nil, length-append}
use Rattle.std.proofs.lemmas.List.{take-append-le}
use Rattle.std.proofs.KnownBytes.{Consumes-nil, Consumes-kept, Consumes-trans}
use Rattle.std.specs.Io.KnownBytes.{Keeps, Consumes}
use Rattle.dh_outside.specs.Faults.{Rose}
use Rattle.dh_outside.specs.Pieces.{Gains}
use Rattle.dh_outside.specs.Talk.{Talk, Hears}
use Rattle.dh_outside.proofs.ReadLemmas.{none_of}
use Rattle.dh_outside.proofs.TalkLemmas.{hears_nothing}

-- nothing was taken
pub Gains-none : (left : Option (List ℕ)) (talk : Option Talk) (held held' : List ℕ) (read : ℕ) → held' ≡ held
    → Gains left left talk talk held held' read read
Gains-none left talk held held' read same = record {
  taken = [];
  consumed = Consumes-nil left;
  hears = hears_nothing talk;
  beyond = same ∙ sym (append-nil held);
  counted = omega arith;
}

-- a read that failed took nothing
pub Gains-kept : (left left' : Option (List ℕ)) (talk talk' : Option Talk) (held held' : List ℕ) (read : ℕ) → held' ≡ held → Keeps left left'
    → Hears talk talk' ([] ∷ [])
    → Gains left left' talk talk' held held' read read
Gains-kept left left' talk talk' held held' read same kept hears = record {
  taken = [];
  consumed = Consumes-kept left left left' [] (Consumes-nil left) kept;
  hears = hears;
  beyond = same ∙ sym (append-nil held);
  counted = omega arith;
}

-- a read that gave nothing
pub Gains-end : (left left' : Option (List ℕ)) (talk talk' : Option Talk) (held held' : List ℕ) (read count : ℕ) (piece : List ℕ) → count ≡ 0
    → count ≡ length (take count piece) → Consumes left left' (take count piece) → Hears talk talk' (take count piece ∷ []) → held' ≡ held
    → Gains left left' talk talk' held held' read read
Gains-end left left' talk talk' held held' read count piece none many consumed hears same = record {
  taken = take count piece;
  consumed = consumed;
  hears = hears;
  beyond = same ∙ sym (append-nil held) ∙ ap (λ xs. held ++ xs) (sym (none_of (take count piece) (omega arith)));
  counted = omega arith;
}

-- so many bytes of a piece were taken
pub Gains-piece : (left left' : Option (List ℕ)) (talk talk' : Option Talk) (held held' : List ℕ) (read count : ℕ) (piece : List ℕ)
    → count ≡ length (take count piece) → Consumes left left' (take count piece) → Hears talk talk' (take count piece ∷ [])
    → held' ≡ held ++ take count piece
    → Gains left left' talk talk' held held' read (read + count)
Gains-piece left left' talk talk' held held' read count piece many consumed hears beyond = record {
  taken = take count piece;
  consumed = consumed;
  hears = hears;
  beyond = beyond;
  counted = ap (λ n. read + n) many;
}

-- ---- a source that is read to its end

-- what a read gave stands after the bytes held
pub grown_by : (held held' piece rest : List ℕ) (count : ℕ) → count ≤ length piece → held' ≡ held ++ take count (piece ++ rest)
    → held' ≡ held ++ take count piece
grown_by held held' piece rest count within grown = grown ∙ ap (λ xs. held ++ xs) (take-append-le count piece rest within)

pub longer_by : (held held' piece : List ℕ) (count : ℕ) → count ≡ length (take count piece) → held' ≡ held ++ take count piece
    → length held' ≡ length held + count
longer_by held held' piece count many grown = ap length grown ∙ length-append held (take count piece) ∙ ap (λ n. length held + n) (sym many)

pub consumed_more : (a b c : Option (List ℕ)) (held held' more : List ℕ) → Consumes a b held → Consumes b c more → held' ≡ held ++ more → Consumes a c held'
consumed_more a b c held held' more first second grown = subst (λ xs. Consumes a c xs) (sym grown) (Consumes-trans a b c held more first second)

-- the last read gave nothing
pub consumed_all : (a b c : Option (List ℕ)) (bytes last : List ℕ) → Consumes a b bytes → Consumes b c last → length last ≡ 0 → Consumes a c bytes
consumed_all a b c bytes last first second none =
    subst (λ xs. Consumes a c xs) (ap (λ xs. bytes ++ xs) (none_of last none) ∙ append-nil bytes) (Consumes-trans a b c bytes last first second)

-- the count rose later
pub rose_after : (a b c : ℕ) → a ≤ b → Rose b c → Rose a c
rose_after a b c kept (inl rose) = inl (omega arith)
rose_after a b c kept (inr most) = inr most
