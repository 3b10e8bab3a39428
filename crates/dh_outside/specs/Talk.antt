-- What an object that is read and written tells of the order of both.
use Rattle.std.specs.Prelude.{◌≡◌, ℕ, List, [], ◌∷◌, ◌++◌, Option, None, Some, Result, Ok, Err, take, ⊤}

-- a read that gave bytes: all that stood written before it, and what it gave
pub record Heard : Type 0 where
  pub before : List ℕ
  pub piece : List ℕ

-- the bytes left to read, the reads that gave bytes, in order, and all the bytes written
pub record Talk : Type 0 where
  pub left : List ℕ
  pub heard : List Heard
  pub written : List ℕ

-- pieces one after another
abbrev pub joined : List (List ℕ) → List ℕ
joined [] = []
joined (piece ∷ pieces) = piece ++ joined pieces

-- a read, if it gave bytes
abbrev pub heard_one : List ℕ → List ℕ → List Heard
heard_one before [] = []
heard_one before (byte ∷ bytes) = record { before = before; piece = byte ∷ bytes } ∷ []

-- reads one after another, with no write between them
abbrev pub heard_all : List ℕ → List (List ℕ) → List Heard
heard_all before [] = []
heard_all before (piece ∷ pieces) = heard_one before piece ++ heard_all before pieces

-- these pieces were read, and nothing was written
abbrev pub Hears : Option Talk → Option Talk → List (List ℕ) → Type 0
Hears None None pieces = ⊤
Hears None (Some new) pieces = ⊥
Hears (Some old) None pieces = ⊥
Hears (Some old) (Some new) pieces =
    (new.heard ≡ old.heard ++ heard_all old.written pieces) × (new.written ≡ old.written) × (old.left ≡ joined pieces ++ new.left)

-- these bytes were written, and nothing was read
abbrev pub Says : Option Talk → Option Talk → List ℕ → Type 0
Says None None text = ⊤
Says None (Some new) text = ⊥
Says (Some old) None text = ⊥
Says (Some old) (Some new) text = (new.written ≡ old.written ++ text) × (new.heard ≡ old.heard) × (new.left ≡ old.left)

-- the bytes that a call moved: none at a fault
abbrev pub moved : {E : Type 0} → Result ℕ E → List ℕ → List ℕ
moved (Ok count) bytes = take count bytes
moved (Err e) bytes = []

-- this holds of the bytes held before each piece
abbrev pub BeforeEach : (List ℕ → Type 0) → List ℕ → List (List ℕ) → Type 0
BeforeEach Open held [] = ⊤
BeforeEach Open held (piece ∷ pieces) = Open held × BeforeEach Open (held ++ piece) pieces

-- these bytes were taken in pieces, of which each was asked for while this held of the bytes held
pub record Paced (old new : Option Talk) (Open : List ℕ → Type 0) (held taken : List ℕ) : Type 0 where
  pub pieces : List (List ℕ)
  pub cut : joined pieces ≡ taken
  pub hears : Hears old new pieces
  pub waits : BeforeEach Open held pieces
