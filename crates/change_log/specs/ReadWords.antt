-- Reading records from the front of bytes, word for word as they are written.
use Rattle.std.specs.Prelude.{ℕ, zero, suc, List, [], ◌∷◌, length, take, drop, nat_lt, bytes_eq, if◌then◌else◌, Option, None, Some, option_map}
use Rattle.std.specs.Prelude.{option_and_then, ℤ}
use Rattle.std.specs.Int.{Width, w16, byte_len, from_be_bytes, cast_signed}
use Rattle.dh_base.specs.Uid.{uid_of}
use Rattle.change_log.specs.Words.{no_id}

-- what stands at the front of bytes, with the bytes after it, or nothing where no such thing stands there
abbrev pub Reads : Type 0 → Type 0
Reads A = List ℕ → Option (A × List ℕ)

-- one thing after another
infixr 20 ◌⊗◌
abbrev pub ◌⊗◌ : {A B : Type 0} → Reads A → Reads B → Reads (A × B)
(a ⊗ b) bytes = option_and_then (λ x. option_map (λ y. ((x.0, y.0), y.1)) (b x.1)) (a bytes)

-- what is read, seen as something else
abbrev pub mapped : {A B : Type 0} → (A → B) → Reads A → Reads B
mapped f a bytes = option_map (λ x. (f x.0, x.1)) (a bytes)

-- what is read, where it stands for something
abbrev pub refined : {A B : Type 0} → (A → Option B) → Reads A → Reads B
refined f a bytes = option_and_then (λ x. option_map (λ y. (y, x.1)) (f x.0)) (a bytes)

-- so many bytes
unfoldable pub bytes_at : ℕ → Reads (List ℕ)
bytes_at n bytes = if nat_lt (length bytes) n then None else Some (take n bytes, drop n bytes)

-- a number
unfoldable pub number_at : Width → Reads ℕ
number_at w = mapped (from_be_bytes w) (bytes_at (byte_len w))

-- a number that may be negative
unfoldable pub signed_at : Width → Reads ℤ
signed_at w = mapped (cast_signed w) (number_at w)

-- a text after its length
unfoldable pub text_at : Width → Reads (List ℕ)
text_at w bytes = option_and_then (λ n. bytes_at n.0 n.1) (number_at w bytes)

-- so many things of one kind
unfoldable pub times_at : {A : Type 0} → ℕ → Reads A → Reads (List A)
times_at zero each bytes = Some ([], bytes)
times_at (suc n) each bytes = option_and_then (λ x. option_map (λ xs. (x.0 ∷ xs.0, xs.1)) (times_at n each x.1)) (each bytes)

-- a list after its count
unfoldable pub listed_at : {A : Type 0} → Width → Reads A → Reads (List A)
listed_at w each bytes = option_and_then (λ n. times_at n.0 each n.1) (number_at w bytes)

-- an identifier
unfoldable pub id_at : Reads (List ℕ)
id_at = refined uid_of (bytes_at 11)

-- an identifier, or none where zeros stand
abbrev pub optional_id_of : List ℕ → Option (Option (List ℕ))
optional_id_of bytes = if bytes_eq bytes no_id then Some None else option_map Some (uid_of bytes)

unfoldable pub optional_id_at : Reads (Option (List ℕ))
optional_id_at = refined optional_id_of (bytes_at 11)

-- an item's identifier and its value
abbrev pub id_text_at : Reads (List ℕ × List ℕ)
id_text_at = id_at ⊗ text_at w16
