-- Reads and writes one after another, as their order is told.
use Rattle.std.proofs.Common.{◌≡◌, ◌∙◌, ℕ, List, [], ◌∷◌, ◌++◌, Option, None, Some, refl, sym, ap, subst, append_assoc, append-nil}
use Rattle.dh_outside.specs.Talk.{Talk, joined, heard_one, heard_all, Hears, Says, BeforeEach, Paced}

pub joined_on : (first second : List (List ℕ)) → joined (first ++ second) ≡ joined first ++ joined second
joined_on [] second = refl
joined_on (piece ∷ first) second = ap (λ xs. piece ++ xs) (joined_on first second) ∙ sym (append_assoc piece (joined first) (joined second))

pub heard_on : (before : List ℕ) (first second : List (List ℕ)) → heard_all before (first ++ second) ≡ heard_all before first ++ heard_all before second
heard_on before [] second = refl
heard_on before (piece ∷ first) second =
    ap (λ xs. heard_one before piece ++ xs) (heard_on before first second)
    ∙ sym (append_assoc (heard_one before piece) (heard_all before first) (heard_all before second))

pub hears_none : (talk : Option Talk) → Hears talk talk []
hears_none None = tt
hears_none (Some talk) = (sym (append-nil talk.heard), refl, refl)

-- a read that gave nothing
pub hears_nothing : (talk : Option Talk) → Hears talk talk ([] ∷ [])
hears_nothing None = tt
hears_nothing (Some talk) = (sym (append-nil talk.heard), refl, refl)

pub hears_on : (a b c : Option Talk) (first second : List (List ℕ)) → Hears a b first → Hears b c second → Hears a c (first ++ second)
hears_on None None None first second one two = tt
hears_on None None (Some c) first second one two = absurd two
hears_on None (Some b) c first second one two = absurd one
hears_on (Some a) None c first second one two = absurd one
hears_on (Some a) (Some b) None first second one two = absurd two
hears_on (Some a) (Some b) (Some c) first second one two = (
  two.0 ∙ ap (λ xs. xs ++ heard_all b.written second) one.0 ∙ ap (λ w. (a.heard ++ heard_all a.written first) ++ heard_all w second) one.1
      ∙ append_assoc a.heard (heard_all a.written first) (heard_all a.written second) ∙ ap (λ xs. a.heard ++ xs) (sym (heard_on a.written first second)),
  two.1 ∙ one.1,
  one.2 ∙ ap (λ xs. joined first ++ xs) two.2 ∙ sym (append_assoc (joined first) (joined second) c.left)
      ∙ ap (λ xs. xs ++ c.left) (sym (joined_on first second)),
)

-- one read
pub hears_one : (old new : Talk) (piece : List ℕ) → new.heard ≡ old.heard ++ heard_one old.written piece → new.written ≡ old.written
    → old.left ≡ piece ++ new.left
    → Hears (Some old) (Some new) (piece ∷ [])
hears_one old new piece heard written left =
    (heard ∙ ap (λ xs. old.heard ++ xs) (sym (append-nil (heard_one old.written piece))), written, left ∙ ap (λ xs. xs ++ new.left) (sym (append-nil piece)))

pub says_none : (talk : Option Talk) → Says talk talk []
says_none None = tt
says_none (Some talk) = (sym (append-nil talk.written), refl, refl)

pub says_on : (a b c : Option Talk) (first second : List ℕ) → Says a b first → Says b c second → Says a c (first ++ second)
says_on None None None first second one two = tt
says_on None None (Some c) first second one two = absurd two
says_on None (Some b) c first second one two = absurd one
says_on (Some a) None c first second one two = absurd one
says_on (Some a) (Some b) None first second one two = absurd two
says_on (Some a) (Some b) (Some c) first second one two =
    (two.0 ∙ ap (λ xs. xs ++ second) one.0 ∙ append_assoc a.written first second, two.1 ∙ one.1, two.2 ∙ one.2)

-- ---- what holds before each piece

pub before_rebase : (P Q : List ℕ → Type 0) (x b : List ℕ) (pieces : List (List ℕ)) → ((more : List ℕ) → P (x ++ more) → Q (b ++ more)) → BeforeEach P x pieces
    → BeforeEach Q b pieces
before_rebase P Q x b [] to waits = tt
before_rebase P Q x b (piece ∷ pieces) to waits = (
  subst Q (append-nil b) (to [] (subst P (sym (append-nil x)) waits.0)),
  before_rebase P Q (x ++ piece) (b ++ piece) pieces
      (λ more is. subst Q (sym (append_assoc b piece more)) (to (piece ++ more) (subst P (append_assoc x piece more) is))) waits.1,
)

pub before_on : (P : List ℕ → Type 0) (held : List ℕ) (first second : List (List ℕ)) → BeforeEach P held first → BeforeEach P (held ++ joined first) second
    → BeforeEach P held (first ++ second)
before_on P held [] second one two = subst (λ xs. BeforeEach P xs second) (append-nil held) two
before_on P held (piece ∷ first) second one two =
    (one.0, before_on P (held ++ piece) first second one.1 (subst (λ xs. BeforeEach P xs second) (sym (append_assoc held piece (joined first))) two))

-- ---- pieces taken while something held

pub paced_none : (talk : Option Talk) (P : List ℕ → Type 0) (held : List ℕ) → Paced talk talk P held []
paced_none talk P held = record { pieces = []; cut = refl; hears = hears_none talk; waits = tt }

pub paced_on : (a b c : Option Talk) (P : List ℕ → Type 0) (held taken more : List ℕ) → Paced a b P held taken → Paced b c P (held ++ taken) more
    → Paced a c P held (taken ++ more)
paced_on a b c P held taken more one two = record {
  pieces = one.pieces ++ two.pieces;
  cut = joined_on one.pieces two.pieces ∙ ap (λ xs. xs ++ joined two.pieces) one.cut ∙ ap (λ xs. taken ++ xs) two.cut;
  hears = hears_on a b c one.pieces two.pieces one.hears two.hears;
  waits = before_on P held one.pieces two.pieces one.waits (subst (λ xs. BeforeEach P (held ++ xs) two.pieces) (sym one.cut) two.waits);
}

-- one piece
pub paced_one : (a b : Option Talk) (P : List ℕ → Type 0) (held taken : List ℕ) → P held → Hears a b (taken ∷ []) → Paced a b P held taken
paced_one a b P held taken is hears = record { pieces = taken ∷ []; cut = append-nil taken; hears = hears; waits = (is, tt) }

-- the same of other bytes held
pub paced_rebase : (a b : Option Talk) (P Q : List ℕ → Type 0) (x held taken : List ℕ) → ((more : List ℕ) → P (x ++ more) → Q (held ++ more))
    → Paced a b P x taken → Paced a b Q held taken
paced_rebase a b P Q x held taken to paced = record {
  pieces = paced.pieces;
  cut = paced.cut;
  hears = paced.hears;
  waits = before_rebase P Q x held paced.pieces to paced.waits;
}

-- where it doesn't hold at first, nothing is taken
pub paced_shut : (a b : Option Talk) (P : List ℕ → Type 0) (held taken : List ℕ) → (P held → ⊥) → Paced a b P held taken → taken ≡ []
paced_shut a b P held taken shut paced = by_pieces paced.pieces paced.cut paced.waits
  where
    by_pieces : (pieces : List (List ℕ)) → joined pieces ≡ taken → BeforeEach P held pieces → taken ≡ []
    by_pieces [] cut waits = sym cut
    by_pieces (piece ∷ pieces) cut waits = absurd (shut waits.0)
