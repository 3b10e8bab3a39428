-- What the code reads of a row.
use Rattle.std.proofs.Common.{◌≡◌, ◌==◌, ℕ, ◌+◌, ◌<◌, true, false, List, [], ◌∷◌, ◌++◌, length, get_or, take, drop, map, Option, Some, None, refl, sym, ap, ◌∙◌}
use Rattle.std.proofs.Common.{arith, add-one}
use Rattle.std.proofs.lemmas.List.{append-nil, drop_all, map-append, map_more, take_all}
use Rattle.std.proofs.lemmas.Bool.{false≢true, eq-eqb, eqb-true}
use Rattle.std.specs.Prelude.{option_and_then}
use Rattle.std.specs.Option.{option_map_or}
use Rattle.std.proofs.lemmas.Option.{slice_get-get_or}
use Rattle.org_tree.specs.KinRows.{numbers}
use Rattle.org_tree.specs.Levels.{jump}
use Rattle.org_tree.specs.Units.{UnitRow, parent_of, id_at, is_child}

pub parent_of-read : (us : List UnitRow) (x : ℕ) (d : UnitRow) → x < length us → parent_of us x ≡ (get_or us x d).1
parent_of-read us x d h = ap (λ o. option_and_then (λ (u : UnitRow). u.1) o) (slice_get-get_or us x d h)

pub id_at-read : (us : List UnitRow) (x : ℕ) (d : UnitRow) → x < length us → id_at us x ≡ (get_or us x d).0
id_at-read us x d h = ap (λ o. option_map_or (λ (u : UnitRow). u.0) o []) (slice_get-get_or us x d h)

pub ruleset row_reads = (parent_of-read, id_at-read)

pub jump-read : (jumps : List (Option ℕ)) (x : ℕ) (d : Option ℕ) → x < length jumps → jump jumps x ≡ get_or jumps x d
jump-read jumps x d h = ap (λ o. option_and_then (λ (v : Option ℕ). v) o) (slice_get-get_or jumps x d h)

pub ruleset jump_reads = (jump-read)

pub is_child-true : (us : List UnitRow) (x p : ℕ) → is_child us x p ≡ true → parent_of us x ≡ Some p
is_child-true us x p is = by_parent (parent_of us x) is
  where
    by_parent : (o : Option ℕ) → option_map_or (λ q. q == p) o false ≡ true → o ≡ Some p
    by_parent None e = absurd (false≢true e)
    by_parent (Some q) e = ap Some (eqb-true q p e)

pub is_child-from : (us : List UnitRow) (x p : ℕ) → parent_of us x ≡ Some p → is_child us x p ≡ true
is_child-from us x p up = ap (λ o. option_map_or (λ q. q == p) o false) up ∙ eq-eqb p p refl

-- a list that was lent as a slice, when it comes back as long as it was
pub written : {A : Type 0} (new old : List A) (len : ℕ) → length new ≡ length old → len ≡ length old → take len (new ++ drop (length new) old) ≡ new
written new old len same whole =
    ap (λ rest. take len (new ++ rest)) (drop_all (length new) old (omega arith)) ∙ ap (take len) (append-nil new) ∙ take_all len new (omega arith)

-- a list of what stands at each place, by one place more
pub each-more : {A : Type 0} (f : ℕ → A) (n : ℕ) (before after : List A) (here : A) → after ≡ before ++ here ∷ [] → before ≡ map f (numbers n) → here ≡ f n
    → after ≡ map f (numbers (n + 1))
each-more f n before after here pushed so_far is =
    pushed ∙ ap (λ list. list ++ here ∷ []) so_far ∙ ap (λ x. map f (numbers n) ++ x ∷ []) is
    ∙ sym (ap (λ (v : ℕ). map f (numbers v)) (add-one n) ∙ map-append f (numbers n) (n ∷ []))

-- what is made of each member of a list, by one member more
pub made-more : {A B : Type 0} (f : A → B) (xs : List A) (i : ℕ) (x : A) (before after : List B) → i < length xs → x ≡ get_or xs i x → before ≡ map f (take i xs)
    → after ≡ before ++ f x ∷ [] → after ≡ map f (take (i + 1) xs)
made-more f xs i x before after within at so_far pushed =
    pushed ∙ ap (λ y. before ++ f y ∷ []) at ∙ ap (λ list. list ++ f (get_or xs i x) ∷ []) so_far ∙ sym (map_more f xs i x within)
