-- Loops that put what they make of each member at the end of a list.
use Rattle.std.proofs.Common.{◌≡◌, ◌∙◌, ℕ, ◌+◌, ◌<◌, ◌≤◌, Bool, List, [], ◌∷◌, ◌++◌, length, get_or, drop, take, map, bytes_eq, cond, ◌||◌, false}
use Rattle.std.proofs.Common.{Option, Some, None, Result, Ok, Err, refl, sym, ap, append_assoc}
use Rattle.std.proofs.lemmas.List.{drop_all, drop_more, take_more, append-nil}
use Rattle.std.proofs.lemmas.List.Folds.{list_any-append}
use Rattle.std.specs.Prelude.{IfOk}
use Rattle.std.specs.List.{flat_map, filter_map, cons_option}
use Rattle.std.specs.Option.{option_to_list}
use Rattle.dh_base.specs.Memory.{IsCause}
use Rattle.dh_base.specs.declared.codes.Refusal.{Refusal}
use Rattle.dh_sharing.specs.Ranges.{is_in_range, is_within, HoldsTheSame}
use Rattle.org_tree.specs.Laws.{HasInterval}
use Rattle.org_tree.specs.Units.{UnitRow, order_of, is_under}
use Rattle.query_lang.specs.Given.{and_then}
use Rattle.query_lang.specs.Each.{each_of, beyond}
use Rattle.query_lang.specs.Items.{beside}
use Rattle.query_lang.specs.Once.{with_new, once_from}
use Rattle.query_lang.specs.View.{is_under_any, Covers}

-- what is made of a member stands before what is made of those after it
pub flattened-more : {X Y : Type 0} (f : X → List Y) (xs : List X) (found own more : List Y) (i : ℕ) (d : X) (whole : List Y)
    → i < length xs → own ≡ f (get_or xs i d) → more ≡ found ++ own
    → whole ≡ found ++ flat_map f (drop i xs) → whole ≡ more ++ flat_map f (drop (i + 1) xs)
flattened-more f xs found own more i d whole within made put before =
    let left = drop (i + 1) xs in
    before ∙ ap (λ l. found ++ flat_map f l) (drop_more xs i d within)
    ∙ ap (λ ys. found ++ (ys ++ flat_map f left)) (sym made)
    ∙ sym (append_assoc found own (flat_map f left))
    ∙ ap (λ ys. ys ++ flat_map f left) (sym put)

one_picked : {Y : Type 0} (found : List Y) (o : Option Y) (rest : List Y) → found ++ cons_option o rest ≡ (found ++ option_to_list o) ++ rest
one_picked found (Some y) rest = sym (append_assoc found (y ∷ []) rest)
one_picked found None rest = ap (λ ys. ys ++ rest) (sym (append-nil found))

-- what a member gives, if it gives something, stands before what those after it give
pub picked-more : {X Y : Type 0} (f : X → Option Y) (xs : List X) (found more : List Y) (i : ℕ) (d : X) (o : Option Y) (whole : List Y)
    → i < length xs → o ≡ f (get_or xs i d) → more ≡ found ++ option_to_list o
    → whole ≡ found ++ filter_map f (drop i xs) → whole ≡ more ++ filter_map f (drop (i + 1) xs)
picked-more f xs found more i d o whole within made put before =
    let left = drop (i + 1) xs in
    before ∙ ap (λ l. found ++ filter_map f l) (drop_more xs i d within)
    ∙ ap (λ p. found ++ cons_option p (filter_map f left)) (sym made)
    ∙ one_picked found o (filter_map f left)
    ∙ ap (λ ys. ys ++ filter_map f left) (sym put)

one_more : {B : Type 0} (done : List B) (y : B) (rest : Result (List B) Refusal)
    → beyond done (and_then rest (λ ys. Ok (y ∷ ys))) ≡ beyond (done ++ y ∷ []) rest
one_more done y (Ok ys) = ap Ok (sym (append_assoc done (y ∷ []) ys))
one_more done y (Err refusal) = refl

-- a member that is read stands before those that are left
pub each-more : {A B : Type 0} (f : A → Result B Refusal) (xs : List A) (done more : List B) (i : ℕ) (x : A) (y : B) (whole : Result (List B) Refusal)
    → i < length xs → x ≡ get_or xs i x → f x ≡ Ok y → more ≡ done ++ y ∷ []
    → whole ≡ beyond done (each_of f (drop i xs)) → whole ≡ beyond more (each_of f (drop (i + 1) xs))
each-more {B = B} f xs done more i x y whole within at read put before =
    let left = drop (i + 1) xs in
    before ∙ ap (λ l. beyond done (each_of f l)) (drop_more xs i x within)
    ∙ ap (λ z. beyond done (each_of f (z ∷ left))) (sym at)
    ∙ ap (λ (o : Result B Refusal). beyond done (and_then o (λ z. and_then (each_of f left) (λ zs. Ok (z ∷ zs))))) read
    ∙ one_more done y (each_of f left)
    ∙ ap (λ ys. beyond ys (each_of f left)) (sym put)

-- a list is refused for the same as the member that is
pub each-cause : {A B : Type 0} (f : A → Result B Refusal) (xs : List A) (done : List B) (i : ℕ) (x : A) (cause : Option Refusal)
    → (whole : Result (List B) Refusal) → i < length xs → x ≡ get_or xs i x → IsCause (f x) cause
    → whole ≡ beyond done (each_of f (drop i xs)) → IsCause whole cause
each-cause f xs done i x None whole within at refused before = tt
each-cause {B = B} f xs done i x (Some refusal) whole within at refused before =
    let left = drop (i + 1) xs in
    before ∙ ap (λ l. beyond done (each_of f l)) (drop_more xs i x within)
    ∙ ap (λ z. beyond done (each_of f (z ∷ left))) (sym at)
    ∙ ap (λ (o : Result B Refusal). beyond done (and_then o (λ z. and_then (each_of f left) (λ zs. Ok (z ∷ zs))))) refused

-- a member that is put unless it is there is done with
pub once-more : {T : Type 0} (same : T → T → Bool) (xs kept more : List T) (i : ℕ) (d : T) (whole : List T)
    → i < length xs → more ≡ with_new same kept (get_or xs i d)
    → once_from same kept (drop i xs) ≡ whole → once_from same more (drop (i + 1) xs) ≡ whole
once-more same xs kept more i d whole within put before =
    ap (λ ys. once_from same ys (drop (i + 1) xs)) put
    ∙ sym (ap (once_from same kept) (drop_more xs i d within))
    ∙ before

-- the range of a unit more covers what is under it
pub covers-more : (us : List UnitRow) (units : List ℕ) (found more : List (ℕ × ℕ)) (i : ℕ) (one : ℕ × ℕ)
    → i < length units → HasInterval us (get_or units i 0) one.0 one.1 → more ≡ found ++ one ∷ []
    → Covers us (take i units) found → Covers us (take (i + 1) units) more
covers-more us units found more i one within interval put before = record {
  members = λ x inside.
      let unit = get_or units i 0 in
      let test : ℕ × ℕ → Bool = λ range. is_in_range (order_of us x) range in
      ap (λ ranges. is_within ranges (order_of us x)) put
      ∙ list_any-append test found (one ∷ [])
      ∙ ap (λ b. b || (test one || false)) (before.members x inside)
      ∙ ap (λ b. is_under_any us (take i units) x || (b || false)) (sym (interval.members x inside))
      ∙ sym (list_any-append (λ y. is_under us x y) (take i units) (unit ∷ []))
      ∙ ap (λ (l : List ℕ). is_under_any us l x) (sym (take_more units i 0 within));
}

-- ranges that hold the same
pub covers-joined : {E : Type 0} (us : List UnitRow) (units : List ℕ) (found : List (ℕ × ℕ)) (result : Result (List (ℕ × ℕ)) E)
    → IfOk result (λ ranges. HoldsTheSame ranges found) → Covers us units found → IfOk result (λ ranges. Covers us units ranges)
covers-joined us units found (Ok ranges) same before =
    record { members = λ x inside. same.members (order_of us x) ∙ before.members x inside }
covers-joined us units found (Err fault) same before = tt

-- a table is read up to the entry of a name
pub beside-past : {E T : Type 0} (table : List E) (view : E → List ℕ × T) (i : ℕ) (entry : E) (name : List ℕ) (found : Bool) (whole : Option T)
    → i < length table → entry ≡ get_or table i entry → found ≡ bytes_eq name (view entry).0 → beside (map view (drop i table)) name ≡ whole
    → cond found (Some (view entry).1) (beside (map view (drop (i + 1) table)) name) ≡ whole
beside-past table view i entry name found whole within at met before =
    let left = drop (i + 1) table in
    ap (λ b. cond b (Some (view entry).1) (beside (map view left) name)) met
    ∙ sym (ap (λ l. beside (map view l) name) (drop_more table i entry within)
    ∙ ap (λ e. beside (map view (e ∷ left)) name) (sym at))
    ∙ before

-- no member is left
pub flattened-all : {X Y : Type 0} (f : X → List Y) (xs : List X) (found : List Y) (i : ℕ) → length xs ≤ i
    → flat_map f xs ≡ found ++ flat_map f (drop i xs) → found ≡ flat_map f xs
flattened-all f xs found i past known = sym (known ∙ ap (λ l. found ++ flat_map f l) (drop_all i xs past) ∙ append-nil found)

pub picked-all : {X Y : Type 0} (f : X → Option Y) (xs : List X) (found : List Y) (i : ℕ) → length xs ≤ i
    → filter_map f xs ≡ found ++ filter_map f (drop i xs) → found ≡ filter_map f xs
picked-all f xs found i past known = sym (known ∙ ap (λ l. found ++ filter_map f l) (drop_all i xs past) ∙ append-nil found)

pub each-all : {A B : Type 0} (f : A → Result B Refusal) (xs : List A) (done : List B) (i : ℕ) (whole : Result (List B) Refusal) → length xs ≤ i
    → whole ≡ beyond done (each_of f (drop i xs)) → whole ≡ Ok done
each-all f xs done i whole past known = known ∙ ap (λ l. beyond done (each_of f l)) (drop_all i xs past) ∙ ap Ok (append-nil done)
