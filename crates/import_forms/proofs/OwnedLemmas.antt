-- Loops over owned lists, which put what they make of each member at the end of another list.
use Rattle.std.proofs.Common.{◌≡◌, ◌∙◌, List, [], ◌∷◌, ◌++◌, length, map, refl, sym, ap, append_assoc, arith, Ok}
use Rattle.std.proofs.lemmas.List.{append-nil}
use Rattle.std.specs.List.{flat_map}
use Rattle.json_read.specs.Forms.{Formed}

-- one member more of each
pub made-more : {X Y : Type 0} (f : X → Y) (whole before after : List Y) (left rest : List X) (x : X) (y : Y) → whole ≡ before ++ map f left
    → left ≡ x ∷ rest → y ≡ f x → after ≡ before ++ y ∷ [] → whole ≡ after ++ map f rest
made-more f whole before after left rest x y known next made is =
    known
    ∙ ap (λ l. before ++ map f l) next
    ∙ sym (append_assoc before (f x ∷ []) (map f rest))
    ∙ ap (λ l. l ++ map f rest) (ap (λ v. before ++ v ∷ []) (sym made) ∙ sym is)

-- all members of one list more
pub joined-more : {X Y : Type 0} (f : X → List Y) (whole before after : List Y) (left rest : List X) (x : X) → whole ≡ before ++ flat_map f left
    → left ≡ x ∷ rest → after ≡ before ++ f x → whole ≡ after ++ flat_map f rest
joined-more f whole before after left rest x known next is =
    known
    ∙ ap (λ l. before ++ flat_map f l) next
    ∙ sym (append_assoc before (f x) (flat_map f rest))
    ∙ ap (λ l. l ++ flat_map f rest) (sym is)

nothing : {X : Type 0} (xs : List X) → length xs ≡ 0 → xs ≡ []
nothing [] none = refl
nothing (x ∷ xs) none = absurd (omega arith)

-- none is left
pub made-all : {X Y : Type 0} (f : X → Y) (whole before : List Y) (left : List X) → whole ≡ before ++ map f left → length left ≡ 0 → before ≡ whole
made-all f whole before left known none = sym (known ∙ ap (λ l. before ++ map f l) (nothing left none) ∙ append-nil before)

pub joined-all : {X Y : Type 0} (f : X → List Y) (whole before : List Y) (left : List X) → whole ≡ before ++ flat_map f left → length left ≡ 0
    → before ≡ whole
joined-all f whole before left known none = sym (known ∙ ap (λ l. before ++ flat_map f l) (nothing left none) ∙ append-nil before)

-- the same of what a form means

pub formed-more : {X Y : Type 0} (f : X → Y) (whole : Formed (List Y)) (before after : List Y) (left rest : List X) (x : X) (y : Y)
    → whole ≡ Ok (before ++ map f left) → left ≡ x ∷ rest → y ≡ f x → after ≡ before ++ y ∷ [] → whole ≡ Ok (after ++ map f rest)
formed-more f whole before after left rest x y known next made is =
    known ∙ ap (λ l. Ok l) (made-more f (before ++ map f left) before after left rest x y refl next made is)

pub formed-all : {X Y : Type 0} (f : X → Y) (whole : Formed (List Y)) (before : List Y) (left : List X) → whole ≡ Ok (before ++ map f left)
    → length left ≡ 0 → whole ≡ Ok before
formed-all f whole before left known none = known ∙ ap (λ l. Ok l) (sym (made-all f (before ++ map f left) before left refl none))
