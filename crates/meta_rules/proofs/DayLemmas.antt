-- Elements and attributes whose values are days.
use Rattle.std.proofs.Common.{◌≡◌, ◌∙◌, ℕ, ◌+◌, ◌<◌, Bool, true, false, cond, List, [], ◌∷◌, ◌++◌, length, get_or, drop, refl, sym, ap, append_assoc}
use Rattle.std.proofs.lemmas.List.{drop_more, append-nil}
use denote.Enum.Bare.{sameb}
use Rattle.dh_metadata.specs.declared.names.ValueType.{ValueType}
use Rattle.dh_metadata.specs.declared.names.ValueType.TheVariants as value_type
use Rattle.dh_metadata.specs.contracts.names.ValueType.{the_type}
use Rattle.meta_rules.specs.Days.{is_date}

-- the derived equality tells days from other types
pub is-day : (kind : ValueType) → sameb the_type kind value_type.Date ≡ is_date kind
is-day value_type.Number = refl
is-day value_type.Integer = refl
is-day value_type.IntegerPositive = refl
is-day value_type.IntegerNegative = refl
is-day value_type.IntegerZeroOrPositive = refl
is-day value_type.Percentage = refl
is-day value_type.UnitInterval = refl
is-day value_type.Boolean = refl
is-day value_type.TrueOnly = refl
is-day value_type.Date = refl
is-day value_type.Text = refl

one-more : (b : Bool) (found rest : List (List ℕ)) (id : List ℕ) → found ++ cond b (id ∷ rest) rest ≡ (found ++ cond b (id ∷ []) []) ++ rest
one-more true found rest id = sym (append_assoc found (id ∷ []) rest)
one-more false found rest id = ap (λ l. l ++ rest) (sym (append-nil found))

-- one member more
pub days-more : {X : Type 0} (date : X → Bool) (id : X → List ℕ) (days : List X → List (List ℕ))
    → ((x : X) (more : List X) → days (x ∷ more) ≡ cond (date x) (id x ∷ days more) (days more))
    → (xs : List X) (i : ℕ) (x : X) (whole found after : List (List ℕ)) (b : Bool) → i < length xs → x ≡ get_or xs i x → b ≡ date x
    → after ≡ found ++ cond b (id x ∷ []) [] → whole ≡ found ++ days (drop i xs) → whole ≡ after ++ days (drop (i + 1) xs)
days-more date id days rule xs i x whole found after b within at is put known =
    let rest : List _ = drop (i + 1) xs in
    known
    ∙ ap (λ l. found ++ days l) (drop_more xs i x within)
    ∙ ap (λ y. found ++ days (y ∷ rest)) (sym at)
    ∙ ap (λ l. found ++ l) (rule x rest)
    ∙ ap (λ v. found ++ cond v (id x ∷ days rest) (days rest)) (sym is)
    ∙ one-more b found (days rest) (id x)
    ∙ ap (λ l. l ++ days rest) (sym put)
