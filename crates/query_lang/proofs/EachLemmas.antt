-- Texts read one after the other.
use Rattle.std.proofs.Common.{◌≡◌, ◌∙◌, ℕ, ℤ, ◌+◌, ◌<◌, List, [], ◌∷◌, ◌++◌, length, get_or, drop, Option, Some, None, option_map, refl, sym, ap, append_assoc}
use Rattle.std.specs.Prelude.{option_and_then}
use Rattle.std.proofs.lemmas.List.{drop_more}
use Rattle.dh_periods.specs.declared.name.PeriodName.{PeriodName}
use Rattle.dh_periods.specs.Keys.{same_period}
use Rattle.query_lang.specs.Once.{once_from}
use Rattle.query_lang.specs.Items.{each, period_form, periods_from}

beyond : {T : Type 0} (done : List T) (item : T) (more : Option (List T))
    → option_map (λ xs. done ++ xs) (option_map (λ xs. item ∷ xs) more) ≡ option_map (λ xs. (done ++ item ∷ []) ++ xs) more
beyond done item (Some xs) = ap Some (sym (append_assoc done (item ∷ []) xs))
beyond done item None = refl

-- what is left after an item of a text is put to those before
pub each_more : {T : Type 0} (form : List ℕ → Option T) (done new : List T) (texts : List (List ℕ)) (i : ℕ) (text : List ℕ) (item : T) (whole : Option (List T))
    → i < length texts → text ≡ get_or texts i text → form text ≡ Some item → new ≡ done ++ item ∷ []
    → whole ≡ option_map (λ xs. done ++ xs) (each form (drop i texts)) → whole ≡ option_map (λ xs. new ++ xs) (each form (drop (i + 1) texts))
each_more {T = T} form done new texts i text item whole within is read put so_far =
    let left = drop (i + 1) texts in
    so_far ∙ ap (λ l. option_map (λ xs. done ++ xs) (each form l)) (drop_more texts i text within)
    ∙ ap (λ (t : List ℕ). option_map (λ xs. done ++ xs) (each form (t ∷ left))) (sym is)
    ∙ ap (λ (o : Option T). option_map (λ xs. done ++ xs) (option_and_then (λ x. option_map (λ xs. x ∷ xs) (each form left)) o)) read
    ∙ beyond done item (each form left) ∙ ap (λ (ys : List T). option_map (λ xs. ys ++ xs) (each form left)) (sym put)

-- what is left after the periods of a text are put to those before
pub periods_more : (day : ℤ) (kept new found : List PeriodName) (texts : List (List ℕ)) (i : ℕ) (text : List ℕ) (whole : Option (List PeriodName))
    → i < length texts → text ≡ get_or texts i text → period_form day text ≡ Some found → new ≡ once_from same_period kept found
    → periods_from day kept (drop i texts) ≡ whole → periods_from day new (drop (i + 1) texts) ≡ whole
periods_more day kept new found texts i text whole within is read put so_far =
    let left = drop (i + 1) texts in
    ap (λ (xs : List PeriodName). periods_from day xs left) put
    ∙ sym (ap (λ l. periods_from day kept l) (drop_more texts i text within)
    ∙ ap (λ (t : List ℕ). periods_from day kept (t ∷ left)) (sym is)
    ∙ ap (λ (o : Option (List PeriodName)). option_and_then (λ xs. periods_from day (once_from same_period kept xs) left) o) read)
    ∙ so_far

-- a text without form leaves nothing
pub each_none : {T : Type 0} (form : List ℕ → Option T) (done : List T) (texts : List (List ℕ)) (i : ℕ) (text : List ℕ) (whole : Option (List T))
    → i < length texts → text ≡ get_or texts i text → form text ≡ None → whole ≡ option_map (λ xs. done ++ xs) (each form (drop i texts)) → whole ≡ None
each_none {T = T} form done texts i text whole within is unread so_far =
    let left = drop (i + 1) texts in
    so_far ∙ ap (λ l. option_map (λ xs. done ++ xs) (each form l)) (drop_more texts i text within)
    ∙ ap (λ (t : List ℕ). option_map (λ xs. done ++ xs) (each form (t ∷ left))) (sym is)
    ∙ ap (λ (o : Option T). option_map (λ xs. done ++ xs) (option_and_then (λ x. option_map (λ xs. x ∷ xs) (each form left)) o)) unread

pub periods_none : (day : ℤ) (kept : List PeriodName) (texts : List (List ℕ)) (i : ℕ) (text : List ℕ) (whole : Option (List PeriodName))
    → i < length texts → text ≡ get_or texts i text → period_form day text ≡ None → periods_from day kept (drop i texts) ≡ whole → whole ≡ None
periods_none day kept texts i text whole within is unread so_far =
    let left = drop (i + 1) texts in
    sym so_far ∙ ap (λ l. periods_from day kept l) (drop_more texts i text within)
    ∙ ap (λ (t : List ℕ). periods_from day kept (t ∷ left)) (sym is)
    ∙ ap (λ (o : Option (List PeriodName)). option_and_then (λ xs. periods_from day (once_from same_period kept xs) left) o) unread
