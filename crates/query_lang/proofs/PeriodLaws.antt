-- A query that asks for periods has one.
use Rattle.std.proofs.Common.{ℕ, ℤ, zero, suc, ◌+◌, ◌<◌, Bool, true, false, cond, List, [], ◌∷◌, ◌++◌, length, Option, None, Some, IfSome, option_map}
use Rattle.std.proofs.Common.{option_and_then, arith, ◌==◌, bytes_eq, codes}
use Rattle.std.specs.List.{list_any}
use Rattle.std.proofs.lemmas.List.{length-append}
use Rattle.dh_periods.specs.declared.kind.PeriodType.{PeriodType}
use Rattle.dh_periods.specs.declared.name.PeriodName.{PeriodName}
use Rattle.dh_periods.specs.Keys.{same_period}
use Rattle.dh_periods.specs.Texts.{period_of}
use Rattle.dh_periods.specs.Places.{nth_period}
use Rattle.dh_periods.specs.Relative.{single_named, several_named, some_or, relative_named, run_of, periods_on, relative_of}
use Rattle.query_lang.specs.Once.{with_new, once_from, same_bytes, texts_once, pieces_from, pieces}
use Rattle.query_lang.specs.Items.{periods_by, period_form, item_texts, periods_from, period_items}

abbrev pub IsFilled : {A : Type 0} → List A → Type 0
IsFilled xs = 0 < length xs

run_filled : (kind : PeriodType) (start count : ℕ) → 0 < count → IsFilled (run_of kind start count)
unfolding run_of
run_filled kind start zero some = absurd (omega arith)
run_filled kind start (suc count) some = omega (arith, length-append (run_of kind start count) (nth_period kind (start + count) ∷ []))

-- the value that may be there is so
record Long {S : Type 0} (P : S → Type 0) (o : Option S) : Type 0 where
  is : IfSome o P

pick : {S : Type 0} (P : S → Type 0) (b : Bool) (x y : Option S) → Long P x → Long P y → Long P (cond b x y)
pick P true x y first other = first
pick P false x y first other = other

leaf : {S : Type 0} (P : S → Type 0) (s : S) → P s → Long P (Some s)
leaf P s so = record { is = so }

no_one : {S : Type 0} (P : S → Type 0) → Long P None
no_one P = record { is = tt }

mapped : {S T : Type 0} (P : T → Type 0) (f : S → T) (o : Option S) → Long (λ s. P (f s)) o → IfSome (option_map f o) P
mapped P f None some = tt
mapped P f (Some s) some = some.is

single_filled : (n : ℕ) (name : List ℕ) → Long (λ s. IsFilled (periods_on n s)) (single_named name)
single_filled n name =
    pick (λ s. IsFilled (periods_on n s)) (bytes_eq name (codes "TODAY")) _ _ (leaf (λ s. IsFilled (periods_on n s)) _ (run_filled _ _ 1 (omega arith)))
    (pick (λ s. IsFilled (periods_on n s)) (bytes_eq name (codes "YESTERDAY")) _ _ (leaf (λ s. IsFilled (periods_on n s)) _ (run_filled _ _ 1 (omega arith)))
    (pick (λ s. IsFilled (periods_on n s)) (bytes_eq name (codes "THIS_WEEK")) _ _ (leaf (λ s. IsFilled (periods_on n s)) _ (run_filled _ _ 1 (omega arith)))
    (pick (λ s. IsFilled (periods_on n s)) (bytes_eq name (codes "LAST_WEEK")) _ _ (leaf (λ s. IsFilled (periods_on n s)) _ (run_filled _ _ 1 (omega arith)))
    (pick (λ s. IsFilled (periods_on n s)) (bytes_eq name (codes "THIS_MONTH")) _ _ (leaf (λ s. IsFilled (periods_on n s)) _ (run_filled _ _ 1 (omega arith)))
    (pick (λ s. IsFilled (periods_on n s)) (bytes_eq name (codes "LAST_MONTH")) _ _ (leaf (λ s. IsFilled (periods_on n s)) _ (run_filled _ _ 1 (omega arith)))
    (pick (λ s. IsFilled (periods_on n s)) (bytes_eq name (codes "THIS_QUARTER")) _ _ (leaf (λ s. IsFilled (periods_on n s)) _ (run_filled _ _ 1 (omega arith)))
    (pick (λ s. IsFilled (periods_on n s)) (bytes_eq name (codes "LAST_QUARTER")) _ _ (leaf (λ s. IsFilled (periods_on n s)) _ (run_filled _ _ 1 (omega arith)))
    (pick (λ s. IsFilled (periods_on n s)) (bytes_eq name (codes "THIS_YEAR")) _ _ (leaf (λ s. IsFilled (periods_on n s)) _ (run_filled _ _ 1 (omega arith)))
    (pick (λ s. IsFilled (periods_on n s)) (bytes_eq name (codes "LAST_YEAR")) _ _ (leaf (λ s. IsFilled (periods_on n s)) _ (run_filled _ _ 1 (omega arith)))
    (no_one (λ s. IsFilled (periods_on n s))))))))))))

several_filled : (n : ℕ) (name : List ℕ) → Long (λ s. IsFilled (periods_on n s)) (several_named name)
several_filled n name =
    pick (λ s. IsFilled (periods_on n s)) (bytes_eq name (codes "LAST_3_MONTHS")) _ _ (leaf (λ s. IsFilled (periods_on n s)) _ (run_filled _ _ 3 (omega arith)))
    (pick (λ s. IsFilled (periods_on n s)) (bytes_eq name (codes "LAST_6_MONTHS")) _ _
    (leaf (λ s. IsFilled (periods_on n s)) _ (run_filled _ _ 6 (omega arith)))
    (pick (λ s. IsFilled (periods_on n s)) (bytes_eq name (codes "LAST_12_MONTHS")) _ _
    (leaf (λ s. IsFilled (periods_on n s)) _ (run_filled _ _ 12 (omega arith)))
    (pick (λ s. IsFilled (periods_on n s)) (bytes_eq name (codes "LAST_4_QUARTERS")) _ _
    (leaf (λ s. IsFilled (periods_on n s)) _ (run_filled _ _ 4 (omega arith)))
    (pick (λ s. IsFilled (periods_on n s)) (bytes_eq name (codes "LAST_5_YEARS")) _ _ (leaf (λ s. IsFilled (periods_on n s)) _ (run_filled _ _ 5 (omega arith)))
    (pick (λ s. IsFilled (periods_on n s)) (bytes_eq name (codes "MONTHS_THIS_YEAR")) _ _
    (leaf (λ s. IsFilled (periods_on n s)) _ (run_filled _ _ 12 (omega arith)))
    (pick (λ s. IsFilled (periods_on n s)) (bytes_eq name (codes "QUARTERS_THIS_YEAR")) _ _
    (leaf (λ s. IsFilled (periods_on n s)) _ (run_filled _ _ 4 (omega arith)))
    (no_one (λ s. IsFilled (periods_on n s)))))))))

named_filled : (n : ℕ) (name : List ℕ) → Long (λ s. IsFilled (periods_on n s)) (relative_named name)
unfolding relative_named
named_filled n name =
    elim (single_named name) as (λ o. Long (λ s. IsFilled (periods_on n s)) o → Long (λ s. IsFilled (periods_on n s)) (some_or o (several_named name))) [
      | Some s ↦ λ some. some
      | None ↦ λ none. several_filled n name
    ] (single_filled n name)

relative_filled : (name : List ℕ) (day : ℤ) → IfSome (relative_of name day) IsFilled
unfolding relative_of
relative_filled name day = mapped IsFilled (periods_on _) (relative_named name) (named_filled _ name)

by_filled : (o : Option PeriodName) (text : List ℕ) (day : ℤ) → IfSome (periods_by o text day) IsFilled
by_filled None text day = relative_filled text day
by_filled (Some p) text day = omega arith

form_filled : (day : ℤ) (text : List ℕ) → IfSome (period_form day text) IsFilled
unfolding period_form
form_filled day text = by_filled (period_of text) text day

new_filled : {A : Type 0} (same : A → A → Bool) (kept : List A) (x : A) → IsFilled (with_new same kept x)
new_filled same [] x = omega arith
new_filled same (y ∷ kept) x =
    elim (list_any (same x) (y ∷ kept)) as (λ b. IsFilled (cond b (y ∷ kept) ((y ∷ kept) ++ x ∷ []))) [ true ↦ omega arith | false ↦ omega arith ]

once_filled : {A : Type 0} (same : A → A → Bool) (kept xs : List A) → IsFilled kept → IsFilled (once_from same kept xs)
once_filled same kept [] some = some
once_filled same kept (x ∷ xs) some = once_filled same (with_new same kept x) xs (new_filled same kept x)

all_filled : {A : Type 0} (same : A → A → Bool) (kept xs : List A) → IsFilled xs → IsFilled (once_from same kept xs)
all_filled same kept [] some = absurd (omega arith)
all_filled same kept (x ∷ xs) some = once_filled same (with_new same kept x) xs (new_filled same kept x)

pieces_filled : (piece bytes : List ℕ) → IsFilled (pieces_from piece bytes)
pieces_filled piece [] = omega arith
pieces_filled piece (b ∷ bytes) =
    elim (b == 59) as (λ t. IsFilled (cond t (piece ∷ pieces_from [] bytes) (pieces_from (piece ++ b ∷ []) bytes))) [
      | true ↦ omega arith
      | false ↦ pieces_filled (piece ++ b ∷ []) bytes
    ]

texts_filled : (text : List ℕ) → IsFilled (item_texts text)
unfolding item_texts texts_once pieces
texts_filled text = all_filled same_bytes [] (pieces_from [] text) (pieces_filled [] text)

step : (day : ℤ) (kept : List PeriodName) (texts : List (List ℕ)) (o : Option (List PeriodName))
    → ((next : List PeriodName) → IsFilled next → IfSome (periods_from day next texts) IsFilled)
    → IfSome o IsFilled → IfSome (option_and_then (λ found. periods_from day (once_from same_period kept found) texts) o) IsFilled
step day kept texts None rest some = tt
step day kept texts (Some found) rest some = rest (once_from same_period kept found) (all_filled same_period kept found some)

from_filled : (day : ℤ) (kept : List PeriodName) (texts : List (List ℕ)) → IsFilled kept → IfSome (periods_from day kept texts) IsFilled
from_filled day kept [] some = some
from_filled day kept (text ∷ texts) some = step day kept texts (period_form day text) (λ next filled. from_filled day next texts filled) (form_filled day text)

first_filled : (day : ℤ) (texts : List (List ℕ)) → IsFilled texts → IfSome (periods_from day [] texts) IsFilled
first_filled day [] some = absurd (omega arith)
first_filled day (text ∷ texts) some = step day [] texts (period_form day text) (λ next filled. from_filled day next texts filled) (form_filled day text)

-- the periods of a dimension's items are some
pub periods_filled : (day : ℤ) (text : List ℕ) → IfSome (period_items day text) IsFilled
unfolding period_items
periods_filled day text = first_filled day (item_texts text) (texts_filled text)
