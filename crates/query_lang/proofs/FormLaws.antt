-- What holds of a query's form.
use Rattle.std.proofs.Common.{◌≡◌, ℕ, ℤ, ◌<◌, Bool, true, false, not, ◌&&◌, cond, List, [], ◌∷◌, length, bytes_eq, codes, Option, None, Some, IfSome}
use Rattle.std.proofs.Common.{option_map, option_and_then, Result, Ok, Err, IfOk, refl}
use Rattle.std.specs.List.{AllByRecursion}
use Rattle.dh_base.specs.declared.codes.Code.{Code}
use Rattle.dh_base.specs.declared.codes.Code.TheVariants as code
use Rattle.dh_base.specs.declared.codes.Refusal.{Refusal}
use Rattle.dh_periods.specs.declared.name.PeriodName.{PeriodName}
use Rattle.query_lang.specs.declared.plain.Axis.{Axis}
use Rattle.query_lang.specs.declared.item.DxForm.{DxForm}
use Rattle.query_lang.specs.declared.item.DxItem.{DxItem}
use Rattle.query_lang.specs.declared.item.UnitItem.{UnitItem}
use Rattle.query_lang.specs.declared.form.Draft.{Draft}
use Rattle.query_lang.specs.declared.form.Form.{Form}
use Rattle.query_lang.specs.Given.{and_then, or_refuse}
use Rattle.query_lang.specs.Items.{dx_form, dx_item, each, dx_items, period_items, item_texts}
use Rattle.query_lang.specs.Form.{is_unsupported, head_of, fresh, with_dx, with_periods, with_units, with_dimension, with_pair, with_pairs, nothing, whole}
use Rattle.query_lang.specs.Form.{form_of, pairs_of}
use Rattle.query_lang.specs.Askable.{IsFormed, IsForm}
use Rattle.query_lang.proofs.PeriodLaws.{IsFilled, periods_filled}

joined : {T : Type 0} (P : T → Type 0) (o : Option T) (p : Option (List T)) → IfSome o P → IfSome p (AllByRecursion P)
    → IfSome (option_and_then (λ x. option_map (λ xs. x ∷ xs) p) o) (AllByRecursion P)
joined P None p one more = tt
joined P (Some x) None one more = tt
joined P (Some x) (Some xs) one more = (one, more)

each_all : {T : Type 0} (P : T → Type 0) (form : List ℕ → Option T) → ((text : List ℕ) → IfSome (form text) P)
    → (texts : List (List ℕ)) → IfSome (each form texts) (AllByRecursion P)
each_all P form one [] = tt
each_all P form one (text ∷ texts) = joined P (form text) (each form texts) (one text) (each_all P form one texts)

formed : (text : List ℕ) (o : Option DxForm) → dx_form text ≡ o
    → IfSome (option_map (λ (form : DxForm). let item : DxItem = record { form = form; text = text } in item) o) IsFormed
formed text None is = tt
formed text (Some form) is = is

items_formed : (text : List ℕ) → IfSome (dx_items text) (AllByRecursion IsFormed)
unfolding dx_items
items_formed text = each_all IsFormed dx_item (λ t. formed t (dx_form t) refl) (item_texts text)

record IsDraft (draft : Draft) : Type 0 where
  dx : IfSome draft.dx (AllByRecursion IsFormed)
  periods : IfSome draft.periods (λ axis. 0 < length axis.items)

after : {A B : Type 0} (P : B → Type 0) (f : A → Option B) → ((x : A) → IfSome (f x) P) → (o : Option A) → IfSome (option_and_then f o) P
after P f all None = tt
after P f all (Some x) = all x

dx_put : (draft : Draft) (c : Code) (value : List ℕ) (o : Option (List DxItem)) → IsDraft draft → IfSome o (AllByRecursion IsFormed)
    → IfOk (or_refuse c value (option_map (λ items. let next : Draft = record draft { dx = Some items } in next) o)) IsDraft
dx_put draft c value None is all = tt
dx_put draft c value (Some items) is all = record { dx = all; periods = is.periods }

dx_law : (draft : Draft) (value : List ℕ) → IsDraft draft → IfOk (with_dx draft value) IsDraft
unfolding with_dx
dx_law draft value is = dx_put draft code.F10 value _ is (after (AllByRecursion IsFormed) dx_items items_formed (fresh draft.dx value))

periods_put : (draft : Draft) (filter : Bool) (c : Code) (value : List ℕ) (o : Option (List PeriodName)) → IsDraft draft → IfSome o IsFilled
    → IfOk (or_refuse c value (option_map (λ items. let next : Draft = record draft { periods = Some (record { items = items; filter = filter }) } in next) o))
    IsDraft
periods_put draft filter c value None is some = tt
periods_put draft filter c value (Some items) is some = record { dx = is.dx; periods = some }

periods_law : (day : ℤ) (draft : Draft) (filter : Bool) (value : List ℕ) → IsDraft draft → IfOk (with_periods day draft filter value) IsDraft
unfolding with_periods
periods_law day draft filter value is =
    periods_put draft filter code.F10 value _ is (after IsFilled (period_items day) (periods_filled day) (fresh draft.periods value))

units_put : (draft : Draft) (filter : Bool) (c : Code) (value : List ℕ) (o : Option (List UnitItem)) → IsDraft draft
    → IfOk (or_refuse c value (option_map (λ items. let next : Draft = record draft { units = Some (record { items = items; filter = filter }) } in next) o))
    IsDraft
units_put draft filter c value None is = tt
units_put draft filter c value (Some items) is = record { dx = is.dx; periods = is.periods }

units_law : (draft : Draft) (filter : Bool) (value : List ℕ) → IsDraft draft → IfOk (with_units draft filter value) IsDraft
unfolding with_units
units_law draft filter value is = units_put draft filter code.F10 value _ is

pick : {A : Type 0} (P : A → Type 0) (b : Bool) (x y : Result A Refusal) → IfOk x P → IfOk y P → IfOk (cond b x y) P
pick P true x y first other = first
pick P false x y first other = other

dimension_law : (day : ℤ) (draft : Draft) (filter : Bool) (value : List ℕ) → IsDraft draft → IfOk (with_dimension day draft filter value) IsDraft
unfolding with_dimension
dimension_law day draft filter value is =
    pick IsDraft (not filter && bytes_eq (head_of value) (codes "dx")) _ _ (dx_law draft value is)
    (pick IsDraft (bytes_eq (head_of value) (codes "pe")) _ _ (periods_law day draft filter value is)
    (pick IsDraft (bytes_eq (head_of value) (codes "ou")) _ _ (units_law draft filter value is) tt))

pair_law : (day : ℤ) (draft : Draft) (name value : List ℕ) → IsDraft draft → IfOk (with_pair day draft name value) IsDraft
unfolding with_pair
pair_law day draft name value is =
    pick IsDraft (is_unsupported name) _ _ tt
    (pick IsDraft (bytes_eq name (codes "dimension")) _ _ (dimension_law day draft false value is)
    (pick IsDraft (bytes_eq name (codes "filter")) _ _ (dimension_law day draft true value is)
    (pick IsDraft (bytes_eq name (codes "skipMeta")) _ _ (record { dx = is.dx; periods = is.periods }) is)))

pub bound : {A B : Type 0} (P : A → Type 0) (Q : B → Type 0) (r : Result A Refusal) (next : A → Result B Refusal) → IfOk r P → ((x : A) → P x → IfOk (next x) Q)
    → IfOk (and_then r next) Q
bound P Q (Ok x) next one all = all x one
bound P Q (Err e) next one all = tt

pairs_law : (day : ℤ) (draft : Draft) (pairs : List (List ℕ × List ℕ)) → IsDraft draft → IfOk (with_pairs day draft pairs) IsDraft
pairs_law day draft [] is = is
pairs_law day draft (pair ∷ pairs) is =
    bound IsDraft IsDraft (with_pair day draft pair.0 pair.1) (λ next. with_pairs day next pairs) (pair_law day draft pair.0 pair.1 is) (λ next ok.
    pairs_law day next pairs ok)

parts_law : (dx : Option (List DxItem)) (periods : Option (Axis PeriodName)) (units : Option (Axis UnitItem)) (meta : Bool)
    → IfSome dx (AllByRecursion IsFormed) → IfSome periods (λ axis. 0 < length axis.items)
    → IfOk (and_then (or_refuse code.F11 [] dx) (λ dx. and_then (or_refuse code.F12 [] periods) (λ periods. and_then (or_refuse code.F13 [] units) (λ units.
    let form : Result Form Refusal = Ok (record { dx = dx; periods = periods; units = units; meta = meta }) in form)))) IsForm
parts_law None periods units meta formed filled = tt
parts_law (Some dx) None units meta formed filled = tt
parts_law (Some dx) (Some periods) None meta formed filled = tt
parts_law (Some dx) (Some periods) (Some units) meta formed filled = record { periods = filled; dx = formed }

whole_law : (draft : Draft) → IsDraft draft → IfOk (whole draft) IsForm
unfolding whole
whole_law draft is = parts_law draft.dx draft.periods draft.units draft.meta is.dx is.periods

-- the form of a text has a period, and its items have their forms
pub form_law : (day : ℤ) (text : List ℕ) → IfOk (form_of day text) IsForm
unfolding form_of
form_law day text =
    bound IsDraft IsForm (with_pairs day nothing (pairs_of text)) whole (pairs_law day nothing (pairs_of text) (record { dx = tt; periods = tt })) whole_law
