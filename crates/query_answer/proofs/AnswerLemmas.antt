-- From the rows that were written to the answer.
use Rattle.std.proofs.Common.{◌≡◌, ℕ, ◌+◌, ◌<◌, Bool, true, false, List, [], ◌∷◌, length, map, Option, Some, None, Ok, Err, refl, sym, ap, subst}
use Rattle.std.proofs.Common.{arith, suc, zero-add}
use Rattle.std.proofs.lemmas.Bool.{and_parts}
use Rattle.std.specs.List.{flat_map, list_all, All, AllByRecursion}
use Rattle.std.specs.Option.{option_map}
use Rattle.std.proofs.lemmas.List.Elements.{All-nil, All-cons, All-append}
use Rattle.serde_json.specs.Written.{compact_text}
use Rattle.dh_periods.specs.declared.name.PeriodName.{PeriodName}
use Rattle.dh_metadata.specs.declared.held.Records.{Records}
use Rattle.dh_metadata.specs.Linked.{AreBelow, IsBelow}
use Rattle.dh_metadata.specs.Objects.{count_of}
use Rattle.cell_values.specs.Seen.{SeenRecords}
use Rattle.query_answer.specs.declared.arithmetic.CellValue.{CellValue}
use Rattle.query_answer.specs.declared.arithmetic.CellValue.TheVariants as cell
use Rattle.query_lang.specs.declared.plain.Dx.{Dx}
use Rattle.query_lang.specs.declared.plain.DxKind.{DxKind}
use Rattle.query_lang.specs.declared.plain.DxKind.TheVariants as dx_kind
use Rattle.query_lang.specs.declared.plain.Query.{Query}
use Rattle.query_answer.specs.Body.{body_of, IsAnswer}
use Rattle.query_answer.specs.Names.{IsThere, kind_of}
use Rattle.query_answer.specs.BodyRows.{IsRow}
use Rattle.query_answer.specs.Asked.{can_answer_dx, CanAnswer}
use Rattle.query_answer.specs.Rows.{Slot, alone, slots, period_slots, unit_slots, row_with, slot_value, unit_rows, period_rows, dx_rows, rows_from}
use Rattle.query_answer.specs.Answer.{wide_dx, answer_with, answer_of}
use Rattle.query_answer.proofs.AskedLemmas.{element_there, indicator_there, rate_there, program_there}

all_flat : {X Y : Type 0} (P : X → Type 0) (Q : Y → Type 0) (f : X → List Y) (xs : List X) → ((x : X) → P x → All Q (f x)) → AllByRecursion P xs
    → All Q (flat_map f xs)
all_flat P Q f [] each all = All-nil Q
all_flat P Q f (x ∷ xs) each all = All-append Q (f x) (flat_map f xs) (each x all.0) (all_flat P Q f xs each all.1)

each_alone : (end : ℕ) (units : List ℕ) → AreBelow end units → AllByRecursion (λ (slot : Slot ℕ). IsBelow end slot.label) (map alone units)
each_alone end [] below = tt
each_alone end (unit ∷ units) below =
    (below.each 0 0 (omega arith), each_alone end units (record { each = λ k d within. below.each (suc k) d (omega arith) }))

units_there : (end : ℕ) (filter : Bool) (units : List ℕ) → AreBelow end units → AllByRecursion (λ (slot : Slot ℕ). IsBelow end slot.label) (slots filter units)
units_there end true units below = (tt, tt)
units_there end false units below = each_alone end units below

row_is : (r : Records) (asked : List Dx) (place : ℕ) (dx : Dx) (period : Slot PeriodName) (unit : Slot ℕ) (value : CellValue)
    → place < length asked → IsBelow (length r.organisation_units) unit.label → All (IsRow r asked) (row_with r place dx period unit value)
row_is r asked place dx period unit (cell.Number x) within there =
    All-cons (IsRow r asked) _ [] (record { dx = within; unit = there }) (All-nil (IsRow r asked))
row_is r asked place dx period unit cell.None within there = All-nil (IsRow r asked)
row_is r asked place dx period unit cell.Wide within there = All-nil (IsRow r asked)

period_are : (r : Records) (shown : SeenRecords) (asked : List Dx) (place : ℕ) (dx : Dx) (units : List (Slot ℕ)) (period : Slot PeriodName)
    → place < length asked → AllByRecursion (λ (slot : Slot ℕ). IsBelow (length r.organisation_units) slot.label) units
    → All (IsRow r asked) (period_rows r shown place dx units period)
unfolding period_rows unit_rows
period_are r shown asked place dx units period within there =
    all_flat (λ (slot : Slot ℕ). IsBelow (length r.organisation_units) slot.label) (IsRow r asked) _ units
    (λ unit one. row_is r asked place dx period unit (slot_value r shown dx period unit) within one) there

any_slot : (periods : List (Slot PeriodName)) → AllByRecursion (λ (slot : Slot PeriodName). Unit {0}) periods
any_slot [] = tt
any_slot (x ∷ xs) = (tt, any_slot xs)

dx_are : (r : Records) (shown : SeenRecords) (query : Query) (asked : List Dx) (place : ℕ) (dx : Dx) → place < length asked
    → AreBelow (length r.organisation_units) query.units.items → All (IsRow r asked) (dx_rows r shown query place dx)
unfolding dx_rows
dx_are r shown query asked place dx within below =
    all_flat (λ (slot : Slot PeriodName). Unit {0}) (IsRow r asked) _ (period_slots query)
    (λ period one. period_are r shown asked place dx (unit_slots query) period within (units_there _ query.units.filter query.units.items below))
    (any_slot (period_slots query))

rows_are : (r : Records) (shown : SeenRecords) (query : Query) (asked : List Dx) (place : ℕ) (more : List Dx) → place + length more ≡ length asked
    → AreBelow (length r.organisation_units) query.units.items → All (IsRow r asked) (rows_from r shown query place more)
rows_are r shown query asked place [] ends below = All-nil (IsRow r asked)
rows_are r shown query asked place (dx ∷ more) ends below =
    All-append (IsRow r asked) (dx_rows r shown query place dx) (rows_from r shown query (place + 1) more)
    (dx_are r shown query asked place dx (omega arith) below)
    (rows_are r shown query asked (place + 1) more (omega arith) below)

there_by : (r : Records) (dx : Dx) (kind : DxKind) → dx.kind ≡ kind → can_answer_dx r dx ≡ true → IsThere r dx
there_by r dx dx_kind.Element is can =
    subst (λ k. dx.number < count_of r (kind_of k)) (sym is) (element_there r dx can is)
there_by r dx dx_kind.Indicator is can =
    subst (λ k. dx.number < count_of r (kind_of k)) (sym is) (indicator_there r dx can is)
there_by r dx dx_kind.ProgramIndicator is can =
    subst (λ k. dx.number < count_of r (kind_of k)) (sym is) (program_there r dx can is)
there_by r dx (dx_kind.Rate rate) is can =
    subst (λ k. dx.number < count_of r (kind_of k)) (sym is) (rate_there r dx rate can is)

are_there : (r : Records) (asked : List Dx) → list_all (can_answer_dx r) asked ≡ true → All (IsThere r) asked
are_there r [] can = All-nil (IsThere r)
are_there r (dx ∷ more) can =
    let parts = and_parts (can_answer_dx r dx) _ can in
    All-cons (IsThere r) dx more (there_by r dx dx.kind refl parts.0) (are_there r more parts.1)

-- the rows of a query that can be answered make a body
pub is_answer : (r : Records) (shown : SeenRecords) (query : Query) → CanAnswer r query → IsAnswer r query (rows_from r shown query 0 query.dx)
is_answer r shown query can = record {
  dx = are_there r query.dx can.dx;
  units = can.units;
  rows = rows_are r shown query query.dx 0 query.dx (zero-add (length query.dx)) can.units;
}

wide_with : (r : Records) (query : Query) (shown : SeenRecords) (found : Option Dx) (id : List ℕ) → Some id ≡ option_map (λ (dx : Dx). dx.text) found
    → answer_with r query shown found ≡ Err id
wide_with r query shown None id e = absurd (cc)
wide_with r query shown (Some dx) id e = cc

-- the first dx item with a cell that is too wide is told
pub wide_answer : (r : Records) (query : Query) (shown : SeenRecords) (id : List ℕ) → Some id ≡ option_map (λ (dx : Dx). dx.text) (wide_dx r query shown)
    → answer_of r query shown ≡ Err id
unfolding answer_of
wide_answer r query shown id e = wide_with r query shown (wide_dx r query shown) id e

body_with : (r : Records) (query : Query) (shown : SeenRecords) (found : Option Dx) (text : List ℕ) → None ≡ option_map (λ (dx : Dx). dx.text) found
    → text ≡ compact_text (body_of r query (rows_from r shown query 0 query.dx)) → answer_with r query shown found ≡ Ok text
body_with r query shown None text e is = ap Ok (sym is)
body_with r query shown (Some dx) text e is = absurd (cc)

-- where there is none, the body is written
pub body_answer : (r : Records) (query : Query) (shown : SeenRecords) (text : List ℕ) → None ≡ option_map (λ (dx : Dx). dx.text) (wide_dx r query shown)
    → text ≡ compact_text (body_of r query (rows_from r shown query 0 query.dx)) → answer_of r query shown ≡ Ok text
unfolding answer_of
body_answer r query shown text e is = body_with r query shown (wide_dx r query shown) text e is
