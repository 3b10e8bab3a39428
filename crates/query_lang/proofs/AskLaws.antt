-- What holds of every query that is read.
use Rattle.std.proofs.Common.{◌≡◌, ℕ, ℤ, ◌<◌, Bool, true, false, cond, List, [], ◌∷◌, length, nat_lt, Option, None, Some, IfSome, option_map}
use Rattle.std.proofs.Common.{option_and_then, Result, Ok, Err, IfOk, refl, subst, arith, ◌==◌}
use Rattle.std.specs.List.{AllByRecursion}
use Rattle.std.specs.Option.{option_or}
use Rattle.std.specs.Fmt.{decimal}
use Rattle.dh_base.specs.Memory.{Answers}
use Rattle.dh_base.specs.declared.codes.Code.TheVariants as code
use Rattle.dh_base.specs.declared.codes.Refusal.{Refusal}
use Rattle.dh_sharing.specs.declared.access.Right.TheVariants.{Read}
use Rattle.dh_metadata.specs.declared.held.Records.{Records}
use Rattle.dh_metadata.specs.declared.kind.Kind.{Kind}
use Rattle.dh_metadata.specs.declared.kind.Kind.TheVariants as kind
use Rattle.dh_metadata.specs.Approval.{unit_rows}
use Rattle.dh_metadata.specs.Objects.{count_of, find_of}
use Rattle.dh_metadata.specs.Users.{may_of, view_units_of}
use Rattle.dh_metadata.proofs.IdLemmas.{found_below}
use Rattle.query_lang.specs.declared.plain.DxKind.{DxKind}
use Rattle.query_lang.specs.declared.plain.DxKind.TheVariants as dx
use Rattle.query_lang.specs.declared.plain.Dx.{Dx}
use Rattle.query_lang.specs.declared.plain.Query.{Query}
use Rattle.query_lang.specs.declared.plain.QueryFault.{QueryFault}
use Rattle.query_lang.specs.declared.item.DxForm.{DxForm}
use Rattle.query_lang.specs.declared.item.DxForm.TheVariants as form
use Rattle.query_lang.specs.declared.item.DxItem.{DxItem}
use Rattle.query_lang.specs.declared.form.Form.{Form}
use Rattle.query_lang.specs.Form.{form_of}
use Rattle.query_lang.specs.Items.{dx_form}
use Rattle.query_lang.specs.Given.{cause_of, or_refuse, refusal}
use Rattle.query_lang.specs.declared.part.Part.{Part}
use Rattle.query_lang.specs.Walk.{AreIn}
use Rattle.query_lang.specs.Choice.{chosen_units}
use Rattle.query_lang.proofs.RangeLemmas.{chosen_in}
use Rattle.query_lang.specs.declared.named.Found.{Found}
use Rattle.query_lang.specs.Each.{each_of}
use Rattle.query_lang.specs.Named.{readable, alone, object_named, combo_named, is_combo_of, operand_named, named, dx_from}
use Rattle.query_lang.specs.Named.{dx_of}
use Rattle.query_lang.specs.Units.{part_of, members_of, units_of}
use Rattle.query_lang.specs.Query.{cells_of, within, assembled, named_in, query_from, query_of}
use Rattle.query_lang.specs.Askable.{IsFormed, IsForm, kind_of, IsSeen, IsAsked, IsAskable}
use Rattle.query_lang.proofs.FormLaws.{bound, form_law}
use Rattle.query_lang.proofs.TextLaws.{form_utf8}
use Rattle.query_lang.proofs.ViewLemmas.{rows_length}

-- what passed a test is below the end and passes it
passed : (end : ℕ) (test : ℕ → Bool) (o : Option ℕ) → IfSome o (λ n. n < end)
    → IfSome (option_and_then (λ n. cond (test n) (Some n) None) o) (λ n. (n < end) × (test n ≡ true))
passed end test None below = tt
passed end test (Some n) below =
    elim (test n) as (λ b. test n ≡ b → IfSome (cond b (Some n) None) (λ n. (n < end) × (test n ≡ true))) [ true ↦ λ is. (below, is) | false ↦ λ is. tt ] refl

readable_law : (r : Records) (user : ℕ) (kind : Kind) (id : List ℕ)
    → IfSome (readable r user kind id) (λ n. (n < count_of r kind) × (may_of r user Read kind n ≡ true))
unfolding readable
readable_law r user kind id = passed (count_of r kind) (may_of r user Read kind) (find_of r kind id) (found_below r kind id)

alone_law : (r : Records) (user : ℕ) (k : DxKind) (o : Option ℕ) → IfSome o (λ n. (n < count_of r (kind_of k)) × (may_of r user Read (kind_of k) n ≡ true))
    → IfSome (option_map (alone k) o) (IsSeen r user)
alone_law r user k None seen = tt
alone_law r user k (Some n) seen = record { in_range = seen.0; readable = seen.1; part = tt }

or_law : {A : Type 0} (P : A → Type 0) (x y : Option A) → IfSome x P → IfSome y P → IfSome (option_or x y) P
or_law P None y first other = other
or_law P (Some x) y first other = first

object_law : (r : Records) (user : ℕ) (id : List ℕ) → IfSome (object_named r user id) (IsSeen r user)
unfolding object_named
object_law r user id =
    or_law (IsSeen r user) _ _ (alone_law r user dx.Element (readable r user kind.DataElement id) (readable_law r user kind.DataElement id))
    (or_law (IsSeen r user) _ _ (alone_law r user dx.Indicator (readable r user kind.Indicator id) (readable_law r user kind.Indicator id))
    (alone_law r user dx.ProgramIndicator (readable r user kind.ProgramIndicator id) (readable_law r user kind.ProgramIndicator id)))

combo_law : (r : Records) (n : ℕ) (id : List ℕ) → IfSome (combo_named r n id) (λ part. (part < length r.category_option_combos) × (is_combo_of r n part ≡ true))
unfolding combo_named
combo_law r n id =
    passed (count_of r kind.CategoryOptionCombo) (is_combo_of r n) (find_of r kind.CategoryOptionCombo id) (found_below r kind.CategoryOptionCombo id)

parted : (r : Records) (user n : ℕ) (test : ℕ → Bool) (o : Option ℕ) → (n < length r.data_elements) × (may_of r user Read kind.DataElement n ≡ true)
    → IfSome o (λ part. (part < length r.category_option_combos) × (test part ≡ true))
    → IfSome (option_map (λ part. let found : Found = record { kind = dx.Element; number = n; part = Some part } in found) o) (IsSeen r user)
parted r user n test None seen below = tt
parted r user n test (Some part) seen below = record { in_range = seen.0; readable = seen.1; part = below.0 }

operand_by : (r : Records) (user : ℕ) (combo : List ℕ) (o : Option ℕ)
    → IfSome o (λ n. (n < length r.data_elements) × (may_of r user Read kind.DataElement n ≡ true))
    → IfSome (option_and_then (λ n. option_map (λ part. let found : Found =
    record { kind = dx.Element; number = n; part = Some part } in found) (combo_named r n combo)) o) (IsSeen r user)
operand_by r user combo None seen = tt
operand_by r user combo (Some n) seen = parted r user n (is_combo_of r n) (combo_named r n combo) seen (combo_law r n combo)

operand_law : (r : Records) (user : ℕ) (element combo : List ℕ) → IfSome (operand_named r user element combo) (IsSeen r user)
unfolding operand_named
operand_law r user element combo = operand_by r user combo (readable r user kind.DataElement element) (readable_law r user kind.DataElement element)

named_law : (r : Records) (user : ℕ) (f : DxForm) → IfSome (named r user f) (IsSeen r user)
named_law r user (form.Object id) = object_law r user id
named_law r user (form.Operand element combo) = operand_law r user element combo
named_law r user (form.Rate set figure) = alone_law r user (dx.Rate figure) (readable r user kind.DataSet set) (readable_law r user kind.DataSet set)

offered_law : (r : Records) (user : ℕ) (text : List ℕ) (f : DxForm) (o : Option Found) → dx_form text ≡ Some f → named r user f ≡ o → IfSome o (IsSeen r user)
    → IfOk (or_refuse code.F14 text (option_map (λ (found : Found). dx_from found text) o)) (IsAsked r user)
offered_law r user text f None formed is seen = tt
offered_law r user text f (Some n) formed is seen =
    record { form = f; text = formed; named = is; seen = seen; utf8 = form_utf8 text f formed }

dx_law : (r : Records) (user : ℕ) (item : DxItem) → IsFormed item → IfOk (dx_of r user item) (IsAsked r user)
unfolding dx_of
dx_law r user item formed = offered_law r user item.text item.form (named r user item.form) formed refl (named_law r user item.form)

each_law : {A B : Type 0} (P : A → Type 0) (Q : B → Type 0) (f : A → Result B Refusal) → ((x : A) → P x → IfOk (f x) Q)
    → (xs : List A) → AllByRecursion P xs → IfOk (each_of f xs) (AllByRecursion Q)
each_law P Q f one [] all = tt
each_law P Q f one (x ∷ xs) all =
    bound Q (AllByRecursion Q) (f x) _ (one x all.0) (λ y ok.
    bound (AllByRecursion Q) (AllByRecursion Q) (each_of f xs) _ (each_law P Q f one xs all.1) (λ ys oks. (ok, oks)))

units_in : (r : Records) (user : ℕ) (parts : List Part) → AreIn (length r.organisation_units) (units_of r user parts)
unfolding units_of
units_in r user parts =
    let P : ℕ → Type 0 = λ end. AreIn end (chosen_units (unit_rows r) (view_units_of r user) (members_of r parts) parts) in
    subst P (rows_length r) (chosen_in (unit_rows r) (view_units_of r user) (members_of r parts) parts)

filled : {A : Type 0} (xs : List A) → (length xs == 0) ≡ false → 0 < length xs
filled [] some = absurd (cc)
filled (x ∷ xs) some = omega arith

within_law : (r : Records) (user most : ℕ) (query : Query) → 0 < length query.periods.items → AreIn (length r.organisation_units) query.units.items
    → AllByRecursion (IsAsked r user) query.dx → IfOk (within most query) (IsAskable r user)
unfolding within
within_law r user most query periods units asked =
    elim (length query.units.items == 0) as (λ b. (length query.units.items == 0) ≡ b
    → IfOk (let q : Result Query Refusal =
    cond b (Err (refusal code.F13 [])) (cond (nat_lt most (cells_of query)) (Err (refusal code.F16 (decimal (cells_of query)))) (Ok query)) in q)
    (IsAskable r user)) [
      | true ↦ λ none. tt
      | false ↦ λ some. elim (nat_lt most (cells_of query)) as (λ b.
          IfOk (let q : Result Query Refusal = cond b (Err (refusal code.F16 (decimal (cells_of query)))) (Ok query) in q) (IsAskable r user)) [
            | true ↦ tt
            | false ↦ record { periods = periods; units = filled query.units.items some; in_range = units; dx = asked }
          ]
    ] refl

ok_always : {A : Type 0} (r : Result A Refusal) → IfOk r (λ _. Unit {0})
ok_always (Ok x) = tt
ok_always (Err e) = tt

-- what is named may be asked
abbrev AreAsked : Records → ℕ → List Dx × List ℕ → Type 0
AreAsked r user found =
    (AllByRecursion (IsAsked r user) found.0) × (AreIn (length r.organisation_units) found.1)

named_in_law : (r : Records) (user : ℕ) (f : Form) → IsForm f → IfOk (named_in r user f) (AreAsked r user)
unfolding named_in
named_in_law r user f is =
    bound (AllByRecursion (IsAsked r user)) (AreAsked r user) (each_of (dx_of r user) f.dx) _
    (each_law IsFormed (IsAsked r user) (dx_of r user) (dx_law r user) f.dx is.dx) (λ dx asked.
    bound (λ _. Unit {0}) (AreAsked r user) (each_of (part_of r user) f.units.items) _ (ok_always _) (λ parts _. (asked, units_in r user parts)))

from_law : (r : Records) (user cells : ℕ) (f : Form) → IsForm f → IfOk (query_from r user cells f) (IsAskable r user)
unfolding query_from
from_law r user cells f is =
    bound (AreAsked r user) (IsAskable r user) (named_in r user f) _ (named_in_law r user f is) (λ found asked.
    within_law r user cells (assembled f found.0 found.1) is.periods asked.1 asked.0)

-- a query that is read may be answered
pub query_law : (r : Records) (user : ℕ) (day : ℤ) (cells : ℕ) (text : List ℕ) → IfOk (query_of r user day cells text) (IsAskable r user)
unfolding query_of
query_law r user day cells text = bound IsForm (IsAskable r user) (form_of day text) (query_from r user cells) (form_law day text) (from_law r user cells)

-- the same of the query that was read
pub read_law : (r : Records) (user : ℕ) (day : ℤ) (cells : ℕ) (text : List ℕ) (result : Result Query QueryFault)
    → Answers cause_of (query_of r user day cells text) result → IfOk result (IsAskable r user)
read_law r user day cells text (Ok query) is =
    let P : Result Query Refusal → Type 0 = λ q. IfOk q (IsAskable r user) in
    subst P is (query_law r user day cells text)
read_law r user day cells text (Err fault) is = tt
