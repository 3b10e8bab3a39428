-- What the writes of a verdict are: values of at most 1,024 bytes, and completions on a day that is told.
use Rattle.std.proofs.Common.{◌≡◌, ◌∙◌, ℕ, ◌+◌, ◌≤◌, Bool, true, false, cond, List, [], ◌∷◌, ◌++◌, length, Option, Some, None, refl, ap, sym, subst, arith}
use Rattle.std.proofs.Common.{Result, Ok, Err, IfOk}
use Rattle.std.specs.Prelude.{ℤ, pos, ◌&&◌, not, unwrap_or}
use Rattle.std.specs.Option.{option_map_or, option_or, is_none}
use Rattle.std.specs.List.{All, AllByRecursion}
use Rattle.std.proofs.lemmas.List.Elements.{All-from_recursion}
use Rattle.dh_base.specs.declared.codes.Code.{Code}
use Rattle.dh_base.specs.declared.codes.Code.TheVariants.{C11}
use Rattle.dh_base.specs.declared.memory.Memory.{Memory}
use Rattle.change_log.specs.Forms.{WriteFits}
use Rattle.dh_changes.specs.declared.keys.ValueKey.{ValueKey}
use Rattle.dh_changes.specs.declared.keys.RegKey.{RegKey}
use Rattle.dh_changes.specs.declared.change.Write.{Write}
use Rattle.dh_changes.specs.declared.change.Write.TheVariants as write
use Rattle.dh_metadata.specs.declared.held.Records.{Records}
use Rattle.dh_changes.specs.Facts.{Facts}
use Rattle.dh_changes.specs.declared.outcome.ImportStrategy.{ImportStrategy}
use Rattle.dh_changes.specs.declared.outcome.Verdict.{Verdict}
use Rattle.dh_changes.specs.declared.outcome.Who.{Who}
use Rattle.dh_periods.specs.Moment.{day_of}
use Rattle.import_forms.specs.declared.completion.Completion.{Completion}
use Rattle.import_forms.specs.declared.set.SetValue.{SetValue}
use Rattle.import_forms.specs.declared.set.ValueSet.{ValueSet}
use Rattle.value_import.specs.declared.place.Place.{Place}
use Rattle.value_import.specs.declared.place.ValuePlace.{ValuePlace}
use Rattle.value_import.specs.declared.judged.Judged.{Judged}
use Rattle.value_import.specs.declared.judged.Judged.TheVariants as judged
use Rattle.value_import.specs.Dates.{day_told}
use Rattle.value_import.specs.Rules.{Condition, first_of, place_conditions}
use Rattle.value_import.specs.Outcomes.{taken, finished, nothing}
use Rattle.value_import.specs.Said.{holds_value, holds_registration}
use Rattle.value_import.specs.Sizes.{IsTold, IsValueWrite}
use Rattle.value_import.specs.Values.{names_of, name_conditions, place_of, key_of, is_delete, has_value, is_idle_zero, stored, zeroed, accepted, judged_by}
use Rattle.value_import.specs.Values.{value_conditions, placed_conditions, judged_value}
use Rattle.value_import.specs.Completions.{reg_names_of, reg_name_conditions, reg_place_of, reg_key_of, reg_conditions, placed_reg_conditions, completed}
use Rattle.value_import.specs.Completions.{registered, judged_completion, completion_in, uncounted}
use Rattle.value_import.specs.Verdicts.{with_value, with_values, with_date, verdict_of, with_completion, with_completions, completions_verdict_of}
use Rattle.value_import.proofs.FirstLemmas.{first_of-append}
use Rattle.value_import.proofs.TextSizes.{value-small}
use Rattle.value_import.proofs.DayLemmas.{told-day}

-- what a value or a completion comes to writes such a write, if any
abbrev pub Writes : ℤ → Judged → Type 0
Writes today (judged.Refused code) = Unit {0}
Writes today judged.Ignored = Unit {0}
Writes today (judged.Imported w) = IsValueWrite today w
Writes today (judged.Updated w) = IsValueWrite today w
Writes today (judged.Deleted w) = IsValueWrite today w
Writes today (judged.Uncounted w) = IsValueWrite today w

-- ---- conditions

none-beyond : (xs ys : List Condition) → None ≡ first_of (xs ++ ys) → None ≡ first_of ys
none-beyond xs ys none = split (first_of xs) (first_of ys) (none ∙ first_of-append xs ys)
  where
    split : (a b : Option Code) → None ≡ option_or a b → None ≡ b
    split None b is = is
    split (Some code) b is = cc

none-here : (b : Bool) (code : Code) (rest : Option Code) → None ≡ cond b (Some code) rest → b ≡ false
none-here true code rest is = cc
none-here false code rest is = refl

by-judged : (today : ℤ) (first : Option Code) (j : Judged) → (None ≡ first → Writes today j) → Writes today (judged_by first j)
by-judged today (Some code) j writes = tt
by-judged today None j writes = writes refl

-- ---- values

stored-writes : (today : ℤ) (key : ValueKey) (held : Bool) (text : List ℕ) → length text ≤ 1024 → Writes today (stored key held text)
stored-writes today key true text small = small
stored-writes today key false text small = small

zeroed-writes : (today : ℤ) (key : ValueKey) (held : Bool) → Writes today (zeroed key held)
zeroed-writes today key true = tt
zeroed-writes today key false = tt

accepted-writes : (today : ℤ) (key : ValueKey) (held deletes has zero : Bool) (text : List ℕ) → (not deletes && not has) ≡ false
    → (has ≡ true → length text ≤ 1024)
    → Writes today (cond deletes (judged.Deleted (write.ValueCleared key)) (cond zero (zeroed key held) (stored key held text)))
accepted-writes today key held true has zero text fit small = tt
accepted-writes today key held false has true text fit small = zeroed-writes today key held
accepted-writes today key held false true false text fit small = stored-writes today key held text (small refl)
accepted-writes today key held false false false text fit small = cc

has-small : (r : Records) (element : ℕ) (text : Option (List ℕ)) → has_value r element text ≡ true → length (unwrap_or text []) ≤ 1024
unfolding has_value
has-small r element text has = value-small _ text has

value-writes : (facts : Facts) (r : Records) (who : Who) (today : ℤ) (chosen : ImportStrategy) (holds : ValueKey
    → Bool) (value : SetValue) (names : List Condition) (place : Option ValuePlace)
    → None ≡ first_of (names ++ option_map_or (λ (p : ValuePlace). placed_conditions facts r who today chosen (holds (key_of r p)) p value) place [])
    → Writes today (option_map_or (λ (p : ValuePlace). accepted r chosen (key_of r p) (holds (key_of r p)) p.element value) place judged.Ignored)
unfolding value_conditions accepted
value-writes facts r who today chosen holds value names None none = tt
value-writes facts r who today chosen holds value names (Some p) none =
    let own = none-beyond (place_conditions facts r who p.at) (value_conditions facts r who today chosen (holds (key_of r p)) p value)
    (none-beyond names (placed_conditions facts r who today chosen (holds (key_of r p)) p value) none) in
    accepted-writes today (key_of r p) (holds (key_of r p)) (is_delete chosen value) (has_value r p.element value.value)
    (is_idle_zero r p.element (unwrap_or value.value [])) (unwrap_or value.value [])
    (none-here (not (is_delete chosen value) && not (has_value r p.element value.value)) C11 _ own)
    (has-small r p.element value.value)

judged_value-writes : (facts : Facts) (r : Records) (who : Who) (today : ℤ) (set : ValueSet) (holds : ValueKey → Bool) (value : SetValue)
    → Writes today (judged_value facts r who today set holds value)
unfolding judged_value
judged_value-writes facts r who today set holds value =
    by-judged today _ _ (value-writes facts r who today set.params.strategy holds value (name_conditions (names_of r set value))
    (place_of (names_of r set value)))

-- ---- completions

completed-writes : (today : ℤ) (key : RegKey) (day : ℤ) (held : Bool) → IsTold today day → Writes today (completed key day held)
completed-writes today key day true told = told
completed-writes today key day false told = told

registered-writes : (today : ℤ) (key : RegKey) (done held : Bool) (text : Option (List ℕ)) (day : Option ℤ) → day_told today text ≡ day → is_none day ≡ false
    → Writes today (registered key (unwrap_or day (pos 0)) done held)
registered-writes today key false held text day told there = tt
registered-writes today key true held text None told there = cc
registered-writes today key true held text (Some day) told there = completed-writes today key day held (text, told)

reg-writes : (facts : Facts) (r : Records) (who : Who) (today : ℤ) (holds : RegKey → Bool) (asked : Completion) (names : List Condition) (place : Option Place)
    → None ≡ first_of (names ++ option_map_or (λ p. placed_reg_conditions facts r who (day_told today asked.date) asked.done (holds (reg_key_of r p)) p) place
    [])
    → Writes today (option_map_or (λ p. registered (reg_key_of r p) (unwrap_or (day_told today asked.date) (pos 0)) asked.done (holds (reg_key_of r p))) place
    judged.Ignored)
unfolding reg_conditions
reg-writes facts r who today holds asked names None none = tt
reg-writes facts r who today holds asked names (Some p) none =
    let own = none-beyond (place_conditions facts r who p) (reg_conditions (day_told today asked.date) asked.done (holds (reg_key_of r p)))
    (none-beyond names (placed_reg_conditions facts r who (day_told today asked.date) asked.done (holds (reg_key_of r p)) p) none) in
    registered-writes today (reg_key_of r p) asked.done (holds (reg_key_of r p)) asked.date (day_told today asked.date) refl
    (none-here (is_none (day_told today asked.date)) C11 _ own)

judged_completion-writes : (facts : Facts) (r : Records) (who : Who) (today : ℤ) (holds : RegKey → Bool) (asked : Completion)
    → Writes today (judged_completion facts r who today holds asked)
unfolding judged_completion
judged_completion-writes facts r who today holds asked =
    by-judged today _ _ (reg-writes facts r who today holds asked (reg_name_conditions (reg_names_of r asked)) (reg_place_of (reg_names_of r asked)))

uncounted-writes : (today : ℤ) (j : Judged) → Writes today j → Writes today (uncounted j)
uncounted-writes today (judged.Refused code) writes = tt
uncounted-writes today judged.Ignored writes = tt
uncounted-writes today (judged.Imported w) writes = writes
uncounted-writes today (judged.Updated w) writes = writes
uncounted-writes today (judged.Deleted w) writes = writes
uncounted-writes today (judged.Uncounted w) writes = writes

-- ---- verdicts

all-end : (today : ℤ) (ws : List Write) (w : Write) → AllByRecursion (IsValueWrite today) ws → IsValueWrite today w
    → AllByRecursion (IsValueWrite today) (ws ++ w ∷ [])
all-end today [] w all is = (is, tt)
all-end today (x ∷ ws) w all is = (all.0, all-end today ws w all.1 is)

taken-writes : (today : ℤ) (index : ℕ) (j : Judged) (v : Verdict) → AllByRecursion (IsValueWrite today) v.writes → Writes today j
    → AllByRecursion (IsValueWrite today) (taken index j v).writes
taken-writes today index (judged.Refused code) v all writes = all
taken-writes today index judged.Ignored v all writes = all
taken-writes today index (judged.Imported w) v all writes = all-end today v.writes w all writes
taken-writes today index (judged.Updated w) v all writes = all-end today v.writes w all writes
taken-writes today index (judged.Deleted w) v all writes = all-end today v.writes w all writes
taken-writes today index (judged.Uncounted w) v all writes = all-end today v.writes w all writes

with_value-writes : (facts : Facts) (r : Records) (who : Who) (today : ℤ) (set : ValueSet) (index : ℕ) (value : SetValue) (v : Verdict)
    → AllByRecursion (IsValueWrite today) v.writes → AllByRecursion (IsValueWrite today) (with_value facts r who today set index value v).writes
unfolding with_value
with_value-writes facts r who today set index value v all =
    taken-writes today index (judged_value facts r who today set (holds_value facts v.writes) value) v all
    (judged_value-writes facts r who today set (holds_value facts v.writes) value)

with_values-writes : (facts : Facts) (r : Records) (who : Who) (today : ℤ) (set : ValueSet) (index : ℕ) (values : List SetValue) (v : Verdict)
    → AllByRecursion (IsValueWrite today) v.writes → AllByRecursion (IsValueWrite today) (with_values facts r who today set index values v).writes
with_values-writes facts r who today set index [] v all = all
with_values-writes facts r who today set index (value ∷ more) v all =
    with_values-writes facts r who today set (index + 1) more (with_value facts r who today set index value v)
    (with_value-writes facts r who today set index value v all)

dated-writes : (today : ℤ) (date : Option (List ℕ)) (index : ℕ) (j : Judged) (v : Verdict) → AllByRecursion (IsValueWrite today) v.writes → Writes today j
    → AllByRecursion (IsValueWrite today) (option_map_or (λ (d : List ℕ). taken index j v) date v).writes
dated-writes today None index j v all writes = all
dated-writes today (Some date) index j v all writes = taken-writes today index j v all writes

with_date-writes : (facts : Facts) (r : Records) (who : Who) (today : ℤ) (set : ValueSet) (v : Verdict)
    → AllByRecursion (IsValueWrite today) v.writes → AllByRecursion (IsValueWrite today) (with_date facts r who today set v).writes
unfolding with_date
with_date-writes facts r who today set v all =
    dated-writes today set.complete_date (length set.values)
    (uncounted (judged_completion facts r who today (holds_registration facts v.writes) (completion_in set))) v all
    (uncounted-writes today _ (judged_completion-writes facts r who today (holds_registration facts v.writes) (completion_in set)))

finished-writes : (today : ℤ) (dry : Bool) (v : Verdict) → AllByRecursion (IsValueWrite today) v.writes
    → AllByRecursion (IsValueWrite today) (finished dry v).writes
finished-writes today true v all = tt
finished-writes today false v all = all

-- the writes of the verdict on a data value set
verdict_of-writes : (facts : Facts) (r : Records) (who : Who) (moment : ℤ) (set : ValueSet)
    → AllByRecursion (IsValueWrite (day_of moment)) (verdict_of facts r who moment set).writes
unfolding verdict_of
verdict_of-writes facts r who moment set =
    finished-writes (day_of moment) set.params.dry _
    (with_date-writes facts r who (day_of moment) set _ (with_values-writes facts r who (day_of moment) set 0 set.values nothing tt))

with_completions-writes : (facts : Facts) (r : Records) (who : Who) (today : ℤ) (index : ℕ) (list : List Completion) (v : Verdict)
    → AllByRecursion (IsValueWrite today) v.writes → AllByRecursion (IsValueWrite today) (with_completions facts r who today index list v).writes
unfolding with_completion
with_completions-writes facts r who today index [] v all = all
with_completions-writes facts r who today index (asked ∷ more) v all =
    with_completions-writes facts r who today (index + 1) more (with_completion facts r who today index asked v)
    (taken-writes today index (judged_completion facts r who today (holds_registration facts v.writes) asked) v all
    (judged_completion-writes facts r who today (holds_registration facts v.writes) asked))

-- the writes of the verdict on completions
completions_verdict_of-writes : (facts : Facts) (r : Records) (who : Who) (moment : ℤ) (list : List Completion)
    → AllByRecursion (IsValueWrite (day_of moment)) (completions_verdict_of facts r who moment list).writes
unfolding completions_verdict_of
completions_verdict_of-writes facts r who moment list = with_completions-writes facts r who (day_of moment) 0 list nothing tt

dry : (v : Verdict) (is : Bool) → is ≡ true → (finished is v).writes ≡ []
dry v true is = refl
dry v false is = cc

-- a dry run writes nothing
verdict_of-dry : (facts : Facts) (r : Records) (who : Who) (moment : ℤ) (set : ValueSet) → set.params.dry ≡ true
    → (verdict_of facts r who moment set).writes ≡ []
unfolding verdict_of
verdict_of-dry facts r who moment set is = dry _ set.params.dry is

-- ---- the bytes of a change

-- such a write fits them
fits-bytes : (moment : ℤ) (w : Write) → IsValueWrite (day_of moment) w → WriteFits w
fits-bytes moment (write.ValueSet key value) small = omega (arith, small)
fits-bytes moment (write.ValueCleared key) is = tt
fits-bytes moment (write.Complete key day) told = told-day moment day told.0 told.1
fits-bytes moment (write.Uncomplete key) is = tt
fits-bytes moment (write.EventWritten event) is = absurd is
fits-bytes moment (write.EventDeleted id) is = tt
fits-bytes moment (write.EnrollmentWritten enrollment) is = absurd is
fits-bytes moment (write.EnrollmentDeleted id) is = tt
fits-bytes moment (write.EntityWritten entity) is = absurd is
fits-bytes moment (write.EntityDeleted id) is = tt
fits-bytes moment (write.Approve key) is = tt
fits-bytes moment (write.Unapprove key) is = tt
fits-bytes moment (write.Accept key) is = tt
fits-bytes moment (write.Unaccept key) is = tt

each-fits : (moment : ℤ) (ws : List Write) → AllByRecursion (IsValueWrite (day_of moment)) ws → AllByRecursion WriteFits ws
each-fits moment [] all = tt
each-fits moment (w ∷ ws) all = (fits-bytes moment w all.0, each-fits moment ws all.1)

-- ---- a verdict that is told

of-verdict : (P : List Write → Type 0) (v told : Verdict) → v ≡ told → P told.writes → P v.writes
of-verdict P v told is holds = subst (λ (w : Verdict). P w.writes) (sym is) holds

pub set-writes : (facts : Facts) (r : Records) (who : Who) (moment : ℤ) (set : ValueSet) (result : Result Verdict Memory)
    → IfOk result (λ v. v ≡ verdict_of facts r who moment set)
    → IfOk result (λ v. All (IsValueWrite (day_of moment)) v.writes)
set-writes facts r who moment set (Ok v) is =
    of-verdict (All (IsValueWrite (day_of moment))) v _ is (All-from_recursion (IsValueWrite (day_of moment)) _ (verdict_of-writes facts r who moment set))
set-writes facts r who moment set (Err memory) is = tt

pub set-fits : (facts : Facts) (r : Records) (who : Who) (moment : ℤ) (set : ValueSet) (result : Result Verdict Memory)
    → IfOk result (λ v. v ≡ verdict_of facts r who moment set)
    → IfOk result (λ v. All WriteFits v.writes)
set-fits facts r who moment set (Ok v) is =
    of-verdict (All WriteFits) v _ is (All-from_recursion WriteFits _ (each-fits moment _ (verdict_of-writes facts r who moment set)))
set-fits facts r who moment set (Err memory) is = tt

pub set-dry : (facts : Facts) (r : Records) (who : Who) (moment : ℤ) (set : ValueSet) (result : Result Verdict Memory)
    → IfOk result (λ v. v ≡ verdict_of facts r who moment set)
    → set.params.dry ≡ true → IfOk result (λ v. v.writes ≡ [])
set-dry facts r who moment set (Ok v) is dry = ap (λ (w : Verdict). w.writes) is ∙ verdict_of-dry facts r who moment set dry
set-dry facts r who moment set (Err memory) is dry = tt

pub list-writes : (facts : Facts) (r : Records) (who : Who) (moment : ℤ) (list : List Completion) (result : Result Verdict Memory)
    → IfOk result (λ v. v ≡ completions_verdict_of facts r who moment list)
    → IfOk result (λ v. All (IsValueWrite (day_of moment)) v.writes)
list-writes facts r who moment list (Ok v) is =
    of-verdict (All (IsValueWrite (day_of moment))) v _ is
    (All-from_recursion (IsValueWrite (day_of moment)) _ (completions_verdict_of-writes facts r who moment list))
list-writes facts r who moment list (Err memory) is = tt

pub list-fits : (facts : Facts) (r : Records) (who : Who) (moment : ℤ) (list : List Completion) (result : Result Verdict Memory)
    → IfOk result (λ v. v ≡ completions_verdict_of facts r who moment list)
    → IfOk result (λ v. All WriteFits v.writes)
list-fits facts r who moment list (Ok v) is =
    of-verdict (All WriteFits) v _ is (All-from_recursion WriteFits _ (each-fits moment _ (completions_verdict_of-writes facts r who moment list)))
list-fits facts r who moment list (Err memory) is = tt
