-- What a log holds under a key a write of it names.
use Rattle.std.proofs.Common.{◌≡◌, ◌∙◌, ℕ, ℤ, Bool, true, false, cond, List, [], ◌∷◌, inl, inr, Option, Some, None, map, refl, sym, ap}
use Rattle.std.specs.Cmp.Lexicographic.{same_text}
use Rattle.std.specs.List.{filter_map, cons_option}
use Rattle.std.specs.Option.{unwrap_or, option_or}
use Rattle.dh_changes.specs.declared.change.Write.{Write}
use Rattle.dh_changes.specs.declared.change.Write.TheVariants as write
use Rattle.dh_changes.specs.declared.keys.ValueKey.{ValueKey}
use Rattle.dh_changes.specs.declared.keys.RegKey.{RegKey}
use Rattle.dh_changes.specs.declared.tracker.Event.{Event}
use Rattle.dh_changes.specs.Keys.{same_value_key, same_reg_key}
use Rattle.dh_changes.proofs.KeyLemmas.{same_value_key-Decides, same_reg_key-Decides}
use Rattle.dh_changes.specs.declared.said.Said.{Said}
use Rattle.dh_changes.specs.Said.{same_id, said_by, last_said, of_event, of_registration, of_value}
use Rattle.dh_changes.specs.Facts.{facts_in}
use Rattle.table_build.specs.Log.{value_named, reg_named, event_named, values_named, regs_named, events_named}
use Rattle.table_build.proofs.KeyLemmas.{given-in}
use Rattle.table_build.proofs.MemberLemmas.{IsIn}

-- what is said last was said by a write
last-by : {K A : Type 0} (of : Said → Option (Option A)) (named : Write → Option K) (k : K)
    → ((w : Write) (a : A) → of (said_by w) ≡ Some (Some a) → named w ≡ Some k)
    → (writes : List Write) (a : A) → unwrap_or (last_said of (map said_by writes)) None ≡ Some a → IsIn k (filter_map named writes)
last-by {K = K} {A = A} of named k one [] a is = absurd (cc)
last-by {K = K} {A = A} of named k one (w ∷ ws) a is = by_rest (last_said of (map said_by ws)) refl is (λ a e. last-by of named k one ws a e)
  where
    beyond : (o : Option K) → IsIn k (filter_map named ws) → IsIn k (cons_option o (filter_map named ws))
    beyond (Some j) there = inr there
    beyond None there = there

    here : (o : Option (Option A)) → of (said_by w) ≡ o → unwrap_or o None ≡ Some a → IsIn k (cons_option (named w) (filter_map named ws))
    here (Some held) said e =
        let is_named = one w a (said ∙ ap Some e) in
        given-in named w k is_named (w ∷ ws) (inl refl)
    here None said e = absurd (cc)

    by_rest : (o : Option (Option A)) → last_said of (map said_by ws) ≡ o → unwrap_or (option_or o (of (said_by w))) None ≡ Some a
        → ((a : A) → unwrap_or (last_said of (map said_by ws)) None ≡ Some a → IsIn k (filter_map named ws))
        → IsIn k (cons_option (named w) (filter_map named ws))
    by_rest (Some held) last e rest = beyond (named w) (rest a (ap (λ o. unwrap_or o None) last ∙ e))
    by_rest None last e rest = here (of (said_by w)) refl e

passes : {A : Type 0} (b : Bool) (held : Option A) (a : A) → cond b (Some held) None ≡ Some (Some a) → b ≡ true
passes true held a e = refl
passes false held a e = absurd (cc)

value-by : (asked : ValueKey) (w : Write) (a : List ℕ) → of_value asked (said_by w) ≡ Some (Some a) → value_named w ≡ Some asked
value-by asked (write.ValueSet key value) a is = ap Some ((same_value_key-Decides key asked).0 (passes (same_value_key key asked) (Some value) a is))
value-by asked (write.ValueCleared key) a is = ap Some ((same_value_key-Decides key asked).0 (passes (same_value_key key asked) None a is))
value-by asked (write.EventWritten event) a is = absurd (let e = is in cc)
value-by asked (write.EventDeleted id) a is = absurd (let e = is in cc)
value-by asked (write.EnrollmentWritten enrollment) a is = absurd (let e = is in cc)
value-by asked (write.EnrollmentDeleted id) a is = absurd (let e = is in cc)
value-by asked (write.EntityWritten entity) a is = absurd (let e = is in cc)
value-by asked (write.EntityDeleted id) a is = absurd (let e = is in cc)
value-by asked (write.Approve key) a is = absurd (let e = is in cc)
value-by asked (write.Unapprove key) a is = absurd (let e = is in cc)
value-by asked (write.Accept key) a is = absurd (let e = is in cc)
value-by asked (write.Unaccept key) a is = absurd (let e = is in cc)
value-by asked (write.Complete key day) a is = absurd (let e = is in cc)
value-by asked (write.Uncomplete key) a is = absurd (let e = is in cc)

reg-by : (asked : RegKey) (w : Write) (a : ℤ) → of_registration asked (said_by w) ≡ Some (Some a) → reg_named w ≡ Some asked
reg-by asked (write.ValueSet key value) a is = absurd (let e = is in cc)
reg-by asked (write.ValueCleared key) a is = absurd (let e = is in cc)
reg-by asked (write.EventWritten event) a is = absurd (let e = is in cc)
reg-by asked (write.EventDeleted id) a is = absurd (let e = is in cc)
reg-by asked (write.EnrollmentWritten enrollment) a is = absurd (let e = is in cc)
reg-by asked (write.EnrollmentDeleted id) a is = absurd (let e = is in cc)
reg-by asked (write.EntityWritten entity) a is = absurd (let e = is in cc)
reg-by asked (write.EntityDeleted id) a is = absurd (let e = is in cc)
reg-by asked (write.Approve key) a is = absurd (let e = is in cc)
reg-by asked (write.Unapprove key) a is = absurd (let e = is in cc)
reg-by asked (write.Accept key) a is = absurd (let e = is in cc)
reg-by asked (write.Unaccept key) a is = absurd (let e = is in cc)
reg-by asked (write.Complete key day) a is = ap Some ((same_reg_key-Decides key asked).0 (passes (same_reg_key key asked) (Some day) a is))
reg-by asked (write.Uncomplete key) a is = ap Some ((same_reg_key-Decides key asked).0 (passes (same_reg_key key asked) None a is))

event-by : (asked : List ℕ) (w : Write) (a : Event) → of_event asked (said_by w) ≡ Some (Some a) → event_named w ≡ Some asked
event-by asked (write.ValueSet key value) a is = absurd (let e = is in cc)
event-by asked (write.ValueCleared key) a is = absurd (let e = is in cc)
event-by asked (write.EventWritten event) a is = ap Some (same_text event.id asked (sym (passes (same_id event.id asked) (Some event) a is)))
event-by asked (write.EventDeleted id) a is = ap Some (same_text id asked (sym (passes (same_id id asked) None a is)))
event-by asked (write.EnrollmentWritten enrollment) a is = absurd (let e = is in cc)
event-by asked (write.EnrollmentDeleted id) a is = absurd (let e = is in cc)
event-by asked (write.EntityWritten entity) a is = absurd (let e = is in cc)
event-by asked (write.EntityDeleted id) a is = absurd (let e = is in cc)
event-by asked (write.Approve key) a is = absurd (let e = is in cc)
event-by asked (write.Unapprove key) a is = absurd (let e = is in cc)
event-by asked (write.Accept key) a is = absurd (let e = is in cc)
event-by asked (write.Unaccept key) a is = absurd (let e = is in cc)
event-by asked (write.Complete key day) a is = absurd (let e = is in cc)
event-by asked (write.Uncomplete key) a is = absurd (let e = is in cc)

pub value-held : (writes : List Write) (key : ValueKey) (text : List ℕ) → (facts_in writes).value key ≡ Some text → IsIn key (values_named writes)
unfolding facts_in
value-held writes key text is = last-by (of_value key) value_named key (value-by key) writes text is

pub reg-held : (writes : List Write) (key : RegKey) (day : ℤ) → (facts_in writes).registration key ≡ Some day → IsIn key (regs_named writes)
unfolding facts_in
reg-held writes key day is = last-by (of_registration key) reg_named key (reg-by key) writes day is

pub event-held : (writes : List Write) (id : List ℕ) (event : Event) → (facts_in writes).event id ≡ Some event → IsIn id (events_named writes)
unfolding facts_in
event-held writes id event is = last-by (of_event id) event_named id (event-by id) writes event is
