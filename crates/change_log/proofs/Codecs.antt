-- Each field that is read was written so, and what was written is read again.
use Rattle.std.proofs.Common.{◌≡◌, ◌∙◌, ℕ, ◌^◌, ◌<◌, Bool, true, false, cond, List, ◌++◌, length, Option, Some, None, refl, sym, ap, subst, arith, ℤ, pos}
use Rattle.std.proofs.Common.{w8, w16, w32, w64, FitsSigned, append_assoc}
use Rattle.std.specs.Prelude.{nat_lt, ◌==◌, bytes_eq, int_le, neg_ℤ, option_and_then, option_map, IfSome}
use Rattle.std.specs.Ordering.{int_eq}
use Rattle.std.specs.List.{flat_map, All}
use Rattle.std.proofs.lemmas.Bool.{and_parts, eqb-true, eq-eqb, ltb-true, lt-ltb}
use Rattle.std.proofs.lemmas.Bool.Decides.{Decides-int_eq, nat_tests}
use Rattle.std.proofs.lemmas.Slice.Eq.{bytes_eq-Decides}
use Rattle.std.proofs.lemmas.List.Elements.{All-from_recursion, recursion_from_All}
use Rattle.std.proofs.Math.Facts.{sfits_lit}
use Rattle.jiff_core.proofs.SignedLemmas.{signed_arith}
use borrow.Author.Differences.{le-true}
use Rattle.dh_periods.specs.declared.kind.PeriodType.{PeriodType}
use Rattle.dh_periods.specs.declared.kind.PeriodType.TheVariants.{Daily, Weekly, Monthly, BiMonthly, Quarterly, SixMonthly, SixMonthlyApril, Yearly}
use Rattle.dh_periods.specs.declared.kind.PeriodType.TheVariants.{FinancialApril, FinancialJuly, FinancialOct}
use Rattle.dh_periods.specs.declared.name.PeriodName.{PeriodName}
use Rattle.dh_periods.specs.Texts.{period_text, period_of}
use Rattle.dh_periods.proofs.TextLemmas.{period_of-is, period_of-printed}
use Rattle.dh_changes.specs.declared.change.Write.{Write}
use Rattle.dh_changes.specs.declared.change.Write.TheVariants.{ValueSet, ValueCleared, EventWritten, EventDeleted, EnrollmentWritten, EnrollmentDeleted}
use Rattle.dh_changes.specs.declared.change.Write.TheVariants.{EntityWritten, EntityDeleted, Approve, Unapprove, Accept, Unaccept, Complete, Uncomplete}
use Rattle.dh_changes.specs.declared.change.Change.{Change}
use Rattle.dh_changes.specs.declared.tracker.Event.{Event}
use Rattle.dh_changes.specs.declared.tracker.Enrollment.{Enrollment}
use Rattle.change_log.specs.ReadWords.{Reads, ◌⊗◌, mapped, number_at, text_at, times_at}
use Rattle.change_log.specs.Words.{number, signed, text, listed, optional_id, IsId}
use Rattle.change_log.proofs.WordCodecs.{IsBytes, Takes, Takes-then, IsCodec, and_then-some, map-some, both_codec, refined_codec, mapped_codec, wide8, wide16}
use Rattle.change_log.proofs.WordCodecs.{wide32, wide64, number_codec, signed_codec, text_codec, times_takes, times_again, listed_codec, id_codec}
use Rattle.change_log.proofs.WordCodecs.{optional_id_codec, id_text_codec}
use Rattle.change_log.specs.Fields.{period_bytes, no_day, day_number, day_bytes, value_key_bytes, approval_key_bytes, reg_key_bytes, state_bytes}
use Rattle.change_log.specs.Fields.{event_bytes, enrollment_bytes, entity_bytes}
use Rattle.change_log.specs.Bytes.{write_bytes, body_bytes}
use Rattle.change_log.specs.Forms.{IsDay, IsPeriod, IsValueKey, IsApprovalKey, IsRegKey, IsState, IsEvent, IsEnrollment, IsEntity, IsWrite, TextFits}
use Rattle.change_log.specs.Forms.{event_statuses, enrollment_statuses}
use Rattle.change_log.specs.Reading.{canonical_of, period_at, day_of, day_at, given_day_at, two_ids_at, three_ids_at, value_key_at}
use Rattle.change_log.specs.Reading.{approval_key_at, reg_key_at, days_at, state_at, event_ids_at, event_of, event_at, enrollment_of, enrollment_at, entity_at, value_set_at}
use Rattle.change_log.specs.Reading.{complete_at, value_write_at, tracker_write_at, deletion_at, is_deletion, approval_at, registration_at, fields_at}
use Rattle.change_log.specs.Reading.{write_at, writes_at, head_at, change_in, change_at}
use Rattle.change_log.proofs.TextLengths.{length_as, text-length}
use Rattle.dh_base.specs.Limits.{is_day}

some-if : {A : Type 0} (b : Bool) (x z : A) → cond b (Some x) None ≡ Some z → (b ≡ true) × (x ≡ z)
some-if true x z e = (refl, cc)
some-if false x z e = absurd (cc)

-- ---- periods, days, statuses

length_as-small : (kind : PeriodType) (n : ℕ) → length_as kind n < 2 ^ 8
length_as-small Daily n = omega arith
length_as-small Weekly n = elim (nat_lt n 10) as (λ b. cond b 6 7 < 2 ^ 8) [ true ↦ omega arith | false ↦ omega arith ]
length_as-small Monthly n = omega arith
length_as-small BiMonthly n = omega arith
length_as-small Quarterly n = omega arith
length_as-small SixMonthly n = omega arith
length_as-small SixMonthlyApril n = omega arith
length_as-small Yearly n = omega arith
length_as-small FinancialApril n = omega arith
length_as-small FinancialJuly n = omega arith
length_as-small FinancialOct n = omega arith

canonical-meant : (t : List ℕ) (p : PeriodName) → canonical_of t ≡ Some p → (period_text p ≡ t) × IsPeriod p
unfolding canonical_of
canonical-meant t p e =
    let first = and_then-some (λ q. cond (bytes_eq t (period_text q)) (Some q) None) (period_of t) p e in
    let q = first.0 in
    let own = some-if (bytes_eq t (period_text q)) q p first.2 in
    let P : PeriodName → Type 0 = λ r. (period_text r ≡ t) × IsPeriod r in
    subst P own.1 (sym ((bytes_eq-Decides t (period_text q)).0 own.0), (period_of-is t q first.1).1)

canonical-written : (p : PeriodName) → IsPeriod p → (canonical_of (period_text p) ≡ Some p) × (length (period_text p) < 2 ^ 8)
unfolding canonical_of
canonical-written p h =
    let same : bytes_eq (period_text p) (period_text p) ≡ true = (bytes_eq-Decides (period_text p) (period_text p)).1 refl in
    let said : period_of (period_text p) ≡ Some p = period_of-printed p h in (
      ap (option_and_then (λ q. cond (bytes_eq (period_text p) (period_text q)) (Some q) None)) said ∙ ap (λ b. cond b (Some p) None) same,
      subst (λ n. n < 2 ^ 8) (text-length p p.kind refl) (length_as-small p.kind p.number),
    )

pub period_codec : IsCodec period_bytes period_at IsPeriod
unfolding period_bytes period_at
period_codec = refined_codec canonical_of period_text IsPeriod (text_codec w8 (2 ^ 8) wide8) (λ t p fits lt e. canonical-meant t p e) canonical-written

day-fits : (z : ℤ) → IsDay z → FitsSigned w32 z
day-fits z h =
    let parts = and_parts (int_le (neg_ℤ (pos 25567)) z) (int_le z (pos 47846)) h in
    let low = le-true (neg_ℤ (pos 25567)) z parts.0 in
    let high = le-true z (pos 47846) parts.1 in
    omega (arith, signed_arith)

day-apart : (z : ℤ) → IsDay z → int_eq z no_day ≡ false
day-apart z h =
    elim (int_eq z no_day) as (λ b. int_eq z no_day ≡ b → b ≡ false) [
      | true ↦ λ same.
          let none : is_day no_day ≡ true = sym (ap is_day ((Decides-int_eq z no_day).0 same)) ∙ h in
          absurd (cc)
      | false ↦ λ other. refl
    ] refl

day-meant : (z : ℤ) (o : Option ℤ) → day_of z ≡ Some o → (day_number o ≡ z) × IfSome o IsDay
day-meant z o e =
    elim (int_eq z no_day) as (λ b. int_eq z no_day ≡ b → cond b (Some None) (cond (is_day z) (Some (Some z)) None) ≡ Some o
    → (day_number o ≡ z) × IfSome o IsDay) [
      | true ↦ λ none found.
          let same : None ≡ o = cc in
          subst (λ (p : Option ℤ). (day_number p ≡ z) × IfSome p IsDay) same (sym ((Decides-int_eq z no_day).0 none), tt)
      | false ↦ λ other found.
          let p = some-if (is_day z) (Some z) o found in
          subst (λ (q : Option ℤ). (day_number q ≡ z) × IfSome q IsDay) p.1 (refl, p.0)
    ] refl e

day-written : (o : Option ℤ) → IfSome o IsDay → (day_of (day_number o) ≡ Some o) × FitsSigned w32 (day_number o)
day-written None h = (refl, sfits_lit tt)
day-written (Some z) h = (rw (day-apart z h, h) refl, day-fits z h)

pub day_codec : IsCodec day_bytes day_at (λ o. IfSome o IsDay)
unfolding day_at
day_codec = refined_codec day_of day_number (λ o. IfSome o IsDay) (signed_codec w32 wide32) (λ z o fits g e. day-meant z o e) day-written

pub given_day_codec : IsCodec (signed w32) given_day_at IsDay
unfolding given_day_at
given_day_codec =
    refined_codec (λ z. cond (is_day z) (Some z) None) (λ z. z) IsDay (signed_codec w32 wide32)
    (λ z y fits g e. let p = some-if (is_day z) z y e in (sym p.1, subst IsDay p.1 p.0))
    (λ z h. (ap (λ b. cond b (Some z) None) h, day-fits z h))

-- ---- keys and tracker objects

two_ids_codec : IsCodec (λ p. p.0 ++ p.1) two_ids_at (λ p. IsId p.0 × IsId p.1)
two_ids_codec = both_codec id_codec id_codec

three_ids_codec : IsCodec (λ p. p.0 ++ (p.1.0 ++ p.1.1)) three_ids_at (λ p. IsId p.0 × (IsId p.1.0 × IsId p.1.1))
three_ids_codec = both_codec id_codec two_ids_codec

value_key_codec : IsCodec value_key_bytes value_key_at IsValueKey
unfolding value_key_at
value_key_codec =
    mapped_codec (λ p. record { element = p.0; period = p.1.0; unit = p.1.1.0; combo = p.1.1.1.0; attribute = p.1.1.1.1 }) (λ k.
    (k.element, (k.period, (k.unit, (k.combo, k.attribute))))) IsValueKey
    (both_codec id_codec (both_codec period_codec three_ids_codec)) (λ p fits g. (refl, g)) (λ k g. (refl, g))

approval_key_codec : IsCodec approval_key_bytes approval_key_at IsApprovalKey
unfolding approval_key_at
approval_key_codec =
    mapped_codec (λ p. record { workflow = p.0; period = p.1.0; unit = p.1.1.0; attribute = p.1.1.1 }) (λ k. (k.workflow, (k.period, (k.unit, k.attribute))))
    IsApprovalKey
    (both_codec id_codec (both_codec period_codec two_ids_codec)) (λ p fits g. (refl, g)) (λ k g. (refl, g))

reg_key_codec : IsCodec reg_key_bytes reg_key_at IsRegKey
unfolding reg_key_at
reg_key_codec =
    mapped_codec (λ p. record { set = p.0; period = p.1.0; unit = p.1.1.0; attribute = p.1.1.1 }) (λ k. (k.set, (k.period, (k.unit, k.attribute)))) IsRegKey
    (both_codec id_codec (both_codec period_codec two_ids_codec)) (λ p fits g. (refl, g)) (λ k g. (refl, g))

days_codec : IsCodec (λ p. day_bytes p.0 ++ day_bytes p.1) days_at (λ p. IfSome p.0 IsDay × IfSome p.1 IsDay)
days_codec = both_codec day_codec day_codec

state_codec : IsCodec (λ p. state_bytes p.0 p.1.0 p.1.1.0 p.1.1.1) state_at (λ p. IsState (2 ^ 8) p.0 p.1.0 p.1.1.0 p.1.1.1)
state_codec = both_codec id_codec (both_codec (number_codec w8 (2 ^ 8) wide8) days_codec)

-- a status below so many, as it is read
status-meant : {A : Type 0} (s n : ℕ) (x z : A) → cond (nat_lt s n) (Some x) None ≡ Some z → (s < n) × (x ≡ z)
status-meant s n x z e = let p = some-if (nat_lt s n) x z e in (ltb-true s n p.0, p.1)

event_ids_codec : IsCodec (λ p. p.0 ++ (optional_id p.1.0 ++ (p.1.1.0 ++ p.1.1.1))) event_ids_at (λ p. IsId p.0
    × (IfSome p.1.0 IsId × (IsId p.1.1.0 × IsId p.1.1.1)))
event_ids_codec = both_codec id_codec (both_codec optional_id_codec two_ids_codec)

event_codec : IsCodec event_bytes event_at IsEvent
unfolding event_at
event_codec =
    refined_codec (λ p. cond (nat_lt p.1.0.1.0 event_statuses) (Some (event_of p)) None)
    (λ e. ((e.id, (e.enrollment, (e.program, e.stage))), ((e.unit, (e.status, (e.occurred, e.scheduled))), e.values)))
    IsEvent (both_codec event_ids_codec (both_codec state_codec (listed_codec w16 (2 ^ 16) wide16 id_text_codec)))
    (λ p e fits g read.
    let meant = status-meant p.1.0.1.0 event_statuses (event_of p) e read in
    let good : IsEvent (event_of p) = (g.0, ((g.1.0.0, (meant.0, g.1.0.1.1)), g.1.1)) in (
      ap (λ (x : Event). ((x.id, (x.enrollment, (x.program, x.stage))), ((x.unit, (x.status, (x.occurred, x.scheduled))), x.values))) (sym meant.1),
      subst IsEvent meant.1 good,
    ))
    (λ e g. (
      ap (λ b. cond b (Some e) None) (lt-ltb e.status event_statuses g.1.0.1.0),
      (g.0, ((g.1.0.0, (omega (arith, g.1.0.1.0), g.1.0.1.1)), g.1.1)),
    ))

enrollment_codec : IsCodec enrollment_bytes enrollment_at IsEnrollment
unfolding enrollment_at
enrollment_codec =
    refined_codec (λ p. cond (nat_lt p.1.1.0 enrollment_statuses) (Some (enrollment_of p)) None)
    (λ e. ((e.id, (e.entity, e.program)), (e.unit, (e.status, (e.enrolled, e.occurred)))))
    IsEnrollment (both_codec three_ids_codec state_codec)
    (λ p e fits g read.
    let meant = status-meant p.1.1.0 enrollment_statuses (enrollment_of p) e read in
    let good : IsEnrollment (enrollment_of p) = (g.0, (g.1.0, (meant.0, g.1.1.1))) in (
      ap (λ (x : Enrollment). ((x.id, (x.entity, x.program)), (x.unit, (x.status, (x.enrolled, x.occurred))))) (sym meant.1),
      subst IsEnrollment meant.1 good,
    ))
    (λ e g. (
      ap (λ b. cond b (Some e) None) (lt-ltb e.status enrollment_statuses g.1.1.0),
      (g.0, (g.1.0, (omega (arith, g.1.1.0), g.1.1.1))),
    ))

entity_codec : IsCodec entity_bytes entity_at IsEntity
unfolding entity_at
entity_codec =
    mapped_codec (λ p. record { id = p.0.0; kind = p.0.1.0; unit = p.0.1.1; attributes = p.1 }) (λ e. ((e.id, (e.kind, e.unit)), e.attributes))
    IsEntity (both_codec three_ids_codec (listed_codec w16 (2 ^ 16) wide16 id_text_codec)) (λ p fits g. (refl, g)) (λ e g. (refl, g))

-- ---- writes

-- the fields of a write of that kind, as they were taken
record FieldsTake (kind : ℕ) (bytes : List ℕ) (w : Write) (rest : List ℕ) : Type 0 where
  fields : List ℕ
  whole : write_bytes w ≡ number w8 kind ++ fields
  takes : Takes bytes fields rest
  good : IsWrite w

-- a kind whose fields are those of a record
branch : {A : Type 0} {s : A → List ℕ} {a : Reads A} {G : A → Type 0} (make : A → Write) (kind : ℕ) → IsCodec s a G
    → ((x : A) → write_bytes (make x) ≡ number w8 kind ++ s x) → ((x : A) → G x → IsWrite (make x))
    → (bytes : List ℕ) (w : Write) (rest : List ℕ) → IsBytes bytes → mapped make a bytes ≡ Some (w, rest) → FieldsTake kind bytes w rest
branch {A} {s} {a} {G} make kind c whole good bytes w rest fits e =
    let first = map-some (λ (x : A × List ℕ). (make x.0, x.1)) (a bytes) (w, rest) e in
    let x = first.0 in
    let taken = c.takes bytes x.0 x.1 fits first.1 in
    let P : Write × List ℕ → Type 0 = λ z. FieldsTake kind bytes z.0 z.1 in
    subst P first.2 (record { fields = s x.0; whole = whole x.0; takes = taken.0; good = good x.0 taken.1 })

-- the kind is this one, or another
arm : (kind j : ℕ) (x y : Option (Write × List ℕ)) (bytes : List ℕ) (w : Write) (rest : List ℕ) → (x ≡ Some (w, rest) → FieldsTake j bytes w rest)
    → (y ≡ Some (w, rest) → FieldsTake kind bytes w rest)
    → cond (kind == j) x y ≡ Some (w, rest) → FieldsTake kind bytes w rest
arm kind j x y bytes w rest here there e =
    elim (kind == j) as (λ b. (kind == j) ≡ b → cond b x y ≡ Some (w, rest) → FieldsTake kind bytes w rest) [
      | true ↦ λ at found. subst (λ i. FieldsTake i bytes w rest) (sym (eqb-true kind j at)) (here found)
      | false ↦ λ at found. there found
    ] refl e

either : {P : Type 0} (b : Bool) (x y z : Option (Write × List ℕ)) → (x ≡ z → P) → (y ≡ z → P) → cond b x y ≡ z → P
either true x y z here there e = here e
either false x y z here there e = there e

none-found : {P : Type 0} (w : Write) (rest : List ℕ) → ◌≡◌ {A = Option (Write × List ℕ)} None (Some (w, rest)) → P
none-found w rest e = absurd (cc)

value_set_codec : IsCodec (λ p. value_key_bytes p.0 ++ text w16 p.1) (value_key_at ⊗ text_at w16) (λ p. IsValueKey p.0 × TextFits p.1)
value_set_codec = both_codec value_key_codec (text_codec w16 (2 ^ 16) wide16)

complete_codec : IsCodec (λ p. reg_key_bytes p.0 ++ signed w32 p.1) (reg_key_at ⊗ given_day_at) (λ p. IsRegKey p.0 × IsDay p.1)
complete_codec = both_codec reg_key_codec given_day_codec

value_write-takes : (kind : ℕ) (bytes : List ℕ) (w : Write) (rest : List ℕ) → IsBytes bytes → value_write_at kind bytes ≡ Some (w, rest)
    → FieldsTake kind bytes w rest
unfolding value_write_at value_set_at
value_write-takes kind bytes w rest fits =
    arm kind 1 _ _ bytes w rest (branch (λ p. ValueSet p.0 p.1) 1 value_set_codec (λ p. refl) (λ p g. g) bytes w rest fits)
    (arm kind 2 _ _ bytes w rest (branch (λ k. ValueCleared k) 2 value_key_codec (λ k. refl) (λ k g. g) bytes w rest fits) (none-found w rest))

tracker_write-takes : (kind : ℕ) (bytes : List ℕ) (w : Write) (rest : List ℕ) → IsBytes bytes → tracker_write_at kind bytes ≡ Some (w, rest)
    → FieldsTake kind bytes w rest
unfolding tracker_write_at
tracker_write-takes kind bytes w rest fits =
    arm kind 3 _ _ bytes w rest (branch (λ e. EventWritten e) 3 event_codec (λ e. refl) (λ e g. g) bytes w rest fits)
    (arm kind 5 _ _ bytes w rest (branch (λ e. EnrollmentWritten e) 5 enrollment_codec (λ e. refl) (λ e g. g) bytes w rest fits)
    (arm kind 7 _ _ bytes w rest (branch (λ e. EntityWritten e) 7 entity_codec (λ e. refl) (λ e g. g) bytes w rest fits) (none-found w rest)))

deletion-takes : (kind : ℕ) (bytes : List ℕ) (w : Write) (rest : List ℕ) → IsBytes bytes → deletion_at kind bytes ≡ Some (w, rest)
    → FieldsTake kind bytes w rest
unfolding deletion_at
deletion-takes kind bytes w rest fits =
    arm kind 4 _ _ bytes w rest (branch (λ id. EventDeleted id) 4 id_codec (λ id. refl) (λ id g. g) bytes w rest fits)
    (arm kind 6 _ _ bytes w rest (branch (λ id. EnrollmentDeleted id) 6 id_codec (λ id. refl) (λ id g. g) bytes w rest fits)
    (arm kind 8 _ _ bytes w rest (branch (λ id. EntityDeleted id) 8 id_codec (λ id. refl) (λ id g. g) bytes w rest fits) (none-found w rest)))

approval-takes : (kind : ℕ) (bytes : List ℕ) (w : Write) (rest : List ℕ) → IsBytes bytes → approval_at kind bytes ≡ Some (w, rest)
    → FieldsTake kind bytes w rest
unfolding approval_at
approval-takes kind bytes w rest fits =
    arm kind 9 _ _ bytes w rest (branch (λ k. Approve k) 9 approval_key_codec (λ k. refl) (λ k g. g) bytes w rest fits)
    (arm kind 10 _ _ bytes w rest (branch (λ k. Unapprove k) 10 approval_key_codec (λ k. refl) (λ k g. g) bytes w rest fits)
    (arm kind 11 _ _ bytes w rest (branch (λ k. Accept k) 11 approval_key_codec (λ k. refl) (λ k g. g) bytes w rest fits)
    (arm kind 12 _ _ bytes w rest (branch (λ k. Unaccept k) 12 approval_key_codec (λ k. refl) (λ k g. g) bytes w rest fits) (none-found w rest))))

registration-takes : (kind : ℕ) (bytes : List ℕ) (w : Write) (rest : List ℕ) → IsBytes bytes → registration_at kind bytes ≡ Some (w, rest)
    → FieldsTake kind bytes w rest
unfolding registration_at complete_at
registration-takes kind bytes w rest fits =
    arm kind 13 _ _ bytes w rest (branch (λ p. Complete p.0 p.1) 13 complete_codec (λ p. refl) (λ p g. g) bytes w rest fits)
    (arm kind 14 _ _ bytes w rest (branch (λ k. Uncomplete k) 14 reg_key_codec (λ k. refl) (λ k g. g) bytes w rest fits) (none-found w rest))

fields-takes : (kind : ℕ) (bytes : List ℕ) (w : Write) (rest : List ℕ) → IsBytes bytes → fields_at kind bytes ≡ Some (w, rest) → FieldsTake kind bytes w rest
unfolding fields_at
fields-takes kind bytes w rest fits =
    either (nat_lt kind 3) _ _ (Some (w, rest)) (value_write-takes kind bytes w rest fits)
    (either (is_deletion kind) _ _ (Some (w, rest)) (deletion-takes kind bytes w rest fits)
    (either (nat_lt kind 9) _ _ (Some (w, rest)) (tracker_write-takes kind bytes w rest fits)
    (either (nat_lt kind 13) _ _ (Some (w, rest)) (approval-takes kind bytes w rest fits) (registration-takes kind bytes w rest fits))))

write-takes : (bytes : List ℕ) (w : Write) (rest : List ℕ) → IsBytes bytes → write_at bytes ≡ Some (w, rest) → Takes bytes (write_bytes w) rest × IsWrite w
unfolding write_at
write-takes bytes w rest fits e =
    let first = and_then-some (λ (k : ℕ × List ℕ). fields_at k.0 k.1) (number_at w8 bytes) (w, rest) e in
    let k = first.0 in
    let front = (number_codec w8 (2 ^ 8) wide8).takes bytes k.0 k.1 fits first.1 in
    let back = fields-takes k.0 k.1 w rest front.0.rest_fits first.2 in
    (subst (λ t. Takes bytes t rest) (sym back.whole) (Takes-then bytes (number w8 k.0) k.1 back.fields rest front.0 back.takes), back.good)

-- the fields after a kind are read again
kind-again : {A : Type 0} {s : A → List ℕ} {a : Reads A} {G : A → Type 0} (make : A → Write) (kind : ℕ) → kind < 2 ^ 8 → IsCodec s a G
    → ((bytes : List ℕ) → fields_at kind bytes ≡ mapped make a bytes)
    → (x : A) (rest : List ℕ) → G x → write_at ((number w8 kind ++ s x) ++ rest) ≡ Some (make x, rest)
unfolding write_at
kind-again {A} {s} {a} {G} make kind small c same x rest good =
    let regrouped : (number w8 kind ++ s x) ++ rest ≡ number w8 kind ++ (s x ++ rest) = append_assoc (number w8 kind) (s x) rest in
    ap write_at regrouped ∙ ap (option_and_then (λ (k : ℕ × List ℕ). fields_at k.0 k.1)) ((number_codec w8 (2 ^ 8) wide8).again kind (s x ++ rest) small)
    ∙ same (s x ++ rest) ∙ ap (option_map (λ (y : A × List ℕ). (make y.0, y.1))) (c.again x rest good)

write-again : (w : Write) (rest : List ℕ) → IsWrite w → write_at (write_bytes w ++ rest) ≡ Some (w, rest)
unfolding fields_at value_write_at value_set_at tracker_write_at deletion_at approval_at registration_at complete_at
write-again (ValueSet key value) rest g = kind-again (λ p. ValueSet p.0 p.1) 1 (omega arith) value_set_codec (λ bytes. refl) (key, value) rest g
write-again (ValueCleared key) rest g = kind-again (λ k. ValueCleared k) 2 (omega arith) value_key_codec (λ bytes. refl) key rest g
write-again (EventWritten event) rest g = kind-again (λ e. EventWritten e) 3 (omega arith) event_codec (λ bytes. refl) event rest g
write-again (EventDeleted id) rest g = kind-again (λ i. EventDeleted i) 4 (omega arith) id_codec (λ bytes. refl) id rest g
write-again (EnrollmentWritten enrollment) rest g = kind-again (λ e. EnrollmentWritten e) 5 (omega arith) enrollment_codec (λ bytes. refl) enrollment rest g
write-again (EnrollmentDeleted id) rest g = kind-again (λ i. EnrollmentDeleted i) 6 (omega arith) id_codec (λ bytes. refl) id rest g
write-again (EntityWritten entity) rest g = kind-again (λ e. EntityWritten e) 7 (omega arith) entity_codec (λ bytes. refl) entity rest g
write-again (EntityDeleted id) rest g = kind-again (λ i. EntityDeleted i) 8 (omega arith) id_codec (λ bytes. refl) id rest g
write-again (Approve key) rest g = kind-again (λ k. Approve k) 9 (omega arith) approval_key_codec (λ bytes. refl) key rest g
write-again (Unapprove key) rest g = kind-again (λ k. Unapprove k) 10 (omega arith) approval_key_codec (λ bytes. refl) key rest g
write-again (Accept key) rest g = kind-again (λ k. Accept k) 11 (omega arith) approval_key_codec (λ bytes. refl) key rest g
write-again (Unaccept key) rest g = kind-again (λ k. Unaccept k) 12 (omega arith) approval_key_codec (λ bytes. refl) key rest g
write-again (Complete key day) rest g = kind-again (λ p. Complete p.0 p.1) 13 (omega arith) complete_codec (λ bytes. refl) (key, day) rest g
write-again (Uncomplete key) rest g = kind-again (λ k. Uncomplete k) 14 (omega arith) reg_key_codec (λ bytes. refl) key rest g

pub write_codec : IsCodec write_bytes write_at IsWrite
write_codec = record { takes = write-takes; again = write-again }

-- ---- changes

abbrev pub AreWrites : List Write → Type 0
AreWrites ws = (0 < length ws) × ((length ws < 2 ^ 32) × All IsWrite ws)

none-if : {A : Type 0} (b : Bool) (x : Option A) (z : A) → cond b None x ≡ Some z → (b ≡ false) × (x ≡ Some z)
none-if true x z e = absurd (cc)
none-if false x z e = (refl, e)

not-zero : (n : ℕ) → (n == 0) ≡ false → 0 < n
not-zero n e = grind (arith, nat_tests)

zero-not : (n : ℕ) → 0 < n → (n == 0) ≡ false
zero-not n h = grind (arith, nat_tests)

writes_codec : IsCodec (listed w32 write_bytes) writes_at AreWrites
unfolding writes_at
writes_codec = record {
  takes = λ bytes ws rest fits e.
      let first = and_then-some (λ (n : ℕ × List ℕ). cond (n.0 == 0) None (times_at n.0 write_at n.1)) (number_at w32 bytes) (ws, rest) e in
      let n = first.0 in
      let front = (number_codec w32 (2 ^ 32) wide32).takes bytes n.0 n.1 fits first.1 in
      let counted = none-if (n.0 == 0) (times_at n.0 write_at n.1) (ws, rest) first.2 in
      let back = times_takes write_codec n.0 n.1 ws rest front.0.rest_fits counted.1 in
      let whole = Takes-then bytes (number w32 n.0) n.1 (flat_map write_bytes ws) rest front.0 back.0 in (
        subst (λ k. Takes bytes (number w32 k ++ flat_map write_bytes ws) rest) (sym back.1) whole,
        (subst (λ k. 0 < k) (sym back.1) (not-zero n.0 counted.0), (subst (λ k. k < 2 ^ 32) (sym back.1) front.1, All-from_recursion IsWrite ws back.2)),
      );
  again = λ ws rest g.
      ap writes_at (append_assoc (number w32 (length ws)) (flat_map write_bytes ws) rest)
      ∙ ap (option_and_then (λ (n : ℕ × List ℕ). cond (n.0 == 0) None (times_at n.0 write_at n.1)))
      ((number_codec w32 (2 ^ 32) wide32).again (length ws) (flat_map write_bytes ws ++ rest) g.1.0)
      ∙ ap (λ b. cond b None (times_at (length ws) write_at (flat_map write_bytes ws ++ rest))) (zero-not (length ws) g.0)
      ∙ times_again write_codec ws rest (recursion_from_All IsWrite ws g.1.1);
}

head_codec : IsCodec (λ p. number w64 p.0 ++ (optional_id p.1.0 ++ signed w64 p.1.1)) head_at (λ p. (p.0 < 2 ^ 64)
    × (IfSome p.1.0 IsId × FitsSigned w64 p.1.1))
head_codec = both_codec (number_codec w64 (2 ^ 64) wide64) (both_codec optional_id_codec (signed_codec w64 wide64))

-- what is read of a change under that number
abbrev pub IsRead : ℕ → Change → Type 0
IsRead n c = (n < 2 ^ 64) × ((IfSome c.user IsId × FitsSigned w64 c.moment) × AreWrites c.writes)

pub change_codec : (n : ℕ) → IsCodec (body_bytes n) (change_at n) (IsRead n)
unfolding change_at body_bytes
change_codec n =
    refined_codec (λ p. cond (p.0.0 == n) (Some (change_in p)) None) (λ c. ((n, (c.user, c.moment)), c.writes)) (IsRead n) (both_codec head_codec writes_codec)
    (λ p c fits g e.
    let read = some-if (p.0.0 == n) (change_in p) c e in
    let same : p.0.0 ≡ n = eqb-true p.0.0 n read.0 in
    let good : IsRead n (change_in p) = (subst (λ m. m < 2 ^ 64) same g.0.0, (g.0.1, g.1)) in (
      ap (λ (x : Change). ((n, (x.user, x.moment)), x.writes)) (sym read.1) ∙ ap (λ m. ((m, p.0.1), p.1)) (sym same),
      subst (IsRead n) read.1 good,
    ))
    (λ c g. (ap (λ b. cond b (Some c) None) (eq-eqb n n refl), ((g.0, g.1.0), g.1.1)))
