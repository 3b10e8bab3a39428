-- Histories that go on: what is published, and what becomes of an update.
use Rattle.std.proofs.Common.{◌≡◌, ◌≢◌, ◌≤◌, ◌+◌, ℕ, List, [], ◌∷◌, ◌++◌, ◌||◌, Bool, true, false, cond, Option, Some, None, Ok, Err}
use Rattle.std.proofs.Common.{refl, sym, ap, ◌∙◌, subst, arith, le_refl, le_trans, eq-eqb, length, take, append-nil, length-append}
use Rattle.std.specs.Prelude.{◌==◌, Result}
use Rattle.std.proofs.lemmas.List.{take-append-le}
use Rattle.std.proofs.Math.Nat.{le-max_left}
use Rattle.std.proofs.lemmas.Bool.Decides.{nat_tests}
use Rattle.dh_base.specs.declared.plain.CutKind.{CutKind}
use Rattle.dh_base.specs.declared.plain.CutKind.TheVariants.{Full, Latest}
use Rattle.dh_base.specs.declared.codes.Refusal.{Refusal}
use Rattle.dh_changes.specs.declared.change.Change.{Change}
use Rattle.shared_engine.specs.Views.{own}
use Rattle.engine.specs.Requests.{Asked}
use Rattle.engine.specs.declared.request.Judged.{Judged}
use Rattle.dh_metadata.specs.declared.held.Records.{Records}
use Rattle.change_log.specs.declared.limits.Limits.{Limits}
use Rattle.engine.specs.declared.machine.Staged.{Staged}
use Rattle.engine.specs.Machine.{State, Act, IsReply, next, by_kind, staged_of, has_ticket, kind_by, number_of}
use Rattle.engine.specs.Machine.{judged_in, change_of, has_writes, grown, log_by}
use Rattle.engine.specs.Machine.Act.{changed, begun, swapped, dropped, looked}
use Rattle.engine.specs.Histories.{last_swap}
use Rattle.shared_engine.specs.Entries.{Entry, caller_of, Stand, after_entry, after_entries, IsRight, IsLegalFrom}
use Rattle.shared_engine.specs.Histories.{begin, stand_of, IsLegal, acts_of}
use Rattle.shared_engine.specs.Calls.{last_of}
use Rattle.shared_engine.specs.Laws.{LooksAreRight, PublishedRises, UpdatesStay, LooksAreCurrent, look_by}

-- ---- a history in two parts

pub after_both : (meta : Records) (stand : Stand) (xs ys : List Entry)
    → after_entries meta stand (xs ++ ys) ≡ after_entries meta (after_entries meta stand xs) ys
after_both meta stand [] ys = refl
after_both meta stand (x ∷ xs) ys = after_both meta (after_entry meta stand x) xs ys

pub legal_both : (meta : Records) (limits : Limits) (stand : Stand) (xs ys : List Entry) → IsLegalFrom meta limits stand xs
    → IsLegalFrom meta limits (after_entries meta stand xs) ys → IsLegalFrom meta limits stand (xs ++ ys)
legal_both meta limits stand [] ys first last = last
legal_both meta limits stand (x ∷ xs) ys first last = (first.0, legal_both meta limits (after_entry meta stand x) xs ys first.1 last)

pub legal_rest : (meta : Records) (limits : Limits) (stand : Stand) (xs ys : List Entry) → IsLegalFrom meta limits stand (xs ++ ys)
    → IsLegalFrom meta limits (after_entries meta stand xs) ys
legal_rest meta limits stand [] ys legal = legal
legal_rest meta limits stand (x ∷ xs) ys legal = legal_rest meta limits (after_entry meta stand x) xs ys legal.1

-- ---- what is published

one_published : (meta : Records) (state : State) (act : Act) (acts : List Act)
    → last_swap state.published (act ∷ acts) ≡ last_swap (next meta state act).published acts
one_published meta state (changed asked (Ok report)) acts = refl
one_published meta state (changed asked (Err fault)) acts = refl
one_published meta state (begun kind (Ok update)) acts = refl
one_published meta state (begun kind (Err fault)) acts = refl
one_published meta state (swapped ticket (Ok published)) acts = refl
one_published meta state (swapped ticket (Err memory)) acts = refl
one_published meta state (dropped ticket) acts = refl
one_published meta state (looked asked reply) acts = refl

published_of : (meta : Records) (stand : Stand) (entries : List Entry)
    → (after_entries meta stand entries).machine.published ≡ last_swap stand.machine.published (acts_of entries)
published_of meta stand [] = refl
published_of meta stand (e ∷ es) = published_of meta (after_entry meta stand e) es ∙ sym (one_published meta stand.machine e.act (acts_of es))

one_rises : (meta : Records) (limits : Limits) (state : State) (act : Act) → IsReply meta limits state act → state.published ≤ (next meta state act).published
one_rises meta limits state (changed asked (Ok report)) r = le_refl state.published
one_rises meta limits state (changed asked (Err fault)) r = le_refl state.published
one_rises meta limits state (begun kind (Ok update)) r = le_refl state.published
one_rises meta limits state (begun kind (Err fault)) r = le_refl state.published
one_rises meta limits state (swapped ticket (Ok published)) r =
    subst (λ (n : ℕ). state.published ≤ n) (sym r.1) (le-max_left state.published (number_of state ticket))
one_rises meta limits state (swapped ticket (Err memory)) r = le_refl state.published
one_rises meta limits state (dropped ticket) r = le_refl state.published
one_rises meta limits state (looked asked reply) r = le_refl state.published

rises_from : (meta : Records) (limits : Limits) (stand : Stand) (entries : List Entry) → IsLegalFrom meta limits stand entries
    → stand.machine.published ≤ (after_entries meta stand entries).machine.published
rises_from meta limits stand [] legal = le_refl stand.machine.published
rises_from meta limits stand (e ∷ es) legal =
    le_trans (one_rises meta limits stand.machine e.act legal.0.reply) (rises_from meta limits (after_entry meta stand e) es legal.1)

pub rises : PublishedRises
rises made before later legal =
    subst (λ (s : Stand). (stand_of made before).machine.published ≤ s.machine.published) (sym (after_both made.meta (begin made.opening) before later))
    (rises_from made.meta made.limits (stand_of made before) later (legal_rest made.meta made.limits (begin made.opening) before later legal))

pub looks : LooksAreRight
looks made before later look asked number legal is =
    let right = (legal_rest made.meta made.limits (begin made.opening) before (look ∷ later) legal).0 in
    let reply = subst (λ (act : Act). IsReply made.meta made.limits (stand_of made before).machine act) is right.reply in (
      reply.1 ∙ published_of made.meta (begin made.opening) before,
      subst (λ (n : ℕ). asked ≤ n) (sym reply.1) reply.0,
    )

-- ---- an update that is begun

other_test : (a b : ℕ) → a ≢ b → (a == b) ≡ false
other_test a b h = grind (arith, nat_tests)

or_left : (a b : Bool) → b ≡ false → (a || b) ≡ true → a ≡ true
or_left true b off is = refl
or_left false b off is = absurd (cc)

pub from_left : (a b : Bool) → a ≡ true → (a || b) ≡ true
from_left true b is = refl
from_left false b is = absurd (cc)

from_right : (a b : Bool) → b ≡ true → (a || b) ≡ true
from_right true b is = refl
from_right false b is = is

-- an update of a kind is begun
pub has_staged : (full latest : Option Staged) (kind : CutKind) (update : Staged) → by_kind kind full latest ≡ Some update
    → (has_ticket update.ticket full || has_ticket update.ticket latest) ≡ true
has_staged full latest Full update is =
    from_left (has_ticket update.ticket full) (has_ticket update.ticket latest) (ap (has_ticket update.ticket) is ∙ eq-eqb update.ticket update.ticket refl)
has_staged full latest Latest update is =
    from_right (has_ticket update.ticket full) (has_ticket update.ticket latest) (ap (has_ticket update.ticket) is ∙ eq-eqb update.ticket update.ticket refl)

-- the update with one ticket isn't that with another
not_other : (update : Staged) (other : ℕ) → other ≢ update.ticket → has_ticket other (Some update) ≡ false
not_other update other ne = other_test update.ticket other (λ e. ne (sym e))

-- ---- the log grows

grown_on : (log : List Change) (change : Change) → (more : List Change) × (grown log change ≡ log ++ more)
grown_on log change = go (has_writes change) refl
  where
    go : (b : Bool) → has_writes change ≡ b → (more : List Change) × (grown log change ≡ log ++ more)
    go true e = (change ∷ [], ap (λ b. cond b (log ++ change ∷ []) log) e)
    go false e = ([], ap (λ b. cond b (log ++ change ∷ []) log) e ∙ sym (append-nil log))

grows : (meta : Records) (log : List Change) (asked : Asked) (found : Result Judged Refusal)
    → (more : List Change) × (log_by meta log asked found ≡ log ++ more)
grows meta log asked (Ok found) = grown_on log (change_of meta asked found)
grows meta log asked (Err refused) = ([], sym (append-nil log))

still_there : (number : ℕ) (log more later : List Change) → later ≡ log ++ more → number ≤ length log → number ≤ length later
still_there number log more later is low =
    let long : length later ≡ length log + length more = ap length is ∙ length-append log more in omega arith

still_before : (number : ℕ) (log more later : List Change) → later ≡ log ++ more → number ≤ length log → take number later ≡ take number log
still_before number log more later is low = ap (take number) is ∙ take-append-le number log more low

-- the end of another update
ended : (full latest : Option Staged) (kind : CutKind) (update : Staged) (other : ℕ) → other ≢ update.ticket → by_kind kind full latest ≡ Some update
    → (has_ticket other full || has_ticket other latest) ≡ true
    → by_kind kind (by_kind (kind_by other full) None full) (by_kind (kind_by other full) latest None) ≡ Some update
ended full latest Full update other ne is there =
    let off : has_ticket other full ≡ false = ap (has_ticket other) is ∙ not_other update other ne in
    let latest_ends : kind_by other full ≡ Latest = ap (λ b. cond b Full Latest) off in
    ap (λ (kind : CutKind). by_kind kind None full) latest_ends ∙ is
ended full latest Latest update other ne is there =
    let off : has_ticket other latest ≡ false = ap (has_ticket other) is ∙ not_other update other ne in
    let full_ends : kind_by other full ≡ Full = ap (λ b. cond b Full Latest) (or_left (has_ticket other full) (has_ticket other latest) off there) in
    ap (λ (kind : CutKind). by_kind kind latest None) full_ends ∙ is

-- an update is begun, and it is this caller's; these are the changes before its cut
record Begun (stand : Stand) (caller : ℕ) (kind : CutKind) (update : Staged) (changes : List Change) : Type 0 where
  begun_is : staged_of stand.machine kind ≡ Some update
  given : update.ticket ≤ stand.machine.ticket
  owner : stand.owner update.ticket ≡ Some caller
  there : update.number ≤ length stand.machine.log
  before : take update.number stand.machine.log ≡ changes

some_same : (a b : ℕ) → Some a ≡ Some b → a ≡ b
some_same a b e = cc

none_some : (update : Staged) (staged : Option Staged) → staged ≡ None → staged ≡ Some update → ⊥
none_some update staged none is = absurd (cc)

-- a new update of a kind of which none was begun
cut_apart : (full latest : Option Staged) (kind other : CutKind) (update new : Staged) → by_kind other full latest ≡ None
    → by_kind kind full latest ≡ Some update
    → by_kind kind (by_kind other (Some new) full) (by_kind other latest (Some new)) ≡ Some update
cut_apart full latest Full Full update new blank is = absurd (none_some update full blank is)
cut_apart full latest Full Latest update new blank is = is
cut_apart full latest Latest Full update new blank is = is
cut_apart full latest Latest Latest update new blank is = absurd (none_some update latest blank is)

-- a step of another caller
stays : (meta : Records) (limits : Limits) (stand : Stand) (who : ℕ) (act : Act) (faults caller : ℕ) (kind : CutKind) (update : Staged) (changes : List Change)
    → IsRight meta limits stand (record { caller = who; act = act; faults = faults }) → who ≢ caller → Begun stand caller kind update changes
    → Begun (after_entry meta stand (record { caller = who; act = act; faults = faults })) caller kind update changes
stays meta limits stand who (changed asked (Ok report)) faults caller kind update changes r ne b =
    let more = grows meta stand.machine.log asked (judged_in meta stand.machine.log asked) in record {
      begun_is = b.begun_is;
      given = b.given;
      owner = b.owner;
      there = still_there update.number stand.machine.log more.0 (log_by meta stand.machine.log asked (judged_in meta stand.machine.log asked)) more.1 b.there;
      before = still_before update.number stand.machine.log more.0 (log_by meta stand.machine.log asked (judged_in meta stand.machine.log asked)) more.1 b.there
          ∙ b.before;
    }
stays meta limits stand who (changed asked (Err fault)) faults caller kind update changes r ne b =
    record { begun_is = b.begun_is; given = b.given; owner = b.owner; there = b.there; before = b.before }
stays meta limits stand who (begun other (Ok new)) faults caller kind update changes r ne b =
    let next_is : new.ticket ≡ stand.machine.ticket + 1 = ap (λ (u : Staged). u.ticket) r.reply.1.1 in
    let low : update.ticket ≤ stand.machine.ticket = b.given in record {
      begun_is = cut_apart stand.machine.full stand.machine.latest kind other update new r.reply.0 b.begun_is;
      given = omega arith;
      owner = ap (λ t. cond t (Some who) (stand.owner update.ticket)) (other_test update.ticket new.ticket (λ e. absurd (omega arith))) ∙ b.owner;
      there = b.there;
      before = b.before;
    }
stays meta limits stand who (begun other (Err fault)) faults caller kind update changes r ne b =
    record { begun_is = b.begun_is; given = b.given; owner = b.owner; there = b.there; before = b.before }
stays meta limits stand who (swapped other (Ok published)) faults caller kind update changes r ne b =
    let differs : other ≢ update.ticket = λ e. ne (some_same who caller (sym r.owns ∙ ap stand.owner e ∙ b.owner)) in record {
      begun_is = ended stand.machine.full stand.machine.latest kind update other differs b.begun_is r.reply.0;
      given = b.given;
      owner = b.owner;
      there = b.there;
      before = b.before;
    }
stays meta limits stand who (swapped other (Err memory)) faults caller kind update changes r ne b =
    record { begun_is = b.begun_is; given = b.given; owner = b.owner; there = b.there; before = b.before }
stays meta limits stand who (dropped other) faults caller kind update changes r ne b =
    let differs : other ≢ update.ticket = λ e. ne (some_same who caller (sym r.owns ∙ ap stand.owner e ∙ b.owner)) in record {
      begun_is = ended stand.machine.full stand.machine.latest kind update other differs b.begun_is r.reply;
      given = b.given;
      owner = b.owner;
      there = b.there;
      before = b.before;
    }
stays meta limits stand who (looked asked reply) faults caller kind update changes r ne b =
    record { begun_is = b.begun_is; given = b.given; owner = b.owner; there = b.there; before = b.before }

no_list : {A : Type 0} (x : A) (xs : List A) → x ∷ xs ≡ [] → ⊥
no_list x xs e = absurd (cc)

others_first : (caller : ℕ) (e : Entry) (es : List Entry) → own caller_of caller (e ∷ es) ≡ [] → (e.caller ≢ caller) × (own caller_of caller es ≡ [])
others_first caller e es blank = go (e.caller == caller) refl blank
  where
    go : (b : Bool) → (e.caller == caller) ≡ b → cond b (e ∷ own caller_of caller es) (own caller_of caller es) ≡ []
        → (e.caller ≢ caller) × (own caller_of caller es ≡ [])
    go true is h = absurd (no_list e (own caller_of caller es) h)
    go false is h = ((λ same. absurd (grind (arith, nat_tests))), h)

stay_from : (meta : Records) (limits : Limits) (stand : Stand) (entries : List Entry) (caller : ℕ) (kind : CutKind) (update : Staged) (changes : List Change)
    → IsLegalFrom meta limits stand entries → Begun stand caller kind update changes → own caller_of caller entries ≡ []
    → Begun (after_entries meta stand entries) caller kind update changes
stay_from meta limits stand [] caller kind update changes legal b blank = b
stay_from meta limits stand (e ∷ es) caller kind update changes legal b blank =
    let o = others_first caller e es blank in
    stay_from meta limits (after_entry meta stand e) es caller kind update changes legal.1
    (stays meta limits stand e.caller e.act e.faults caller kind update changes legal.0 o.0 b) o.1

pub updates_stay : UpdatesStay
updates_stay made before later caller kind update changes legal h blank =
    let b = stay_from made.meta made.limits (stand_of made before) later caller kind update changes
    (legal_rest made.meta made.limits (begin made.opening) before later legal)
    (record { begun_is = h.begun; given = h.given; owner = h.owner; there = h.there; before = h.before }) blank in
    let same = sym (after_both made.meta (begin made.opening) before later) in record {
      begun = subst (λ (s : Stand). staged_of s.machine kind ≡ Some update) same b.begun_is;
      given = subst (λ (s : Stand). update.ticket ≤ s.machine.ticket) same b.given;
      owner = subst (λ (s : Stand). s.owner update.ticket ≡ Some caller) same b.owner;
      there = subst (λ (s : Stand). update.number ≤ length s.machine.log) same b.there;
      before = subst (λ (s : Stand). take update.number s.machine.log ≡ changes) same b.before;
    }

-- ---- a look, by what its caller knows

one_last : (earlier : List Entry) (look : Entry) (list : List Entry) → list ≡ earlier ++ last_of (look ∷ []) → list ≡ earlier ++ look ∷ []
one_last earlier look list is = is

pub current : LooksAreCurrent
current made before now asked number faults call =
    let look = look_by before.caller asked number faults in
    let earlier = call.last.0 in
    let ends : now.list ≡ earlier ++ look ∷ [] = one_last earlier look now.list call.last.1 in
    let right = looks made earlier [] look asked number (subst (λ (l : List Entry). IsLegal made l) ends call.legal) refl in
    let after : (stand_of made now.list).machine.published ≡ (stand_of made earlier).machine.published =
    ap (λ (l : List Entry). (stand_of made l).machine.published) ends
    ∙ ap (λ (s : Stand). s.machine.published) (after_both made.meta (begin made.opening) earlier (look ∷ [])) in
    let told : now.told ≡ number = call.told ∙ after ∙ published_of made.meta (begin made.opening) earlier ∙ sym right.0 in record {
      earlier = earlier;
      ends = ends;
      swapped = right.0;
      asked_for = right.1;
      known = subst (λ (n : ℕ). before.told ≤ n) told call.least;
      told = told;
    }
