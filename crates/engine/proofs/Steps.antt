-- The steps of the machine, from what its parts do.
use Rattle.std.proofs.Common.{◌≡◌, ◌∙◌, ◌≤◌, ◌<◌, ℕ, List, [], ◌∷◌, ◌++◌, length, take, drop, sym, ap, subst, refl, arith, Bool, true, false}
use Rattle.std.specs.Prelude.{is_some, nat_lt, option_map, Option, None, Some, Result, Ok, Err, if◌then◌else◌}
use Rattle.std.specs.Arc.{arc_value}
use Rattle.std.specs.List.{All}
use Rattle.std.proofs.lemmas.Bool.{lt-ltb}
use Rattle.std.proofs.lemmas.Bool.Decides.{nat_tests}
use Rattle.std.proofs.lemmas.Grind.{flat_map-append}
use Rattle.std.proofs.lemmas.List.{length-append, take-append-le, take-append-drop, take_at, drop_at}
use Rattle.std.proofs.lemmas.List.Elements.{All-take, All-drop}
use Rattle.dh_base.specs.declared.codes.Refusal.{Refusal}
use Rattle.dh_changes.specs.declared.change.Change.{Change}
use Rattle.change_log.specs.Forms.{WriteFits}
use Rattle.dh_changes.specs.Facts.{Facts, facts_in}
use Rattle.dh_metadata.specs.declared.held.Records.{Records}
use Rattle.change_log.specs.declared.limits.Limits.{Limits}
use Rattle.change_log.specs.Log.{LogSeen, IsWhole, Appends, with_change, writes_of, passed, over}
use Rattle.change_log.specs.declared.limits.AppendFault.{AppendFault}
use Rattle.change_log.specs.declared.limits.AppendFault.TheVariants as append
use Rattle.dh_base.specs.Memory.{IsCause}
use Rattle.engine.specs.declared.request.JudgeFault.{JudgeFault}
use Rattle.engine.specs.declared.request.JudgeFault.TheVariants as judge
use Rattle.engine.specs.Requests.{Asked, judged, judged_by, maker_of, cause_of}
use Rattle.engine.specs.declared.request.Judged.{Judged}
use Rattle.engine.specs.Histories.{IsInOrder}
use Rattle.engine.specs.Machine.{State, Step, StepBy, IsReplyBy, log_by, has_writes, grown, judged_in, change_of, change_lacks, report_of}
use Rattle.engine.specs.Machine.Act.{changed}
use Rattle.engine.specs.Seen.{seen_of, state_of, part_in, AreParts, Shows, Puts, BringsBy, BringsIf, Brings, Brought, fault_by, log_fault}
use Rattle.engine.specs.declared.updates.Shown.{Shown}
use Rattle.engine.specs.declared.machine.Report.{Report}
use Rattle.engine.specs.declared.machine.ChangeFault.{ChangeFault}
use Rattle.engine.specs.declared.machine.ChangeFault.TheVariants as change
use Rattle.engine.proofs.Orders.{longer_in_order}
use Rattle.engine.proofs.StandLemmas.{shows-longer}

-- ---- a change of the log

writes-there : (c : Change) → 0 < length c.writes → has_writes c ≡ true
writes-there c some = lt-ltb 0 (length c.writes) some

still-known : (kept : Option (List ℕ)) (bytes : List ℕ) → is_some (option_map (λ b. b ++ bytes) kept) ≡ is_some kept
still-known None bytes = refl
still-known (Some b) bytes = refl

abbrev report-with : Judged → ℕ → Report
report-with found n = record { body = found.body; status = found.status; number = n }

pub append-puts : (old new : LogSeen) (c : Change) (found : Judged) (number : ℕ) → 0 < length c.writes → Appends old c (Ok number) new
    → Puts old c found (Ok (record { body = found.body; status = found.status; number = number })) new
unfolding with_change report_of
append-puts old new c found number some h =
    let e = writes-there c some in
    let g : old.changes ++ c ∷ [] ≡ grown old.changes c = sym (ap (λ b. if b then old.changes ++ c ∷ [] else old.changes) e) in
    let n : number ≡ length (grown old.changes c) = h.1.0 ∙ sym (length-append old.changes (c ∷ [])) ∙ ap length g in (
      (
        ap (λ b. if b then passed old.limits (old.changes ++ c ∷ []) else None) e ∙ h.0,
        ap (report-with found) n,
      ),
      (
        ap (λ (l : LogSeen). l.changes) h.1.1.1
            ∙ g,
        (ap (λ (l : LogSeen). l.limits) h.1.1.1, (h.1.1.0, ap (λ (l : LogSeen). is_some l.kept) h.1.1.1 ∙ still-known old.kept _)),
      ),
    )

-- nothing is appended where nothing is written
pub nothing-puts : (log : LogSeen) (c : Change) (found : Judged) (number : ℕ) → length c.writes ≡ 0 → number ≡ length log.changes
    → Puts log c found (Ok (record { body = found.body; status = found.status; number = number })) log
unfolding report_of
nothing-puts log c found number none n =
    let e : has_writes c ≡ false = ap (λ m. nat_lt 0 m) none in
    let g : grown log.changes c ≡ log.changes = ap (λ b. if b then log.changes ++ c ∷ [] else log.changes) e in (
      (ap (λ b. if b then passed log.limits (log.changes ++ c ∷ []) else None) e, ap (report-with found) (n ∙ sym (ap length g))),
      (sym g, (refl, (omega arith, refl))),
    )

-- a fault of the log
pub fault-puts : (old new : LogSeen) (c : Change) (found : Judged) (fault : AppendFault) → 0 < length c.writes → Appends old c (Err fault) new
    → Puts old c found (Err (log_fault fault)) new
fault-puts old new c found (append.LogFull limit) some h =
    (ap (λ b. if b then passed old.limits (old.changes ++ c ∷ []) else None) (writes-there c some) ∙ h.0, h.1)
fault-puts old new c found append.StoreFault some h =
    let e = writes-there c some in ((ap (λ b. if b then passed old.limits (old.changes ++ c ∷ []) else None) e ∙ h.0, e), h.1)
fault-puts old new c found append.Memory some h = h

-- what is judged over what the log records is what the request comes to over the log
pub judged-is : (meta : Records) (log : List Change) (asked : Asked) (facts : Facts) → facts ≡ facts_in (writes_of log)
    → judged_by facts meta asked.who asked.moment asked.request ≡ judged_in meta log asked
unfolding judged
judged-is meta log asked facts f = ap (λ x. judged_by x meta asked.who asked.moment asked.request) f

puts-brings : (meta : Records) (old new : LogSeen) (asked : Asked) (found : Judged) (result : Result Report ChangeFault)
    → Puts old (change_of meta asked found) found result new
    → BringsIf (change_lacks result) meta old asked (Ok found) result new
puts-brings meta old new asked found (Ok report) h = h
puts-brings meta old new asked found (Err (change.Refused refused)) h = absurd h
puts-brings meta old new asked found (Err (change.LogFull limit)) h = h
puts-brings meta old new asked found (Err change.StoreFault) h = h
puts-brings meta old new asked found (Err change.Memory) h = h

pub brings-put : (meta : Records) (old new : LogSeen) (asked : Asked) (user : Option (List ℕ)) (facts : Facts) (found : Judged)
    (result : Result Report ChangeFault)
    → user ≡ maker_of meta asked.who → facts ≡ facts_in (writes_of old.changes) → judged_by facts meta asked.who asked.moment asked.request ≡ Ok found
    → Puts old (record { user = user; moment = asked.moment; writes = found.writes }) found result new → Brings meta old asked result new
brings-put meta old new asked user facts found result u f h p =
    subst (λ (v : Result Judged Refusal). BringsIf (change_lacks result) meta old asked v result new) (sym h ∙ judged-is meta old.changes asked facts f)
    (puts-brings meta old new asked found result (subst (λ (x : Option (List ℕ)).
    Puts old (record { user = x; moment = asked.moment; writes = found.writes }) found result new) u p))

pub brings-refused : (meta : Records) (log : LogSeen) (asked : Asked) (facts : Facts) (refused : Refusal) → facts ≡ facts_in (writes_of log.changes)
    → judged_by facts meta asked.who asked.moment asked.request ≡ Err refused → Brings meta log asked (Err (change.Refused refused)) log
brings-refused meta log asked facts refused f h =
    subst (λ (v : Result Judged Refusal). BringsBy meta log asked v (Err (change.Refused refused)) log) (sym h
    ∙ judged-is meta log.changes asked facts f) (refl, refl)

pub brings-fault : (meta : Records) (log : LogSeen) (asked : Asked) (facts : Facts) (met : JudgeFault) → facts ≡ facts_in (writes_of log.changes)
    → IsCause (judged_by facts meta asked.who asked.moment asked.request) (cause_of met) → Brings meta log asked (Err (fault_by met)) log
brings-fault meta log asked facts (judge.Refused refused) f h = brings-refused meta log asked facts refused f h
brings-fault meta log asked facts judge.Memory f h = refl

-- ---- the same beside the tables

same-state : (shown : Shown) (old new : LogSeen) → new.changes ≡ old.changes → state_of new.changes shown ≡ state_of old.changes shown
same-state shown old new is = ap (λ l. state_of l shown) is

-- the state after a change, by what the request comes to
abbrev after-by : Records → State → Asked → Result Judged Refusal → Result Report ChangeFault → State
after-by meta old asked found (Ok report) = record old { log = log_by meta old.log asked found }
after-by meta old asked found (Err fault) = old

abbrev StepFrom : Records → Limits → State → Asked → Result Judged Refusal → Result Report ChangeFault → State → Type 0
StepFrom meta limits old asked found result new =
    StepBy (change_lacks result) (IsReplyBy meta limits old.log asked found result) (after-by meta old asked found result) old new

put-step : (meta : Records) (shown : Shown) (old new : LogSeen) (asked : Asked) (found : Judged) (result : Result Report ChangeFault)
    → BringsIf (change_lacks result) meta old asked (Ok found) result new
    → StepFrom meta old.limits (state_of old.changes shown) asked (Ok found) result (state_of new.changes shown)
put-step meta shown old new asked found (Ok report) h = (h.0, ap (λ l. state_of l shown) h.1.0)
put-step meta shown old new asked found (Err (change.Refused refused)) h = absurd h
put-step meta shown old new asked found (Err (change.LogFull limit)) h = (h.0, same-state shown old new (ap (λ (l : LogSeen). l.changes) h.1))
put-step meta shown old new asked found (Err change.StoreFault) h = (h.0, same-state shown old new (ap (λ (l : LogSeen). l.changes) h.1.1.1))
put-step meta shown old new asked found (Err change.Memory) h = same-state shown old new (ap (λ (l : LogSeen). l.changes) h)

refused-step : (meta : Records) (shown : Shown) (old new : LogSeen) (asked : Asked) (refused : Refusal) (result : Result Report ChangeFault)
    → BringsIf (change_lacks result) meta old asked (Err refused) result new
    → StepFrom meta old.limits (state_of old.changes shown) asked (Err refused) result (state_of new.changes shown)
refused-step meta shown old new asked refused (Ok report) h = absurd (let e = h.0 in cc)
refused-step meta shown old new asked refused (Err (change.Refused other)) h = (h.0, same-state shown old new (ap (λ (l : LogSeen). l.changes) h.1))
refused-step meta shown old new asked refused (Err (change.LogFull limit)) h = absurd (let e = h.0 in cc)
refused-step meta shown old new asked refused (Err change.StoreFault) h = absurd (let e = h.0 in cc)
refused-step meta shown old new asked refused (Err change.Memory) h = same-state shown old new (ap (λ (l : LogSeen). l.changes) h)

step-by : (meta : Records) (shown : Shown) (old new : LogSeen) (asked : Asked) (found : Result Judged Refusal) (result : Result Report ChangeFault)
    → BringsIf (change_lacks result) meta old asked found result new
    → StepFrom meta old.limits (state_of old.changes shown) asked found result (state_of new.changes shown)
step-by meta shown old new asked (Ok found) result h = put-step meta shown old new asked found result h
step-by meta shown old new asked (Err refused) result h = refused-step meta shown old new asked refused result h

step-is : (meta : Records) (limits : Limits) (old new : State) (asked : Asked) (result : Result Report ChangeFault)
    → StepFrom meta limits old asked (judged_in meta old.log asked) result new → Step meta limits old (changed asked result) new
step-is meta limits old new asked (Ok report) h = h
step-is meta limits old new asked (Err (change.Refused refused)) h = h
step-is meta limits old new asked (Err (change.LogFull limit)) h = h
step-is meta limits old new asked (Err change.StoreFault) h = h
step-is meta limits old new asked (Err change.Memory) h = h

pub brings-step : (meta : Records) (shown : Shown) (old new : LogSeen) (asked : Asked) (result : Result Report ChangeFault) → Brings meta old asked result new
    → Step meta old.limits (state_of old.changes shown) (changed asked result) (state_of new.changes shown)
brings-step meta shown old new asked result h =
    step-is meta old.limits (state_of old.changes shown) (state_of new.changes shown) asked result
    (step-by meta shown old new asked (judged_in meta old.changes asked) result h)

put-brought : (meta : Records) (shown : Shown) (old new : LogSeen) (asked : Asked) (found : Judged) (result : Result Report ChangeFault)
    → BringsIf (change_lacks result) meta old asked (Ok found) result new → Brought (seen_of old meta shown) result (seen_of new meta shown)
put-brought meta shown old new asked found (Ok report) h = (
  ap (λ (l : Limits). record {
    state = state_of new.changes shown;
    tables = arc_value shown.tables;
    part = option_map part_in shown.latest;
    limits = l;
    meta = meta;
    acknowledged = new.acknowledged;
    kept = new.kept;
    faults =
        new.faults;
  }) h.1.1.0,
  h.1.1.1,
)
put-brought meta shown old new asked found (Err (change.Refused refused)) h = absurd h
put-brought meta shown old new asked found (Err (change.LogFull limit)) h = ap (λ (l : LogSeen). seen_of l meta shown) h.1
put-brought meta shown old new asked found (Err change.StoreFault) h = ((h.1.0, h.1.1.0), ap (λ (l : LogSeen). seen_of l meta shown) h.1.1.1)
put-brought meta shown old new asked found (Err change.Memory) h = ap (λ (l : LogSeen). seen_of l meta shown) h

refused-brought : (meta : Records) (shown : Shown) (old new : LogSeen) (asked : Asked) (refused : Refusal) (result : Result Report ChangeFault)
    → BringsIf (change_lacks result) meta old asked (Err refused) result new → Brought (seen_of old meta shown) result (seen_of new meta shown)
refused-brought meta shown old new asked refused (Ok report) h = absurd (let e = h.0 in cc)
refused-brought meta shown old new asked refused (Err (change.Refused other)) h = ap (λ (l : LogSeen). seen_of l meta shown) h.1
refused-brought meta shown old new asked refused (Err (change.LogFull limit)) h = absurd (let e = h.0 in cc)
refused-brought meta shown old new asked refused (Err change.StoreFault) h = absurd (let e = h.0 in cc)
refused-brought meta shown old new asked refused (Err change.Memory) h = ap (λ (l : LogSeen). seen_of l meta shown) h

brought-by : (meta : Records) (shown : Shown) (old new : LogSeen) (asked : Asked) (found : Result Judged Refusal) (result : Result Report ChangeFault)
    → BringsIf (change_lacks result) meta old asked found result new → Brought (seen_of old meta shown) result (seen_of new meta shown)
brought-by meta shown old new asked (Ok found) result h = put-brought meta shown old new asked found result h
brought-by meta shown old new asked (Err refused) result h = refused-brought meta shown old new asked refused result h

pub brings-brought : (meta : Records) (shown : Shown) (old new : LogSeen) (asked : Asked) (result : Result Report ChangeFault)
    → Brings meta old asked result new
    → Brought (seen_of old meta shown) result (seen_of new meta shown)
brings-brought meta shown old new asked result h = brought-by meta shown old new asked (judged_in meta old.changes asked) result h

-- a log of the same limits and changes
same-parts : (meta : Records) (shown : Shown) (old new : LogSeen) → IsWhole new → new.changes ≡ old.changes → new.limits ≡ old.limits → AreParts old meta shown
    → AreParts new meta shown
same-parts meta shown old new w c l p = record {
  whole = w;
  order = subst (λ x. IsInOrder new.limits (state_of x shown)) (sym c) (subst (λ x. IsInOrder x (state_of old.changes shown)) (sym l) p.order);
  shows = subst (λ x. Shows meta x shown) (sym c) p.shows;
}

first-of : (b : Bool) (log : List Change) (c : Change) (n : ℕ) → n ≤ length log → take n (if b then log ++ c ∷ [] else log) ≡ take n log
first-of true log c n h = take-append-le n log (c ∷ []) h
first-of false log c n h = refl

longer-by : (b : Bool) (log : List Change) (c : Change) → length log ≤ length (if b then log ++ c ∷ [] else log)
longer-by true log c = let e = length-append log (c ∷ []) in omega arith
longer-by false log c = omega arith

-- a log of the same limits with a change last, if it has writes
grown-parts : (meta : Records) (shown : Shown) (old new : LogSeen) (c : Change) → IsWhole new → new.changes ≡ grown old.changes c → new.limits ≡ old.limits
    → AreParts old meta shown
    → AreParts new meta shown
grown-parts meta shown old new c w is l p = record {
  whole = w;
  order = subst (λ x. IsInOrder new.limits (state_of x shown)) (sym is) (subst (λ x. IsInOrder x (state_of (grown old.changes c) shown)) (sym l)
      (longer_in_order old.limits (state_of old.changes shown) (grown old.changes c) (longer-by (has_writes c) old.changes c) p.order));
  shows = subst (λ x. Shows meta x shown) (sym is)
      (shows-longer meta old.limits old.changes (grown old.changes c) shown p.order (first-of (has_writes c) old.changes c) p.shows);
}

parts-by : (meta : Records) (shown : Shown) (old new : LogSeen) (asked : Asked) (found : Result Judged Refusal) (result : Result Report ChangeFault)
    → AreParts old meta shown
    → IsWhole new → BringsIf (change_lacks result) meta old asked found result new → AreParts new meta shown
parts-by meta shown old new asked (Ok found) (Ok report) p w h = grown-parts meta shown old new (change_of meta asked found) w h.1.0 h.1.1.0 p
parts-by meta shown old new asked (Ok found) (Err (change.Refused refused)) p w h = absurd h
parts-by meta shown old new asked (Ok found) (Err (change.LogFull limit)) p w h =
    same-parts meta shown old new w (ap (λ (l : LogSeen). l.changes) h.1) (ap (λ (l : LogSeen). l.limits) h.1) p
parts-by meta shown old new asked (Ok found) (Err change.StoreFault) p w h =
    same-parts meta shown old new w (ap (λ (l : LogSeen). l.changes) h.1.1.1) (ap (λ (l : LogSeen). l.limits) h.1.1.1) p
parts-by meta shown old new asked (Ok found) (Err change.Memory) p w h =
    same-parts meta shown old new w (ap (λ (l : LogSeen). l.changes) h) (ap (λ (l : LogSeen). l.limits) h) p
parts-by meta shown old new asked (Err refused) (Ok report) p w h =
    same-parts meta shown old new w (ap (λ (l : LogSeen). l.changes) h.1) (ap (λ (l : LogSeen). l.limits) h.1) p
parts-by meta shown old new asked (Err refused) (Err (change.Refused other)) p w h =
    same-parts meta shown old new w (ap (λ (l : LogSeen). l.changes) h.1) (ap (λ (l : LogSeen). l.limits) h.1) p
parts-by meta shown old new asked (Err refused) (Err (change.LogFull limit)) p w h =
    same-parts meta shown old new w (ap (λ (l : LogSeen). l.changes) h.1) (ap (λ (l : LogSeen). l.limits) h.1) p
parts-by meta shown old new asked (Err refused) (Err change.StoreFault) p w h =
    same-parts meta shown old new w (ap (λ (l : LogSeen). l.changes) h.1) (ap (λ (l : LogSeen). l.limits) h.1) p
parts-by meta shown old new asked (Err refused) (Err change.Memory) p w h =
    same-parts meta shown old new w (ap (λ (l : LogSeen). l.changes) h) (ap (λ (l : LogSeen). l.limits) h) p

pub brings-parts : (meta : Records) (shown : Shown) (old new : LogSeen) (asked : Asked) (result : Result Report ChangeFault) → AreParts old meta shown
    → IsWhole new
    → Brings meta old asked result new → AreParts new meta shown
brings-parts meta shown old new asked result p w h = parts-by meta shown old new asked (judged_in meta old.changes asked) result p w h

-- ---- the first changes of the log

few-over : (limits : Limits) (w b : ℕ) → over limits w b ≡ None → w ≤ limits.writes
few-over limits w b h = grind (arith, nat_tests)

pub whole-few : (log : LogSeen) → IsWhole log → length (writes_of log.changes) ≤ 4194304
unfolding passed
whole-few log h = let f = few-over log.limits (length (writes_of log.changes)) _ h.within in let l = h.limits.writes in omega arith

writes-parts : (n : ℕ) (log : List Change) → writes_of log ≡ writes_of (take n log) ++ writes_of (drop n log)
writes-parts n log = ap writes_of (sym (take-append-drop n log)) ∙ flat_map-append (λ (c : Change). c.writes) (take n log) (drop n log)

pub first-few : (n : ℕ) (log : List Change) → length (writes_of log) ≤ 4194304 → length (writes_of (take n log)) ≤ 4194304
first-few n log h = let e = ap length (writes-parts n log) in let f = length-append (writes_of (take n log)) (writes_of (drop n log)) in omega arith

pub first-fits : (n : ℕ) (log : List Change) → All WriteFits (writes_of log) → All WriteFits (writes_of (take n log))
first-fits n log h =
    let first = writes_of (take n log) in
    let e : take (length first) (writes_of log) ≡ first = ap (λ x. take (length first) x) (writes-parts n log)
    ∙ take_at first (writes_of (drop n log)) (length first) refl in
    subst (All WriteFits) e (All-take WriteFits (length first) (writes_of log) h)

-- ---- the changes after the first

pub rest-few : (n : ℕ) (log : List Change) → length (writes_of log) ≤ 4194304 → length (writes_of (drop n log)) ≤ 4194304
rest-few n log h = let e = ap length (writes-parts n log) in let f = length-append (writes_of (take n log)) (writes_of (drop n log)) in omega arith

pub rest-fits : (n : ℕ) (log : List Change) → All WriteFits (writes_of log) → All WriteFits (writes_of (drop n log))
rest-fits n log h =
    let first = writes_of (take n log) in
    let e : drop (length first) (writes_of log) ≡ writes_of (drop n log) = ap (λ x. drop (length first) x) (writes-parts n log)
    ∙ drop_at first (writes_of (drop n log)) (length first) refl in
    subst (All WriteFits) e (All-drop WriteFits (length first) (writes_of log) h)
