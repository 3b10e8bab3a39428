-- The numbers of a state stay in order.
use Rattle.std.proofs.Common.{◌≡◌, ◌≢◌, ◌∙◌, ◌≤◌, ◌+◌, ℕ, List, [], ◌∷◌, ◌++◌, length, sym, ap, subst, refl, arith, Bool, true, false, cond}
use Rattle.std.specs.Prelude.{◌==◌, Option, None, Some, Result, Ok, Err, IfSome, IfOk, IsTrue, if◌then◌else◌, max, option_map}
use Rattle.std.proofs.Math.Nat.{le-max_left, le-max_right}
use Rattle.std.proofs.lemmas.Bool.Decides.{nat_tests}
use Rattle.std.proofs.lemmas.List.{length-append}
use Rattle.dh_base.specs.declared.codes.Refusal.{Refusal}
use Rattle.dh_base.specs.declared.memory.Memory.{Memory}
use Rattle.dh_base.specs.declared.plain.CutKind.{CutKind}
use Rattle.dh_base.specs.declared.plain.CutKind.TheVariants.{Full, Latest}
use Rattle.dh_changes.specs.declared.change.Change.{Change}
use Rattle.dh_metadata.specs.declared.held.Records.{Records}
use Rattle.change_log.specs.declared.limits.Limits.{Limits}
use Rattle.engine.specs.Requests.{Asked}
use Rattle.engine.specs.declared.request.Judged.{Judged}
use Rattle.engine.specs.declared.machine.Staged.{Staged}
use Rattle.engine.specs.declared.machine.Report.{Report}
use Rattle.engine.specs.declared.machine.ChangeFault.{ChangeFault}
use Rattle.engine.specs.declared.machine.CutFault.{CutFault}
use Rattle.engine.specs.declared.machine.CutFault.TheVariants as cut
use Rattle.engine.specs.Machine.{State, judged_in, change_of, has_writes, log_by, by_kind, staged_of, with_staged, is_begun, kind_of, number_in, number_of}
use Rattle.engine.specs.Machine.{published_by, IsCutReply, after_cut, after_swap, after_drop, Act, IsReply, next}
use Rattle.engine.specs.Machine.Act.{changed, begun, swapped, dropped, looked}
use Rattle.engine.specs.Histories.{IsUpdate, IsInOrder}
use Rattle.engine.specs.Seen.{refused_by, Cuts, Swaps}

-- ---- a longer log

grows : (b : Bool) (log : List Change) (c : Change) → length log ≤ length (if b then log ++ c ∷ [] else log)
grows true log c = let e = length-append log (c ∷ []) in omega arith
grows false log c = omega arith

grows-by : (meta : Records) (log : List Change) (asked : Asked) (found : Result Judged Refusal) → length log ≤ length (log_by meta log asked found)
grows-by meta log asked (Ok found) = let c = change_of meta asked found in grows (has_writes c) log c
grows-by meta log asked (Err refused) = omega arith

still : (staged : Option Staged) (old new : State) → length old.log ≤ length new.log → old.ticket ≤ new.ticket → IfSome staged (IsUpdate old)
    → IfSome staged (IsUpdate new)
still None old new l t h = h
still (Some update) old new l t h = record { there = let r = h.there in omega arith; given = let r = h.given in omega arith }

pub longer_in_order : (limits : Limits) (old : State) (log : List Change) → length old.log ≤ length log → IsInOrder limits old
    → IsInOrder limits (record old { log = log })
longer_in_order limits old log l h = record {
  published = let p = h.published in omega arith;
  base_cut = h.base_cut;
  full = still old.full old (record old { log = log }) l (omega arith) h.full;
  latest = still old.latest old (record old { log = log }) l (omega arith) h.latest;
  apart = h.apart;
  tickets = h.tickets;
}

change-in-order : (meta : Records) (limits : Limits) (old : State) (asked : Asked) (reply : Result Report ChangeFault) → IsInOrder limits old
    → IsInOrder limits (next meta old (changed asked reply))
change-in-order meta limits old asked (Ok report) h =
    longer_in_order limits old (log_by meta old.log asked (judged_in meta old.log asked)) (grows-by meta old.log asked (judged_in meta old.log asked)) h
change-in-order meta limits old asked (Err fault) h = h

-- ---- an update is begun

-- no update that is begun has the next ticket
fresh-one : (staged : Option Staged) (state : State) → IfSome staged (IsUpdate state) → IfSome staged (λ one. one.ticket ≢ state.ticket + 1)
fresh-one None state h = tt
fresh-one (Some update) state h = λ e. let g = h.given in omega arith

fresh-other : (staged : Option Staged) (state : State) → IfSome staged (IsUpdate state) → IfSome staged (λ other. state.ticket + 1 ≢ other.ticket)
fresh-other None state h = tt
fresh-other (Some update) state h = λ e. let g = h.given in omega arith

cut-in-order : (limits : Limits) (old : State) (kind : CutKind) (update : Staged) → update ≡ record { ticket = old.ticket + 1; number = length old.log }
    → old.ticket ≢ limits.updates → IsInOrder limits old → IsInOrder limits (with_staged (record old { ticket = update.ticket }) kind (Some update))
cut-in-order limits old Full update is more h =
    let t = ap (λ (i : Staged). i.ticket) is in let n = ap (λ (i : Staged). i.number) is in
    record {
      published = h.published;
      base_cut = h.base_cut;
      full = record { there = omega arith; given = omega arith };
      latest = still old.latest old (record old { ticket = update.ticket; full = Some update }) (omega arith) (omega arith) h.latest;
      apart = subst (λ (x : ℕ). IfSome old.latest (λ other. x ≢ other.ticket)) (sym t) (fresh-other old.latest old h.latest);
      tickets = let q = h.tickets in omega arith;
    }
cut-in-order limits old Latest update is more h =
    let t = ap (λ (i : Staged). i.ticket) is in let n = ap (λ (i : Staged). i.number) is in
    record {
      published = h.published;
      base_cut = h.base_cut;
      full = still old.full old (record old { ticket = update.ticket; latest = Some update }) (omega arith) (omega arith) h.full;
      latest = record { there = omega arith; given = omega arith };
      apart = subst (λ (x : ℕ). IfSome old.full (λ one. one.ticket ≢ x)) (sym t) (fresh-one old.full old h.full);
      tickets = let q = h.tickets in omega arith;
    }

after-cut-in-order : (limits : Limits) (old : State) (kind : CutKind) (reply : Result Staged CutFault) → IsCutReply limits old kind reply → IsInOrder limits old
    → IsInOrder limits (after_cut old kind reply)
after-cut-in-order limits old kind (Ok update) r h = cut-in-order limits old kind update r.1.1 r.1.0 h
after-cut-in-order limits old kind (Err fault) r h = h

pub cuts_in_order : (limits : Limits) (old new : State) (kind : CutKind) (reply : Result Staged CutFault) → Cuts limits old kind reply new
    → IsInOrder limits old → IsInOrder limits new
cuts_in_order limits old new kind (Ok update) step h = subst (IsInOrder limits) (sym step.1) (after-cut-in-order limits old kind (Ok update) step.0 h)
cuts_in_order limits old new kind (Err (cut.Busy ticket)) step h = subst (IsInOrder limits) (sym step.1) h
cuts_in_order limits old new kind (Err (cut.UpdatesSpent limit)) step h = subst (IsInOrder limits) (sym step.1) h
cuts_in_order limits old new kind (Err cut.Memory) step h = subst (IsInOrder limits) (sym step) h

-- ---- no update of a kind is begun any more

none-apart : (staged none : Option Staged) → none ≡ None → IfSome staged (λ one. IfSome none (λ other. one.ticket ≢ other.ticket))
none-apart None none is = tt
none-apart (Some one) None is = tt
none-apart (Some one) (Some other) is = absurd (cc)

ended-in-order : (limits : Limits) (old : State) (kind : CutKind) → IsInOrder limits old → IsInOrder limits (with_staged old kind None)
ended-in-order limits old Full h = record {
  published = h.published;
  base_cut = h.base_cut;
  full = tt;
  latest = still old.latest old (record old { full = None }) (omega arith) (omega arith) h.latest;
  apart = tt;
  tickets = h.tickets;
}
ended-in-order limits old Latest h = record {
  published = h.published;
  base_cut = h.base_cut;
  full = still old.full old (record old { latest = None }) (omega arith) (omega arith) h.full;
  latest = tt;
  apart = none-apart old.full None refl;
  tickets = h.tickets;
}

pub drop_in_order : (limits : Limits) (old new : State) (ticket : ℕ) → new ≡ after_drop old ticket → IsInOrder limits old → IsInOrder limits new
drop_in_order limits old new ticket is h = subst (IsInOrder limits) (sym is) (ended-in-order limits old (kind_of old ticket) h)

number-there : (staged : Option Staged) (state : State) → IfSome staged (IsUpdate state) → number_in staged ≤ length state.log
number-there None state h = omega arith
number-there (Some update) state h = h.there

staged-there : (state : State) (kind : CutKind) → IfSome state.full (IsUpdate state) → IfSome state.latest (IsUpdate state)
    → number_in (staged_of state kind) ≤ length state.log
staged-there state Full f l = number-there state.full state f
staged-there state Latest f l = number-there state.latest state l

max-least : (a b c : ℕ) → a ≤ c → b ≤ c → max a b ≤ c
max-least a b c = grind (arith, nat_tests)

pub swap_is_there : (limits : Limits) (state : State) (ticket : ℕ) → IsInOrder limits state → max state.published (number_of state ticket) ≤ length state.log
swap_is_there limits state ticket h =
    max-least state.published (number_of state ticket) (length state.log) h.published (staged-there state (kind_of state ticket) h.full h.latest)

base-below : (kind : CutKind) (number base published : ℕ) → base ≤ published → by_kind kind number base ≤ max published number
base-below Full number base published h = le-max_right published number
base-below Latest number base published h = let m = le-max_left published number in omega arith

published-in-order : (limits : Limits) (old : State) (kind : CutKind) (number published : ℕ) → published ≡ max old.published number → published ≤ length old.log
    → IsInOrder limits old
    → IsInOrder limits (record old { published = published; base_cut = by_kind kind number old.base_cut })
published-in-order limits old kind number published is there h = record {
  published = there;
  base_cut = let b = base-below kind number old.base_cut old.published h.base_cut in omega (arith, is);
  full = still old.full old (record old { published = published; base_cut = by_kind kind number old.base_cut }) (omega arith) (omega arith) h.full;
  latest = still old.latest old (record old { published = published; base_cut = by_kind kind number old.base_cut }) (omega arith) (omega arith) h.latest;
  apart = h.apart;
  tickets = h.tickets;
}

after-swap-in-order : (limits : Limits) (old : State) (ticket published : ℕ) → published ≡ max old.published (number_of old ticket) → IsInOrder limits old
    → IsInOrder limits (after_swap old ticket (Ok published))
after-swap-in-order limits old ticket published is h =
    let kind = kind_of old ticket in let number = number_of old ticket in
    ended-in-order limits (record old { published = published; base_cut = by_kind kind number old.base_cut }) kind
    (published-in-order limits old kind number published is (let t = swap_is_there limits old ticket h in omega (arith, is)) h)

pub swaps_in_order : (limits : Limits) (old new : State) (ticket : ℕ) (reply : Result ℕ Memory) → Swaps old ticket reply new → IsInOrder limits old
    → IsInOrder limits new
swaps_in_order limits old new ticket (Ok published) step h = subst (IsInOrder limits) (sym step.1) (after-swap-in-order limits old ticket published step.0.1 h)
swaps_in_order limits old new ticket (Err memory) step h = subst (IsInOrder limits) (sym step) h

pub swap_rises : (old new : State) (ticket : ℕ) (reply : Result ℕ Memory) → Swaps old ticket reply new → IfOk reply (λ published. old.published ≤ published)
swap_rises old new ticket (Ok published) step = let m = le-max_left old.published (number_of old ticket) in let e = step.0.1 in omega arith
swap_rises old new ticket (Err memory) step = tt

-- ---- each reply

pub reply-in-order : (meta : Records) (limits : Limits) (old : State) (act : Act) → IsReply meta limits old act → IsInOrder limits old
    → IsInOrder limits (next meta old act)
reply-in-order meta limits old (changed asked reply) r h = change-in-order meta limits old asked reply h
reply-in-order meta limits old (begun kind reply) r h = after-cut-in-order limits old kind reply r h
reply-in-order meta limits old (swapped ticket (Ok published)) r h = after-swap-in-order limits old ticket published r.1 h
reply-in-order meta limits old (swapped ticket (Err memory)) r h = h
reply-in-order meta limits old (dropped ticket) r h = ended-in-order limits old (kind_of old ticket) h
reply-in-order meta limits old (looked asked reply) r h = h

-- ---- a cut, from what its parts do

busy : (update : Staged) (fault : CutFault) → Some (cut.Busy update.ticket) ≡ Some fault → fault ≡ cut.Busy update.ticket
busy update fault is = cc

spent : (ticket limit : ℕ) (b : Bool) (fault : CutFault) → cond b (Some (cut.UpdatesSpent limit)) None ≡ Some fault
    → (b ≡ true) × (fault ≡ cut.UpdatesSpent limit)
spent ticket limit true fault is = (refl, cc)
spent ticket limit false fault is = absurd (cc)

refused-by : (limits : Limits) (state : State) (kind : CutKind) (staged : Option Staged) (fault : CutFault) → staged_of state kind ≡ staged
    → refused_by staged state.ticket limits.updates ≡ Some fault → Cuts limits state kind (Err fault) state
refused-by limits state kind (Some update) fault is refused =
    subst (λ f. Cuts limits state kind (Err f) state) (sym (busy update fault refused)) (ap (option_map (λ (u : Staged). u.ticket)) is, refl)
refused-by limits state kind None fault is refused =
    let two = spent state.ticket limits.updates (state.ticket == limits.updates) fault refused in
    let same : state.ticket ≡ limits.updates = let e = two.0 in grind (arith, nat_tests) in
    subst (λ f. Cuts limits state kind (Err f) state) (sym two.1) ((is, (same, refl)), refl)

pub refused_cuts : (limits : Limits) (state : State) (kind : CutKind) (fault : CutFault)
    → refused_by (staged_of state kind) state.ticket limits.updates ≡ Some fault
    → Cuts limits state kind (Err fault) state
refused_cuts limits state kind fault refused = refused-by limits state kind (staged_of state kind) fault refl refused

free : (staged : Option Staged) (ticket limit : ℕ) → refused_by staged ticket limit ≡ None → (staged ≡ None) × (ticket ≢ limit)
free (Some update) ticket limit is = absurd (cc)
free None ticket limit is = (refl, λ e. let same : (ticket == limit) ≡ true = grind (arith, nat_tests) in absurd (cc))

abbrev update-with : ℕ → ℕ → Staged
update-with ticket number = record { ticket = ticket; number = number }

pub begun_cuts : (limits : Limits) (old new : State) (kind : CutKind) (ticket number : ℕ) → refused_by (staged_of old kind) old.ticket limits.updates ≡ None
    → ticket ≡ old.ticket + 1 → number ≡ length old.log → new ≡ after_cut old kind (Ok (update-with (old.ticket + 1) number))
    → Cuts limits old kind (Ok (update-with ticket number)) new
begun_cuts limits old new kind ticket number none t n is =
    let two = free (staged_of old kind) old.ticket limits.updates none in (
      (two.0, (two.1, ap (λ x. update-with x number) t ∙ ap (update-with (old.ticket + 1)) n)),
      is ∙ ap (λ x. after_cut old kind (Ok (update-with x number))) (sym t),
    )

-- ---- a swap, from what its parts do

pub swaps_of : (old new : State) (ticket published number : ℕ) (kind : CutKind) → IsTrue (is_begun old ticket) → kind ≡ kind_of old ticket
    → number ≡ number_in (staged_of old kind)
    → published ≡ max old.published number → new ≡ with_staged (published_by old kind number published) kind None → Swaps old ticket (Ok published) new
swaps_of old new ticket published number kind owns k n p is =
    let number-is : number ≡ number_of old ticket = n ∙ ap (λ x. number_in (staged_of old x)) k in (
      (owns, p ∙ ap (max old.published) number-is),
      is ∙ ap (λ x. with_staged (published_by old x number published) x None) k
          ∙ ap (λ x. with_staged (published_by old (kind_of old ticket) x published) (kind_of old ticket) None) number-is,
    )
