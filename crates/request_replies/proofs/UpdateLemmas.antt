-- Facts on updates.
use Rattle.std.proofs.Common.{◌≡◌, ◌∙◌, ℕ, Bool, List, Ok, Err, Result, Option, Some, IfOk, sym, ap, subst, refl}
use Rattle.std.specs.Prelude.{IsTrue, max}
use Rattle.dh_base.specs.declared.plain.CutKind.{CutKind}
use Rattle.dh_base.specs.declared.plain.CutKind.TheVariants.{Full, Latest}
use Rattle.dh_metadata.specs.declared.held.Records.{Records}
use Rattle.change_log.specs.declared.limits.Limits.{Limits}
use Rattle.engine.specs.declared.machine.Staged.{Staged}
use Rattle.engine.specs.declared.machine.Cut.{Cut}
use Rattle.engine.specs.declared.machine.CutFault.{CutFault}
use Rattle.engine.specs.Machine.{State, Step, staged_of, is_begun, number_of}
use Rattle.engine.specs.Machine.Act.{begun}
use Rattle.engine.specs.Seen.{Seen, IsSound, update_in}
use Rattle.engine.proofs.HistoryLaws.{staged-is-begun, number-is}
use Rattle.request_replies.specs.Texts.{IsTold, cut_text}
use Rattle.request_replies.specs.Updates.{Ends, OwnUpdateReply}

abbrev update-with : ℕ → ℕ → Staged
update-with ticket number = record { ticket = ticket; number = number }

pub begun_by : (state : State) (kind : CutKind) (ticket number : ℕ) → staged_of state kind ≡ Some (record { ticket = ticket; number = number })
    → IsTrue (is_begun state ticket)
begun_by state kind ticket number is = staged-is-begun state kind (update-with ticket number) is

pub swap_number : (seen : Seen) (kind : CutKind) (ticket number published : ℕ) → IsSound seen
    → staged_of seen.state kind ≡ Some (record { ticket = ticket; number = number })
    → published ≡ max seen.state.published number → published ≡ max seen.state.published (number_of seen.state ticket)
swap_number seen kind ticket number published sound staged is =
    is ∙ ap (max seen.state.published) (sym (number-is seen.limits seen.state kind (update-with ticket number) sound.order staged))

cut-staged : (meta : Records) (limits : Limits) (old between : State) (kind : CutKind) (update : Staged) → Step meta limits old (begun kind (Ok update)) between
    → staged_of between kind ≡ Some update
cut-staged meta limits old between Full update step = ap (λ (s : State). s.full) step.1
cut-staged meta limits old between Latest update step = ap (λ (s : State). s.latest) step.1

-- an update that was cut is staged
pub cut_begins : (meta : Records) (limits : Limits) (old between : State) (kind : CutKind) (found : Result Cut CutFault)
    → Step meta limits old (begun kind (update_in found)) between
    → IfOk found (λ begun. staged_of between kind ≡ Some (record { ticket = begun.ticket; number = begun.number }))
cut_begins meta limits old between kind (Ok found) step = cut-staged meta limits old between kind (update-with found.ticket found.number) step
cut_begins meta limits old between kind (Err fault) step = tt

-- two calls that keep all but the state, the tables and the part that is begun keep all but these
pub same_twice : (old between new : Seen) → between ≡ record old { state = between.state; tables = between.tables; part = between.part }
    → new ≡ record between { state = new.state; tables = new.tables; part = new.part }
    → new ≡ record old { state = new.state; tables = new.tables; part = new.part }
same_twice old between new first second = second
    ∙ ap (λ (s : Seen). record s { state = new.state; tables = new.tables; part = new.part }) first

pub refused_of : (meta : Records) (limits : Limits) (kind : CutKind) (keep : Bool) (found : Result Cut CutFault) (fault : CutFault) (later : State)
    (text : Option (List ℕ))
    → found ≡ Err fault → IsTold text (cut_text keep fault) → Ends meta limits kind keep (update_in found) later text later
refused_of meta limits kind keep found fault later text is tells =
    subst (λ (f : Result Cut CutFault). Ends meta limits kind keep (update_in f) later text later) (sym is) (refl, tells)

ends-under : (meta meta' : Records) (limits limits' : Limits) (kind : CutKind) (keep : Bool) (found : Result Staged CutFault) (later : State)
    (text : Option (List ℕ)) (new : State)
    → meta ≡ meta' → limits ≡ limits' → Ends meta limits kind keep found later text new → Ends meta' limits' kind keep found later text new
ends-under meta meta' limits limits' kind keep found later text new m l ends =
    subst (λ (x : Records). Ends x limits' kind keep found later text new) m (subst (λ (x : Limits). Ends meta x kind keep found later text new) l ends)

-- a cut and its end, with nothing between
pub own_reply : (old between new : Seen) (kind : CutKind) (keep : Bool) (found : Result Cut CutFault) (text : Option (List ℕ))
    → Step old.meta old.limits old.state (begun kind (update_in found)) between.state
    → between ≡ record old { state = between.state; tables = between.tables; part = between.part }
    → Ends between.meta between.limits kind keep (update_in found) between.state text new.state
    → new ≡ record between { state = new.state; tables = new.tables; part = new.part }
    → OwnUpdateReply old kind keep text new
own_reply old between new kind keep found text begins first ends second = record {
  between = between.state;
  replies = record {
    found = update_in found;
    begins = begins;
    ends = ends-under between.meta old.meta between.limits old.limits kind keep (update_in found) between.state text new.state
        (ap (λ (s : Seen). s.meta) first) (ap (λ (s : Seen). s.limits) first) ends;
  };
  same = same_twice old between new first second;
}
