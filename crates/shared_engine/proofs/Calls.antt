-- What one call under the lock does: the history goes on by its entry, and its caller is told so.
use Rattle.std.proofs.Common.{◌≡◌, ◌≤◌, ℕ, List, [], ◌∷◌, ◌++◌, Bool, true, false, cond}
use Rattle.std.proofs.Common.{Option, Some, None, IfSome, IsSome, append_assoc, append-nil, length, length-append}
use Rattle.std.proofs.Common.{inl, inr, refl, sym, ap, ◌∙◌, subst, arith, eq-eqb, le_refl, le_trans}
use Rattle.std.specs.Prelude.{Result, Ok, Err, ◌==◌, IsTrue, unwrap_or}
use Rattle.dh_base.specs.declared.memory.Memory.{Memory}
use Rattle.atomic_table.specs.Seated.{TableId}
use Rattle.shared_engine.specs.Views.{own, LockView, TokenView, Follows, IsOneOf}
use Rattle.shared_engine.proofs.Histories.{own-append}
use Rattle.std.proofs.lemmas.List.{take_all}
use Rattle.dh_metadata.specs.declared.held.Records.{Records}
use Rattle.change_log.specs.declared.limits.Limits.{Limits}
use Rattle.engine.specs.Requests.{Asked}
use Rattle.engine.specs.declared.machine.Report.{Report}
use Rattle.engine.specs.declared.machine.ChangeFault.{ChangeFault}
use Rattle.engine.specs.declared.machine.ChangeFault.TheVariants as change
use Rattle.engine.specs.declared.machine.LookFault.{LookFault}
use Rattle.engine.specs.declared.machine.Staged.{Staged}
use Rattle.engine.specs.declared.machine.CutFault.{CutFault}
use Rattle.engine.specs.declared.machine.CutFault.TheVariants as cut
use Rattle.dh_base.specs.declared.plain.CutKind.{CutKind}
use Rattle.dh_base.specs.declared.plain.CutKind.TheVariants.{Full, Latest}
use Rattle.engine.specs.Machine.{State, Act, IsReply, next, lacks_memory, Step, StepBy, by_kind, staged_of, changes_for, is_begun}
use Rattle.engine.specs.Machine.Act.{changed, begun, swapped, dropped, looked}
use Rattle.engine.specs.Seen.{Seen, Brought, IsCutOf, update_in}
use Rattle.engine.specs.declared.machine.Cut.{Cut}
use Rattle.dh_changes.specs.declared.change.Change.{Change}
use Rattle.engine.specs.Stands.{Stands}
use Rattle.engine.specs.Tables.{tables_of}
use Rattle.engine.specs.declared.machine.View.{View}
use Rattle.table_rows.specs.Store.{contents_in}
use Rattle.std.specs.Arc.{arc_value}
use Rattle.std.specs.Prelude.{take, IfOk}
use Rattle.shared_engine.specs.Entries.{Entry, caller_of, Stand, entries_if, entries_of, entry_by, entries_by, after_entries, IsRight, IsFault, Owns}
use Rattle.shared_engine.specs.Histories.{Made, begin, stand_of, IsLegal, StandsAt, IsRunning, IsBegunBy}
use Rattle.shared_engine.specs.Calls.{IsCall, IsUpdate, last_of, no_token}
use Rattle.shared_engine.specs.Builds.{IsCutBy}
use Rattle.shared_engine.specs.Ends.{staged_in, end_act, told_after, answer_of, Goes}
use Rattle.shared_engine.proofs.Growth.{after_both, legal_both, updates_stay, has_staged}

-- ---- an entry is added

pub is_one : (taken : Option ℕ) (added : List Entry) (act : Act) (faults : ℕ) → IsSome taken → added ≡ entry_by taken act faults ∷ []
    → IsOneOf caller_of taken added
is_one (Some caller) added act faults there is = (entry_by (Some caller) act faults, is, refl)
is_one None added act faults there is = absurd (cc)

pub none_added : (v : LockView Entry) (b : Bool) (e : Entry) → b ≡ true → v ≡ record v { list = v.list ++ entries_if b e }
none_added v b e is = ap (λ l. record v { list = l }) (sym (ap (λ b. v.list ++ entries_if b e) is ∙ append-nil v.list))

pub one_added : (v w : LockView Entry) (b : Bool) (e : Entry) → b ≡ false → w ≡ record v { list = v.list ++ e ∷ [] }
    → w ≡ record v { list = v.list ++ entries_if b e }
one_added v w b e is added = added ∙ ap (λ b. record v { list = v.list ++ entries_if b e }) (sym is)

-- the token of a pass, which was taken out of it
pub token_out : (made : Made) (held taken : Option (TokenView Entry)) (token pass : TokenView Entry) → taken ≡ held → taken ≡ Some token
    → unwrap_or held no_token ≡ pass → (unwrap_or held no_token).table ≡ made.table → (token ≡ pass) × (token.table ≡ made.table)
token_out made held taken token pass same is view table =
    let out : token ≡ unwrap_or held no_token = ap (λ (o : Option (TokenView Entry)). unwrap_or o no_token) (sym is ∙ same) in
    (out ∙ view, ap (λ (t : TokenView Entry). t.table) out ∙ table)

-- the entry of the caller who is taken in may be added
pub may_add : (made : Made) (engine : Seen) (l0 l1 : LockView Entry) (table : TableId) (caller : ℕ) → IsRunning made engine l0 → table ≡ made.table
    → l1 ≡ record l0 { taken = Some caller } → (l1.table ≡ table) × IsSome l1.taken
may_add made engine l0 l1 table caller running is taken =
    (ap (λ (l : LockView Entry). l.table) taken ∙ running.table ∙ sym is, subst (λ (l : LockView Entry). IsSome l.taken) (sym taken) refl)

own_entries : (b : Bool) (e : Entry) → own caller_of e.caller (entries_if b e) ≡ entries_if b e
own_entries true e = refl
own_entries false e = ap (λ b. cond b (e ∷ []) []) (eq-eqb e.caller e.caller refl)

-- the last of no entry or one
last_if : (b : Bool) (e : Entry) → last_of (entries_if b e) ≡ entries_if b e
last_if true e = refl
last_if false e = refl

-- ---- the engine makes a step

no_lack : false ≡ true → ⊥
no_lack e = absurd (cc)

pub change_goes : (old new : Seen) (asked : Asked) (reply : Result Report ChangeFault) → Step old.meta old.limits old.state (changed asked reply) new.state
    → Brought old reply new → Goes old (changed asked reply) new
change_goes old new asked (Ok report) step b = record {
  step = step;
  meta = ap (λ (s : Seen). s.meta) b.0;
  limits = ap (λ (s : Seen). s.limits) b.0;
  count = b.1.0;
  fault = tt;
  still = λ e. absurd (no_lack e);
}
change_goes old new asked (Err (change.Refused refused)) step b = record {
  step = step;
  meta = ap (λ (s : Seen). s.meta) b;
  limits = ap (λ (s : Seen). s.limits) b;
  count = subst (λ (s : Seen). old.faults ≤ s.faults) (sym b) (le_refl old.faults);
  fault = tt;
  still = λ e. absurd (no_lack e);
}
change_goes old new asked (Err (change.LogFull limit)) step b = record {
  step = step;
  meta = ap (λ (s : Seen). s.meta) b;
  limits = ap (λ (s : Seen). s.limits) b;
  count = subst (λ (s : Seen). old.faults ≤ s.faults) (sym b) (le_refl old.faults);
  fault = tt;
  still = λ e. absurd (no_lack e);
}
change_goes old new asked (Err change.StoreFault) step b = record {
  step = step;
  meta = ap (λ (s : Seen). s.meta) b.1;
  limits = ap (λ (s : Seen). s.limits) b.1;
  count = b.0.1;
  fault = b.0.0;
  still = λ e. absurd (no_lack e);
}
change_goes old new asked (Err change.Memory) step b = record {
  step = step;
  meta = ap (λ (s : Seen). s.meta) b;
  limits = ap (λ (s : Seen). s.limits) b;
  count = subst (λ (s : Seen). old.faults ≤ s.faults) (sym b) (le_refl old.faults);
  fault = tt;
  still = λ e. ap (λ (s : Seen). s.faults) b;
}

pub change_published : (old new : Seen) (asked : Asked) (reply : Result Report ChangeFault) → Step old.meta old.limits old.state (changed asked reply) new.state
    → new.state.published ≡ old.state.published
change_published old new asked (Ok report) step = ap (λ (s : State). s.published) step.1
change_published old new asked (Err (change.Refused refused)) step = ap (λ (s : State). s.published) step.1
change_published old new asked (Err (change.LogFull limit)) step = ap (λ (s : State). s.published) step.1
change_published old new asked (Err change.StoreFault) step = ap (λ (s : State). s.published) step.1
change_published old new asked (Err change.Memory) step = ap (λ (s : State). s.published) step

pub look_goes : (seen : Seen) (asked : ℕ) (reply : Result ℕ LookFault) → Step seen.meta seen.limits seen.state (looked asked reply) seen.state
    → Goes seen (looked asked reply) seen
look_goes seen asked reply step =
    record { step = step; meta = refl; limits = refl; count = le_refl seen.faults; fault = tt; still = λ e. refl }

stands_on : (made : Made) (old new : Seen) (list : List Entry) (caller : ℕ) (act : Act) → StandsAt made old list → Goes old act new
    → Owns (stand_of made list).owner caller act → StandsAt made new (list ++ entries_of caller act new.faults)
stands_on made old new list caller act s g owns = go (lacks_memory act) refl g.step
  where
    go : (b : Bool) → lacks_memory act ≡ b
        → StepBy b (IsReply old.meta old.limits old.state act) (next old.meta old.state act) old.state new.state
        → StandsAt made new (list ++ entries_if (lacks_memory act) (record { caller = caller; act = act; faults = new.faults }))
    go true lacks step =
        let same : list ++ entries_if (lacks_memory act) (record { caller = caller; act = act; faults = new.faults }) ≡ list =
        ap (λ b. list ++ entries_if b (record { caller = caller; act = act; faults = new.faults })) lacks ∙ append-nil list in
        subst (λ (l : List Entry). StandsAt made new l) (sym same) (record {
          meta = g.meta ∙ s.meta;
          limits = g.limits ∙ s.limits;
          legal = s.legal;
          state = step ∙ s.state;
          faults = g.still lacks ∙ s.faults;
        })
    go false lacks step =
        let e : Entry = record { caller = caller; act = act; faults = new.faults } in
        let stand : Stand = stand_of made list in
        let reply = subst (λ (m : Records). IsReply m made.limits stand.machine act) s.meta
        (subst (λ (l : Limits). IsReply old.meta l stand.machine act) s.limits
        (subst (λ (st : State). IsReply old.meta old.limits st act) s.state step.0)) in
        let right : IsRight made.meta made.limits stand e = record {
          reply = reply;
          count = subst (λ (n : ℕ). n ≤ new.faults) s.faults g.count;
          fault = subst (λ (n : ℕ). IsFault act n new.faults) s.faults g.fault;
          owns = owns;
        } in
        let after : stand_of made (list ++ e ∷ []) ≡ after_entries made.meta stand (e ∷ []) = after_both made.meta (begin made.opening) list (e ∷ []) in
        subst (λ (b : Bool). StandsAt made new (list ++ entries_if b e)) (sym lacks) (record {
          meta = g.meta ∙ s.meta;
          limits = g.limits ∙ s.limits;
          legal = legal_both made.meta made.limits (begin made.opening) list (e ∷ []) s.legal (right, tt);
          state = step.1 ∙ ap (λ (m : Records). next m old.state act) s.meta ∙ ap (λ (st : State). next made.meta st act) s.state
              ∙ sym (ap (λ (st : Stand). st.machine) after);
          faults = sym (ap (λ (st : Stand). st.faults) after);
        })

-- ---- a whole call

module _ (made : Made) (engine new : Seen) (old lock : LockView Entry) (token now : TokenView Entry) (act : Act) (told : ℕ)
    (running : IsRunning made engine old) (follows : Follows caller_of token (record old { taken = Some token.caller })) (goes : Goes engine act new)
    (owns : Owns (stand_of made old.list).owner token.caller act) (rises : old.told ≤ told) (published : told ≡ new.state.published)
    (lock_is : lock ≡ record old { list = old.list ++ entries_of token.caller act new.faults; taken = None; told = told })
    (now_is : now ≡ record { table = old.table; caller = token.caller; list = old.list ++ entries_of token.caller act new.faults; told = told })
    (table : token.table ≡ made.table) where
  stands : StandsAt made new (old.list ++ entries_of token.caller act new.faults)
  stands = stands_on made engine new old.list token.caller act running.stands goes owns

  pub still_running : IsRunning made new lock
  still_running = subst (λ (l : LockView Entry). IsRunning made new l) (sym lock_is)
      (record { table = running.table; nobody = refl; stands = stands; told = published })

  pub is_call : IsCall made token now (entries_of token.caller act new.faults)
  is_call =
      let es : List Entry = entries_of token.caller act new.faults in
      subst (λ (n : TokenView Entry). IsCall made token n es) (sym now_is) (record {
        table = running.table ∙ sym table;
        caller = refl;
        front = (follows.front.0 ++ es, sym (append_assoc token.list follows.front.0 es) ∙ ap (λ l. l ++ es) follows.front.1);
        legal = stands.legal;
        mine = own-append caller_of token.caller old.list es ∙ ap (λ l. l ++ own caller_of token.caller es) follows.same
            ∙ ap (λ l. own caller_of token.caller token.list ++ l)
            (own_entries (lacks_memory act) (record { caller = token.caller; act = act; faults = new.faults }));
        least = le_trans follows.told rises;
        told = published ∙ ap (λ (s : State). s.published) stands.state;
        last = (
          old.list,
          ap (λ l. old.list ++ l) (sym (last_if (lacks_memory act) (record { caller = token.caller; act = act; faults = new.faults }))),
        );
      })

-- the same from what each call under the lock says
pub call_made : (made : Made) (engine new : Seen) (l0 l1 l2 l3 : LockView Entry) (token now : TokenView Entry) (act : Act) (told : ℕ)
    → IsRunning made engine l0 → token.table ≡ made.table → l1 ≡ record l0 { taken = Some token.caller } → Follows caller_of token l1
    → Goes engine act new → Owns (stand_of made l0.list).owner token.caller act → l0.told ≤ told → told ≡ new.state.published
    → l2 ≡ record l1 { list = l1.list ++ entries_by l1.taken act new.faults; told = told } → l3 ≡ record l2 { taken = None }
    → IfSome l2.taken (λ caller. now ≡ record { table = l2.table; caller = caller; list = l2.list; told = l2.told })
    → IsRunning made new l3 × IsCall made token now (entries_of token.caller act new.faults) × (now.list ≡ l3.list) × (now.told ≡ l3.told)
    × (now.list ≡ l0.list ++ entries_of token.caller act new.faults)
call_made made engine new l0 l1 l2 l3 token now act told running table taken follows goes owns rises published noted back given =
    let l2_is : l2 ≡ record l0 { taken = Some token.caller; list = l0.list ++ entries_of token.caller act new.faults; told = told } =
    noted ∙ ap (λ (l : LockView Entry). record l { list = l.list ++ entries_by l.taken act new.faults; told = told }) taken in
    let l3_is : l3 ≡ record l0 { list = l0.list ++ entries_of token.caller act new.faults; taken = None; told = told } =
    back ∙ ap (λ (l : LockView Entry). record l { taken = None }) l2_is in
    let now_is : now ≡ record { table = l0.table; caller = token.caller; list = l0.list ++ entries_of token.caller act new.faults; told = told } =
    subst (λ (l : LockView Entry). IfSome l.taken (λ caller. now ≡ record { table = l.table; caller = caller; list = l.list; told = l.told })) l2_is given in
    let from = subst (λ (l : LockView Entry). Follows caller_of token l) taken follows in (
      still_running made engine new l0 l3 token now act told running from goes owns rises published l3_is now_is table,
      is_call made engine new l0 l3 token now act told running from goes owns rises published l3_is now_is table,
      ap (λ (t : TokenView Entry). t.list) now_is ∙ sym (ap (λ (l : LockView Entry). l.list) l3_is),
      ap (λ (t : TokenView Entry). t.told) now_is ∙ sym (ap (λ (l : LockView Entry). l.told) l3_is),
      ap (λ (t : TokenView Entry). t.list) now_is,
    )

-- a call that publishes nothing
pub quiet_made : (made : Made) (engine new : Seen) (l0 l1 l2 l3 : LockView Entry) (token now : TokenView Entry) (act : Act)
    → IsRunning made engine l0 → token.table ≡ made.table → l1 ≡ record l0 { taken = Some token.caller } → Follows caller_of token l1
    → Goes engine act new → Owns (stand_of made l0.list).owner token.caller act → new.state.published ≡ engine.state.published
    → l2 ≡ record l1 { list = l1.list ++ entries_by l1.taken act new.faults } → l3 ≡ record l2 { taken = None }
    → IfSome l2.taken (λ caller. now ≡ record { table = l2.table; caller = caller; list = l2.list; told = l2.told })
    → IsRunning made new l3 × IsCall made token now (entries_of token.caller act new.faults) × (now.list ≡ l3.list) × (now.told ≡ l3.told)
    × (now.list ≡ l0.list ++ entries_of token.caller act new.faults)
quiet_made made engine new l0 l1 l2 l3 token now act running table taken follows goes owns published noted back given =
    let l1_told : l1.told ≡ l0.told = ap (λ (l : LockView Entry). l.told) taken in
    call_made made engine new l0 l1 l2 l3 token now act l0.told running table taken follows goes owns (le_refl l0.told) (running.told ∙ sym published)
    (noted ∙ ap (λ n. record l1 { list = l1.list ++ entries_by l1.taken act new.faults; told = n }) l1_told) back given

pub change_made : (made : Made) (engine new : Seen) (l0 l1 l2 l3 : LockView Entry) (token now : TokenView Entry) (asked : Asked)
    (reply : Result Report ChangeFault) → IsRunning made engine l0 → token.table ≡ made.table → l1 ≡ record l0 { taken = Some token.caller }
    → Follows caller_of token l1 → Step engine.meta engine.limits engine.state (changed asked reply) new.state → Brought engine reply new
    → l2 ≡ record l1 { list = l1.list ++ entries_by l1.taken (changed asked reply) new.faults } → l3 ≡ record l2 { taken = None }
    → IfSome l2.taken (λ caller. now ≡ record { table = l2.table; caller = caller; list = l2.list; told = l2.told })
    → IsRunning made new l3 × IsCall made token now (entries_of token.caller (changed asked reply) new.faults)
    × (now.list ≡ l3.list) × (now.told ≡ l3.told) × (now.list ≡ l0.list ++ entries_of token.caller (changed asked reply) new.faults)
change_made made engine new l0 l1 l2 l3 token now asked reply running table taken follows step brought noted back given =
    quiet_made made engine new l0 l1 l2 l3 token now (changed asked reply) running table taken follows (change_goes engine new asked reply step brought) tt
    (change_published engine new asked reply step) noted back given

pub look_made : (made : Made) (engine : Seen) (l0 l1 l2 l3 : LockView Entry) (token now : TokenView Entry) (asked : ℕ)
    (reply : Result ℕ LookFault) → IsRunning made engine l0 → token.table ≡ made.table → l1 ≡ record l0 { taken = Some token.caller }
    → Follows caller_of token l1 → Step engine.meta engine.limits engine.state (looked asked reply) engine.state
    → l2 ≡ record l1 { list = l1.list ++ entries_by l1.taken (looked asked reply) engine.faults } → l3 ≡ record l2 { taken = None }
    → IfSome l2.taken (λ caller. now ≡ record { table = l2.table; caller = caller; list = l2.list; told = l2.told })
    → IsRunning made engine l3 × IsCall made token now (entries_of token.caller (looked asked reply) engine.faults)
    × (now.list ≡ l3.list) × (now.told ≡ l3.told) × (now.list ≡ l0.list ++ entries_of token.caller (looked asked reply) engine.faults)
look_made made engine l0 l1 l2 l3 token now asked reply running table taken follows step noted back given =
    quiet_made made engine engine l0 l1 l2 l3 token now (looked asked reply) running table taken follows (look_goes engine asked reply step) tt refl noted back
    given

-- what a look gives stands for the changes of the history as the call left it
pub look_tables : (made : Made) (engine : Seen) (lock : LockView Entry) (now : TokenView Entry) (reply : Result View LookFault) → IsRunning made engine lock
    → now.list ≡ lock.list → IfOk reply (λ view. contents_in (arc_value view.tables).all ≡ tables_of engine.meta (take view.published engine.state.log))
    → IfOk reply (λ view. contents_in (arc_value view.tables).all ≡ tables_of made.meta (take view.published (stand_of made now.list).machine.log))
look_tables made engine lock now (Ok view) r same h =
    h ∙ ap (λ (m : Records). tables_of m (take view.published engine.state.log)) r.stands.meta
    ∙ ap (λ (s : State). tables_of made.meta (take view.published s.log)) (r.stands.state ∙ ap (λ l. (stand_of made l).machine) (sym same))
look_tables made engine lock now (Err fault) r same h = tt

-- the view's tables are those that the machine serves
pub look_served : (engine : Seen) (reply : Result View LookFault) → IfOk reply (λ view. arc_value view.tables ≡ engine.tables)
    → IfOk reply (λ view. view.published ≡ engine.state.published)
    → Stands engine.meta engine.state.log engine.state.base_cut engine.state.published engine.tables
    → IfOk reply (λ view. Stands engine.meta engine.state.log engine.state.base_cut view.published (arc_value view.tables))
look_served engine (Ok view) same number holds =
    subst (λ (n : ℕ). Stands engine.meta engine.state.log engine.state.base_cut n (arc_value view.tables)) (sym number)
    (subst (Stands engine.meta engine.state.log engine.state.base_cut engine.state.published) (sym same) holds)
look_served engine (Err fault) same number holds = tt

-- the yearly parts and the latest part of which its tables are made, too
pub look_stands : (made : Made) (engine : Seen) (lock : LockView Entry) (now : TokenView Entry) (reply : Result View LookFault) → IsRunning made engine lock
    → now.list ≡ lock.list
    → IfOk reply (λ view. Stands engine.meta engine.state.log engine.state.base_cut view.published (arc_value view.tables))
    → IfOk reply (λ view. Stands made.meta (stand_of made now.list).machine.log (stand_of made now.list).machine.base_cut view.published
    (arc_value view.tables))
look_stands made engine lock now (Ok view) r same h =
    subst (λ (s : State). Stands made.meta s.log s.base_cut view.published (arc_value view.tables))
    (r.stands.state ∙ ap (λ l. (stand_of made l).machine) (sym same))
    (subst (λ (m : Records). Stands m engine.state.log engine.state.base_cut view.published (arc_value view.tables)) r.stands.meta h)
look_stands made engine lock now (Err fault) r same h = tt

pub look_told : (made : Made) (engine : Seen) (lock : LockView Entry) (now : TokenView Entry) (reply : Result View LookFault) → IsRunning made engine lock
    → now.told ≡ lock.told → IfOk reply (λ view. view.published ≡ engine.state.published) → IfOk reply (λ view. view.published ≡ now.told)
look_told made engine lock now (Ok view) r same h = h ∙ sym r.told ∙ sym same
look_told made engine lock now (Err fault) r same h = tt

-- ---- an update

cut_owner : (caller ticket : ℕ) (owner : ℕ → Option ℕ) → cond (ticket == ticket) (Some caller) (owner ticket) ≡ Some caller
cut_owner caller ticket owner = ap (λ b. cond b (Some caller) (owner ticket)) (eq-eqb ticket ticket refl)

cut_staged : (full latest : Option Staged) (kind : CutKind) (update : Staged)
    → by_kind kind (by_kind kind (Some update) full) (by_kind kind latest (Some update)) ≡ Some update
cut_staged full latest Full update = refl
cut_staged full latest Latest update = refl

-- after a cut its update is begun, and its caller's, and the changes before it are the log's
cut_begins : (made : Made) (engine new : Seen) (list : List Entry) (caller : ℕ) (kind : CutKind) (update : Staged) (faults : ℕ) → StandsAt made engine list
    → Step engine.meta engine.limits engine.state (begun kind (Ok update)) new.state
    → IsBegunBy made (list ++ entries_of caller (begun kind (Ok update)) faults) caller kind update engine.state.log
cut_begins made engine new list caller kind update faults s step =
    let e : Entry = record { caller = caller; act = begun kind (Ok update); faults = faults } in
    let stand : Stand = stand_of made list in
    let after : stand_of made (list ++ e ∷ []) ≡ after_entries made.meta stand (e ∷ []) = after_both made.meta (begin made.opening) list (e ∷ []) in
    let number : update.number ≡ length engine.state.log = ap (λ (u : Staged). u.number) step.0.1.1 in
    let log : stand.machine.log ≡ engine.state.log = ap (λ (st : State). st.log) (sym s.state) in
    let low : update.number ≤ length stand.machine.log =
    subst (λ (l : List Change). update.number ≤ length l) (sym log)
    (subst (λ (n : ℕ). n ≤ length engine.state.log) (sym number) (le_refl (length engine.state.log))) in
    let high : length stand.machine.log ≤ update.number =
    subst (λ (l : List Change). length l ≤ update.number) (sym log)
    (subst (λ (n : ℕ). length engine.state.log ≤ n) (sym number) (le_refl (length engine.state.log))) in
    record {
      begun = subst (λ (st : Stand). staged_of st.machine kind ≡ Some update) (sym after) (cut_staged stand.machine.full stand.machine.latest kind update);
      given = subst (λ (st : Stand). update.ticket ≤ st.machine.ticket) (sym after) (le_refl update.ticket);
      owner = subst (λ (st : Stand). st.owner update.ticket ≡ Some caller) (sym after) (cut_owner caller update.ticket stand.owner);
      there = subst (λ (st : Stand). update.number ≤ length st.machine.log) (sym after) low;
      before = subst (λ (st : Stand). take update.number st.machine.log ≡ engine.state.log) (sym after) (take_all update.number stand.machine.log high ∙ log);
    }

pub cut_begun : (made : Made) (engine new : Seen) (list : List Entry) (caller : ℕ) (kind : CutKind) (reply : Result Cut CutFault) (faults : ℕ)
    → StandsAt made engine list → Step engine.meta engine.limits engine.state (begun kind (update_in reply)) new.state
    → IfOk reply (IsCutOf engine.meta engine.state kind)
    → IfOk reply (IsCutBy made (list ++ entries_of caller (begun kind (update_in reply)) faults) caller)
cut_begun made engine new list caller kind (Err fault) faults s step given = tt
cut_begun made engine new list caller kind (Ok cut) faults s step given = record {
  log = engine.state.log;
  begun = subst (λ (k : CutKind). IsBegunBy made (list ++ entries_of caller (begun kind (Ok (staged_in cut))) faults) caller k (staged_in cut) engine.state.log)
      (sym given.kind_is) (cut_begins made engine new list caller kind (staged_in cut) faults s step);
  whole = λ full. given.changes_are ∙ ap (λ (k : CutKind). changes_for engine.state k) (sym given.kind_is ∙ full);
}

nothing_more : (xs ys : List Entry) → xs ++ ys ≡ xs → ys ≡ []
nothing_more xs [] e = refl
nothing_more xs (y ∷ ys) e =
    let long = length-append xs (y ∷ ys) in let same = ap length e in absurd (omega (arith, long, same))

-- the update is still begun when its caller comes back
pub still_begun : (made : Made) (engine : Seen) (l0 : LockView Entry) (token : TokenView Entry) (kind : CutKind) (update : Staged) (changes : List Change)
    → IsRunning made engine l0 → Follows caller_of token (record l0 { taken = Some token.caller })
    → IsBegunBy made token.list token.caller kind update changes → IsBegunBy made l0.list token.caller kind update changes
still_begun made engine l0 token kind update changes r f h =
    let rest = f.front.0 in
    let blank : own caller_of token.caller rest ≡ [] =
    nothing_more (own caller_of token.caller token.list) (own caller_of token.caller rest)
    (sym (own-append caller_of token.caller token.list rest) ∙ ap (λ l. own caller_of token.caller l) f.front.1 ∙ f.same) in
    subst (λ (l : List Entry). IsBegunBy made l token.caller kind update changes) f.front.1
    (updates_stay made token.list rest token.caller kind update changes
    (subst (λ (l : List Entry). IsLegal made l) (sym f.front.1) r.stands.legal) h blank)

-- two calls of one caller, one after the other, which add an entry each
joined : (made : Made) (a b c : TokenView Entry) (e f : Entry) → IsCall made a b (e ∷ []) → IsCall made b c (f ∷ []) → IsCall made a c (e ∷ f ∷ [])
joined made a b c e f x y = record {
  table = y.table ∙ x.table;
  caller = y.caller ∙ x.caller;
  front = (x.front.0 ++ y.front.0, sym (append_assoc a.list x.front.0 y.front.0) ∙ ap (λ l. l ++ y.front.0) x.front.1 ∙ y.front.1);
  legal = y.legal;
  mine = subst (λ (n : ℕ). own caller_of n c.list ≡ own caller_of n b.list ++ f ∷ []) x.caller y.mine ∙ ap (λ l. l ++ f ∷ []) x.mine
      ∙ append_assoc (own caller_of a.caller a.list) (e ∷ []) (f ∷ []);
  least = le_trans x.least y.least;
  told = y.told;
  last = y.last;
}

-- the end of an update
pub end_made : (made : Made) (engine new : Seen) (l0 l1 l2 l3 : LockView Entry) (token now : TokenView Entry) (ticket : ℕ) (reply : Result ℕ Memory)
    → IsRunning made engine l0 → token.table ≡ made.table → l1 ≡ record l0 { taken = Some token.caller } → Follows caller_of token l1
    → (kind : CutKind) (number : ℕ) (changes : List Change)
    → IsBegunBy made token.list token.caller kind (record { ticket = ticket; number = number }) changes → Goes engine (end_act ticket reply) new
    → new.state.published ≡ told_after engine.state.published reply → IfOk reply (λ number. engine.state.published ≤ number)
    → l2 ≡ record l1 { list = l1.list ++ entry_by l1.taken (end_act ticket reply) new.faults ∷ []; told = told_after l1.told reply }
    → l3 ≡ record l2 { taken = None } → IfSome l2.taken (λ caller. now ≡ record { table = l2.table; caller = caller; list = l2.list; told = l2.told })
    → IsRunning made new l3 × IsCall made token now (record { caller = token.caller; act = end_act ticket reply; faults = new.faults } ∷ [])
end_made made engine new l0 l1 l2 l3 token now ticket (Ok published_now) running table taken follows kind number changes begun_is goes published rises noted
    back given =
    let from = subst (λ (l : LockView Entry). Follows caller_of token l) taken follows in
    let all = call_made made engine new l0 l1 l2 l3 token now (swapped ticket (Ok published_now)) published_now running table taken follows goes
    (still_begun made engine l0 token kind (record { ticket = ticket; number = number }) changes running from begun_is).owner
    (subst (λ (n : ℕ). n ≤ published_now) (sym running.told) rises) (sym published)
    noted back given in
    (all.0, all.1)
end_made made engine new l0 l1 l2 l3 token now ticket (Err memory) running table taken follows kind number changes begun_is goes published rises noted back
    given =
    let from = subst (λ (l : LockView Entry). Follows caller_of token l) taken follows in
    let all = quiet_made made engine new l0 l1 l2 l3 token now (dropped ticket) running table taken follows goes
    (still_begun made engine l0 token kind (record { ticket = ticket; number = number }) changes running from begun_is).owner published noted back given in
    (all.0, all.1)

pub cut_made : (made : Made) (engine new : Seen) (l0 l1 l2 l3 : LockView Entry) (token now : TokenView Entry) (kind : CutKind)
    (reply : Result Staged CutFault) → IsRunning made engine l0 → token.table ≡ made.table → l1 ≡ record l0 { taken = Some token.caller }
    → Follows caller_of token l1 → Goes engine (begun kind reply) new → new.state.published ≡ engine.state.published
    → l2 ≡ record l1 { list = l1.list ++ entries_by l1.taken (begun kind reply) new.faults } → l3 ≡ record l2 { taken = None }
    → IfSome l2.taken (λ caller. now ≡ record { table = l2.table; caller = caller; list = l2.list; told = l2.told })
    → IsRunning made new l3 × IsCall made token now (entries_of token.caller (begun kind reply) new.faults) × (now.list ≡ l3.list) × (now.told ≡ l3.told)
    × (now.list ≡ l0.list ++ entries_of token.caller (begun kind reply) new.faults)
cut_made made engine new l0 l1 l2 l3 token now kind reply running table taken follows goes published noted back given =
    quiet_made made engine new l0 l1 l2 l3 token now (begun kind reply) running table taken follows goes tt published noted back given

-- what the engine's own calls say
pub plain_goes : (old new : Seen) (act : Act) → IsFault act old.faults new.faults → Step old.meta old.limits old.state act new.state
    → new ≡ record old { state = new.state; tables = new.tables; part = new.part } → Goes old act new
plain_goes old new act fault step same = record {
  step = step;
  meta = ap (λ (s : Seen). s.meta) same;
  limits = ap (λ (s : Seen). s.limits) same;
  count = subst (λ (n : ℕ). old.faults ≤ n) (sym (ap (λ (s : Seen). s.faults) same)) (le_refl old.faults);
  fault = fault;
  still = λ e. ap (λ (s : Seen). s.faults) same;
}

pub cut_goes : (old new : Seen) (kind : CutKind) (reply : Result Staged CutFault)
    → Step old.meta old.limits old.state (begun kind reply) new.state
    → new ≡ record old { state = new.state; tables = new.tables; part = new.part } → Goes old (begun kind reply) new
cut_goes old new kind reply step same = plain_goes old new (begun kind reply) tt step same

pub cut_published : (old new : Seen) (kind : CutKind) (reply : Result Staged CutFault)
    → Step old.meta old.limits old.state (begun kind reply) new.state → new.state.published ≡ old.state.published
cut_published old new kind (Ok update) step = ap (λ (s : State). s.published) step.1
cut_published old new kind (Err (cut.Busy ticket)) step = ap (λ (s : State). s.published) step.1
cut_published old new kind (Err (cut.UpdatesSpent limit)) step = ap (λ (s : State). s.published) step.1
cut_published old new kind (Err cut.Memory) step = ap (λ (s : State). s.published) step

pub swapped_goes : (old new : Seen) (ticket number : ℕ) → Step old.meta old.limits old.state (swapped ticket (Ok number)) new.state
    → new ≡ record old { state = new.state; tables = new.tables; part = new.part } → Goes old (end_act ticket (Ok number)) new
swapped_goes old new ticket number step same = plain_goes old new (swapped ticket (Ok number)) tt step same

pub swapped_published : (old new : Seen) (ticket number : ℕ) → Step old.meta old.limits old.state (swapped ticket (Ok number)) new.state
    → new.state.published ≡ number
swapped_published old new ticket number step = ap (λ (s : State). s.published) step.1

-- a swap that found no memory leaves all but, as far as is said here, the tables and the part
pub swap_stayed : (old mid : Seen) (ticket : ℕ) (memory : Memory) → Step old.meta old.limits old.state (swapped ticket (Err memory)) mid.state
    → mid ≡ record old { state = mid.state; tables = mid.tables; part = mid.part }
    → mid ≡ record old { tables = mid.tables; part = mid.part }
swap_stayed old mid ticket memory swap same = same ∙ ap (λ (s : State). record old { state = s; tables = mid.tables; part = mid.part }) swap

-- what goes on from a machine goes on from one with other tables and another part
goes_on : (old mid new : Seen) (act : Act) → Goes (record old { tables = mid.tables; part = mid.part }) act new → Goes old act new
goes_on old mid new act goes =
    record { step = goes.step; meta = goes.meta; limits = goes.limits; count = goes.count; fault = goes.fault; still = goes.still }

pub dropped_goes : (old mid new : Seen) (ticket : ℕ) (memory : Memory) → Step old.meta old.limits old.state (swapped ticket (Err memory)) mid.state
    → mid ≡ record old { state = mid.state; tables = mid.tables; part = mid.part } → Step mid.meta mid.limits mid.state (dropped ticket) new.state
    → new ≡ record mid { state = new.state; tables = new.tables; part = new.part }
    → Goes old (end_act ticket (Err memory)) new
dropped_goes old mid new ticket memory swap same drop after =
    goes_on old mid new (dropped ticket)
    (subst (λ (m : Seen). Goes m (dropped ticket) new) (swap_stayed old mid ticket memory swap same) (plain_goes mid new (dropped ticket) tt drop after))

pub dropped_published : (old mid new : Seen) (ticket : ℕ) (memory : Memory) → Step old.meta old.limits old.state (swapped ticket (Err memory)) mid.state
    → mid ≡ record old { state = mid.state; tables = mid.tables; part = mid.part } → Step mid.meta mid.limits mid.state (dropped ticket) new.state
    → new.state.published ≡ old.state.published
dropped_published old mid new ticket memory swap same drop =
    ap (λ (s : State). s.published) drop.1 ∙ ap (λ (m : Seen). m.state.published) (swap_stayed old mid ticket memory swap same)

pub stayed_begun : (old mid : Seen) (ticket : ℕ) (memory : Memory) → Step old.meta old.limits old.state (swapped ticket (Err memory)) mid.state
    → mid ≡ record old { state = mid.state; tables = mid.tables; part = mid.part } → IsTrue (is_begun old.state ticket) → IsTrue (is_begun mid.state ticket)
stayed_begun old mid ticket memory swap same h = subst (λ (m : Seen). IsTrue (is_begun m.state ticket)) (sym (swap_stayed old mid ticket memory swap same)) h

pub ruleset ends = (swapped_goes, swapped_published, dropped_goes, dropped_published, stayed_begun)

-- ---- an update as one call

pub update_ended : (made : Made) (a b c : TokenView Entry) (kind : CutKind) (ticket cut : ℕ) (reply : Result ℕ Memory) (answer : Result ℕ CutFault)
    (first last : ℕ) → answer ≡ answer_of reply
    → IsCall made a b (entries_of a.caller (begun kind (Ok (record { ticket = ticket; number = cut }))) first)
    → IsCall made b c (record { caller = b.caller; act = end_act ticket reply; faults = last } ∷ [])
    → (entries : List Entry) × IsCall made a c entries × IsUpdate a.caller kind answer entries
update_ended made a b c kind ticket cut (Ok number) answer first last is x y =
    let one : Entry = record { caller = a.caller; act = begun kind (Ok (record { ticket = ticket; number = cut })); faults = first } in
    let ended : ℕ → Entry = λ caller. record { caller = caller; act = swapped ticket (Ok number); faults = last } in (
      one ∷ ended b.caller ∷ [],
      joined made a b c one (ended b.caller) x y,
      subst (λ (found : Result ℕ CutFault). IsUpdate a.caller kind found (one ∷ ended b.caller ∷ [])) (sym is)
          (record { ticket = ticket; number = cut }, (first, last, ap (λ n. one ∷ ended n ∷ []) x.caller)),
    )
update_ended made a b c kind ticket cut (Err memory) answer first last is x y =
    let one : Entry = record { caller = a.caller; act = begun kind (Ok (record { ticket = ticket; number = cut })); faults = first } in
    let ended : ℕ → Entry = λ caller. record { caller = caller; act = dropped ticket; faults = last } in (
      one ∷ ended b.caller ∷ [],
      joined made a b c one (ended b.caller) x y,
      subst (λ (found : Result ℕ CutFault). IsUpdate a.caller kind found (one ∷ ended b.caller ∷ [])) (sym is)
          (inr (record { ticket = ticket; number = cut }, (first, last, ap (λ n. one ∷ ended n ∷ []) x.caller))),
    )

pub update_refused : (made : Made) (a b : TokenView Entry) (kind : CutKind) (fault : CutFault) (faults : ℕ)
    → IsCall made a b (entries_of a.caller (begun kind (Err fault)) faults)
    → (entries : List Entry) × IsCall made a b entries × IsUpdate a.caller kind (Err fault) entries
update_refused made a b kind (cut.Busy ticket) faults x =
    (record { caller = a.caller; act = begun kind (Err (cut.Busy ticket)); faults = faults } ∷ [], x, (faults, refl))
update_refused made a b kind (cut.UpdatesSpent limit) faults x =
    (record { caller = a.caller; act = begun kind (Err (cut.UpdatesSpent limit)); faults = faults } ∷ [], x, (faults, refl))
update_refused made a b kind cut.Memory faults x = ([], x, inl refl)

-- the update that ends is begun, of these changes
pub end_staged : (made : Made) (engine : Seen) (l0 l1 : LockView Entry) (token : TokenView Entry) (kind : CutKind) (update : Staged) (changes : List Change)
    → IsRunning made engine l0 → l1 ≡ record l0 { taken = Some token.caller } → Follows caller_of token l1
    → IsBegunBy made token.list token.caller kind update changes
    → (staged_of engine.state kind ≡ Some update) × (take update.number engine.state.log ≡ changes)
end_staged made engine l0 l1 token kind update changes running taken follows h =
    let from = subst (λ (l : LockView Entry). Follows caller_of token l) taken follows in
    let still = still_begun made engine l0 token kind update changes running from h in (
      subst (λ (s : State). staged_of s kind ≡ Some update) (sym running.stands.state) still.begun,
      subst (λ (s : State). take update.number s.log ≡ changes) (sym running.stands.state) still.before,
    )

pub end_begun : (state : State) (kind : CutKind) (update : Staged) → staged_of state kind ≡ Some update → IsTrue (is_begun state update.ticket)
end_begun state kind update is = has_staged state.full state.latest kind update is

pub end_low : (made : Made) (engine : Seen) (l0 l1 : LockView Entry) (caller : ℕ) (reply : Result ℕ Memory) → IsRunning made engine l0
    → l1 ≡ record l0 { taken = Some caller } → IfOk reply (λ number. engine.state.published ≤ number) → IfOk reply (λ number. l1.told ≤ number)
end_low made engine l0 l1 caller (Ok number) running taken h =
    subst (λ (n : ℕ). n ≤ number) (sym (ap (λ (l : LockView Entry). l.told) taken ∙ running.told)) h
end_low made engine l0 l1 caller (Err memory) running taken h = tt
