use Rattle.std.proofs.Common.{refl, rules, sym, ◌∙◌, subst, ℤ, FitsSigned, w64, to_z-of_z}
use Rattle.engine.specs.Machine.Act.{changed}
use Rattle.shared_engine.specs.Views.{TokenView}
use Rattle.shared_engine.specs.Entries.{Entry, entries_of}
use Rattle.shared_engine.specs.Calls.{IsCall}
use Rattle.dh_metadata.specs.declared.held.Records.{Records}
use Rattle.value_import.specs.Outcomes.{IsKnown}
use Rattle.shared_engine.proofs.Calls.{token_out, may_add, change_made}
use Rattle.shared_engine.proofs.shared.Shared.change.Goals as goal

pub take_in-requires-clause-table : goal.take_in-requires-clause-table
take_in-requires-clause-table g c =
    let out = token_out g.J.Naming.made _ _ c.unwrap-token.result c.args.pass.now c.take.ensures.value c.unwrap-token.ensures c.pass.view_is
    c.pass.invariant.1 in
    (c.locked.invariant.table ∙ sym c.self.invariant.0, out.1 ∙ sym c.self.invariant.0)

pub take_in-requires-clause-nobody : goal.take_in-requires-clause-nobody
take_in-requires-clause-nobody g c = c.locked.invariant.nobody

pub note-requires : goal.note-requires
note-requires g c =
    λ κs within.
    let may = may_add g.J.Naming.made _ _ _ _ _ c.locked.invariant c.self.invariant.0 c.take_in.ensures.taken in
    (search rules, (search rules, (may.0, (may.1, refl))))

pub change-reply-requires : goal.change-reply-requires
change-reply-requires g c = subst (λ (meta : Records). IsKnown meta c.args.who) (sym c.locked.invariant.stands.meta) c.requires

pub invariant_of-locked : goal.invariant_of-locked
invariant_of-locked g c =
    let out = token_out g.J.Naming.made _ _ c.unwrap-token.result c.args.pass.now c.take.ensures.value c.unwrap-token.ensures c.pass.view_is
    c.pass.invariant.1 in
    (change_made g.J.Naming.made _ _ _ _ _ _ _ _ _ _ c.locked.invariant out.1 c.take_in.ensures.taken c.take_in.ensures.follows
    c.change-reply.ensures.step c.change-reply.ensures.brought c.note.ensures c.give_back-token.ensures.lock c.give_back-token.ensures.token).0

pub returns : goal.returns
returns g c =
    let fits : FitsSigned w64 c.args.moment = c.ranges.moment in
    let out = token_out g.J.Naming.made _ _ c.unwrap-token.result c.args.pass.now c.take.ensures.value c.unwrap-token.ensures c.pass.view_is
    c.pass.invariant.1 in
    let all = change_made g.J.Naming.made _ _ _ _ _ _ _ _ _ _ c.locked.invariant out.1 c.take_in.ensures.taken c.take_in.ensures.follows
    c.change-reply.ensures.step c.change-reply.ensures.brought c.note.ensures c.give_back-token.ensures.lock c.give_back-token.ensures.token in (
      c.change-reply.new.self.faults,
      subst (λ (t : TokenView Entry). IsCall g.J.Naming.made t c.give_back-token.result (entries_of t.caller
          (changed (record { who = c.args.who; moment = c.args.moment; request = c.args.request.now }) c.change-reply.result)
          c.change-reply.new.self.faults)) out.0
          (subst (λ (m : ℤ). IsCall g.J.Naming.made c.unwrap-token.result c.give_back-token.result (entries_of c.unwrap-token.result.caller
          (changed (record { who = c.args.who; moment = m; request = c.args.request.now }) c.change-reply.result) c.change-reply.new.self.faults))
          (to_z-of_z fits) all.1),
    )
