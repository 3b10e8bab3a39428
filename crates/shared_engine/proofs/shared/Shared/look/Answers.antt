use Rattle.std.proofs.Common.{refl, rules, sym, ◌∙◌, subst}
use Rattle.engine.specs.Machine.Act.{looked}
use Rattle.engine.specs.Seen.{published_in}
use Rattle.shared_engine.specs.Views.{TokenView}
use Rattle.shared_engine.specs.Entries.{Entry, entries_of}
use Rattle.shared_engine.specs.Calls.{IsCall}
use Rattle.shared_engine.proofs.Calls.{token_out, may_add, look_made, look_tables, look_stands, look_served, look_told}
use Rattle.shared_engine.proofs.shared.Shared.look.Goals as goal

pub take_in-requires-clause-table : goal.take_in-requires-clause-table
take_in-requires-clause-table g c =
    let out = token_out g.J.Naming.made _ _ c.unwrap-token.result c.args.pass.now c.take.ensures.value c.unwrap-token.ensures c.pass.view_is
    c.pass.invariant.1 in
    (c.locked.invariant.table ∙ sym c.self.invariant.0, out.1 ∙ sym c.self.invariant.0)

pub take_in-requires-clause-nobody : goal.take_in-requires-clause-nobody
take_in-requires-clause-nobody g c = c.locked.invariant.nobody

pub note-requires : goal.note-requires
note-requires g c =
    λ κs within.
    let may = may_add g.J.Naming.made _ _ _ _ _ c.locked.invariant c.self.invariant.0 c.take_in.ensures.taken in
    (search rules, (search rules, (may.0, (may.1, refl))))

pub invariant_of-locked : goal.invariant_of-locked
invariant_of-locked g c =
    let out = token_out g.J.Naming.made _ _ c.unwrap-token.result c.args.pass.now c.take.ensures.value c.unwrap-token.ensures c.pass.view_is
    c.pass.invariant.1 in
    (look_made g.J.Naming.made _ _ _ _ _ _ _ _ _ c.locked.invariant out.1 c.take_in.ensures.taken c.take_in.ensures.follows
    c.look-reply.ensures.step c.note.ensures c.give_back-token.ensures.lock c.give_back-token.ensures.token).0

pub returns-clause-call : goal.returns-clause-call
returns-clause-call g c =
    let out = token_out g.J.Naming.made _ _ c.unwrap-token.result c.args.pass.now c.take.ensures.value c.unwrap-token.ensures c.pass.view_is
    c.pass.invariant.1 in
    let all = look_made g.J.Naming.made _ _ _ _ _ _ _ _ _ c.locked.invariant out.1 c.take_in.ensures.taken c.take_in.ensures.follows
    c.look-reply.ensures.step c.note.ensures c.give_back-token.ensures.lock c.give_back-token.ensures.token in (
      c.locked.inside.engine.faults,
      subst (λ (t : TokenView Entry). IsCall g.J.Naming.made t c.give_back-token.result
          (entries_of t.caller (looked c.args.asked (published_in c.look-reply.result)) c.locked.inside.engine.faults)) out.0 all.1,
    )

pub returns-clause-tables : goal.returns-clause-tables
returns-clause-tables g c =
    let out = token_out g.J.Naming.made _ _ c.unwrap-token.result c.args.pass.now c.take.ensures.value c.unwrap-token.ensures c.pass.view_is
    c.pass.invariant.1 in
    let all = look_made g.J.Naming.made _ _ _ _ _ _ _ _ _ c.locked.invariant out.1 c.take_in.ensures.taken c.take_in.ensures.follows
    c.look-reply.ensures.step c.note.ensures c.give_back-token.ensures.lock c.give_back-token.ensures.token in
    look_tables g.J.Naming.made _ _ c.give_back-token.result _ all.0 all.2 c.look-reply.ensures.tables

pub returns-clause-told : goal.returns-clause-told
returns-clause-told g c =
    let out = token_out g.J.Naming.made _ _ c.unwrap-token.result c.args.pass.now c.take.ensures.value c.unwrap-token.ensures c.pass.view_is
    c.pass.invariant.1 in
    let all = look_made g.J.Naming.made _ _ _ _ _ _ _ _ _ c.locked.invariant out.1 c.take_in.ensures.taken c.take_in.ensures.follows
    c.look-reply.ensures.step c.note.ensures c.give_back-token.ensures.lock c.give_back-token.ensures.token in
    look_told g.J.Naming.made _ _ c.give_back-token.result _ all.0 all.3 c.look-reply.ensures.published

pub returns-clause-stands : goal.returns-clause-stands
returns-clause-stands g c =
    let out = token_out g.J.Naming.made _ _ c.unwrap-token.result c.args.pass.now c.take.ensures.value c.unwrap-token.ensures c.pass.view_is
    c.pass.invariant.1 in
    let all = look_made g.J.Naming.made _ _ _ _ _ _ _ _ _ c.locked.invariant out.1 c.take_in.ensures.taken c.take_in.ensures.follows
    c.look-reply.ensures.step c.note.ensures c.give_back-token.ensures.lock c.give_back-token.ensures.token in
    look_stands g.J.Naming.made _ _ c.give_back-token.result _ all.0 all.2
    (look_served c.locked.inside.engine c.look-reply.result c.look-reply.ensures.served c.look-reply.ensures.published c.look-reply.ensures.stands)
