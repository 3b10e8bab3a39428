use Rattle.std.proofs.Common.{refl, rules, sym, ◌∙◌}
use Rattle.shared_engine.specs.Ends.{staged_in}
use Rattle.shared_engine.proofs.BuildLemmas.{parts_handed}
use Rattle.shared_engine.proofs.Calls.{may_add, end_made, end_staged, end_begun, end_low}
use Rattle.shared_engine.proofs.locked.Locked.finish.Goals as goal

pub take_in-requires-clause-table : goal.take_in-requires-clause-table
take_in-requires-clause-table g c =
    (c.self.invariant.table ∙ sym c.requires.table.0, c.requires.table.1 ∙ sym c.requires.table.0)

pub take_in-requires-clause-nobody : goal.take_in-requires-clause-nobody
take_in-requires-clause-nobody g c = c.self.invariant.nobody

pub end_with-reply-requires-clause-begun : goal.end_with-reply-requires-clause-begun
end_with-reply-requires-clause-begun g c =
    end_begun c.self.inside.engine.state c.args.cut.now.kind (staged_in c.args.cut.now)
    (end_staged g.J.Naming.made _ _ _ c.args.token c.args.cut.now.kind (staged_in c.args.cut.now) _ c.self.invariant c.take_in.ensures.taken
    c.take_in.ensures.follows c.requires.begun.begun).0

pub end_with-reply-requires-clause-parts : goal.end_with-reply-requires-clause-parts
end_with-reply-requires-clause-parts g c =
    let staged = end_staged g.J.Naming.made _ _ _ c.args.token c.args.cut.now.kind (staged_in c.args.cut.now) _ c.self.invariant c.take_in.ensures.taken
    c.take_in.ensures.follows c.requires.begun.begun in
    parts_handed g.J.Naming.made c.self.inside.engine c.args.cut.now c.args.cut.now.kind c.requires.begun.log c.args.parts.items
    c.self.invariant.stands.meta staged.0 staged.1 c.requires.begun.whole c.requires.parts

pub note_end-requires : goal.note_end-requires
note_end-requires g c =
    λ κs within.
    let may = may_add g.J.Naming.made _ _ _ _ _ c.self.invariant c.requires.table.0 c.take_in.ensures.taken in
    let low = end_low g.J.Naming.made _ _ _ _ _ c.self.invariant c.take_in.ensures.taken c.end_with-reply.ensures.rises in
    (search rules, (may.0, (may.1, (low, refl))))

pub invariant_of-self : goal.invariant_of-self
invariant_of-self g c =
    (end_made g.J.Naming.made _ _ _ _ _ _ _ _ _ _ c.self.invariant c.requires.table.1 c.take_in.ensures.taken c.take_in.ensures.follows
    _ _ _ c.requires.begun.begun c.end_with-reply.ensures.goes c.end_with-reply.ensures.published c.end_with-reply.ensures.rises c.note_end.ensures
    c.give_back-token.ensures.lock c.give_back-token.ensures.token).0

pub returns : goal.returns
returns g c = (
  c.end_with-reply.new.engine.faults,
  (end_made g.J.Naming.made _ _ _ _ _ _ _ _ _ _ c.self.invariant c.requires.table.1 c.take_in.ensures.taken c.take_in.ensures.follows
      _ _ _ c.requires.begun.begun c.end_with-reply.ensures.goes c.end_with-reply.ensures.published c.end_with-reply.ensures.rises c.note_end.ensures
      c.give_back-token.ensures.lock c.give_back-token.ensures.token).1,
)
