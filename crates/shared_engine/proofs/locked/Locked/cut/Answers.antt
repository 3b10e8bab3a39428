use Rattle.std.proofs.Common.{refl, rules, sym, ◌∙◌, subst, List}
use Rattle.std.specs.Prelude.{IfOk}
use Rattle.engine.specs.Seen.{update_in}
use Rattle.shared_engine.specs.Entries.{Entry}
use Rattle.shared_engine.specs.Builds.{IsCutBy}
use Rattle.shared_engine.proofs.BuildLemmas.{cut_builds}
use Rattle.shared_engine.proofs.Calls.{may_add, cut_made, cut_goes, cut_published, cut_begun}
use Rattle.shared_engine.proofs.locked.Locked.cut.Goals as goal

pub take_in-requires-clause-table : goal.take_in-requires-clause-table
take_in-requires-clause-table g c =
    (c.self.invariant.table ∙ sym c.requires.table.0, c.requires.table.1 ∙ sym c.requires.table.0)

pub take_in-requires-clause-nobody : goal.take_in-requires-clause-nobody
take_in-requires-clause-nobody g c = c.self.invariant.nobody

pub note-requires : goal.note-requires
note-requires g c =
    λ κs within.
    let may = may_add g.J.Naming.made _ _ _ _ _ c.self.invariant c.requires.table.0 c.take_in.ensures.taken in
    (search rules, (search rules, (may.0, (may.1, refl))))

pub invariant_of-self : goal.invariant_of-self
invariant_of-self g c =
    (cut_made g.J.Naming.made _ _ _ _ _ _ _ _ _ _ c.self.invariant c.requires.table.1 c.take_in.ensures.taken c.take_in.ensures.follows
    (cut_goes c.self.inside.engine c.cut-reply.new.self c.args.kind (update_in c.cut-reply.result) c.cut-reply.ensures.step
    c.cut-reply.ensures.same) (cut_published c.self.inside.engine c.cut-reply.new.self c.args.kind (update_in c.cut-reply.result)
    c.cut-reply.ensures.step) c.note.ensures c.give_back-token.ensures.lock
    c.give_back-token.ensures.token).0

pub returns-clause-call : goal.returns-clause-call
returns-clause-call g c = (
  c.cut-reply.new.self.faults,
  (cut_made g.J.Naming.made _ _ _ _ _ _ _ _ _ _ c.self.invariant c.requires.table.1 c.take_in.ensures.taken c.take_in.ensures.follows
      (cut_goes c.self.inside.engine c.cut-reply.new.self c.args.kind (update_in c.cut-reply.result) c.cut-reply.ensures.step
      c.cut-reply.ensures.same) (cut_published c.self.inside.engine c.cut-reply.new.self c.args.kind (update_in c.cut-reply.result)
      c.cut-reply.ensures.step) c.note.ensures c.give_back-token.ensures.lock
      c.give_back-token.ensures.token).1,
)

pub returns-clause-begun : goal.returns-clause-begun
returns-clause-begun g c =
    let all = cut_made g.J.Naming.made _ _ _ _ _ _ _ c.give_back-token.result _ _ c.self.invariant c.requires.table.1 c.take_in.ensures.taken
    c.take_in.ensures.follows (cut_goes c.self.inside.engine c.cut-reply.new.self c.args.kind (update_in c.cut-reply.result) c.cut-reply.ensures.step
    c.cut-reply.ensures.same) (cut_published c.self.inside.engine c.cut-reply.new.self c.args.kind (update_in c.cut-reply.result)
    c.cut-reply.ensures.step) c.note.ensures c.give_back-token.ensures.lock
    c.give_back-token.ensures.token in
    subst (λ (l : List Entry). IfOk c.cut-reply.result (IsCutBy g.J.Naming.made l c.args.token.caller)) (sym all.4)
    (cut_begun g.J.Naming.made c.self.inside.engine c.cut-reply.new.self c.self.inside.seat.list c.args.token.caller c.args.kind c.cut-reply.result
    c.cut-reply.new.self.faults
    c.self.invariant.stands c.cut-reply.ensures.step c.cut-reply.ensures.given)

pub returns-clause-builds : goal.returns-clause-builds
returns-clause-builds g c = cut_builds _ _ c.args.kind c.cut-reply.result c.cut-reply.ensures.given
