use Rattle.std.proofs.Common.{refl, sym, ap, ◌∙◌}
use Rattle.shared_engine.specs.Views.{own, LockView, TokenView, FirstView}
use Rattle.shared_engine.specs.Entries.{Entry, caller_of}
use Rattle.shared_engine.proofs.BackLemmas.{pass_token, first_out, still_first, one_gone}
use Rattle.shared_engine.proofs.shared.Shared.take_back.Goals as goal

pub take_first-requires-clause-table : goal.take_first-requires-clause-table
take_first-requires-clause-table g c = (
  c.behind-locked.invariant.table ∙ sym c.self.invariant.0,
  ap (λ (f : FirstView Entry). f.table) (first_out _ _ c.unwrap-first.result c.args.callers.now c.take.ensures.value c.unwrap-first.ensures c.callers.view_is)
      ∙ ap (λ (f : FirstView Entry). f.table) (sym c.callers.view_is) ∙ c.callers.invariant.1.table ∙ sym c.self.invariant.0,
)

pub take_first-requires-clause-nobody : goal.take_first-requires-clause-nobody
take_first-requires-clause-nobody g c = c.behind-locked.invariant.nobody

pub forget-requires-clause-table : goal.forget-requires-clause-table
forget-requires-clause-table g c = (
  ap (λ (l : LockView Entry). l.table) c.take_first.ensures.taken ∙ c.behind-locked.invariant.table ∙ sym c.self.invariant.0,
  ap (λ (t : TokenView Entry). t.table) (pass_token _ c.unwrap-token.result c.args.pass c.unwrap-token.ensures c.pass.view_is)
      ∙ ap (λ (t : TokenView Entry). t.table) (sym c.pass.view_is) ∙ c.pass.invariant.1 ∙ sym c.self.invariant.0,
)

pub forget-requires-clause-first : goal.forget-requires-clause-first
forget-requires-clause-first g c = ap (λ (l : LockView Entry). l.taken) c.take_first.ensures.taken

pub first_back-first-requires-clause-table : goal.first_back-first-requires-clause-table
first_back-first-requires-clause-table g c =
    ap (λ (l : LockView Entry). l.table) c.forget.ensures ∙ ap (λ (l : LockView Entry). l.table) c.take_first.ensures.taken
    ∙ c.behind-locked.invariant.table ∙ sym c.self.invariant.0

pub first_back-first-requires-clause-first : goal.first_back-first-requires-clause-first
first_back-first-requires-clause-first g c =
    ap (λ (l : LockView Entry). l.taken) c.forget.ensures ∙ ap (λ (l : LockView Entry). l.taken) c.take_first.ensures.taken

pub invariant_of-callers : goal.invariant_of-callers
invariant_of-callers g c = (
  refl,
  still_first g.J.Naming.made _ _ _ _ c.unwrap-first.result c.first_back-first.result c.unwrap-token.result
      c.behind-locked.invariant c.take_first.ensures.taken c.forget.ensures c.first_back-first.ensures.token
      c.take_first.ensures.same
      (ap (λ (f : FirstView Entry). own caller_of 0 f.list)
      (first_out _ _ c.unwrap-first.result c.args.callers.now c.take.ensures.value c.unwrap-first.ensures c.callers.view_is ∙ sym c.callers.view_is)
      ∙ c.callers.invariant.1.none)
      c.first_back-first.ensures.settled,
)

pub returns : goal.returns
returns g c =
    one_gone g.J.Naming.made _ _ _ _ c.unwrap-first.result c.first_back-first.result c.unwrap-token.result
    c.behind-locked.invariant c.take_first.ensures.taken c.forget.ensures c.first_back-first.ensures.token
    c.args.callers.now c.args.pass
    (first_out _ _ c.unwrap-first.result c.args.callers.now c.take.ensures.value c.unwrap-first.ensures c.callers.view_is)
    (pass_token _ c.unwrap-token.result c.args.pass c.unwrap-token.ensures c.pass.view_is)
    c.take_first.ensures.knows
