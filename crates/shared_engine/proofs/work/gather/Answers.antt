use Rattle.std.proofs.Common.{subst, sym}
use Rattle.std.specs.List.{All}
use Rattle.std.proofs.lemmas.List.Elements.{All-head, All-rest}
use Rattle.shared_engine.specs.Places.{IsWork}
use Rattle.shared_engine.proofs.work.gather.Goals as goal

pub loop-work-init : goal.loop-work-init
loop-work-init g c = (
  c.in_ok-places.ensures,
  subst (All (IsWork (g.B.Builder.is_part c.args.builder.now) c.args.years.now)) (sym c.into_iter-work-iterator.ensures.into_iter_gives.0) c.requires.works,
)

pub put_all-requires : goal.put_all-requires
put_all-requires g c = record {
  places = c.loop-work.invariant.0;
  found = subst (IsWork (g.B.Builder.is_part c.args.builder.now) c.args.years.now) c.in-Ok.is
      (All-head (IsWork (g.B.Builder.is_part c.args.builder.now) c.args.years.now) _ _
      (subst (All (IsWork (g.B.Builder.is_part c.args.builder.now) c.args.years.now)) c.in-Some.ensures.steps.0 c.loop-work.invariant.1));
}

pub loop-work-preserved : goal.loop-work-preserved
loop-work-preserved g c = (
  c.loop-work.invariant.0,
  All-rest (IsWork (g.B.Builder.is_part c.args.builder.now) c.args.years.now) _ _ _ c.in-Some.ensures.steps.0 c.loop-work.invariant.1,
)

pub loop-work-preserved-in-Ok : goal.loop-work-preserved-in-Ok
loop-work-preserved-in-Ok g c = (
  c.put_all.ensures,
  All-rest (IsWork (g.B.Builder.is_part c.args.builder.now) c.args.years.now) _ _ _ c.in-Some.ensures.steps.0 c.loop-work.invariant.1,
)

pub returns : goal.returns
returns g c = c.loop-work.invariant.0
