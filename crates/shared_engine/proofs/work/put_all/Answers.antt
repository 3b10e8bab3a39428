use Rattle.std.proofs.Common.{subst}
use Rattle.std.specs.List.{All}
use Rattle.std.proofs.lemmas.List.Elements.{All-head, All-rest}
use Rattle.shared_engine.specs.Places.{IsBuilt}
use Rattle.shared_engine.proofs.work.put_all.Goals as goal

pub put-requires : goal.put-requires
put-requires g c = record {
  places = c.loop-built.invariant.0;
  built = All-head (IsBuilt (g.B.Builder.is_part c.args.builder.now) c.args.years.now) _ _
      (subst (All (IsBuilt (g.B.Builder.is_part c.args.builder.now) c.args.years.now)) c.in-Some.ensures.steps.0 c.loop-built.invariant.1);
}

pub loop-built-preserved : goal.loop-built-preserved
loop-built-preserved g c = (
  c.put.ensures,
  All-rest (IsBuilt (g.B.Builder.is_part c.args.builder.now) c.args.years.now) _ _ _ c.in-Some.ensures.steps.0 c.loop-built.invariant.1,
)

pub returns : goal.returns
returns g c = c.loop-built.invariant.0
