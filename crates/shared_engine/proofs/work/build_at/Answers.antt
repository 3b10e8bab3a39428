use Rattle.std.proofs.Common.{rules}
use Rattle.std.proofs.lemmas.List.Elements.{All-push, All-same}
use Rattle.shared_engine.specs.Places.{IsBuilt}
use Rattle.shared_engine.proofs.work.build_at.Goals as goal

pub returns-in_ok-push : goal.returns-in_ok-push
returns-in_ok-push g c =
    All-same (IsBuilt (g.B.Builder.is_part c.args.builder.now) c.args.years.now) _ _ c.in_ok-push.ensures.items
    (All-push (IsBuilt (g.B.Builder.is_part c.args.builder.now) c.args.years.now) c.args.found.now.items
    (record { place = c.args.place; part = c.in-Ok.part }) c.requires.found (record { there = c.requires.place; part = search rules }))

pub returns-in_default : goal.returns-in_default
returns-in_default g c = c.requires.found

pub returns-in_err-push : goal.returns-in_err-push
returns-in_err-push g c = All-same (IsBuilt (g.B.Builder.is_part c.args.builder.now) c.args.years.now) _ _ c.in_err-push.ensures.items c.requires.found
