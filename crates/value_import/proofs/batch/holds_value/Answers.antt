use Rattle.std.proofs.Common.{◌≡◌, ◌∙◌, Some, None, map, is_some, refl, ap}
use Rattle.std.specs.Option.{option_copied}
use Rattle.dh_changes.specs.Said.{said_by, last_said, of_value}
use Rattle.dh_changes.specs.World.{facts}
use Rattle.value_import.specs.Said.{holds_value}
use Rattle.value_import.proofs.SaidLemmas.{held-here, held-else}
use Rattle.value_import.proofs.batch.holds_value.Goals as goal

pub returns-in-Some : goal.returns-in-Some
unfolding holds_value
returns-in-Some c =
    held-here (last_said (of_value c.args.key.now) (map said_by c.args.batch.now.verdict.writes)) ((facts c.args.world.now).value c.args.key.now)
    c.in-Some.held.now
    (c.in-Some.ensures.value ∙ c.requires.values c.args.key.now)

pub returns-in-None : goal.returns-in-None
unfolding holds_value
returns-in-None c =
    c.is_some.ensures
    ∙ elim c.value.result as (λ o. is_some o ≡ is_some (option_copied o)) [ Some text ↦ refl | None ↦ refl ]
    ∙ ap is_some c.value.ensures
    ∙ held-else (last_said (of_value c.args.key.now) (map said_by c.args.batch.now.verdict.writes)) ((facts c.args.world.now).value c.args.key.now)
    (c.in-None.ensures.value ∙ c.requires.values c.args.key.now)
