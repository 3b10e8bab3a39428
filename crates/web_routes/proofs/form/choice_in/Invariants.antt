use Rattle.std.proofs.Common.{◌≡◌, drop, map, Some}
use Rattle.std.specs.Option.{option_copied}
use Rattle.dh_metadata.specs.Names.{named}
use Rattle.web_routes.specs.Parameters.{value_of}
use Rattle.web_routes.proofs.form.choice_in.Given as goal

abbrev pub invariant-loop-choice : goal.invariant-loop-choice
invariant-loop-choice g l =
    named (map (λ choice. (choice.0.now, choice.1)) (drop l.choice-index l.choices)) l.text ≡ named (map (λ choice. (choice.0.now, choice.1)) l.choices) l.text
