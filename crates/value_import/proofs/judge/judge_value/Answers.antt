use Rattle.std.proofs.Common.{[]}
use Rattle.std.specs.Option.{option_map_or}
use Rattle.dh_changes.specs.World.{facts}
use Rattle.value_import.specs.declared.judged.Judged.TheVariants as judged
use Rattle.value_import.specs.declared.place.ValuePlace.{ValuePlace}
use Rattle.value_import.specs.Said.{holds_value}
use Rattle.value_import.specs.Values.{names_of, name_conditions, place_of, placed_conditions, accepted, key_of, judged_value}
use Rattle.value_import.proofs.JudgedLemmas.{judged-refused, judged-there-ok}
use Rattle.value_import.proofs.judge.judge_value.Goals as goal

pub returns-in-Ok : goal.returns-in-Ok
unfolding judged_value
returns-in-Ok c =
    let w = facts c.args.asking.now.world.now in
    let r = c.args.asking.now.meta.now in
    let names = names_of r c.args.set.now c.args.value.now in
    let holds = holds_value w c.args.batch.now.verdict.writes in
    let place = c.in-Ok.place in
    judged-there-ok c.judge_placed.result (name_conditions names) (place_of names)
    (λ p. placed_conditions w r c.args.asking.now.who c.args.asking.now.today c.args.set.now.params.strategy (holds (key_of r p)) p c.args.value.now)
    (λ p. accepted r c.args.set.now.params.strategy (key_of r p) (holds (key_of r p)) p.element c.args.value.now)
    place c.in-Ok.ensures.found.0 c.in-Ok.ensures.found.1 c.judge_placed.ensures

pub returns-in-Err : goal.returns-in-Err
unfolding judged_value
returns-in-Err c =
    let w = facts c.args.asking.now.world.now in
    let r = c.args.asking.now.meta.now in
    let names = names_of r c.args.set.now c.args.value.now in
    let holds = holds_value w c.args.batch.now.verdict.writes in
    judged-refused (name_conditions names)
    (option_map_or (λ p. placed_conditions w r c.args.asking.now.who c.args.asking.now.today
    c.args.set.now.params.strategy (holds (key_of r p)) p c.args.value.now) (place_of names) [])
    c.in-Err.code
    (option_map_or (λ (p : ValuePlace). accepted r c.args.set.now.params.strategy (key_of r p) (holds (key_of r p)) p.element c.args.value.now) (place_of names)
    judged.Ignored)
    c.in-Err.ensures.found
