use Rattle.std.proofs.Common.{◌≡◌, ◌∙◌, FitsSigned, to_z-of_z, w32, rules, ap, []}
use Rattle.std.specs.Prelude.{pos, unwrap_or}
use Rattle.std.specs.Option.{option_map_or}
use Rattle.dh_changes.specs.World.{facts}
use Rattle.value_import.specs.declared.judged.Judged.TheVariants as judged
use Rattle.value_import.specs.Dates.{day_told}
use Rattle.value_import.specs.Said.{holds_registration}
use Rattle.value_import.specs.Rules.{first_of}
use Rattle.value_import.specs.Values.{judged_by}
use Rattle.value_import.specs.Completions.{reg_names_of, reg_name_conditions, reg_place_of, placed_reg_conditions, registered, reg_key_of, judged_completion}
use Rattle.value_import.proofs.JudgedLemmas.{judged-refused, judged-there}
use Rattle.value_import.proofs.completion.judge_completion.Goals as goal

pub returns-in-Ok : goal.returns-in-Ok
unfolding judged_completion
returns-in-Ok c =
    let w = facts c.args.asking.now.world.now in
    let r = c.args.asking.now.meta.now in
    let names = reg_names_of r c.args.asked.now in
    let held = holds_registration w c.args.batch.now.verdict.writes in
    let f : FitsSigned w32 c.args.asking.now.today = search rules in
    let told : c.day_told-day.result ≡ day_told c.args.asking.now.today c.args.asked.now.date = rw (to_z-of_z f) at c.day_told-day.ensures in
    judged-there (reg_name_conditions names) (reg_place_of names)
    (λ place. placed_reg_conditions w r c.args.asking.now.who (day_told c.args.asking.now.today
    c.args.asked.now.date) c.args.asked.now.done (held (reg_key_of r place)) place)
    (λ place. registered (reg_key_of r place) (unwrap_or (day_told c.args.asking.now.today
    c.args.asked.now.date) (pos 0)) c.args.asked.now.done (held (reg_key_of r place)))
    c.in-Ok.place c.judge_placed.result c.in-Ok.ensures.found.0 c.in-Ok.ensures.found.1
    (c.judge_placed.ensures
    ∙ ap (λ day. judged_by
    (first_of (placed_reg_conditions w r c.args.asking.now.who day c.args.asked.now.done (held (reg_key_of r c.in-Ok.place)) c.in-Ok.place))
    (registered (reg_key_of r c.in-Ok.place) (unwrap_or day (pos 0)) c.args.asked.now.done (held (reg_key_of r c.in-Ok.place)))) told)

pub returns-in-Err : goal.returns-in-Err
unfolding judged_completion
returns-in-Err c =
    let w = facts c.args.asking.now.world.now in
    let r = c.args.asking.now.meta.now in
    let names = reg_names_of r c.args.asked.now in
    let held = holds_registration w c.args.batch.now.verdict.writes in
    let day = day_told c.args.asking.now.today c.args.asked.now.date in
    judged-refused (reg_name_conditions names)
    (option_map_or (λ p. placed_reg_conditions w r c.args.asking.now.who day c.args.asked.now.done (held (reg_key_of r p)) p) (reg_place_of names) [])
    c.in-Err.code
    (option_map_or (λ p. registered (reg_key_of r p) (unwrap_or day (pos 0)) c.args.asked.now.done (held (reg_key_of r p))) (reg_place_of names) judged.Ignored)
    c.in-Err.ensures.found
