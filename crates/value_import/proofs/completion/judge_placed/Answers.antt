use Rattle.std.proofs.Common.{◌≡◌, ◌∙◌, FitsSigned, to_z-of_z, w32, rules, sym, ap}
use Rattle.std.specs.Prelude.{pos, unwrap_or}
use Rattle.dh_changes.specs.World.{facts}
use Rattle.value_import.specs.Rules.{first_of, place_conditions}
use Rattle.value_import.specs.Said.{holds_registration}
use Rattle.value_import.specs.Completions.{reg_key_of, reg_conditions, registered}
use Rattle.value_import.proofs.JudgedLemmas.{judged-refused, judged-refused-there, judged-taken}
use Rattle.value_import.proofs.completion.judge_placed.Goals as goal

pub returns-in-Some : goal.returns-in-Some
returns-in-Some c =
    let w = facts c.args.asking.now.world.now in
    let r = c.args.asking.now.meta.now in
    let key = reg_key_of r c.args.place.now in
    let held = holds_registration w c.args.batch.now.verdict.writes key in
    judged-refused (place_conditions w r c.args.asking.now.who c.args.place.now) (reg_conditions c.args.day c.args.done held) c.in-Some.code
    (registered key (unwrap_or c.args.day (pos 0)) c.args.done held) (sym c.in-Some.ensures)

pub returns-in-Some-reg_condition : goal.returns-in-Some-reg_condition
returns-in-Some-reg_condition c =
    let w = facts c.args.asking.now.world.now in
    let r = c.args.asking.now.meta.now in
    let key = reg_key_of r c.args.place.now in
    let holds = holds_registration w c.args.batch.now.verdict.writes in
    let held = c.holds_registration-held.ensures ∙ ap holds c.key_of-key.ensures in
    judged-refused-there (place_conditions w r c.args.asking.now.who c.args.place.now) (reg_conditions c.args.day c.args.done (holds key))
    c.in-Some-reg_condition.code (registered key (unwrap_or c.args.day (pos 0)) c.args.done (holds key)) c.in_default.ensures
    (c.in-Some-reg_condition.ensures ∙ ap (λ h. first_of (reg_conditions c.args.day c.args.done h)) held)

pub returns-in-None : goal.returns-in-None
returns-in-None c =
    let w = facts c.args.asking.now.world.now in
    let r = c.args.asking.now.meta.now in
    let key = reg_key_of r c.args.place.now in
    let holds = holds_registration w c.args.batch.now.verdict.writes in
    let held = c.holds_registration-held.ensures ∙ ap holds c.key_of-key.ensures in
    let f : FitsSigned w32 c.unwrap_or.result = search rules in
    let is : c.registered.result ≡ registered c.key_of-key.result c.unwrap_or.result c.args.done c.holds_registration-held.result =
    rw (to_z-of_z f) at c.registered.ensures in
    judged-taken (place_conditions w r c.args.asking.now.who c.args.place.now) (reg_conditions c.args.day c.args.done (holds key))
    (registered key (unwrap_or c.args.day (pos 0)) c.args.done (holds key)) c.registered.result c.in_default.ensures
    (c.in-None.ensures ∙ ap (λ h. first_of (reg_conditions c.args.day c.args.done h)) held)
    (is ∙ ap (λ day. registered c.key_of-key.result day c.args.done c.holds_registration-held.result) c.unwrap_or.ensures
    ∙ ap (λ k. registered k (unwrap_or c.args.day (pos 0)) c.args.done c.holds_registration-held.result) c.key_of-key.ensures
    ∙ ap (λ h. registered key (unwrap_or c.args.day (pos 0)) c.args.done h) held)
