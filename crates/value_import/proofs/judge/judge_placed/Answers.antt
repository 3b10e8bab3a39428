use Rattle.std.proofs.Common.{◌≡◌, ◌∙◌, None, IfOk, Bool, sym, ap, subst}
use Rattle.dh_changes.specs.World.{facts}
use Rattle.dh_changes.specs.declared.keys.ValueKey.{ValueKey}
use Rattle.value_import.specs.Rules.{first_of, place_conditions}
use Rattle.value_import.specs.Said.{holds_value}
use Rattle.value_import.specs.Values.{accepted, key_of, value_conditions}
use Rattle.value_import.proofs.FirstLemmas.{first-there}
use Rattle.value_import.proofs.JudgedLemmas.{judged-refused, judged-refused-there, unrefused-ok}
use Rattle.value_import.proofs.judge.judge_placed.Goals as goal

pub returns-in-Some : goal.returns-in-Some
returns-in-Some c =
    let asking = c.args.asking.now in
    let w = facts asking.world.now in
    let r = asking.meta.now in
    let place = c.args.place.now in
    let held = holds_value w c.args.batch.now.verdict.writes (key_of r place) in
    judged-refused (place_conditions w r asking.who place.at) (value_conditions w r asking.who asking.today c.args.strategy held place c.args.value.now)
    c.in-Some.code (accepted r c.args.strategy (key_of r place) held place.element c.args.value.now) (sym c.in-Some.ensures)

pub returns-in-Some-value_condition : goal.returns-in-Some-value_condition
returns-in-Some-value_condition c =
    let asking = c.args.asking.now in
    let w = facts asking.world.now in
    let r = asking.meta.now in
    let place = c.args.place.now in
    let holds = holds_value w c.args.batch.now.verdict.writes in
    let held = c.holds_value-held.ensures ∙ ap holds c.key_of-key.ensures in
    judged-refused-there (place_conditions w r asking.who place.at)
    (value_conditions w r asking.who asking.today c.args.strategy (holds (key_of r place)) place c.args.value.now)
    c.in-Some-value_condition.code (accepted r c.args.strategy (key_of r place) (holds (key_of r place)) place.element c.args.value.now)
    c.in_default.ensures
    (c.in-Some-value_condition.ensures
    ∙ ap (λ h. first_of (value_conditions w r asking.who asking.today c.args.strategy h place c.args.value.now)) held)

pub returns : goal.returns
returns c =
    let asking = c.args.asking.now in
    let w = facts asking.world.now in
    let r = asking.meta.now in
    let place = c.args.place.now in
    let holds = holds_value w c.args.batch.now.verdict.writes in
    let held = c.holds_value-held.ensures ∙ ap holds c.key_of-key.ensures in
    let conditions = value_conditions w r asking.who asking.today c.args.strategy (holds (key_of r place)) place c.args.value.now in
    let none : None ≡ first_of conditions = c.in_default-value_condition.ensures
    ∙ ap (λ h. first_of (value_conditions w r asking.who asking.today c.args.strategy h place c.args.value.now)) held in
    unrefused-ok c.accepted.result _ _ (first-there (place_conditions w r asking.who place.at) conditions None c.in_default.ensures none)
    (subst (λ (k : ValueKey). IfOk c.accepted.result (λ j. j ≡ accepted r c.args.strategy k (holds (key_of r place)) place.element c.args.value.now))
    c.key_of-key.ensures
    (subst (λ (h : Bool). IfOk c.accepted.result (λ j. j ≡ accepted r c.args.strategy c.key_of-key.result h place.element c.args.value.now)) held
    c.accepted.ensures))
