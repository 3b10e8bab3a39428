use Rattle.dh_base.proofs.RoundingLemmas.{rounded_down, rounded_up, rounded_over}
use Rattle.dh_base.proofs.print.round.Goals as goal

pub returns-then-left-den-clause-whole : goal.returns-then-left-den-clause-whole
returns-then-left-den-clause-whole c =
    let d = c.divide_on-digits.ensures in
    (rounded_down c.args.size c.args.den c.args.places c.divide_on-digits.result.0 c.divide_on-digits.result.1
    (record { exact = d.digits; below = d.left; small = d.small }) c.if-left-den.true).0

pub returns-then-left-den-clause-rest : goal.returns-then-left-den-clause-rest
returns-then-left-den-clause-rest c =
    let d = c.divide_on-digits.ensures in
    (rounded_down c.args.size c.args.den c.args.places c.divide_on-digits.result.0 c.divide_on-digits.result.1
    (record { exact = d.digits; below = d.left; small = d.small }) c.if-left-den.true).1

pub returns-then-digits-power_of_ten-clause-whole : goal.returns-then-digits-power_of_ten-clause-whole
returns-then-digits-power_of_ten-clause-whole c =
    let d = c.divide_on-digits.ensures in
    (rounded_up c.args.size c.args.den c.args.places c.divide_on-digits.result.0 c.divide_on-digits.result.1
    (record { exact = d.digits; below = d.left; small = d.small }) c.if-left-den.false (rw (← c.power_of_ten.ensures) c.if-digits-power_of_ten.true)).0

pub returns-then-digits-power_of_ten-clause-rest : goal.returns-then-digits-power_of_ten-clause-rest
returns-then-digits-power_of_ten-clause-rest c =
    let d = c.divide_on-digits.ensures in
    (rounded_up c.args.size c.args.den c.args.places c.divide_on-digits.result.0 c.divide_on-digits.result.1
    (record { exact = d.digits; below = d.left; small = d.small }) c.if-left-den.false (rw (← c.power_of_ten.ensures) c.if-digits-power_of_ten.true)).1

pub returns-else-digits-power_of_ten-clause-whole : goal.returns-else-digits-power_of_ten-clause-whole
returns-else-digits-power_of_ten-clause-whole c =
    let d = c.divide_on-digits.ensures in
    (rounded_over c.args.size c.args.den c.args.places c.divide_on-digits.result.0 c.divide_on-digits.result.1
    (record { exact = d.digits; below = d.left; small = d.small }) c.if-left-den.false (rw (← c.power_of_ten.ensures) c.if-digits-power_of_ten.false)).0

pub returns-else-digits-power_of_ten-clause-rest : goal.returns-else-digits-power_of_ten-clause-rest
returns-else-digits-power_of_ten-clause-rest c =
    let d = c.divide_on-digits.ensures in
    (rounded_over c.args.size c.args.den c.args.places c.divide_on-digits.result.0 c.divide_on-digits.result.1
    (record { exact = d.digits; below = d.left; small = d.small }) c.if-left-den.false (rw (← c.power_of_ten.ensures) c.if-digits-power_of_ten.false)).1
