use Rattle.std.proofs.Common.{sym}
use Rattle.std.specs.HashMap.{get}
use Rattle.dh_changes.specs.Said.{same_id}
use Rattle.dh_changes.proofs.MapLemmas.{noted-same, noted-stays, noted-new, pushed-keeps}
use Rattle.dh_changes.proofs.children.note.Goals as goal

pub returns-in_err-enter-clause-stays : goal.returns-in_err-enter-clause-stays
returns-in_err-enter-clause-stays c =
    noted-same (get same_id c.args.children.now) (get same_id c.enter.new.map) c.new.result c.new.ensures c.in_err-enter.ensures.grows.0

pub returns-in-Some-clause-noted : goal.returns-in-Some-clause-noted
returns-in-Some-clause-noted c =
    noted-new (get same_id c.enter.new.map) (get same_id (c.get_mut.follows.lender c.push.new.self)) c.args.parent.now c.in-Some.list.now c.push.new.self
    c.push.result c.args.child ((c.get_mut.follows.holds c.push.new.self).3 c.in_ok-enter.ensures.there).0 c.push.ensures.ok

pub returns-in-Some-clause-stays : goal.returns-in-Some-clause-stays
returns-in-Some-clause-stays c = λ p q noted.
    noted-stays (get same_id c.enter.new.map) (get same_id (c.get_mut.follows.lender c.push.new.self)) c.args.parent.now c.in-Some.list.now c.push.new.self
    (sym c.in-Some.ensures.value) ((c.get_mut.follows.holds c.push.new.self).3 c.in_ok-enter.ensures.there).0
    (pushed-keeps c.push.result c.in-Some.list.now c.push.new.self c.args.child c.push.ensures.ok c.push.ensures.err) p q
    (noted-same (get same_id c.args.children.now) (get same_id c.enter.new.map) c.new.result c.new.ensures c.in_ok-enter.ensures.grows.0 p q noted)
