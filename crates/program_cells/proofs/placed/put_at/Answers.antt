use Rattle.program_cells.proofs.PlaceLemmas.{put-there, put-past}
use Rattle.program_cells.proofs.placed.put_at.Goals as goal

pub returns-in_ok-push : goal.returns-in_ok-push
returns-in_ok-push c =
    put-there (λ event. event.now) (λ subject. subject.now) c.args.events.now c.args.place c.index-events-place.result c.from_ref.result c.args.kept.now.items
    c.push.new.self.items c.if-place-events.true c.index-events-place.is c.from_ref.ensures.value c.in_ok-push.ensures.items

pub returns-else-place-events : goal.returns-else-place-events
returns-else-place-events c =
    put-past (λ event. event.now) (λ subject. subject.now) c.args.events.now c.args.place c.args.kept.now.items c.if-place-events.false
