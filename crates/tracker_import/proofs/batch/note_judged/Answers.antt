use Rattle.std.proofs.Common.{◌∙◌, ◌++◌, ◌∷◌, [], ap, sym, subst}
use Rattle.tracker_import.specs.Known.{AreSeen}
use Rattle.tracker_import.proofs.SaidLemmas.{seen-some, seen-none}
use Rattle.tracker_import.proofs.batch.note_judged.Goals as goal
use Rattle.tracker_import.proofs.batch.note_judged.Goals.{in-Some+in_ok-insert, in_default}

pub returns-clause-seen : goal.returns-clause-seen
returns-clause-seen c =
    let judged = c.args.judged.now in
    elim c.match-id.branch [
      | in-Some+in_ok-insert w ↦
          subst (λ seen. AreSeen seen c.push.new.self) (sym w.seen-is)
          (seen-some judged c.push.new.self w.in-Some.own c.args.seen.now w.insert.new.self c.requires w.in_ok-insert.ensures.updates.0
          (c.in_ok-push.ensures.ok ∙ ap (λ id. judged ++ id ∷ []) w.in-Some.is))
      | in_default w ↦
          subst (λ seen. AreSeen seen c.push.new.self) (sym w.seen-is)
          (seen-none judged c.push.new.self c.args.seen.now c.requires (c.in_ok-push.ensures.ok ∙ ap (λ id. judged ++ id ∷ []) w.in_default.is))
    ]
