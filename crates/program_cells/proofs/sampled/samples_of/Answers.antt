use Rattle.std.proofs.Common.{◌∙◌, ap, map, sym}
use Rattle.std.proofs.Math.Path.{fun_ext}
use Rattle.program_cells.proofs.sampled.samples_of.Goals as goal

pub returns-in_ok-found-in-Some : goal.returns-in_ok-found-in-Some
returns-in_ok-found-in-Some c =
    c.in_ok-found-in-Some.ensures
    ∙ ap (λ of. map of (map (λ event. event.now) c.args.events.now)) (fun_ext (λ event. sym (c.in-Some.ensures event)))
