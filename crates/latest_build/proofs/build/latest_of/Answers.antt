use Rattle.std.proofs.Common.{◌∙◌, ap, map, sym}
use Rattle.std.proofs.lemmas.List.{append-nil}
use Rattle.std.specs.Arc.{arc_value}
use Rattle.dh_changes.specs.Facts.{facts_in}
use Rattle.table_build.specs.Log.{writes_of}
use Rattle.latest_build.proofs.build.latest_of.Goals as goal

pub latest_with-requires-clause-rows : goal.latest_with-requires-clause-rows
latest_with-requires-clause-rows c =
    let all = writes_of (map arc_value c.args.changes.now) in
    c.in_ok-held.ensures.rows all (c.requires.held ∙ ap facts_in (sym (append-nil all)))
