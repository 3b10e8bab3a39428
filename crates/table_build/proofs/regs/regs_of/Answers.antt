use Rattle.std.proofs.Common.{◌∙◌, [], sym, ap}
use Rattle.std.specs.BTreeMap.{insert_entry}
use Rattle.std.specs.List.{filter_map}
use Rattle.dh_changes.specs.World.{facts}
use Rattle.table_build.specs.Ordered.{put_all}
use Rattle.table_build.specs.Regs.{place_cmp, place_of, reg_of}
use Rattle.table_build.proofs.LoopLemmas.{put-more, put-no-more}
use Rattle.table_build.proofs.regs.regs_of.Goals.{in-Some+in_ok-insert, in_default}
use Rattle.table_build.proofs.regs.regs_of.Goals as goal

pub loop-key-preserved : goal.loop-key-preserved
loop-key-preserved c =
    let find = reg_of c.args.meta.now (facts c.args.world.now) in
    let list = c.args.keys.now in
    let at = c.loop-key.key-index in
    let x = c.key-item.result in
    let old = c.loop-key.map.entries in
    let new = c.match-reg_of.map.entries in
    let whole = put_all place_cmp place_of [] (filter_map find list) in
    elim c.match-reg_of.branch [
      | in-Some+in_ok-insert w ↦
          put-more place_cmp place_of find list at x c.loop-key-test.true c.key-item.is w.in-Some.reg old new whole
          (sym c.reg_of.ensures ∙ w.in-Some.is)
          (ap (λ m. m.entries) w.map-is ∙ w.in_ok-insert.ensures.entries ∙ ap (λ k. insert_entry place_cmp old k w.in-Some.reg) w.place_of.ensures)
          c.loop-key.invariant
      | in_default w ↦
          put-no-more place_cmp place_of find list at x c.loop-key-test.true c.key-item.is old new whole (sym c.reg_of.ensures ∙ w.in_default.is)
          (ap (λ m. m.entries) w.map-is) c.loop-key.invariant
    ]
