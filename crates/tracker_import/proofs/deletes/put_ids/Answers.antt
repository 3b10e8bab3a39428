use Rattle.std.proofs.Common.{refl}
use Rattle.std.specs.BTreeMap.{insert_entry}
use Rattle.std.specs.Cmp.Lexicographic.{slice_cmp}
use Rattle.std.specs.Ordering.{nat_cmp}
use Rattle.tracker_import.specs.Deletes as deletes
use Rattle.tracker_import.proofs.LoopLemmas.{folded-more}
use Rattle.tracker_import.proofs.deletes.put_ids.Goals as goal

pub loop-id-preserved : goal.loop-id-preserved
loop-id-preserved c =
    folded-more (λ ids entries. deletes.put_ids entries ids) (λ id entries. insert_entry (slice_cmp nat_cmp) entries id id) (λ x more s. refl)
    c.args.ids.now c.loop-id.id-index c.id-item.result (deletes.put_ids c.args.all.now.entries c.args.ids.now) c.loop-id.all.entries
    c.insert.new.self.entries c.loop-id-test.true c.id-item.is c.loop-id.invariant c.in_ok-insert.ensures.entries
