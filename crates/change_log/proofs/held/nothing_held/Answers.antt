use Rattle.std.proofs.Common.{◌∙◌, sym, ap, arith, length, map, ◌≡◌}
use Rattle.std.specs.Arc.{arc_value}
use Rattle.change_log.specs.LogBytes.{log_bytes}
use Rattle.dh_changes.specs.Facts.{facts_in}
use Rattle.change_log.specs.Log.{writes_of}
use Rattle.change_log.proofs.LogLemmas.{no-bytes}
use Rattle.change_log.proofs.held.nothing_held.Goals as goal

pub returns-clause-held : goal.returns-clause-held
returns-clause-held c = record {
  facts = c.new-world.ensures.nothing ∙ ap (λ x. facts_in (writes_of (map arc_value x))) (sym c.new-changes.ensures.items);
  writes = ap (λ x. length (writes_of (map arc_value x))) (sym c.new-changes.ensures.items);
  bytes = sym no-bytes ∙ ap (λ x. length (log_bytes (map arc_value x))) (sym c.new-changes.ensures.items);
  few = let e : length c.new-changes.result.items ≡ 0 = ap length c.new-changes.ensures.items in omega arith;
}
