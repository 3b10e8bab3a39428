use Rattle.std.proofs.Common.{◌∙◌, ◌+◌, FitsSigned, to_z, of_z, to_z-of_z, w64, subst, refl, arith}
use Rattle.dh_metadata.specs.declared.held.Records.{Records}
use Rattle.offline_replies.specs.Loaded.{HasLoaded}
use Rattle.offline_replies.proofs.LoadLemmas.{nothing-loaded, own-meta, still_loaded, few_sets, few_sets_done, none-brought, set-step, all-brought}
use Rattle.offline_replies.proofs.samples.load.load_samples.Goals as goal

pub loop-set-init : goal.loop-set-init
loop-set-init c = record {
  loaded = nothing-loaded c.args.engine.now c.requires.start;
  within = omega arith;
  rest = none-brought c.args.engine.now (to_z w64 (of_z w64 c.args.moment)) c.set_count-sets.result c.args.count _ c.requires.start refl;
}

pub update_after-requires-clause-few : goal.update_after-requires-clause-few
update_after-requires-clause-few c = few_sets c.args.count c.set_count-sets.result c.loop-set.set c.set_count-sets.ensures c.requires.few c.loop-set-test.true

pub update_after-requires-clause-loaded : goal.update_after-requires-clause-loaded
update_after-requires-clause-loaded c =
    own-meta c.args.engine.now.meta c.bring.new.engine c.loop-set.set
    (c.in_ok-bring.ensures.loaded c.args.engine.now.meta c.loop-set.set c.loop-set.invariant.loaded)

pub loop-set-preserved : goal.loop-set-preserved
loop-set-preserved c =
    let same = c.in_ok-bring.ensures.loaded c.args.engine.now.meta c.loop-set.set c.loop-set.invariant.loaded in
    record {
      loaded = subst (λ (r : Records). HasLoaded r (c.loop-set.set + 1) c.update_after.new.engine) same.meta c.in_ok-update_after.ensures.loaded;
      within = let below = c.loop-set-test.true in omega (arith, below);
      rest = c.loop-set.invariant.rest
          ∙ set-step c.args.engine.now.meta c.loop-set.engine.meta (to_z w64 (of_z w64 c.args.moment)) c.loop-set.engine.state.log
          c.update_after.new.engine.state.log
          c.set_count-sets.result c.loop-set.set c.loop-set.left
          c.saturating_sub-left.result c.min.result c.loop-set.draws.state c.next_samples.new.self.state c.as_slice.result.now c.loop-set.invariant.loaded.meta
          c.loop-set-test.true c.min.ensures
          c.saturating_sub-left.ensures (c.as_slice.ensures.value ∙ c.in_ok-samples.ensures.samples) c.in_ok-samples.ensures.state
          (c.in_ok-update_after.ensures.log ∙ c.in_ok-bring.ensures.log);
    }

pub returns-clause-loaded : goal.returns-clause-loaded
returns-clause-loaded c =
    still_loaded c.args.engine.now.meta c.loop-set.engine c.loop-set.set 200
    (few_sets_done c.args.count c.set_count-sets.result c.loop-set.set c.set_count-sets.ensures c.requires.few c.loop-set.invariant.within)
    c.loop-set.invariant.loaded

pub returns-clause-log : goal.returns-clause-log
returns-clause-log c =
    let fits : FitsSigned w64 c.args.moment = c.ranges.moment in
    all-brought c.args.engine.now.meta c.args.moment c.loop-set.engine.state.log c.args.count c.set_count-sets.result c.loop-set.set c.loop-set.left
    c.loop-set.draws.state
    c.set_count-sets.ensures c.loop-set-test.false (rw (to_z-of_z fits) at c.loop-set.invariant.rest)
