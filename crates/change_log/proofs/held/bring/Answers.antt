use Rattle.std.proofs.Common.{refl, sym, ◌∙◌}
use Rattle.change_log.specs.Held.{seen}
use Rattle.change_log.proofs.LogLemmas.{whole_after}
use Rattle.change_log.proofs.held.bring.Goals as goal

pub returns-in-Some : goal.returns-in-Some
returns-in-Some g c = record { appends = (sym c.limit_passed.ensures ∙ c.in-Some.is, refl); kept = c.requires.kept }

pub returns-in-None : goal.returns-in-None
returns-in-None g c =
    let old = seen c.args.held.now (g.K.Keeper.acknowledged c.args.keeper.now) (g.K.Keeper.kept c.args.keeper.now)
    (g.K.Keeper.keeper_faults c.args.keeper.now) c.args.limits.now in
    let new = seen c.store.new.held (g.K.Keeper.acknowledged c.store.new.keeper) (g.K.Keeper.kept c.store.new.keeper)
    (g.K.Keeper.keeper_faults c.store.new.keeper) c.args.limits.now in
    record {
      appends = c.store.ensures.appends;
      kept = record {
        held = c.store.ensures.held;
        whole = whole_after old new c.args.change c.store.result c.requires.kept.whole c.requires.fits c.requires.some c.store.ensures.appends;
      };
    }
