use Rattle.std.proofs.Common.{◌≡◌, ◌∙◌, get_or, sym, subst}
use Rattle.std.specs.Prelude.{All}
use Rattle.std.proofs.lemmas.List.Elements.{All-nil}
use Rattle.std.proofs.lemmas.List.{get_or_default}
use Rattle.cell_values.specs.Seen.{seen_of, contents_of}
use Rattle.validation.specs.Run.{IsRuleOf, violation_in, with_violation}
use Rattle.validation.specs.Known.{AreKnown}
use Rattle.validation.specs.Check.{given_at, id_of, outcome_of}
use Rattle.validation.proofs.CheckLemmas.{SoFar, SoFar-start, SoFar-more, SoFar-end, rules-more}
use Rattle.validation.proofs.KnownLemmas.{AreKnown-start}
use Rattle.validation.proofs.checks.check_all.Goals as goal

pub loop-number-init : goal.loop-number-init
loop-number-init g c =
    let r = c.args.source.now.meta.now in
    let shown = seen_of r c.args.source.now.seer.now.user
    (contents_of (g.S.RowStore.rows c.args.source.now.store.now) (g.S.RowStore.events c.args.source.now.store.now)
    (g.S.RowStore.regs c.args.source.now.store.now)) in
    let outcome = outcome_of r c.args.source.now.seer.now.user shown c.args.spot.now.place in
    let value = given_at r shown c.args.spot.now.place in
    record {
      is = subst (SoFar (id_of r) outcome c.args.order.now 0) (sym c.new-violations.ensures) (SoFar-start (id_of r) outcome c.args.order.now);
      rules = subst (All (IsRuleOf r)) (sym c.new-violations.ensures) (All-nil (IsRuleOf r));
      known = subst (AreKnown value) (sym c.new-known.ensures.empty) (AreKnown-start value);
    }

pub loop-number-preserved : goal.loop-number-preserved
loop-number-preserved g c =
    let r = c.args.source.now.meta.now in
    let i = c.loop-number.number-index in
    let n = get_or c.args.order.now i 0 in
    let at : n ≡ get_or c.args.order.now i n = get_or_default c.args.order.now i 0 n c.loop-number-test.true in
    let list : c.add.new.violations ≡ with_violation (violation_in c.in_ok-outcome.outcome) c.loop-number.violations =
    c.in_ok-add.ensures in
    record {
      is = SoFar-more (id_of r) (outcome_of r c.args.source.now.seer.now.user (seen_of r c.args.source.now.seer.now.user
          (contents_of (g.S.RowStore.rows c.args.source.now.store.now) (g.S.RowStore.events c.args.source.now.store.now)
          (g.S.RowStore.regs c.args.source.now.store.now))) c.args.spot.now.place)
          c.args.order.now i n c.loop-number.violations c.add.new.violations c.in_ok-outcome.outcome c.loop-number-test.true at
          c.in_ok-outcome.ensures.value (sym c.is_wide_outcome.ensures ∙ c.if-is_wide_outcome.false) list c.loop-number.invariant.is;
      rules = rules-more r n c.in_ok-outcome.outcome c.loop-number.violations c.add.new.violations list c.in_ok-outcome.ensures.rule
          c.loop-number.invariant.rules;
      known = c.in_ok-outcome.ensures.known;
    }

pub returns-clause-value : goal.returns-clause-value
returns-clause-value g c =
    let r = c.args.source.now.meta.now in
    SoFar-end (id_of r) (outcome_of r c.args.source.now.seer.now.user (seen_of r c.args.source.now.seer.now.user
    (contents_of (g.S.RowStore.rows c.args.source.now.store.now) (g.S.RowStore.events c.args.source.now.store.now)
    (g.S.RowStore.regs c.args.source.now.store.now))) c.args.spot.now.place)
    c.args.order.now c.loop-number.number-index c.loop-number.violations c.loop-number-test.false c.loop-number.invariant.is
