use Rattle.std.proofs.Common.{◌∙◌, ◌≤◌, ap, drop, map, subst, sym, take}
use Rattle.std.proofs.lemmas.List.{take-map}
use Rattle.std.specs.Arc.{arc_value}
use Rattle.dh_changes.specs.Facts.{facts_in}
use Rattle.dh_changes.specs.World.{facts}
use Rattle.table_rows.specs.Store.{Contents}
use Rattle.table_sums.specs.YearParts.{rows_together}
use Rattle.table_build.specs.Listed.{listed_in}
use Rattle.table_build.specs.Log.{writes_of, values_named}
use Rattle.table_build.specs.Values.{rows_of}
use Rattle.latest_build.specs.Found.{decided_by}
use Rattle.latest_build.specs.Places.{event_ids, reg_places, value_places}
use Rattle.latest_build.specs.Touches.{approvals_named, touched_by}
use Rattle.latest_build.proofs.KeptLemmas.{covers-as}
use Rattle.latest_build.proofs.LeadLemmas.{last, last-writes, writes-cut, writes-last, writes-split}
use Rattle.latest_build.proofs.ToldLemmas.{named-first, named-within}
use Rattle.latest_build.proofs.after.build_latest.Goals as goal

pub held_rows-requires-clause-within : goal.held_rows-requires-clause-within
held_rows-requires-clause-within c =
    let hit = writes_of (map arc_value (last c.base_cut-from.result c.args.changes.now)) in
    named-within (values_named hit) (decided_by c.args.meta.now (rows_together c.args.base.now.parts) (approvals_named hit)) c.deref.result.now
    c.in_ok-touched.touched.named (c.deref.ensures.value ∙ c.in_ok-touched.ensures.values) c.in_ok-touched.ensures.named

pub held_rows-requires-clause-named : goal.held_rows-requires-clause-named
held_rows-requires-clause-named c =
    let hit = writes_of (map arc_value (last c.base_cut-from.result c.args.changes.now)) in
    named-first (values_named hit) (decided_by c.args.meta.now (rows_together c.args.base.now.parts) (approvals_named hit)) c.deref.result.now
    c.in_ok-touched.touched.named (c.deref.ensures.value ∙ c.in_ok-touched.ensures.values) c.in_ok-touched.ensures.named

pub latest_with-requires-clause-places : goal.latest_with-requires-clause-places
latest_with-requires-clause-places c =
    c.in_ok-held.ensures.places
    ∙ ap (value_places c.args.meta.now (facts c.args.world.now)) (c.deref.ensures.value ∙ sym c.keys.ensures.values)

pub latest_with-requires-clause-rows : goal.latest_with-requires-clause-rows
latest_with-requires-clause-rows c =
    let cut = c.args.base.now.base_cut in
    let whole = writes-cut arc_value c.base_cut-from.result cut c.args.changes.now c.base_cut-from.ensures in
    c.in_ok-held.ensures.rows (writes_of (take cut (map arc_value c.args.changes.now))) (c.requires.held ∙ ap facts_in whole)
    ∙ ap (rows_of c.args.meta.now (facts c.args.world.now)) (c.deref.ensures.value ∙ sym c.keys.ensures.values)

pub returns-clause-leads : goal.returns-clause-leads
returns-clause-leads c =
    let start = ap (λ (all : Contents). all.rows) c.requires.base
    ∙ ap (λ l. (listed_in c.args.meta.now (writes_of l)).rows) (sym (take-map arc_value c.args.base.now.base_cut c.args.changes.now)) in
    let all = map arc_value c.args.changes.now in
    let cut = c.args.base.now.base_cut in
    let whole = writes-cut arc_value c.base_cut-from.result cut c.args.changes.now c.base_cut-from.ensures in
    λ base from within.
    let before = writes_of (take base all) in
    c.in_ok-latest.ensures.leads before
    (covers-as c.args.meta.now (facts_in before) (facts c.args.world.now) c.keys.ensures.values c.keys.ensures.events c.keys.ensures.regs
    (c.in_ok-touched.ensures.cover (writes_of (take cut all)) before (writes_of (drop c.base_cut-from.result (take base all))) (writes_of (drop base all))
    start (c.requires.held ∙ ap facts_in whole) (sym whole ∙ writes-split base all)
    (writes-last arc_value c.base_cut-from.result base c.args.changes.now (subst (λ n. n ≤ base) c.in_ok-latest.ensures.from from) within)))

pub returns-clause-touched : goal.returns-clause-touched
returns-clause-touched c =
    let start = ap (λ (all : Contents). all.rows) c.requires.base
    ∙ ap (λ l. (listed_in c.args.meta.now (writes_of l)).rows) (sym (take-map arc_value c.args.base.now.base_cut c.args.changes.now)) in
    let before = writes_of (take c.args.base.now.base_cut (map arc_value c.args.changes.now)) in
    let rows = ap (value_places c.args.meta.now (facts c.args.world.now)) c.keys.ensures.values ∙ c.in_ok-touched.ensures.same before start in
    let events = ap event_ids (c.keys.ensures.events ∙ c.in_ok-touched.ensures.events) in
    let regs = ap (reg_places c.args.meta.now (facts c.args.world.now)) (c.keys.ensures.regs ∙ c.in_ok-touched.ensures.regs) in
    c.in_ok-latest.ensures.touched ∙ (λ i. record { rows = rows i; events = events i; regs = regs i })
    ∙ ap (touched_by c.args.meta.now (facts c.args.world.now) before)
    (last-writes arc_value c.base_cut-from.result c.args.changes.now
    ∙ ap (λ n. writes_of (drop n (map arc_value c.args.changes.now))) c.base_cut-from.ensures)
