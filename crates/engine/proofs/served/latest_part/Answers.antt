use Rattle.std.proofs.Common.{◌≡◌, ◌∙◌, ◌≤◌, subst, sym, ap, map, take, drop, length, true}
use Rattle.std.specs.List.{list_all}
use Rattle.std.specs.Arc.{arc_value}
use Rattle.std.proofs.lemmas.List.{length-map}
use Rattle.dh_changes.specs.Facts.{facts_in}
use Rattle.dh_changes.specs.World.{facts}
use Rattle.table_rows.specs.Store.{contents_in}
use Rattle.table_sums.specs.YearParts.{YearParts, together}
use Rattle.table_build.specs.Log.{is_of_days}
use Rattle.table_build.specs.Log as rows
use Rattle.table_build.specs.Listed.{listed_in}
use Rattle.latest_build.specs.Touches.{touched_by}
use Rattle.table_latest.specs.Latest.{LatestPart}
use Rattle.engine.proofs.Days.{all-of-days, writes-are}
use Rattle.engine.proofs.StandLemmas.{made-part, base-words}
use Rattle.engine.proofs.served.latest_part.Goals as goal

pub build_latest-requires-clause-held : goal.build_latest-requires-clause-held
build_latest-requires-clause-held c =
    subst (λ x. facts c.args.world.now ≡ facts_in x) (sym (writes-are (map arc_value c.args.changes.now))) c.requires.world

pub build_latest-requires-clause-few : goal.build_latest-requires-clause-few
build_latest-requires-clause-few c = subst (λ x. length x ≤ 4194304) (sym (writes-are (map arc_value c.args.changes.now))) c.requires.few

pub build_latest-requires-clause-days : goal.build_latest-requires-clause-days
build_latest-requires-clause-days c =
    subst (λ x. list_all is_of_days x ≡ true) (sym (writes-are (map arc_value c.args.changes.now))) (all-of-days _ c.requires.fits)

pub build_latest-requires-clause-cut : goal.build_latest-requires-clause-cut
build_latest-requires-clause-cut c =
    subst (λ (base : YearParts). base.base_cut ≤ length c.args.changes.now) (sym c.deref.ensures) c.requires.within

pub build_latest-requires-clause-base : goal.build_latest-requires-clause-base
build_latest-requires-clause-base c =
    subst (λ (base : YearParts). together base.parts
    ≡ contents_in (listed_in c.args.meta.now (rows.writes_of (map arc_value (take base.base_cut c.args.changes.now))))) (sym c.deref.ensures)
    (base-words arc_value c.args.meta.now c.args.changes.now (arc_value c.args.base.now) c.requires.base)

pub returns-clause-goes : goal.returns-clause-goes
returns-clause-goes c =
    let deref = ap (λ (base : YearParts). base.base_cut) c.deref.ensures in
    let log = map arc_value c.args.changes.now in
    made-part c.args.meta.now (facts c.args.world.now) log (arc_value c.args.base.now).base_cut (length c.args.changes.now) c.in_ok-part.part _
    c.in_ok-new.ensures.ok (c.in_ok-part.ensures.from ∙ deref) c.in_ok-part.ensures.to (length-map c.args.changes.now arc_value) c.in_ok-part.ensures.leads
    c.requires.world
    (c.in_ok-part.ensures.touched
    ∙ ap (λ n. touched_by c.args.meta.now (facts c.args.world.now) (rows.writes_of (take n log)) (rows.writes_of (drop n log))) deref)

pub returns-clause-from : goal.returns-clause-from
returns-clause-from c =
    ap (λ (part : LatestPart). part.from) c.in_ok-new.ensures.ok ∙ c.in_ok-part.ensures.from ∙ ap (λ (base : YearParts). base.base_cut) c.deref.ensures
