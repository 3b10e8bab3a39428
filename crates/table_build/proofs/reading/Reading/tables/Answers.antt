use Rattle.std.proofs.Common.{◌≡◌, ◌∙◌, map, sym, ap, subst, length}
use Rattle.std.specs.Arc.{arc_value}
use Rattle.std.proofs.lemmas.List.{length-map}
use Rattle.dh_changes.specs.Facts.{Facts}
use Rattle.dh_changes.specs.World.{facts}
use Rattle.table_rows.specs.Store.{Listed, contents_in}
use Rattle.table_sums.specs.YearParts.{AreOfYears, listed_as}
use Rattle.table_build.specs.Log.{writes_of}
use Rattle.table_build.specs.Listed.{listed_in}
use Rattle.table_build.proofs.OtherLemmas.{others-agree, made-of-others}
use Rattle.table_build.proofs.StoreLemmas.{made-store, years-seen}
use Rattle.table_build.proofs.YearLemmas.{listed-years}
use Rattle.table_build.proofs.reading.Reading.tables.Goals as goal

pub rows_left-requires : goal.rows_left-requires
rows_left-requires c =
    ap (λ (f : Facts). f.approval) c.self.invariant.holds ∙ (others-agree (map arc_value c.self.inside.changes.now)).approval

-- the lists, as the changes leave them
are : (c : goal.After-drop-years-2) → ◌≡◌ {A = Listed}
    (record { rows = c.in_ok-rows.rows.items; events = c.in_ok-events.events.items; regs = c.in_ok-regs.regs.items; years = c.in_ok-years.years.items })
    (listed_in c.args.meta.now (writes_of c.args.self.now))
are c = made-of-others c.args.meta.now (map arc_value c.self.inside.changes.now) c.args.self.now (facts c.self.inside.world) c.self.inside.regs.items
    c.deref-2.result.now c.self.inside.places.items c.deref.result.now _ _ _ _ c.self.invariant c.self.view_is c.deref-2.ensures.value c.deref.ensures.value
    c.in_ok-rows.ensures.rows c.in_ok-events.ensures c.in_ok-regs.ensures
    (years-seen _ _ _ _ _ _ _ c.in_ok-years.ensures c.deref-3.ensures.value c.deref-4.ensures.value c.deref-5.ensures.value)

pub tables_of-requires : goal.tables_of-requires
tables_of-requires c =
    let years = years-seen _ _ _ _ _ _ _ c.in_ok-years.ensures c.deref-3.ensures.value c.deref-4.ensures.value c.deref-5.ensures.value in
    subst (AreOfYears (listed_as c.in_ok-rows.rows.items c.in_ok-events.events.items c.in_ok-regs.regs.items)) (sym c.deref-6.ensures.value)
    (listed-years c.in_ok-rows.rows.items c.in_ok-events.events.items c.in_ok-regs.regs.items c.in_ok-years.years.items years
    (made-store c.args.meta.now (writes_of c.args.self.now) c.in_ok-rows.rows.items c.in_ok-events.events.items c.in_ok-regs.regs.items
    c.in_ok-years.years.items c.requires.few c.requires.days c.in_ok-rows.ensures.own_places
    (made-of-others c.args.meta.now (map arc_value c.self.inside.changes.now) c.args.self.now (facts c.self.inside.world) c.self.inside.regs.items
    c.deref-2.result.now c.self.inside.places.items c.deref.result.now _ _ _ _ c.self.invariant c.self.view_is c.deref-2.ensures.value c.deref.ensures.value
    c.in_ok-rows.ensures.rows c.in_ok-events.ensures c.in_ok-regs.ensures years)))

pub returns-clause-contents : goal.returns-clause-contents
returns-clause-contents c = c.in_ok-tables.ensures.contents ∙ ap contents_in (are c)

pub returns-clause-years : goal.returns-clause-years
returns-clause-years c = c.in_ok-tables.ensures.years ∙ c.deref-6.ensures.value ∙ ap (λ (listed : Listed). listed.years) (are c)

pub returns-clause-base_cut : goal.returns-clause-base_cut
returns-clause-base_cut c =
    c.in_ok-tables.ensures.base_cut ∙ sym (length-map c.self.inside.changes.now arc_value) ∙ ap length c.self.view_is
