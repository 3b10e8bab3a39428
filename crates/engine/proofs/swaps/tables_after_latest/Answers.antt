use Rattle.std.proofs.Common.{◌∙◌, ◌≤◌, map, take, sym, ap, subst}
use Rattle.std.specs.Prelude.{option_map}
use Rattle.std.specs.Arc.{arc_value}
use Rattle.table_sums.specs.YearParts.{YearParts, together}
use Rattle.engine.specs.Stands.{GoesTo, Stands}
use Rattle.engine.specs.Tables.{Served, tables_of}
use Rattle.engine.proofs.swaps.tables_after_latest.Goals as goal

pub serve-requires-clause-below : goal.serve-requires-clause-below
serve-requires-clause-below c =
    let base = c.base.ensures ∙ ap (λ (tables : Served). tables.base) c.deref.ensures in
    let is = ap (λ (b : YearParts). b.base_cut) base ∙ c.requires.stands.cut in
    subst (λ n. n ≤ c.args.number) (sym is) c.requires.below

pub serve-requires-clause-base : goal.serve-requires-clause-base
serve-requires-clause-base c =
    let base = c.base.ensures ∙ ap (λ (tables : Served). tables.base) c.deref.ensures in
    let is = ap (λ (b : YearParts). b.base_cut) base ∙ c.requires.stands.cut in
    ap (λ (b : YearParts). together b.parts) base ∙ c.requires.stands.base
    ∙ ap (λ n. tables_of c.args.meta.now (take n (map arc_value c.args.changes.now))) (sym is)

pub serve-requires-clause-over : goal.serve-requires-clause-over
serve-requires-clause-over c =
    let base = c.base.ensures ∙ ap (λ (tables : Served). tables.base) c.deref.ensures in
    let is = ap (λ (b : YearParts). b.base_cut) base ∙ c.requires.stands.cut in
    let log = map arc_value c.args.changes.now in
    let meta = c.args.meta.now in
    subst (λ b. GoesTo meta log b c.args.number (option_map arc_value c.in_ok-over.over)) (sym is)
    (subst (GoesTo meta log c.args.shown.now.base_cut c.args.number) (sym c.in_ok-over.ensures) c.requires.over)

pub returns-clause-stands : goal.returns-clause-stands
returns-clause-stands c =
    let base = c.base.ensures ∙ ap (λ (tables : Served). tables.base) c.deref.ensures in
    let is = ap (λ (b : YearParts). b.base_cut) base ∙ c.requires.stands.cut in
    subst (λ b. Stands c.args.meta.now (map arc_value c.args.changes.now) b c.args.number (arc_value c.in_ok-tables.tables)) is c.in_ok-tables.ensures.stands

pub returns-clause-base : goal.returns-clause-base
returns-clause-base c = c.in_ok-tables.ensures.base ∙ c.base.ensures ∙ ap (λ (tables : Served). tables.base) c.deref.ensures

pub returns-clause-latest : goal.returns-clause-latest
returns-clause-latest c = c.in_ok-tables.ensures.latest ∙ c.in_ok-over.ensures
