use Rattle.std.proofs.Common.{◌∙◌, ◌≤◌, subst, sym, ap, map, take, length}
use Rattle.std.specs.Prelude.{option_map}
use Rattle.std.specs.List.{All, take-map}
use Rattle.std.specs.Arc.{arc_value}
use Rattle.std.proofs.lemmas.List.{length-map, length-take-le, take-take}
use Rattle.change_log.specs.Forms.{WriteFits}
use Rattle.change_log.specs.Log.{writes_of}
use Rattle.table_rows.specs.Store.{contents_in}
use Rattle.table_sums.specs.YearParts.{together, years_in}
use Rattle.engine.specs.Stands.{GoesTo, LiesOver}
use Rattle.engine.specs.Tables.{Served, tables_of}
use Rattle.engine.proofs.Steps.{first-few, first-fits}
use Rattle.engine.proofs.StandLemmas.{goes-lies}
use Rattle.engine.proofs.served.serve.Goals as goal

pub laid_over-requires-clause-few : goal.laid_over-requires-clause-few
laid_over-requires-clause-few c =
    subst (λ x. length (writes_of x) ≤ 4194304) (take-map arc_value c.args.number c.args.changes.now) (first-few c.args.number _ c.requires.few)

pub laid_over-requires-clause-fits : goal.laid_over-requires-clause-fits
laid_over-requires-clause-fits c =
    subst (λ x. All WriteFits (writes_of x)) (take-map arc_value c.args.number c.args.changes.now) (first-fits c.args.number _ c.requires.fits)

pub laid_over-requires-clause-within : goal.laid_over-requires-clause-within
laid_over-requires-clause-within c =
    subst (λ n. (arc_value c.args.base.now).base_cut ≤ n) (sym (length-take-le c.args.number c.args.changes.now c.requires.within)) c.requires.below

pub laid_over-requires-clause-base : goal.laid_over-requires-clause-base
laid_over-requires-clause-base c =
    let base_cut = (arc_value c.args.base.now).base_cut in
    let log = map arc_value c.args.changes.now in
    c.requires.base ∙ ap (tables_of c.args.meta.now) (sym (take-take base_cut c.args.number log c.requires.below))
    ∙ ap (λ changes. tables_of c.args.meta.now (take base_cut changes)) (take-map arc_value c.args.number c.args.changes.now)

pub laid_over-requires-clause-over : goal.laid_over-requires-clause-over
laid_over-requires-clause-over c =
    let log = map arc_value c.args.changes.now in
    let base_cut = (arc_value c.args.base.now).base_cut in
    let over = option_map arc_value c.args.latest.now in
    subst (λ changes. LiesOver c.args.meta.now changes base_cut over) (take-map arc_value c.args.number c.args.changes.now)
    (goes-lies c.args.meta.now log base_cut c.args.number over
    (subst (λ n. c.args.number ≤ n) (sym (length-map c.args.changes.now arc_value)) c.requires.within) c.requires.over)

pub returns-clause-stands : goal.returns-clause-stands
returns-clause-stands c =
    let is = c.in_ok-tables.ensures in record {
      base = ap (λ (tables : Served). together tables.base.parts) is ∙ c.requires.base;
      cut = ap (λ (tables : Served). tables.base.base_cut) is;
      latest = subst (GoesTo c.args.meta.now (map arc_value c.args.changes.now) (arc_value c.args.base.now).base_cut c.args.number)
          (sym (ap (λ (tables : Served). tables.latest) is ∙ c.in_ok-over.ensures.latest)) c.requires.over;
      all = ap (λ (tables : Served). contents_in tables.all) is ∙ c.in_ok-over.ensures.all
          ∙ ap (tables_of c.args.meta.now) (sym (take-map arc_value c.args.number c.args.changes.now));
      years = ap (λ (tables : Served). tables.all.years) is ∙ c.in_ok-over.ensures.years ∙ sym (ap (λ (tables : Served). years_in tables.base.parts) is);
    }

pub returns-clause-base : goal.returns-clause-base
returns-clause-base c = ap (λ (tables : Served). tables.base) c.in_ok-tables.ensures

pub returns-clause-latest : goal.returns-clause-latest
returns-clause-latest c = ap (λ (tables : Served). tables.latest) c.in_ok-tables.ensures ∙ c.in_ok-over.ensures.latest
