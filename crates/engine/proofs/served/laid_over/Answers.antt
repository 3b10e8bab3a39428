use Rattle.std.proofs.Common.{◌≡◌, ◌∙◌, ◌≤◌, subst, sym, ap, map, length, true}
use Rattle.std.specs.Prelude.{Some, option_map}
use Rattle.std.specs.List.{list_all}
use Rattle.std.specs.Arc.{arc_value}
use Rattle.table_build.specs.Log.{is_of_days}
use Rattle.engine.proofs.Days.{all-of-days, writes-are}
use Rattle.engine.proofs.StandLemmas.{tables-are, base-words, lies-on, base-whole}
use Rattle.engine.proofs.served.laid_over.Goals as goal

pub tables_over-requires-clause-few : goal.tables_over-requires-clause-few
tables_over-requires-clause-few c = subst (λ x. length x ≤ 4194304) (sym (writes-are (map arc_value c.args.changes.now))) c.requires.few

pub tables_over-requires-clause-days : goal.tables_over-requires-clause-days
tables_over-requires-clause-days c =
    subst (λ x. list_all is_of_days x ≡ true) (sym (writes-are (map arc_value c.args.changes.now))) (all-of-days _ c.requires.fits)

pub tables_over-requires-clause-base : goal.tables_over-requires-clause-base
tables_over-requires-clause-base c = base-words arc_value c.args.meta.now c.args.changes.now (arc_value c.args.base.now) c.requires.base

pub tables_over-requires-clause-from : goal.tables_over-requires-clause-from
tables_over-requires-clause-from c =
    (lies-on c.args.meta.now (map arc_value c.args.changes.now) (arc_value c.args.base.now).base_cut _ _ (ap (option_map arc_value) c.in-Some.is)
    c.requires.over).0

pub tables_over-requires-clause-leads : goal.tables_over-requires-clause-leads
tables_over-requires-clause-leads c =
    (lies-on c.args.meta.now (map arc_value c.args.changes.now) (arc_value c.args.base.now).base_cut _ _ (ap (option_map arc_value) c.in-Some.is)
    c.requires.over).1

pub returns-in_ok-tables_over-in-Some-clause-all : goal.returns-in_ok-tables_over-in-Some-clause-all
returns-in_ok-tables_over-in-Some-clause-all c = c.in_ok-tables_over-in-Some.ensures.all ∙ tables-are c.args.meta.now (map arc_value c.args.changes.now)

pub returns-in-None-clause-all : goal.returns-in-None-clause-all
returns-in-None-clause-all c =
    base-whole c.args.meta.now (map arc_value c.args.changes.now) (arc_value c.args.base.now) _ (ap (option_map arc_value) c.in-None.is) c.requires.over
    c.requires.base

pub returns-in_ok-tables_over-in-Some-clause-latest : goal.returns-in_ok-tables_over-in-Some-clause-latest
returns-in_ok-tables_over-in-Some-clause-latest c = ap Some c.in_ok-tables_over-in-Some.ensures.latest ∙ sym (ap (option_map arc_value) c.in-Some.is)
