use Rattle.std.proofs.Common.{◌≡◌, ◌+◌, length, sym, ap, ◌∙◌, subst, arith}
use Rattle.org_tree.specs.Count.{count_below}
use Rattle.org_tree.specs.Units.{is_under, size_of}
use Rattle.org_tree.specs.Walk.{CountsUnder}
use Rattle.org_tree.proofs.RowLemmas.{written}
use Rattle.org_tree.proofs.walk.sizes.Goals as goal

pub loop-unit-preserved : goal.loop-unit-preserved
loop-unit-preserved c =
    let sizes = c.loop-unit.sizes in
    let same = c.add_line.ensures.same_length ∙ sym c.loop-unit.invariant.same_length in
    subst (CountsUnder c.args.units.now (c.loop-unit.unit + 1))
    (sym (written c.add_line.new.sizes sizes.items sizes.len same (let e = sizes.ok.0 in omega (arith, e)))) c.add_line.ensures

pub returns : goal.returns
unfolding size_of
returns c =
    let us = c.args.units.now in
    let all : c.loop-unit.unit ≡ length us = omega arith in
    record {
      same_length = c.loop-unit.invariant.same_length;
      each = λ x h. c.loop-unit.invariant.each x h ∙ ap (count_below (λ z. is_under us z x)) all;
    }
