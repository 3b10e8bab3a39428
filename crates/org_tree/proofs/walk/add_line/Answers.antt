use Rattle.std.proofs.Common.{◌≡◌, ◌+◌, ◌<◌, ℕ, get_or, set, Option, sym, ap, ◌∙◌, subst, arith}
use Rattle.std.specs.Option.{option_map_or}
use Rattle.std.proofs.lemmas.List.{length-set}
use Rattle.org_tree.specs.Count.{count_below}
use Rattle.org_tree.specs.Units.{is_under, level_of, parent_of}
use Rattle.org_tree.specs.Walk.{ahead_of}
use Rattle.org_tree.proofs.WalkLemmas.{line_more, line_fits, level_falls}
use Rattle.org_tree.proofs.walk.add_line.Goals as goal

pub overflow_add-sizes : goal.overflow_add-sizes
overflow_add-sizes c =
    let us = c.args.units.now in
    let here = c.in-Some.here in
    let small = line_fits us c.loop-at.sizes c.args.unit here c.requires.tree (c.loop-at.invariant.in_range here c.in-Some.is) c.requires.in_range
    (λ y l. subst (λ (o : Option ℕ). get_or c.loop-at.sizes y 0 + ahead_of us o y ≡ count_below (λ z. is_under us z y) (c.args.unit + 1)) c.in-Some.is
    (c.loop-at.invariant.each y l)) in
    omega arith

pub loop-at-smaller : goal.loop-at-smaller
loop-at-smaller c =
    let us = c.args.units.now in
    let here = c.in-Some.here in
    let falls : option_map_or (λ p. level_of us p) c.parent-at.result 0 < option_map_or (λ p. level_of us p) c.loop-at.at 0 =
    subst (λ (o : Option ℕ). option_map_or (λ p. level_of us p) o 0 < option_map_or (λ p. level_of us p) c.loop-at.at 0) (sym c.parent-at.ensures)
    (subst (λ (o : Option ℕ). option_map_or (λ p. level_of us p) (parent_of us here) 0 < option_map_or (λ p. level_of us p) o 0) (sym c.in-Some.is)
    (level_falls us c.requires.tree here (c.loop-at.invariant.in_range here c.in-Some.is))) in
    falls

pub loop-at-preserved : goal.loop-at-preserved
loop-at-preserved c =
    let us = c.args.units.now in
    let here = c.in-Some.here in
    let in_range = c.loop-at.invariant.in_range here c.in-Some.is in
    record {
      in_range = λ p e. c.requires.tree.parent_in_range here p (sym c.parent-at.ensures ∙ e);
      same_length = length-set c.loop-at.sizes here (get_or c.loop-at.sizes here 0 + 1) ∙ c.loop-at.invariant.same_length;
      each = λ y l.
          ap (λ (o : Option ℕ). get_or (set c.loop-at.sizes here (get_or c.loop-at.sizes here 0 + 1)) y 0 + ahead_of us o y) c.parent-at.ensures
          ∙ line_more us c.loop-at.sizes (λ y. count_below (λ z. is_under us z y) (c.args.unit + 1)) here c.requires.tree in_range
          c.loop-at.invariant.same_length
          (λ y l. subst (λ (o : Option ℕ). get_or c.loop-at.sizes y 0 + ahead_of us o y ≡ count_below (λ z. is_under us z y) (c.args.unit + 1)) c.in-Some.is
          (c.loop-at.invariant.each y l))
          y l;
    }
