use Rattle.std.proofs.Common.{◌≡◌, ◌∙◌, ◌≤◌, length, map, subst, sym, ap}
use Rattle.dh_metadata.specs.Positions.{positions_of}
use Rattle.dh_metadata.specs.Approval.{tree_level}
use Rattle.dh_metadata.specs.Linked.{Each}
use Rattle.dh_metadata.proofs.LevelLemmas.{map_map, few_mapped}
use Rattle.dh_metadata.proofs.metadata.with.Goals as goal

pub invariant_of-result : goal.invariant_of-result
invariant_of-result c =
    let r = c.args.records in
    let small : c.args.made.levels.items ≡ map (map tree_level) c.args.held.positions.items = c.requires.made.levels in
    record {
      linked = c.requires.linked;
      ids = c.requires.ids;
      tree = c.requires.held.tree;
      combos = c.requires.held.combos;
      workflows = c.requires.held.workflows;
      levels = small ∙ ap (map (map tree_level)) c.requires.held.positions
          ∙ map_map (map tree_level) (positions_of r.data_approval_levels) r.data_approval_workflows;
      few_levels = subst (Each (λ own. length own ≤ 8)) (sym small) (few_mapped c.args.held.positions.items c.requires.held.few_positions);
      set_elements = c.requires.made.lists.elements;
      set_units = c.requires.made.lists.units;
      sets_with = c.requires.made.lists.having;
      facts = c.requires.made.facts;
      tokens = c.requires.made.tokens;
    }
