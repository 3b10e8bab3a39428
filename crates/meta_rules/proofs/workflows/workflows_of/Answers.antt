use Rattle.std.proofs.Common.{◌≡◌, ◌∙◌, ℕ, List, Some, None, length, map, sym, ap, subst}
use Rattle.std.specs.Option.{option_map}
use Rattle.org_tree.specs.Count.{first_below}
use Rattle.meta_rules.specs.declared.workflows.Seen.{Seen}
use Rattle.meta_rules.specs.Seen.{several_at, one_seen}
use Rattle.dh_metadata.specs.Workflows.{AreWorkflows}
use Rattle.meta_rules.specs.Workflows.{workflow_broken, torn_fault, is_torn}
use Rattle.meta_rules.proofs.SeenLemmas.{torn-seen, AreWorkflows-seen}
use Rattle.meta_rules.proofs.workflows.workflows_of.Goals as goal

pub returns-in-Some : goal.returns-in-Some
unfolding workflow_broken
returns-in-Some c =
    let sets = c.args.sets.now in
    let count : ℕ = length c.args.elements.now in
    let seen : List Seen = c.in_ok-seen.seen.items in
    let same : first_below (several_at seen) (length seen) ≡ first_below (is_torn sets) count = torn-seen sets count seen c.in_ok-seen.ensures in
    let found : first_below (is_torn sets) count ≡ Some c.in-Some.place = sym same ∙ ap (λ l. first_below (several_at l) (length l)) (sym c.deref.ensures.value)
    ∙ sym c.in-Some.ensures in
    ap (option_map (torn_fault c.args.elements.now)) found ∙ ap Some (sym c.torn.ensures)

pub returns : goal.returns
unfolding workflow_broken
returns c =
    let sets = c.args.sets.now in
    let count : ℕ = length c.args.elements.now in
    let seen : List Seen = c.in_ok-seen.seen.items in
    let same : first_below (several_at seen) (length seen) ≡ first_below (is_torn sets) count = torn-seen sets count seen c.in_ok-seen.ensures in
    let none : first_below (is_torn sets) count ≡ None = sym same ∙ ap (λ l. first_below (several_at l) (length l)) (sym c.deref.ensures.value)
    ∙ sym c.in-None.ensures in (
      ap (option_map (torn_fault c.args.elements.now)) none,
      subst (AreWorkflows sets count) (sym (c.in_ok-listed-in-None.ensures ∙ ap (map one_seen) c.deref-in-None.ensures.value))
          (AreWorkflows-seen sets count seen c.in_ok-seen.ensures none),
    )
