-- The rules put in the order of their identifiers, one after the other.
use Rattle.std.proofs.Common.{◌≡◌, ◌∙◌, ℕ, ◌+◌, ◌<◌, List, ◌∷◌, length, drop, get_or, Some, ap, subst, sym}
use Rattle.std.specs.Prelude.{slice_get}
use Rattle.std.specs.BTreeMap.{insert_entry}
use Rattle.std.specs.Cmp.Lexicographic.{slice_cmp}
use Rattle.std.specs.Ordering.{nat_cmp}
use Rattle.std.proofs.lemmas.List.{drop_more, length-map, get_or-map}
use Rattle.std.proofs.lemmas.Option.{slice_get-get_or}
use Rattle.dh_metadata.specs.declared.held.Records.{Records}
use Rattle.dh_metadata.specs.declared.records.Rule.{Rule}
use Rattle.dh_metadata.specs.Sets.{put_by_id}
use Rattle.validation.specs.Check.{rule_ids}

some_is : {X : Type 0} (x y : X) → Some x ≡ Some y → x ≡ y
some_is x y is = cc

pub put-more : (r : Records) (n : ℕ) (rule : Rule) (entries : List (List ℕ × ℕ)) → n < length r.validation_rules
    → slice_get r.validation_rules n ≡ Some rule
    → put_by_id entries n (drop n (rule_ids r)) ≡ put_by_id (insert_entry (slice_cmp nat_cmp) entries rule.id n) (n + 1) (drop (n + 1) (rule_ids r))
put-more r n rule entries within there =
    let rules = r.validation_rules in
    let is : get_or rules n rule ≡ rule = some_is (get_or rules n rule) rule (sym (slice_get-get_or rules n rule within) ∙ there) in
    let long : n < length (rule_ids r) = subst (λ k. n < k) (sym (length-map rules (λ (rule : Rule). rule.id))) within in
    let at : get_or (rule_ids r) n rule.id ≡ rule.id =
    get_or-map (λ (rule : Rule). rule.id) rules n rule rule.id within ∙ ap (λ (rule : Rule). rule.id) is in
    ap (put_by_id entries n) (drop_more (rule_ids r) n rule.id long ∙ ap (λ id. id ∷ drop (n + 1) (rule_ids r)) at)
