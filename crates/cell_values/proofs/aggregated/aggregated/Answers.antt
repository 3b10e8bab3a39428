use Rattle.std.proofs.Common.{◌≡◌, ◌∙◌, true, sym, ap, subst, rules}
use Rattle.std.proofs.lemmas.Fn.{always_returns_same}
use Rattle.table_rows.specs.Samples.{in_series_order}
use Rattle.table_rows.specs.Values.{value_by}
use Rattle.table_rows.proofs.OrderFreeLemmas.{value_by-permutation}
use Rattle.cell_values.specs.Parts.{key_of}
use Rattle.cell_values.proofs.OwnKeyLemmas.{own-ordered}
use Rattle.cell_values.proofs.aggregated.aggregated.Goals as goal

pub aggregate-requires-clause-ordered : goal.aggregate-requires-clause-ordered
aggregate-requires-clause-ordered c =
    subst (λ xs. in_series_order xs ≡ true) (sym c.deref.ensures.value)
    (own-ordered c.args.samples.items c.sort_by_key.new.self.items c.in_ok-sort_by_key.ensures.permutation
    (c.in_ok-sort_by_key.ensures.sorted key_of (always_returns_same _ (λ a r. r ≡ key_of a.0.now) _ (λ a r q k. search rules)))
    c.requires.own_keys)

pub returns : goal.returns
returns c =
    c.aggregate.ensures ∙ ap (λ xs. value_by c.args.kind xs c.args.days) c.deref.ensures.value
    ∙ sym (value_by-permutation c.args.kind c.args.samples.items c.sort_by_key.new.self.items c.args.days c.in_ok-sort_by_key.ensures.permutation)
