use Rattle.std.proofs.Common.{◌≡◌, ◌<◌, ◌-◌, ℕ, List, length, get_or, take, drop, sym, ◌∙◌, subst, arith}
use Rattle.std.proofs.lemmas.List.{get_or_default}
use Rattle.org_tree.specs.Held.{units_of}
use Rattle.org_tree.specs.Families.{AreChildren, Spans}
use Rattle.org_tree.specs.Units.{UnitRow}
use Rattle.org_tree.proofs.SpanLemmas.{children_in_span}
use Rattle.org_tree.proofs.tree.Tree.children.Goals as goal

pub returns : goal.returns
returns c =
    let us = units_of c.self.inside in
    let held = c.self.invariant in
    let kin = c.self.inside.kin.items in
    let spans = c.self.inside.spans.items in
    let unit = c.args.unit in
    let h : unit < length us = subst (λ (v : List UnitRow). unit < length v) (sym c.self.view_is) c.requires in
    let span = c.index-span.result.now in
    let read : span ≡ get_or spans unit (0, 0) = c.index-span.ensures ∙ get_or_default spans unit span (0, 0) (let e = held.spans.same_length in omega arith) in
    let whole : Spans us kin (length us) unit span.0 span.1 =
    subst (λ (v : ℕ × ℕ). Spans us kin (length us) unit v.0 v.1) (sym read) (held.spans.each unit h) in
    subst (λ (v : List UnitRow). AreChildren v unit (take (span.1 - span.0) (drop span.0 c.deref.result.now))) c.self.view_is
    (subst (λ (v : List ℕ). AreChildren us unit (take (span.1 - span.0) (drop span.0 v))) (sym c.deref.ensures.value)
    (children_in_span us kin held.is_tree held.kin unit span.0 span.1 whole))
