use Rattle.std.proofs.Common.{◌≡◌, ◌∙◌, sym, ap, subst}
use Rattle.dh_metadata.specs.Places.{place_of}
use Rattle.dh_metadata.specs.Linked.{IsBelow}
use Rattle.dh_metadata.specs.Objects.{count_of, find_of}
use Rattle.dh_metadata.proofs.IdLemmas.{found_below}
use Rattle.dh_metadata.proofs.metadata.Metadata.find.Goals as goal

pub returns-clause-value : goal.returns-clause-value
returns-clause-value c =
    c.find.ensures ∙ ap (λ ids. place_of ids c.args.id) (c.self.invariant.ids c.args.kind) ∙ ap (λ s. find_of s c.args.kind c.args.id) c.self.view_is

pub returns-clause-in_range : goal.returns-clause-in_range
returns-clause-in_range c =
    let value : c.find.result ≡ find_of c.args.self.now c.args.kind c.args.id =
    c.find.ensures ∙ ap (λ ids. place_of ids c.args.id) (c.self.invariant.ids c.args.kind) ∙ ap (λ s. find_of s c.args.kind c.args.id) c.self.view_is in
    subst (λ n. IsBelow (count_of c.args.self.now c.args.kind) n) (sym value) (found_below c.args.self.now c.args.kind c.args.id)
