use Rattle.std.proofs.Common.{◌≡◌, ℕ, IfSome, subst, eqb}
use Rattle.std.proofs.lemmas.List.Filters.{dedup_is}
use Rattle.dh_metadata.specs.Members.{has}
use Rattle.dh_metadata.proofs.MemberLemmas.{copy_sorted}
use Rattle.program_cells.specs.Kept.{is_placed_in}
use Rattle.program_cells.specs.Places.{passes_at}
use Rattle.program_cells.proofs.JoinLemmas.{sorted-places}
use Rattle.program_cells.proofs.joined.joined_places.Goals as goal

pub returns : goal.returns
returns c = λ events are.
    sorted-places (is_placed_in c.args.parts.now) events c.in-Some.own.items c.dedup.new.self.items
    (copy_sorted c.in-Some.own.items c.sort.new.self.items c.dedup.new.self.items c.sort.ensures.permutation c.in_ok-sort.ensures.sorted
    (dedup_is eqb c.sort.new.self.items c.dedup.new.self.items c.dedup.ensures.filtered))
    (subst (λ all. IfSome all (λ found. (place : ℕ) → has found.items place ≡ passes_at (is_placed_in c.args.parts.now) events place)) c.in-Some.is
    (c.in_ok-own.ensures events are))
