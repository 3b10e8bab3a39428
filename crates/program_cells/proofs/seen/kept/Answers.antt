use Rattle.std.proofs.Common.{◌≡◌, ◌∙◌, true, sym, subst, map}
use Rattle.std.specs.List.{list_all}
use Rattle.std.specs.Prelude.{IfSome}
use Rattle.program_cells.specs.Kept.{is_seen_during}
use Rattle.program_cells.specs.Places.{ArePlaces, order_of}
use Rattle.program_cells.proofs.PlaceLemmas.{all-kept}
use Rattle.program_cells.proofs.SeenLemmas.{none_seen}
use Rattle.program_cells.proofs.seen.kept.Goals as goal

pub at-requires : goal.at-requires
at-requires c =
    subst (λ list. ArePlaces order_of (map (λ event. event.now) list) c.in-Some.places.items) c.deref.ensures.value
    (subst (λ all. IfSome all (λ places. ArePlaces order_of (map (λ event. event.now) c.deref.result.now) places.items)) c.in-Some.is
    c.in_ok-places.ensures.places)

pub returns-in-Some : goal.returns-in-Some
returns-in-Some c =
    let test = is_seen_during c.args.meta.now c.args.seer.now.user c.args.program c.args.periods.now in
    let all : list_all test (map (λ event. event.now) c.args.events.items) ≡ true =
    subst (λ list. list_all test (map (λ event. event.now) list) ≡ true) c.deref.ensures.value
    (subst (λ all. IfSome all (λ _. list_all test (map (λ event. event.now) c.deref.result.now) ≡ true)) c.in-Some.is c.in_ok-places.ensures.seen) in
    c.at.ensures ∙ all-kept test (map (λ event. event.now) c.args.events.items) all

pub returns-then-not-reads_program : goal.returns-then-not-reads_program
returns-then-not-reads_program c =
    c.none.ensures
    ∙ none_seen c.args.meta.now c.args.seer.now.user c.args.program c.args.periods.now (map (λ event. event.now) c.args.events.items)
    (sym c.reads_program.ensures ∙ c.if-not-reads_program.true)
