use Rattle.std.proofs.Common.{◌≡◌, ◌∙◌, ◌+◌, ◌<◌, ◌∷◌, ◌++◌, [], ℕ, List, Some, None, is_some, true, suc, length, take, drop, get_or, sym, ap}
use Rattle.std.proofs.Common.{arith, add-one, drop-cons}
use Rattle.std.proofs.lemmas.List.{take_more, length-take}
use Rattle.std.specs.HashMap.{get}
use Rattle.dh_metadata.specs.Places.{same_id, place_of, repeat_behind}
use Rattle.dh_metadata.proofs.PlacesLemmas.{place_of-more, repeat_behind-new, repeat_behind-placed, none-from}
use Rattle.dh_metadata.proofs.ids.index.places_of.Goals as goal

-- the identifier at a place is the first of the rest
split_at : (ids : List (List ℕ)) (i : ℕ) (x : List ℕ) → i < length ids → x ≡ get_or ids i x → drop i ids ≡ x ∷ drop (i + 1) ids
split_at ids i x within is = rw add-one (drop-cons ids i x within ∙ ap (λ y. y ∷ drop (suc i) ids) (sym is))

more_at : (ids : List (List ℕ)) (i : ℕ) (x : List ℕ) → i < length ids → x ≡ get_or ids i x → take (i + 1) ids ≡ take i ids ++ x ∷ []
more_at ids i x within is = take_more ids i x within ∙ ap (λ y. take i ids ++ y ∷ []) (sym is)

length_at : (ids : List (List ℕ)) (i : ℕ) → i < length ids → i ≡ length (take i ids)
length_at ids i within = omega (arith, length-take i ids)

pub returns-then-is_some : goal.returns-then-is_some
returns-then-is_some c =
    let ids : List (List ℕ) = c.args.ids.now in
    let i : ℕ = c.loop-id.id-index in
    let x : List ℕ = c.id-item.result in
    let within : i < length ids = c.loop-id-test.true in
    let at : place_of (take i ids) x ≡ c.in_ok-insert.field-0 = sym (c.loop-id.invariant.found x) ∙ sym c.in_ok-insert.ensures.old in
    let some : is_some c.in_ok-insert.field-0 ≡ true = sym c.is_some.ensures ∙ c.if-is_some.true in
    c.loop-id.invariant.differ ∙ ap (repeat_behind (take i ids)) (split_at ids i x within c.id-item.is)
    ∙ repeat_behind-placed (take i ids) x (drop (i + 1) ids) c.in_ok-insert.field-0 at some
    ∙ ap Some (sym (length_at ids i within) ∙ sym c.loop-id.invariant.place)

pub loop-id-preserved : goal.loop-id-preserved
loop-id-preserved c =
    let ids : List (List ℕ) = c.args.ids.now in
    let i : ℕ = c.loop-id.id-index in
    let x : List ℕ = c.id-item.result in
    let within : i < length ids = c.loop-id-test.true in
    let none : c.in_ok-insert.field-0 ≡ None = none-from c.in_ok-insert.field-0 (sym c.is_some.ensures ∙ c.if-is_some.false) in
    let absent : get same_id c.loop-id.places x ≡ None = sym c.in_ok-insert.ensures.old ∙ none in
    let more : take (i + 1) ids ≡ take i ids ++ x ∷ [] = more_at ids i x within c.id-item.is in
    let counted : c.loop-id.place ≡ length (take i ids) = c.loop-id.invariant.place ∙ length_at ids i within in
    record {
      place = omega arith;
      found = λ q. place_of-more (take i ids) x q c.loop-id.place (get same_id c.loop-id.places) (get same_id c.insert.new.self)
          c.loop-id.invariant.found absent counted (c.in_ok-insert.ensures.updates.0 q) ∙ ap (λ ys. place_of ys q) (sym more);
      differ = c.loop-id.invariant.differ ∙ ap (repeat_behind (take i ids)) (split_at ids i x within c.id-item.is)
          ∙ repeat_behind-new (take i ids) x (drop (i + 1) ids) (sym (c.loop-id.invariant.found x) ∙ absent)
          ∙ ap (λ ys. repeat_behind ys (drop (i + 1) ids)) (sym more);
    }
