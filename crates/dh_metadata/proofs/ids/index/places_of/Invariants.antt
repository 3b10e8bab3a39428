use Rattle.std.proofs.Common.{◌≡◌, ℕ, List, take, drop}
use Rattle.std.specs.HashMap.{get}
use Rattle.dh_metadata.specs.Places.{same_id, place_of, repeat_of, repeat_behind}
use Rattle.dh_metadata.proofs.ids.index.places_of.Given as goal

abbrev pub invariant-loop-id : goal.invariant-loop-id
invariant-loop-id l = record {
  place : l.place ≡ l.id-index;
  found : (id : List ℕ) → get same_id l.places id ≡ place_of (take l.id-index l.ids) id;
  differ : repeat_of l.ids ≡ repeat_behind (take l.id-index l.ids) (drop l.id-index l.ids);
}
