use Rattle.std.proofs.Common.{◌≡◌, take}
use Rattle.std.specs.List.{filter}
use Rattle.table_build.specs.InYear.{is_place_in}
use Rattle.table_build.proofs.in_year.places_in.Given as goal

abbrev pub invariant-loop-place : goal.invariant-loop-place
invariant-loop-place l = l.found.items ≡ filter (is_place_in l.year) (take l.place-index l.places)
