-- The parts that are built are those that may be handed in.
use Rattle.std.proofs.Common.{◌≡◌, ◌∙◌, ℤ, List, [], ◌∷◌, Option, None, Some, IfSome, true, take, map, ap, sym, subst, refl, eq-eqb}
use Rattle.std.specs.Prelude.{Result, Ok, Err, IfOk}
use Rattle.std.specs.Arc.{arc_value}
use Rattle.std.proofs.lemmas.List.Elements.{All-nil, All-cons}
use Rattle.dh_base.specs.declared.plain.CutKind.{CutKind}
use Rattle.dh_base.specs.declared.plain.CutKind.TheVariants.{Full, Latest}
use Rattle.dh_changes.specs.declared.change.Change.{Change}
use Rattle.dh_metadata.specs.declared.held.Records.{Records}
use Rattle.table_sums.specs.YearParts.{YearPart, part_of}
use Rattle.shared_engine.specs.Places.{ArePlaces}
use Rattle.engine.specs.declared.machine.Cut.{Cut}
use Rattle.engine.specs.declared.machine.CutFault.{CutFault}
use Rattle.engine.specs.declared.machine.Staged.{Staged}
use Rattle.engine.specs.Machine.{State, staged_of, has_ticket, number_in}
use Rattle.engine.specs.Seen.{Seen, IsCutOf, IsPartOf}
use Rattle.engine.specs.Tables.{tables_of}
use Rattle.shared_engine.specs.Builds.{CanBuild, IsYearOf, ArePartsOf, HasParts}
use Rattle.shared_engine.specs.Ends.{staged_in}
use Rattle.shared_engine.specs.Histories.{Made}

-- a part of a year is that of its own year
own_year : (meta : Records) (changes : List Change) (year : ℤ) (part : YearPart) → IsYearOf meta changes year part → IsPartOf meta changes part
own_year meta changes year part is =
    is ∙ ap (λ (y : ℤ). part_of (tables_of meta changes) y) (sym (ap (λ (p : YearPart). p.year) is))

own_year_if : (meta : Records) (changes : List Change) (year : ℤ) (place : Option YearPart) → IfSome place (IsYearOf meta changes year)
    → IfSome place (IsPartOf meta changes)
own_year_if meta changes year None is = tt
own_year_if meta changes year (Some part) is = own_year meta changes year part is

-- the parts in the places of years
pub in_places : (meta : Records) (changes : List Change) (years : List ℤ) (places : List (Option YearPart))
    → ArePlaces (IsYearOf meta changes) years places → ArePartsOf meta changes places
in_places meta changes [] [] are = All-nil (λ (part : Option YearPart). IfSome part (IsPartOf meta changes))
in_places meta changes [] (place ∷ places) are = absurd are
in_places meta changes (year ∷ years) [] are = absurd are
in_places meta changes (year ∷ years) (place ∷ places) are =
    All-cons (λ (part : Option YearPart). IfSome part (IsPartOf meta changes)) place places (own_year_if meta changes year place are.0)
    (in_places meta changes years places are.1)

-- nothing is built
pub none_built : (meta : Records) (changes : List Change) → ArePartsOf meta changes []
none_built meta changes = All-nil (λ (part : Option YearPart). IfSome part (IsPartOf meta changes))

pub ruleset built = (in_places, none_built)

-- the changes of a cut can be built
pub cut_builds : (meta : Records) (state : State) (kind : CutKind) (reply : Result Cut CutFault) → IfOk reply (IsCutOf meta state kind)
    → IfOk reply (λ cut. CanBuild (map arc_value cut.changes.items))
cut_builds meta state kind (Ok cut) given = record { few = given.few; fits = given.fits }
cut_builds meta state kind (Err fault) given = tt

-- the full update has its ticket
pub full_ticket : (full : Option Staged) (update : Staged) → full ≡ Some update → has_ticket update.ticket full ≡ true
full_ticket full update is = ap (has_ticket update.ticket) is ∙ eq-eqb update.ticket update.ticket refl

-- the parts of a cut's changes are those of the changes for which the update stands
pub parts_fit : (meta : Records) (engine : Seen) (update : Staged) (changes : List Change) (parts : List (Option YearPart)) → engine.meta ≡ meta
    → engine.state.full ≡ Some update → take update.number engine.state.log ≡ changes → ArePartsOf meta changes parts
    → ArePartsOf engine.meta (take (number_in engine.state.full) engine.state.log) parts
parts_fit meta engine update changes parts same full cut are =
    subst (λ (m : Records). ArePartsOf m (take (number_in engine.state.full) engine.state.log) parts) (sym same)
    (subst (λ (l : List Change). ArePartsOf meta l parts)
    (sym (ap (λ (s : Option Staged). take (number_in s) engine.state.log) full ∙ cut)) are)

-- what is handed in for a full update; a latest one has no parts
pub parts_handed : (made : Made) (engine : Seen) (cut : Cut) (kind : CutKind) (log : List Change) (parts : List (Option YearPart))
    → engine.meta ≡ made.meta → staged_of engine.state kind ≡ Some (staged_in cut) → take cut.number engine.state.log ≡ log
    → (kind ≡ Full → map arc_value cut.changes.items ≡ log) → ArePartsOf made.meta (map arc_value cut.changes.items) parts
    → HasParts engine kind cut.ticket parts
parts_handed made engine cut Full log parts same staged before whole are = (
  full_ticket engine.state.full (staged_in cut) staged,
  parts_fit made.meta engine (staged_in cut) (map arc_value cut.changes.items) parts same staged (before ∙ sym (whole refl)) are,
)
parts_handed made engine cut Latest log parts same staged before whole are = tt
