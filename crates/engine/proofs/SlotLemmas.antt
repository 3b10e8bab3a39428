-- What a cut gives, and the slots of the full update as a part is handed in.
use Rattle.std.proofs.Common.{◌≡◌, ◌≤◌, ℕ, List, length, map, take, sym, subst}
use Rattle.std.specs.Prelude.{Option, None, Some, IfSome, Result}
use Rattle.std.specs.Arc.{arc_value}
use Rattle.std.specs.Global.{Vec}
use Rattle.std.specs.List.{All}
use Rattle.dh_base.specs.declared.memory.Memory.{Memory}
use Rattle.dh_base.specs.declared.plain.CutKind.{CutKind}
use Rattle.change_log.specs.Forms.{WriteFits}
use Rattle.dh_changes.specs.declared.change.Change.{Change}
use Rattle.dh_metadata.specs.declared.held.Records.{Records}
use Rattle.table_rows.specs.Store.{contents_in}
use Rattle.table_sums.specs.YearParts.{YearPart, part_of}
use Rattle.table_build.specs.declared.slots.Slot.{Slot}
use Rattle.table_build.specs.Listed.{listed_in}
use Rattle.engine.specs.declared.machine.Cut.{Cut}
use Rattle.engine.specs.declared.machine.Staged.{Staged}
use Rattle.engine.specs.declared.updates.Shown.{Shown}
use Rattle.engine.specs.declared.machine.CutFault.{CutFault}
use Rattle.change_log.specs.declared.limits.Limits.{Limits}
use Rattle.change_log.specs.Log.{LogSeen, writes_of}
use Rattle.engine.specs.Machine.{State, after_drop, by_kind, changes_for, number_in}
use Rattle.engine.specs.Seen.{seen_of, state_of, Cuts, IsCutOf, IsPartOf, IsSound, AreParts, FitSlots, Shows, Swaps, years_for}
use Rattle.engine.specs.Tables.{tables_of}
use Rattle.engine.proofs.Orders.{cuts_in_order, drop_in_order, swaps_in_order}
use Rattle.engine.proofs.Steps.{rest-few, rest-fits}

-- a part of these changes, in the words of their lists
pub part-listed : (meta : Records) (changes : List Change) (part : YearPart) → IsPartOf meta changes part
    → part ≡ part_of (contents_in (listed_in meta (writes_of changes))) part.year
unfolding tables_of
part-listed meta changes part is = is

-- what a cut gives
pub cut_given : (meta : Records) (state : State) (kind : CutKind) (found : Cut) → found.kind ≡ kind → found.years ≡ years_for meta state kind
    → map arc_value found.changes.items ≡ changes_for state kind
    → length (writes_of state.log) ≤ 4194304 → All WriteFits (writes_of state.log) → IsCutOf meta state kind found
cut_given meta state kind found is years changes few fits =
    let n = by_kind kind 0 state.base_cut in
    record {
      kind_is = is;
      years_are = years;
      changes_are = changes;
      few = subst (λ x. length (writes_of x) ≤ 4194304) (sym changes) (rest-few n state.log few);
      fits = subst (λ x. All WriteFits (writes_of x)) (sym changes) (rest-fits n state.log fits);
    }

-- ---- the engine's parts

-- a part of the full update is kept
part-kept : (meta : Records) (log : List Change) (full : Option Staged) (part : YearPart) (old new : Option (Vec Slot))
    → IsPartOf meta (take (number_in full) log) part
    → ((changes : List Change) → IsPartOf meta changes part → FitSlots meta changes old → FitSlots meta changes new)
    → IfSome full (λ (one : Staged). FitSlots meta (take one.number log) old)
    → IfSome full (λ (one : Staged). FitSlots meta (take one.number log) new)
part-kept meta log None part old new is keeps had = tt
part-kept meta log (Some update) part old new is keeps had = keeps (take update.number log) is had

pub handed-parts : (log : LogSeen) (meta : Records) (old new : Shown) (part : YearPart) → new ≡ record old { slots = new.slots }
    → ((records : Records) → (changes : List Change) → IsPartOf records changes part → FitSlots records changes old.slots
    → FitSlots records changes new.slots)
    → IsPartOf meta (take (number_in old.full) log.changes) part → AreParts log meta old → AreParts log meta new
handed-parts log meta old new part same keeps is parts =
    subst (AreParts log meta) (sym same) (record {
      whole = parts.whole;
      order = parts.order;
      shows = record {
        stands = parts.shows.stands;
        slots = part-kept meta log.changes old.full part old.slots new.slots is (keeps meta) parts.shows.slots;
        full = parts.shows.full;
        latest = parts.shows.latest;
      };
    })

pub cut-parts : (log : LogSeen) (meta seen : Records) (old new : Shown) (limits : Limits) (changes : List Change) (kind : CutKind)
    (reply : Result Staged CutFault)
    → limits ≡ log.limits → changes ≡ log.changes → seen ≡ meta → Cuts limits (state_of changes old) kind reply (state_of changes new)
    → Shows seen changes new → AreParts log meta old → AreParts log meta new
cut-parts log meta seen old new limits changes kind reply l c m step shows parts = record {
  whole = parts.whole;
  order = cuts_in_order log.limits (state_of log.changes old) (state_of log.changes new) kind reply
      (subst (λ x. Cuts x (state_of log.changes old) kind reply (state_of log.changes new)) l
      (subst (λ x. Cuts limits (state_of x old) kind reply (state_of x new)) c step)) parts.order;
  shows = subst (λ x. Shows x log.changes new) m (subst (λ x. Shows seen x new) c shows);
}

pub swap-parts : (log : LogSeen) (meta seen : Records) (old new : Shown) (changes : List Change) (ticket : ℕ) (reply : Result ℕ Memory)
    → changes ≡ log.changes → seen ≡ meta → Swaps (state_of changes old) ticket reply (state_of changes new)
    → Shows seen changes new → AreParts log meta old → AreParts log meta new
swap-parts log meta seen old new changes ticket reply c m step shows parts = record {
  whole = parts.whole;
  order = swaps_in_order log.limits (state_of log.changes old) (state_of log.changes new) ticket reply
      (subst (λ x. Swaps (state_of x old) ticket reply (state_of x new)) c step) parts.order;
  shows = subst (λ x. Shows x log.changes new) m (subst (λ x. Shows seen x new) c shows);
}

pub drop-parts : (log : LogSeen) (meta : Records) (old new : Shown) (ticket : ℕ) → state_of log.changes new ≡ after_drop (state_of log.changes old) ticket
    → Shows meta log.changes new → AreParts log meta old → AreParts log meta new
drop-parts log meta old new ticket is shows parts =
    record { whole = parts.whole; order = drop_in_order log.limits _ _ ticket is parts.order; shows = shows }

-- what the parts come to for those who see the engine
pub parts-sound : (log : LogSeen) (meta : Records) (shown : Shown) → AreParts log meta shown → IsSound (seen_of log meta shown)
parts-sound log meta shown parts =
    record { acknowledged = parts.whole.acknowledged; kept = parts.whole.kept; order = parts.order; stands = parts.shows.stands }
