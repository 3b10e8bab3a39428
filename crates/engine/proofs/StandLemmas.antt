-- The tables that are served stand for the published changes: as the log grows, and as updates are begun, published and dropped.
use Rattle.std.proofs.Common.{◌≡◌, ◌∙◌, ◌≤◌, ℕ, List, length, map, take, drop, sym, ap, subst, refl, arith, Bool, true, false, cond}
use Rattle.std.specs.Prelude.{◌||◌, [], ◌∷◌, Option, None, Some, IfSome, Ok, option_map, nat_lt, max}
use Rattle.std.specs.Arc.{arc_value}
use Rattle.std.specs.Global.{Vec}
use Rattle.std.specs.List.{take-map}
use Rattle.std.proofs.Math.Nat.{le-max_right}
use Rattle.std.proofs.lemmas.Bool.Decides.{nat_tests}
use Rattle.std.proofs.lemmas.List.{length-take-le, take_all}
use Rattle.dh_base.specs.declared.plain.CutKind.TheVariants.{Full, Latest}
use Rattle.dh_changes.specs.declared.change.Change.{Change}
use Rattle.dh_metadata.specs.declared.held.Records.{Records}
use Rattle.table_rows.specs.Store.{contents_in}
use Rattle.table_sums.specs.YearParts.{YearPart, YearParts, together, years_in}
use Rattle.table_build.specs.Values.{rows_of}
use Rattle.table_build.specs.Events.{events_of, places_of}
use Rattle.table_build.specs.Regs.{regs_of}
use Rattle.table_build.specs.Years.{years_of as listed_years}
use Rattle.table_build.specs.Listed.{listed_in}
use Rattle.table_build.specs.Log as rows
use Rattle.table_build.specs.Slots.{AreSlots}
use Rattle.table_build.specs.declared.slots.Slot.{Slot}
use Rattle.table_latest.specs.Latest.{LatestPart}
use Rattle.latest_build.specs.Leads.{LeadsFrom}
use Rattle.latest_build.specs.Touches.{touched_by}
use Rattle.dh_changes.specs.Facts.{Facts, facts_in}
use Rattle.change_log.specs.declared.limits.Limits.{Limits}
use Rattle.change_log.specs.Log.{writes_of}
use Rattle.engine.specs.declared.machine.Staged.{Staged}
use Rattle.engine.specs.declared.updates.LatestUpdate.{LatestUpdate}
use Rattle.engine.specs.declared.updates.Shown.{Shown}
use Rattle.engine.specs.Histories.{IsUpdate, IsInOrder}
use Rattle.engine.specs.Machine.{State, by_kind, has_ticket, kind_by, number_in, staged_of}
use Rattle.engine.specs.Seen.{state_of, staged_latest, part_in, over_from, part_after, FitSlots, IsLaid, IsMade, Lays, LaysBy, Shows}
use Rattle.engine.specs.Stands.{GoesOn, GoesTo, LiesOver, Stands, TouchesRest}
use Rattle.engine.specs.Tables.{Served, served_from, tables_of, years_of}
use Rattle.engine.proofs.Days.{writes-are}

-- what changes leave, in the words of the library that builds their tables
pub tables-are : (meta : Records) (changes : List Change) → contents_in (listed_in meta (rows.writes_of changes)) ≡ tables_of meta changes
unfolding tables_of
tables-are meta changes = ap (λ ws. contents_in (listed_in meta ws)) (writes-are changes)

-- and their years
pub years-are : (meta : Records) (changes : List Change) → (listed_in meta (rows.writes_of changes)).years ≡ years_of meta changes
unfolding years_of
years-are meta changes = ap (λ ws. (listed_in meta ws).years) (writes-are changes)

-- the same of the first changes
pub first-words : {X : Type 0} → (view : X → Change) → (number : ℕ) (changes : List X)
    → rows.writes_of (map view (take number changes)) ≡ writes_of (take number (map view changes))
first-words view number changes = writes-are (map view (take number changes)) ∙ ap writes_of (sym (take-map view number changes))

pub tables-first : {X : Type 0} → (view : X → Change) → (meta : Records) (number : ℕ) (changes : List X)
    → contents_in (listed_in meta (rows.writes_of (map view (take number changes)))) ≡ tables_of meta (take number (map view changes))
tables-first view meta number changes =
    tables-are meta (map view (take number changes)) ∙ ap (tables_of meta) (sym (take-map view number changes))

pub years-first : {X : Type 0} → (view : X → Change) → (meta : Records) (number : ℕ) (changes : List X)
    → (listed_in meta (rows.writes_of (map view (take number changes)))).years ≡ years_of meta (take number (map view changes))
years-first view meta number changes =
    years-are meta (map view (take number changes)) ∙ ap (years_of meta) (sym (take-map view number changes))

-- likewise what yearly parts stand for
pub base-words : {X : Type 0} → (view : X → Change) → (meta : Records) (changes : List X) (base : YearParts)
    → together base.parts ≡ tables_of meta (take base.base_cut (map view changes))
    → together base.parts ≡ contents_in (listed_in meta (rows.writes_of (map view (take base.base_cut changes))))
base-words view meta changes base is =
    is ∙ ap (tables_of meta) (take-map view base.base_cut changes) ∙ sym (tables-are meta (map view (take base.base_cut changes)))

-- the keys that the last of changes touch, likewise
touched-words : (meta : Records) (facts : Facts) (log : List Change) (from : ℕ) → facts ≡ facts_in (writes_of log)
    → touched_by meta facts (rows.writes_of (take from log)) (rows.writes_of (drop from log))
    ≡ touched_by meta (facts_in (writes_of log)) (writes_of (take from log)) (writes_of (drop from log))
touched-words meta facts log from is =
    let held = facts_in (writes_of log) in
    ap (λ f. touched_by meta f (rows.writes_of (take from log)) (rows.writes_of (drop from log))) is
    ∙ ap (λ ws. touched_by meta held ws (rows.writes_of (drop from log))) (writes-are (take from log))
    ∙ ap (touched_by meta held (writes_of (take from log))) (writes-are (drop from log))

-- a latest part that was made of all changes
pub made-part : (meta : Records) (facts : Facts) (log : List Change) (base_cut number : ℕ) (part made : LatestPart) → made ≡ part → part.from ≡ base_cut
    → part.to ≡ number → length log ≡ number → LeadsFrom meta log part → facts ≡ facts_in (writes_of log)
    → part.touched ≡ touched_by meta facts (rows.writes_of (take base_cut log)) (rows.writes_of (drop base_cut log))
    → GoesOn meta log base_cut number made
made-part meta facts log base_cut number part made is from to long leads held touched =
    let all : take number log ≡ log = take_all number log (omega (arith, long)) in
    let words : TouchesRest meta log part = touched ∙ touched-words meta facts log base_cut held
    ∙ ap (λ n. touched_by meta (facts_in (writes_of log)) (writes_of (take n log)) (writes_of (drop n log))) (sym from) in
    subst (GoesOn meta log base_cut number) (sym is) (record {
      from = omega (arith, from);
      to = to;
      leads = subst (λ x. LeadsFrom meta x part) (sym all) leads;
      touched = subst (λ x. TouchesRest meta x part) (sym all) words;
    })

-- ---- the first changes

pub goes-lies : (meta : Records) (log : List Change) (base_cut number : ℕ) (latest : Option LatestPart) → number ≤ length log
    → GoesTo meta log base_cut number latest → LiesOver meta (take number log) base_cut latest
goes-lies meta log base_cut number None within goes = goes ∙ sym (length-take-le number log within)
goes-lies meta log base_cut number (Some latest) within goes = (goes.from, goes.leads)

-- what lies over them, if something does
pub lies-on : (meta : Records) (log : List Change) (base_cut : ℕ) (over : Option LatestPart) (latest : LatestPart) → over ≡ Some latest
    → LiesOver meta log base_cut over → (latest.from ≤ base_cut) × LeadsFrom meta log latest
lies-on meta log base_cut over latest is lies = subst (LiesOver meta log base_cut) is lies

-- yearly parts alone stand for all changes
pub base-whole : (meta : Records) (log : List Change) (base : YearParts) (over : Option LatestPart) → over ≡ None → LiesOver meta log base.base_cut over
    → together base.parts ≡ tables_of meta (take base.base_cut log) → together base.parts ≡ tables_of meta log
base-whole meta log base over is lies stands =
    let all : base.base_cut ≡ length log = subst (LiesOver meta log base.base_cut) is lies in
    stands ∙ ap (tables_of meta) (take_all base.base_cut log (omega arith))

-- ---- a longer log

on-longer : (meta : Records) (old log : List Change) (base_cut number : ℕ) (latest : LatestPart) → take number log ≡ take number old
    → GoesOn meta old base_cut number latest → GoesOn meta log base_cut number latest
on-longer meta old log base_cut number latest same goes =
    record {
      from = goes.from;
      to = goes.to;
      leads = subst (λ x. LeadsFrom meta x latest) (sym same) goes.leads;
      touched = subst (λ x. TouchesRest meta x latest) (sym same) goes.touched;
    }

to-longer : (meta : Records) (old log : List Change) (base_cut number : ℕ) (latest : Option LatestPart) → take number log ≡ take number old
    → GoesTo meta old base_cut number latest → GoesTo meta log base_cut number latest
to-longer meta old log base_cut number None same goes = goes
to-longer meta old log base_cut number (Some latest) same goes = on-longer meta old log base_cut number latest same goes

abbrev IsLonger : List Change → List Change → Type 0
IsLonger old log = (n : ℕ) → n ≤ length old → take n log ≡ take n old

stands-longer : (meta : Records) (old log : List Change) (base_cut published : ℕ) (tables : Served) → base_cut ≤ published → published ≤ length old
    → IsLonger old log → Stands meta old base_cut published tables → Stands meta log base_cut published tables
stands-longer meta old log base_cut published tables below within same h = record {
  base = h.base ∙ ap (tables_of meta) (sym (same base_cut (omega arith)));
  cut = h.cut;
  latest = to-longer meta old log base_cut published tables.latest (same published within) h.latest;
  all = h.all ∙ ap (tables_of meta) (sym (same published within));
  years = h.years;
}

slots-longer : (meta : Records) (old log : List Change) (state : State) (full : Option Staged) (slots : Option (Vec Slot)) → state.log ≡ old → IsLonger old log
    → IfSome full (IsUpdate state) → IfSome full (λ (update : Staged). FitSlots meta (take update.number old) slots)
    → IfSome full (λ (update : Staged). FitSlots meta (take update.number log) slots)
slots-longer meta old log state None slots is same given fit = tt
slots-longer meta old log state (Some update) slots is same given fit =
    let there : update.number ≤ length old = subst (λ x. update.number ≤ length x) is given.there in
    subst (λ changes. FitSlots meta changes slots) (sym (same update.number there)) fit

part-longer : (meta : Records) (old log : List Change) (base_cut : ℕ) (state : State) (latest : Option LatestUpdate) → state.log ≡ old → IsLonger old log
    → IfSome (staged_latest latest) (IsUpdate state) → IfSome latest (λ (update : LatestUpdate). GoesOn meta old base_cut update.staged.number (part_in update))
    → IfSome latest (λ (update : LatestUpdate). GoesOn meta log base_cut update.staged.number (part_in update))
part-longer meta old log base_cut state None is same given goes = tt
part-longer meta old log base_cut state (Some update) is same given goes =
    let there : update.staged.number ≤ length old = subst (λ x. update.staged.number ≤ length x) is given.there in
    on-longer meta old log base_cut update.staged.number (part_in update) (same update.staged.number there) goes

pub shows-longer : (meta : Records) (limits : Limits) (old log : List Change) (shown : Shown) → IsInOrder limits (state_of old shown) → IsLonger old log
    → Shows meta old shown → Shows meta log shown
shows-longer meta limits old log shown order same h = record {
  stands = stands-longer meta old log shown.base_cut shown.published (arc_value shown.tables) order.base_cut order.published same h.stands;
  slots = slots-longer meta old log (state_of old shown) shown.full shown.slots refl same order.full h.slots;
  full = h.full;
  latest = part-longer meta old log shown.base_cut (state_of old shown) shown.latest refl same order.latest h.latest;
}

-- ---- an update is begun

pub full_begun : (meta : Records) (log : List Change) (old new : Shown) (ticket number : ℕ) (slots : Vec Slot)
    → new ≡ record old { ticket = ticket; full = Some (record { ticket = ticket; number = number }); slots = Some slots } → old.base_cut ≤ number
    → length log ≡ number → AreSlots (listed_in meta (writes_of log)) slots.items → Shows meta log old → Shows meta log new
full_begun meta log old new ticket number slots is below all fit h =
    let first : AreSlots (listed_in meta (writes_of (take number log))) slots.items =
    subst (λ changes. AreSlots (listed_in meta (writes_of changes)) slots.items) (sym (take_all number log (omega (arith, all)))) fit in
    subst (Shows meta log) (sym is) (record { stands = h.stands; slots = first; full = below; latest = h.latest })

pub latest_begun : (meta : Records) (log : List Change) (old new : Shown) (update : LatestUpdate)
    → new ≡ record old { ticket = update.staged.ticket; latest = Some update } → GoesOn meta log old.base_cut update.staged.number (part_in update)
    → Shows meta log old → Shows meta log new
latest_begun meta log old new update is goes h =
    subst (Shows meta log) (sym is) (record { stands = h.stands; slots = h.slots; full = h.full; latest = goes })

-- ---- the update that has a ticket

full-by : (b : Bool) → cond b Full Latest ≡ Full → b ≡ true
full-by true is = refl
full-by false is = absurd (cc)

latest-by : (b : Bool) → cond b Full Latest ≡ Latest → b ≡ false
latest-by true is = absurd (cc)
latest-by false is = refl

pub is-full : (ticket : ℕ) (full : Option Staged) → kind_by ticket full ≡ Full → has_ticket ticket full ≡ true
is-full ticket full is = full-by (has_ticket ticket full) is

pub not-full : (ticket : ℕ) (full : Option Staged) → kind_by ticket full ≡ Latest → has_ticket ticket full ≡ false
not-full ticket full is = latest-by (has_ticket ticket full) is

pub is-latest : (ticket : ℕ) (full latest : Option Staged) → kind_by ticket full ≡ Latest → (has_ticket ticket full || has_ticket ticket latest) ≡ true
    → has_ticket ticket latest ≡ true
is-latest ticket full latest is begun = ap (λ b. b || has_ticket ticket latest) (sym (not-full ticket full is)) ∙ begun

pub full-owns : (ticket : ℕ) (full latest : Option Staged) → has_ticket ticket full ≡ true → (has_ticket ticket full || has_ticket ticket latest) ≡ true
full-owns ticket full latest has = ap (λ b. b || has_ticket ticket latest) has

pub full-kind : (ticket : ℕ) (full : Option Staged) → has_ticket ticket full ≡ true → Full ≡ kind_by ticket full
full-kind ticket full has = sym (ap (λ b. cond b Full Latest) has)

pub latest-owns : (ticket : ℕ) (full latest : Option Staged) → has_ticket ticket full ≡ false → has_ticket ticket latest ≡ true
    → (has_ticket ticket full || has_ticket ticket latest) ≡ true
latest-owns ticket full latest other has = ap (λ b. b || has_ticket ticket latest) other ∙ has

pub latest-kind : (ticket : ℕ) (full : Option Staged) → has_ticket ticket full ≡ false → Latest ≡ kind_by ticket full
latest-kind ticket full other = sym (ap (λ b. cond b Full Latest) other)

pub number-full : (ticket : ℕ) (full latest : Option Staged) (published most : ℕ) → kind_by ticket full ≡ Full
    → max published (number_in (by_kind (kind_by ticket full) full latest)) ≤ most → max published (number_in full) ≤ most
number-full ticket full latest published most is there = subst (λ kind. max published (number_in (by_kind kind full latest)) ≤ most) is there

pub number-latest : (ticket : ℕ) (full latest : Option Staged) (published most : ℕ) → kind_by ticket full ≡ Latest
    → max published (number_in (by_kind (kind_by ticket full) full latest)) ≤ most → number_in latest ≤ most
number-latest ticket full latest published most is there =
    let m = le-max_right published (number_in latest) in
    let h : max published (number_in latest) ≤ most = subst (λ kind. max published (number_in (by_kind kind full latest)) ≤ most) is there in
    omega arith

pub full-there : (meta : Records) (log : List Change) (ticket base_cut : ℕ) (full : Option Staged) (slots : Option (Vec Slot)) → has_ticket ticket full ≡ true
    → IfSome full (λ (update : Staged). base_cut ≤ update.number) → IfSome full (λ (update : Staged). FitSlots meta (take update.number log) slots)
    → (base_cut ≤ number_in full) × FitSlots meta (take (number_in full) log) slots
full-there meta log ticket base_cut None slots has below fit = absurd (cc)
full-there meta log ticket base_cut (Some update) slots has below fit = (below, fit)

pub latest-there : (meta : Records) (log : List Change) (ticket base_cut : ℕ) (latest : Option LatestUpdate) → has_ticket ticket (staged_latest latest) ≡ true
    → IfSome latest (λ (update : LatestUpdate). GoesOn meta log base_cut update.staged.number (part_in update))
    → GoesTo meta log base_cut (number_in (staged_latest latest)) (option_map part_in latest)
latest-there meta log ticket base_cut None has goes = absurd (cc)
latest-there meta log ticket base_cut (Some update) has goes = goes

-- ---- an update is published

-- a latest part goes on from later yearly parts
later-base : (meta : Records) (log : List Change) (before base_cut number : ℕ) (latest : LatestPart) → before ≤ base_cut → GoesOn meta log before number latest
    → GoesOn meta log base_cut number latest
later-base meta log before base_cut number latest up goes =
    record { from = let f = goes.from in omega arith; to = goes.to; leads = goes.leads; touched = goes.touched }

later-bases : (meta : Records) (log : List Change) (before base_cut : ℕ) (latest : Option LatestUpdate) → before ≤ base_cut
    → IfSome latest (λ (update : LatestUpdate). GoesOn meta log before update.staged.number (part_in update))
    → IfSome latest (λ (update : LatestUpdate). GoesOn meta log base_cut update.staged.number (part_in update))
later-bases meta log before base_cut None up goes = tt
later-bases meta log before base_cut (Some update) up goes = later-base meta log before base_cut update.staged.number (part_in update) up goes

max-above : (a b : ℕ) → nat_lt a b ≡ true → b ≡ max a b
max-above a b = grind (arith, nat_tests)

max-below : (a b : ℕ) → nat_lt a b ≡ false → max a b ≡ a
max-below a b = grind (arith, nat_tests)

pub max-over : (a b : ℕ) → nat_lt b a ≡ true → a ≡ max a b
max-over a b = grind (arith, nat_tests)

pub max-under : (a b : ℕ) → nat_lt b a ≡ false → b ≡ max a b
max-under a b = grind (arith, nat_tests)

level : (a b c : ℕ) → nat_lt a b ≡ false → c ≡ a → c ≤ b → b ≡ max a b
level a b c = grind (arith, nat_tests)

goes-by : (meta : Records) (log : List Change) (before published number : ℕ) (less : Bool) (over : Option LatestPart) → nat_lt published number ≡ less
    → before ≤ number → GoesTo meta log before published over → GoesTo meta log number (max published number) (cond less None over)
goes-by meta log before published number true over is up goes = max-above published number is
goes-by meta log before published number false None is up goes = level published number before is goes up
goes-by meta log before published number false (Some latest) is up goes =
    subst (λ n. GoesOn meta log number n latest) (sym (max-below published number is)) (later-base meta log before number published latest up goes)

-- what stays over later yearly parts goes as far as is published
pub goes_kept : (meta : Records) (log : List Change) (before published number : ℕ) (over : Option LatestPart) → before ≤ number
    → GoesTo meta log before published over → GoesTo meta log number (max published number) (over_from published number over)
goes_kept meta log before published number over up goes = goes-by meta log before published number (nat_lt published number) over refl up goes

pub full_published : (meta : Records) (log : List Change) (old new : Shown) (published number : ℕ)
    → new ≡ record old { tables = new.tables; published = published; base_cut = number; full = None; slots = None } → old.base_cut ≤ number
    → Stands meta log number published (arc_value new.tables) → Shows meta log old → Shows meta log new
full_published meta log old new published number is up stands h =
    subst (Shows meta log) (sym is)
    (record { stands = stands; slots = tt; full = tt; latest = later-bases meta log old.base_cut number old.latest up h.latest })

pub latest_published : (meta : Records) (log : List Change) (old new : Shown) (number : ℕ)
    → new ≡ record old { tables = new.tables; published = number; latest = None } → Stands meta log old.base_cut number (arc_value new.tables)
    → Shows meta log old → Shows meta log new
latest_published meta log old new number is stands h =
    subst (Shows meta log) (sym is) (record { stands = stands; slots = h.slots; full = h.full; latest = tt })

-- ---- an update is taken away, or its parts that were handed in

no-slots : (meta : Records) (log : List Change) (full : Option Staged) → IfSome full (λ (update : Staged). FitSlots meta (take update.number log) None)
no-slots meta log None = tt
no-slots meta log (Some update) = tt

pub without_slots : (meta : Records) (log : List Change) (old new : Shown) → new ≡ record old { slots = None } → Shows meta log old → Shows meta log new
without_slots meta log old new is h =
    subst (Shows meta log) (sym is) (record { stands = h.stands; slots = no-slots meta log old.full; full = h.full; latest = h.latest })

pub full_ended : (meta : Records) (log : List Change) (old new : Shown) → new ≡ record old { full = None; slots = None } → Shows meta log old
    → Shows meta log new
full_ended meta log old new is h = subst (Shows meta log) (sym is) (record { stands = h.stands; slots = tt; full = tt; latest = h.latest })

pub latest_ended : (meta : Records) (log : List Change) (old new : Shown) → new ≡ record old { latest = None } → Shows meta log old → Shows meta log new
latest_ended meta log old new is h = subst (Shows meta log) (sym is) (record { stands = h.stands; slots = h.slots; full = h.full; latest = tt })

-- ---- the tables of no changes

no-years : (meta : Records) → years_of meta [] ≡ []
unfolding years_of listed_in rows_of events_of places_of regs_of listed_years
no-years meta = refl

no-parts : (parts : List YearPart) → years_in parts ≡ [] → parts ≡ []
no-parts [] is = refl
no-parts (part ∷ parts) is = absurd (cc)

abbrev base-with : List YearPart → ℕ → YearParts
base-with parts cut = record { parts = parts; base_cut = cut }

pub none-base : (meta : Records) (base : YearParts) → years_in base.parts ≡ years_of meta [] → base.base_cut ≡ 0 → base ≡ base-with [] 0
none-base meta base years cut = ap (λ parts. base-with parts base.base_cut) (no-parts base.parts (years ∙ no-years meta)) ∙ ap (base-with []) cut

pub none-stands : (meta : Records) (base : YearParts) (tables : Served) → tables ≡ served_from base None → together base.parts ≡ tables_of meta []
    → years_in base.parts ≡ years_of meta [] → base.base_cut ≡ 0 → Stands meta [] 0 0 tables
none-stands meta base tables is parts years cut =
    subst (Stands meta [] 0 0) (sym is) (record { base = parts; cut = cut; latest = refl; all = parts; years = refl })

-- ---- what a swap makes of the tables

pub laid_full : (state : State) (ticket number published : ℕ) (part : Option LatestPart) (old new : Served)
    → has_ticket ticket state.full ≡ true → number ≡ number_in state.full
    → new.latest ≡ over_from state.published number old.latest → Lays state ticket (Ok published) part old new
laid_full state ticket number published part old new has n is =
    subst (λ kind. LaysBy kind state.published (number_in (staged_of state kind)) part old new) (full-kind ticket state.full has)
    (is ∙ ap (λ x. over_from state.published x old.latest) n)

pub laid_latest : (state : State) (ticket number published : ℕ) (part : Option LatestPart) (old new : Served)
    → has_ticket ticket state.full ≡ false → number ≡ number_in state.latest
    → nat_lt number state.published ≡ false → new.base ≡ old.base → new.latest ≡ part → Lays state ticket (Ok published) part old new
laid_latest state ticket number published part old new other n less base there =
    subst (λ kind. LaysBy kind state.published (number_in (staged_of state kind)) part old new) (latest-kind ticket state.full other)
    (subst (λ b. IsLaid b part old new) (sym less ∙ ap (λ x. nat_lt x state.published) n) (base, there))

pub laid_overtaken : (state : State) (ticket number published : ℕ) (part : Option LatestPart) (old new : Served)
    → has_ticket ticket state.full ≡ false → number ≡ number_in state.latest
    → nat_lt number state.published ≡ true → new ≡ old → Lays state ticket (Ok published) part old new
laid_overtaken state ticket number published part old new other n less same =
    subst (λ kind. LaysBy kind state.published (number_in (staged_of state kind)) part old new) (latest-kind ticket state.full other)
    (subst (λ b. IsLaid b part old new) (sym less ∙ ap (λ x. nat_lt x state.published) n) same)

-- ---- the part of the latest update that is begun

pub ended_full : (state : State) (ticket published : ℕ) (old new : Option LatestPart) → has_ticket ticket state.full ≡ true → new ≡ old
    → new ≡ part_after state ticket (Ok published) old
ended_full state ticket published old new has same = subst (λ kind. new ≡ by_kind kind old None) (full-kind ticket state.full has) same

pub ended_latest : (state : State) (ticket published : ℕ) (old new : Option LatestPart) → has_ticket ticket state.full ≡ false → new ≡ None
    → new ≡ part_after state ticket (Ok published) old
ended_latest state ticket published old new other none = subst (λ kind. new ≡ by_kind kind old None) (latest-kind ticket state.full other) none

-- a part that was made
pub part-made : (latest : Option LatestUpdate) (update : LatestUpdate) (from number : ℕ) → latest ≡ Some update → (part_in update).from ≡ from
    → (part_in update).to ≡ number → IsMade from number (option_map part_in latest)
part-made latest update from number is starts ends = subst (λ l. IsMade from number (option_map part_in l)) (sym is) (starts, ends)
