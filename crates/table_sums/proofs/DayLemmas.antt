-- Events by day and identifier, of which some days are wanted.
use Rattle.std.proofs.Common.{◌≡◌, ◌∙◌, ℕ, zero, suc, ◌<◌, ◌≤◌, inl, inr, Bool, true, false, cond, ◌&&◌, nat_eq, List, [], ◌∷◌, ◌++◌, length}
use Rattle.std.proofs.Common.{take, drop, get_or, ℤ, ◌≤ℤ◌, ◌<ℤ◌, IsTrue, refl, sym, ap, arith, Ordering, Less, Equal, Greater}
use Rattle.std.specs.Prelude.{int_le, int_lt}
use Rattle.std.specs.Cmp.Lexicographic.{slice_cmp}
use Rattle.std.specs.List.{filter}
use Rattle.std.specs.List.Sorted.{IsPartitionedBy}
use Rattle.std.specs.Ordering.{int_cmp, nat_cmp, is_gt, ordering_then}
use Rattle.std.proofs.lemmas.Bool.{cases_Bool, false≢true}
use Rattle.std.proofs.lemmas.Cmp.{int_ranked, on_total, then_total, int_cmp_total, nat_list_cmp_total}
use Rattle.std.proofs.lemmas.Int.{ints}
use Rattle.std.proofs.lemmas.List.{append-nil, take-append-drop}
use Rattle.std.proofs.lemmas.List.Elements.{filter-append}
use Rattle.std.specs.Cmp.{IsTotalOrder}
use Rattle.table_rows.specs.declared.event.EventRow.{EventRow}
use Rattle.table_rows.specs.declared.event.EventsAsked.{EventsAsked}
use Rattle.table_rows.specs.declared.event.RegRow.{RegRow}
use Rattle.table_rows.specs.declared.row.Row.{Row}
use Rattle.table_rows.specs.Events.{event_cmp, is_event_of, events_of}
use Rattle.table_rows.specs.Store.{rises, is_store}
use Rattle.table_rows.proofs.RiseLemmas.{sorted_from_rises, sorted-far}
use Rattle.table_rows.proofs.StoreLemmas.{store-holds, true_from}
use Rattle.table_sums.specs.Days.{is_before}
use Rattle.table_sums.proofs.BoundLemmas.{lt_or_eq}

event_total : IsTotalOrder event_cmp
event_total = then_total (on_total (λ (e : EventRow). e.day) int_cmp_total) (on_total (λ (e : EventRow). e.id) nat_list_cmp_total)

front : (o rest : Ordering) → ordering_then o rest ≡ Less → is_gt o ≡ false
front Less rest e = refl
front Equal rest e = refl
front Greater rest e = absurd (cc)

upto_day : (a b : ℤ) (o : Ordering) → o ≡ int_cmp a b → is_gt o ≡ false → a ≤ℤ b
upto_day a b Less is not = let h : a <ℤ b = int_ranked a b Less is in omega (arith, ints)
upto_day a b Equal is not = let h : a ≡ b = int_ranked a b Equal is in omega (arith, ints)
upto_day a b Greater is not = absurd (false≢true (sym not))

-- an earlier event occurred on no later day
days-rise : (events : List EventRow) (i j : ℕ) (d : EventRow) → rises event_cmp events ≡ true → i < j → j < length events
    → (get_or events i d).day ≤ℤ (get_or events j d).day
days-rise events i j d up less within =
    let one = get_or events i d in
    let other = get_or events j d in
    upto_day one.day other.day (int_cmp one.day other.day) refl
    (front (int_cmp one.day other.day) (slice_cmp nat_cmp one.id other.id)
    (sorted-far event_cmp events i j d d (sorted_from_rises event_cmp event_total events up) less within))

lt-at : (a b : ℤ) → a <ℤ b → int_lt a b ≡ true
lt-at a b h = elim (cases_Bool (int_lt a b)) [
  | inl below ↦ below
  | inr not ↦ absurd (let off : int_lt a b ≡ false = not in omega (arith, ints))
]

le-at : (a b : ℤ) → a ≤ℤ b → int_le a b ≡ true
le-at a b h = elim (cases_Bool (int_le a b)) [
  | inl upto ↦ upto
  | inr not ↦ absurd (let off : int_le a b ≡ false = not in omega (arith, ints))
]

before-parted : (events : List EventRow) (day : ℤ) → rises event_cmp events ≡ true → IsPartitionedBy (λ (event : EventRow). int_lt event.day day) events
before-parted events day up i j d upto within is =
    elim (lt_or_eq i j upto) [
      | inl less ↦
          let rise = days-rise events i j d up less within in
          lt-at (get_or events i d).day day (let below : int_lt (get_or events j d).day day ≡ true = is in omega (arith, ints))
      | inr same ↦ ap (λ n. int_lt (get_or events n d).day day) same ∙ is
    ]

upto-parted : (events : List EventRow) (day : ℤ) → rises event_cmp events ≡ true → IsPartitionedBy (λ (event : EventRow). int_le event.day day) events
upto-parted events day up i j d upto within is =
    elim (lt_or_eq i j upto) [
      | inl less ↦
          let rise = days-rise events i j d up less within in
          le-at (get_or events i d).day day (let below : int_le (get_or events j d).day day ≡ true = is in omega (arith, ints))
      | inr same ↦ ap (λ n. int_le (get_or events n d).day day) same ∙ is
    ]

pub days-parted : (asked : EventsAsked) (with_days : Bool) (events : List EventRow) → rises event_cmp events ≡ true
    → IsPartitionedBy (is_before asked with_days) events
days-parted asked false events up = before-parted events asked.from_day up
days-parted asked true events up = upto-parted events asked.to_day up

-- ---- no event of other days is wanted

none-first : {X : Type 0} (test : X → Bool) (xs : List X) (n : ℕ) → ((k : ℕ) (d : X) → k < n → k < length xs → test (get_or xs k d) ≡ false)
    → filter test (take n xs) ≡ []
none-first test xs zero none = refl
none-first test [] (suc n) none = refl
none-first test (x ∷ xs) (suc n) none =
    ap (λ b. cond b (x ∷ filter test (take n xs)) (filter test (take n xs))) (none 0 x (omega arith) (omega arith))
    ∙ none-first test xs n (λ k d less within. none (suc k) d (omega (arith, less)) (omega (arith, within)))

none-last : {X : Type 0} (test : X → Bool) (xs : List X) (n : ℕ) → ((k : ℕ) (d : X) → n ≤ k → k < length xs → test (get_or xs k d) ≡ false)
    → filter test (drop n xs) ≡ []
none-last test [] zero none = refl
none-last test [] (suc n) none = refl
none-last test (x ∷ xs) zero none =
    ap (λ b. cond b (x ∷ filter test xs) (filter test xs)) (none 0 x (omega arith) (omega arith))
    ∙ none-last test xs zero (λ k d from within. none (suc k) d (omega arith) (omega (arith, within)))
none-last test (x ∷ xs) (suc n) none = none-last test xs n (λ k d from within. none (suc k) d (omega (arith, from)) (omega (arith, within)))

not-earlier : (p a b : Bool) → a ≡ false → (p && (a && b)) ≡ false
not-earlier true false b e = refl
not-earlier false false b e = refl
not-earlier p true b e = absurd (cc)

not-later : (p a b : Bool) → b ≡ false → (p && (a && b)) ≡ false
not-later true true false e = refl
not-later true false false e = refl
not-later false a false e = refl
not-later p a true e = absurd (cc)

too-early : (from day : ℤ) → int_lt day from ≡ true → int_le from day ≡ false
too-early from day early = elim (cases_Bool (int_le from day)) [
  | inl upto ↦ absurd (let on : int_le from day ≡ true = upto in omega (arith, ints))
  | inr not ↦ not
]

pub days-start : (program : ℕ) (from to : ℤ) (events : List EventRow) (first : ℕ)
    → ((k : ℕ) (d : EventRow) → k < first → int_lt (get_or events k d).day from ≡ true) → [] ≡ events_of program from to (take first events)
days-start program from to events first before =
    sym (none-first (is_event_of program from to) events first (λ k d less within.
    not-earlier (nat_eq (get_or events k d).program program) (int_le from (get_or events k d).day) (int_le (get_or events k d).day to)
    (too-early from (get_or events k d).day (before k d less))))

pub days-done : (program : ℕ) (from to : ℤ) (events : List EventRow) (place end : ℕ) (found : List EventRow) → end ≤ place
    → ((k : ℕ) (d : EventRow) → end ≤ k → k < length events → int_le (get_or events k d).day to ≡ false)
    → found ≡ events_of program from to (take place events) → found ≡ events_of program from to events
days-done program from to events place end found past after is =
    let test = is_event_of program from to in
    let rest : filter test (drop place events) ≡ [] =
    none-last test events place (λ k d beyond within.
    not-later (nat_eq (get_or events k d).program program) (int_le from (get_or events k d).day) (int_le (get_or events k d).day to)
    (after k d (omega (arith, past, beyond)) within)) in
    is
    ∙ sym (ap (filter test) (sym (take-append-drop place events)) ∙ filter-append test (take place events) (drop place events)
    ∙ ap (λ more. filter test (take place events) ++ more) rest ∙ append-nil (filter test (take place events)))

-- the events of a store are in their order
pub events_up : (rows : List Row) (events : List EventRow) (regs : List RegRow) (years : List ℤ) → IsTrue (is_store rows events regs years)
    → rises event_cmp events ≡ true
events_up rows events regs years is = (store-holds rows events regs years (true_from _ is)).events_rise
