-- Tables under a latest part stand for later ones.
use Rattle.std.proofs.Common.{◌≡◌, ◌∙◌, ◌+◌, Bool, true, false, not, List, ℤ, [], ◌++◌, refl, sym, ap, subst, Ordering}
use Rattle.std.specs.Cmp.{IsTotalOrder}
use Rattle.std.specs.Cmp.Lexicographic.{slice_cmp}
use Rattle.std.specs.List.Sorted.{IsStrictlySortedBy}
use Rattle.std.specs.Ordering.{nat_cmp}
use Rattle.std.proofs.lemmas.List.{append-nil}
use Rattle.table_rows.specs.Cells.{times}
use Rattle.table_rows.specs.Events.{event_cmp, reg_cmp}
use Rattle.table_rows.specs.Order.{row_cmp}
use Rattle.table_rows.specs.Store.{Contents, Listed, contents_in, rises}
use Rattle.table_rows.proofs.OrderLemmas.{row_total}
use Rattle.table_rows.proofs.RiseLemmas.{sorted_from_rises}
use Rattle.table_rows.proofs.StoreLemmas.{store-holds}
use Rattle.table_sums.specs.Ascending.{ascending}
use Rattle.table_sums.proofs.AscendingLemmas.{ascending-parts, ascending-sorted}
use Rattle.table_sums.proofs.YearPartLemmas.{event_total, reg_total}
use Rattle.table_sums.proofs.YearLemmas.{each, filter-whole}
use Rattle.table_latest.specs.Latest.{LatestPart, Touched, is_event_touched, is_reg_touched, is_row_touched, laid_over, overlaid, untouched}
use Rattle.table_latest.specs.Keys.{place_cmp, reg_place_cmp}
use Rattle.table_latest.specs.Latest.{AreInOrder, IsOverlay}
use Rattle.table_latest.specs.Later.{Bridges, Follows, IsStoreOf, LeadsTo}

one_of : (b : Bool) → 1 ≡ times (not b) + times b
one_of true = refl
one_of false = refl

module _ {X : Type 0} (cmp : X → X → Ordering) (total : IsTotalOrder cmp) (touched : X → Bool) where
  -- the base under the latest part is the later list
  pub follows-over : (base now later : List X) → rises cmp later ≡ true → Follows touched base now later → laid_over cmp touched base now ≡ later
  follows-over base now later rise follows =
      (λ i. ascending cmp (sym follows.same i ++ sym follows.changed i))
      ∙ ascending-parts cmp total (λ x. not (touched x)) touched (λ x. true) later (sorted_from_rises cmp total later rise)
      (each (λ x. 1 ≡ times (not (touched x)) + times (touched x)) later (λ x. one_of (touched x)))
      ∙ filter-whole (λ x. true) later (each (λ x. true ≡ true) later (λ x. refl))

-- so all three lists are
pub leads-over : (base : Contents) (latest : LatestPart) (later : Contents) (years : List ℤ) → IsStoreOf later years → LeadsTo base latest later
    → overlaid base latest ≡ later
leads-over base latest later years store leads =
    let holds = store-holds later.rows later.events later.regs years store in
    let rows = follows-over row_cmp row_total (is_row_touched latest.touched) base.rows latest.holds.rows later.rows holds.rows_rise leads.rows in
    let events =
    follows-over event_cmp event_total (is_event_touched latest.touched) base.events latest.holds.events later.events holds.events_rise leads.events in
    let regs = follows-over reg_cmp reg_total (is_reg_touched latest.touched) base.regs latest.holds.regs later.regs holds.regs_rise leads.regs in
    λ i. record { rows = rows i; events = events i; regs = regs i }

pub bridge-over : (base : Listed) (latest : LatestPart) (later : Contents) → Bridges base latest later → overlaid (contents_in base) latest ≡ later
bridge-over base latest later bridge = leads-over (contents_in base) latest later base.years bridge.store bridge.leads

pub bridge-overlay : (base : Listed) (latest : LatestPart) (later : Contents) → Bridges base latest later → IsOverlay base latest
bridge-overlay base latest later bridge =
    record {
      store = subst (λ (all : Contents). IsStoreOf all base.years) (sym (bridge-over base latest later bridge)) bridge.store;
      reach = bridge.reach;
    }

-- ---- nothing touched

whole : {X : Type 0} (touched : X → Bool) (xs : List X) → ((x : X) → touched x ≡ false) → untouched touched xs ≡ xs
whole touched xs none = filter-whole (λ x. not (touched x)) xs (each (λ x. not (touched x) ≡ true) xs (λ x. ap not (none x)))

none-over : {X : Type 0} (cmp : X → X → Ordering) → IsTotalOrder cmp → (touched : X → Bool) (base : List X) → rises cmp base ≡ true
    → ((x : X) → touched x ≡ false) → laid_over cmp touched base [] ≡ base
none-over cmp total touched base rise none =
    ap (ascending cmp) (append-nil (untouched touched base) ∙ whole touched base none) ∙ ascending-sorted cmp base (sorted_from_rises cmp total base rise)

pub nothing-over : (latest : LatestPart) → latest.touched ≡ record { rows = []; events = []; regs = [] }
    → latest.holds ≡ record { rows = []; events = []; regs = [] }
    → (base : Listed) → IsStoreOf (contents_in base) base.years → overlaid (contents_in base) latest ≡ contents_in base
nothing-over latest none empty base store =
    let holds = store-holds base.rows base.events base.regs base.years store in
    let rows = none-over row_cmp row_total (λ x. false) base.rows holds.rows_rise (λ x. refl) in
    let events = none-over event_cmp event_total (λ x. false) base.events holds.events_rise (λ x. refl) in
    let regs = none-over reg_cmp reg_total (λ x. false) base.regs holds.regs_rise (λ x. refl) in
    (λ i. overlaid (contents_in base) (record { touched = none i; holds = empty i; from = latest.from; to = latest.to }))
    ∙ (λ i. record { rows = rows i; events = events i; regs = regs i })

pub none-ordered : (touched : Touched) → touched.rows ≡ [] → touched.events ≡ [] → touched.regs ≡ [] → AreInOrder touched
unfolding IsStrictlySortedBy
none-ordered touched rows events regs =
    record {
      rows = subst (IsStrictlySortedBy place_cmp) (sym rows) tt;
      events = subst (IsStrictlySortedBy (slice_cmp nat_cmp)) (sym events) tt;
      regs = subst (IsStrictlySortedBy reg_place_cmp) (sym regs) tt;
    }
