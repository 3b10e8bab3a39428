-- Tables of a log under a latest part that leads to those of a longer one.
use Rattle.std.proofs.Common.{◌≡◌, ◌∙◌, ℕ, ℤ, ◌<◌, ◌≤◌, ◌^◌, true, List, length, map, take, sym, ap, subst, arith}
use Rattle.std.specs.Prelude.{nat_lt}
use Rattle.std.specs.List.{list_all}
use Rattle.std.specs.Ordering.{int_cmp}
use Rattle.std.proofs.lemmas.Bool.{and_from}
use Rattle.std.proofs.lemmas.Bool.Decides.{nat_tests}
use Rattle.std.proofs.lemmas.List.{length-map, take-map}
use Rattle.dh_changes.specs.declared.change.Change.{Change}
use Rattle.dh_changes.specs.declared.change.Write.{Write}
use Rattle.dh_changes.specs.declared.keys.ValueKey.{ValueKey}
use Rattle.org_tree.specs.Units.{IsTree}
use Rattle.dh_metadata.specs.declared.held.Records.{Records}
use Rattle.dh_changes.specs.Facts.{Facts, facts_in}
use Rattle.dh_records.specs.Access.{tree}
use Rattle.table_rows.specs.declared.row.Row.{Row}
use Rattle.table_rows.specs.declared.event.EventRow.{EventRow}
use Rattle.table_rows.specs.declared.event.RegRow.{RegRow}
use Rattle.table_rows.specs.Store.{Contents, Listed, contents_in, is_store, rises}
use Rattle.table_rows.proofs.StoreLemmas.{store-holds}
use Rattle.table_sums.proofs.AscendingLemmas.{every-to}
use Rattle.table_build.specs.Listed.{listed_in}
use Rattle.table_build.specs.Log.{is_of_days, values_named, writes_of}
use Rattle.table_build.specs.Values as values
use Rattle.table_build.proofs.EachLemmas.{list_all-each}
use Rattle.table_build.proofs.KeyLemmas.{StandsTree, rows-own}
use Rattle.table_build.proofs.MemberLemmas.{IsIn, each-member}
use Rattle.table_build.proofs.StoreLemmas.{listed-store}
use Rattle.table_latest.specs.Latest.{LatestPart, is_in_reach}
use Rattle.table_latest.specs.Later.{Bridges, LeadsTo}
use Rattle.latest_build.specs.Leads.{LeadsFrom}
use Rattle.latest_build.proofs.KeyLemmas.{row-order, rows-list}
use Rattle.latest_build.proofs.KeptLemmas.{units-same}

in-reach : (order count : ℕ) → order < count → count < 2 ^ 32 → nat_lt order 4294967295 ≡ true
in-reach order count below few = let less : order < 4294967295 = omega (arith, below, few) in grind (arith, nat_tests, less)

rows-reach : (r : Records) (facts : Facts) → StandsTree r facts → (keys : List ValueKey) → list_all is_in_reach (values.rows_of r facts keys) ≡ true
rows-reach r facts stands keys =
    list_all-each is_in_reach (values.rows_of r facts keys)
    (every-to (λ x. IsIn x (values.rows_of r facts keys)) (λ x. is_in_reach x ≡ true) (values.rows_of r facts keys)
    (λ x there.
    let own = (rows-list r facts stands keys).from x there in
    in-reach x.order (length (tree facts r)) (row-order r facts stands own.a x own.is) stands.is_tree.few)
    (each-member (values.rows_of r facts keys)))

-- a store may have other years
other-years : (rows : List Row) (events : List EventRow) (regs : List RegRow) (years others : List ℤ) → is_store rows events regs years ≡ true
    → rises int_cmp others ≡ true → is_store rows events regs others ≡ true
unfolding is_store
other-years rows events regs years others store up =
    let holds = store-holds rows events regs years store in
    and_from _ _ holds.few_rows (and_from _ _ holds.few_events (and_from _ _ holds.few_regs (and_from _ _ holds.rows_rise (and_from _ _ holds.events_rise
    (and_from _ _ holds.regs_rise (and_from _ _ up (and_from _ _ holds.event_days (and_from _ _ holds.reg_days holds.own_places))))))))

stands-as : (r : Records) (f g : Facts) → StandsTree r f → StandsTree r g
stands-as r f g stands = record { is_tree = subst IsTree (units-same r f g) stands.is_tree; numbers = ap length (sym (units-same r f g)) ∙ stands.numbers }

base-reach : (r : Records) (facts : Facts) → StandsTree r facts → (before : List Write) → list_all is_in_reach (listed_in r before).rows ≡ true
unfolding listed_in
base-reach r facts stands before = rows-reach r (facts_in before) (stands-as r facts (facts_in before) stands) (values_named before)

whole-store : (r : Records) (facts : Facts) → StandsTree r facts → (writes : List Write) → length writes ≤ 4194304 → list_all is_of_days writes ≡ true
    → is_store (listed_in r writes).rows (listed_in r writes).events (listed_in r writes).regs (listed_in r writes).years ≡ true
unfolding listed_in
whole-store r facts stands writes few days =
    listed-store r writes few days (rows-own r (facts_in writes) (stands-as r facts (facts_in writes) stands) (values_named writes))

pub log-bridges : (r : Records) (facts : Facts) → IsTree (tree facts r) → length (tree facts r) ≡ length r.organisation_units → (writes before : List Write)
    → length writes ≤ 4194304 → list_all is_of_days writes ≡ true → (base : Listed) (latest : LatestPart)
    → is_store base.rows base.events base.regs base.years ≡ true → contents_in base ≡ contents_in (listed_in r before)
    → LeadsTo (contents_in base) latest (contents_in (listed_in r writes)) → Bridges base latest (contents_in (listed_in r writes))
log-bridges r facts is_tree numbers writes before few days base latest store is leads =
    let stands : StandsTree r facts = record { is_tree = is_tree; numbers = numbers } in
    record {
      leads = leads;
      store = other-years (listed_in r writes).rows (listed_in r writes).events (listed_in r writes).regs (listed_in r writes).years base.years
          (whole-store r facts stands writes few days) (store-holds base.rows base.events base.regs base.years store).years_rise;
      reach = ap (λ (all : Contents). list_all is_in_reach all.rows) is ∙ base-reach r facts stands before;
    }

-- ---- by the changes

on-cut : {A : Type 0} (of : A → Change) (r : Records) (cut : ℕ) (changes : List A)
    → contents_in (listed_in r (writes_of (map of (take cut changes)))) ≡ contents_in (listed_in r (writes_of (take cut (map of changes))))
on-cut of r cut changes = ap (λ (l : List Change). contents_in (listed_in r (writes_of l))) (sym (take-map of cut changes))

-- tables of the first changes, as many as the part comes from or more, under the part
pub part-bridges : {A : Type 0} (of : A → Change) (r : Records) (changes : List A) (base : Listed) (cut : ℕ) (latest : LatestPart) → ((log : Facts)
    → IsTree (tree log r)) → ((log : Facts) → length (tree log r) ≡ length r.organisation_units) → length (writes_of (map of changes)) ≤ 4194304
    → list_all is_of_days (writes_of (map of changes)) ≡ true → is_store base.rows base.events base.regs base.years ≡ true
    → contents_in base ≡ contents_in (listed_in r (writes_of (map of (take cut changes)))) → latest.from ≤ cut → cut ≤ length changes
    → LeadsFrom r (map of changes) latest → Bridges base latest (contents_in (listed_in r (writes_of (map of changes))))
part-bridges of r changes base cut latest stands numbers few days store is from within leads =
    let writes = writes_of (map of changes) in
    let before : contents_in base ≡ contents_in (listed_in r (writes_of (take cut (map of changes)))) = is ∙ on-cut of r cut changes in
    let led = leads cut from (subst (λ n. cut ≤ n) (sym (length-map changes of)) within) in
    log-bridges r (facts_in writes) (stands (facts_in writes)) (numbers (facts_in writes)) writes (writes_of (take cut (map of changes))) few days base latest
    store before (subst (λ (all : Contents). LeadsTo all latest (contents_in (listed_in r writes))) (sym before) led)
