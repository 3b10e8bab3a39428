use Rattle.std.proofs.Common.{◌≡◌, ◌∙◌, true, ap, sym, map, rules}
use Rattle.std.specs.List.{filter}
use Rattle.table_rows.specs.Events.{event_cmp, is_event_of}
use Rattle.table_rows.specs.Store.{Contents, rises}
use Rattle.table_rows.proofs.StoreLemmas.{store-holds, true_from}
use Rattle.table_sums.proofs.YearPartLemmas.{event_total}
use Rattle.table_latest.specs.Latest.{is_event_touched, untouched}
use Rattle.table_latest.proofs.OverLemmas.{kept-order, now-order, parts-over}
use Rattle.table_latest.proofs.overlay.events_in.Goals as goal

pub merged-requires-clause-total : goal.merged-requires-clause-total
merged-requires-clause-total g c = event_total

pub merged-requires-clause-first : goal.merged-requires-clause-first
merged-requires-clause-first g c =
    let test = is_event_of c.args.asked.now.program c.args.asked.now.from_day c.args.asked.now.to_day in
    let touched = is_event_touched c.args.latest.now.touched in
    let rise : rises event_cmp (g.S.RowStore.events c.args.base.now) ≡ true =
    (store-holds (g.S.RowStore.rows c.args.base.now) (g.S.RowStore.events c.args.base.now) (g.S.RowStore.regs c.args.base.now)
    (g.S.RowStore.built c.args.base.now)
    (true_from _ c.in_ok-all.ensures.store)).events_rise in
    let all : map (λ event. event.now) c.in_ok-all.all.items
    ≡ filter (is_event_of c.args.asked.now.program c.args.asked.now.from_day c.args.asked.now.to_day) (g.S.RowStore.events c.args.base.now) = search rules in
    let kept : c.in_ok-kept.kept.items ≡ untouched (is_event_touched c.args.latest.now.touched) (map (λ event. event.now) c.in_ok-all.all.items) =
    search rules in
    kept-order event_cmp event_total test touched (g.S.RowStore.events c.args.base.now) c.args.latest.now.holds.events
    c.in_ok-kept.kept.items (map (λ event. event.now) c.in_ok-all.all.items) rise all kept

pub merged-requires-clause-more : goal.merged-requires-clause-more
merged-requires-clause-more g c =
    let test = is_event_of c.args.asked.now.program c.args.asked.now.from_day c.args.asked.now.to_day in
    let own : rises event_cmp c.store.result.now.events ≡ true =
    (store-holds c.store.result.now.rows c.store.result.now.events c.store.result.now.regs c.store.result.now.years
    (true_from _ c.in_ok-now.ensures.store)).events_rise in
    let rise : rises event_cmp c.args.latest.now.holds.events ≡ true = ap (λ (h : Contents). rises event_cmp h.events) (sym c.store.ensures) ∙ own in
    let held : map (λ event. event.now) c.in_ok-now.now.items
    ≡ filter (is_event_of c.args.asked.now.program c.args.asked.now.from_day c.args.asked.now.to_day) c.store.result.now.events = search rules in
    let more : c.in_ok-more.more.items ≡ map (λ event. event.now) c.in_ok-now.now.items = search rules in
    now-order event_cmp event_total test (is_event_touched c.args.latest.now.touched) (g.S.RowStore.events c.args.base.now)
    c.args.latest.now.holds.events c.in_ok-more.more.items rise
    (more ∙ held ∙ ap (λ (h : Contents). filter (is_event_of c.args.asked.now.program c.args.asked.now.from_day c.args.asked.now.to_day) h.events)
    c.store.ensures)

pub returns : goal.returns
returns g c =
    let all : map (λ event. event.now) c.in_ok-all.all.items
    ≡ filter (is_event_of c.args.asked.now.program c.args.asked.now.from_day c.args.asked.now.to_day) (g.S.RowStore.events c.args.base.now) = search rules in
    let held : map (λ event. event.now) c.in_ok-now.now.items
    ≡ filter (is_event_of c.args.asked.now.program c.args.asked.now.from_day c.args.asked.now.to_day) c.store.result.now.events = search rules in
    let more : c.in_ok-more.more.items ≡ map (λ event. event.now) c.in_ok-now.now.items = search rules in
    let kept : c.in_ok-kept.kept.items ≡ untouched (is_event_touched c.args.latest.now.touched) (map (λ event. event.now) c.in_ok-all.all.items) =
    search rules in
    let over = parts-over event_cmp event_total (is_event_of c.args.asked.now.program c.args.asked.now.from_day c.args.asked.now.to_day)
    (is_event_touched c.args.latest.now.touched) (g.S.RowStore.events c.args.base.now) c.args.latest.now.holds.events
    c.in_ok-events.events.items c.in_ok-kept.kept.items (map (λ event. event.now) c.in_ok-all.all.items) c.in_ok-more.more.items all
    (more ∙ held ∙ ap (λ (h : Contents). filter (is_event_of c.args.asked.now.program c.args.asked.now.from_day c.args.asked.now.to_day) h.events)
    c.store.ensures) kept c.in_ok-events.ensures in
    search rules
