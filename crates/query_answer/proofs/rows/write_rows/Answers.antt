use Rattle.std.proofs.Common.{◌≡◌, ◌<◌, ◌∙◌, [], sym, ap, subst, List, ◌+◌, ◌++◌, append-nil, get_or, length, take, drop, true, false, Some, None, arith}
use Rattle.std.specs.List.{find, list_any}
use Rattle.std.specs.Option.{option_map}
use Rattle.std.proofs.lemmas.List.{drop_all, take_all}
use Rattle.std.proofs.lemmas.List.Sums.{AllPass-from_list_all}
use Rattle.query_lang.specs.declared.plain.Dx.{Dx}
use Rattle.cell_values.specs.Seen.{seen_of, contents_of}
use Rattle.query_answer.specs.Asked.{can_answer_dx}
use Rattle.query_answer.specs.Rows.{dx_is_wide, rows_from}
use Rattle.query_answer.proofs.LoopLemmas.{dx_step, find_at, find_none, none-more}
use Rattle.query_answer.proofs.rows.write_rows.Goals as goal

pub returns-then-branch-clause-wide : goal.returns-then-branch-clause-wide
returns-then-branch-clause-wide g c =
    let test = dx_is_wide c.args.asking.now.source.now.meta.now
    (seen_of c.args.asking.now.source.now.meta.now c.args.asking.now.source.now.seer.now.user
    (contents_of (g.S.RowStore.rows c.args.asking.now.source.now.store.now) (g.S.RowStore.events c.args.asking.now.source.now.store.now)
    (g.S.RowStore.regs c.args.asking.now.source.now.store.now)))
    c.args.asking.now.query.now in
    let items : List Dx = c.as_slice-items.result.now in
    let x : Dx = c.index-items-place.result in
    let within : c.loop-place.place < length items = omega arith in
    let here : test (get_or items c.loop-place.place x) ≡ true = ap test (sym c.index-items-place.is)
    ∙ (sym c.in_ok-wide.ensures.wide ∙ c.if-branch.true) in
    let found : find test items ≡ Some (get_or items c.loop-place.place x) = find_at test items c.loop-place.place x within c.loop-place.invariant.none here in
    let of_query : find test c.args.asking.now.query.now.dx ≡ Some x =
    ap (find test) (sym c.as_slice-items.ensures) ∙ found ∙ ap Some (sym c.index-items-place.is) in
    ap Some (c.in_ok-copy.ensures ∙ c.as_slice.ensures) ∙ ap (option_map (λ (dx : Dx). dx.text)) (sym of_query)

pub returns-clause-wide : goal.returns-clause-wide
returns-clause-wide g c =
    let test = dx_is_wide c.args.asking.now.source.now.meta.now
    (seen_of c.args.asking.now.source.now.meta.now c.args.asking.now.source.now.seer.now.user
    (contents_of (g.S.RowStore.rows c.args.asking.now.source.now.store.now) (g.S.RowStore.events c.args.asking.now.source.now.store.now)
    (g.S.RowStore.regs c.args.asking.now.source.now.store.now)))
    c.args.asking.now.query.now in
    let items : List Dx = c.as_slice-items.result.now in
    let all : take c.loop-place.place items ≡ items = take_all c.loop-place.place items (omega arith) in
    let none : list_any test items ≡ false = ap (list_any test) (sym all) ∙ c.loop-place.invariant.none in
    let of_query : find test c.args.asking.now.query.now.dx ≡ None = ap (find test) (sym c.as_slice-items.ensures) ∙ find_none test items none in
    ap (option_map (λ (dx : Dx). dx.text)) (sym of_query)

pub loop-place-preserved : goal.loop-place-preserved
loop-place-preserved g c =
    let r = c.args.asking.now.source.now.meta.now in
    let query = c.args.asking.now.query.now in
    let shown = (seen_of c.args.asking.now.source.now.meta.now c.args.asking.now.source.now.seer.now.user
    (contents_of (g.S.RowStore.rows c.args.asking.now.source.now.store.now) (g.S.RowStore.events c.args.asking.now.source.now.store.now)
    (g.S.RowStore.regs c.args.asking.now.source.now.store.now))) in
    let items : List Dx = c.as_slice-items.result.now in
    let x : Dx = c.index-items-place.result in
    let place = c.loop-place.place in
    let within : place < length items = omega arith in
    record {
      none = none-more (dx_is_wide r shown query) items place x within c.index-items-place.is c.loop-place.invariant.none
          (sym c.in_ok-wide.ensures.wide ∙ c.if-branch.false);
      rows = ap (λ l. l ++ rows_from r shown query (place + 1) (drop (place + 1) items)) (c.in_ok-wide.ensures.rows c.if-branch.false)
          ∙ dx_step r shown query items place x c.loop-place.rows.items (rows_from r shown query 0 items) within c.index-items-place.is
          c.loop-place.invariant.rows;
    }

pub returns-clause-rows : goal.returns-clause-rows
returns-clause-rows g c = λ fine.
    let r = c.args.asking.now.source.now.meta.now in
    let query = c.args.asking.now.query.now in
    let shown = (seen_of c.args.asking.now.source.now.meta.now c.args.asking.now.source.now.seer.now.user
    (contents_of (g.S.RowStore.rows c.args.asking.now.source.now.store.now) (g.S.RowStore.events c.args.asking.now.source.now.store.now)
    (g.S.RowStore.regs c.args.asking.now.source.now.store.now))) in
    let rows = c.loop-place.rows.items in
    let items : List Dx = c.as_slice-items.result.now in
    let none : drop c.loop-place.place items ≡ [] = drop_all c.loop-place.place items (omega arith) in
    sym (append-nil rows) ∙ ap (λ l. rows ++ rows_from r shown query c.loop-place.place l) (sym none)
    ∙ c.loop-place.invariant.rows ∙ ap (rows_from r shown query 0) c.as_slice-items.ensures

pub plan_of-requires-clause-dx : goal.plan_of-requires-clause-dx
plan_of-requires-clause-dx g c =
    let place = c.loop-place.place in
    let items : List Dx = c.as_slice-items.result.now in
    let asked : List Dx = c.args.asking.now.query.now.dx in
    let x : Dx = c.index-items-place.result in
    let can = can_answer_dx c.args.asking.now.source.now.meta.now in
    let within : place < length asked = subst (λ (l : List Dx). place < length l) c.as_slice-items.ensures c.loop-place-test.true in
    ap can (c.index-items-place.is ∙ ap (λ (l : List Dx). get_or l place x) c.as_slice-items.ensures)
    ∙ AllPass-from_list_all can asked c.requires.query.dx place x within
