use Rattle.std.proofs.Common.{◌≡◌, ◌+◌, rules}
use Rattle.dh_base.specs.declared.plain.Need.TheVariants as need
use Rattle.table_rows.specs.Rows.{wanted_rows}
use Rattle.table_latest.proofs.ReplacedLemmas.{none-there, row-there}
use Rattle.table_latest.proofs.replaced.row_at.Goals as goal

pub returns-in_ok-items : goal.returns-in_ok-items
returns-in_ok-items g c =
    let found : c.items.inside.items.items ≡ wanted_rows c.args.place.now.group need.All c.args.place.now.order (c.args.place.now.order + 1)
    (g.S.RowStore.rows c.args.base.now) = search rules in
    row-there c.args.place.now (g.S.RowStore.rows c.args.base.now) c.items.inside.items.items found

pub returns-else-place-lt4294967295 : goal.returns-else-place-lt4294967295
returns-else-place-lt4294967295 g c =
    none-there c.args.place.now (g.S.RowStore.rows c.args.base.now) c.new.result.items c.requires c.if-place-lt4294967295.false c.new.ensures.items
