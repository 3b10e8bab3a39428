use Rattle.std.proofs.Common.{◌∙◌, ap, sym}
use Rattle.cell_values.specs.Seen.{seen_of, contents_of}
use Rattle.validation.specs.Check.{given_at}
use Rattle.validation.proofs.KnownLemmas.{AreKnown-found, AreKnown-more}
use Rattle.validation.proofs.sides.item_value.Goals as goal

pub returns-in-Some-look_up-clause-value : goal.returns-in-Some-look_up-clause-value
returns-in-Some-look_up-clause-value g c =
    let r = c.args.source.now.meta.now in
    let value = given_at r (seen_of r c.args.source.now.seer.now.user
    (contents_of (g.S.RowStore.rows c.args.source.now.store.now) (g.S.RowStore.events c.args.source.now.store.now)
    (g.S.RowStore.regs c.args.source.now.store.now))) c.args.spot.now.place in
    AreKnown-found value c.args.known.now.entries c.in-Some.key c.args.item.now c.in-Some-look_up.value c.requires.known c.in-Some.ensures
    (sym c.in-Some-look_up.ensures)

pub returns-clause-known : goal.returns-clause-known
returns-clause-known g c =
    let r = c.args.source.now.meta.now in
    let value = given_at r (seen_of r c.args.source.now.seer.now.user
    (contents_of (g.S.RowStore.rows c.args.source.now.store.now) (g.S.RowStore.events c.args.source.now.store.now)
    (g.S.RowStore.regs c.args.source.now.store.now))) c.args.spot.now.place in
    AreKnown-more value c.args.known.now.entries c.note.new.known.entries c.in-Some.key c.in_ok-value.value c.requires.known
    (c.in_ok-value.ensures ∙ ap value (sym c.in-Some.ensures)) c.in_ok-note.ensures
