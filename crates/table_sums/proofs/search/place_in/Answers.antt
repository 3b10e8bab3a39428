use Rattle.table_sums.proofs.SpanLemmas.{span-before, span-after}
use Rattle.table_sums.proofs.search.place_in.Goals as goal

pub place_between-requires-clause-upto : goal.place_between-requires-clause-upto
place_between-requires-clause-upto g c = c.requires.span.between

pub place_between-requires-clause-within : goal.place_between-requires-clause-within
place_between-requires-clause-within g c = c.requires.span.within

pub place_between-requires-clause-before : goal.place_between-requires-clause-before
place_between-requires-clause-before g c = span-before c.args.key.now c.args.rows.now c.args.span.low c.args.span.high c.requires.span

pub place_between-requires-clause-same : goal.place_between-requires-clause-same
place_between-requires-clause-same g c = c.requires.span.same

pub place_between-requires-clause-after : goal.place_between-requires-clause-after
place_between-requires-clause-after g c = span-after c.args.key.now c.args.rows.now c.args.span.low c.args.span.high c.requires.span
