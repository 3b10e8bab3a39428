use Rattle.std.proofs.Common.{◌≡◌, map, take, drop}
use Rattle.meta_links.specs.Reference.{each}
use Rattle.meta_links.specs.Told.{after}
use Rattle.meta_links.proofs.entries.link_entries.Given as goal

-- what was looked up so far, and what is left
abbrev pub invariant-loop-entry : goal.invariant-loop-entry
invariant-loop-entry g l = record {
  place : l.place ≡ l.entry-index;
  all : l.all.items ≡ map (g.E.Entries.held l.ids l.list) (take l.entry-index l.entries);
  rest : after l.ids l.fn.unknown (each (g.E.Entries.references l.list) 0 l.entries)
      ≡ after l.ids l.unknown (each (g.E.Entries.references l.list) l.place (drop l.entry-index l.entries));
}
