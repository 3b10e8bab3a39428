use Rattle.std.proofs.Common.{◌≡◌, ◌∙◌, ℕ, ◌+◌, ◌<◌, Bool, true, false, List, ◌∷◌, length, get_or, drop, map, bytes_eq, cond, Option, Some, sym, ap}
use Rattle.std.proofs.lemmas.List.{drop_more}
use Rattle.dh_metadata.specs.Names.{named}
use Rattle.dh_metadata.proofs.names.named.Goals as goal

-- a table is read up to the entry of a name
named-past : {E T : Type 0} (table : List E) (view : E → List ℕ × T) (i : ℕ) (entry : E) (name : List ℕ) (found : Bool) (whole : Option T)
    → i < length table → entry ≡ get_or table i entry → found ≡ bytes_eq (view entry).0 name → named (map view (drop i table)) name ≡ whole
    → cond found (Some (view entry).1) (named (map view (drop (i + 1) table)) name) ≡ whole
named-past table view i entry name found whole within at met before =
    let left = drop (i + 1) table in
    ap (λ b. cond b (Some (view entry).1) (named (map view left) name)) met
    ∙ sym (ap (λ l. named (map view l) name) (drop_more table i entry within) ∙ ap (λ e. named (map view (e ∷ left)) name) (sym at))
    ∙ before

pub loop-entry-preserved : goal.loop-entry-preserved
loop-entry-preserved g c =
    named-past c.args.table.now (λ entry. (entry.0.now, entry.1)) c.loop-entry.entry-index c.entry-item.result c.args.name.now false _
    c.loop-entry-test.true c.entry-item.is c.if-eq.ensures c.loop-entry.invariant

pub returns-then-eq : goal.returns-then-eq
returns-then-eq g c =
    named-past c.args.table.now (λ entry. (entry.0.now, entry.1)) c.loop-entry.entry-index c.entry-item.result c.args.name.now true _
    c.loop-entry-test.true c.entry-item.is c.if-eq.ensures c.loop-entry.invariant
