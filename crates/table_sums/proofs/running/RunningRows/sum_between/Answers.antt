use Rattle.std.proofs.Common.{◌≤◌, ◌∙◌, ℕ, ℤ, List, length, take, drop, sym, ap, subst}
use Rattle.std.proofs.Math.Nat.{le_trans}
use Rattle.table_rows.specs.declared.row.Row.{Row}
use Rattle.table_rows.specs.Sums.{sum_of_rows}
use Rattle.table_sums.specs.Running.{AreSums}
use Rattle.table_sums.proofs.SumLemmas.{difference, prefix-small, prefix-grow}
use Rattle.table_sums.proofs.running.RunningRows.sum_between.Goals as goal

pub difference-requires-clause-first : goal.difference-requires-clause-first
difference-requires-clause-first c =
    let rows = c.self.inside.rows in
    let within : c.args.to ≤ length rows = subst (λ (rs : List Row). c.args.to ≤ length rs) (sym c.self.view_is) c.requires.within in
    let first : c.args.from ≤ length rows = le_trans c.requires.upto within in
    let half : AreSums rows (length rows) c.self.inside.sums.micros.items c.as_slice-2.result.now =
    subst (λ (ps : List ℕ). AreSums rows (length rows) c.self.inside.sums.micros.items ps) (sym c.as_slice-2.ensures.value) c.self.invariant.sums in
    let sums : AreSums rows (length rows) c.as_slice.result.now c.as_slice-2.result.now =
    subst (λ (ms : List ℤ). AreSums rows (length rows) ms c.as_slice-2.result.now) (sym c.as_slice.ensures.value) half in
    prefix-small rows c.as_slice.result.now c.as_slice-2.result.now c.args.from c.self.invariant.fit c.self.invariant.few sums first

pub difference-requires-clause-last : goal.difference-requires-clause-last
difference-requires-clause-last c =
    let rows = c.self.inside.rows in
    let within : c.args.to ≤ length rows = subst (λ (rs : List Row). c.args.to ≤ length rs) (sym c.self.view_is) c.requires.within in
    let first : c.args.from ≤ length rows = le_trans c.requires.upto within in
    let half : AreSums rows (length rows) c.self.inside.sums.micros.items c.as_slice-2.result.now =
    subst (λ (ps : List ℕ). AreSums rows (length rows) c.self.inside.sums.micros.items ps) (sym c.as_slice-2.ensures.value) c.self.invariant.sums in
    let sums : AreSums rows (length rows) c.as_slice.result.now c.as_slice-2.result.now =
    subst (λ (ms : List ℤ). AreSums rows (length rows) ms c.as_slice-2.result.now) (sym c.as_slice.ensures.value) half in
    prefix-small rows c.as_slice.result.now c.as_slice-2.result.now c.args.to c.self.invariant.fit c.self.invariant.few sums within

pub difference-requires-clause-more : goal.difference-requires-clause-more
difference-requires-clause-more c =
    let rows = c.self.inside.rows in
    let within : c.args.to ≤ length rows = subst (λ (rs : List Row). c.args.to ≤ length rs) (sym c.self.view_is) c.requires.within in
    let first : c.args.from ≤ length rows = le_trans c.requires.upto within in
    let half : AreSums rows (length rows) c.self.inside.sums.micros.items c.as_slice-2.result.now =
    subst (λ (ps : List ℕ). AreSums rows (length rows) c.self.inside.sums.micros.items ps) (sym c.as_slice-2.ensures.value) c.self.invariant.sums in
    let sums : AreSums rows (length rows) c.as_slice.result.now c.as_slice-2.result.now =
    subst (λ (ms : List ℤ). AreSums rows (length rows) ms c.as_slice-2.result.now) (sym c.as_slice.ensures.value) half in
    prefix-grow rows c.as_slice.result.now c.as_slice-2.result.now c.args.from c.args.to sums c.requires.upto within

pub returns : goal.returns
returns c =
    let rows = c.self.inside.rows in
    let within : c.args.to ≤ length rows = subst (λ (rs : List Row). c.args.to ≤ length rs) (sym c.self.view_is) c.requires.within in
    let first : c.args.from ≤ length rows = le_trans c.requires.upto within in
    let half : AreSums rows (length rows) c.self.inside.sums.micros.items c.as_slice-2.result.now =
    subst (λ (ps : List ℕ). AreSums rows (length rows) c.self.inside.sums.micros.items ps) (sym c.as_slice-2.ensures.value) c.self.invariant.sums in
    let sums : AreSums rows (length rows) c.as_slice.result.now c.as_slice-2.result.now =
    subst (λ (ms : List ℤ). AreSums rows (length rows) ms c.as_slice-2.result.now) (sym c.as_slice.ensures.value) half in
    difference rows c.args.from c.args.to c.as_slice.result.now c.as_slice-2.result.now c.difference.result c.self.invariant.fit sums c.requires.upto within
    c.difference.ensures.micros c.difference.ensures.count c.difference.ensures.plain
    ∙ ap (λ (rs : List Row). sum_of_rows (drop c.args.from (take c.args.to rs))) c.self.view_is
