use Rattle.std.proofs.Common.{arith, ◌+◌, ◌∙◌, ◌++◌, ap, map, length, [], ◌∷◌}
use Rattle.std.specs.Arc.{arc_value}
use Rattle.dh_changes.specs.declared.change.Change.{Change}
use Rattle.change_log.specs.Bytes.{change_bytes}
use Rattle.change_log.specs.LogBytes.{log_bytes}
use Rattle.change_log.specs.Log.{writes_of}
use Rattle.change_log.specs.Held.{changes_of, seen}
use Rattle.change_log.proofs.LogLemmas.{within-limits, change-length, grown-is, log_of, memory_leaves, keeper_leaves}
use Rattle.change_log.proofs.held.store.Goals as goal

pub prepare-requires-clause-fits : goal.prepare-requires-clause-fits
prepare-requires-clause-fits g c =
    let within = within-limits c.args.limits.now (changes_of c.args.held.now) c.args.change c.requires.kept.whole.limits c.requires.within in
    let size = change-length (length (changes_of c.args.held.now) + 1) c.args.change in
    record {
      some = c.requires.some;
      count = omega (arith, within.0);
      writes = c.requires.fits;
      size = rw c.count_of-number.ensures (omega (arith, within.1, size));
    }

pub keep-requires-clause-some : goal.keep-requires-clause-some
keep-requires-clause-some g c =
    let are = ap length (c.deref.ensures.value ∙ c.in_ok-bytes.ensures.bytes) in
    omega (arith, are, change-length (c.count_of-number.result + 1) c.args.change)

pub keep-requires-clause-room : goal.keep-requires-clause-room
keep-requires-clause-room g c =
    let room = within-limits c.args.limits.now (changes_of c.args.held.now) c.args.change c.requires.kept.whole.limits c.requires.within in
    let are = ap length (c.deref.ensures.value ∙ c.in_ok-bytes.ensures.bytes) in
    let same = ap (λ x. length (log_bytes (map arc_value x))) c.prepare.ensures.same in
    let number = ap (λ n. length (change_bytes (n + 1) c.args.change)) c.count_of-number.ensures in
    omega (arith, room.1, are, same, number, c.prepare.ensures.held.bytes)

pub put_last-requires-clause-writes : goal.put_last-requires-clause-writes
put_last-requires-clause-writes g c =
    let room = within-limits c.args.limits.now (changes_of c.args.held.now) c.args.change c.requires.kept.whole.limits c.requires.within in
    let same = ap (λ x. length (writes_of (map arc_value x))) c.prepare.ensures.same in
    let is = ap (λ (x : Change). length x.writes) c.in_ok-entry.ensures in
    omega (arith, room.0, same, is, c.prepare.ensures.held.writes)

pub put_last-requires-clause-bytes : goal.put_last-requires-clause-bytes
put_last-requires-clause-bytes g c =
    let room = within-limits c.args.limits.now (changes_of c.args.held.now) c.args.change c.requires.kept.whole.limits c.requires.within in
    let are = ap length (c.deref.ensures.value ∙ c.in_ok-bytes.ensures.bytes) in
    let same = ap (λ x. length (log_bytes (map arc_value x))) c.prepare.ensures.same in
    let number = ap (λ n. length (change_bytes (n + 1) c.args.change)) c.count_of-number.ensures in
    omega (arith, room.1, are, same, number, c.prepare.ensures.held.bytes, c.len.ensures, c.deref.ensures.len)

pub returns-clause-appends : goal.returns-clause-appends
returns-clause-appends g c =
    let last = c.put_last.ensures.last ∙ ap (λ x. map arc_value x ++ arc_value c.in_ok-entry.entry ∷ []) c.prepare.ensures.same
    ∙ ap (λ y. changes_of c.args.held.now ++ y ∷ []) c.in_ok-entry.ensures in
    let are = c.deref.ensures.value ∙ c.in_ok-bytes.ensures.bytes ∙ ap (λ n. change_bytes (n + 1) c.args.change) c.count_of-number.ensures in (
      c.requires.within,
      (
        ap (λ n. n + 1) c.count_of-number.ensures,
        (
          c.in_ok-keep.ensures.1.1,
          grown-is (changes_of c.args.held.now) (changes_of c.put_last.new.held) c.args.change (g.K.Keeper.acknowledged c.args.keeper.now)
              (g.K.Keeper.acknowledged c.keep.new.keeper) (g.K.Keeper.keeper_faults c.args.keeper.now) (g.K.Keeper.keeper_faults c.keep.new.keeper)
              (g.K.Keeper.kept c.args.keeper.now) (g.K.Keeper.kept c.keep.new.keeper) c.args.limits.now c.deref.result.now last c.requires.kept.whole.acknowledged are c.in_ok-keep.ensures.0 c.in_ok-keep.ensures.1.0,
        ),
      ),
    )

pub returns-in_err-bytes-clause-appends : goal.returns-in_err-bytes-clause-appends
returns-in_err-bytes-clause-appends g c =
    memory_leaves (seen c.args.held.now (g.K.Keeper.acknowledged c.args.keeper.now) (g.K.Keeper.kept c.args.keeper.now)
    (g.K.Keeper.keeper_faults c.args.keeper.now) c.args.limits.now) (seen c.prepare.new.held (g.K.Keeper.acknowledged c.args.keeper.now) (g.K.Keeper.kept c.args.keeper.now)
    (g.K.Keeper.keeper_faults c.args.keeper.now) c.args.limits.now) c.args.change c.from_residual.result c.from_residual.ensures.1
    (ap (λ xs. log_of (map arc_value xs) (g.K.Keeper.acknowledged c.args.keeper.now) (g.K.Keeper.kept c.args.keeper.now)
    (g.K.Keeper.keeper_faults c.args.keeper.now) c.args.limits.now) c.prepare.ensures.same)

pub returns-in_err-entry-clause-appends : goal.returns-in_err-entry-clause-appends
returns-in_err-entry-clause-appends g c =
    memory_leaves (seen c.args.held.now (g.K.Keeper.acknowledged c.args.keeper.now) (g.K.Keeper.kept c.args.keeper.now)
    (g.K.Keeper.keeper_faults c.args.keeper.now) c.args.limits.now) (seen c.prepare.new.held (g.K.Keeper.acknowledged c.args.keeper.now) (g.K.Keeper.kept c.args.keeper.now)
    (g.K.Keeper.keeper_faults c.args.keeper.now) c.args.limits.now) c.args.change c.from_residual-in_err-entry.result
    c.from_residual-in_err-entry.ensures.1
    (ap (λ xs. log_of (map arc_value xs) (g.K.Keeper.acknowledged c.args.keeper.now) (g.K.Keeper.kept c.args.keeper.now)
    (g.K.Keeper.keeper_faults c.args.keeper.now) c.args.limits.now) c.prepare.ensures.same)

pub returns-in_err-keep-clause-appends : goal.returns-in_err-keep-clause-appends
returns-in_err-keep-clause-appends g c =
    keeper_leaves (seen c.args.held.now (g.K.Keeper.acknowledged c.args.keeper.now) (g.K.Keeper.kept c.args.keeper.now)
    (g.K.Keeper.keeper_faults c.args.keeper.now) c.args.limits.now) (changes_of c.prepare.new.held) (g.K.Keeper.acknowledged c.keep.new.keeper)
    (g.K.Keeper.kept c.keep.new.keeper) (g.K.Keeper.keeper_faults c.keep.new.keeper) c.args.change c.deref.result.now c.in_err-keep.field-0.0
    c.from_residual-in_err-keep.result c.from_residual-in_err-keep.ensures.1 (ap (map arc_value) c.prepare.ensures.same) c.requires.within
    c.in_err-keep.ensures
