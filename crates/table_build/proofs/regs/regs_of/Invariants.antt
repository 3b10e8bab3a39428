use Rattle.std.proofs.Common.{◌≡◌, [], drop}
use Rattle.std.specs.List.{filter_map}
use Rattle.dh_changes.specs.World.{facts}
use Rattle.table_build.specs.Ordered.{put_all}
use Rattle.table_build.specs.Regs.{place_cmp, place_of, reg_of}
use Rattle.table_build.proofs.regs.regs_of.Given as goal

abbrev pub invariant-loop-key : goal.invariant-loop-key
invariant-loop-key l =
    put_all place_cmp place_of [] (filter_map (reg_of l.meta (facts l.world)) l.keys)
    ≡ put_all place_cmp place_of l.map.entries (filter_map (reg_of l.meta (facts l.world)) (drop l.key-index l.keys))
