use Rattle.std.proofs.Common.{◌≡◌, true, take}
use Rattle.std.specs.List.{list_all}
use Rattle.meta_forms.specs.Entries.{is_visible}
use Rattle.meta_forms.proofs.entry.all_visible.Given as goal

abbrev pub invariant-loop-byte : goal.invariant-loop-byte
invariant-loop-byte l = list_all is_visible (take l.byte-index l.text) ≡ true
