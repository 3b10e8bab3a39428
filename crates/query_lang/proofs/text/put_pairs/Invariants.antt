use Rattle.std.proofs.Common.{◌≡◌, map}
use Rattle.form_urlencoded.specs.Form.{raw_pairs}
use Rattle.form_urlencoded.specs.Parse.{raw_pairs_left}
use Rattle.query_lang.specs.Form.{with_pairs, decoded_pair}
use Rattle.query_lang.proofs.text.put_pairs.Given as goal

abbrev pub invariant-loop-name : goal.invariant-loop-name
invariant-loop-name l =
    with_pairs l.day l.draft (map decoded_pair (raw_pairs_left l.name-iterator)) ≡ with_pairs l.day l.fn.draft (map decoded_pair (raw_pairs l.text))
