use Rattle.std.proofs.Common.{◌≡◌, ◌++◌, map}
use Rattle.form_urlencoded.specs.Form.{raw_pairs}
use Rattle.form_urlencoded.specs.Parse.{raw_pairs_left}
use Rattle.query_lang.specs.Form.{decoded_pair}
use Rattle.web_routes.proofs.pairs.pairs_of.Given as goal

abbrev pub invariant-loop-name : goal.invariant-loop-name
invariant-loop-name l = l.pairs.items ++ map decoded_pair (raw_pairs_left l.name-iterator) ≡ map decoded_pair (raw_pairs l.text)
