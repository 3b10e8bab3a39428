-- What isn't seen changes no answer.
use Rattle.std.proofs.Common.{sym, ap, ◌∙◌}
use Rattle.dh_metadata.specs.declared.held.Records.{Records}
use Rattle.table_rows.specs.Store.{Contents}
use Rattle.cell_values.specs.Seen.{seen_of}
use Rattle.query_answer.specs.Answer.{answer_of}
use Rattle.query_answer.proofs.UnseenLemmas.{answer_of-same}
use Rattle.shared_engine.specs.Unseen.{UnseenStays, published_meta, published_seen}

pub unseen : UnseenStays
unseen made other entries others tables held user query alike here there =
    let one = published_meta made entries in
    let two = published_meta other others in
    ap (λ (c : Contents). answer_of one query (seen_of one user c)) here
    ∙ answer_of-same one query (published_seen made entries user) (published_seen other others user) alike.same
    ∙ sym (ap (λ (m : Records). answer_of m query (published_seen other others user)) alike.meta)
    ∙ sym (ap (λ (c : Contents). answer_of two query (seen_of two user c)) there)
