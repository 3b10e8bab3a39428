use Rattle.std.proofs.Common.{append-nil, ◌≡◌, ◌∙◌, ◌+◌, ◌++◌, ◌∷◌, [], Some, drop, take, refl, sym, ap, subst}
use Rattle.dh_outside.specs.Memory.{heard_of}
use Rattle.dh_outside.specs.Talk.{Talk, Hears, heard_one}
use Rattle.dh_outside.proofs.ReadLemmas.{went_so, failed_so}
use Rattle.dh_outside.proofs.TalkLemmas.{hears_one, hears_nothing}
use Rattle.dh_outside.proofs.both_ways.MemLinkSource.read.Goals as goal

pub returns-clause-bytes : goal.returns-clause-bytes
returns-clause-bytes c =
    let at = c.self.inside.at in
    let count = c.copy_from-count.result in
    let piece = take count c.copy_from-count.new.into in (
      sym (ap (λ s. s.talk.left) c.self.view_is)
          ∙ subst (λ xs. drop at xs ≡ piece ++ drop (at + count) xs) c.deref-2.ensures.value c.copy_from-count.ensures.moved,
      λ none some. subst (λ xs. drop (at + count) xs ≡ []) c.deref-2.ensures.value (c.copy_from-count.ensures.end none some),
    )

pub returns-clause-talks : goal.returns-clause-talks
returns-clause-talks c =
    let at = c.self.inside.at in
    let count = c.copy_from-count.result in
    let piece = take c.copy_from-count.result c.copy_from-count.new.into in
    let noted : heard_of c.note.new.heard.items ≡ heard_of c.self.inside.heard.items ++ heard_one c.self.inside.written.items piece =
    subst (λ w. heard_of c.note.new.heard.items ≡ heard_of c.self.inside.heard.items ++ heard_one w piece) c.deref-3.ensures.value
    (went_so c.note.result (heard_of c.note.new.heard.items ≡ heard_of c.self.inside.heard.items ++ heard_one c.deref-3.result.now piece)
    (sym c.is_err.ensures.value ∙ c.if-is_err.false) c.note.ensures.noted) in
    let first : Talk =
    record { left = drop c.self.inside.at c.self.inside.bytes.items; heard = heard_of c.self.inside.heard.items; written = c.self.inside.written.items } in
    let last : Talk =
    record {
      left = drop (c.self.inside.at + c.copy_from-count.result) c.self.inside.bytes.items;
      heard = heard_of c.note.new.heard.items;
      written =
          c.self.inside.written.items;
    } in
    subst (λ talk. Hears (Some talk) (Some last) (piece ∷ [])) (ap (λ s. s.talk) c.self.view_is)
    (hears_one first last piece noted refl
    (subst (λ xs. drop at xs ≡ piece ++ drop (at + count) xs) c.deref-2.ensures.value c.copy_from-count.ensures.moved))

pub returns-then-fails-clause-bytes : goal.returns-then-fails-clause-bytes
returns-then-fails-clause-bytes c = ap (λ s. s.talk.left) c.self.view_is

pub returns-then-fails-clause-talks : goal.returns-then-fails-clause-talks
returns-then-fails-clause-talks c =
    let told : Talk =
    record { left = drop c.self.inside.at c.self.inside.bytes.items; heard = heard_of c.self.inside.heard.items; written = c.self.inside.written.items } in
    subst (λ talk. Hears (Some talk) (Some told) ([] ∷ [])) (ap (λ s. s.talk) c.self.view_is) (hears_nothing (Some told))

pub returns-then-is_err-clause-bytes : goal.returns-then-is_err-clause-bytes
returns-then-is_err-clause-bytes c = ap (λ s. s.talk.left) c.self.view_is

pub returns-then-is_err-clause-talks : goal.returns-then-is_err-clause-talks
returns-then-is_err-clause-talks c =
    let same : c.note.new.heard.items ≡ c.self.inside.heard.items = failed_so c.note.result (c.note.new.heard.items ≡ c.self.inside.heard.items)
    (sym c.is_err.ensures.value ∙ c.if-is_err.true) c.note.ensures.same in
    let last : Talk =
    record { left = drop c.self.inside.at c.self.inside.bytes.items; heard = heard_of c.note.new.heard.items; written = c.self.inside.written.items } in
    subst (λ talk. Hears (Some talk) (Some last) ([] ∷ [])) (ap (λ s. s.talk) c.self.view_is)
    (ap heard_of same ∙ sym (append-nil (heard_of c.self.inside.heard.items)), refl, refl)
