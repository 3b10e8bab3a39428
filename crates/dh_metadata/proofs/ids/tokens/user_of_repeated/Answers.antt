use Rattle.std.proofs.Common.{◌≡◌, ◌∙◌, ◌+◌, ◌<◌, ◌∷◌, ◌++◌, [], ℕ, true, false, List, cond, length, map, take, drop, sym, ap}
use Rattle.std.specs.HashSet.{contains}
use Rattle.dh_metadata.specs.Places.{same_id, is_one_of}
use Rattle.dh_metadata.proofs.PlacesLemmas.{is_one_of-more}
use Rattle.dh_metadata.specs.Ids.{user_of_repeated, user_behind}
use Rattle.dh_metadata.proofs.TokenLemmas.{was_there, was_absent, rest_at, texts_more, user_behind-same, user_behind-new}
use Rattle.dh_metadata.proofs.ids.tokens.user_of_repeated.Goals as goal

pub returns-then-not-branch : goal.returns-then-not-branch
unfolding user_of_repeated
returns-then-not-branch c =
    let tokens : List (List ℕ × List ℕ) = c.args.tokens.now in
    let i : ℕ = c.loop-token.token-index in
    let token : List ℕ × List ℕ = c.token-item.result in
    let within : i < length tokens = c.loop-token-test.true in
    let before : List (List ℕ) = map (λ (each : List ℕ × List ℕ). each.0) (take i tokens) in
    let key : c.from-copy.result ≡ token.0 = c.from-copy.ensures ∙ c.in_ok-to_vec.ensures.items_if_clones_equal (λ x y same. same) ∙ c.as_slice.ensures in
    let held : contains same_id c.loop-token.seen c.from-copy.result ≡ is_one_of before c.from-copy.result = c.loop-token.invariant.held c.from-copy.result in
    let there : contains same_id c.loop-token.seen c.from-copy.result ≡ true =
    was_there c.in_ok-insert.field-0 _ c.in_ok-insert.ensures.added c.if-not-branch.true in
    let one : is_one_of before token.0 ≡ true = sym (held ∙ ap (is_one_of before) key) ∙ there in
    sym (c.loop-token.invariant.rest ∙ ap (user_behind before) (rest_at tokens i token within c.token-item.is)
    ∙ user_behind-same before token (drop (i + 1) tokens) one)

pub loop-token-preserved : goal.loop-token-preserved
loop-token-preserved c =
    let tokens : List (List ℕ × List ℕ) = c.args.tokens.now in
    let i : ℕ = c.loop-token.token-index in
    let token : List ℕ × List ℕ = c.token-item.result in
    let within : i < length tokens = c.loop-token-test.true in
    let before : List (List ℕ) = map (λ (each : List ℕ × List ℕ). each.0) (take i tokens) in
    let key : c.from-copy.result ≡ token.0 = c.from-copy.ensures ∙ c.in_ok-to_vec.ensures.items_if_clones_equal (λ x y same. same) ∙ c.as_slice.ensures in
    let held : contains same_id c.loop-token.seen c.from-copy.result ≡ is_one_of before c.from-copy.result = c.loop-token.invariant.held c.from-copy.result in
    let absent : contains same_id c.loop-token.seen c.from-copy.result ≡ false =
    was_absent c.in_ok-insert.field-0 _ c.in_ok-insert.ensures.added c.if-not-branch.false in
    let none : is_one_of before token.0 ≡ false = sym (held ∙ ap (is_one_of before) key) ∙ absent in
    let more : map (λ (each : List ℕ × List ℕ). each.0) (take (i + 1) tokens) ≡ before ++ token.0 ∷ [] = texts_more tokens i token within c.token-item.is in
    record {
      held = λ q. is_one_of-more before token.0 q _ _ (c.loop-token.invariant.held q)
          (c.in_ok-insert.ensures.updates.0 q ∙ ap (λ k. cond (same_id k q) true (contains same_id c.loop-token.seen q)) key)
          ∙ ap (λ ys. is_one_of ys q) (sym more);
      rest = c.loop-token.invariant.rest ∙ ap (user_behind before) (rest_at tokens i token within c.token-item.is)
          ∙ user_behind-new before token (drop (i + 1) tokens) none ∙ ap (λ ys. user_behind ys (drop (i + 1) tokens)) (sym more);
    }
