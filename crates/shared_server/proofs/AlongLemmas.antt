-- A run of what has its caller's pass on loan is a run of replies for this caller.
use Rattle.std.proofs.Common.{◌≡◌, ◌∙◌, ℕ, ℤ, Bool, List, [], ◌∷◌, ◌++◌, Option, None, Some, refl, subst}
use Rattle.dh_outside.specs.Talk.{Talk, Heard}
use Rattle.shared_engine.specs.Views.{TokenView}
use Rattle.http_wire.specs.declared.request.Request.{Request}
use Rattle.request_session.specs.Along.{Carries}
use Rattle.request_session.specs.Prompt.{Prompt, EachRead, AllAnswered}
use Rattle.request_session.specs.Session.{Ran, Served}
use Rattle.request_session.specs.declared.ended.Ended.{Ended}
use Rattle.request_session.proofs.AlongLemmas.{ran_along, replies_along}
use Rattle.shared_engine.specs.Entries.{Entry}
use Rattle.shared_engine.specs.Histories.{Made}
use Rattle.shared_server.specs.Steps.{SharedReply}
use Rattle.shared_server.specs.Serving.{LentStep}

-- ---- reads, along a function of the states

each_along : (P Q : List ℕ → List ℕ → Type 0) → ((taken written : List ℕ) → P taken written → Q taken written) → (taken : List ℕ) (reads : List Heard)
    → EachRead P taken reads → EachRead Q taken reads
each_along P Q to taken [] each = tt
each_along P Q to taken (read ∷ reads) each = (to taken read.before each.0, each_along P Q to (taken ++ read.piece) reads each.1)

answered_along : {M N : Type 0} (f : M → N) (Known : M → Type 0) (step : M → Request → Bool → List ℕ → M → Type 0)
    (step' : N → Request → Bool → List ℕ → N → Type 0) → Carries f Known step step' → (most : ℕ) (old : M) → Known old → (first taken written : List ℕ)
    → AllAnswered step most old first taken written → AllAnswered step' most (f old) first taken written
answered_along f Known step step' carries most old known first taken written all =
    let along = replies_along f Known step step' carries most 0 old all.4 all.2 all.0 known all.8 in
    (all.0, all.1, all.2, all.3, f all.4, all.5, all.6, all.7, along.0)

prompt_along : {M N : Type 0} (f : M → N) (Known : M → Type 0) (step : M → Request → Bool → List ℕ → M → Type 0)
    (step' : N → Request → Bool → List ℕ → N → Type 0) → Carries f Known step step' → (most : ℕ) (talk talk' : Option Talk) (old : M) → Known old
    → Prompt step most talk talk' old → Prompt step' most talk talk' (f old)
prompt_along f Known step step' carries most None new old known prompt = tt
prompt_along f Known step step' carries most (Some first) None old known prompt = prompt
prompt_along f Known step step' carries most (Some first) (Some last) old known prompt = (
  prompt.0,
  prompt.1,
  prompt.2,
  each_along (AllAnswered step most old first.written) (AllAnswered step' most (f old) first.written)
      (λ taken written all. answered_along f Known step step' carries most old known first.written taken written all) [] prompt.0 prompt.3,
)

-- ---- a machine with a pass and a clock on loan

module _ {M C : Type 0} (made : Made) (shows : C → ℤ → Type 0) (pass : M → TokenView Entry) (name : M → ℕ) (clock : M → C) where
  abbrev pub lent_step : M → Request → Bool → List ℕ → M → Type 0
  lent_step old request keep text new = LentStep made shows (pass old) (pass new) (name old) (name new) (clock old) (clock new) request keep text

  -- the clock and the loan are those of the beginning
  abbrev is_lent : M → M → Type 0
  is_lent first machine = (clock machine ≡ clock first) × (name machine ≡ name first)

  carries : (first : M) → Carries pass (is_lent first) lent_step (SharedReply made (shows (clock first)))
  carries first old new request keep text known step = (
    subst (λ c. SharedReply made (shows c) (pass old) request keep text (pass new)) known.0 step.replies,
    (step.clock_is ∙ known.0, step.lent ∙ known.1),
  )

  ran_for : (most : ℕ) (left left' written written' : Option (List ℕ)) (old new : M) (how : Ended)
      → Ran lent_step most left left' written written' old new how
      → Ran (SharedReply made (shows (clock old))) most left left' written written' (pass old) (pass new) how
  ran_for most left left' written written' old new how ran =
      (ran_along pass (is_lent old) lent_step (SharedReply made (shows (clock old))) (carries old) most left left' written written' old new how (refl, refl)
      ran).0

  -- a connection too
  pub served_for : (most : ℕ) (left left' written written' : Option (List ℕ)) (old new : M) (how : Ended)
      → Served lent_step most left left' written written' old new how
      → Served (SharedReply made (shows (clock old))) most left left' written written' (pass old) (pass new) how
  served_for most left left' written written' old new how served = record {
    before = served.before;
    first = served.first;
    ran = ran_for most left left' written served.before old new served.first served.ran;
    closes = served.closes;
  }

  pub lent_still : (most : ℕ) (left left' written written' : Option (List ℕ)) (old new : M) (how : Ended)
      → Served lent_step most left left' written written' old new how → name new ≡ name old
  lent_still most left left' written written' old new how served =
      ((ran_along pass (is_lent old) lent_step (SharedReply made (shows (clock old))) (carries old) most left left' written served.before old new served.first
      (refl, refl) served.ran).1).1

  pub prompt_for : (most : ℕ) (talk talk' : Option Talk) (old : M) → Prompt lent_step most talk talk' old
      → Prompt (SharedReply made (shows (clock old))) most talk talk' (pass old)
  prompt_for most talk talk' old prompt =
      prompt_along pass (is_lent old) lent_step (SharedReply made (shows (clock old))) (carries old) most talk talk' old (refl, refl) prompt
