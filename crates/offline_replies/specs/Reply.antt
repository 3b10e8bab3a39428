-- What a query over a bundle comes to: how it ends, and the text that is told.
use Rattle.std.specs.Prelude.{◌≡◌, ℕ, List, [], ◌∷◌, ◌++◌, Option, Some, None, Result, Ok, Err, codes}
use Rattle.dh_base.specs.declared.codes.Code.{Code}
use Rattle.dh_base.specs.declared.codes.Code.TheVariants.{F18}
use Rattle.dh_base.specs.declared.codes.Refusal.{Refusal}
use Rattle.request_session.specs.Bodies.{error_text}
use Rattle.offline_replies.specs.declared.bundle.reply.Ending.{Ending}
use Rattle.offline_replies.specs.declared.bundle.reply.Ending.TheVariants as ending
use Rattle.offline_replies.specs.declared.bundle.reply.Reply.{Reply}

-- a text with a line feed after it, told at this end
unfoldable pub told : Ending → List ℕ → Reply
told how text = record { ending = how; text = text ++ 10 ∷ [] }

-- the metadata are refused with that fault
unfoldable pub meta_refused : List ℕ → Reply
meta_refused fault = told ending.MetaRefused (codes "dhis: metadata: " ++ fault)

unfoldable pub query_refused : Refusal → Reply
query_refused refusal = told ending.QueryRefused (error_text refusal)

abbrev pub refusal : Code → List ℕ → Refusal
refusal code detail = record { code = code; detail = detail }

-- the body of an answer, or the item that is too wide
unfoldable pub answer_reply : Result (List ℕ) (List ℕ) → Reply
answer_reply (Ok body) = told ending.Ok body
answer_reply (Err id) = query_refused (refusal F18 id)

-- the reply to this refusal; there is none without one
abbrev pub Refuses : Option Refusal → Reply → Type 0
Refuses None reply = ⊥
Refuses (Some refused) reply = reply ≡ query_refused refused
