-- A reply at a moment that the clock shows is a step of what has its caller's pass on loan.
use Rattle.std.proofs.Common.{ℕ, ℤ, Bool, None, Some, Result, Ok, Err, IfOk, refl}
use Rattle.std.specs.Prelude.{OnErr}
use Rattle.dh_base.specs.declared.memory.Memory.{Memory}
use Rattle.shared_engine.specs.Views.{TokenView}
use Rattle.http_wire.specs.declared.request.Request.{Request}
use Rattle.request_session.specs.Replies.{text_in, memory_reply}
use Rattle.request_session.specs.declared.reply.Reply.{Reply}
use Rattle.shared_engine.specs.Entries.{Entry}
use Rattle.shared_engine.specs.Histories.{Made}
use Rattle.request_replies.specs.Texts.{told}
use Rattle.shared_server.specs.Steps.{ReplyAt}
use Rattle.shared_server.specs.Serving.{LentStep}

pub step_told : {C : Type 0} (made : Made) (shows : C → ℤ → Type 0) (clock : C) (before now : TokenView Entry) (name : ℕ) (moment : ℤ) (request : Request)
    (keep : Bool) (r : Result Reply Memory)
    → shows clock moment → ReplyAt made moment request keep before (told r) now
    → IfOk r (λ reply. LentStep made shows before now name name clock clock request keep (text_in reply))
step_told made shows clock before now name moment request keep (Ok reply) shown is = record {
  replies = record { moment = moment; shown = shown; told = Some (text_in reply); replies = is; text_is = refl };
  clock_is = refl;
  lent = refl;
}
step_told made shows clock before now name moment request keep (Err e) shown is = tt

pub step_wanting : {C : Type 0} (made : Made) (shows : C → ℤ → Type 0) (clock : C) (before now : TokenView Entry) (name : ℕ) (moment : ℤ) (request : Request)
    (keep : Bool) (r : Result Reply Memory)
    → shows clock moment → ReplyAt made moment request keep before (told r) now
    → OnErr r (LentStep made shows before now name name clock clock request keep (memory_reply keep))
step_wanting made shows clock before now name moment request keep (Ok reply) shown is = tt
step_wanting made shows clock before now name moment request keep (Err e) shown is = record {
  replies = record { moment = moment; shown = shown; told = None; replies = is; text_is = refl };
  clock_is = refl;
  lent = refl;
}
