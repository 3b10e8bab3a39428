-- A reply at a moment that the clock shows is a step of the machine.
use Rattle.std.proofs.Common.{◌≡◌, ℕ, ℤ, Bool, None, Some, Result, Ok, Err, IfOk, refl}
use Rattle.std.specs.Prelude.{OnErr}
use Rattle.dh_base.specs.declared.memory.Memory.{Memory}
use Rattle.http_wire.specs.declared.request.Request.{Request}
use Rattle.change_log.specs.Log.{NeverFails}
use Rattle.request_session.specs.Replies.{text_in, memory_reply}
use Rattle.request_session.specs.declared.reply.Reply.{Reply}
use Rattle.engine.specs.Seen.{Seen, IsSound}
use Rattle.request_replies.specs.Texts.{told}
use Rattle.request_replies.specs.Steps.{ReplyAt, MachineStep}

pub step_told : {K C : Type 0} (count : K → ℕ) (shows : C → ℤ
    → Type 0) (clock : C) (old new : Seen) (moment : ℤ) (request : Request) (keep : Bool) (r : Result Reply Memory)
    → shows clock moment → ReplyAt old moment request keep (told r) new → (IsSound old → IsSound new) → (NeverFails count → old.faults ≡ 0 → new.faults ≡ 0)
    → IfOk r (λ reply. MachineStep count shows clock clock old request keep (text_in reply) new)
step_told count shows clock old new moment request keep (Ok reply) shown is sound sure = record {
  replies = record { moment = moment; shown = shown; made = Some (text_in reply); replies = is; text_is = refl };
  clock = refl;
  sound = sound;
  sure = sure;
}
step_told count shows clock old new moment request keep (Err e) shown is sound sure = tt

pub step_wanting : {K C : Type 0} (count : K → ℕ) (shows : C → ℤ
    → Type 0) (clock : C) (old new : Seen) (moment : ℤ) (request : Request) (keep : Bool) (r : Result Reply Memory)
    → shows clock moment → ReplyAt old moment request keep (told r) new → (IsSound old → IsSound new) → (NeverFails count → old.faults ≡ 0 → new.faults ≡ 0)
    → OnErr r (MachineStep count shows clock clock old request keep (memory_reply keep) new)
step_wanting count shows clock old new moment request keep (Ok reply) shown is sound sure = tt
step_wanting count shows clock old new moment request keep (Err e) shown is sound sure = record {
  replies = record { moment = moment; shown = shown; made = None; replies = is; text_is = refl };
  clock = refl;
  sound = sound;
  sure = sure;
}
