use Rattle.std.proofs.Common.{◌≡◌, ◌<◌, ℕ, List, length, refl, arith}
use Rattle.std.proofs.Common.{Err, ap}
use Rattle.dh_outside.specs.declared.files.FileFault.TheVariants as fault
use Rattle.meta_reader.specs.File.{most_bytes}
use Rattle.dhis_main.specs.Outcome.{IsQueryReplyNow}
use Rattle.dhis_main.proofs.RunLemmas.{told-longer}
use Rattle.dhis_main.proofs.reply.reply_to_input.Goals as goal

pub returns-in_ok-reply_to_too_long-in-Err-TooLong-clause-reply : goal.returns-in_ok-reply_to_too_long-in-Err-TooLong-clause-reply
returns-in_ok-reply_to_too_long-in-Err-TooLong-clause-reply g c =
    let too_long_is : Err c.in-Err-TooLong.field-0 ≡ Err fault.TooLong = ap Err c.in-Err-TooLong.field-0-is in
    let read = c.in-Err-TooLong.ensures.too_long too_long_is in
    let long : most_bytes < length read.0 = omega (arith, read.2) in
    let made : (bytes : List ℕ) → most_bytes < length bytes
    → IsQueryReplyNow c.args.user.now c.args.query.now (g.C.Clock.shows c.args.clock.now) bytes c.in_ok-reply_to_too_long-in-Err-TooLong.field-0
    = λ bytes longer. (
      c.now-moment.result,
      c.now-moment.ensures,
      c.in_ok-reply_to_too_long-in-Err-TooLong.ensures c.args.user.now c.args.query.now c.now-moment.result bytes longer,
    ) in
    record {
      bytes = read.0;
      is = made read.0 long;
      told_bytes = told-longer (g.S.Source.left c.args.input.now) (g.S.Source.left c.read_all.new.source) read.0 67108864
          (λ bytes. IsQueryReplyNow c.args.user.now c.args.query.now (g.C.Clock.shows c.args.clock.now) bytes c.in_ok-reply_to_too_long-in-Err-TooLong.field-0)
          refl read.1 read.2 made;
    }
