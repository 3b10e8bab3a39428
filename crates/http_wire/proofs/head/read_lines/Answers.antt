use Rattle.std.proofs.Common.{◌≡◌, ◌∙◌, false, None, Some, refl, ap, sym, map, length}
use Rattle.std.specs.Prelude.{option_copied}
use Rattle.httparse.specs.Borrowed.{header_parts, HoldsRequest, HoldsSomeRequest}
use Rattle.httparse.specs.Grammar.{RequestHead}
use Rattle.http_wire.specs.Head.{Parts, parts_of, said_by, IsMeantBy}
use Rattle.http_wire.proofs.HeadLemmas.{none_whole, none_roomy, whole_read, held_by, parts_held, tells}
use Rattle.http_wire.proofs.head.read_lines.Goals as goal

pub returns-then-end-head : goal.returns-then-end-head
returns-then-end-head c =
    let held : (k : RequestHead) × HoldsRequest c.args.head.now c.in-Ok-Complete.end c.parse.new.self k =
    held_by c.in-Ok-Complete.field-0 c.in-Ok-Complete.end (HoldsSomeRequest c.args.head.now c.parse.new.self) c.in-Ok-Complete.field-0-is
    c.in-Ok-Complete.ensures.complete in
    (None, none_whole c.args.head.now held.0 c.in-Ok-Complete.end held.1.reads held.1.len_is c.if-end-head.true, refl)

pub returns-in-Err : goal.returns-in-Err
returns-in-Err c =
    let room : length c.new-request.result.headers.now ≡ 64 = ap length c.new-request.ensures.room in
    (None, none_roomy c.args.head.now (length c.new-request.result.headers.now) c.requires room c.in-Err.ensures.no_room, refl)

pub returns : goal.returns
returns c =
    let held : (k : RequestHead) × HoldsRequest c.args.head.now c.in-Ok-Complete.end c.parse.new.self k =
    held_by c.in-Ok-Complete.field-0 c.in-Ok-Complete.end (HoldsSomeRequest c.args.head.now c.parse.new.self) c.in-Ok-Complete.field-0-is
    c.in-Ok-Complete.ensures.complete in
    let parts : Parts =
    record {
      method = c.as_bytes.result.now;
      target = c.as_bytes-2.result.now;
      minor = c.in-Some-Some-Some.minor;
      fields =
          map header_parts c.parse.new.self.headers.now;
    } in
    let same : parts ≡ parts_of held.0 =
    parts_held held.0 c.as_bytes.result.now c.as_bytes-2.result.now c.in-Some-Some-Some.minor (map header_parts c.parse.new.self.headers.now)
    (ap Some c.as_bytes.ensures.value ∙ sym (ap option_copied c.in-Some-Some-Some.is-0) ∙ held.1.method)
    (ap Some c.as_bytes-2.ensures.value ∙ sym (ap option_copied c.in-Some-Some-Some.is-1) ∙ held.1.path) (sym c.in-Some-Some-Some.is-2
    ∙ held.1.version) held.1.fields in
    tells (IsMeantBy false c.args.head.now) (said_by parts) c.said_by.result
    (whole_read c.args.head.now held.0 c.in-Ok-Complete.end parts held.1.reads c.if-end-head.false same (said_by parts) refl) c.said_by.ensures
