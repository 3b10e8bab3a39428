use Rattle.std.proofs.Common.{◌≡◌, Option, Some, subst}
use Rattle.std.specs.Option.{option_map}
use Rattle.serde_json.specs.Data.{Data}
use Rattle.json_read.specs.Bytes.{document_of}
use Rattle.json_read.specs.Views.{data_of}
use Rattle.offline_replies.specs.Steps.{AreFormsIn}
use Rattle.offline_replies.proofs.bundle.bytes.forms_in.Goals as goal

pub returns-in-Some : goal.returns-in-Some
returns-in-Some c =
    subst (λ (d : Option Data). AreFormsIn d (Some c.forms_of.result))
    (subst (λ f. option_map data_of f ≡ document_of c.args.bytes.now) c.in-Some.is c.in_ok-json.ensures) c.forms_of.ensures
