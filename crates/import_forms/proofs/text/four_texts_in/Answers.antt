use Rattle.json_read.specs.Views.{data_of}
use Rattle.import_forms.specs.Texts.{text_in}
use Rattle.import_forms.proofs.BothLemmas.{both-are}
use Rattle.import_forms.proofs.text.four_texts_in.Goals as goal

pub returns : goal.returns
returns c =
    let json = data_of c.args.value.now in
    let first = text_in c.args.first.now json in
    let second = text_in c.args.second.now json in
    let third = text_in c.args.third.now json in
    let fourth = text_in c.args.fourth.now json in
    both-are (first, second) (third, fourth) c.both.result c.both-2.result c.both-3.result c.both-3.ensures
    (both-are first second c.text_in.result c.text_in-2.result c.both.result c.both.ensures c.text_in.ensures c.text_in-2.ensures)
    (both-are third fourth c.text_in-3.result c.text_in-4.result c.both-2.result c.both-2.ensures c.text_in-3.ensures c.text_in-4.ensures)
