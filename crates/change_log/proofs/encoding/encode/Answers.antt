use Rattle.change_log.proofs.encoding.encode.Goals as goal

pub returns-clause-valid : goal.returns-clause-valid
returns-clause-valid c =
    let put = c.in_ok-put_body.ensures.valid in
    record {
      number = put.0.0;
      user = put.0.1.0;
      moment = put.0.1.1;
      some = c.requires.some;
      count = c.requires.count;
      writes = put.1;
      size = c.requires.size;
    }
