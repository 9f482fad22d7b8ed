use Rattle.flow_top.proofs.TextFaults.{refuses_text}
use Rattle.flow_top.proofs.reading.read_text.Goals as goal

pub returns-in-Err : goal.returns-in-Err
returns-in-Err c = record {
  found = tt;
  refused = rw c.text_status.ensures (refuses_text c.args.bytes.now c.in-Err.fault c.in-Err.ensures.first c.in-Err.ensures.only);
}
