use Rattle.flow_top.proofs.LibraryFaults.{refuses_library}
use Rattle.flow_top.proofs.refusing.read_ram_text.Goals as goal

pub returns-in-Err : goal.returns-in-Err
returns-in-Err c = record {
  found = tt;
  refused = rw c.library_status.ensures (refuses_library c.args.bytes.now c.in-Err.fault c.in-Err.ensures.first c.in-Err.ensures.only);
}
