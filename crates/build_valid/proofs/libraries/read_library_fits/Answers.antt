use Rattle.build_valid.proofs.Reading as reading
use Rattle.build_valid.proofs.libraries.read_library_fits.Goals as goal

pub returns : goal.returns
returns c = reading.read_library_fits
