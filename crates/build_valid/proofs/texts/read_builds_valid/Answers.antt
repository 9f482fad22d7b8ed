use Rattle.build_valid.proofs.texts.read_builds_valid.Goals as goal

pub returns : goal.returns
returns c = λ bs ls doc lib design r w few lr lw b.
    c.built_is_valid_design.ensures doc lib design (c.read_library_fits.ensures ls lib lr lw) (c.read_doc_is_written.ensures bs doc r w few) b
