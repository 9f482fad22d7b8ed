use Rattle.std.proofs.Common.{◌≡◌, map, take}
use Rattle.net_gather.specs.OpenPins.{known_source}
use Rattle.net_gather.proofs.known.known_sources.Given as goal

abbrev pub invariant-loop-source : goal.invariant-loop-source
invariant-loop-source l = l.known.items ≡ map (known_source l.tied) (take l.source-index l.sources)
