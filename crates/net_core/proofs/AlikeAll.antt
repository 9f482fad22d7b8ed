-- Cells that are alike are allowed alike.
use Rattle.net_core.specs.Alike.{AlikeAllowedAlike}
use Rattle.net_core.proofs.AlikeCells.{comb_alike, reg_alike, mem_alike}
use Rattle.net_core.proofs.AlikeRams.{ram_alike}

pub alike_allowed_alike : AlikeAllowedAlike
alike_allowed_alike ins outs events v w = (comb_alike events v w, reg_alike ins outs events v w, mem_alike ins outs events v w, ram_alike ins outs v w events)
