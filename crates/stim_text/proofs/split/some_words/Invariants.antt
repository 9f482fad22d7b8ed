use Rattle.std.proofs.Common.{◌≡◌, ◌++◌, map, drop}
use Rattle.std.specs.List.{filter}
use Rattle.stim_text.specs.Spoken.{is_word}
use Rattle.stim_text.proofs.split.some_words.Given as goal

abbrev pub invariant-loop-piece : goal.invariant-loop-piece
invariant-loop-piece l = map (λ r. r.now) l.words.items ++ filter is_word (map (λ r. r.now) (drop l.piece-index l.pieces)) ≡ filter is_word (map (λ r. r.now) l.pieces)
