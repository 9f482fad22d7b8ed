-- What a call answers, but for want of memory.
use Rattle.std.specs.Prelude.{◌≡◌, ℕ, List, Vec, Result, Ok, Err, ⊤}
use Rattle.std.specs.declared.alloc.Global.{Global}
use Rattle.flow_io.specs.declared.desk.DeskFault.{DeskFault}
use Rattle.flow_io.specs.declared.desk.DeskFault.TheVariants.{Failed, TooLong, Memory}

-- the answer is the wanted one, or want of memory
abbrev pub AnswersAs : Result (List ℕ) DeskFault → Result (Vec ℕ Global) DeskFault → Type 0
AnswersAs wanted (Ok bytes) = wanted ≡ Ok bytes.items
AnswersAs wanted (Err Failed) = wanted ≡ Err Failed
AnswersAs wanted (Err (TooLong seen)) = wanted ≡ Err (TooLong seen)
AnswersAs wanted (Err Memory) = ⊤
