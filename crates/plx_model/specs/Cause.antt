-- Why the judge doesn't take an entry.
use Rattle.std.specs.Prelude.{Result, Ok, Err}
use Rattle.plx_commands.specs.Judge.{Accepts, IsLeastBroken}
use Rattle.plx_commands.specs.Model.{Model}
use Rattle.plx_commands.specs.declared.entry.Entry.{Entry}
use Rattle.plx_model.specs.declared.judge.JudgeError.{JudgeError}
use Rattle.plx_model.specs.declared.judge.JudgeError.TheVariants.{NotPermitted, NoMemory}

-- a rule that is named is the least one that the entry breaks; memory is short only where it keeps all rules
abbrev pub IsJudgeCause : JudgeError → Model → Entry → Type 0
IsJudgeCause (NotPermitted rule) m entry = IsLeastBroken m entry rule
IsJudgeCause NoMemory m entry = Accepts m entry

-- no rule is named
abbrev pub IsTaken : {T : Type 0} → Result T JudgeError → Type 0
IsTaken (Ok done) = Unit {0}
IsTaken (Err (NotPermitted rule)) = ⊥
IsTaken (Err NoMemory) = Unit {0}
