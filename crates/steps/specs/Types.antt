-- The types of a step under one name: those declared here, a task's record and the answers.
use Rattle.std.specs.Prelude.{ℕ, Result}
pub use Rattle.tasks.specs.declared.NodeNo.{NodeNo}
pub use Rattle.tasks.specs.declared.Task.{Task}
pub use Rattle.answers.specs.declared.Reply.{Reply}
pub use Rattle.answers.specs.declared.Reply.TheVariants.{Moved, Loaded, Took, Lost, Released, Good, Gone}
pub use Rattle.answers.specs.declared.Refusal.TheVariants.{NoStep, Damaged}
pub use Rattle.answers.specs.Types.{Answer}
pub use Rattle.steps.specs.declared.Seen.{Seen}
pub use Rattle.steps.specs.declared.Write.{Write}
pub use Rattle.steps.specs.declared.Write.TheVariants.{Nothing, Point, Count, Value}
use Rattle.answers.specs.declared.Refusal.{Refusal}
use Rattle.steps.specs.declared.Deed.{Deed}

-- a deed, or why nothing is done
abbrev pub Effect : Type 0
Effect = Result Deed Refusal

-- the write that changes a count, and the count then
abbrev pub Counted : Type 0
Counted = Result (Write × ℕ) Refusal
