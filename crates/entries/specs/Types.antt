-- The types of an entry under one name: those declared here, a task's record, its calls, effects and answers.
pub use Rattle.tasks.specs.declared.TaskNo.{TaskNo}
pub use Rattle.tasks.specs.declared.CellNo.{CellNo}
pub use Rattle.tasks.specs.declared.Task.{Task}
pub use Rattle.tasks.specs.declared.Call.{Call}
pub use Rattle.tasks.specs.declared.Call.TheVariants.{Load, Store, Release, Validate}
pub use Rattle.answers.specs.declared.Reply.TheVariants.{Moved, Lost}
pub use Rattle.answers.specs.declared.Refusal.TheVariants.{NoTask, NoKind, NoCell, NotZero, NotNow, WrongMark, TooShort}
pub use Rattle.steps.specs.declared.Seen.{Seen}
pub use Rattle.steps.specs.declared.Write.TheVariants.{Nothing}
pub use Rattle.steps.specs.Types.{Effect}
pub use Rattle.entries.specs.declared.Entry.{Entry}
pub use Rattle.entries.specs.declared.Asked.{Asked}
pub use Rattle.entries.specs.declared.Asked.TheVariants.{ToGo, ToLoad, ToStore, ToRelease, ToValidate}
