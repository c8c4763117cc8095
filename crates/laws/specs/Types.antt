-- The types of the machine under one name: those of the crates below that the theorems speak of.
pub use Rattle.tasks.specs.declared.CellNo.{CellNo}
pub use Rattle.tasks.specs.declared.NodeNo.{NodeNo}
pub use Rattle.tasks.specs.declared.TaskNo.{TaskNo}
pub use Rattle.tasks.specs.declared.Task.{Task}
pub use Rattle.tasks.specs.declared.Call.{Call}
pub use Rattle.tasks.specs.declared.Call.TheVariants.{Load, Store, Release, Validate}
pub use Rattle.answers.specs.declared.Reply.{Reply}
pub use Rattle.answers.specs.declared.Reply.TheVariants.{Moved, Loaded, Took, Lost, Released, Good, Gone}
pub use Rattle.answers.specs.declared.Refusal.{Refusal}
pub use Rattle.answers.specs.declared.Refusal.TheVariants.{Sizes, NoTask, NoKind, NoCell, NotZero, NotNow, NoStep, WrongMark, TooShort, NoRoom, Damaged, TooLong, NotALine, TooLarge, OutputShort}
pub use Rattle.answers.specs.Types.{Answer}
pub use Rattle.steps.specs.declared.Seen.{Seen}
pub use Rattle.steps.specs.declared.Write.{Write}
pub use Rattle.steps.specs.declared.Write.TheVariants.{Nothing, Point, Count, Value}
pub use Rattle.steps.specs.declared.Deed.{Deed}
pub use Rattle.steps.specs.Types.{Effect}
pub use Rattle.entries.specs.declared.Entry.{Entry}
pub use Rattle.cells.specs.declared.Machine.{Machine}
pub use Rattle.cells.specs.declared.Applied.{Applied}
pub use Rattle.cells.specs.declared.Decision.{Decision}
pub use Rattle.cells.specs.declared.SetUp.{SetUp}
pub use Rattle.runs.specs.declared.Report.{Report}
pub use Rattle.runs.specs.declared.Ran.{Ran}
