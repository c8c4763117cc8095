-- The types of the machine under one name: those declared here and those of the crates below that its definitions speak of.
pub use Rattle.tasks.specs.declared.TaskNo.{TaskNo}
pub use Rattle.tasks.specs.declared.Task.{Task}
pub use Rattle.answers.specs.declared.Refusal.{Refusal}
pub use Rattle.answers.specs.declared.Refusal.TheVariants.{Sizes, NoTask, NotZero, WrongMark, TooShort, Damaged}
pub use Rattle.steps.specs.declared.Seen.{Seen}
pub use Rattle.steps.specs.declared.Write.{Write}
pub use Rattle.steps.specs.declared.Write.TheVariants.{Nothing, Point, Count, Value}
pub use Rattle.steps.specs.declared.Deed.{Deed}
pub use Rattle.steps.specs.Types.{Effect}
pub use Rattle.entries.specs.declared.Entry.{Entry}
pub use Rattle.cells.specs.declared.Machine.{Machine}
pub use Rattle.cells.specs.declared.Applied.{Applied}
pub use Rattle.cells.specs.declared.Decision.{Decision}
pub use Rattle.cells.specs.declared.SetUp.{SetUp}
pub use Rattle.cells.specs.declared.start.Head.{Head}
