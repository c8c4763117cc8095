-- The types of a run under one name.
pub use Rattle.tasks.specs.declared.Task.{Task}
pub use Rattle.answers.specs.Types.{Answer}
pub use Rattle.answers.specs.declared.Refusal.{Refusal}
pub use Rattle.answers.specs.declared.Refusal.TheVariants.{NoRoom, Damaged, TooLong}
pub use Rattle.steps.specs.Types.{Effect}
pub use Rattle.cells.specs.declared.Machine.{Machine}
pub use Rattle.cells.specs.declared.Applied.{Applied}
pub use Rattle.runs.specs.declared.Report.{Report}
pub use Rattle.runs.specs.declared.Ran.{Ran}
