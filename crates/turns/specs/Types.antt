-- The types of a turn under one name.
pub use Rattle.tasks.specs.declared.TaskNo.{TaskNo}
pub use Rattle.answers.specs.Types.{Answer}
pub use Rattle.steps.specs.Types.{Effect}
pub use Rattle.entries.specs.declared.Entry.{Entry}
pub use Rattle.cells.specs.declared.Machine.{Machine}
