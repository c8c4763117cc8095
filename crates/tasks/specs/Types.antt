-- The declared types under one name.
pub use Rattle.tasks.specs.declared.CellNo.{CellNo}
pub use Rattle.tasks.specs.declared.NodeNo.{NodeNo}
pub use Rattle.tasks.specs.declared.Task.{Task}
pub use Rattle.tasks.specs.declared.Call.{Call}
pub use Rattle.tasks.specs.declared.Call.TheVariants.{Load, Store, Release, Validate}
