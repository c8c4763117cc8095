-- The declared types under one name.
pub use Rattle.digits.specs.declared.Digits.{Digits}
