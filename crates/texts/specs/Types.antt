-- The types of a text under one name.
pub use Rattle.answers.specs.declared.Refusal.{Refusal}
pub use Rattle.answers.specs.declared.Refusal.TheVariants.{NotZero, WrongMark, TooShort, TooLong, NotALine, TooLarge, OutputShort}
pub use Rattle.entries.specs.declared.Entry.{Entry}
