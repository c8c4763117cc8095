-- The declared types under one name.
use Rattle.std.specs.Prelude.{Result}
pub use Rattle.answers.specs.declared.Reply.{Reply}
pub use Rattle.answers.specs.declared.Reply.TheVariants.{Moved, Loaded, Took, Lost, Released, Good, Gone}
pub use Rattle.answers.specs.declared.Refusal.{Refusal}
pub use Rattle.answers.specs.declared.Refusal.TheVariants.{Sizes, NoTask, NoKind, NoCell, NotZero, NotNow, NoStep, WrongMark, TooShort, NoRoom, Damaged, TooLong, NotALine, TooLarge, OutputShort}

-- a reply, or why there is none
abbrev pub Answer : Type 0
Answer = Result Reply Refusal
