-- No answer has the number 18, and one alone has 22. Assumes nothing.
use Rattle.std.specs.Prelude.{Ok, Err}
use Prim.Native.Nat.{◌≤◌}
use native.Mathlib.Omega.{arith}
use mathlib.Core.Path.{refl, ap}
use mathlib.Core.Logic.{◌≢◌}
use Rattle.answers.specs.Types.{Reply, Moved, Loaded, Took, Lost, Released, Good, Gone, Refusal, Sizes, NoTask, NoKind, NoCell, NotZero, NotNow, NoStep, WrongMark, TooShort, NoRoom, Damaged, TooLong, NotALine, TooLarge, OutputShort, Answer}
use Rattle.answers.specs.Numbers.{reply_number, refusal_number, number_of}

-- replies have the numbers up to 6
reply_at_most : (r : Reply) → reply_number r ≤ 6
reply_at_most Moved = omega arith
reply_at_most (Loaded v) = omega arith
reply_at_most Took = omega arith
reply_at_most Lost = omega arith
reply_at_most Released = omega arith
reply_at_most Good = omega arith
reply_at_most Gone = omega arith

refusal_number_is : (r : Refusal) → (refusal_number r ≢ 18) × (r ≢ Damaged → refusal_number r ≢ 22)
refusal_number_is Sizes = omega arith
refusal_number_is NoTask = omega arith
refusal_number_is NoKind = omega arith
refusal_number_is NoCell = omega arith
refusal_number_is NotZero = omega arith
refusal_number_is NotNow = omega arith
refusal_number_is NoStep = omega arith
refusal_number_is WrongMark = omega arith
refusal_number_is TooShort = omega arith
refusal_number_is NoRoom = omega arith
refusal_number_is Damaged = (omega arith, λ ne q. ne refl)
refusal_number_is TooLong = omega arith
refusal_number_is NotALine = omega arith
refusal_number_is TooLarge = omega arith
refusal_number_is OutputShort = omega arith

pub no_18 : (a : Answer) → number_of a ≢ 18
no_18 (Ok r) = omega (arith, reply_at_most r)
no_18 (Err r) = (refusal_number_is r).0

pub only_22 : (a : Answer) → a ≢ Err Damaged → number_of a ≢ 22
only_22 (Ok r) ne = omega (arith, reply_at_most r)
only_22 (Err r) ne = (refusal_number_is r).1 (λ q. ne (ap Err q))
