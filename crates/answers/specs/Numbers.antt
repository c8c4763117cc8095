-- Number and value of each case of an answer, by documents 01 and 02. 24 belongs to the holders question, in the crate tasks;
-- 18, which document 01 gave to a store whose task was linked to another cell, is given no more: document 02 answers such a store.
use Rattle.std.specs.Prelude.{ℕ, Result, Ok, Err}
use Rattle.answers.specs.Types.{Reply, Moved, Loaded, Took, Lost, Released, Good, Gone, Refusal, Sizes, NoTask, NoKind, NoCell, NotZero, NotNow, NoStep, WrongMark, TooShort, NoRoom, Damaged, TooLong, NotALine, TooLarge, OutputShort, Answer}

abbrev pub reply_number : Reply → ℕ
reply_number Moved = 0  -- begun or moved
reply_number (Loaded v) = 1  -- load finished, with its value
reply_number Took = 2  -- store took
reply_number Lost = 3  -- store lost
reply_number Released = 4  -- released
reply_number Good = 5  -- validated: the link is good
reply_number Gone = 6  -- validated: the link is gone

-- 0 except for a finished load
abbrev pub reply_value : Reply → ℕ
reply_value Moved = 0
reply_value (Loaded v) = v
reply_value Took = 0
reply_value Lost = 0
reply_value Released = 0
reply_value Good = 0
reply_value Gone = 0

abbrev pub refusal_number : Refusal → ℕ
refusal_number Sizes = 11  -- setup: N, P or K outside the sizes
refusal_number NoTask = 12  -- entry's task is P or more
refusal_number NoKind = 13  -- kind above 4
refusal_number NoCell = 14  -- load or store of a cell N or more
refusal_number NotZero = 15  -- a byte that must be zero isn't
refusal_number NotNow = 16  -- load while not idle; store while a call is running; release or validate while not linked
refusal_number NoStep = 17  -- go while idle or linked
refusal_number WrongMark = 19  -- wrong mark
refusal_number TooShort = 20  -- fewer bytes left than the record needs
refusal_number NoRoom = 21  -- reply buffer too short for the schedule
refusal_number Damaged = 22  -- machine record damaged
refusal_number TooLong = 23  -- schedule longer than 65,530 bytes, or text with more than 6,553 newlines
refusal_number NotALine = 30  -- text: a line without a line's form
refusal_number TooLarge = 31  -- text: a number too large for its place
refusal_number OutputShort = 32  -- text: output buffer too short

-- the number of a refusal, and 0 for what was not refused
abbrev pub refusal_or_0 : {A : Type 0} → Result A Refusal → ℕ
refusal_or_0 (Ok x) = 0
refusal_or_0 (Err r) = refusal_number r

abbrev pub number_of : Answer → ℕ
number_of (Ok r) = reply_number r
number_of (Err r) = refusal_number r

abbrev pub value_of : Answer → ℕ
value_of (Ok r) = reply_value r
value_of (Err r) = 0
