-- Document 01's worked cases: every row of the table is right, computed. Assumes nothing.
use lib.Dec.{T}
use Rattle.faults.specs.Benches.{computing}
use Rattle.cells.specs.Free.{free_of}
use Rattle.entries.specs.Schedule.{cut}
use Rattle.digits.specs.Decimal.{all_digits, is_number, onward, before}
use Rattle.entries.specs.Entry.{entry_of}
use Rattle.texts.specs.Line.{up_to, past, is_line, fits}
use Rattle.texts.specs.Made.{gathered, answered, laid}
use Rattle.texts.specs.Text.{newlines, closed, following, line_made, imported, exported}
use Rattle.runs.specs.Run.{replies_from, ran_from, ran_of, replies_of}
use Rattle.cases.specs.Rows.{every}
use Rattle.cases.specs.Cases.{cases}

pub worked : T (every cases)
unfolding computing free_of cut replies_from ran_from ran_of replies_of
    all_digits is_number onward before entry_of up_to past is_line fits gathered answered laid newlines closed following line_made imported exported cases
worked = tt
