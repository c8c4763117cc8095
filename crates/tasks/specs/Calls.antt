-- Starting a call touches one task's record only.
use Rattle.tasks.specs.Types.{Task, Call, Load, Store, Release, Validate}

-- a load sets phase 1 and x; a store sets phase 7 and Y; a release sets phase 14, a validate phase 15
abbrev pub begun_of : Task → Call → Task
begun_of t (Load x) = record { phase = 1; cell = x; value = t.value; held = t.held; own = t.own; cursor = t.cursor }
begun_of t (Store y) = record { phase = 7; cell = t.cell; value = y; held = t.held; own = t.own; cursor = t.cursor }
begun_of t Release = record { phase = 14; cell = t.cell; value = t.value; held = t.held; own = t.own; cursor = t.cursor }
begun_of t Validate = record { phase = 15; cell = t.cell; value = t.value; held = t.held; own = t.own; cursor = t.cursor }
