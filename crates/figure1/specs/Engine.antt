-- What an engine must supply so that it follows figure 1 over every schedule: its entries, the events of each, and that one entry agrees.
use Rattle.std.specs.Prelude.{List, [], ◌∷◌, ◌++◌}
use Rattle.figure1.specs.Histories.{State, Event, after_all, Follows}

pub record Engine : Type 1 where
  -- a record of the engine, and one entry of its schedules
  pub Record : Type 0
  pub Entry : Type 0
  -- the record after an entry, and what the entry did in figure 1's terms
  pub next : Record → Entry → Record
  pub events : Record → Entry → List Event
  -- what holds of every record that is reached, and the state of figure 1 that a record is in
  pub Kept : Record → Type 0
  pub Matches : Record → State → Type 0
  -- one entry keeps the first, and its events are legal and keep the second
  pub keeps : (m : Record) (e : Entry) → Kept m → Kept (next m e)
  pub agrees : (m : Record) (e : Entry) (a : State) → Kept m → Matches m a → Follows a (events m e) × Matches (next m e) (after_all a (events m e))

module _ (G : Engine) where
  -- the record after a schedule, and the schedule's history
  abbrev pub run : G.Record → List G.Entry → G.Record
  run m [] = m
  run m (e ∷ es) = run (G.next m e) es

  abbrev pub history : G.Record → List G.Entry → List Event
  history m [] = []
  history m (e ∷ es) = G.events m e ++ history (G.next m e) es
