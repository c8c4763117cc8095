-- A run of a whole schedule from bytes: its entries, its replies, its free nodes and its six numbers, built on single entries.
use Rattle.std.specs.Prelude.{ℕ, ◌+◌, ◌*◌, Bool, cond, not, ◌&&◌, List, [], ◌∷◌, ◌++◌, leb, ltb, length, take, drop}
use Rattle.wire.specs.Bytes.{reply_of}
use Rattle.answers.specs.Numbers.{refusal_number, number_of, value_of}
use Rattle.entries.specs.Schedule.{entries_in, entries_of}
use Rattle.cells.specs.Machine.{in_range}
use Rattle.cells.specs.Apply.{apply_of}
use Rattle.cells.specs.Free.{free_nodes, free_value}
use Rattle.runs.specs.Types.{Machine, Applied, Refusal, NoRoom, Damaged, TooLong, Report, Ran}
use Rattle.runs.specs.Counts.{accepted, anywhere, loads_at, steps_at, turned_at, swaps_at}

-- an applied entry's reply
abbrev pub reply_bytes : Applied → List ℕ
reply_bytes a = reply_of (number_of a.answer) a.task (value_of a.answer)

-- one reply an entry, up to the first refused one and its own
unfoldable pub replies_from : Machine → List (List ℕ) → List ℕ
replies_from m [] = []
replies_from m (e ∷ es) = reply_bytes (apply_of m e) ++ cond (accepted (apply_of m e).answer) (replies_from (apply_of m e).machine es) []

-- what the free-nodes question gives for a record; 0 where it is refused, as no record is that is reached from a setup
abbrev pub free_now : Machine → ℕ
free_now m = free_value (free_nodes m)

-- that number after each entry, up to the first refused one and its own
unfoldable pub notes_from : Machine → List (List ℕ) → List ℕ
notes_from m [] = []
notes_from m (e ∷ es) = free_now (apply_of m e).machine ∷ cond (accepted (apply_of m e).answer) (notes_from (apply_of m e).machine es) []

-- no entry tried: the number in its place, all counts 0
abbrev pub report_of : ℕ → Report
report_of r = record { accepted = 0; refusal = r; loads = 0; load_steps = 0; turned_back = 0; swaps = 0 }

-- the six numbers in document 01's order
abbrev pub six_of : Report → List ℕ
six_of r = r.accepted ∷ r.refusal ∷ r.loads ∷ r.load_steps ∷ r.turned_back ∷ r.swaps ∷ []

-- one entry more accepted, at machine m
abbrev pub counted : Machine → List ℕ → Report → Report
counted m e r =
    record {
      accepted = r.accepted + 1;
      refusal = r.refusal;
      loads = r.loads + loads_at anywhere m e;
      load_steps = r.load_steps + steps_at anywhere m e;
      turned_back = r.turned_back + turned_at anywhere m e;
      swaps = r.swaps + swaps_at anywhere m e;
    }

abbrev pub refused_at : ℕ → Report → Report
refused_at n r =
    record { accepted = r.accepted; refusal = n; loads = r.loads; load_steps = r.load_steps; turned_back = r.turned_back; swaps = r.swaps }

-- the entries one after the other; the first refused one ends the run
unfoldable pub ran_from : Machine → Report → List (List ℕ) → Ran
ran_from m r [] = record { machine = m; report = r }
ran_from m r (e ∷ es) =
    cond (accepted (apply_of m e).answer) (ran_from (apply_of m e).machine (counted m e r) es)
    (record { machine = (apply_of m e).machine; report = refused_at (number_of (apply_of m e).answer) r })

-- no entry is tried: the record as it was, and the refusal
abbrev pub untried_of : Machine → Refusal → Ran
untried_of m r = record { machine = m; report = report_of (refusal_number r) }

-- a run on machine m of the bytes s, with room for `room` bytes of replies
unfoldable pub ran_of : Machine → List ℕ → ℕ → Ran
ran_of m s room =
    cond (not (in_range m)) (untried_of m Damaged)  -- 22 (ranges)
    (cond (ltb 65530 (length s)) (untried_of m TooLong)  -- 23
    (cond (ltb room (8 * entries_in s)) (untried_of m NoRoom)  -- 21
    (ran_from m (report_of 0) (entries_of s))))

-- that run is not refused before its first entry
abbrev pub starts_of : Machine → List ℕ → ℕ → Bool
starts_of m s room = in_range m && leb (length s) 65530 && leb (8 * entries_in s) room

-- the replies of that run: none where no entry was tried
unfoldable pub replies_of : Machine → List ℕ → ℕ → List ℕ
replies_of m s room = cond (starts_of m s room) (replies_from m (entries_of s)) []

-- the reply buffer at exit: the replies, and after them what it held
unfoldable pub buffer_of : Machine → List ℕ → List ℕ → List ℕ
buffer_of m s out = replies_of m s (length out) ++ drop (length (replies_of m s (length out))) out

-- a buffer with these numbers from its front on, as far as it goes, and after them what it held
abbrev pub noted_by : List ℕ → List ℕ → List ℕ
noted_by notes free = take (length free) notes ++ drop (length notes) free

-- the buffer for that run's numbers at exit: as it was, where no entry was tried
unfoldable pub noted_of : Machine → List ℕ → ℕ → List ℕ → List ℕ
noted_of m s room free = cond (starts_of m s room) (noted_by (notes_from m (entries_of s)) free) free
