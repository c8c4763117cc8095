-- What is proved, demand by demand of document 00: full statements, each proved in the file that its line cites. Nothing is assumed: a theorem
-- takes any record and any bytes, or a setup that is accepted, or a record reached from one.
use Rattle.std.specs.Prelude.{Ok, Err}
use Prim.Native.Nat.{ℕ, suc, ◌+◌, ◌*◌, ◌≤◌, ◌<◌, ◌-◌}
use mathlib.Core.Path.{◌≡◌, refl}
use mathlib.Core.Bool.{true, false, Bool}
use mathlib.Core.List.{List, [], ◌∷◌, ◌++◌}
use mathlib.Core.Logic.{◌≢◌}
use lib.ListN.{length, get_or, take, drop}
use Rattle.wire.specs.Bytes.{word_at}
use Rattle.answers.specs.Numbers.{number_of}
use Rattle.answers.proofs.Numbers.{no_18}
use Rattle.tables.specs.Tables.{value_given}
use Rattle.cells.specs.Machine.{seen_of, in_range, Long}
use Rattle.cells.specs.Apply.{apply_of}
use Rattle.cells.specs.Setup.{blank_of, setup_of}
use Rattle.cells.specs.Free.{free_nodes}
use Rattle.cells.proofs.Ranges.{keeps_ranges}
use Rattle.runs.specs.Counts.{accepted, kind_of, task_of, anywhere, loads_at, steps_at, turned_at, swaps_at}
use Rattle.entries.specs.Schedule.{entries_in, entries_of}
use Rattle.runs.specs.Run.{reply_bytes, replies_of, untried_of, ran_of, buffer_of, noted_of}
use Rattle.figure1.specs.Figure1.{Call, store, validate, Result, took, lost, good, gone}
use Rattle.figure1.specs.Histories.{State, Event, begins, acts, ends, after, after_all, given, Follows, start}
use Rattle.figure1.specs.Counts.{begins_by, acts_by, ends_by, number}
use Rattle.figure1.specs.Calls.{Acted, Called}
use Rattle.figure1.specs.Validate.{Unwritten, Decides}
use Rattle.figure1.specs.Engine.{history}
use Rattle.figure1.proofs.Lift.{follows_split}
use Rattle.figure1.proofs.Once.{finished, unfinished, in_order, cells_stay}
use Rattle.figure1.proofs.Validate.{validate_decided, store_decided}
use Rattle.laws.specs.Types.{Answer, Refusal, NoRoom, Damaged, TooLong, Deed, Machine}
use Rattle.laws.specs.Acts.{Matches, finishes, events_of}
use Rattle.laws.specs.Validate.{Validated}
use Rattle.laws.specs.Schedules.{applied, tried, before, entry, Reached, Scheduled, over}
use Rattle.laws.specs.Beyond.{Bare, Alike, Alike-after}
use Rattle.laws.specs.Accepts.{Formed, Fits, StoreAnswered}
use Rattle.laws.specs.Outcomes.{Asks, Loses, Outcome, Steps, lost_by}
use Rattle.laws.specs.Moves.{Moves}
use Rattle.laws.proofs.Entries.{outcome, refused_leaves}
use Rattle.laws.proofs.Rows.{moves}
use Rattle.laws.proofs.Accepts.{takes, fits}
use Rattle.laws.proofs.Start.{setup_kept, setup_blank}
use Rattle.laws.proofs.Runs.{run_damaged, run_long, run_no_room, run_tries, buffer_length, buffer_past, run_no_18}
use Rattle.laws.proofs.Reached.{schedule-keeps, reached_kept, scheduled}
use Rattle.laws.proofs.Beyond.{reached_bare, entry_alike}
use Rattle.laws.proofs.Ranges.{in_range_lem, schedule_ranges}
use Rattle.laws.proofs.Damage.{entry_undamaged, run_undamaged}
use Rattle.laws.proofs.Engine.{pool, follows, matches, answered, replies_follow}
use Rattle.laws.proofs.Stores.{store-answered, store-unlinked}
use Rattle.laws.proofs.Validate as Validate
use lib.Dec.{T, eqb}
use Rattle.tallies.specs.Lists.{within}
use Rattle.tallies.specs.Tally.{tally}
use Rattle.tasks.specs.Records.{node_no, no_task}
use Rattle.tasks.specs.Phases.{storing}
use Rattle.tasks.specs.Holders.{held_among, holders_value}
use Rattle.laws.specs.Meaning.{points, owns, swapped, used, free}
use Rattle.laws.specs.Small as Small
use Rattle.laws.specs.Solo.{Within}
use Rattle.laws.specs.Numbers.{numbers_of, start_refusal, tried_by, over_runs, tried_all}
use Rattle.laws.proofs.Room.{count_most, two-free}
use Rattle.laws.proofs.Counts.{count_is}
use Rattle.laws.proofs.Free.{told_free, notes_leave, notes_past, notes_free}
use Rattle.laws.proofs.Busy.{busy_most}
use Rattle.laws.proofs.Bound.{load_bound, turned_bound}
use Rattle.laws.proofs.Numbers.{run_starts, run_is, chain_loads, chain_steps, chain_swaps}
use Rattle.laws.proofs.Solo.{load_solo, store_sooner, release_solo, validate_solo}
use Rattle.laws.proofs.Stored.{store_solo}
use Rattle.laws.proofs.Sharp as Sharp

-- DEMAND 1. Whatever is handed over is answered or refused with a number, and a refusal changes nothing beyond what its answer takes up.
-- (That each function returns what these definitions give, for every input, is its own contract.)

-- a refused entry leaves the machine: any record, any bytes (Entries)
pub refused-entry : (m : Machine) (e : List ℕ) (r : Refusal) → (apply_of m e).answer ≡ Err r → (apply_of m e).machine ≡ m
refused-entry m e r q = refused_leaves m e (rw q refl)

-- a refused setup gives a record of all zeros (Start)
pub refused-setup : (s : List ℕ) (r : Refusal) → (setup_of s).answer ≡ Err r → (setup_of s).machine ≡ blank_of
refused-setup = setup_blank

-- a run leaves the reply buffer's length and every byte after its last reply (Runs)
pub buffer_kept : (m : Machine) (s out : List ℕ)
    → (length (buffer_of m s out) ≡ length out) × ((i : ℕ) → length (replies_of m s (length out)) ≤ i → get_or (buffer_of m s out) i 0 ≡ get_or out i 0)
buffer_kept m s out = (buffer_length m s out, buffer_past m s out)

-- and so it leaves the buffer for the numbers of free nodes: its length and every byte after its last number (Free)
pub notes_kept : (m : Machine) (s : List ℕ) (room : ℕ) (frees : List ℕ)
    → (length (noted_of m s room frees) ≡ length frees)
    × ((i : ℕ) → length (tried m (entries_of s)) ≤ i → get_or (noted_of m s room frees) i 0 ≡ get_or frees i 0)
notes_kept m s room frees = (notes_leave m s room frees, notes_past m s room frees)

-- 22 by the ranges, 23 and 21 leave the record and both buffers whole, and report the number and five zeros (Runs)
pub refused-run : (m : Machine) (s out frees : List ℕ)
    → (in_range m ≡ false → (ran_of m s (length out) ≡ untried_of m Damaged) × (buffer_of m s out ≡ out) × (noted_of m s (length out) frees ≡ frees))
    × (in_range m ≡ true → 65530 < length s → (ran_of m s (length out) ≡ untried_of m TooLong) × (buffer_of m s out ≡ out) × (noted_of m s (length out) frees ≡ frees))
    × (in_range m ≡ true → length s ≤ 65530 → length out < 8 * entries_in s
    → (ran_of m s (length out) ≡ untried_of m NoRoom) × (buffer_of m s out ≡ out) × (noted_of m s (length out) frees ≡ frees))
refused-run m s out frees = (run_damaged m s out frees, run_long m s out frees, run_no_room m s out frees)

-- no record reached from an accepted setup meets 22: not by its ranges (Ranges), not by a step, not in a run (Damage)
pub never_damaged : {m : Machine} → Reached m
    → (in_range m ≡ true) × ((e : List ℕ) → (apply_of m e).answer ≢ Err Damaged) × ((s : List ℕ) (room : ℕ) → (ran_of m s room).report.refusal ≢ 22)
never_damaged {m} r = (in_range_lem m (reached_kept r), entry_undamaged m (reached_kept r), λ s room. run_undamaged m s room (reached_kept r))

-- an entry, accepted or refused, keeps the ranges, from any record that is in range, reached from a setup or not, if its arrays have the lengths of
-- their types; so a run that tests the ranges at its start may leave the later tests out (item 14; cells' Ranges)
pub ranges_kept : (m : Machine) → Long m → in_range m ≡ true → (e : List ℕ) → in_range (apply_of m e).machine ≡ true
ranges_kept = keeps_ranges

-- and so after every entry of a schedule: `apply_of` tests the ranges first, and in a run from such a record that test never fails (Ranges)
pub ranges_kept_on : (m : Machine) → Long m → in_range m ≡ true → (es : List (List ℕ)) → in_range (applied m es) ≡ true
ranges_kept_on = schedule_ranges

-- 18, which document 02 gives no more, is the number of no answer: of no reply, and of no refusal of a setup, an entry or a text (answers' Numbers);
-- and no run reports it, whatever the record and the bytes (Runs)
pub never_18 : ((a : Answer) → number_of a ≢ 18) × ((m : Machine) (s : List ℕ) (room : ℕ) → (ran_of m s room).report.refusal ≢ 18)
never_18 = (no_18, run_no_18)

-- past N, P and K a record reached from an accepted setup is all zero (Beyond)
pub zero-past : {m : Machine} → Reached m → Bare m
zero-past = reached_bare

-- and what stands there makes no difference: records that are alike below N, P and K get the same answers and stay alike (Beyond)
pub past_makes_no_difference : (m m' : Machine) → Alike m m' → (e : List ℕ) → Alike-after (apply_of m e) (apply_of m' e)
past_makes_no_difference = entry_alike

-- DEMAND 2. An accepted entry begins a call, does the step of the table or is a store that is lost at once, and nothing else; and over every schedule
-- from an accepted setup the cells' values and what finished calls gave are figure 1's, each call acting where the demand says (`acts_from` and, for a
-- store without a link, `at_once` in laws/specs/Acts).

-- a record reached from an accepted setup takes exactly the entries that fit it: whole and marked, of a task below P, and what that task may be
-- asked (Accepts)
pub accepted_exactly : {m : Machine} → Reached m → (e : List ℕ) → (Fits m e → accepted (apply_of m e).answer ≡ true) × (accepted (apply_of m e).answer ≡ true → Fits m e)
accepted_exactly {m} r e = (takes m (reached_kept r) e, fits m (reached_kept r) e)

-- and a store is answered by its cell, its task's phase and link, in that order (Stores)
pub store_answers : {m : Machine} → Reached m → (e : List ℕ) → Formed m e → kind_of e ≡ 2 → StoreAnswered m e (apply_of m e)
store_answers {m} r e = store-answered m (reached_kept r) e

-- an entry is refused, begins a call, is a store that is lost at once, or makes a step (Entries), and the step is its phase's row of the table (Rows)
pub entry-does : (m : Machine) (e : List ℕ) → Outcome m e (apply_of m e)
entry-does = outcome

pub step_does : (m : Machine) (e : List ℕ) (d : Deed) → Steps m e d → Moves (task_of m e) (seen_of m (task_of m e)) (task_of m e).phase d
step_does m e d s = moves (task_of m e) (seen_of m (task_of m e)) d s.does

module _ (s : List ℕ) (used : ℕ) (ok : (setup_of s).answer ≡ Ok used) (es : List (List ℕ)) where
  -- figure 1 with the setup's values, and the schedule's history
  abbrev pub first : State
  first = start (value_given s)

  abbrev pub past : List Event
  past = history pool (setup_of s).machine es

  -- the history is legal, and the record is in the state that figure 1 is in after it: values, sets, and where each call stands (Engine)
  pub figure1-holds : Follows first past × Matches (applied (setup_of s).machine es) (after_all first past)
  figure1-holds = (follows s used ok es, matches s used ok es)

  -- an entry that finishes a call answers with figure 1's result: its last event is that call's end, and the call began in the history or at
  -- this entry, acted once since, and was given that result by figure 1 where it acted (Engine)
  pub answers_are_figure1s : (e : List ℕ) (x : Result) → finishes (apply_of (applied (setup_of s).machine es) e).answer ≡ x ∷ []
      → (us : List Event) × (events_of (applied (setup_of s).machine es) e ≡ us ++ ends (get_or e 2 0) x ∷ []) × Called (get_or e 2 0) x first (past ++ us)
  answers_are_figure1s = answered s used ok es

  -- a store without a link on its cell is answered lost and leaves the record, a link on another cell with it: a whole call at its own entry, where
  -- figure 1 has the task outside S of the cell and gives it false, and no cell and no set changes (Stores)
  pub store_without_link : (e : List ℕ) → Formed (applied (setup_of s).machine es) e → Loses (applied (setup_of s).machine es) e
      → (apply_of (applied (setup_of s).machine es) e ≡ lost_by (applied (setup_of s).machine es) e)
      × (events_of (applied (setup_of s).machine es) e ≡ begins (get_or e 2 0) (store (get_or e 4 0) (word_at e 6)) ∷ acts (get_or e 2 0) ∷ ends (get_or e 2 0) lost ∷ [])
      × ((after_all first past).cells.member (get_or e 4 0) (get_or e 2 0) ≡ false)
      × (given first past (get_or e 2 0) (store (get_or e 4 0) (word_at e 6)) ≡ lost)
      × ((after_all first (past ++ events_of (applied (setup_of s).machine es) e)).cells ≡ (after_all first past).cells)
  store_without_link = store-unlinked s used ok es

  -- a validate's step is answered good where its task is in S of its cell and gone where it is not; and that is, as source 004 has it, where
  -- no store to the cell took since the task's load (Validate)
  pub validate_tells : (e : List ℕ) → accepted (apply_of (applied (setup_of s).machine es) e).answer ≡ true → Asks (applied (setup_of s).machine es) e 0 15
      → Validated (task_of (applied (setup_of s).machine es) e).cell.0 (get_or e 2 0) first past (apply_of (applied (setup_of s).machine es) e).answer
  validate_tells = Validate.validate_tells s used ok es

  -- a finished call acted exactly once, between its beginning and its end, and ended with what figure 1 gave there (figure1's Once)
  pub finished_call : (p : ℕ) (c : Call) (r : Result) (xs h rest : List Event) → past ≡ xs ++ (begins p c ∷ h ++ ends p r ∷ rest) → number (ends_by p) h ≡ 0
      → (number (acts_by p) h ≡ 1) × Acted p c (after (after_all first xs) (begins p c)) h r
  finished_call p c r xs h rest q n = finished p c (after_all first xs) h n r rest (follows_split first xs (begins p c ∷ h ++ ends p r ∷ rest) (rw q at (follows s used ok es))).1

  -- an unfinished call has acted at most once, and its task began no other
  pub unfinished_call : (p : ℕ) (c : Call) (xs h : List Event) → past ≡ xs ++ begins p c ∷ h → number (ends_by p) h ≡ 0 → (number (acts_by p) h ≤ 1) × (number (begins_by p) h ≡ 0)
  unfinished_call p c xs h q n = unfinished p c (after_all first xs) h n (follows_split first xs _ (rw q at (follows s used ok es))).1

  -- at every moment: no call of a task ends before it acts, none acts before it begins, and one runs at a time
  pub calls_in_order : (p : ℕ) (xs ys : List Event) → past ≡ xs ++ ys
      → (number (ends_by p) xs ≤ number (acts_by p) xs) × (number (acts_by p) xs ≤ number (begins_by p) xs) × (number (begins_by p) xs ≤ number (ends_by p) xs + 1)
  calls_in_order p xs ys q = in_order p first refl xs ys (rw q at (follows s used ok es))

-- and so for every record reached, by entries and runs in any mixture: some schedule of single entries reaches it (Reached)
pub reached_matches : {m : Machine} → Reached m
    → (r : Scheduled m) × Matches m (after_all (start (value_given r.setup)) (history pool (setup_of r.setup).machine r.entries))
reached_matches h = let r = scheduled h in (r, rw r.reaches at (matches r.setup r.used r.ready r.entries))

-- Figure 1 asks the set; source 004 asks whether a store to the cell took since the task's load (and whether the task has released it, which is document
-- 01's call). After any history the two decide alike, of a validate and of a store (figure1's Validate).
module _ (vals : ℕ → ℕ) (h : List Event) (x p : ℕ) where
  pub validate_exactly : Decides (Unwritten x p (start vals) h) good gone (given (start vals) h p (validate x))
  validate_exactly = validate_decided vals h x p

  pub store_exactly : (y : ℕ) → Decides (Unwritten x p (start vals) h) took lost (given (start vals) h p (store x y))
  store_exactly = store_decided vals h x p

-- the cells change only where a call acts
pub only_acts_change : (h : List Event) (a : State) → ((q : ℕ) → number (acts_by q) h ≡ 0) → (after_all a h).cells ≡ a.cells
only_acts_change = cells_stay

-- the same by runs: the i-th eight bytes that a run writes are the reply of the i-th entry that it tries, at the record after the entries before
-- it, and that entry's events stand at the end of a legal history (Engine); and the record after the run is that after all it tried (Runs)
module _ (s : List ℕ) (used : ℕ) (ok : (setup_of s).answer ≡ Ok used) (es : List (List ℕ)) (b out : List ℕ) (h : length b ≤ 65530) (k : 8 * entries_in b ≤ length out) where
  abbrev pub fresh : Machine
  fresh = (setup_of s).machine

  pub run_follows : (i : ℕ) → i < length (tried (applied fresh es) (entries_of b))
      → (take 8 (drop (8 * i) (buffer_of (applied fresh es) b out)) ≡ reply_bytes (apply_of (applied fresh (before fresh es b i)) (entry fresh es b i)))
      × Follows (start (value_given s)) (history pool fresh (before fresh es b i) ++ events_of (applied fresh (before fresh es b i)) (entry fresh es b i))
  run_follows = replies_follow s used ok es b out h k

  pub run_leaves : (ran_of (applied fresh es) b (length out)).machine ≡ applied (applied fresh es) (tried (applied fresh es) (entries_of b))
  run_leaves = run_tries (applied fresh es) b (length out) (in_range_lem (applied fresh es) (schedule-keeps es fresh (setup_kept s used ok))) h k

-- DEMAND 3. The steps of loads are bounded by the loads begun and the swaps that took; and a task that moves alone ends its call soon.

-- one cell taken alone
abbrev pub alone : ℕ → ℕ → Bool
alone x y = eqb y x

-- THE STEPS OF LOADS. Counted from the entries alone (runs/specs/Counts): loads begun, load steps, checks turned back, swaps that took.
module _ (s : List ℕ) (bytes : ℕ) (ok : (setup_of s).answer ≡ Ok bytes) where
  abbrev pub m : Machine
  m = (setup_of s).machine

  -- at most 4 for each load begun and 4 for each other task and swap, over all cells (Bound)
  pub load_steps : (es : List (List ℕ)) → over (steps_at anywhere) m es ≤ 4 * over (loads_at anywhere) m es + 4 * ((m.p - 1) * over (swaps_at anywhere) m es)
  load_steps = load_bound anywhere s bytes ok

  -- and so for each cell alone, by the loads and swaps of that cell
  pub load_steps_of : (x : ℕ) (es : List (List ℕ)) → over (steps_at (alone x)) m es ≤ 4 * over (loads_at (alone x)) m es + 4 * ((m.p - 1) * over (swaps_at (alone x)) m es)
  load_steps_of x = load_bound (alone x) s bytes ok

  -- a swap that took turns back at most P - 1 checks of its cell
  pub checks_turned : (x : ℕ) (es : List (List ℕ)) → over (turned_at (alone x)) m es ≤ (m.p - 1) * over (swaps_at (alone x)) m es
  checks_turned x = turned_bound (alone x) s bytes ok

  -- the same of what runs report: over any chain of runs from the setup, each with its bytes and its room, the reported numbers added up (Numbers)
  pub reported_steps : (rs : List (List ℕ × ℕ))
      → over_runs (λ r. r.load_steps) m rs ≤ 4 * over_runs (λ r. r.loads) m rs + 4 * ((m.p - 1) * over_runs (λ r. r.swaps) m rs)
  reported_steps rs = rw (chain_steps rs m, chain_loads rs m, chain_swaps rs m) (load_bound anywhere s bytes ok (tried_all m rs))

-- the bound is met: 12 steps for 2 loads and 1 swap by one other task (Sharp)
pub load_steps_met : (over (steps_at anywhere) Small.fresh (Small.case11 ++ Small.gos 7 0) ≡ 12)
    × (4 * over (loads_at anywhere) Small.fresh (Small.case11 ++ Small.gos 7 0) + 4 * (((Small.fresh).p - 1) * over (swaps_at anywhere) Small.fresh (Small.case11 ++ Small.gos 7 0)) ≡ 12)
load_steps_met = Sharp.bound_met

-- a run's record and its six numbers are those of the entries that it tries (Numbers)
pub run_numbers : (m : Machine) (s : List ℕ) (room : ℕ) → in_range m ≡ true → length s ≤ 65530 → 8 * entries_in s ≤ room
    → ran_of m s room ≡ record { machine = applied m (tried m (entries_of s)); report = numbers_of 0 m (tried m (entries_of s)) }
run_numbers = run_starts

-- and of any run, also one that is refused before any entry: the number and five zeros
pub any_run_numbers : (m : Machine) (s : List ℕ) (room : ℕ)
    → ran_of m s room ≡ record { machine = applied m (tried_by m s room); report = numbers_of (start_refusal m s room) m (tried_by m s room) }
any_run_numbers = run_is

-- A TASK ALONE. From any record reached, whatever led there, where from now on only task p makes steps (Solo).
module _ {m : Machine} (r : Reached m) (p : ℕ) (h : p < m.p) where
  abbrev pub phase : ℕ
  phase = (get_or m.tasks p no_task).phase

  -- its running load ends within 7 of its steps
  pub load-ends : T (within 1 5 phase) → Within 7 m p
  load-ends = load_solo p m (reached_kept r) h

  -- its store within N + 2P + 3, and even within N + 2P + 2
  pub store-ends : T (storing phase) → Within (m.n + 2 * m.p + 3) m p
  store-ends = store_solo p m (reached_kept r) h

  pub store_ends_sooner : T (storing phase) → Within (m.n + 2 * m.p + 2) m p
  store_ends_sooner = store_sooner p m (reached_kept r) h

  -- its release within 1
  pub release-ends : phase ≡ 14 → Within 1 m p
  release-ends = release_solo p m (reached_kept r) h

  -- its validate within 1
  pub validate-ends : phase ≡ 15 → Within 1 m p
  validate-ends = validate_solo p m (reached_kept r) h

  -- a store that looks for a node finds two free, so its search ends (Room)
  pub room_to_store : phase ≡ 12 → 2 ≤ free m
  room_to_store = two-free m (reached_kept r) p h

-- in the records of cases 11 and 10, neither 6 steps are enough for the load nor N + 2P + 1 = 6 for the store (Sharp)
pub load_ends_met : Within 6 (applied Small.fresh Small.case11) 0 → ⊥
load_ends_met = Sharp.load_met

pub store_ends_met : Within 6 (applied Small.fresh Small.case10) 1 → ⊥
store_ends_met = Sharp.store_met

-- and no more than two nodes are free where task 1 begins to look for one in case 10, after its four steps S1, S2, S3 and S5 (Sharp)
pub room_to_store_met : free (applied Small.fresh (Small.case10 ++ Small.gos 4 1)) ≡ 2
room_to_store_met = Sharp.free_met

-- THE POOL. Of every record reached: no count passes P + 1 (Room), and at most N + 2P - 1 nodes are in use (Busy), one less than K must be.
module _ {m : Machine} (r : Reached m) where
  pub count_limit : (i : ℕ) → i < m.k → get_or m.counts i 0 ≤ m.p + 1
  count_limit = count_most m (reached_kept r)

  pub used_limit : used m + 1 ≤ m.n + 2 * m.p
  used_limit = busy_most r

-- in case 10 node 0, which the cell points at and both tasks hold, has the count P + 1 = 3 (Sharp)
pub count_limit_met : get_or (applied Small.fresh Small.case10).counts 0 0 ≡ 3
count_limit_met = Sharp.count_met

-- and after task 1's store N + 2P - 1 = 4 nodes are in use (Sharp)
pub used_limit_met : used (applied Small.fresh (Small.case10 ++ Small.gos 7 1)) ≡ 4
used_limit_met = Sharp.busy_met

-- HOW MANY NODES ARE FREE, of every record reached: the number that the record keeps is the full count, node by node, of those below K whose count
-- is 0; and so is the answer to the question, which looks at no count (Free)
module _ {m : Machine} (r : Reached m) where
  pub free_kept : m.free ≡ free m
  free_kept = (reached_kept r).free_counted

  pub free-told : free_nodes m ≡ Ok (free m)
  free-told = told_free m (reached_kept r)

  -- a run that asks after every entry it tries notes the full counts, as far as there is room for them
  pub free_noted : (s : List ℕ) (room : ℕ) (frees : List ℕ) → length s ≤ 65530 → 8 * entries_in s ≤ room → (i : ℕ) → i < length (tried m (entries_of s)) → i < length frees
      → get_or (noted_of m s room frees) i 0 ≡ free (applied m (take (suc i) (tried m (entries_of s))))
  free_noted s room frees = notes_free m s room frees (reached_kept r)

-- WHAT A COUNT IS, for whoever asks what a node is owed: the cells, owners and holders that document 01's holders question counts (Counts).
pub node_owed : {m : Machine} → Reached m → (i : ℕ) → i < m.k
    → get_or m.counts i 0
    ≡ tally (points i) m.n m.cells + tally (owns i) m.p m.tasks + tally (swapped i) m.p m.tasks + holders_value (held_among m.tasks m.p (node_no i))
node_owed = count_is
