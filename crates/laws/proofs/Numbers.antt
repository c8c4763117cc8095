-- A run's record and its six numbers are those of the entries that it tried. Assumes nothing.
use Rattle.std.specs.Prelude.{Ok, Err}
use Prim.Native.Nat.{ℕ, ◌+◌, ◌*◌, ◌≤◌}
use native.Mathlib.Omega.{arith}
use native.Mathlib.Nat.{zero-add, add-zero, add_assoc}
use mathlib.Core.Path.{◌≡◌, refl, sym, ap, ◌∙◌}
use mathlib.Core.Bool.{Bool, true, false, cond, not, false≢true}
use mathlib.Core.List.{List, [], ◌∷◌, ◌++◌}
use lib.Dec.{eqb, ltb}
use lib.ListN.{length}
use borrow.Author.Tests.{le-ltb}
use Rattle.tallies.proofs.Lists.{either}
use Rattle.answers.specs.Numbers.{number_of}
use Rattle.cells.specs.Machine.{in_range}
use Rattle.cells.specs.Apply.{apply_of}
use Rattle.runs.specs.Counts.{accepted, anywhere, loads_at, steps_at, turned_at, swaps_at}
use Rattle.entries.specs.Schedule.{entries_in, entries_of}
use Rattle.runs.specs.Run.{report_of, counted, refused_at, ran_from, ran_of}
use Rattle.laws.specs.Types.{Answer, Machine, Report, Ran}
use Rattle.laws.specs.Schedules.{applied, over, tried}
use Rattle.laws.specs.Numbers.{accepted_at, refusal_in, last_refusal, numbers_of, start_refusal, tried_by, tried_all, over_runs}

-- a schedule in two parts
pub over-append : (f : Machine → List ℕ → ℕ) (es es' : List (List ℕ)) (m : Machine) → over f m (es ++ es') ≡ over f m es + over f (applied m es) es'
unfolding over applied
over-append f [] es' m = omega arith
over-append f (e ∷ es) es' m = omega (arith, over-append f es es' (apply_of m e).machine)

taken : (a : Answer) → accepted a ≡ true → refusal_in a ≡ 0
taken (Ok r) h = refl
taken (Err r) h = absurd (false≢true h)

given : (a : Answer) → accepted a ≡ false → refusal_in a ≡ number_of a
given (Ok r) h = absurd (false≢true (sym h))
given (Err r) h = refl

-- the numbers of a schedule on top of those counted before it; n where no entry is refused
abbrev ended : ℕ → Machine → Report → List (List ℕ) → Ran
ended n m r es =
    record {
      machine = applied m es;
      report = record {
        accepted = r.accepted + over accepted_at m es;
        refusal = last_refusal n m es;
        loads = r.loads + over (loads_at anywhere) m es;
        load_steps = r.load_steps + over (steps_at anywhere) m es;
        turned_back = r.turned_back + over (turned_at anywhere) m es;
        swaps = r.swaps + over (swaps_at anywhere) m es;
      };
    }

from_there : (es : List (List ℕ)) (m : Machine) (r : Report) → ran_from m (refused_at 0 r) es ≡ ended 0 m r (tried m es)
unfolding ran_from applied over tried last_refusal
from_there [] m r = simp add-zero
from_there (e ∷ es) m r =
    let a = apply_of m e in
    either (λ b. cond b (ran_from a.machine (refused_at 0 (counted m e r)) es) (record { machine = a.machine; report = refused_at (number_of a.answer) r })
    ≡ ended 0 m r (e ∷ cond b (tried a.machine es) []))
    (accepted a.answer)
    (λ q. from_there es a.machine (counted m e r)
    ∙ ap (λ (n : ℕ). ended n a.machine (counted m e r) (tried a.machine es)) (sym (taken a.answer q)) ∙ simp (q, add_assoc))
    (λ q. simp (q, given a.answer q, add-zero))

-- a run that starts: its record is what the entries that it tries leave, and its six numbers are theirs
pub run_starts : (m : Machine) (s : List ℕ) (room : ℕ) → in_range m ≡ true → length s ≤ 65530 → 8 * entries_in s ≤ room
    → ran_of m s room ≡ record { machine = applied m (tried m (entries_of s)); report = numbers_of 0 m (tried m (entries_of s)) }
unfolding ran_of
run_starts m s room q h k = rw (q, le-ltb 65530 (length s) h, le-ltb room (8 * entries_in s) k) (from_there (entries_of s) m (report_of 0) ∙ simp zero-add)

-- any run: its record is what the entries that it tried leave, and its six numbers are theirs
pub run_is : (m : Machine) (s : List ℕ) (room : ℕ)
    → ran_of m s room ≡ record { machine = applied m (tried_by m s room); report = numbers_of (start_refusal m s room) m (tried_by m s room) }
unfolding ran_of tried_by start_refusal applied over last_refusal
run_is m s room =
    either (λ a. Is (cond a (none 22) (cond long (none 23) (cond small (none 21) all))) (cond a 22 (cond long 23 (cond small 21 0)))) (not (in_range m)) (λ q. refl)
    (λ q. either (λ b. Is (cond b (none 23) (cond small (none 21) all)) (cond b 23 (cond small 21 0))) long (λ q. refl)
    (λ q. either (λ c. Is (cond c (none 21) all) (cond c 21 0)) small (λ q. refl) (λ q. from_there (entries_of s) m (report_of 0) ∙ simp zero-add)))
  where
    none : ℕ → Ran
    none n = record { machine = m; report = report_of n }

    all : Ran
    all = ran_from m (report_of 0) (entries_of s)

    long : Bool
    long = ltb 65530 (length s)

    small : Bool
    small = ltb room (8 * entries_in s)

    Is : Ran → ℕ → Type 0
    Is r n = let es = cond (eqb n 0) (tried m (entries_of s)) [] in r ≡ record { machine = applied m es; report = numbers_of n m es }

-- a run's record is what the entries that it tried leave
ran_to : (m : Machine) (s : List ℕ) (room : ℕ) → applied m (tried_by m s room) ≡ (ran_of m s room).machine
ran_to m s room = rw (run_is m s room)

-- a chain of runs: a number of theirs, added up, is that of the entries that they tried
adds_up : (f : Report → ℕ) (g : Machine → List ℕ → ℕ) → ((m : Machine) (s : List ℕ) (room : ℕ) → f (ran_of m s room).report ≡ over g m (tried_by m s room))
    → (rs : List (List ℕ × ℕ)) (m : Machine) → over_runs f m rs ≡ over g m (tried_all m rs)
unfolding over_runs tried_all over
adds_up f g h [] m = refl
adds_up f g h (r ∷ rs) m =
    let m' = (ran_of m r.0 r.1).machine in
    omega (arith, h m r.0 r.1, adds_up f g h rs m', rw (ran_to m r.0 r.1) at (over-append g (tried_by m r.0 r.1) (tried_all m' rs) m))

module _ (rs : List (List ℕ × ℕ)) (m : Machine) where
  pub chain_loads : over_runs (λ r. r.loads) m rs ≡ over (loads_at anywhere) m (tried_all m rs)
  chain_loads = adds_up (λ r. r.loads) (loads_at anywhere) (λ m s room. rw (run_is m s room)) rs m

  pub chain_steps : over_runs (λ r. r.load_steps) m rs ≡ over (steps_at anywhere) m (tried_all m rs)
  chain_steps = adds_up (λ r. r.load_steps) (steps_at anywhere) (λ m s room. rw (run_is m s room)) rs m

  pub chain_swaps : over_runs (λ r. r.swaps) m rs ≡ over (swaps_at anywhere) m (tried_all m rs)
  chain_swaps = adds_up (λ r. r.swaps) (swaps_at anywhere) (λ m s room. rw (run_is m s room)) rs m
