-- Laws of one entry of a run and of what is left of it, over plain variables. Assumes nothing.
use Prim.Native.Nat.{ℕ, suc, ◌+◌, ◌-◌, ◌*◌, ◌≤◌, ◌<◌}
use mathlib.Core.Path.{◌≡◌, refl, ap, ◌∙◌}
use mathlib.Core.Bool.{true, false, and-true, ◌&&◌}
use lib.Dec.{eqb}
use Rattle.tallies.specs.Lists.{within}
use Rattle.answers.specs.Numbers.{number_of}
use mathlib.Core.List.{List, [], ◌∷◌, ◌++◌}
use native.Mathlib.Omega.{arith}
use lib.ListN.{take, drop}
use lib.Seq.{drop-drop}
use Rattle.tallies.proofs.Tally.{bit_le}
use Rattle.cells.specs.Apply.{apply_of}
use Rattle.runs.specs.Types.{Machine, Report}
use Rattle.runs.specs.Counts.{accepted, kind_of, task_of}
use Rattle.entries.specs.Schedule.{cut}
use Rattle.runs.specs.Run.{counted, refused_at, ran_from, reply_bytes, replies_from}
use Rattle.runs.specs.OneEntry.{load_begun, load_step, went_of, counted_by, Few}

-- an accepted entry counts by its kind and its task's phases
pub counted_by_lem : (m : Machine) (e : List ℕ) (r : Report) → accepted (apply_of m e).answer ≡ true
    → counted m e r ≡ counted_by r (kind_of e) (task_of m e).phase (task_of (apply_of m e).machine e).phase
unfolding counted_by load_step went_of
counted_by_lem m e r h = simp (h, and-true)

-- an entry is at most one load begun, one load step, one turned-back check, one swap
pub begun_le : (kind : ℕ) → load_begun kind ≤ 1
begun_le kind = bit_le (eqb kind 1)

pub step_le : (kind f : ℕ) → load_step kind f ≤ 1
unfolding load_step
step_le kind f = bit_le (eqb kind 0 && within 1 5 f)

pub went_le : (a b kind f f' : ℕ) → went_of a b kind f f' ≤ 1
unfolding went_of
went_le a b kind f f' = bit_le (eqb kind 0 && eqb f a && eqb f' b)

pub few_more : (k : ℕ) (r : Report) (kind f f' : ℕ) → Few k r → Few (k + 1) (counted_by r kind f f')
unfolding counted_by
few_more k r kind f f' few =
    record {
      accepted = omega (arith, few.accepted);
      loads = omega (arith, few.loads, begun_le kind);
      load_steps = omega (arith, few.load_steps, step_le kind f);
      turned_back = omega (arith, few.turned_back, went_le 3 5 kind f f');
      swaps = omega (arith, few.swaps, went_le 8 9 kind f f');
    }

-- of n entries i were taken: the next one, and those after it
pub cut-next : (n i : ℕ) (s : List ℕ) → i < n → cut (n - i) (drop (10 * i) s) ≡ take 10 (drop (10 * i) s) ∷ cut (n - (i + 1)) (drop (10 * (i + 1)) s)
unfolding cut
cut-next n i s h =
    let e : n - i ≡ suc (n - (i + 1)) = omega arith in
    let d : 10 * i + 10 ≡ 10 * (i + 1) = omega arith in
    rw e (ap (λ (l : List ℕ). take 10 (drop (10 * i) s) ∷ cut (n - (i + 1)) l) (drop-drop 10 (10 * i) s ∙ ap (λ (k : ℕ). drop k s) d))

pub cut-none : (n : ℕ) (s : List ℕ) → cut (n - n) s ≡ []
unfolding cut
cut-none n s = let e : n - n ≡ 0 = omega arith in rw e

-- a run goes on after an accepted entry, stops at a refused one, and ends where no entry is left
module _ (m : Machine) (r : Report) (e : List ℕ) (es : List (List ℕ)) where
  pub ran_on : accepted (apply_of m e).answer ≡ true → ran_from m r (e ∷ es) ≡ ran_from (apply_of m e).machine (counted m e r) es
  unfolding ran_from
  ran_on h = rw h

  pub ran_stops : accepted (apply_of m e).answer ≡ false → ran_from m r (e ∷ es) ≡ record { machine = (apply_of m e).machine; report = refused_at (number_of (apply_of m e).answer) r }
  unfolding ran_from
  ran_stops h = rw h

  pub replies_on : accepted (apply_of m e).answer ≡ true → replies_from m (e ∷ es) ≡ reply_bytes (apply_of m e) ++ replies_from (apply_of m e).machine es
  unfolding replies_from
  replies_on h = rw h

  pub replies_stop : accepted (apply_of m e).answer ≡ false → replies_from m (e ∷ es) ≡ reply_bytes (apply_of m e)
  unfolding replies_from
  replies_stop h = rw h

pub ran_ends : (m : Machine) (r : Report) → ran_from m r [] ≡ record { machine = m; report = r }
unfolding ran_from
ran_ends m r = refl

pub replies_end : (m : Machine) → replies_from m [] ≡ []
unfolding replies_from
replies_end m = refl

pub few_le : (k n : ℕ) (r : Report) → k ≤ n → Few k r → Few n r
few_le k n r h few =
    record {
      accepted = omega (arith, few.accepted);
      loads = omega (arith, few.loads);
      load_steps = omega (arith, few.load_steps);
      turned_back = omega (arith, few.turned_back);
      swaps = omega (arith, few.swaps);
    }
