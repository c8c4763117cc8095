-- One entry of a run, as the private functions say it: what it counts for by its kind and its task's phase before (f) and after (f').
use Rattle.std.specs.Prelude.{ℕ, ◌+◌, ◌≤◌, ◌&&◌, eqb}
use Rattle.tallies.specs.Lists.{within}
use Rattle.tallies.specs.Tally.{bit}
use Rattle.runs.specs.Types.{Report}

abbrev pub load_begun : ℕ → ℕ
load_begun kind = bit (eqb kind 1)

unfoldable pub load_step : ℕ → ℕ → ℕ
load_step kind f = bit (eqb kind 0 && within 1 5 f)

-- a go that goes from phase a to phase b
unfoldable pub went_of : ℕ → ℕ → ℕ → ℕ → ℕ → ℕ
went_of a b kind f f' = bit (eqb kind 0 && eqb f a && eqb f' b)

unfoldable pub counted_by : Report → ℕ → ℕ → ℕ → Report
counted_by r kind f f' =
    record {
      accepted = r.accepted + 1;
      refusal = r.refusal;
      loads = r.loads + load_begun kind;
      load_steps = r.load_steps + load_step kind f;
      turned_back = r.turned_back + went_of 3 5 kind f f';
      swaps = r.swaps + went_of 8 9 kind f f';
    }

-- no number of the report is above k
pub record Few (k : ℕ) (r : Report) : Type 0 where
  pub accepted : r.accepted ≤ k
  pub loads : r.loads ≤ k
  pub load_steps : r.load_steps ≤ k
  pub turned_back : r.turned_back ≤ k
  pub swaps : r.swaps ≤ k
