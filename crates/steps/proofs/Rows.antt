-- The row that a known phase picks. Assumes nothing.
use Prim.Native.Nat.{ℕ, ◌≤◌}
use mathlib.Core.Path.{◌≡◌, refl}
use mathlib.Core.Logic.{◌⊎◌, inl, inr}
use lib.ListN.{get_or, get_or-eq_default}
use Rattle.steps.specs.Types.{Task, Seen}
use Rattle.steps.specs.Table.{rows, no_phase, effect_of}

pub effect_at : (t : Task) (s : Seen) (n : ℕ) → t.phase ≡ n → effect_of t s ≡ get_or rows n no_phase t s
unfolding effect_of
effect_at t s n e = rw e refl

-- 10 and the numbers past 15 are no phases
pub effect_no_phase : (t : Task) (s : Seen) → (t.phase ≡ 10) ⊎ (16 ≤ t.phase) → effect_of t s ≡ no_phase t s
unfolding effect_of rows
effect_no_phase t s (inl e) = rw e refl
effect_no_phase t s (inr h) = rw (get_or-eq_default rows no_phase h)
