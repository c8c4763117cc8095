-- A store that moves alone ends within N + 2P + 3 steps, as its closer bound says (Solo). Assumes nothing.
use Prim.Native.Nat.{ℕ, ◌+◌, ◌*◌, ◌<◌}
use native.Mathlib.Omega.{arith}
use lib.Dec.{T}
use Rattle.tasks.specs.Phases.{storing}
use Rattle.laws.specs.Types.{Machine}
use Rattle.laws.specs.Kept.{Kept}
use Rattle.laws.specs.Solo.{Within}
use Rattle.laws.proofs.Keeps.{task}
use Rattle.laws.proofs.Solo.{more, store_sooner}

-- (here and not in Solo: a must-fail edit turns the closer bound there, and what rests on it in the same file would make that edit a bad one)
module _ (p : ℕ) (m : Machine) (K : Kept m) (hp : p < m.p) where
  pub store_solo : T (storing (task m p).phase) → Within (m.n + 2 * m.p + 3) m p
  store_solo b = more (m.n + 2 * m.p + 2) (m.n + 2 * m.p + 3) m p (omega arith) (store_sooner p m K hp b)
