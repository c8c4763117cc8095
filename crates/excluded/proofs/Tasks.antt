-- Wrong answers of a record's copy that its contract rules out. Assumes nothing.
use native.Mathlib.Omega.{arith}
use mathlib.Core.Path.{◌≡◌, ap}
use Rattle.tasks.specs.declared.Task.{Task}
use Rattle.tasks.proofs.Task.copied.Reads as copied
use Rattle.excluded.specs.Records.{at}

module _ (z : Task) where
  -- a copy in which the cursor is left out
  pub copy_drops_cursor : copied.Post tt (at 12, tt) z (at 12, tt) → z.cursor.0 ≡ 0 → ⊥
  copy_drops_cursor q h = omega (arith, ap (λ t. t.cursor.0) q, h)

  -- a copy that is idle, whatever the task was at
  pub copy_starts_anew : copied.Post tt (at 12, tt) z (at 12, tt) → z.phase ≡ 0 → ⊥
  copy_starts_anew q h = omega (arith, ap (λ t. t.phase) q, h)

  -- a copy in which m and the own node have changed places
  pub copy_exchanges_nodes : copied.Post tt (at 6, tt) z (at 6, tt) → z.held.0 ≡ 1 → ⊥
  copy_exchanges_nodes q h = omega (arith, ap (λ t. t.held.0) q, h)
