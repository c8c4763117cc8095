-- For theorems about wrong answers: a lent place, and two answers that can't be one.
use Rattle.std.specs.Prelude.{ℕ, ◌≡◌}
use Rattle.std.proofs.Common.{arith}
use Rattle.std.specs.Borrow.{Bor, MutBor}

-- a reference to x; no contract here depends on where it points
abbrev pub lent : {A : Type 0} → A → Bor A
lent x = record { ref_ptr = (0, 0); now = x }

-- the same of a reference to a place that the function may write
abbrev pub lent_mut : {A : Type 0} → A → MutBor A
lent_mut x = record { ref_ptr = (0, 0); ghost_name = 0; now = x }

-- for `never cc`: an equation of two constructors proves every equation
pub never : ◌≡◌ {A = ℕ} 0 1 → ⊥
never e = omega arith
