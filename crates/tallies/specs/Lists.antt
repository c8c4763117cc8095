-- A test of every number below n, and a list whose first n places are filled.
use Rattle.std.specs.Prelude.{ℕ, zero, suc, Bool, true, false, cond, List, leb, set}

-- a ≤ n ≤ b
abbrev pub within : ℕ → ℕ → ℕ → Bool
within a b n = cond (leb a n) (leb n b) false

-- f holds of every number below n
unfoldable pub every : (ℕ → Bool) → ℕ → Bool
every f zero = true
every f (suc n) = cond (f n) (every f n) false

-- l with f i at each place i below n
unfoldable pub fill_to {ℓ} : {A : Type ℓ} → (ℕ → A) → ℕ → List A → List A
fill_to f zero l = l
fill_to f (suc n) l = set (fill_to f n l) n (f n)
