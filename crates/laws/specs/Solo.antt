-- A task alone: its running call ends within n of its own steps.
use Rattle.std.specs.Prelude.{ℕ, zero, suc, ◌≡◌, ◌⊎◌, Ok, Err}
use Rattle.cells.specs.Apply.{apply_of}
use Rattle.laws.specs.Types.{Answer, Moved, Loaded, Took, Lost, Released, Good, Gone, Machine}
use Rattle.laws.specs.Bytes.{go}

-- a reply that ends a call
abbrev pub Finished : Answer → Type 0
Finished (Ok Moved) = ⊥
Finished (Ok (Loaded v)) = Unit {0}
Finished (Ok Took) = Unit {0}
Finished (Ok Lost) = Unit {0}
Finished (Ok Released) = Unit {0}
Finished (Ok Good) = Unit {0}
Finished (Ok Gone) = Unit {0}
Finished (Err r) = ⊥

-- task p's first go, or its second, .. or its n-th ends its call, and each before moves it
unfoldable pub Within : ℕ → Machine → ℕ → Type 0
Within zero m p = ⊥
Within (suc n) m p =
    Finished (apply_of m (go p)).answer ⊎ (((apply_of m (go p)).answer ≡ Ok Moved) × Within n (apply_of m (go p)).machine p)
