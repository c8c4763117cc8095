-- A contract allows one result: for arguments that meet its `requires`, any two results that its `ensures` allows are equal, and so is what
-- each lent place holds when the function returns. It is said over a function's own generated reading, so it can't drift from the source.
use Rattle.std.specs.Prelude.{ℕ, ◌≡◌, List}
use contract.Lifetimes.{Lfts}
use borrow.Fn.Kinds.{ParamKind, ResultKind, In, Out, Dens, res_t, ended_of}
use denote.Triple.Clauses.{Lasts, at_exit}

abbrev pub One : {n : ℕ} (ps : List (ParamKind n)) (r : ResultKind n) → In n ps → Out n ps r → Type 0
One {n} ps r Pre Post =
    (κs : Lfts n) (a : Dens κs ps) (z z' : (res_t r κs).Denot) (ws ws' : Lasts (ended_of n ps r) κs a) → Pre κs a
    → Post κs a z (at_exit (ended_of n ps r) κs a ws) → Post κs a z' (at_exit (ended_of n ps r) κs a ws') → (z ≡ z') × (ws ≡ ws')
