-- What the exported functions give and write, by the definitions of a setup, a run and a text.
use Rattle.std.specs.Prelude.{ℕ, List, drop, Result, Ok, Err}
use Rattle.cells.specs.declared.Machine.{Machine}
use Rattle.cells.specs.Setup.{setup_of, setup_number, setup_bytes}
use Rattle.runs.specs.Run.{six_of, ran_of}
use Rattle.answers.specs.declared.Refusal.{Refusal}

-- the number of a setup's refusal, 0 for none; the bytes that it used
abbrev pub setup_refusal : List ℕ → ℕ
setup_refusal input = setup_number (setup_of input).answer

abbrev pub setup_used : List ℕ → ℕ
setup_used input = setup_bytes (setup_of input).answer

-- the six numbers of a run of what follows the setup; as they were, if the setup is refused
abbrev pub numbers_by : Result ℕ Refusal → Machine → List ℕ → ℕ → List ℕ → List ℕ
numbers_by (Ok used) m input room old = six_of (ran_of m (drop used input) room).report
numbers_by (Err r) m input room old = old

abbrev pub numbers_after : List ℕ → ℕ → List ℕ → List ℕ
numbers_after input room old = numbers_by (setup_of input).answer (setup_of input).machine input room old

-- how many bytes an import or an export wrote; as it was, if that is refused
abbrev pub written_by : Result ℕ Refusal → ℕ → ℕ
written_by (Ok n) old = n
written_by (Err r) old = old
