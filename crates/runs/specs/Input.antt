-- A setup and its schedule in one input: what a refused setup gives, and what an accepted one's run does with the bytes that follow it.
use Rattle.std.specs.Prelude.{ℕ, List, drop, Result, Ok, Err}
use Rattle.cells.specs.Setup.{setup_of}
use Rattle.runs.specs.Types.{Machine}
use Rattle.runs.specs.Run.{ran_of, buffer_of, noted_of}
use Rattle.answers.specs.declared.Refusal.{Refusal}
use Rattle.runs.specs.declared.Report.{Report}

-- the setup's refusal, or the report of the run
abbrev pub outcome_by : Result ℕ Refusal → Machine → List ℕ → ℕ → Result Report Refusal
outcome_by (Ok used) m input room = Ok (ran_of m (drop used input) room).report
outcome_by (Err r) m input room = Err r

abbrev pub outcome_of : List ℕ → ℕ → Result Report Refusal
outcome_of input room = outcome_by (setup_of input).answer (setup_of input).machine input room

-- the reply buffer after a run of what follows the setup; as it was, if the setup is refused
abbrev pub replies_by : Result ℕ Refusal → Machine → List ℕ → List ℕ → List ℕ
replies_by (Ok used) m input out = buffer_of m (drop used input) out
replies_by (Err r) m input out = out

abbrev pub replies_after : List ℕ → List ℕ → List ℕ
replies_after input out = replies_by (setup_of input).answer (setup_of input).machine input out

-- the buffer for the numbers of free nodes after that run; as it was, if the setup is refused
abbrev pub free_nodes_by : Result ℕ Refusal → Machine → List ℕ → ℕ → List ℕ → List ℕ
free_nodes_by (Ok used) m input room free = noted_of m (drop used input) room free
free_nodes_by (Err r) m input room free = free

abbrev pub free_nodes_after : List ℕ → ℕ → List ℕ → List ℕ
free_nodes_after input room free = free_nodes_by (setup_of input).answer (setup_of input).machine input room free
