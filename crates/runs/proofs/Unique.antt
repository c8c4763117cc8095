-- Any two results that a public function's contract allows are equal, and so is what a lent place holds when the function returns. Assumes nothing.
use mathlib.Core.Path.{sym, ◌∙◌}
use Rattle.contracts.specs.One.{One}
use Rattle.runs.proofs.run.Kinds as run·k
use Rattle.runs.proofs.run.Reads as run
use Rattle.runs.proofs.run_free.Kinds as run-free·k
use Rattle.runs.proofs.run_free.Reads as run-free
use Rattle.runs.proofs.run_input.Kinds as run-input·k
use Rattle.runs.proofs.run_input.Reads as run-input

-- the result with its record and six numbers, and every byte of the reply buffer
pub run_one : One run·k.ps run·k.r run.Pre run.Post
run_one κs a z z' ws ws' p q q' = (q.0 ∙ sym q'.0, λ i. (ws.0, (ws.1.0, ((q.1 ∙ sym q'.1) i, ws.1.1.1))))

-- and every byte of the buffer for the free nodes
pub run_free_one : One run-free·k.ps run-free·k.r run-free.Pre run-free.Post
run_free_one κs a z z' ws ws' p q q' = (q.0 ∙ sym q'.0, λ i. (ws.0, (ws.1.0, ((q.1 ∙ sym q'.1) i, ((q.2 ∙ sym q'.2) i, ws.1.1.1.1)))))

pub run_input_one : One run-input·k.ps run-input·k.r run-input.Pre run-input.Post
run_input_one κs a z z' ws ws' p q q' = (q.0 ∙ sym q'.0, λ i. (ws.0, ((q.1 ∙ sym q'.1) i, ((q.2 ∙ sym q'.2) i, ws.1.1.1))))
