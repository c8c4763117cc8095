-- Any two results that a function's contract allows are equal, and so is what a lent place holds when the function returns. Assumes nothing.
use mathlib.Core.Path.{refl, sym, ◌∙◌}
use Rattle.contracts.specs.One.{One}
use Rattle.kemilunda.proofs.kemilunda_setup.Kinds as setup·k
use Rattle.kemilunda.proofs.kemilunda_setup.Reads as setup
use Rattle.kemilunda.proofs.kemilunda_setup_bytes.Kinds as bytes·k
use Rattle.kemilunda.proofs.kemilunda_setup_bytes.Reads as bytes
use Rattle.kemilunda.proofs.kemilunda_run.Kinds as run·k
use Rattle.kemilunda.proofs.kemilunda_run.Reads as run
use Rattle.kemilunda.proofs.kemilunda_run_free.Kinds as run-free·k
use Rattle.kemilunda.proofs.kemilunda_run_free.Reads as run-free
use Rattle.kemilunda.proofs.kemilunda_import.Kinds as import·k
use Rattle.kemilunda.proofs.kemilunda_import.Reads as import
use Rattle.kemilunda.proofs.kemilunda_export.Kinds as export·k
use Rattle.kemilunda.proofs.kemilunda_export.Reads as export

pub setup_one : One setup·k.ps setup·k.r setup.Pre setup.Post
setup_one κs a z z' ws ws' p q q' = (q ∙ sym q', refl)

pub setup_bytes_one : One bytes·k.ps bytes·k.r bytes.Pre bytes.Post
setup_bytes_one κs a z z' ws ws' p q q' = (q ∙ sym q', refl)

-- the result, every byte of the replies, and the six numbers
pub run_one : One run·k.ps run·k.r run.Pre run.Post
run_one κs a z z' ws ws' p q q' = (q.0 ∙ sym q'.0, λ i. (ws.0, ((q.1 ∙ sym q'.1) i, ((q.2 ∙ sym q'.2) i, ws.1.1.1))))

-- and every number of free nodes
pub run_free_one : One run-free·k.ps run-free·k.r run-free.Pre run-free.Post
run_free_one κs a z z' ws ws' p q q' = (q.0 ∙ sym q'.0, λ i. (ws.0, ((q.1 ∙ sym q'.1) i, ((q.2 ∙ sym q'.2) i, ((q.3 ∙ sym q'.3) i, ws.1.1.1.1)))))

-- the result, every byte of the output, and the length
pub import_one : One import·k.ps import·k.r import.Pre import.Post
import_one κs a z z' ws ws' p q q' = (q.0 ∙ sym q'.0, λ i. (ws.0, ((q.1 ∙ sym q'.1) i, ((q.2 ∙ sym q'.2) i, ws.1.1.1))))

pub export_one : One export·k.ps export·k.r export.Pre export.Post
export_one κs a z z' ws ws' p q q' = (q.0 ∙ sym q'.0, λ i. (ws.0, ((q.1 ∙ sym q'.1) i, ((q.2 ∙ sym q'.2) i, ws.1.1.1))))
