-- An export has the theorem of the library's function, since the two promise the same: any two results that its contract allows are equal, and so is what a lent
-- place holds when it returns. Assumes nothing.
use Rattle.contracts.specs.One.{One}
use Rattle.kemilunda.proofs.Unique as library
use Rattle.kemilunda_c.proofs.kemilunda_setup.Kinds as setup·k
use Rattle.kemilunda_c.proofs.kemilunda_setup.Reads as setup
use Rattle.kemilunda_c.proofs.kemilunda_setup_bytes.Kinds as bytes·k
use Rattle.kemilunda_c.proofs.kemilunda_setup_bytes.Reads as bytes
use Rattle.kemilunda_c.proofs.kemilunda_run.Kinds as run·k
use Rattle.kemilunda_c.proofs.kemilunda_run.Reads as run
use Rattle.kemilunda_c.proofs.kemilunda_run_free.Kinds as run-free·k
use Rattle.kemilunda_c.proofs.kemilunda_run_free.Reads as run-free
use Rattle.kemilunda_c.proofs.kemilunda_import.Kinds as import·k
use Rattle.kemilunda_c.proofs.kemilunda_import.Reads as import
use Rattle.kemilunda_c.proofs.kemilunda_export.Kinds as export·k
use Rattle.kemilunda_c.proofs.kemilunda_export.Reads as export

pub setup_one : One setup·k.ps setup·k.r setup.Pre setup.Post
setup_one = library.setup_one

pub setup_bytes_one : One bytes·k.ps bytes·k.r bytes.Pre bytes.Post
setup_bytes_one = library.setup_bytes_one

-- the result, every byte of the replies, and the six numbers
pub run_one : One run·k.ps run·k.r run.Pre run.Post
run_one = library.run_one

-- and every number of free nodes
pub run_free_one : One run-free·k.ps run-free·k.r run-free.Pre run-free.Post
run_free_one = library.run_free_one

-- the result, every byte of the output, and the length
pub import_one : One import·k.ps import·k.r import.Pre import.Post
import_one = library.import_one

pub export_one : One export·k.ps export·k.r export.Pre export.Post
export_one = library.export_one
