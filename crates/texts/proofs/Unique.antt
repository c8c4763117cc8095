-- Any two results that a public function's contract allows are equal, and so is what a lent place holds when the function returns. Assumes nothing.
use mathlib.Core.Path.{refl, sym, ◌∙◌}
use Rattle.contracts.specs.One.{One}
use Rattle.texts.proofs.text_number.Kinds as text-number·k
use Rattle.texts.proofs.text_number.Reads as text-number
use Rattle.texts.proofs.text_bytes.Kinds as text-bytes·k
use Rattle.texts.proofs.text_bytes.Reads as text-bytes
use Rattle.texts.proofs.import.Kinds as import·k
use Rattle.texts.proofs.import.Reads as import
use Rattle.texts.proofs.export.Kinds as export·k
use Rattle.texts.proofs.export.Reads as export

pub text_number_one : One text-number·k.ps text-number·k.r text-number.Pre text-number.Post
text_number_one κs a z z' ws ws' p q q' = (q ∙ sym q', refl)

pub text_bytes_one : One text-bytes·k.ps text-bytes·k.r text-bytes.Pre text-bytes.Post
text_bytes_one κs a z z' ws ws' p q q' = (q ∙ sym q', refl)

pub import_one : One import·k.ps import·k.r import.Pre import.Post
import_one κs a z z' ws ws' p q q' = (q.0 ∙ sym q'.0, λ i. (ws.0, ((q.1 ∙ sym q'.1) i, ws.1.1)))

pub export_one : One export·k.ps export·k.r export.Pre export.Post
export_one κs a z z' ws ws' p q q' = (q.0 ∙ sym q'.0, λ i. (ws.0, ((q.1 ∙ sym q'.1) i, ws.1.1)))
