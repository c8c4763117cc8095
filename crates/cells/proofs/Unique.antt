-- Any two results that a public function's contract allows are equal, and so is what a lent place holds when the function returns. Assumes nothing.
use mathlib.Core.Path.{refl, sym, ◌∙◌}
use Rattle.contracts.specs.One.{One}
use Rattle.cells.proofs.seen.Kinds as seen-lent·k
use Rattle.cells.proofs.seen.Reads as seen-lent
use Rattle.cells.proofs.tables_ok.Kinds as tables-lent·k
use Rattle.cells.proofs.tables_ok.Reads as tables-lent
use Rattle.cells.proofs.Machine.seen.Kinds as seen·k
use Rattle.cells.proofs.Machine.seen.Reads as seen
use Rattle.cells.proofs.Machine.tables_ok.Kinds as tables-ok·k
use Rattle.cells.proofs.Machine.tables_ok.Reads as tables-ok
use Rattle.cells.proofs.write_cells.Kinds as write-cells·k
use Rattle.cells.proofs.write_cells.Reads as write-cells
use Rattle.cells.proofs.write_values.Kinds as write-values·k
use Rattle.cells.proofs.write_values.Reads as write-values
use Rattle.cells.proofs.write_counts.Kinds as write-counts·k
use Rattle.cells.proofs.write_counts.Reads as write-counts
use Rattle.cells.proofs.write_free.Kinds as write-free·k
use Rattle.cells.proofs.write_free.Reads as write-free
use Rattle.cells.proofs.free.free_nodes.Kinds as free-nodes·k
use Rattle.cells.proofs.free.free_nodes.Reads as free-nodes
use Rattle.cells.proofs.free.free_number.Kinds as free-number·k
use Rattle.cells.proofs.free.free_number.Reads as free-number
use Rattle.cells.proofs.free.free_value.Kinds as free-value·k
use Rattle.cells.proofs.free.free_value.Reads as free-value
use Rattle.cells.proofs.Machine.task.Kinds as task·k
use Rattle.cells.proofs.Machine.task.Reads as task
use Rattle.cells.proofs.Machine.carry.Kinds as carry·k
use Rattle.cells.proofs.Machine.carry.Reads as carry
use Rattle.cells.proofs.start.blank.Kinds as blank·k
use Rattle.cells.proofs.start.blank.Reads as blank
use Rattle.cells.proofs.Machine.task_at.Kinds as task-at·k
use Rattle.cells.proofs.Machine.task_at.Reads as task-at
use Rattle.cells.proofs.Machine.in_range.Kinds as in-range·k
use Rattle.cells.proofs.Machine.in_range.Reads as in_range_lem
use Rattle.cells.proofs.Machine.apply.Kinds as apply·k
use Rattle.cells.proofs.Machine.apply.Reads as apply
use Rattle.cells.proofs.Machine.holders.Kinds as holders·k
use Rattle.cells.proofs.Machine.holders.Reads as holders
use Rattle.cells.proofs.Machine.setup.Kinds as setup·k
use Rattle.cells.proofs.Machine.setup.Reads as setup
use Rattle.cells.proofs.start.read_head.Kinds as read-head·k
use Rattle.cells.proofs.start.read_head.Reads as read_head
use Rattle.cells.proofs.start.fill.Kinds as fill·k
use Rattle.cells.proofs.start.fill.Reads as fill
use Rattle.cells.proofs.setup_number.Kinds as setup-number·k
use Rattle.cells.proofs.setup_number.Reads as setup-number
use Rattle.cells.proofs.setup_bytes.Kinds as setup-bytes·k
use Rattle.cells.proofs.setup_bytes.Reads as setup-bytes

pub seen_lent_one : One seen-lent·k.ps seen-lent·k.r seen-lent.Pre seen-lent.Post
seen_lent_one κs a z z' ws ws' p q q' = (q ∙ sym q', refl)

pub tables_ok_lent_one : One tables-lent·k.ps tables-lent·k.r tables-lent.Pre tables-lent.Post
tables_ok_lent_one κs a z z' ws ws' p q q' = (q ∙ sym q', refl)

pub seen_one : One seen·k.ps seen·k.r seen.Pre seen.Post
seen_one κs a z z' ws ws' p q q' = (q ∙ sym q', refl)

pub tables_ok_one : One tables-ok·k.ps tables-ok·k.r tables-ok.Pre tables-ok.Post
tables_ok_one κs a z z' ws ws' p q q' = (q ∙ sym q', refl)

pub write_cells_one : One write-cells·k.ps write-cells·k.r write-cells.Pre write-cells.Post
write_cells_one κs a z z' ws ws' p q q' = (refl, λ i. ((q ∙ sym q') i, ws.1))

pub write_values_one : One write-values·k.ps write-values·k.r write-values.Pre write-values.Post
write_values_one κs a z z' ws ws' p q q' = (refl, λ i. ((q ∙ sym q') i, ws.1))

pub write_counts_one : One write-counts·k.ps write-counts·k.r write-counts.Pre write-counts.Post
write_counts_one κs a z z' ws ws' p q q' = (refl, λ i. ((q ∙ sym q') i, ws.1))

pub write_free_one : One write-free·k.ps write-free·k.r write-free.Pre write-free.Post
write_free_one κs a z z' ws ws' p q q' = (q ∙ sym q', refl)

pub free_nodes_one : One free-nodes·k.ps free-nodes·k.r free-nodes.Pre free-nodes.Post
free_nodes_one κs a z z' ws ws' p q q' = (q ∙ sym q', refl)

pub free_number_one : One free-number·k.ps free-number·k.r free-number.Pre free-number.Post
free_number_one κs a z z' ws ws' p q q' = (q ∙ sym q', refl)

pub free_value_one : One free-value·k.ps free-value·k.r free-value.Pre free-value.Post
free_value_one κs a z z' ws ws' p q q' = (q ∙ sym q', refl)

pub task_at_one : One task-at·k.ps task-at·k.r task-at.Pre task-at.Post
task_at_one κs a z z' ws ws' p q q' = (q ∙ sym q', refl)

pub task_one : One task·k.ps task·k.r task.Pre task.Post
task_one κs a z z' ws ws' p q q' = (q ∙ sym q', refl)

-- the answer, and every place of the machine
pub carry_one : One carry·k.ps carry·k.r carry.Pre carry.Post
carry_one κs a z z' ws ws' p q q' = (q.1 ∙ sym q'.1, λ i. ((q.0 ∙ sym q'.0) i, ws.1))

pub in_range_one : One in-range·k.ps in-range·k.r in_range_lem.Pre in_range_lem.Post
in_range_one κs a z z' ws ws' p q q' = (q ∙ sym q', refl)

pub apply_one : One apply·k.ps apply·k.r apply.Pre apply.Post
apply_one κs a z z' ws ws' p q q' = (q ∙ sym q', refl)

pub holders_one : One holders·k.ps holders·k.r holders.Pre holders.Post
holders_one κs a z z' ws ws' p q q' = (q ∙ sym q', refl)

pub setup_one : One setup·k.ps setup·k.r setup.Pre setup.Post
setup_one κs a z z' ws ws' p q q' = (q ∙ sym q', refl)

pub read_head_one : One read-head·k.ps read-head·k.r read_head.Pre read_head.Post
read_head_one κs a z z' ws ws' p q q' = (q ∙ sym q', refl)

pub blank_one : One blank·k.ps blank·k.r blank.Pre blank.Post
blank_one κs a z z' ws ws' p q q' = (q ∙ sym q', refl)

pub fill_one : One fill·k.ps fill·k.r fill.Pre fill.Post
fill_one κs a z z' ws ws' p q q' = (q.1 ∙ sym q'.1, λ i. ((q.0 ∙ sym q'.0) i, ws.1))

pub setup_number_one : One setup-number·k.ps setup-number·k.r setup-number.Pre setup-number.Post
setup_number_one κs a z z' ws ws' p q q' = (q ∙ sym q', refl)

pub setup_bytes_one : One setup-bytes·k.ps setup-bytes·k.r setup-bytes.Pre setup-bytes.Post
setup_bytes_one κs a z z' ws ws' p q q' = (q ∙ sym q', refl)
