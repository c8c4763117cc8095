-- Any two results that a public function's contract allows are equal, and so is what a lent place holds when the function returns. Assumes nothing.
use mathlib.Core.Path.{refl, sym, ◌∙◌}
use Rattle.contracts.specs.One.{One}
use Rattle.entries.proofs.entry_at.Kinds as entry-at·k
use Rattle.entries.proofs.entry_at.Reads as entry-at
use Rattle.entries.proofs.read_entry.Kinds as read-entry·k
use Rattle.entries.proofs.read_entry.Reads as read-entry
use Rattle.entries.proofs.put_entry.Kinds as put-entry·k
use Rattle.entries.proofs.put_entry.Reads as put-entry
use Rattle.entries.proofs.asks.Kinds as asks·k
use Rattle.entries.proofs.asks.Reads as asks
use Rattle.entries.proofs.load.Kinds as load·k
use Rattle.entries.proofs.load.Reads as load
use Rattle.entries.proofs.store.Kinds as store·k
use Rattle.entries.proofs.store.Reads as store
use Rattle.entries.proofs.linked_call.Kinds as linked-call·k
use Rattle.entries.proofs.linked_call.Reads as linked-call
use Rattle.entries.proofs.order.Kinds as order·k
use Rattle.entries.proofs.order.Reads as order

pub entry_at_one : One entry-at·k.ps entry-at·k.r entry-at.Pre entry-at.Post
entry_at_one κs a z z' ws ws' p q q' = (q ∙ sym q', refl)

pub read_entry_one : One read-entry·k.ps read-entry·k.r read-entry.Pre read-entry.Post
read_entry_one κs a z z' ws ws' p q q' = (q ∙ sym q', refl)

pub put_entry_one : One put-entry·k.ps put-entry·k.r put-entry.Pre put-entry.Post
put_entry_one κs a z z' ws ws' p q q' = (refl, λ i. ((q ∙ sym q') i, ws.1))

pub asks_one : One asks·k.ps asks·k.r asks.Pre asks.Post
asks_one κs a z z' ws ws' p q q' = (q ∙ sym q', refl)

pub load_one : One load·k.ps load·k.r load.Pre load.Post
load_one κs a z z' ws ws' p q q' = (q ∙ sym q', refl)

pub store_one : One store·k.ps store·k.r store.Pre store.Post
store_one κs a z z' ws ws' p q q' = (q ∙ sym q', refl)

pub linked_call_one : One linked-call·k.ps linked-call·k.r linked-call.Pre linked-call.Post
linked_call_one κs a z z' ws ws' p q q' = (q ∙ sym q', refl)

pub order_one : One order·k.ps order·k.r order.Pre order.Post
order_one κs a z z' ws ws' p q q' = (q ∙ sym q', refl)
