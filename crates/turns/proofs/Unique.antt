-- Any two results that a public function's contract allows are equal, and so is what the lent machine holds when the function returns. Assumes nothing.
use mathlib.Core.Path.{sym, ◌∙◌}
use Rattle.contracts.specs.One.{One}
use Rattle.turns.proofs.carry.Kinds as carry·k
use Rattle.turns.proofs.carry.Reads as carry
use Rattle.turns.proofs.go.Kinds as go·k
use Rattle.turns.proofs.go.Reads as go
use Rattle.turns.proofs.turn.Kinds as turn·k
use Rattle.turns.proofs.turn.Reads as turn

pub carry_one : One carry·k.ps carry·k.r carry.Pre carry.Post
carry_one κs a z z' ws ws' p q q' = (q.1 ∙ sym q'.1, λ i. ((q.0 ∙ sym q'.0) i, ws.1))

pub go_one : One go·k.ps go·k.r go.Pre go.Post
go_one κs a z z' ws ws' p q q' = (q.1 ∙ sym q'.1, λ i. ((q.0 ∙ sym q'.0) i, ws.1))

pub turn_one : One turn·k.ps turn·k.r turn.Pre turn.Post
turn_one κs a z z' ws ws' p q q' = (q.1 ∙ sym q'.1, λ i. ((q.0 ∙ sym q'.0) i, ws.1))
