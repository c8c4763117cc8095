-- Any two results that a public function's contract allows are equal, and so is what a lent place holds when the function returns. Assumes nothing.
use mathlib.Core.Path.{refl, sym, ◌∙◌}
use Rattle.contracts.specs.One.{One}
use Rattle.digits.proofs.number_at.Kinds as number-at·k
use Rattle.digits.proofs.number_at.Reads as number_at
use Rattle.digits.proofs.digits_in.Kinds as digits-in·k
use Rattle.digits.proofs.digits_in.Reads as digits_in
use Rattle.digits.proofs.put_number.Kinds as put-number·k
use Rattle.digits.proofs.put_number.Reads as put-number

pub number_at_one : One number-at·k.ps number-at·k.r number_at.Pre number_at.Post
number_at_one κs a z z' ws ws' p q q' = (q ∙ sym q', refl)

pub digits_in_one : One digits-in·k.ps digits-in·k.r digits_in.Pre digits_in.Post
digits_in_one κs a z z' ws ws' p q q' = (q ∙ sym q', refl)

pub put_number_one : One put-number·k.ps put-number·k.r put-number.Pre put-number.Post
put_number_one κs a z z' ws ws' p q q' = (q.0 ∙ sym q'.0, λ i. ((q.1 ∙ sym q'.1) i, ws.1))
