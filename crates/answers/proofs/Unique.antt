-- Any two results that a public function's contract allows are equal. Assumes nothing.
use mathlib.Core.Path.{refl, sym, ◌∙◌}
use denote.RattleType.{RattleType}
use denote.Param.Laws.{Laws, IsCopy}
use mir.Syntax.{Dict}
use Rattle.std.specs.declared.clone.Clone.{Ghosts}
use Rattle.contracts.specs.One.{One}
use Rattle.answers.proofs.U8FromReply.from.Kinds as reply-number·k
use Rattle.answers.proofs.U8FromReply.from.Reads as reply-number
use Rattle.answers.proofs.reply_value.Kinds as reply-value·k
use Rattle.answers.proofs.reply_value.Reads as reply-value
use Rattle.answers.proofs.U8FromRefusal.from.Kinds as refusal-number·k
use Rattle.answers.proofs.U8FromRefusal.from.Reads as refusal-number
use Rattle.answers.proofs.refusal_or_0.Kinds as refusal-or-0·k
use Rattle.answers.proofs.refusal_or_0.Reads as refusal-or-0
use Rattle.answers.proofs.number.Kinds as number·k
use Rattle.answers.proofs.number.Reads as number
use Rattle.answers.proofs.value.Kinds as value·k
use Rattle.answers.proofs.value.Reads as value

pub reply_number_one : One reply-number·k.ps reply-number·k.r reply-number.Pre reply-number.Post
reply_number_one κs a z z' ws ws' p q q' = (q ∙ sym q', refl)

pub reply_value_one : One reply-value·k.ps reply-value·k.r reply-value.Pre reply-value.Post
reply_value_one κs a z z' ws ws' p q q' = (q ∙ sym q', refl)

pub refusal_number_one : One refusal-number·k.ps refusal-number·k.r refusal-number.Pre refusal-number.Post
refusal_number_one κs a z z' ws ws' p q q' = (q ∙ sym q', refl)

-- of each type that it is asked with
pub refusal_or_0_one : (A : RattleType) (l : Laws A) (c : IsCopy A) (g : Ghosts A.Denot) (d : Dict)
    → One (refusal-or-0·k.ps A l c) (refusal-or-0·k.r A l c) (refusal-or-0.Pre A l c g d) (refusal-or-0.Post A l c g d)
refusal_or_0_one A l c g d κs a z z' ws ws' p q q' = (q ∙ sym q', refl)

pub number_one : One number·k.ps number·k.r number.Pre number.Post
number_one κs a z z' ws ws' p q q' = (q ∙ sym q', refl)

pub value_one : One value·k.ps value·k.r value.Pre value.Post
value_one κs a z z' ws ws' p q q' = (q ∙ sym q', refl)
