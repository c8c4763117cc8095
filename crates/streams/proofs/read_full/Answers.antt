-- `read_full`: what one more read gives stands after what the reads before it gave.
use Rattle.std.proofs.Common.{◌≡◌, ◌+◌, ◌≤◌, ◌++◌, ◌∙◌, ℕ, List, None, Some, Option, rules, ap, subst, sym, append_assoc, length, length-take-le, take}
use Rattle.std.proofs.lemmas.List.{take-append-le}
use Rattle.std.proofs.Math.Seq.{take-append-add}
use Rattle.std.specs.Io.KnownBytes.{Consumes}
use Rattle.streams.proofs.read_full.Goals as goal

then-more : (a b c : Option (List ℕ)) (front more : List ℕ) → Consumes a b front → Consumes b c more → Consumes a c (front ++ more)
then-more None b c front more p q = tt
then-more (Some x) None c front more p q = absurd p
then-more (Some x) (Some y) None front more p q = absurd q
then-more (Some x) (Some y) (Some z) front more p q = p ∙ ap (λ l. front ++ l) q ∙ sym (append_assoc front more z)

take-filled : (done n : ℕ) (buf part rest : List ℕ) → done ≤ length buf → n ≤ length part → take (done + n) (take done buf ++ (part ++ rest)) ≡ take done buf ++ take n part
take-filled done n buf part rest within fits =
    ap (λ k. take (k + n) (take done buf ++ (part ++ rest))) (sym (length-take-le done buf within))
    ∙ take-append-add (take done buf) (part ++ rest) n
    ∙ ap (λ l. take done buf ++ l) (take-append-le n part rest fits)

pub loop-done-preserved : goal.loop-done-preserved
loop-done-preserved g c =
    let fits = c.in_ok-n.ensures.bound.0 in
    let bytes = c.in_ok-n.ensures.bytes.0 in
    let before = c.loop-done.invariant in
    record {
      within = search rules;
      bytes = subst (Consumes _ _) (sym (take-filled c.loop-done.done c.in_ok-n.n c.loop-done.buf c.read.new.buf _ before.within fits)) (then-more _ _ _ _ _ before.bytes bytes);
    }
