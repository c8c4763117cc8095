-- `newlines`: each byte adds at most one, so the sum fits.
use Rattle.std.proofs.Common.{rules, tests, arith}
use Rattle.std.proofs.lemmas.Iterator.{YieldsList-from_slice}
use Rattle.std.proofs.lemmas.Iterator.Adapters.{fits_from_length, at_most_from_yields_List}
use Rattle.texts.proofs.newlines.Goals as goal

pub sum-requires-clause-fits : goal.sum-requires-clause-fits
sum-requires-clause-fits c =
    let most = c.iter.ensures.bound in
    fits_from_length _ _ 18446744073709551615 _ (at_most_from_yields_List (YieldsList-from_slice c.args.text.now cc) (omega arith)) c.map.ensures.closure (omega arith) (λ x r q k. search (rules, tests))
