-- `lowest` searches from the front, and stops at the first number that is bad.
use Rattle.std.proofs.Common.{◌≡◌, true, false, rules, tests}
use Rattle.std.proofs.lemmas.Iterator.{first_from_Range}
use Rattle.image.proofs.FirstBad.{lowest_by}
use Rattle.image.proofs.rules.lowest.Goals as goal

pub returns : goal.returns
returns g c test computes =
    lowest_by test c.args.count c.find.result
    (first_from_Range _ _ _ _ (λ i. test i ≡ true) (λ i. test i ≡ false) c.find.ensures.ran (λ x q k. search (rules, tests, computes)) (λ x q k. (search rules, search (rules, tests, computes))))
