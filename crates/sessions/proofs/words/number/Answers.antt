-- The number stays below its bound, digit by digit.
use Rattle.std.proofs.Common.{◌<◌, rules, arith}
use Rattle.std.proofs.lemmas.Fn.{fold_over, slice_gives, fronts}
use Rattle.sessions.proofs.words.number.Goals as goal

pub returns : goal.returns
returns c = fold_over fronts (λ y. y.now) _ (λ _ n. n < 268435456) _ (λ _ a x b f' j k. search rules)
    _ _ _ _ (slice_gives c.iter.result) (omega arith) c.fold.ensures.ran
