-- Both ends are the first places of their kind, and what stands there is as proofs/Blanks.antt says.
use Rattle.std.proofs.Common.{refl, rules, tests}
use Rattle.std.proofs.lemmas.Iterator.{YieldsList-from_slice}
use Rattle.std.proofs.lemmas.Iterator.Search.{position_from_yields_List}
use Rattle.sessions.specs.Words.{is_blank}
use Rattle.sessions.proofs.Blanks.{is_sign, first_place, first_split}
use Rattle.sessions.proofs.words.split_word.Goals as goal

pub returns-clause-first : goal.returns-clause-first
returns-clause-first c =
    let start = first_place is_sign c.args.line.now c.position.result _ (position_from_yields_List is_sign _ _ c.position.result c.position.ensures.ran (YieldsList-from_slice _ c.iter.ensures.rest) (λ x b q k. search (rules, tests))) c.unwrap_or-start.ensures in
    let end = first_place is_blank _ c.position-2.result _ (position_from_yields_List is_blank _ _ c.position-2.result c.position-2.ensures.ran (YieldsList-from_slice _ c.iter-2.ensures.rest) (λ x b q k. search (rules, tests))) c.unwrap_or-end.ensures in
    search (rules, (first_split c.args.line.now _ _ _ start refl end).0)

pub returns-clause-after : goal.returns-clause-after
returns-clause-after c =
    let start = first_place is_sign c.args.line.now c.position.result _ (position_from_yields_List is_sign _ _ c.position.result c.position.ensures.ran (YieldsList-from_slice _ c.iter.ensures.rest) (λ x b q k. search (rules, tests))) c.unwrap_or-start.ensures in
    let end = first_place is_blank _ c.position-2.result _ (position_from_yields_List is_blank _ _ c.position-2.result c.position-2.ensures.ran (YieldsList-from_slice _ c.iter-2.ensures.rest) (λ x b q k. search (rules, tests))) c.unwrap_or-end.ensures in
    (first_split c.args.line.now _ _ _ start refl end).1
