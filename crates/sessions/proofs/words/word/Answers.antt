-- Word k of the line is the first of those that stand behind k words.
use Rattle.std.proofs.Common.{◌≡◌, ◌+◌, [], drop, unwrap_or, get_or, ap, sym, ◌∙◌, arith, get_or-drop, drop-drop}
use Rattle.std.proofs.lemmas.Option.{unwrap_or-slice_get}
use Rattle.std.specs.List.{slice_get}
use Rattle.sessions.specs.Words.{words}
use Rattle.sessions.proofs.words.word.Goals as goal

pub loop-preserved : goal.loop-preserved
loop-preserved c = (c.split_word.ensures.after ∙ ap (drop 1) c.loop.invariant.0 ∙ drop-drop 1 c.loop.counter _, omega (arith, c.loop.invariant.1, c.split_word.ensures.within.1))

pub returns-clause-value : goal.returns-clause-value
returns-clause-value c =
    let all = words c.args.line.now in
    let at : c.loop.counter + 0 ≡ c.args.k = omega (arith, c.loop-test.false, c.loop.auto.counter-end) in
    c.split_word-2.ensures.first
    ∙ ap (λ ws. unwrap_or (slice_get ws 0) []) c.loop.invariant.0
    ∙ unwrap_or-slice_get (drop c.loop.counter all) 0 []
    ∙ get_or-drop c.loop.counter all 0 []
    ∙ ap (λ i. get_or all i []) at
    ∙ sym (unwrap_or-slice_get all c.args.k [])
