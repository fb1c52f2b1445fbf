-- With data coming in, no byte of the FIFO changes; and no command byte changes where an ending settles.
use Rattle.std.proofs.Common.{ap, ◌∙◌, rules}
use Rattle.chip.specs.declared.State.{State}
use Rattle.chip.proofs.CommandBytes.{settled_keeps, taken_before}
use Rattle.blocks.proofs.InImage.{settled_made, still_waits}
use Rattle.blocks.proofs.settle.Goals as goal

pub returns : goal.returns
returns c =
    let s = c.state-s.result in
    let t = c.settled-settled.result in
    let kept = ap (λ (x : State). x.registers.descriptor.cdb) c.settled-settled.ensures ∙ settled_keeps s in
    settled_made _ c.requires.0 _ _ _ c.requires.1 c.state-s.ensures (taken_before s t kept ∙ c.settled-settled.ensures) c.write_on.ensures.goes_on

pub returns-then-not-is_empty : goal.returns-then-not-is_empty
returns-then-not-is_empty c = still_waits _ c.requires.0 _ c.state-s.ensures (search rules)
