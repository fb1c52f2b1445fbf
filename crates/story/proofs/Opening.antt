-- Words that open definitions together.
--   scenes   the Target's, the host's and the schedule's
--   runs     these and every definition of a step, so that a closed schedule computes
use Rattle.chip.proofs.Computing.{everything}
use Rattle.story.specs.Hosts as H
use Rattle.story.specs.Schedule as W

unfoldable pub scenes : Unit {0}
unfolding H.planned H.noting H.taking H.sending H.made W.took W.valued W.placed W.logged W.waiting W.shown W.offered W.hosted W.replanned
    W.offering W.bus_by W.offer_taken W.elapsing W.selecting W.passing W.looking W.pointing W.accessing W.access_by W.due_by W.onward W.move W.moves
scenes = tt

unfoldable pub runs : Unit {0}
unfolding scenes everything H.asked H.serving H.phases_heard
runs = tt
