-- The bus events tell no places.
--   time_passes answers reselects requests frees   Time, Answer, Reselection, Request and Free
use Rattle.std.specs.Prelude.{Option}
use mathlib.Core.Path.{ap, subst}
use mathlib.Core.Bool.{Bool}
use Prim.Native.Nat.{ℕ}
use Rattle.chip.specs.State.{set_fifo, set_last}
use Rattle.chip.specs.Lines.{er, qualifies, destination, source_after}
use Rattle.chip.specs.Events.{timed_out, selection_time, selects, passed, connected, answered_state, answered_selecting, answered_elsewhere, answered, reselected_state, reselected_with_code, names_target, reselected_apart, reselected, idle_request, requested_running, requested_connected, remembered_by, remembered, requested, bus_free, idle_free, freed_running, freed}
use Rattle.chip.specs.declared.Answer.{Answer}
use Rattle.chip.specs.declared.Answer.TheVariants.{Done, Held, OutOfPlace, BadNumber, Blind, CommandIgnored, ReselectionIgnored, NoDataNow, Reported}
use Rattle.chip.specs.declared.Fifo.{Fifo}
use Rattle.chip.specs.declared.Phase.{Phase}
use Rattle.chip.specs.declared.Reply.{Reply}
use Rattle.chip.specs.declared.State.{State}
use Rattle.keeping.specs.Keeping.{SameBytes, Alike}
use Rattle.keeping.proofs.Alike.{AlikeReply, said, alike, replied}
use Rattle.keeping.proofs.Moving.{raised, unless_interrupt_lem, transfer_info_request_lem, transfer_info_free_lem}
use Rattle.keeping.proofs.SelectAndTransfer.{select_and_transfer_request_lem, select_and_transfer_free_lem}

-- the Request that Abort keeps in mind

noted_last : (x : Option Phase) {s t : State} → Alike s t → Alike (set_last x s) (set_last x t)
noted_last x h = record { rest = ap (set_last x) h.rest; fifo = h.fifo }

remembers_by : (x : Answer) (p : Phase) {a b : Reply} → AlikeReply a b → AlikeReply (remembered_by x p a) (remembered_by x p b)
remembers_by (Done v) p h = said (noted_last _ h.states)
remembers_by Held p h = h
remembers_by OutOfPlace p h = h
remembers_by BadNumber p h = h
remembers_by Blind p h = h
remembers_by CommandIgnored p h = h
remembers_by ReselectionIgnored p h = h
remembers_by NoDataNow p h = h
remembers_by Reported p h = said (noted_last _ h.states)

remembers : (p : Phase) {a b : Reply} → AlikeReply a b → AlikeReply (remembered p a) (remembered p b)
unfolding remembered
remembers p {a = a} {b = b} h =
    subst (λ (x : Answer). AlikeReply (remembered_by a.answer p a) (remembered_by x p b)) h.answer (remembers_by a.answer p h)

module _ (s : State) {r : Fifo} (g : SameBytes s.fifo r) where
  -- Time

  selection_time_lem : (n : ℕ) → AlikeReply (selection_time n s) (selection_time n (set_fifo r s))
  unfolding selection_time timed_out
  selection_time_lem n = replied _ (said (alike g)) (replied _ (said (raised _ g 0x42)) (said (alike g)))

  pub time_passes : (n : ℕ) → AlikeReply (passed n s) (passed n (set_fifo r s))
  unfolding passed selects
  time_passes n = replied _ (selection_time_lem n) (said (alike g))

  -- Answer

  answers_selecting : AlikeReply (answered_selecting s) (answered_selecting (set_fifo r s))
  unfolding answered_selecting answered_state connected
  answers_selecting = replied _ (said (alike g)) (said (raised _ g 0x11))

  pub answers : AlikeReply (answered s) (answered (set_fifo r s))
  unfolding answered selects answered_elsewhere
  answers = replied _ answers_selecting (replied _ (said (alike g)) (said (alike g)))

  -- Reselection

  reselects_apart : (lines : ℕ) → AlikeReply (reselected_apart lines s) (reselected_apart lines (set_fifo r s))
  unfolding reselected_apart names_target destination reselected_with_code reselected_state connected source_after
  reselects_apart lines =
      replied _ (said (alike g)) (replied _ (said (alike g)) (unless_interrupt_lem s g (said (raised _ g 0x80))))

  pub reselects : (lines : ℕ) → AlikeReply (reselected lines s) (reselected lines (set_fifo r s))
  unfolding reselected qualifies er
  reselects lines = replied _ (replied _ (said (alike g)) (reselects_apart lines)) (said (alike g))

  -- Request

  idle_request_lem : (p : Phase) → AlikeReply (idle_request p s) (idle_request p (set_fifo r s))
  unfolding idle_request
  idle_request_lem p = replied _ (said (alike g)) (unless_interrupt_lem s g (said (raised _ g _)))

  pub requests : (p : Phase) (b : ℕ) (bad : Bool) → AlikeReply (requested p b bad s) (requested p b bad (set_fifo r s))
  unfolding requested requested_connected requested_running
  requests p b bad =
      remembers p
      (replied _
      (replied _ (said (alike g))
      (replied _ (said (alike g))
      (replied _ (select_and_transfer_request_lem s g p b bad) (replied _ (transfer_info_request_lem s g p b bad) (idle_request_lem p)))))
      (said (alike g)))

  -- Free

  pub frees : AlikeReply (freed s) (freed (set_fifo r s))
  unfolding freed freed_running idle_free bus_free
  frees =
      replied _
      (replied _ (said (alike g))
      (replied _ (select_and_transfer_free_lem s _ g g)
      (replied _ (transfer_info_free_lem s _ g) (unless_interrupt_lem s g (said (raised _ g 0x85))))))
      (said (alike g))
