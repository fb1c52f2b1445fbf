-- Endings, the count and Transfer Info tell no places.
--   same_unread same_dbr                       the tests: incoming bytes wait; DBR
--   kept_incoming                              an outgoing FIFO is dropped
--   raised ended settles                       a code raised, an ending, what follows a byte that the host reads
--   unless_interrupt_lem unless_halted_lem             the choices around a reply
--   transfer_info_request_lem transfer_info_free_lem   a Request and a Free while Transfer Info runs
use mathlib.Core.Path.{◌≡◌, refl, ap, ap₂}
use mathlib.Core.Bool.{Bool, not}
use Prim.Native.Nat.{ℕ}
use lib.Dec.{ltb}
use Rattle.chip.specs.Choice.{both}
use Rattle.chip.specs.State.{set_fifo}
use Rattle.chip.specs.Lines.{hsp}
use Rattle.chip.specs.Interrupts.{without_outgoing, outgoing_dropped, raise, is_incoming, bytes_unread, ending_with, settled_by, settled, unless_interrupt}
use Rattle.chip.specs.Count.{left, none_left, is_last, dbr_by, dbr, lowered}
use Rattle.chip.specs.TransferInfo.{halted, unless_halted, parity_noted, atn_after, transfer_info_sent, taken_in, transfer_info_taken, transfer_info_offered, over_code, transfer_info_over, transfer_info_request, transfer_info_free_code, transfer_info_free}
use Rattle.chip.specs.declared.Activity.{Activity}
use Rattle.chip.specs.declared.Activity.TheVariants.{Idle, Interrupt, Runs, Ends, ReadOut}
use Rattle.chip.specs.declared.Answer.TheVariants.{Done}
use Rattle.chip.specs.declared.Direction.{Direction}
use Rattle.chip.specs.declared.Direction.TheVariants.{Unfixed, In, Out}
use Rattle.chip.specs.declared.Fifo.{Fifo}
use Rattle.chip.specs.declared.Phase.{Phase}
use Rattle.chip.specs.declared.Reply.{Reply}
use Rattle.chip.specs.declared.State.{State}
use Rattle.keeping.specs.Keeping.{SameBytes, Alike}
use Rattle.keeping.proofs.SameBytes.{same_waits, same_empty, same_room, same_front, same_pop, same_push, same_dropped}
use Rattle.keeping.proofs.Alike.{AlikeReply, said, alike, chosen_by, replied, replied_by}

-- an outgoing FIFO is empty then, another stays
pub kept_incoming : (d : Direction) {q r : Fifo} → SameBytes q r → SameBytes (without_outgoing d q) (without_outgoing d r)
kept_incoming Unfixed g = g
kept_incoming In g = g
kept_incoming Out g = same_dropped g

module _ (s : State) {r : Fifo} (g : SameBytes s.fifo r) where
  -- the tests

  pub same_unread : bytes_unread s ≡ bytes_unread (set_fifo r s)
  unfolding bytes_unread
  same_unread = ap (λ (t : Bool). both (is_incoming s.transfer.direction) (not t)) (same_empty g)

  same_dbr_by : (d : Direction) → dbr_by d s ≡ dbr_by d (set_fifo r s)
  unfolding left
  same_dbr_by Unfixed = refl
  same_dbr_by In = ap not (same_empty g)
  same_dbr_by Out = ap₂ (λ (n : ℕ) (t : Bool). both (ltb n (left s)) t) (same_waits g) (same_room g)

  pub same_dbr : dbr s ≡ dbr (set_fifo r s)
  unfolding dbr
  same_dbr = same_dbr_by s.transfer.direction

  -- endings

  pub raised : (k : ℕ) → Alike (raise k s) (raise k (set_fifo r s))
  unfolding raise outgoing_dropped
  raised k = alike (kept_incoming s.transfer.direction g)

  pub ended : (k : ℕ) → Alike (ending_with k s) (ending_with k (set_fifo r s))
  unfolding ending_with
  ended k = chosen_by same_unread (alike g) (raised k)

  settled_by_lem : (a : Activity) → Alike (settled_by a s) (settled_by a (set_fifo r s))
  unfolding settled_by
  settled_by_lem Idle = alike g
  settled_by_lem Interrupt = alike g
  settled_by_lem (Runs c) = alike g
  settled_by_lem (Ends c k) = raised k
  settled_by_lem (ReadOut c) = alike g

  pub settles : Alike (settled s) (settled (set_fifo r s))
  unfolding settled
  settles = chosen_by (same_empty g) (settled_by_lem s.activity) (alike g)

  pub unless_interrupt_lem : {a b : Reply} → AlikeReply a b → AlikeReply (unless_interrupt s a) (unless_interrupt (set_fifo r s) b)
  unfolding unless_interrupt
  unless_interrupt_lem h = replied _ (said (alike g)) h

-- Transfer Info

halts : (s : State) {r : Fifo} → SameBytes s.fifo r → AlikeReply (halted s) (halted (set_fifo r s))
unfolding halted
halts s g = said (ended _ g 0x43)

module _ (s : State) {r : Fifo} (g : SameBytes s.fifo r) where
  pub unless_halted_lem : (bad : Bool) {a b : Reply} → AlikeReply a b → AlikeReply (unless_halted bad s a) (unless_halted bad (set_fifo r s) b)
  unfolding unless_halted hsp
  unless_halted_lem bad h = replied _ (halts s g) h

  sent : (p : Phase) → AlikeReply (transfer_info_sent p s) (transfer_info_sent p (set_fifo r s))
  unfolding transfer_info_sent lowered atn_after is_last left
  sent p = replied_by (same_empty g) (said (alike g)) (record { answer = ap Done (same_front g); states = alike (same_pop g) })

  taken : (p : Phase) (b : ℕ) (bad : Bool) → AlikeReply (transfer_info_taken p b bad s) (transfer_info_taken p b bad (set_fifo r s))
  unfolding transfer_info_taken taken_in lowered parity_noted is_last left
  taken p b bad = replied _ (said (ended _ (same_push b g) 0x20)) (said (alike (same_push b g)))

  offered : (p : Phase) (b : ℕ) (bad : Bool) → AlikeReply (transfer_info_offered p b bad s) (transfer_info_offered p b bad (set_fifo r s))
  unfolding transfer_info_offered
  offered p b bad = replied_by (same_room g) (unless_halted_lem bad (taken p b bad)) (said (alike g))

  over : (p : Phase) → AlikeReply (transfer_info_over p s) (transfer_info_over p (set_fifo r s))
  unfolding transfer_info_over over_code none_left left
  over p = said (ended _ g _)

  pub transfer_info_request_lem : (p : Phase) (b : ℕ) (bad : Bool)
      → AlikeReply (transfer_info_request p b bad s) (transfer_info_request p b bad (set_fifo r s))
  unfolding transfer_info_request none_left left
  transfer_info_request_lem p b bad = replied _ (replied _ (offered p b bad) (sent p)) (over p)

-- t is s with the bus free
pub transfer_info_free_lem : (s t : State) {r : Fifo} → SameBytes t.fifo r
    → AlikeReply (transfer_info_free s t) (transfer_info_free (set_fifo r s) (set_fifo r t))
unfolding transfer_info_free transfer_info_free_code none_left left
transfer_info_free_lem s t g = said (ended t g _)
