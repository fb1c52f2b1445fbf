-- What follows of an activity from the questions that rules ask of it. Generic: every walk over the definitions cites it.
--   goes_on_runs       a command that goes on is running, with no ending under way
--   running_goes_on    a command that runs, with no ending under way, goes on
--   transfer_runs      a Select-And-Transfer is a command that runs
--   info_runs          so is a Transfer Info
--   transfer_goes_on info_goes_on   both at once
--   info_is            a Transfer Info that goes on is the one activity
--   going_is_still     a command that goes on has nothing pending
--   going_runs         .. and is running
--   going_unread       the read of a status leaves it going on
--   ending_runs        an ending is a command's
--   rests              nothing pending and no command: idle
use mathlib.Core.Path.{◌≡◌, refl}
use mathlib.Core.Bool.{true, false, not, true≢false, false≢true}
use lib.Dec.{eqb}
use Rattle.chip.specs.Activity.{command_number, is_interrupt, is_ending, is_running, goes_on, is_select_and_transfer, is_transfer_info, without_interrupt}
use Rattle.chip.specs.declared.Command.{Command}
use Rattle.chip.specs.declared.Command.TheVariants.{SelectWithAtn, SelectWithoutAtn, SelectAndTransferWithAtn, SelectAndTransferWithoutAtn, TransferInfo}
use Rattle.chip.specs.declared.Activity.{Activity}
use Rattle.chip.specs.declared.Activity.TheVariants.{Idle, Interrupt, Runs, Ends, ReadOut}
use Rattle.chip.proofs.Numbers.{command_runs}

pub goes_on_runs : (a : Activity) → goes_on a ≡ true → (r : Command) × (a ≡ Runs r)
goes_on_runs Idle e = absurd (false≢true e)
goes_on_runs Interrupt e = absurd (false≢true e)
goes_on_runs (Runs r) e = (r, refl)
goes_on_runs (Ends r k) e = absurd (false≢true e)
goes_on_runs (ReadOut r) e = absurd (false≢true e)

pub running_goes_on : (a : Activity) → is_ending a ≡ false → is_running a ≡ true → goes_on a ≡ true
running_goes_on Idle e h = h
running_goes_on Interrupt e h = h
running_goes_on (Runs r) e h = refl
running_goes_on (Ends r k) e h = absurd (true≢false e)
running_goes_on (ReadOut r) e h = absurd (true≢false e)

runs_by : (r : Command) → not (eqb (command_number r) 0) ≡ true
runs_by r = rw (command_runs r)

pub transfer_runs : (a : Activity) → is_select_and_transfer a ≡ true → is_running a ≡ true
transfer_runs Idle h = h
transfer_runs Interrupt h = h
transfer_runs (Runs r) h = runs_by r
transfer_runs (Ends r k) h = runs_by r
transfer_runs (ReadOut r) h = runs_by r

pub info_runs : (a : Activity) → is_transfer_info a ≡ true → is_running a ≡ true
info_runs Idle h = h
info_runs Interrupt h = h
info_runs (Runs r) h = runs_by r
info_runs (Ends r k) h = runs_by r
info_runs (ReadOut r) h = runs_by r

pub transfer_goes_on : (a : Activity) → is_ending a ≡ false → is_select_and_transfer a ≡ true → goes_on a ≡ true
transfer_goes_on a e h = running_goes_on a e (transfer_runs a h)

pub info_goes_on : (a : Activity) → is_ending a ≡ false → is_transfer_info a ≡ true → goes_on a ≡ true
info_goes_on a e h = running_goes_on a e (info_runs a h)

pub info_is : (a : Activity) → is_ending a ≡ false → is_transfer_info a ≡ true → a ≡ Runs TransferInfo
info_is Idle e h = absurd (false≢true h)
info_is Interrupt e h = absurd (false≢true h)
info_is (Runs SelectWithAtn) e h = absurd (false≢true h)
info_is (Runs SelectWithoutAtn) e h = absurd (false≢true h)
info_is (Runs SelectAndTransferWithAtn) e h = absurd (false≢true h)
info_is (Runs SelectAndTransferWithoutAtn) e h = absurd (false≢true h)
info_is (Runs TransferInfo) e h = refl
info_is (Ends r k) e h = absurd (true≢false e)
info_is (ReadOut r) e h = absurd (true≢false e)

pub going_is_still : (a : Activity) → goes_on a ≡ true → (is_interrupt a ≡ false) × (is_ending a ≡ false)
going_is_still Idle e = absurd (false≢true e)
going_is_still Interrupt e = absurd (false≢true e)
going_is_still (Runs r) e = (refl, refl)
going_is_still (Ends r k) e = absurd (false≢true e)
going_is_still (ReadOut r) e = absurd (false≢true e)

pub going_runs : (a : Activity) → goes_on a ≡ true → is_running a ≡ true
going_runs Idle e = e
going_runs Interrupt e = e
going_runs (Runs r) e = runs_by r
going_runs (Ends r k) e = runs_by r
going_runs (ReadOut r) e = runs_by r

pub going_unread : (a : Activity) → goes_on a ≡ true → goes_on (without_interrupt a) ≡ true
going_unread Idle e = e
going_unread Interrupt e = e
going_unread (Runs r) e = e
going_unread (Ends r k) e = e
going_unread (ReadOut r) e = e

pub ending_runs : (a : Activity) → is_ending a ≡ true → is_running a ≡ true
ending_runs Idle e = e
ending_runs Interrupt e = e
ending_runs (Runs r) e = runs_by r
ending_runs (Ends r k) e = runs_by r
ending_runs (ReadOut r) e = runs_by r

pub rests : (a : Activity) → is_interrupt a ≡ false → is_running a ≡ false → a ≡ Idle
rests Idle i h = refl
rests Interrupt i h = absurd (true≢false i)
rests (Runs r) i h = absurd (true≢false (rw (runs_by r) at h))
rests (Ends r k) i h = absurd (true≢false (rw (runs_by r) at h))
rests (ReadOut r) i h = absurd (true≢false (rw (runs_by r) at h))
