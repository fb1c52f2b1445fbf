-- The command that runs, where one does: what `running_number` of chip's specs/Activity.antt says as a number, with 0 for none.
use Rattle.std.specs.Prelude.{Option, None, Some}
use Rattle.chip.specs.declared.Command.{Command}
use Rattle.chip.specs.declared.Activity.{Activity}
use Rattle.chip.specs.declared.Activity.TheVariants.{Idle, Interrupt, Runs, Ends, ReadOut}

abbrev pub running_command : Activity → Option Command
running_command Idle = None
running_command Interrupt = None
running_command (Runs r) = Some r
running_command (Ends r k) = Some r
running_command (ReadOut r) = Some r
