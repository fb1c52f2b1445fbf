-- A command byte that is to be sent is one of the longest command's 12.
use Rattle.std.specs.Prelude.{◌<◌}
use Rattle.chip.specs.declared.Stage.{Stage}
use Rattle.chip.specs.declared.Stage.TheVariants.{SendIdentify, SendCommand, Body, AfterData, Disconnecting, Reselected, AfterStatus, Elsewhere}

abbrev pub Sendable : Stage → Type 0
Sendable SendIdentify = Unit {0}
Sendable (SendCommand x) = x < 12
Sendable Body = Unit {0}
Sendable AfterData = Unit {0}
Sendable Disconnecting = Unit {0}
Sendable Reselected = Unit {0}
Sendable AfterStatus = Unit {0}
Sendable Elsewhere = Unit {0}
