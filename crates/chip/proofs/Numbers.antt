-- The tests that compare connections and commands by their numbers, as equations.
--   connection_of_number command_of_number   the number says which it is
--   connection_below command_below           there are no more
--   same_connection_lem                          equal numbers, equal connections
--   is_selecting_lem is_connected_lem is_disconnected_lem   .. of the tests for one connection
--   command_runs                             no command has the number of none
use mathlib.Core.Path.{◌≡◌, refl, sym, ap, ◌∙◌}
use mathlib.Core.Bool.{true, false}
use lib.Dec.{eqb, ltb}
use borrow.Author.Tests.{eqb-true}
use Rattle.chip.specs.Choice.{pick}
use Rattle.chip.specs.Connections.{connection_number, connection_count, connection_of, same_connection, is_selecting, is_connected, is_disconnected}
use Rattle.chip.specs.Activity.{command_number, command_count, command_of}
use Rattle.chip.specs.declared.Connection.{Connection}
use Rattle.chip.specs.declared.Connection.TheVariants.{Disconnected, Selecting, Waiting, Connected}
use Rattle.chip.specs.declared.Command.{Command}
use Rattle.chip.specs.declared.Command.TheVariants.{SelectWithAtn, SelectWithoutAtn, SelectAndTransferWithAtn, SelectAndTransferWithoutAtn, TransferInfo}

pub connection_of_number : (x : Connection) → connection_of (connection_number x) ≡ x
unfolding connection_of pick
connection_of_number Disconnected = refl
connection_of_number Selecting = refl
connection_of_number Waiting = refl
connection_of_number Connected = refl

pub connection_below : (x : Connection) → ltb (connection_number x) connection_count ≡ true
connection_below Disconnected = refl
connection_below Selecting = refl
connection_below Waiting = refl
connection_below Connected = refl

pub same_connection_lem : (x y : Connection) → same_connection x y ≡ true → x ≡ y
same_connection_lem x y e = sym (connection_of_number x) ∙ ap connection_of (eqb-true _ _ e) ∙ connection_of_number y

pub is_selecting_lem : (x : Connection) → is_selecting x ≡ true → x ≡ Selecting
is_selecting_lem x e = same_connection_lem x Selecting e

pub is_connected_lem : (x : Connection) → is_connected x ≡ true → x ≡ Connected
is_connected_lem x e = same_connection_lem x Connected e

pub is_disconnected_lem : (x : Connection) → is_disconnected x ≡ true → x ≡ Disconnected
is_disconnected_lem x e = same_connection_lem x Disconnected e

pub command_of_number : (r : Command) → command_of (command_number r) ≡ r
unfolding command_of pick
command_of_number SelectWithAtn = refl
command_of_number SelectWithoutAtn = refl
command_of_number SelectAndTransferWithAtn = refl
command_of_number SelectAndTransferWithoutAtn = refl
command_of_number TransferInfo = refl

pub command_below : (r : Command) → ltb (command_number r) command_count ≡ true
command_below SelectWithAtn = refl
command_below SelectWithoutAtn = refl
command_below SelectAndTransferWithAtn = refl
command_below SelectAndTransferWithoutAtn = refl
command_below TransferInfo = refl

pub command_runs : (r : Command) → eqb (command_number r) 0 ≡ false
command_runs SelectWithAtn = refl
command_runs SelectWithoutAtn = refl
command_runs SelectAndTransferWithAtn = refl
command_runs SelectAndTransferWithoutAtn = refl
command_runs TransferInfo = refl
