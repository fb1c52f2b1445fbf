-- The Target, the host and the controller together, and every order in which they can move.
-- The third demand: ".. and frees the bus, offering again what was not taken"; "what has crossed the bus is at each moment a first
-- part of that story"; "wherever the Target is held, accesses by the host are due that bring it on".
--   Target    its place, how long it still waits before it answers, what has crossed, what is still to cross
--   Scene     the controller, the host and the Target at one moment
--   bus       the Target's next move: it answers, offers what comes next in its story, or frees the bus
--   access    the host's next call: it looks at auxiliary status, sets the pointer, or reads or writes a register
--   passing   units of time pass
--   Move      one of the three; a schedule is any list of moves
--   due       the accesses that the host has to make next, by the current state and not by an earlier look
--   Brought   the Target is brought on: its next move is taken at once, or it is not, an access is due, and with that access made the
--             Target is brought on. It is inductive, so finitely many accesses are enough; `accesses` counts them.
-- What moves the controller is a parameter, so that a wrong step can be put in its place.
use Rattle.std.specs.Prelude.{◌≡◌, Bool, true, false, List, [], ◌∷◌, ◌++◌, ℕ, suc, ◌-◌, eqb, ltb}
use Rattle.chip.specs.Choice.{pick}
use Rattle.chip.specs.Answers.{number, value}
use Rattle.chip.specs.Phases.{phase_number, comes_in}
use Rattle.chip.specs.Calls.{Call, pointer, auxiliary, time, answer, request, free, Outcome}
use Rattle.chip.specs.declared.State.{State}
use Rattle.chip.specs.declared.Phase.{Phase}
use Rattle.chip.specs.Connections.{is_selecting}
use Rattle.story.specs.Story.{Item, item}
use Rattle.story.specs.Hosts.{Access, put, get, code, take, send, Host, Program, planned, address_of, call_of, asked, made}

pub data Place : Type 0 where
  calling : Place  -- not yet connected
  talking : Place
  away : Place  -- the bus is free

pub record Target : Type 0 where
  pub place : Place
  pub patience : ℕ
  pub log : List Item
  pub ahead : List Item

pub record Scene : Type 0 where
  pub chip : State
  pub host : Host
  pub target : Target

-- a call was answered Done
unfoldable pub took : Outcome → Bool
took o = eqb (number o.answer) 0

unfoldable pub valued : Outcome → ℕ
valued o = value o.answer

unfoldable pub placed : Place → Target → Target
placed p t = record { place = p; patience = t.patience; log = t.log; ahead = t.ahead }

-- what crossed goes into the log with the byte of the answer: "the byte that crossed"
unfoldable pub logged : Item → List Item → Target → Target
logged i l t = record { place = talking; patience = t.patience; log = t.log ++ (i ∷ []); ahead = l }

unfoldable pub waiting : ℕ → Target → Target
waiting n t = record { place = t.place; patience = t.patience - n; log = t.log; ahead = t.ahead }

-- the byte on the lines while a phase is offered: the Target's own, where the phase comes in
unfoldable pub shown : Phase → ℕ → ℕ
shown p b = pick (comes_in p) b 0

-- a call by the Target: only what is taken moves it on
unfoldable pub offered : Target → Outcome → Scene → Scene
offered t o z = record { chip = o.state; host = z.host; target = pick (took o) t z.target }

-- a call by the host
unfoldable pub hosted : Host → Outcome → Scene → Scene
hosted h o z = record { chip = o.state; host = h; target = z.target }

-- the host's next accesses are l
unfoldable pub replanned : List Access → Scene → Scene
replanned l z = record { chip = z.chip; host = planned l z.host; target = z.target }

abbrev pub is_none : List Access → Bool
is_none [] = true
is_none (x ∷ l) = false

pub data Move : Type 0 where
  offer : Move
  pass : ℕ → Move
  work : Move

module _ (does : Call → State → Outcome) (g : Program) where
  -- the Target

  unfoldable pub offering : List Item → Scene → Scene
  offering [] z = offered (placed away z.target) (does free z.chip) z
  offering (item p b ∷ l) z =
      let o = does (request (phase_number p) (shown p b) 0) z.chip in
      offered (logged (item p (valued o)) l z.target) o z

  unfoldable pub bus_by : Place → Scene → Scene
  bus_by calling z = offered (placed talking z.target) (does answer z.chip) z
  bus_by talking z = offering z.target.ahead z
  bus_by away z = z

  abbrev pub bus : Scene → Scene
  bus z = bus_by z.target.place z

  -- would the Target's next move be taken?
  unfoldable pub offer_taken : List Item → Scene → Bool
  offer_taken [] z = took (does free z.chip)
  offer_taken (item p b ∷ l) z = took (does (request (phase_number p) (shown p b) 0) z.chip)

  -- time

  unfoldable pub elapsing : ℕ → Scene → Scene
  elapsing n z = record { chip = (does (time n) z.chip).state; host = z.host; target = z.target }

  -- "a Target that answers selection in time": while it is being selected it lets time pass as long as its patience lasts, and answers
  -- before it would be over
  unfoldable pub selecting : ℕ → Scene → Scene
  selecting n z =
      pick (ltb n z.target.patience)
      (elapsing n (record { chip = z.chip; host = z.host; target = waiting n z.target }))
      (bus z)

  unfoldable pub passing : ℕ → Scene → Scene
  passing n z = pick (is_selecting z.chip.wire.connection) (selecting n z) (elapsing n z)

  -- the host

  unfoldable pub looking : Outcome → Scene → Scene
  looking o z = hosted (planned (asked (valued o) z.host.phase) z.host) o z

  unfoldable pub pointing : Outcome → Scene → Scene
  pointing o z =
      hosted
      (record { ahead = z.host.ahead; pointed = true; phase = z.host.phase; give = z.host.give; got = z.host.got; noted = z.host.noted })
      o z

  unfoldable pub accessing : Access → List Access → Outcome → Scene → Scene
  accessing x l o z = hosted (made g x (valued o) (planned l z.host)) o z

  unfoldable pub access_by : List Access → Bool → Scene → Scene
  access_by [] pointed z = looking (does auxiliary z.chip) z
  access_by (x ∷ l) false z = pointing (does (pointer 1 (address_of x)) z.chip) z
  access_by (x ∷ l) true z = accessing x l (does (call_of x z.host) z.chip) z

  abbrev pub access : Scene → Scene
  access z = access_by z.host.ahead z.host.pointed z

  -- what the host's program has come to; where that is to look, or an access that came of a look, what the current state asks for
  unfoldable pub due_by : List Access → Scene → List Access
  due_by [] z = asked (valued (does auxiliary z.chip)) z.host.phase
  due_by (put a b ∷ l) z = put a b ∷ l
  due_by (get a ∷ l) z = get a ∷ l
  due_by (code ∷ l) z = asked (valued (does auxiliary z.chip)) z.host.phase
  due_by (take ∷ l) z = asked (valued (does auxiliary z.chip)) z.host.phase
  due_by (send ∷ l) z = asked (valued (does auxiliary z.chip)) z.host.phase

  abbrev pub due : Scene → List Access
  due z = due_by z.host.ahead z

  -- the first access that is due is made: the pointer is set, then the register is read or written
  abbrev pub attended : Scene → Scene
  attended z = access (access (replanned (due z) z))

  -- the Target's next move is taken; with the bus free, the host has nothing left to do
  unfoldable pub onward : Place → Scene → Bool
  onward calling z = took (does answer z.chip)
  onward talking z = offer_taken z.target.ahead z
  onward away z = is_none (due z)

  pub data Brought : Scene → Type 0 where
    now : {z : Scene} → onward z.target.place z ≡ true → Brought z
    later : {z : Scene} → is_none (due (bus z)) ≡ false → Brought (attended (bus z)) → Brought z

  -- how many accesses bring it on: the measure that each of them lowers by one
  abbrev pub accesses : {z : Scene} → Brought z → ℕ
  accesses (now e) = 0
  accesses (later e b) = suc (accesses b)

  -- any interleaving

  unfoldable pub move : Move → Scene → Scene
  move offer z = bus z
  move (pass n) z = passing n z
  move work z = access z

  unfoldable pub moves : List Move → Scene → Scene
  moves [] z = z
  moves (m ∷ l) z = moves l (move m z)
