-- "two addresses that both give 15h with the same place are equal" (paper 02, Req 01), as what a driver does and reads.
--   Ready s              Disconnected, no command runs and no status is unread
--   Loads l              twelve bytes, for registers 03 to 0Eh
--   IsTranslate b        the command byte b is 18h or 98h
--   SameDisk x y         two loads say the same disk: 03 to 06 are the same, 0Ch is 0 in both or in neither, and where it is not, 0Dh and 0Eh are
--                        the same
--   written l            the bytes l are written, one after the other: the pointer steps by itself
--   asked f l b s        the state after a driver, in s, has set the pointer to 03, written l, set the pointer to 18h and written b
--   looks                it reads 17h, and then 0Bh to 0Eh
--   told f l s           what a list of calls answers, one after the other
--   PlaceRead            what it reads at 0Bh to 0Eh
--   Finds f s l b p      a driver that asks l and b in s, and then looks, reads 15h and the place p
--   SamePlaceSameAddress f   the claim, of any two lists of calls from a fresh controller
--   SamePlaceOnAnyDisk f     too much: the same where the disks may differ. It is false of the controller
use Rattle.std.specs.Prelude.{◌≡◌, false, List, [], ◌∷◌, ℕ, ◌<◌, eqb, length, get_or}
use Rattle.chip.specs.Lines.{code_of}
use Rattle.chip.specs.State.{fresh}
use Rattle.chip.specs.Ok.{Bytes}
use Rattle.chip.specs.Translate.{address_of}
use Rattle.chip.specs.Calls.{Call, Outcome, pointer, register, run}
use Rattle.chip.specs.declared.State.{State}
use Rattle.chip.specs.declared.Answer.{Answer}
use Rattle.chip.specs.declared.Answer.TheVariants.{Done}
use Rattle.chip.specs.declared.Activity.TheVariants.{Idle}
use Rattle.chip.specs.declared.Connection.TheVariants.{Disconnected}

pub record Ready (s : State) : Type 0 where
  pub apart : s.wire.connection ≡ Disconnected
  pub idle : s.activity ≡ Idle

pub record Loads (l : List ℕ) : Type 0 where
  pub long : length l ≡ 12
  pub bytes : Bytes l

pub record IsTranslate (b : ℕ) : Type 0 where
  pub byte : b < 256
  pub code : code_of b ≡ 0x18

pub record SameDisk (x y : List ℕ) : Type 0 where
  pub sectors : get_or x 0 0 ≡ get_or y 0 0
  pub heads : get_or x 1 0 ≡ get_or y 1 0
  pub cylinders_high : get_or x 2 0 ≡ get_or y 2 0
  pub cylinders_low : get_or x 3 0 ≡ get_or y 3 0
  pub spares : eqb (get_or x 9 0) 0 ≡ eqb (get_or y 9 0) 0
  pub per_cylinder_high : eqb (get_or x 9 0) 0 ≡ false → get_or x 10 0 ≡ get_or y 10 0
  pub per_cylinder_low : eqb (get_or x 9 0) 0 ≡ false → get_or x 11 0 ≡ get_or y 11 0

abbrev pub written : List ℕ → List Call
written [] = []
written (b ∷ l) = register 1 b ∷ written l

abbrev pub asked : (Call → State → Outcome) → List ℕ → ℕ → State → State
asked f l b s = (f (register 1 b) (f (pointer 1 0x18) (run f (written l) (f (pointer 1 0x03) s).state)).state).state

abbrev pub looks : List Call
looks = pointer 1 0x17 ∷ register 0 0 ∷ pointer 1 0x0B ∷ register 0 0 ∷ register 0 0 ∷ register 0 0 ∷ register 0 0 ∷ []

unfoldable pub told : (Call → State → Outcome) → List Call → State → List Answer
told f [] s = []
told f (c ∷ l) s = (f c s).answer ∷ told f l (f c s).state

pub record PlaceRead : Type 0 where
  pub sector : ℕ
  pub head : ℕ
  pub cylinder_high : ℕ
  pub cylinder_low : ℕ

abbrev pub Finds : (Call → State → Outcome) → State → List ℕ → ℕ → PlaceRead → Type 0
Finds f s l b p =
    told f looks (asked f l b s)
    ≡ Done 0
    ∷ Done 0x15
    ∷ Done 0
    ∷ Done p.sector
    ∷ Done p.head
    ∷ Done p.cylinder_high
    ∷ Done p.cylinder_low
    ∷ []

pub record SamePlaceSameAddress (f : Call → State → Outcome) : Type 0 where
  pub same : (l m : List Call) (x y : List ℕ) (b d : ℕ) (p : PlaceRead) → Ready (run f l fresh) → Ready (run f m fresh) → Loads x → Loads y
      → IsTranslate b → IsTranslate d → SameDisk x y → Finds f (run f l fresh) x b p → Finds f (run f m fresh) y d p
      → address_of x ≡ address_of y

pub record SamePlaceOnAnyDisk (f : Call → State → Outcome) : Type 0 where
  pub same : (l m : List Call) (x y : List ℕ) (b d : ℕ) (p : PlaceRead) → Ready (run f l fresh) → Ready (run f m fresh) → Loads x → Loads y
      → IsTranslate b → IsTranslate d → Finds f (run f l fresh) x b p → Finds f (run f m fresh) y d p → address_of x ≡ address_of y
