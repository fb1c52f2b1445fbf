-- How the definitions choose: by a test that is an argument. It holds no sentence of the paper; every other file uses it.
use Rattle.std.specs.Prelude.{Bool, true, false}

-- a where the test holds, else b
unfoldable pub pick : {A : Type 0} → Bool → A → A → A
pick true a b = a
pick false a b = b

-- both tests hold
unfoldable pub both : Bool → Bool → Bool
both true b = b
both false b = false

-- one of the tests holds, or both do
unfoldable pub either : Bool → Bool → Bool
either true b = true
either false b = b
