-- One of two values, by a test. Assumes nothing.
use Rattle.std.specs.Prelude.{Bool, true, false}

-- the first where the test passes, else the second
abbrev pub pick : {A : Type 0} → Bool → A → A → A
pick true one other = one
pick false one other = other
