-- The high bits that the test leaves are those of the bytes that are no letters.
use mathlib.Core.Path.{◌∙◌}
use Prim.Native.Nat.{◌+◌, ◌*◌}
use native.Mathlib.Omega.{arith}
use Rattle.mapcheck.proofs.Flaws.{flawed}
use Rattle.mapcheck.proofs.Letters.{bytes_of_two}
use Rattle.mapcheck.proofs.pair_is_bad.Goals as goal

pub returns : goal.returns
returns c = rw (c.from.ensures, c.from-2.ensures) (flawed 8 (c.args.first + c.args.second * 4294967296) ∙ bytes_of_two c.args.first c.args.second (omega arith))
