-- Words of bytes that are put behind each other: those of the first, and those of the second. Assumes nothing.
use mathlib.Core.Path.{◌≡◌}
use mathlib.Core.List.{List, ◌++◌}
use Prim.Native.Nat.{ℕ, ◌+◌, ◌≤◌}
use native.Mathlib.Nat.{add_assoc}
use native.Mathlib.Omega.{arith}
use lib.ListN.{length, get_or, get_or-append}
use lib.Seq.{get_or-append-add}
use Rattle.words.specs.Word.{word_at}

pub word_within : (p t : List ℕ) (at : ℕ) → at + 4 ≤ length p → word_at (p ++ t) at ≡ word_at p at
unfolding word_at
word_within p t at fits =
    rw (get_or-append p t 0 at (omega arith), get_or-append p t 0 (at + 1) (omega arith), get_or-append p t 0 (at + 2) (omega arith), get_or-append p t 0 (at + 3) (omega arith))

byte_past : (p t : List ℕ) (n i : ℕ) → length p ≡ n → get_or (p ++ t) (n + i) 0 ≡ get_or t i 0
byte_past p t n i e = rw (← e) (get_or-append-add p t i 0)

-- behind the first n bytes
pub word_past : (p t : List ℕ) (n at : ℕ) → length p ≡ n → word_at (p ++ t) (n + at) ≡ word_at t at
unfolding word_at
word_past p t n at e =
    rw (add_assoc n at 1, add_assoc n at 2, add_assoc n at 3, byte_past p t n at e, byte_past p t n (at + 1) e, byte_past p t n (at + 2) e, byte_past p t n (at + 3) e)
