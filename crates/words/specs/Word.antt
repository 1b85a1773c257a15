-- Words of 32 bits, little-endian, in a list of bytes. Assumes nothing.
use Rattle.std.specs.Prelude.{ℕ, ◌+◌, ◌*◌, ◌/◌, ◌%◌, List, get_or, set}

-- the number that the four bytes from `at` on spell, the lowest first
unfoldable pub word_at : List ℕ → ℕ → ℕ
word_at bytes at =
    get_or bytes at 0 + get_or bytes (at + 1) 0 * 256 + get_or bytes (at + 2) 0 * 65536 + get_or bytes (at + 3) 0 * 16777216

-- the bytes with the four of `value`, the lowest first, from `at` on
unfoldable pub put_at : List ℕ → ℕ → ℕ → List ℕ
put_at bytes at value =
    set
    (set (set (set bytes at (value % 256)) (at + 1) (value / 256 % 256)) (at + 2) (value / 65536 % 256))
    (at + 3)
    (value / 16777216)
