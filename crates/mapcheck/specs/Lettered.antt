-- What the check of name bytes promises of words and of a stretch of the map. Assumes nothing.
use Rattle.std.specs.Prelude.{ℕ, zero, suc, ◌/◌, ◌%◌, ◌≤◌, ◌<◌, Bool, false, ◌||◌, List, ◌≡◌, length}
use Rattle.mapcheck.specs.MapCheck.{outside, bad_letter_at}

-- one of the n low bytes is no letter
abbrev pub bad_bytes : ℕ → ℕ → Bool
bad_bytes zero value = false
bad_bytes (suc n) value = outside 0x20 0x7E (value % 256) || bad_bytes n (value / 256)

-- one of a word's four bytes is no letter
unfoldable pub bad_word : ℕ → Bool
bad_word word = bad_bytes 4 word

-- the bytes from `from` on are letters as far as `to`
pub record Lettered (map : List ℕ) (from to : ℕ) : Type 0 where
  pub low : from ≤ to
  pub high : to ≤ length map
  pub letters : (i : ℕ) → from ≤ i → i < to → bad_letter_at map i ≡ false
