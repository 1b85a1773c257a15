-- Letters of a name, and words of letters. Document 01, "Map", and document 02, P4. Assumes nothing.
use mathlib.Core.List.{Memᴰ}
use Rattle.std.specs.Prelude.{ℕ, ◌≤◌}
use Rattle.sheets.specs.Sheet.{word_bytes}

-- a name byte: 0x20 to 0x7E
abbrev pub Letter : ℕ → Type 0
Letter byte = (0x20 ≤ byte) × (byte ≤ 0x7E)

-- all four bytes of a word are letters
abbrev pub AllLetters : ℕ → Type 0
AllLetters word = (byte : ℕ) → Memᴰ byte (word_bytes word) → Letter byte
