-- A part of a list that is lent to its end, and what the whole is after the part has been written. Assumes nothing.
use mathlib.Core.Path.{◌≡◌}
use mathlib.Core.List.{List, ◌++◌, append-nil}
use Prim.Native.Nat.{ℕ, ◌-◌}
use lib.ListN.{length, take, drop, length-drop}
use lib.Seq.{take-length, drop-length}
use borrow.Rule.Slice.PartMut.{put_mid}

pub tail_part : (at : ℕ) (s : List ℕ) → take (length s - at) (drop at s) ≡ drop at s
tail_part at s = rw (← length-drop at s) (take-length (drop at s))

pub tail_put : (at : ℕ) (s part : List ℕ) → put_mid at (length s - at) s part ≡ take at s ++ part
tail_put at s part = rw (← length-drop at s) (simp (drop-length (drop at s), append-nil))
