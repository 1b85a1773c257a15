-- A list with some elements from a to b replaced by as many others, and two replacements side by side. Assumes nothing.
use mathlib.Core.Path.{◌≡◌, ◌∙◌, sym, ap}
use mathlib.Core.List.{List, ◌++◌, append_assoc}
use Prim.Native.Nat.{ℕ, ◌+◌, ◌≤◌}
use native.Mathlib.Omega.{arith}
use lib.ListN.{length, take, drop, length-append, length-take, length-drop}
use lib.Seq.{length-take-le, take-append-le, take_at, drop_at, take-take, drop-drop}

abbrev pub splice : List ℕ → ℕ → List ℕ → ℕ → List ℕ
splice s a xs b = take a s ++ xs ++ drop b s

pub length_splice : (s xs : List ℕ) (a b : ℕ) → a + length xs ≡ b → b ≤ length s → length (splice s a xs b) ≡ length s
length_splice s xs a b whole fits = simp (length-append, length-take, length-drop) (omega arith)

module _ (s xs ys : List ℕ) (a b e : ℕ) (first : a + length xs ≡ b) (second : b + length ys ≡ e) (fits : e ≤ length s) where
  -- what is kept in front, and the first replacement
  front : length (take a s ++ xs) ≡ b
  front = simp (length-append, length-take) (omega arith)

  rest : drop e (splice s a xs b) ≡ drop e s
  rest =
      rw (← second) (sym (drop-drop (length ys) b (splice s a xs b)) ∙ ap (λ (l : List ℕ). drop (length ys) l) (drop_at (take a s ++ xs) (drop b s) b front) ∙ drop-drop (length ys) b s)

  -- the second after the first
  pub splice_next : splice (splice s a xs b) b ys e ≡ splice s a (xs ++ ys) e
  splice_next = rw (take_at (take a s ++ xs) (drop b s) b front, rest, append_assoc (take a s) xs ys)

  back : length (take b s) ≡ b
  back = length-take-le b s (omega arith)

  kept : take a (splice s b ys e) ≡ take a s
  kept =
      rw append_assoc (take-append-le a (take b s) (ys ++ drop e s) (rw back (omega arith)) ∙ take-take a b s (omega arith))

  -- the first after the second
  pub splice_before : splice (splice s b ys e) a xs b ≡ splice s a (xs ++ ys) e
  splice_before = rw (kept, append_assoc (take b s) ys (drop e s), drop_at (take b s) (ys ++ drop e s) b back) (simp append_assoc)
