-- Which label reaches a junction's room, named: the lowest that does. Assumes nothing.
use mathlib.Core.Path.{◌≡◌, refl}
use mathlib.Core.Bool.{Bool, ◌&&◌}
use mathlib.Core.HLevel.{⊥_prop}
use mathlib.Core.List.{List}
use mathlib.Core.Logic.{∥∥₁_elim}
use mathlib.Core.Option.{Option, none, some}
use Prim.Native.Nat.{ℕ, ◌-◌, ◌≤◌}
use native.Mathlib.Omega.{arith}
use lib.Dec.{T, eqb, eqb→eq, eqb_refl}
use Rattle.booleans.proofs.Tests.{not_both, T_true, true_T, and_l, and_r, and_i}
use Rattle.replies.specs.First.{lowest}
use Rattle.replies.proofs.First.{lowest_some, lowest_is_none}
use Rattle.labels.specs.LabelWords.{largest_word, field, junction_of}
use Rattle.labels.specs.Lists.{RoomAt}

pub room_reached : {f : ℕ} {ws : List ℕ} {n j v : ℕ} → RoomAt f ws n j v → 1 ≤ v
    → (k : ℕ) × (1 ≤ k) × (k ≤ n) × (junction_of ws k ≡ j) × (largest_word - field ws k f ≡ v)
room_reached {f} {ws} {n} {j} {v} R p = at (lowest fits 1 n) refl
  where
    here : ℕ → Bool
    here k = eqb (junction_of ws k) j

    full : ℕ → Bool
    full k = eqb (largest_word - field ws k f) v

    fits : ℕ → Bool
    fits k = here k && full k

    at : (o : Option ℕ) → lowest fits 1 n ≡ o → (k : ℕ) × (1 ≤ k) × (k ≤ n) × (junction_of ws k ≡ j) × (largest_word - field ws k f ≡ v)
    at (some k) e =
        let L = lowest_some fits 1 n k e in
        let both : T (here k && full k) = true_T L.here in
        (k, L.low, omega (arith, L.high), eqb→eq _ _ (and_l (here k) (full k) both), eqb→eq _ _ (and_r (here k) (full k) both))
    at none e =
        absurd (∥∥₁_elim (R.reached p) ⊥_prop (λ t.
        let at_j : T (here t.0) = rw t.3 (eqb_refl j) in
        let at_v : T (full t.0) = rw t.4 (eqb_refl v) in
        not_both (T_true (and_i (here t.0) (full t.0) at_j at_v)) (lowest_is_none fits 1 n e t.0 t.1 (omega (arith, t.2)))))
