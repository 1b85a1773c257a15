-- The list of offered moves holds just the moves that the test offers. Assumes nothing.
use mathlib.Core.Path.{◌≡◌, ◌∙◌, refl, sym, ap, subst}
use mathlib.Core.Bool.{Bool, true, false, ◌&&◌}
use mathlib.Core.List.Memᴰ
use mathlib.Core.List.{List, [], ◌∷◌, Memᴰ}
use mathlib.Core.Logic.{⊎_elim}
use Prim.Native.Nat.{ℕ, zero, suc, ◌+◌, ◌≤◌, ◌<◌}
use native.Mathlib.Omega.{arith}
use native.Mathlib.Nat.{eq-or-lt_of_le}
use borrow.Author.Tests.{leb-true, eqb-true, eq-eqb, ne_eqb}
use lib.Dec.{leb, eqb}
use Rattle.booleans.proofs.Tests.{cases, and_true}
use Rattle.driving.specs.Hours.{first_pause, last_pause, pause_count, allows_pause}
use Rattle.states.specs.declared.State.{State}
use Rattle.moves.specs.declared.Move.{Move}
use Rattle.moves.specs.Trip.{Trip, counted, park_in, roads_in}
use Rattle.moves.specs.Moves.{move, leaves, may_pause, offers, chosen, offered}
use Rattle.moves.proofs.Stepped.{offered_road}

counted_mem : (k n r : ℕ) → k ≤ r → r < k + n → Memᴰ r (counted (λ r. r) k n)
unfolding counted
counted_mem k zero r low high = absurd (omega arith)
counted_mem k (suc n) r low high =
    ⊎_elim
    (λ (same : k ≡ r). Memᴰ.head (sym same))
    (λ (later : k < r). Memᴰ.tail (counted_mem (k + 1) n r (omega arith) (omega arith)))
    (eq-or-lt_of_le low)

pub counted_low : (k n : ℕ) {r : ℕ} → Memᴰ r (counted (λ r. r) k n) → k ≤ r
unfolding counted
counted_low k zero at = absurd (Memᴰ.not-nil at)
counted_low k (suc n) {r} at =
    ⊎_elim
    (λ (same : r ≡ k). omega arith)
    (λ (later : Memᴰ r (counted (λ r. r) (k + 1) n)). omega (arith, counted_low (k + 1) n later))
    (Memᴰ.cases_cons at)

-- the moves chosen are those of the numbers that pass
module _ (test : ℕ → Bool) (made : ℕ → Move) where
  chosen_in : (ns : List ℕ) {n : ℕ} → Memᴰ n ns → test n ≡ true → Memᴰ (made n) (chosen test made ns)
  unfolding chosen
  chosen_in [] at e = absurd (Memᴰ.not-nil at)
  chosen_in (x ∷ ns) {n} at e =
      ⊎_elim
      (λ (same : n ≡ x). rw (ap test (sym same) ∙ e, chosen) (Memᴰ.head (ap made same)))
      (λ (later : Memᴰ n ns).
      ⊎_elim
      (λ (kept : test x ≡ true). rw (kept, chosen) (Memᴰ.tail (chosen_in ns later e)))
      (λ (dropped : test x ≡ false). rw (dropped, chosen) (chosen_in ns later e))
      (cases (test x)))
      (Memᴰ.cases_cons at)

  pub chosen_from : (ns : List ℕ) {m : Move} → Memᴰ m (chosen test made ns) → (n : ℕ) × (m ≡ made n) × (test n ≡ true) × Memᴰ n ns
  unfolding chosen
  chosen_from [] at = absurd (Memᴰ.not-nil at)
  chosen_from (x ∷ ns) {m} at =
      ⊎_elim
      (λ (kept : test x ≡ true).
      ⊎_elim
      (λ (same : m ≡ made x). (x, same, kept, Memᴰ.head refl))
      (λ (later : Memᴰ m (chosen test made ns)). further (chosen_from ns later))
      (Memᴰ.cases_cons (rw (kept, chosen) at at)))
      (λ (dropped : test x ≡ false). further (chosen_from ns (rw (dropped, chosen) at at)))
      (cases (test x))
    where
      further : (n : ℕ) × (m ≡ made n) × (test n ≡ true) × Memᴰ n ns → (n : ℕ) × (m ≡ made n) × (test n ≡ true) × Memᴰ n (x ∷ ns)
      further f = (f.0, f.1, f.2, Memᴰ.tail f.3)

-- a pause of a kind from the first to the last, that the rules have for the driver's figures
pub pause_range : (trip : Trip) (s : State) (kind : ℕ) → may_pause trip s kind ≡ true → (first_pause ≤ kind) × (kind ≤ last_pause)
pause_range trip s kind e =
    let range = and_true {a = leb first_pause kind} (and_true {a = leb first_pause kind && leb kind last_pause} e).0 in
    (leb-true _ _ range.0, leb-true _ _ range.1)

pub pause_allowed : (trip : Trip) (s : State) (kind : ℕ) → may_pause trip s kind ≡ true → allows_pause trip.order.rules s.figures kind ≡ true
pause_allowed trip s kind e = (and_true {a = park_in trip s.junction} (and_true {a = leb first_pause kind && leb kind last_pause} e).1).1

-- an offered move: a drive of a road of the junction, or a pause here of a kind that the rules offer
pub data Offer (trip : Trip) (s : State) (m : Move) : Type 0 where
  by_drive : m ≡ move 1 m.number → leaves trip s.junction m.number ≡ true → Offer trip s m
  by_pause : m ≡ move m.kind s.junction → may_pause trip s m.kind ≡ true → Offer trip s m

pub offer : (trip : Trip) (s : State) (m : Move) → offers trip s m ≡ true → Offer trip s m
unfolding offers
offer trip s m e =
    ⊎_elim
    (λ (drive : eqb m.kind 1 ≡ true). by_drive (ap (λ (k : ℕ). move k m.number) (eqb-true _ _ drive)) (rw drive at e))
    (λ (pause : eqb m.kind 1 ≡ false).
    let here = and_true {a = eqb m.number s.junction} (rw pause at e) in
    by_pause (ap (move m.kind) (eqb-true _ _ here.0)) here.1)
    (cases (eqb m.kind 1))

module _ (trip : Trip) (s : State) where
  pub offers_drive : (r : ℕ) → leaves trip s.junction r ≡ true → offers trip s (move 1 r) ≡ true
  unfolding offers
  offers_drive r e = e

  pub offers_pause : (kind : ℕ) → may_pause trip s kind ≡ true → offers trip s (move kind s.junction) ≡ true
  unfolding offers
  offers_pause kind e =
      rw (ne_eqb kind 1 (λ is. omega (arith, pause_range trip s kind e)), eq-eqb s.junction s.junction refl) e

  abbrev here_drives : List Move
  here_drives = chosen (leaves trip s.junction) (move 1) (counted (λ r. r) 1 (roads_in trip))

  abbrev here_pauses : List Move
  here_pauses = chosen (may_pause trip s) (λ kind. move kind s.junction) (counted (λ k. k) first_pause pause_count)

  pub offered_in : (m : Move) → offers trip s m ≡ true → Memᴰ m (offered trip s)
  unfolding offered
  offered_in m e = by (offer trip s m e)
    where
      by : Offer trip s m → Memᴰ m (offered trip s)
      by (by_drive is leaving) =
          let range = offered_road trip s m e (eq-eqb _ _ (ap (λ (n : Move). n.kind) is)) in
          Memᴰ.append_left here_pauses
          (subst (λ (x : Move). Memᴰ x here_drives) (sym is)
          (chosen_in _ _ _ (counted_mem 1 (roads_in trip) m.number range.0 (omega (arith, range.1))) leaving))
      by (by_pause is may) =
          let range = pause_range trip s m.kind may in
          Memᴰ.append_right here_drives
          (subst (λ (x : Move). Memᴰ x here_pauses) (sym is)
          (chosen_in (may_pause trip s) (λ kind. move kind s.junction) _ (counted_mem first_pause pause_count m.kind range.0 (omega (arith, range.1))) may))

  pub offered_from : (m : Move) → Memᴰ m (offered trip s) → offers trip s m ≡ true
  unfolding offered
  offered_from m at =
      ⊎_elim
      (λ drive.
      let found = chosen_from _ _ (counted (λ r. r) 1 (roads_in trip)) drive in
      rw found.1 (offers_drive found.0 found.2))
      (λ pause.
      let found = chosen_from (may_pause trip s) (λ kind. move kind s.junction) (counted (λ k. k) first_pause pause_count) pause in
      rw found.1 (offers_pause found.0 found.2))
      (Memᴰ.append_cases here_drives at)
