-- The parent's move: the first of the offered moves that leads there, which is the lowest by kind and then by number. Assumes nothing.
use mathlib.Core.Path.{◌≡◌, refl, sym, ap, subst, ◌∙◌}
use mathlib.Core.Bool.{Bool, true, false}
use mathlib.Core.List.Memᴰ
use mathlib.Core.List.{List, [], ◌∷◌, ◌++◌, Memᴰ}
use mathlib.Core.Logic.{◌⊎◌, inl, inr, ⊎_elim}
use mathlib.Core.Option.{some}
use Prim.Native.Nat.{ℕ, zero, suc, ◌+◌, ◌<◌}
use native.Mathlib.Omega.{arith}
use Rattle.booleans.proofs.Tests.{cases, not_both, and_true, T_true, true_T}
use Rattle.driving.specs.Hours.{first_pause, pause_count}
use Rattle.states.specs.declared.State.{State}
use Rattle.moves.specs.declared.Move.{Move}
use Rattle.moves.specs.Trip.{Trip, counted, roads_in}
use Rattle.moves.specs.Moves.{move, leaves, may_pause, chosen, offers, offered, after}
use Rattle.states.specs.States.{legal, same_state}
use Rattle.moves.proofs.Offered.{counted_low, chosen_from, offered_in, offered_from}
use Rattle.journeys.specs.Journeys.{succs}
use Rattle.journeys.specs.Plan.{moves_to, first_to, move_to}
use Rattle.states.proofs.Compared.{same_decides}
use Rattle.journeys.proofs.Journeys.{succs_from}

-- m stands before n: a lower kind, or the same kind and a lower number
pub data Before (m n : Move) : Type 0 where
  kind_below : m.kind < n.kind → Before m n
  number_below : m.kind ≡ n.kind → m.number < n.number → Before m n

-- each move stands before those after it
pub data InOrder : List Move → Type 0 where
  order_nil : InOrder []
  order_cons : {m : Move} {ms : List Move} → ((n : Move) → Memᴰ n ms → Before m n) → InOrder ms → InOrder (m ∷ ms)

order_append : {l r : List Move} → InOrder l → InOrder r → ((m n : Move) → Memᴰ m l → Memᴰ n r → Before m n) → InOrder (l ++ r)
order_append order_nil q f = q
order_append (order_cons {m = m} {ms = ms} b p) q f =
    order_cons
    (λ n at. ⊎_elim (b n) (f m n (Memᴰ.head refl)) (Memᴰ.append_cases ms at))
    (order_append p q (λ x y at. f x y (Memᴰ.tail at)))

-- moves made of rising numbers stand in order, where a lower number makes a move before
module _ (test : ℕ → Bool) (made : ℕ → Move) where
  chosen_order : ((x y : ℕ) → x < y → Before (made x) (made y)) → (k n : ℕ) → InOrder (chosen test made (counted (λ r. r) k n))
  unfolding chosen counted
  chosen_order rises k zero = order_nil
  chosen_order rises k (suc n) =
      ⊎_elim
      (λ (kept : test k ≡ true).
      rw (kept, chosen)
      (order_cons {m = made k}
      (λ m at. let f = chosen_from test made (counted (λ r. r) (k + 1) n) at in subst (Before (made k)) (sym f.1) (rises k f.0 (omega (arith, counted_low (k + 1) n f.3))))
      (chosen_order rises (k + 1) n)))
      (λ (dropped : test k ≡ false). rw (dropped, chosen) (chosen_order rises (k + 1) n))
      (cases (test k))

-- the offered moves stand by kind and then by number
pub offered_order : (trip : Trip) (s : State) → InOrder (offered trip s)
unfolding offered
offered_order trip s =
    order_append (chosen_order drives (move 1) (λ x y h. number_below refl h) 1 (roads_in trip)) (chosen_order pauses pausing (λ x y h. kind_below h) first_pause pause_count)
    (λ m n at bt.
    let f = chosen_from drives (move 1) (counted (λ r. r) 1 (roads_in trip)) at in
    let g = chosen_from pauses pausing (counted (λ k. k) first_pause pause_count) bt in
    kind_below (omega (arith, ap (λ (x : Move). x.kind) f.1, ap (λ (x : Move). x.kind) g.1, counted_low first_pause pause_count g.3)))
  where
    drives : ℕ → Bool
    drives = leaves trip s.junction

    pauses : ℕ → Bool
    pauses = may_pause trip s

    pausing : ℕ → Move
    pausing kind = move kind s.junction

module _ (trip : Trip) (p t : State) where
  -- a legal move from p to t
  pub record MoveTo (m : Move) : Type 0 where
    pub offered : offers trip p m ≡ true
    pub lawful : legal trip.order (after trip p m) ≡ true
    pub result : after trip p m ≡ t

  pub test_move : (m : Move) → moves_to trip p t m ≡ true → (legal trip.order (after trip p m) ≡ true) × (after trip p m ≡ t)
  test_move m e =
      let both = and_true {a = legal trip.order (after trip p m)} e in
      (both.0, same_decides.same (after trip p m) t (true_T both.1))

  pub move_test_lem : (m : Move) → legal trip.order (after trip p m) ≡ true → after trip p m ≡ t → moves_to trip p t m ≡ true
  move_test_lem m l e = rw (l, ap (λ (z : State). same_state (after trip p m) z) (sym e)) (T_true (same_decides.self (after trip p m)))

  -- the first that passes: a member that passes, before every other that does
  first_found : (ms : List Move) → InOrder ms → {n : Move} → Memᴰ n ms → moves_to trip p t n ≡ true
      → (m : Move) × (first_to trip p t ms ≡ some m) × Memᴰ m ms × (moves_to trip p t m ≡ true) × ((m ≡ n) ⊎ Before m n)
  unfolding first_to
  first_found [] o at e = absurd (Memᴰ.not-nil at)
  first_found (x ∷ xs) (order_cons b o) {n} at e =
      ⊎_elim
      (λ (here : moves_to trip p t x ≡ true).
      (x, rw (here, first_to), Memᴰ.head refl, here, ⊎_elim (λ (same : n ≡ x). inl (sym same)) (λ (later : Memᴰ n xs). inr (b n later)) (Memᴰ.cases_cons at)))
      (λ (not-here : moves_to trip p t x ≡ false).
      ⊎_elim
      (λ (same : n ≡ x). absurd (not_both e (ap (moves_to trip p t) same ∙ not-here)))
      (λ (later : Memᴰ n xs).
      let rest = first_found xs o later e in
      (rest.0, rw (not-here, first_to) rest.1, Memᴰ.tail rest.2, rest.3, rest.4))
      (Memᴰ.cases_cons at))
      (cases (moves_to trip p t x))

  -- the parent's move is a legal move from the parent, and of such moves the lowest by kind and then by number
  pub lowest_move : (n : Move) → MoveTo n → (m : Move) × (move_to trip p t ≡ some m) × MoveTo m × ((m ≡ n) ⊎ Before m n)
  unfolding move_to
  lowest_move n f =
      let found = first_found (offered trip p) (offered_order trip p) (offered_in trip p n f.offered) (move_test_lem n f.lawful f.result) in
      let is = test_move found.0 found.3 in
      (found.0, found.1, record { offered = offered_from trip p found.0 found.2; lawful = is.0; result = is.1 }, found.4)

  -- where one move leads from p to t there is a parent's move
  pub move_some : Memᴰ t (succs trip p) → (m : Move) × (move_to trip p t ≡ some m) × MoveTo m
  move_some at =
      let one = succs_from trip p at in
      let found = lowest_move one.move (record { offered = one.offered; lawful = one.lawful; result = sym one.result }) in
      (found.0, found.1, found.2)

  -- a legal move from p to t before every other is the parent's move
  pub move_is : (m : Move) → MoveTo m → ((n : Move) → MoveTo n → (m ≡ n) ⊎ Before m n) → move_to trip p t ≡ some m
  move_is m f lowest =
      let found = lowest_move m f in
      found.1 ∙ ap some (⊎_elim (λ e. e) (λ before. ⊎_elim (λ e. sym e) (λ after'. absurd (not_twice before after')) (lowest found.0 found.2)) found.3)
    where
      not_twice : {m n : Move} → Before m n → Before n m → ⊥
      not_twice (kind_below h) (kind_below k) = omega arith
      not_twice (kind_below h) (number_below e k) = omega arith
      not_twice (number_below e h) (kind_below k) = omega arith
      not_twice (number_below e h) (number_below f k) = omega arith
