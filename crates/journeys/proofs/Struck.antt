-- A road struck never helps: every legal journey of the struck trip is, without the drives of that road, one of the trip, and ends in a
-- state that is no worse. Assumes nothing.
use mathlib.Core.Path.{◌≡◌}
use mathlib.Core.Bool.{true, false, not}
use mathlib.Core.List.{List}
use mathlib.Core.Logic.{⊎_elim}
use Prim.Native.Nat.{ℕ}
use lib.Dec.{T}
use Rattle.booleans.proofs.Tests.{cases}
use Rattle.theory.specs.Lists.{select}
use Rattle.states.specs.declared.State.{State}
use Rattle.states.specs.States.{covers}
use Rattle.states.proofs.Compared.{covers_junction, covers_self, covers_trans}
use Rattle.moves.specs.declared.Move.{Move}
use Rattle.moves.specs.Trip.{Trip}
use Rattle.moves.specs.Struck.{struck_in}
use Rattle.moves.proofs.Monotone.{eased_move}
use Rattle.moves.specs.Moves.{after}
use Rattle.moves.proofs.Struck.{drives, struck_order, struck_offers, struck_after, struck_drive}
use Rattle.journeys.specs.Journeys.{Leads, stay, go, start_in, at_target, Journey}
use Rattle.journeys.proofs.Laws.{eases_itself}

-- the moves without the drives of this road
abbrev pub without_drives : ℕ → List Move → List Move
without_drives road ms = select (λ m. not (drives road m)) ms

module _ (trip : Trip) (road : ℕ) where
  -- what moves of the struck trip lead to from a, they lead to without the road's drives in the trip from a state that is no worse, with a
  -- result that is no worse: after such a drive the state is covered as before
  pub struck_leads : {b a t : State} {ms : List Move} → T (covers b a) → Leads (struck_in road trip) a ms t
      → (u : State) × Leads trip b (without_drives road ms) u × T (covers u t)
  unfolding select
  struck_leads {b} over stay = (b, stay, over)
  struck_leads {b} {a} over (go {m = m} o l p) =
      ⊎_elim
      (λ (is : drives road m ≡ true). rw is (struck_leads {b = b} (covers_trans b a _ over (struck_drive trip road a m o is)) p))
      (λ (other : drives road m ≡ false).
      let same = struck_after trip road a m o other in
      let eased =
      eased_move trip trip (eases_itself trip) b a m over (rw (struck_offers trip road a m) at o) (rw (same, struck_order trip road) at l) in
      let rest = struck_leads {b = after trip b m} (rw (← same) at eased.over_after) p in
      rw other (rest.0, go eased.offered eased.lawful rest.1, rest.2))
      (cases (drives road m))

  -- every legal journey of the trip with a road struck has one of the trip that ends in a state no worse
  pub struck_journey : {ms : List Move} {t : State} → Journey (struck_in road trip) ms t
      → (ns : List Move) × (u : State) × Journey trip ns u × T (covers u t)
  unfolding at_target
  struck_journey {ms} j =
      let starts : T (covers (start_in trip) (start_in (struck_in road trip))) = rw (struck_order trip road) (covers_self (start_in trip)) in
      let found = struck_leads starts j.leads in
      (without_drives road ms, found.0, record { leads = found.1; ends = rw (covers_junction _ _ found.2) (rw (struck_order trip road) at j.ends) }, found.2)
