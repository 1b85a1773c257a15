-- The beginning of the search in its words: the lists of no label, and the start as label 1. Assumes nothing.
use mathlib.Core.Path.{◌≡◌, ◌∙◌, sym, ap, subst}
use mathlib.Core.List.{List, [], ◌∷◌}
use Prim.Native.Nat.{ℕ, ◌*◌, ◌≤◌, ◌<◌}
use native.Mathlib.Omega.{arith}
use native.Mathlib.Nat.{le_refl}
use lib.ListN.{length}
use Rattle.driving.specs.declared.Order.{Order}
use Rattle.states.specs.declared.State.{State}
use Rattle.states.specs.States.{start_of}
use Rattle.states.specs.LabelSpace.{label_words}
use Rattle.moves.specs.Trip.{Trip, junctions_in}
use Rattle.moves.specs.declared.given.OpenRun.{OpenRun}
use Rattle.moves.specs.OpenRuns.{searched_trip}
use Rattle.moves.specs.Runs.{RangeIn}
use Rattle.moves.proofs.Rising.{run_starts}
use Rattle.journeys.specs.Journeys.{start_in}
use Rattle.labels.specs.declared.Candidate.{Candidate}
use Rattle.labels.specs.declared.Place.{Place}
use Rattle.labels.specs.LabelWords.{settled, column}
use Rattle.labels.specs.Lists.{LabelAdded}
use Rattle.labels.proofs.Lists.{lists_same}
use Rattle.candidates.specs.Next.{Passes, NextIs}
use Rattle.candidates.proofs.Searched as searched
use Rattle.winners.specs.Keys.{Ready}
use Rattle.winners.specs.Mending.{Mended}
use Rattle.winners.proofs.Keys.{only_labels}
use Rattle.winners.proofs.Steps.{ready_added}
use Rattle.settling.proofs.Turns.{begin}
use Rattle.settling.proofs.Endings.{begin_found}
use Rattle.search.specs.Underway.{cursors_of, parents_of, Underway}
use Rattle.search.specs.Turns.{EndsFound}
use Rattle.search.specs.Beginning.{Begun}
use Rattle.search.proofs.Columns.{added_states, added_cursors, added_parents}
use Rattle.search.proofs.Keeping.{added_kept}
use Rattle.search.proofs.Turning.{passes_wider}
use Rattle.search.proofs.Offering.{at_home, not_home}

module _ (run : OpenRun) where
  abbrev trip : Trip
  trip = searched_trip run

  module _ {start : State} (is : start ≡ start_of run.about.order) where
    pub start_within : RangeIn trip start
    start_within = rw is (run_starts (searched.tied run) (searched.sound run))

    in_trip : start ≡ start_in trip
    in_trip = is ∙ ap start_of (sym (searched.tied run).order)

    -- the start has come in as the first label
    module _ {ws ws₁ : List ℕ} {ps : List Place} {u : Candidate} (next : NextIs trip (settled ws 0) 0 start start u)
        (A : LabelAdded ws ws₁ ps 0 start 0 u) where
      pub first_ready : length ws₁ ≡ length ws → Ready trip ws₁ 1
      first_ready long =
          ready_added A.added trip (λ k low high. absurd (omega arith)) long (omega (arith, A.lists.room)) (omega arith) start_within next.fitting

      loop_next : Passes trip (start_in trip ∷ []) 0 (start_in trip) (start_in trip) u.cursor
      unfolding settled
      loop_next = subst (λ (z : State). Passes trip (z ∷ []) 0 z z u.cursor) in_trip (passes_wider trip [] 0 start start start u.cursor (omega arith) next.passes)

      module _ {ws' : List ℕ} (M : Mended trip ws₁ ws' 1) where
        states : settled ws' 1 ≡ start_in trip ∷ []
        unfolding settled
        states = added_states ws ws₁ ws' A.added M.only ∙ ap (λ (z : State). z ∷ []) in_trip

        cursors : cursors_of ws' 1 ≡ u.cursor ∷ []
        unfolding column
        cursors = added_cursors ws ws₁ ws' A.added M.only

        parents : parents_of ws' 1 ≡ 0 ∷ []
        unfolding column
        parents = added_parents ws ws₁ ws' A.added M.only

        pub begun : junctions_in trip < length ps → Begun trip ws' ps
        begun wide =
            record {
              away = λ out. record {
                low = omega arith;
                lists = lists_same (only_labels ws₁ ws' M.only 1) (M.ready 1 (omega arith) (le_refl 1)).room A.lists;
                wide = wide;
                ready = M.ready;
                tree = M.tree;
                loop = rw (states, cursors, parents) (begin trip (searched.sound run) u.cursor out loop_next);
                kept = added_kept trip ws ws₁ ws' A.added M.only (λ k low high. absurd (omega arith)) start next;
              };
              home = λ t. rw (states, parents) (begin_found trip (searched.sound run) t);
            }

  -- source and target are one junction, or not
  source : (start_in trip).junction ≡ run.about.order.source
  source = ap (λ (o : Order). o.source) (searched.tied run).order

  module _ {ws : List ℕ} {ps : List Place} (B : Begun trip ws ps) where
    pub begins_home : run.about.order.source ≡ run.about.order.target → label_words * 1 ≤ length ws → EndsFound trip ws 1
    begins_home same room = record { answer = start_in trip; room = room; ended = B.home (at_home run (start_in trip) (source ∙ same)) }

    pub begins_away : (run.about.order.source ≡ run.about.order.target → ⊥) → Underway trip ws ps 1
    begins_away apart = B.away (not_home run (start_in trip) (λ e. apart (sym source ∙ e)))
