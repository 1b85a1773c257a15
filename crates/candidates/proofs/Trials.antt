-- The best of the cursors tried, one after the other. Assumes nothing.
use mathlib.Core.Path.{◌≡◌, ◌∙◌, refl, sym, subst}
use mathlib.Core.Bool.{Bool, true, false, not}
use mathlib.Core.List.Memᴰ
use mathlib.Core.List.{List}
use mathlib.Core.Logic.{inl, inr, ⊎_elim}
use Prim.Native.Nat.{ℕ, ◌+◌, ◌≤◌, ◌<◌}
use native.Mathlib.Omega.{arith}
use native.Mathlib.Nat.{eq-or-lt_of_le}
use borrow.Author.Tests.{ltb-true, ltb-false}
use lib.Dec.{T, T_not, not_T, ltb}
use Rattle.booleans.proofs.Tests.{cases, true_T}
use Rattle.theory.specs.States.{Covered}
use Rattle.theory.proofs.Sorting.{le_of_not, never_self}
use Rattle.states.specs.declared.State.{State}
use Rattle.states.specs.States.{covers, ranks_no_higher}
use Rattle.states.proofs.Compared.{rank_order, lower_clock, rank_clock, legal_clock}
use Rattle.moves.specs.Trip.{Trip}
use Rattle.moves.specs.Runs.{SoundTrip}
use Rattle.labels.specs.declared.Candidate.{Candidate}
use Rattle.labels.specs.LabelWords.{settled}
use Rattle.candidates.specs.Candidates.{result_at, Names, no_candidate, Fitting}
use Rattle.candidates.specs.Next.{above, Forestalled, Needless}
use Rattle.candidates.specs.Trying.{Before, Follows, Apart, Other, BestBelow, Joined, same, higher, lower}
use Rattle.candidates.proofs.Results.{clock_some, clock_none, junction_some, junction_none}

-- where b does not rank at or below t, t ranks below b
pub is_lower : (b t : State) → ranks_no_higher b t ≡ false → T (not (ranks_no_higher b t))
is_lower b t e = rw e tt

-- what ranks below t, which ranks no higher than b, ranks below b
pub below_below : (b t x : State) → T (ranks_no_higher t b) → T (not (ranks_no_higher t x)) → T (not (ranks_no_higher b x))
below_below b t x p q = not_T (ranks_no_higher b x) (λ h. T_not (ranks_no_higher t x) q (rank_order.trans t b x p h))

-- what ranks below the best is apart from it
pub below_apart : (more : Bool) (b t : State) → T (not (ranks_no_higher b t)) → Apart more b t
below_apart true b t below = below
below_apart false b t below = λ e. never_self rank_order b t e below

-- the best is not apart from itself
self_apart : (more : Bool) (b t : State) → b ≡ t → Apart more b t → ⊥
self_apart true b t e apart = never_self rank_order b t e apart
self_apart false b t e apart = apart e

-- By clocks: that of a legal state is below the clock of no candidate.
module _ {trip : Trip} (sound : SoundTrip trip) {s : State} {best : Candidate} (held : Fitting trip s best) {cursor : ℕ} (named : Names trip s cursor) where
  abbrev before : State
  before = result_at trip s best.cursor

  abbrev this : State
  this = result_at trip s cursor

  pub some_best : best.clock.0 ≤ this.clock.0 → 1 ≤ best.cursor
  some_best late =
      ⊎_elim
      (λ (some : ltb 0 best.cursor ≡ true). ltb-true _ _ some)
      (λ (none : ltb 0 best.cursor ≡ false).
      absurd (omega (arith, held.clock, clock_none trip s best.cursor (ltb-false _ _ none), legal_clock trip.order this named.lawful, sound.ordered.latest_high)))
      (cases (ltb 0 best.cursor))

  pub later_higher : best.clock.0 < this.clock.0 → T (ranks_no_higher before this)
  later_higher late = lower_clock _ _ (omega (arith, held.clock, clock_some trip s best.cursor (some_best (omega arith))))

  pub joined_higher : best.clock.0 < this.clock.0 → Joined trip s best cursor (record { cursor = best.cursor; junction = best.junction; clock = best.clock; more = true })
  joined_higher late = higher (some_best (omega arith)) (later_higher late)

  pub joined_lower : {junction clock : ℕ} {more : Bool} → junction ≡ this.junction → clock ≡ this.clock.0 → clock < best.clock.0 → (1 ≤ best.cursor → more ≡ true)
      → Joined trip s best cursor (record { cursor = cursor; junction = junction; clock = record { 0 = clock }; more = more })
  joined_lower there is early told =
      lower _ _ _ there is
      (λ some. (not_T (ranks_no_higher before this) (λ ranks. omega (arith, rank_clock before this ranks, held.clock, clock_some trip s best.cursor some)), told some))

-- no candidate fits every state
pub no_fit : (trip : Trip) (s : State) → Fitting trip s no_candidate
no_fit trip s = record { named = λ some. absurd (omega arith); clock = sym (clock_none trip s 0 (omega arith)); junction = sym (junction_none trip s 0 (omega arith)) }

-- nothing is tried yet
pub tried_none : (trip : Trip) (labels : List State) (before : ℕ) (s bound : State) → BestBelow trip labels before s bound 1 no_candidate
tried_none trip labels before s bound =
    record {
      found = record {
        held = no_fit trip s;
        higher = λ some. absurd (omega arith);
        uncovered = λ some. absurd (omega arith);
      };
      passed = λ c under other. absurd (omega (arith, under (omega arith), other.named.low));
    }

-- cursors passed over need no trial
pub tried_over : {trip : Trip} {labels : List State} {before : ℕ} {s bound : State} {cursor next : ℕ} {best : Candidate} → Follows trip s cursor next
    → BestBelow trip labels before s bound (cursor + 1) best → BestBelow trip labels before s bound next best
tried_over {cursor = cursor} follows tried =
    record {
      found = tried.found;
      passed = λ c under other.
          ⊎_elim
          (λ (past : ltb cursor c ≡ true). absurd (follows.over c (ltb-true cursor c past) under other.named))
          (λ (upto : ltb cursor c ≡ false). tried.passed c (λ some. omega (arith, ltb-false cursor c upto)) other)
          (cases (ltb cursor c));
    }

-- One more is tried.
module _ {trip : Trip} {labels : List State} {before : ℕ} {s bound : State} {cursor : ℕ} {best : Candidate} (tried : BestBelow trip labels before s bound cursor best) where
  -- the others below it were so of the best before, and it needs no turn if it is one
  on : (r : Candidate) → ((c : ℕ) → Other trip s bound r c → Other trip s bound best c) → (Other trip s bound r cursor → Needless trip labels before (result_at trip s cursor))
      → (c : ℕ) → Before (cursor + 1) c → Other trip s bound r c → Needless trip labels before (result_at trip s c)
  on r others own c under other =
      ⊎_elim
      (λ (is : c ≡ cursor). subst (λ (c : ℕ). Other trip s bound r c → Needless trip labels before (result_at trip s c)) (sym is) own other)
      (λ (less : c < cursor). tried.passed c (λ some. less) (others c other))
      (eq-or-lt_of_le {n = c} {m = cursor} (omega (arith, under (omega arith))))

  -- the best stays
  kept : (Other trip s bound best cursor → Needless trip labels before (result_at trip s cursor)) → BestBelow trip labels before s bound (cursor + 1) best
  kept own = record { found = tried.found; passed = on best (λ c other. other) own }

  -- it names no legal move
  pub kept_unnamed : (Names trip s cursor → ⊥) → BestBelow trip labels before s bound (cursor + 1) best
  kept_unnamed none = kept (λ other. absurd (none other.named))

  -- what it leads to is not above the bound
  pub kept_low : ranks_no_higher (result_at trip s cursor) bound ≡ true → BestBelow trip labels before s bound (cursor + 1) best
  kept_low low = kept (λ other. absurd (T_not (ranks_no_higher (result_at trip s cursor) bound) other.higher (true_T low)))

  -- or, if it is legal, is later than the best, where there may be more in any case
  pub kept_later : SoundTrip trip → best.more ≡ true → best.clock.0 < (result_at trip s cursor).clock.0 → BestBelow trip labels before s bound (cursor + 1) best
  kept_later sound more late =
      kept
      (λ other.
      let held = tried.found.held in
      let some = some_best sound held other.named (omega arith) in
      absurd
      (T_not (ranks_no_higher (result_at trip s best.cursor) (result_at trip s cursor))
      (subst (λ (m : Bool). Apart m (result_at trip s best.cursor) (result_at trip s cursor)) more (other.apart some)) (later_higher sound held other.named late)))

  -- or needs no turn: it is covered, or forestalled
  pub kept_covered : Covered covers labels (result_at trip s cursor) → BestBelow trip labels before s bound (cursor + 1) best
  kept_covered covered = kept (λ other. inl covered)

  pub kept_forestalled : Forestalled trip labels before (result_at trip s cursor) → BestBelow trip labels before s bound (cursor + 1) best
  kept_forestalled forestalled = kept (λ other. inr forestalled)

  -- it is one more candidate
  pub tried_joined : {r : Candidate} → Names trip s cursor → T (above bound (result_at trip s cursor)) → (Covered covers labels (result_at trip s cursor) → ⊥) → Joined trip s best cursor r
      → BestBelow trip labels before s bound (cursor + 1) r
  tried_joined named over free (same some is) = kept (λ other. absurd (self_apart best.more _ _ is (other.apart some)))
  tried_joined named over free (higher some ranks) =
      let old = tried.found in
      record {
        found = record {
          held = record { named = old.held.named; clock = old.held.clock; junction = old.held.junction };
          higher = old.higher;
          uncovered = old.uncovered;
        };
        passed = on _
            (λ c other. record { named = other.named; higher = other.higher; apart = λ one. below_apart best.more _ _ (other.apart one) })
            (λ other. absurd (T_not (ranks_no_higher (result_at trip s best.cursor) (result_at trip s cursor)) (other.apart some) ranks));
      }
  tried_joined named over free (lower more junction clock there is under) =
      record {
        found = record {
          held = record { named = λ some. named; clock = is ∙ sym (clock_some trip s cursor named.low); junction = there ∙ sym (junction_some trip s cursor named.low) };
          higher = λ some. over;
          uncovered = λ some. free;
        };
        passed = on _
            (λ c other.
            record {
              named = other.named;
              higher = other.higher;
              apart = λ one.
                  let lowest = under one in
                  below_apart best.more _ _
                  (below_below (result_at trip s best.cursor) (result_at trip s cursor) (result_at trip s c) (le_of_not rank_order (result_at trip s cursor) (result_at trip s best.cursor) lowest.0)
                  (subst (λ (m : Bool). Apart m (result_at trip s cursor) (result_at trip s c)) lowest.1 (other.apart named.low)));
            })
            (λ other. absurd (self_apart more (result_at trip s cursor) _ refl (other.apart named.low)));
      }

-- no label covers anything where there is none
pub none_covers : (ws : List ℕ) (t : State) → Covered covers (settled ws 0) t → ⊥
unfolding settled
none_covers ws t C = Memᴰ.not-nil C.1
