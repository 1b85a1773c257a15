-- The labels' keys: what they tell, and what leaves them as they are. Assumes nothing.
use mathlib.Core.Path.{◌≡◌, ◌∙◌, refl, sym, ap, ap₂, subst, subst₂}
use mathlib.Core.Bool.{true}
use mathlib.Core.List.{List, [], ◌∷◌}
use Prim.Native.Nat.{ℕ, zero, suc, ◌+◌, ◌*◌, ◌≤◌, ◌<◌}
use native.Mathlib.Omega.{arith}
use native.Mathlib.Nat.{le_refl}
use native.Mathlib.Decide.{dec_le}
use lib.Arith.{digits_lt}
use lib.Dec.{T}
use lib.ListN.{length}
use Rattle.theory.specs.Numbers.{all_below}
use Rattle.theory.proofs.Numbers.{small_end, small_more, small_both, small_above}
use Rattle.driving.specs.Hours.{highest_figures}
use Rattle.driving.proofs.Hours.{figures_bounded}
use Rattle.states.specs.declared.State.{State}
use Rattle.moves.specs.Trip.{Trip}
use Rattle.moves.specs.Runs.{SoundTrip, RangeIn}
use Rattle.moves.proofs.Rising.{range_after, clock_high, figures_high}
use Rattle.states.specs.States.{figures_of, ranks_no_higher}
use Rattle.states.specs.RankNumber.{word_base, Small, rank_number, rank_top}
use Rattle.labels.specs.declared.Candidate.{Candidate}
use Rattle.labels.specs.LabelWords.{previous_field, cursor_field, own_field, at, label_at, cursor_of, candidate_of, Packs, SameLabels}
use Rattle.labels.proofs.LabelWords.{same_label}
use Rattle.candidates.specs.Candidates.{move_at, result_at, Names, Fitting}
use Rattle.candidates.proofs.Results.{junction_some, junction_none}
use Rattle.winners.specs.Keys.{no_key, key_from, key_at, candidate, Sound, Entrant, Ready, OnlyWinners}
use Rattle.states.proofs.Ranks.{number_low, rank_top_lem}

-- a rank number with a word after it is below the key of no candidate
pub below_none : (s : State) → Small s → (k : ℕ) → k < word_base → rank_number s * word_base + k < no_key
unfolding no_key
below_none s S k h = digits_lt {m = rank_top} {c = word_base} (rank_top_lem s S) h

-- What a key is.
pub key_none : (trip : Trip) (ws : List ℕ) → key_at trip ws 0 ≡ no_key
unfolding key_at
key_none trip ws = refl

from_shut : (trip : Trip) (s : State) (k cursor : ℕ) → cursor ≡ 0 → key_from trip s k cursor ≡ no_key
from_shut trip s k cursor e = rw e

pub key_shut : (trip : Trip) (ws : List ℕ) (k : ℕ) → cursor_of ws k ≡ 0 → key_at trip ws k ≡ no_key
unfolding key_at
key_shut trip ws zero e = refl
key_shut trip ws (suc k) e = from_shut trip _ (suc k) _ e

from_open : (trip : Trip) (s : State) (k cursor : ℕ) → 1 ≤ cursor → key_from trip s k cursor ≡ rank_number (result_at trip s cursor) * word_base + k
from_open trip s k zero low = absurd (omega arith)
from_open trip s k (suc cursor) low = refl

pub key_open : (trip : Trip) (ws : List ℕ) (k : ℕ) → 1 ≤ k → 1 ≤ cursor_of ws k → key_at trip ws k ≡ rank_number (candidate trip ws k) * word_base + k
unfolding key_at
key_open trip ws zero low live = absurd (omega arith)
key_open trip ws (suc k) low live = from_open trip _ (suc k) _ live

highest_small : T (all_below word_base highest_figures)
unfolding all_below
highest_small = tt

-- A state in range, and one that a cursor names, have figures that are words.
module _ (trip : Trip) (sound : SoundTrip trip) where
  pub range_small : (s : State) → RangeIn trip s → Small s
  range_small s R =
      small_both word_base (figures_of s) (s.junction ∷ [])
      (small_more _ _ _ (omega (arith, clock_high trip sound s R))
      (small_above word_base _ highest_figures (figures_bounded s.figures (figures_high trip sound s R)) highest_small))
      (small_more _ _ _ (omega (arith, R.high, sound.few)) (small_end word_base))

  pub result_range : (s : State) (cursor : ℕ) → RangeIn trip s → Names trip s cursor → RangeIn trip (result_at trip s cursor)
  result_range s cursor range named =
      range_after trip sound s (move_at trip s cursor) named.offered range named.lawful

  pub result_small : (s : State) (cursor : ℕ) → RangeIn trip s → Names trip s cursor → Small (result_at trip s cursor)
  result_small s cursor range named = range_small _ (result_range s cursor range named)

  module _ (ws : List ℕ) where
    -- a key is below that of no candidate, where there is one, and never above it
    pub key_below : (k : ℕ) → 1 ≤ k → Sound trip ws k → 1 ≤ cursor_of ws k → key_at trip ws k < no_key
    key_below k low S live =
        rw (key_open trip ws k low live)
        (below_none _ (result_small _ _ S.range (S.fitting.named live)) k S.small)

    pub key_top : (k : ℕ) → Entrant trip ws k → key_at trip ws k ≤ no_key
    key_top k S = go (dec_le k 0) (dec_le (cursor_of ws k) 0)
      where
        go : Dec (k ≤ 0) → Dec (cursor_of ws k ≤ 0) → key_at trip ws k ≤ no_key
        go (yes h) q = let e : k ≡ 0 = omega arith in rw (e, key_none trip ws) (le_refl _)
        go (no h) (yes q) = rw (key_shut trip ws k (omega arith)) (le_refl _)
        go (no h) (no q) = omega (arith, key_below k (omega arith) (S (omega arith)) (omega arith))

    -- label 0 and a label without a candidate have no key
    pub key_has : (k : ℕ) → key_at trip ws k < no_key → (1 ≤ k) × (1 ≤ cursor_of ws k)
    key_has k h = (positive (dec_le k 0), live (dec_le (cursor_of ws k) 0))
      where
        positive : Dec (k ≤ 0) → 1 ≤ k
        positive (yes q) = let e : k ≡ 0 = omega arith in absurd (omega (arith, ap (key_at trip ws) e, key_none trip ws))
        positive (no q) = omega arith

        live : Dec (cursor_of ws k ≤ 0) → 1 ≤ cursor_of ws k
        live (yes q) = absurd (omega (arith, key_shut trip ws k (omega arith)))
        live (no q) = omega arith

    -- of labels with candidates a lower key is a lower rank, and on equal ranks a lower number
    module _ (a b : ℕ) (A : Sound trip ws a) (B : Sound trip ws b) (low-a : 1 ≤ a) (low-b : 1 ≤ b) (open-a : 1 ≤ cursor_of ws a) (open-b : 1 ≤ cursor_of ws b) where
      small_a : Small (candidate trip ws a)
      small_a = result_small _ _ A.range (A.fitting.named open-a)

      small_b : Small (candidate trip ws b)
      small_b = result_small _ _ B.range (B.fitting.named open-b)

      pub key_rank : key_at trip ws a ≤ key_at trip ws b → ranks_no_higher (candidate trip ws a) (candidate trip ws b) ≡ true
      key_rank h =
          number_low _ _ small_a small_b (omega (arith, key_open trip ws a low-a open-a, key_open trip ws b low-b open-b, A.small, B.small))

      pub key_tie : key_at trip ws a ≤ key_at trip ws b → candidate trip ws a ≡ candidate trip ws b → a ≤ b
      key_tie h e =
          omega (arith, ap rank_number e, key_open trip ws a low-a open-a, key_open trip ws b low-b open-b)

-- a candidate of a state in range fits in its words
pub fitting_packs : (trip : Trip) → SoundTrip trip → (s : State) (c : Candidate) → RangeIn trip s → Fitting trip s c → Packs c
fitting_packs trip sound s c range fits = go (dec_le c.cursor 0)
  where
    go : Dec (c.cursor ≤ 0) → Packs c
    go (yes none) = record { cursor = omega arith; junction = omega (arith, fits.junction, junction_none trip s c.cursor none) }
    go (no some) =
        let low : 1 ≤ c.cursor = omega arith in
        record {
          cursor = omega (arith, (fits.named low).high, sound.few_roads);
          junction = omega (arith, fits.junction, junction_some trip s c.cursor low, (result_range trip sound s c.cursor range (fits.named low)).high, sound.few);
        }

-- What leaves the keys as they are.
pub same_key : (trip : Trip) (ws ws' : List ℕ) (k : ℕ) → label_at ws' k ≡ label_at ws k → cursor_of ws' k ≡ cursor_of ws k → key_at trip ws' k ≡ key_at trip ws k
unfolding key_at
same_key trip ws ws' zero l c = refl
same_key trip ws ws' (suc k) l c = ap₂ (λ (a : State) (x : ℕ). key_from trip a (suc k) x) l c

pub same_cursor : {a b : Candidate} → a ≡ b → a.cursor ≡ b.cursor
same_cursor e = ap (λ (c : Candidate). c.cursor) e

pub same_sound : (trip : Trip) (ws ws' : List ℕ) (k : ℕ) → length ws' ≡ length ws → label_at ws' k ≡ label_at ws k → candidate_of ws' k ≡ candidate_of ws k → Sound trip ws k → Sound trip ws' k
same_sound trip ws ws' k long l c S =
    record {
      room = rw long S.room;
      small = S.small;
      range = subst (RangeIn trip) (sym l) S.range;
      fitting = subst₂ (λ (a : State) (x : Candidate). Fitting trip a x) (sym l) (sym c) S.fitting;
    }

-- a store of winners does
module _ (ws ws' : List ℕ) (only : OnlyWinners ws ws') where
  pub only_labels : (n : ℕ) → SameLabels ws ws' n
  only_labels n = record {
    states = λ f small k low high. only (at k f) (λ e. omega arith);
    previous = λ k low high. only (at k previous_field) (λ e. omega arith);
  }

  pub only_candidate : (k : ℕ) → candidate_of ws' k ≡ candidate_of ws k
  only_candidate k = rw (only (at k cursor_field) (λ e. omega arith), only (at k own_field) (λ e. omega arith))

  pub only_label : (k : ℕ) → 1 ≤ k → label_at ws' k ≡ label_at ws k
  only_label k low = same_label ws ws' k (only_labels k) k low (le_refl k)

  pub key_kept : (trip : Trip) (k : ℕ) → key_at trip ws' k ≡ key_at trip ws k
  key_kept trip k = go (dec_le k 0)
    where
      go : Dec (k ≤ 0) → key_at trip ws' k ≡ key_at trip ws k
      go (yes h) = let e : k ≡ 0 = omega arith in rw e (key_none trip ws' ∙ sym (key_none trip ws))
      go (no h) = same_key trip ws ws' k (only_label k (omega arith)) (same_cursor (only_candidate k))

  pub ready_kept : (trip : Trip) (n : ℕ) → length ws' ≡ length ws → Ready trip ws n → Ready trip ws' n
  ready_kept trip n long R k low high = same_sound trip ws ws' k long (only_label k low) (only_candidate k) (R k low high)
