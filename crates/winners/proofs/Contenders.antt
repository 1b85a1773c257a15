-- Labels as contenders, and the better of two of them. Assumes nothing.
use mathlib.Core.Path.{◌≡◌, ◌∙◌, refl, sym, ap, ap₂, subst}
use mathlib.Core.Bool.{Bool, true, false, not}
use mathlib.Core.List.{List}
use mathlib.Core.Logic.{inl, inr, ⊎_elim}
use Prim.Native.Nat.{ℕ, zero, suc, ◌+◌, ◌*◌, ◌≤◌, ◌<◌}
use native.Mathlib.Omega.{arith}
use native.Mathlib.Nat.{le_refl}
use native.Mathlib.Decide.{dec_le, dec_lt}
use borrow.Author.Tests.{not-true, not-false}
use lib.ListN.{length}
use Rattle.states.specs.declared.State.{State}
use Rattle.states.specs.States.{ranks_no_higher}
use Rattle.states.proofs.Ranks.{rank_low, rank_high}
use Rattle.states.proofs.Compared.{rank_clock}
use Rattle.booleans.proofs.Tests.{cases, true_T}
use Rattle.moves.specs.Trip.{Trip}
use Rattle.moves.specs.Runs.{SoundTrip}
use Rattle.moves.proofs.Rising.{clock_high}
use Rattle.labels.specs.declared.Candidate.{Candidate}
use Rattle.states.specs.RankNumber.{word_base, rank_number}
use Rattle.labels.specs.LabelWords.{label_at, cursor_of, own_of}
use Rattle.labels.specs.Tree.{Better}
use Rattle.candidates.specs.Candidates.{no_clock}
use Rattle.candidates.proofs.Results.{clock_some, clock_none}
use Rattle.winners.specs.declared.Contender.{Contender}
use Rattle.winners.specs.Keys.{no_key, key_at, candidate, Sound, Entrant, OnlyWinners}
use Rattle.winners.specs.Mending.{lead_clock, Told, Stands, Named, Best, Earlier, Live, Precedes}
use Rattle.winners.proofs.Keys.{key_none, key_shut, key_open, key_top, result_range, result_small, same_sound, only_label, only_candidate}

-- a later clock ranks higher
later_ranks : (b a : State) → a.clock.0 < b.clock.0 → ranks_no_higher b a ≡ false
later_ranks b a h =
    ⊎_elim (λ (e : ranks_no_higher b a ≡ true). absurd (omega (arith, rank_clock b a (true_T e)))) (λ e. e) (cases (ranks_no_higher b a))

module _ (trip : Trip) (sound : SoundTrip trip) (ws : List ℕ) where
  -- of a label with a candidate the own clock is the candidate's, and below that of none
  pub live_clock : (k : ℕ) → Live trip ws k → own_of ws k ≡ (candidate trip ws k).clock.0
  live_clock k L = L.sound.fitting.clock ∙ clock_some trip _ _ L.has

  live_below : (k : ℕ) → Live trip ws k → own_of ws k < no_clock
  live_below k L =
      omega (arith, live_clock k L, clock_high trip sound _ (result_range trip sound _ _ L.sound.range (L.sound.fitting.named L.has)))

  -- a label's own clock tells whether it has a candidate
  pub own_live : (k : ℕ) → 1 ≤ k → Sound trip ws k → own_of ws k < no_clock → Live trip ws k
  own_live k low S early = record { low = low; sound = S; has = go (dec_le (cursor_of ws k) 0) }
    where
      go : Dec (cursor_of ws k ≤ 0) → 1 ≤ cursor_of ws k
      go (yes h) = absurd (omega (arith, S.fitting.clock, clock_none trip (label_at ws k) (cursor_of ws k) (omega arith)))
      go (no h) = omega arith

  pub own_none : (k : ℕ) → 1 ≤ k → Sound trip ws k → no_clock ≤ own_of ws k → cursor_of ws k ≡ 0
  own_none k low S late = go (dec_le (cursor_of ws k) 0)
    where
      go : Dec (cursor_of ws k ≤ 0) → cursor_of ws k ≡ 0
      go (yes h) = omega arith
      go (no h) = absurd (omega (arith, live_below k (record { low = low; sound = S; has = omega arith })))

  lead_live : (k clock : ℕ) → Entrant trip ws k → clock ≡ lead_clock ws k → clock < no_clock → Live trip ws k × (clock ≡ (candidate trip ws k).clock.0)
  lead_live zero clock E is early = absurd (omega (arith, is))
  lead_live (suc k) clock E is early =
      let L = own_live (suc k) (omega arith) (E (omega arith)) (omega (arith, is)) in
      (L, is ∙ live_clock (suc k) L)

  lead_none : (k clock : ℕ) → Entrant trip ws k → clock ≡ lead_clock ws k → no_clock ≤ clock → key_at trip ws k ≡ no_key
  lead_none zero clock E is late = key_none trip ws
  lead_none (suc k) clock E is late = key_shut trip ws (suc k) (own_none (suc k) (omega arith) (E (omega arith)) (omega (arith, is)))

  -- of two labels with candidates
  module _ {a b : ℕ} (A : Live trip ws a) (B : Live trip ws b) where
    key_a : key_at trip ws a ≡ rank_number (candidate trip ws a) * word_base + a
    key_a = key_open trip ws a A.low A.has

    key_b : key_at trip ws b ≡ rank_number (candidate trip ws b) * word_base + b
    key_b = key_open trip ws b B.low B.has

    low_rank : ranks_no_higher (candidate trip ws a) (candidate trip ws b) ≡ true → a ≤ b → key_at trip ws a ≤ key_at trip ws b
    low_rank r h =
        omega (arith, key_a, key_b, rank_low _ _ (result_small trip sound _ _ A.sound.range (A.sound.fitting.named A.has)) (result_small trip sound _ _ B.sound.range (B.sound.fitting.named B.has)) r)

    high_rank : ranks_no_higher (candidate trip ws a) (candidate trip ws b) ≡ false → key_at trip ws b ≤ key_at trip ws a
    high_rank r =
        omega (arith, key_a, key_b, B.sound.small, rank_high _ _ (result_small trip sound _ _ A.sound.range (A.sound.fitting.named A.has)) (result_small trip sound _ _ B.sound.range (B.sound.fitting.named B.has)) r)

  -- by the candidates' ranks, the lower label on a tie
  module _ {a b : ℕ} {x y : State} (A : Live trip ws a) (B : Live trip ws b) (is_x : x ≡ candidate trip ws a) (is_y : y ≡ candidate trip ws b) where
    pub precedes_lower : a < b → Precedes trip ws a b (ranks_no_higher x y)
    precedes_lower h =
        let t = ap₂ ranks_no_higher is_x is_y in
        record { yes = λ e. low_rank A B (sym t ∙ e) (omega arith); no = λ e. high_rank A B (sym t ∙ e) }

    pub precedes_higher : b ≤ a → Precedes trip ws a b (not (ranks_no_higher y x))
    precedes_higher h =
        let t = ap₂ ranks_no_higher is_y is_x in
        record { yes = λ e. high_rank B A (sym t ∙ not-true _ e); no = λ e. low_rank B A (sym t ∙ not-false _ e) h }

  -- Two contenders: the one with the earlier clock is the better.
  module _ {a b : Contender} (A : Stands trip ws a) (B : Stands trip ws b) where
    pub sooner : a.clock.0 < b.clock.0 → key_at trip ws a.label ≤ key_at trip ws b.label
    sooner h = go (dec_le no_clock b.clock.0)
      where
        go : Dec (no_clock ≤ b.clock.0) → key_at trip ws a.label ≤ key_at trip ws b.label
        go (yes late) = rw (lead_none b.label b.clock.0 B.entrant B.clock late) (key_top trip sound ws a.label A.entrant)
        go (no early) =
            let p = lead_live a.label a.clock.0 A.entrant A.clock (omega arith) in
            let q = lead_live b.label b.clock.0 B.entrant B.clock (omega arith) in
            high_rank q.0 p.0 (later_ranks (candidate trip ws b.label) (candidate trip ws a.label) (omega (arith, p.1, q.1)))

    -- with one clock both have a candidate, or neither has
    module _ (same : a.clock.0 ≡ b.clock.0) where
      pub both_live : (a.clock.0 ≡ no_clock → ⊥) → a.clock.0 ≤ no_clock → Live trip ws a.label × Live trip ws b.label
      both_live some high = (
        (lead_live a.label a.clock.0 A.entrant A.clock (strict (dec_le no_clock a.clock.0))).0,
        (lead_live b.label b.clock.0 B.entrant B.clock (omega (arith, strict (dec_le no_clock a.clock.0)))).0,
      )
        where
          strict : Dec (no_clock ≤ a.clock.0) → a.clock.0 < no_clock
          strict (yes h) = absurd (some (omega arith))
          strict (no h) = omega arith

      pub both_none : a.clock.0 ≡ no_clock → key_at trip ws a.label ≡ key_at trip ws b.label
      both_none none =
          lead_none a.label a.clock.0 A.entrant A.clock (omega arith) ∙ sym (lead_none b.label b.clock.0 B.entrant B.clock (omega arith))

-- of two whose clocks differ the new one comes first where its clock is the earlier
pub precedes_clock :
    (trip : Trip) → SoundTrip trip → (ws : List ℕ) {old new : Contender} {before : Bool} → Stands trip ws old → Stands trip ws new
    → (before ≡ true → new.clock.0 < old.clock.0) → (before ≡ false → old.clock.0 < new.clock.0) → Precedes trip ws new.label old.label before
precedes_clock trip sound ws O N early late =
    record { yes = λ e. sooner trip sound ws N O (early e); no = λ e. sooner trip sound ws O N (late e) }

module _ {trip : Trip} {ws : List ℕ} {a b : Contender} where
  pub best_first : key_at trip ws a.label ≤ key_at trip ws b.label → Best trip ws a b a
  best_first h = record { one = inl refl; first = le_refl _; second = h }

  pub best_second : key_at trip ws b.label ≤ key_at trip ws a.label → Best trip ws a b b
  best_second h = record { one = inr refl; first = h; second = le_refl _ }

-- by clocks, where these differ
pub best_earlier :
    (trip : Trip) → SoundTrip trip → (ws : List ℕ) {a b r : Contender} → Stands trip ws a → Stands trip ws b → (a.clock.0 ≡ b.clock.0 → ⊥) → Earlier a b r → Best trip ws a b r
best_earlier trip sound ws {a} {b} {r} A B differ E = go (dec_lt b.clock.0 a.clock.0)
  where
    go : Dec (b.clock.0 < a.clock.0) → Best trip ws a b r
    go (yes h) = rw (E.second h) (best_second (sooner trip sound ws B A h))
    go (no h) = rw (E.first (omega arith)) (best_first (sooner trip sound ws A B (omega (arith, differ))))

-- A label as a contender.
pub named : {trip : Trip} {ws : List ℕ} {k : ℕ} {c : Contender} → Entrant trip ws k → k < word_base → Told ws k c → Named trip ws k c
named {trip} {ws} {k} {c} E small T =
    record {
      is = T.is;
      stands = record {
        small = omega (arith, T.is);
        entrant = subst (Entrant trip ws) (sym T.is) E;
        clock = T.clock ∙ ap (lead_clock ws) (sym T.is);
      };
    }

-- Contenders stand for their labels.
pub stands_best : {trip : Trip} {ws : List ℕ} {a b r : Contender} → Stands trip ws a → Stands trip ws b → Best trip ws a b r → Stands trip ws r
stands_best {trip} {ws} A B P = ⊎_elim (λ e. subst (Stands trip ws) (sym e) A) (λ e. subst (Stands trip ws) (sym e) B) P.one

pub best_better : {trip : Trip} {ws : List ℕ} {a b r : Contender} → Best trip ws a b r → Better (key_at trip ws) a.label b.label r.label
best_better P =
    record {
      one = ⊎_elim (λ e. inl (ap (λ (c : Contender). c.label) e)) (λ e. inr (ap (λ (c : Contender). c.label) e)) P.one;
      first = P.first;
      second = P.second;
    }

lead_kept : (ws ws' : List ℕ) → OnlyWinners ws ws' → (k : ℕ) → lead_clock ws' k ≡ lead_clock ws k
lead_kept ws ws' only zero = refl
lead_kept ws ws' only (suc k) = ap (λ (c : Candidate). c.clock.0) (only_candidate ws ws' only (suc k))

pub stands_kept : {trip : Trip} {c : Contender} (ws ws' : List ℕ) → length ws' ≡ length ws → OnlyWinners ws ws' → Stands trip ws c → Stands trip ws' c
stands_kept {trip} {c} ws ws' long only S =
    record {
      small = S.small;
      entrant = λ low. same_sound trip ws ws' c.label long (only_label ws ws' only c.label low) (only_candidate ws ws' only c.label) (S.entrant low);
      clock = S.clock ∙ sym (lead_kept ws ws' only c.label);
    }

-- the better of two labels of 1 .. n is one
pub best_within : {trip : Trip} {ws : List ℕ} {a b r : Contender} (n : ℕ) → Best trip ws a b r → a.label ≤ n → b.label ≤ n → r.label ≤ n
best_within n P p q = ⊎_elim (λ e. subst (λ (c : Contender). c.label ≤ n) (sym e) p) (λ e. subst (λ (c : Contender). c.label ≤ n) (sym e) q) P.one
