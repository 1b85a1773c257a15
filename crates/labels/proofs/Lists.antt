-- The lists of the labels at a junction: the walk along them, and what a new label leaves. Assumes nothing.
use mathlib.Core.Path.{◌≡◌, ◌∙◌, refl, sym, ap, subst}
use mathlib.Core.Bool.{Bool, true, false}
use mathlib.Core.List.{List}
use mathlib.Core.Logic.{∥∥₁_map}
use Prim.Native.Nat.{ℕ, ◌+◌, ◌-◌, ◌*◌, ◌/◌, ◌≤◌, ◌<◌, max}
use native.Mathlib.Omega.{arith}
use native.Mathlib.Nat.{le_refl}
use native.Mathlib.Decide.{dec_le, ℕ_discrete}
use lib.Dec.{T}
use lib.ListN.{length, set, length-set}
use lib.Seq.{get_or-set_same, get_or-set_other}
use Rattle.booleans.proofs.Tests.{not_both, T_true, true_T}
use Rattle.theory.specs.States.{Covered}
use Rattle.theory.specs.Figures.{none_above}
use Rattle.theory.proofs.Figures.{above_head, above_tail}
use Rattle.driving.specs.Hours.{wheel_figures}
use Rattle.states.specs.declared.State.{State}
use Rattle.states.specs.States.{covers}
use Rattle.states.proofs.Compared.{covers_junction, covers_figures, times_above}
use Rattle.states.specs.LabelSpace.{label_words}
use Rattle.labels.specs.declared.Candidate.{Candidate}
use Rattle.labels.specs.LabelWords.{largest_word, place_field, spell_field, shift_field, field, junction_of, previous_of, label_at, settled, Same, SameLabels, Added}
use Rattle.labels.specs.declared.Place.{Place}
use Rattle.labels.specs.Lists.{no_place, place_at, Last, Heads, RoomAt, Rooms, Lists}
use Rattle.labels.proofs.LabelWords.{settled_mem, mem_settled, kept_field, kept_labels}

-- no label: no head, and no room
pub lists_none : (ws : List ℕ) (ps : List Place) (size : ℕ) → length ps ≡ size → ((j : ℕ) → j < size → place_at ps j ≡ no_place) → Lists ws ps 0
lists_none ws ps size long empty = record {
  room = omega arith;
  chain = λ k low high. absurd (omega arith);
  heads = λ j h. rw (empty j (omega arith)) (record { below = omega arith; same = λ p. absurd (omega arith); skip = λ m a b e. omega arith });
  spells = λ j h. rw (empty j (omega arith)) none;
  shifts = λ j h. rw (empty j (omega arith)) none;
}
  where
    none : {f j : ℕ} → RoomAt f ws 0 j 0
    none = record { most = λ k low high e. absurd (omega arith); reached = λ p. absurd (omega arith) }

-- Where the labels stay as they were, so do their lists.
module _ (ws ws' : List ℕ) (n : ℕ) (places : Same place_field ws ws' n) where
  junctions : (k : ℕ) → 1 ≤ k → k ≤ n → junction_of ws' k ≡ junction_of ws k
  junctions k low high = ap (λ (p : ℕ). p / 2) (places k low high)

  last_same : (b j p : ℕ) → b ≤ n + 1 → Last ws b j p → Last ws' b j p
  last_same b j p h L = record {
    below = L.below;
    same = λ q. junctions p q (omega (arith, L.below)) ∙ L.same q;
    skip = λ m a c e. L.skip m a c (sym (junctions m (omega arith) (omega arith)) ∙ e);
  }

  room_same : (f j v : ℕ) → Same f ws ws' n → RoomAt f ws n j v → RoomAt f ws' n j v
  room_same f j v same R = record {
    most = λ k low high e. rw (same k low high) (R.most k low high (sym (junctions k low high) ∙ e));
    reached = λ h. ∥∥₁_map (R.reached h) (λ t. (t.0, t.1, t.2, junctions t.0 t.1 t.2 ∙ t.3, ap (λ (w : ℕ). largest_word - w) (same t.0 t.1 t.2) ∙ t.4));
  }

pub lists_same : {ws ws' : List ℕ} {ps : List Place} {n : ℕ} → SameLabels ws ws' n → label_words * n ≤ length ws' → Lists ws ps n → Lists ws' ps n
lists_same {ws} {ws'} {n = n} S room L = record {
  room = room;
  chain = λ k low high. rw (S.states place_field (omega arith) k low high, S.previous k low high) (last_same ws ws' n (S.states place_field (omega arith)) k _ _ (omega arith) (L.chain k low high));
  heads = λ j h. last_same ws ws' n (S.states place_field (omega arith)) (n + 1) j _ (le_refl _) (L.heads j h);
  spells = λ j h. room_same ws ws' n (S.states place_field (omega arith)) spell_field j _ (S.states spell_field (omega arith)) (L.spells j h);
  shifts = λ j h. room_same ws ws' n (S.states place_field (omega arith)) shift_field j _ (S.states shift_field (omega arith)) (L.shifts j h);
}

-- The walk along a junction's labels: none after k covers the label.
pub record Past (ws : List ℕ) (n : ℕ) (label : State) (k : ℕ) : Type 0 where
  pub high : k ≤ n
  pub here : 1 ≤ k → label.junction ≡ junction_of ws k
  pub none : (m : ℕ) → k < m → m ≤ n → T (covers (label_at ws m) label) → ⊥

pub covered_by : (ws : List ℕ) (n k : ℕ) (label : State) → 1 ≤ k → k ≤ n → T (covers (label_at ws k) label) → Covered covers (settled ws n) label
covered_by ws n k label low high C = (label_at ws k, settled_mem ws n k low high, C)

-- what the code is told of a state that it has read
module _ {there at-k : State} (label : State) (read : there ≡ at-k) {told : Bool} (is : told ≡ covers there label) where
  pub told_covers : told ≡ true → T (covers at-k label)
  told_covers yes' = subst (λ (s : State). T (covers s label)) read (true_T (sym is ∙ yes'))

  pub told_not : told ≡ false → T (covers at-k label) → ⊥
  told_not no' h = not_both (T_true h) (sym (ap (λ (s : State). covers s label) read) ∙ sym is ∙ no')

-- what no label of 1 .. n covers is not covered
pub not_covered :
    (ws : List ℕ) (n : ℕ) (label : State) → ((k : ℕ) → 1 ≤ k → k ≤ n → T (covers (label_at ws k) label) → ⊥) → Covered covers (settled ws n) label → ⊥
not_covered ws n label none C =
    let N = mem_settled ws n C.0 C.1 in
    none N.k N.low N.high (subst (λ a. T (covers a label)) N.is C.2)

module _ {ws : List ℕ} {ps : List Place} {n : ℕ} (label : State) (L : Lists ws ps n) (known : label.junction < length ps) where
  wheel : (k : ℕ) → T (covers (label_at ws k) label) → T (none_above (wheel_figures (label_at ws k).figures) (wheel_figures label.figures))
  wheel k C = above_tail _ _ _ _ (times_above (label_at ws k) label (covers_figures (label_at ws k) label C))

  pub no_spell_room : (place_at ps label.junction).spell_room < largest_word - label.figures.spell.0 → Covered covers (settled ws n) label → ⊥
  no_spell_room h =
      not_covered ws n label (λ k low high C. omega (arith, above_head _ _ _ _ (wheel k C), (L.spells label.junction known).most k low high (covers_junction _ _ C)))

  pub no_shift_room : (place_at ps label.junction).shift_room < largest_word - label.figures.shift.0 → Covered covers (settled ws n) label → ⊥
  no_shift_room h =
      not_covered ws n label (λ k low high C. omega (arith, above_head _ _ _ _ (above_tail _ _ _ _ (wheel k C)), (L.shifts label.junction known).most k low high (covers_junction _ _ C)))

  pub walk_first : Past ws n label (place_at ps label.junction).last
  walk_first =
      let H = L.heads label.junction known in
      record { high = omega (arith, H.below); here = λ p. sym (H.same p); none = λ m a b C. H.skip m a (omega arith) (covers_junction _ _ C) }

  pub walk_falls : (k : ℕ) → 1 ≤ k → k ≤ n → previous_of ws k < k
  walk_falls k low high = (L.chain k low high).below

  pub walk_step : (k : ℕ) → 1 ≤ k → Past ws n label k → (T (covers (label_at ws k) label) → ⊥) → Past ws n label (previous_of ws k)
  walk_step k low P not_k = record {
    high = omega (arith, H.below, P.high);
    here = λ p. P.here low ∙ sym (H.same p);
    none = λ m a b C. go m a b C (ℕ_discrete m k) (dec_le m k);
  }
    where
      H : Last ws k (junction_of ws k) (previous_of ws k)
      H = L.chain k low P.high

      go : (m : ℕ) → previous_of ws k < m → m ≤ n → T (covers (label_at ws m) label) → Dec (m ≡ k) → Dec (m ≤ k) → ⊥
      go m a b C (yes e) d = not_k (subst (λ x. T (covers (label_at ws x) label)) e C)
      go m a b C (no e) (yes d) = H.skip m a (omega arith) (covers_junction _ _ C ∙ P.here low)
      go m a b C (no e) (no d) = P.none m (omega arith) b C

-- where none of the first labels covers it either
pub walk_end : {ws : List ℕ} {n k since : ℕ} {label : State} → (Covered covers (settled ws since) label → ⊥) → Past ws n label k → k ≤ since → Covered covers (settled ws n) label → ⊥
walk_end {ws} {n} {k} {since} {label} first P h = not_covered ws n label (λ m low high. go m low high (dec_le m since))
  where
    go : (m : ℕ) → 1 ≤ m → m ≤ n → Dec (m ≤ since) → T (covers (label_at ws m) label) → ⊥
    go m low high (yes early) C = first (covered_by ws since m label low early C)
    go m low high (no late) C = P.none m (omega arith) high C

-- A new label.
upto : (P : ℕ → Type 0) (n : ℕ) → ((k : ℕ) → 1 ≤ k → k ≤ n → P k) → P (n + 1) → (k : ℕ) → 1 ≤ k → k ≤ n + 1 → P k
upto P n f g k a b = go (dec_le k n)
  where
    go : Dec (k ≤ n) → P k
    go (yes h) = f k a h
    go (no h) = let e : n + 1 ≡ k = omega arith in subst P e g

module _ {ws ws' : List ℕ} {n : ℕ} {label : State} {parent : ℕ} {c : Candidate} (A : Added ws ws' n label parent c) where
  at_new : junction_of ws' (n + 1) ≡ label.junction
  at_new = ap (λ (a : State). a.junction) A.is_label

  places_kept : Same place_field ws ws' n
  places_kept = kept_field ws ws' n A.kept place_field (omega arith)

  -- what is kept of the junctions, with the new label's
  module _ {ps : List Place} (L : Lists ws ps n) (known : label.junction < length ps) (link : previous_of ws' (n + 1) ≡ (place_at ps label.junction).last) where
    abbrev new_place : Place
    new_place = record {
      last = n + 1;
      spell_room = max (place_at ps label.junction).spell_room (largest_word - label.figures.spell.0);
      shift_room = max (place_at ps label.junction).shift_room (largest_word - label.figures.shift.0);
    }

    abbrev ps' : List Place
    ps' = set ps label.junction new_place

    -- what holds of each junction's place, since it holds of the new one and of those that stay
    each : (P : ℕ → Place → Type 0) → P label.junction new_place → ((j : ℕ) → (j ≡ label.junction → ⊥) → j < length ps → P j (place_at ps j)) → (j : ℕ) → j < length ps' → P j (place_at ps' j)
    each P here others j h = go (ℕ_discrete j label.junction)
      where
        go : Dec (j ≡ label.junction) → P j (place_at ps' j)
        go (yes e) = rw (e, get_or-set_same ps label.junction new_place no_place known) here
        go (no e) = rw (get_or-set_other ps label.junction j new_place no_place e) (others j e (omega (arith, length-set ps label.junction new_place)))

    heads_added : Heads ws' ps' (n + 1)
    heads_added =
        each (λ j p. Last ws' (n + 1 + 1) j p.last)
        (record { below = omega arith; same = λ p. at_new; skip = λ m a b c. omega arith })
        (λ j e h.
        let K = last_same ws ws' n places_kept (n + 1) j _ (le_refl _) (L.heads j h) in
        record {
          below = omega (arith, K.below);
          same = K.same;
          skip = λ m a b c. upto (λ k. (place_at ps j).last < k → junction_of ws' k ≡ j → ⊥) n (λ k low high q r. K.skip k q (omega arith) r) (λ q r. e (sym r ∙ at_new)) m (omega arith) (omega arith) a c;
        })

    room_added :
        (f : ℕ) (room : Place → ℕ) (v : ℕ) → f < label_words → Rooms room f ws ps n → field ws' (n + 1) f ≡ v → room new_place ≡ max (room (place_at ps label.junction)) (largest_word - v)
        → Rooms room f ws' ps' (n + 1)
    room_added f room v small R new is =
        each (λ j p. RoomAt f ws' (n + 1) j (room p)) here (λ j e h.
        let K = kept j h in
        record {
          most = upto (λ k. junction_of ws' k ≡ j → largest_word - field ws' k f ≤ room (place_at ps j)) n K.most (λ r. absurd (e (sym r ∙ at_new)));
          reached = λ p. ∥∥₁_map (K.reached p) (λ t. (t.0, t.1, omega (arith, t.2), t.3, t.4));
        })
      where
        kept : (j : ℕ) → j < length ps → RoomAt f ws' n j (room (place_at ps j))
        kept j h = room_same ws ws' n places_kept f j _ (kept_field ws ws' n A.kept f small) (R j h)

        K : RoomAt f ws' n label.junction (room (place_at ps label.junction))
        K = kept label.junction known

        here : RoomAt f ws' (n + 1) label.junction (room new_place)
        here = record {
          most = upto (λ k. junction_of ws' k ≡ label.junction → largest_word - field ws' k f ≤ room new_place) n (λ k low high r. omega (arith, is, K.most k low high r)) (λ r. omega (arith, is, new));
          reached = λ p. go p (dec_le (room (place_at ps label.junction)) (largest_word - v));
        }
          where
            go : 1 ≤ room new_place → Dec (room (place_at ps label.junction) ≤ largest_word - v)
                → ∥ ((k : ℕ) × (1 ≤ k) × (k ≤ n + 1) × (junction_of ws' k ≡ label.junction) × (largest_word - field ws' k f ≡ room new_place)) ∥₁
            go p (yes h) = ∣ (n + 1, omega arith, le_refl _, at_new, omega (arith, is, new)) ∣₁
            go p (no h) = ∥∥₁_map (K.reached (omega (arith, is))) (λ t. (t.0, t.1, omega (arith, t.2), t.3, omega (arith, is, t.4)))

    pub lists_added : label_words * (n + 1) ≤ length ws' → Lists ws' ps' (n + 1)
    lists_added room = record {
      room = room;
      chain = upto (λ k. Last ws' k (junction_of ws' k) (previous_of ws' k)) n (lists_same (kept_labels ws ws' n A.kept) (omega arith) L).chain (rw (at_new, link) (last_same ws ws' n places_kept (n + 1) _ _ (le_refl _) (L.heads _ known)));
      heads = heads_added;
      spells = room_added spell_field (λ p. p.spell_room) label.figures.spell.0 (omega arith) L.spells (ap (λ (a : State). a.figures.spell.0) A.is_label) refl;
      shifts = room_added shift_field (λ p. p.shift_room) label.figures.shift.0 (omega arith) L.shifts (ap (λ (a : State). a.figures.shift.0) A.is_label) refl;
    }
