-- The steps that mend the winner tree. Assumes nothing.
use mathlib.Core.Path.{◌≡◌, ◌∙◌, refl, sym, ap, subst, subst₂}
use mathlib.Core.Bool.{true, false}
use mathlib.Core.List.{List}
use Prim.Native.Nat.{ℕ, ◌+◌, ◌-◌, ◌*◌, ◌/◌, ◌≤◌, ◌<◌}
use native.Mathlib.Omega.{arith}
use native.Mathlib.Nat.{le_refl}
use native.Mathlib.Decide.{dec_le, ℕ_discrete}
use lib.ListN.{length, set, length-set}
use lib.Seq.{get_or-set_other}
use Rattle.moves.specs.Trip.{Trip}
use Rattle.moves.specs.Runs.{SoundTrip, RangeIn}
use Rattle.states.specs.declared.State.{State}
use Rattle.states.specs.RankNumber.{word_base}
use Rattle.states.specs.LabelSpace.{label_words}
use Rattle.labels.specs.LabelWords.{previous_field, cursor_field, winner_field, own_field, at, field, label_at, cursor_of, candidate_of, cursor_word, Packs, winner_of, Same, SameLabels, Added, WinnerWithin}
use Rattle.labels.specs.Tree.{Tree, TreeBut, Stored, Mending, Entering}
use Rattle.labels.proofs.LabelWords.{set_same, set_field, word_candidate, set_label, set_labels, kept_field, kept_labels, same_label, settled_same, settled_set}
use Rattle.labels.proofs.Tree.{under_self, beyond, beside, changed, mend_first, mend_step, mend_end, rekey, rekey_mending, rekey_entering, enter_added, enter_step, enter_stop, enter_end, stored, root_least, root_small}
use Rattle.labels.specs.declared.Candidate.{Candidate}
use Rattle.candidates.specs.Candidates.{Fitting}
use Rattle.winners.specs.declared.Contender.{Contender}
use Rattle.winners.specs.Keys.{no_key, key_at, Sound, Ready, OnlyWinners}
use Rattle.winners.specs.Mending.{Told, Stands, Named, Decided, Carries, Climbed, Mended, Advanced, Enters, Placed, LeastKey}
use Rattle.winners.proofs.Keys.{fitting_packs, key_none, key_below, key_top, same_key, same_cursor, same_sound, only_labels, only_candidate, key_kept, ready_kept}
use Rattle.winners.proofs.Contenders.{named, stands_kept}

-- A store of winners.
pub only_refl : (ws : List ℕ) → OnlyWinners ws ws
only_refl ws p off = refl

pub only_trans : (ws ws' ws'' : List ℕ) → OnlyWinners ws ws' → OnlyWinners ws' ws'' → OnlyWinners ws ws''
only_trans ws ws' ws'' f g p off = g p off ∙ f p off

set_only : (ws : List ℕ) (k v : ℕ) → OnlyWinners ws (set ws (at k winner_field) v)
set_only ws k v p off = get_or-set_other ws (at k winner_field) p v 0 (λ e. off (omega arith))

-- what a stored winner leaves
record Winner (ws ws' : List ℕ) (n k v : ℕ) : Type 0 where
  stores : Stored ws ws' n k v
  only : OnlyWinners ws ws'
  long : length ws' ≡ length ws

winner_set : (ws ws' : List ℕ) (n k v : ℕ) → 1 ≤ k → label_words * k ≤ length ws → ws' ≡ set ws (at k winner_field) v → Winner ws ws' n k v
winner_set ws ws' n k v low room e =
    subst (λ (l : List ℕ). Winner ws l n k v) (sym e) (record { stores = stored ws n k v low room; only = set_only ws k v; long = length-set ws _ v })

-- Mending the path above a label: the winner that is read at a node off the path is a label of 1 .. n.
pub child_within : (trip : Trip) (ws : List ℕ) (n i k r : ℕ) → TreeBut (key_at trip ws) ws n i → i < k → WinnerWithin ws n k r → r ≤ n
child_within trip ws n i k r T h W = (beyond (key_at trip ws) ws n i k r T h W).small

module _ {trip : Trip} where
  climbed_by :
      {ws ws' : List ℕ} {n j v : ℕ} {c : Contender} → Ready trip ws n → Winner ws ws' n j v → Stands trip ws c
      → Mending (key_at trip ws) ws' n j c.label → Climbed trip ws ws' n j c
  climbed_by {ws} {ws'} {n} ready W S M =
      record {
        carries = record {
          ready = ready_kept ws ws' W.only trip n W.long ready;
          mending = rekey_mending (λ m h. key_kept ws ws' W.only trip m) M;
          stands = stands_kept ws ws' W.long W.only S;
        };
        only = W.only;
        long = W.long;
      }

  pub begun :
      {ws : List ℕ} {n i l : ℕ} {c : Contender} → Ready trip ws n → TreeBut (key_at trip ws) ws n i → 1 ≤ i → i ≤ n → WinnerWithin ws n (2 * i) l → Named trip ws l c
      → Carries trip ws n (2 * i) c
  begun {ws} {n} {i} {c} ready T low high L N =
      record {
        ready = ready;
        mending = subst (Mending (key_at trip ws) ws n (2 * i)) (sym N.is) (mend_first low high T L);
        stands = N.stands;
      }

  pub climbed :
      {ws ws' : List ℕ} {n j r : ℕ} {c c' : Contender} → Carries trip ws n j c → 1 < j → WinnerWithin ws n (4 * (j / 2) + 1 - j) r
      → Decided trip ws ws' n c.label (j / 2) r c' → Climbed trip ws ws' n (j / 2) c'
  climbed {ws} {ws'} {n} {j} {c'} C two R D =
      let W = winner_set ws ws' n (j / 2) c'.label (omega arith) (C.ready (j / 2) (omega arith) C.mending.high).room D.stored in
      climbed_by C.ready W D.stands
      (mend_step C.mending two (omega arith) (λ e. omega arith) R D.first D.second W.stores)

  pub sibling_within : {ws : List ℕ} {n j r : ℕ} {c : Contender} → Carries trip ws n j c → 1 < j → WinnerWithin ws n (4 * (j / 2) + 1 - j) r → r ≤ n
  sibling_within C two W = (beside C.mending two (omega arith) W).small

  pub afresh : {ws : List ℕ} {n j : ℕ} {c : Contender} → Carries trip ws n j c → Climbed trip ws ws n j c
  afresh {ws} C = record { carries = C; only = only_refl ws; long = refl }

  pub mended : {ws₀ ws : List ℕ} {n j : ℕ} {c : Contender} → Climbed trip ws₀ ws n j c → j ≤ 1 → Mended trip ws₀ ws n
  mended C h = record { ready = C.carries.ready; tree = mend_end C.carries.mending h; only = C.only }

  -- A candidate is changed, and the path above its label mended.
  module _ (sound : SoundTrip trip) {ws : List ℕ} {n k : ℕ} {c : Candidate} (low : 1 ≤ k) (high : k ≤ n) (ready : Ready trip ws n) (fits : Fitting trip (label_at ws k) c) where
    pub packs : Packs c
    packs = fitting_packs trip sound _ _ (ready k low high).range fits

    abbrev ws₀ : List ℕ
    ws₀ = set ws (at k cursor_field) (cursor_word c)

    abbrev ws₁ : List ℕ
    ws₁ = set ws₀ (at k own_field) c.clock.0

    same : (m : ℕ) → 1 ≤ m → label_at ws₁ m ≡ label_at ws m
    same m a =
        same_label ws₀ ws₁ m (set_labels ws₀ k own_field c.clock.0 m (omega arith) (omega arith) (λ e. omega arith)) m a (le_refl m)
        ∙ same_label ws ws₀ m (set_labels ws k cursor_field (cursor_word c) m (omega arith) (omega arith) (λ e. omega arith)) m a (le_refl m)

    other : (m : ℕ) → 1 ≤ m → (m ≡ k → ⊥) → candidate_of ws₁ m ≡ candidate_of ws m
    other m a off = rw (word cursor_field (omega arith), word own_field (omega arith))
      where
        word : (f : ℕ) → f < label_words → field ws₁ m f ≡ field ws m f
        word f small =
            set_label ws₀ k own_field c.clock.0 (omega arith) m f low a off small
            ∙ set_label ws k cursor_field (cursor_word c) (omega arith) m f low a off small

    long : length ws₁ ≡ length ws
    long = length-set ws₀ _ _ ∙ length-set ws _ _

    is : candidate_of ws₁ k ≡ c
    is =
        word_candidate ws₁ k c packs
        (set_field ws₀ k own_field c.clock.0 (omega arith) cursor_field k (omega arith) (λ e. omega arith) k low (le_refl k)
        ∙ set_same ws k cursor_field (cursor_word c) (omega arith) low (ready k low high).room)
        (set_same ws₀ k own_field c.clock.0 (omega arith) low (rw (length-set ws (at k cursor_field) (cursor_word c)) (ready k low high).room))

    pub turned_ready : Ready trip ws₁ n
    turned_ready m a b = go (ℕ_discrete m k)
      where
        go : Dec (m ≡ k) → Sound trip ws₁ m
        go (no off) = same_sound trip ws ws₁ m long (same m a) (other m a off) (ready m a b)
        go (yes e) = subst (Sound trip ws₁) (sym e) (record {
          room = rw long (ready k low high).room;
          small = (ready k low high).small;
          range = subst (RangeIn trip) (sym (same k low)) (ready k low high).range;
          fitting = subst₂ (λ (l : State) (x : Candidate). Fitting trip l x) (sym (same k low)) (sym is) fits;
        })

    pub turned_but : Tree (key_at trip ws) ws n → TreeBut (key_at trip ws₁) ws₁ n k
    turned_but T =
        changed (key_at trip ws) (key_at trip ws₁) ws ws₁ n k low (λ m h off. go m off (dec_le m 0)) winners T
      where
        winners : Same winner_field ws ws₁ n
        winners m a b =
            set_field ws₀ k own_field c.clock.0 (omega arith) winner_field n (omega arith) (λ e. omega arith) m a b
            ∙ set_field ws k cursor_field (cursor_word c) (omega arith) winner_field n (omega arith) (λ e. omega arith) m a b

        go : (m : ℕ) → (m ≡ k → ⊥) → Dec (m ≤ 0) → key_at trip ws₁ m ≡ key_at trip ws m
        go m off (yes h) = let e : m ≡ 0 = omega arith in rw e (key_none trip ws₁ ∙ sym (key_none trip ws))
        go m off (no h) = same_key trip ws ws₁ m (same m (omega arith)) (same_cursor (other m (omega arith) off))

    turned_from : (ws' : List ℕ) → Mended trip ws₁ ws' n → Advanced trip ws ws' n k c
    turned_from ws' M =
        record {
          ready = M.ready;
          tree = M.tree;
          is_candidate = only_candidate ws₁ ws' M.only k ∙ is;
          candidates = λ m a off. only_candidate ws₁ ws' M.only m ∙ other m a off;
          others = λ p a b d.
              M.only p a ∙ get_or-set_other ws₀ (at k own_field) p c.clock.0 0 (λ e. d (omega arith))
              ∙ get_or-set_other ws (at k cursor_field) p (cursor_word c) 0 (λ e. b (omega arith));
          settled = settled_same ws₁ ws' n (only_labels ws₁ ws' M.only n) ∙ settled_set ws₀ k own_field c.clock.0 n (omega arith) (omega arith) (λ e. omega arith)
              ∙ settled_set ws k cursor_field (cursor_word c) n (omega arith) (omega arith) (λ e. omega arith);
        }

    pub turned : {ws₂ ws' : List ℕ} → ws₂ ≡ set (set ws (at k cursor_field) (cursor_word c)) (at k own_field) c.clock.0 → Mended trip ws₂ ws' n → Advanced trip ws ws' n k c
    turned {ws'} e M = turned_from ws' (subst (λ (l : List ℕ). Mended trip l ws' n) e M)

  -- A label comes in, and wins the nodes of its path up to the first that it does not win.
  module _ {ws : List ℕ} {n j : ℕ} {new : Contender} (E : Enters trip ws n j new) (low : 1 ≤ j) where
    pub old_within : winner_of ws j ≤ n
    old_within = (E.entering.path j low (under_self j)).small

    -- the node's winner, as a contender
    pub old_named : {r : ℕ} {old : Contender} → r ≡ winner_of ws j → Told ws r old → Named trip ws (winner_of ws j) old
    old_named {r} {old} is told =
        let last = (E.ready (n + 1) (omega arith) (le_refl _)).small in
        subst (λ (x : ℕ). Named trip ws x old) is
        (named (λ p. E.ready r p (omega (arith, is, old_within))) (omega (arith, is, old_within, last)) told)

    module _ {old : Contender} (O : Named trip ws (winner_of ws j) old) where
      pub stays : SoundTrip trip → key_at trip ws old.label ≤ key_at trip ws new.label → Placed trip ws ws n j new false
      stays sound beaten =
          record {
            more = λ e. absurd (never e);
            done = λ e. record {
              ready = E.ready;
              tree = enter_stop E.entering low (λ m h. rw (key_none trip ws) (key_top trip sound ws m (λ p. E.ready m p (omega arith)))) beats;
              only = only_refl ws;
            };
            only = only_refl ws;
            long = refl;
          }
        where
          never : false ≡ true → ⊥
          never e = let z : ◌≡◌ {A = ℕ} 0 1 = cc in omega arith

          beats : key_at trip ws (winner_of ws j) ≤ key_at trip ws (n + 1)
          beats = subst₂ (λ (x y : ℕ). key_at trip ws x ≤ key_at trip ws y) O.is E.named.is beaten

      pub wins : (ws' : List ℕ) → key_at trip ws new.label ≤ key_at trip ws old.label → ws' ≡ set ws (at j winner_field) new.label → Placed trip ws ws' n j new true
      wins ws' won e =
          let W = winner_set ws ws' (n + 1) j (n + 1) low (E.ready j low (omega (arith, E.entering.high))).room (e ∙ ap (λ (v : ℕ). set ws (at j winner_field) v) E.named.is) in
          record {
            more = λ q. record {
              ready = ready_kept ws ws' W.only trip (n + 1) W.long E.ready;
              entering = rekey_entering (λ m h. key_kept ws ws' W.only trip m) (enter_step E.entering low beats W.stores);
              named = record { is = E.named.is; stands = stands_kept ws ws' W.long W.only E.named.stands };
            };
            done = λ q. absurd (never q);
            only = W.only;
            long = W.long;
          }
        where
          never : true ≡ false → ⊥
          never q = let z : ◌≡◌ {A = ℕ} 0 1 = cc in omega arith

          beats : key_at trip ws (n + 1) ≤ key_at trip ws (winner_of ws j)
          beats = subst₂ (λ (x y : ℕ). key_at trip ws x ≤ key_at trip ws y) E.named.is O.is won

-- before node j of a new label's path
pub record Entered (trip : Trip) (ws ws' : List ℕ) (n j : ℕ) (c : Contender) : Type 0 where
  pub enters : Enters trip ws' n j c
  pub only : OnlyWinners ws ws'
  pub long : length ws' ≡ length ws

module _ {trip : Trip} {ws ws' : List ℕ} {n j : ℕ} {c : Contender} (E : Entered trip ws ws' n j c) where
  pub entered_end : j ≤ 0 → Mended trip ws ws' (n + 1)
  entered_end h = record { ready = E.enters.ready; tree = enter_end E.enters.entering h; only = E.only }

-- What a caller knows after a label was added.
module _ {ws ws' : List ℕ} {n : ℕ} {label : State} {parent : ℕ} {c : Candidate} (A : Added ws ws' n label parent c) where
  pub added_label : (m : ℕ) → 1 ≤ m → m ≤ n → label_at ws' m ≡ label_at ws m
  added_label m low high = same_label ws ws' n (kept_labels ws ws' n A.kept) m low high

  pub added_candidate : (m : ℕ) → 1 ≤ m → m ≤ n → candidate_of ws' m ≡ candidate_of ws m
  added_candidate m low high =
      rw (kept_field ws ws' n A.kept cursor_field (omega arith) m low high, kept_field ws ws' n A.kept own_field (omega arith) m low high)

  pub key_added : (trip : Trip) (m : ℕ) → m ≤ n → key_at trip ws' m ≡ key_at trip ws m
  key_added trip m high = go (dec_le m 0)
    where
      go : Dec (m ≤ 0) → key_at trip ws' m ≡ key_at trip ws m
      go (yes h) = let e : m ≡ 0 = omega arith in rw e (key_none trip ws' ∙ sym (key_none trip ws))
      go (no h) = same_key trip ws ws' m (added_label m (omega arith) high) (same_cursor (added_candidate m (omega arith) high))

  pub entering : (trip : Trip) → Tree (key_at trip ws) ws n → Entering (key_at trip ws') ws' n ((n + 1) / 2)
  entering trip T = enter_added A (rekey (key_at trip ws) (key_at trip ws') ws n (key_added trip) T)

  pub ready_added :
      (trip : Trip) → Ready trip ws n → length ws' ≡ length ws → label_words * (n + 1) ≤ length ws → n + 1 < word_base
      → RangeIn trip label → Fitting trip label c → Ready trip ws' (n + 1)
  ready_added trip R long room small range valid m low high = go (dec_le m n)
    where
      go : Dec (m ≤ n) → Sound trip ws' m
      go (yes h) = same_sound trip ws ws' m long (added_label m low h) (added_candidate m low h) (R m low h)
      go (no h) =
          let e : m ≡ n + 1 = omega arith in
          subst (Sound trip ws') (sym e) (record {
            room = rw long room;
            small = small;
            range = subst (RangeIn trip) (sym A.is_label) range;
            fitting = subst₂ (λ (l : State) (x : Candidate). Fitting trip l x) (sym A.is_label) (sym A.is_candidate) valid;
          })

-- The root's winner leads.
pub leads : (trip : Trip) (ws : List ℕ) (n : ℕ) → 1 ≤ n → Tree (key_at trip ws) ws n → LeastKey trip ws n (winner_of ws 1)
leads trip ws n low T = record { within = root_small (key_at trip ws) ws n low T; least = root_least (key_at trip ws) ws n low T }

-- where it has no candidate, no label has one
pub none_left :
    (trip : Trip) (ws : List ℕ) (n r : ℕ) → SoundTrip trip → Ready trip ws n → LeastKey trip ws n r → no_key ≤ key_at trip ws r
    → (m : ℕ) → 1 ≤ m → m ≤ n → cursor_of ws m ≡ 0
none_left trip ws n r sound R L none m low high = go (dec_le (cursor_of ws m) 0)
  where
    go : Dec (cursor_of ws m ≤ 0) → cursor_of ws m ≡ 0
    go (yes h) = omega arith
    go (no h) = absurd (omega (arith, key_below trip sound ws m low (R m low high) (omega arith), L.least m low high))

-- the labels and their links are as they were when a candidate has changed
pub advanced_labels : {trip : Trip} {ws ws' : List ℕ} {n k : ℕ} {c : Candidate} → Advanced trip ws ws' n k c → SameLabels ws ws' n
advanced_labels A = record {
  states = λ f small m low high. A.others (at m f) (λ e. omega arith) (λ e. omega arith) (λ e. omega arith);
  previous = λ m low high. A.others (at m previous_field) (λ e. omega arith) (λ e. omega arith) (λ e. omega arith);
}
