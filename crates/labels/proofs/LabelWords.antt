-- Words of the label run after a store, and the labels as a list. Assumes nothing.
use mathlib.Core.Path.{◌≡◌, ◌∙◌, refl, ap, ap₂}
use mathlib.Core.Bool.{Bool, true, false}
use mathlib.Core.List.Memᴰ
use mathlib.Core.List.{List, [], ◌∷◌, ◌++◌, Memᴰ}
use mathlib.Core.Logic.{⊎_elim}
use Prim.Native.Nat.{ℕ, zero, suc, ◌+◌, ◌-◌, ◌*◌, ◌/◌, ◌%◌, ◌≤◌, ◌<◌}
use native.Mathlib.Omega.{arith}
use native.Mathlib.Nat.{add-zero}
use native.Mathlib.Numerals.{add-one}
use native.Mathlib.Decide.{dec_le}
use lib.Dec.{eqb}
use lib.ListN.{length, get_or, set, length-set, length-append, get_or-append}
use lib.Seq.{get_or-set_same, get_or-set_other, get_or_at}
use Rattle.states.specs.declared.State.{State}
use Rattle.states.specs.LabelSpace.{label_words}
use Rattle.driving.specs.Hours.{unmarked}
use Rattle.driving.proofs.Hours.{mark_told, mark_high}
use Rattle.labels.specs.declared.Candidate.{Candidate}
use Rattle.labels.specs.LabelWords.{state_words, place_field, clock_field, spell_field, shift_field, week_field, parent_field, cursor_field, winner_field, previous_field, own_field, at, field, previous_of, label_at, candidate_of, cursor_word, Packs, junction_base, words_of, settled, column, Same, SameLabels, Added, puts}

-- A word that is stored is read, and no other word of the labels changes.
module _ (ws : List ℕ) (k f v : ℕ) (small : f < label_words) where
  pub set_same : 1 ≤ k → label_words * k ≤ length ws → field (set ws (at k f) v) k f ≡ v
  set_same low room = get_or-set_same ws (at k f) v 0 (omega arith)

  pub set_field : (g n : ℕ) → g < label_words → (g ≡ f → ⊥) → Same g ws (set ws (at k f) v) n
  set_field g n b differs m low high = get_or-set_other ws (at k f) (at m g) v 0 (λ e. differs (omega arith))

  pub set_label : (m g : ℕ) → 1 ≤ k → 1 ≤ m → (m ≡ k → ⊥) → g < label_words → field (set ws (at k f) v) m g ≡ field ws m g
  set_label m g low low' differs b = get_or-set_other ws (at k f) (at m g) v 0 (λ e. differs (omega arith))

-- a store into a label's parent, candidate or winner leaves the labels
pub set_labels : (ws : List ℕ) (k f v n : ℕ) → parent_field ≤ f → f < label_words → (f ≡ previous_field → ⊥) → SameLabels ws (set ws (at k f) v) n
set_labels ws k f v n a b other = record {
  states = λ g small. set_field ws k f v (omega arith) g n (omega arith) (λ e. omega arith);
  previous = set_field ws k f v (omega arith) previous_field n (omega arith) (λ e. other (omega arith));
}

-- Two numbers in one word.
half : (a b : ℕ) → b ≤ 1 → (2 * a + b) / 2 ≡ a
half a b small = omega arith

rest : (a b : ℕ) → b ≤ 1 → (2 * a + b) % 2 ≡ b
rest a b small = omega arith

over : (a b : ℕ) → b < junction_base → (junction_base * a + b) / junction_base ≡ a
over a b small = omega arith

under : (a b : ℕ) → b < junction_base → (junction_base * a + b) % junction_base ≡ b
under a b small = omega arith

abbrev flag : Bool → ℕ
flag more = elim more [ true ↦ 1 | false ↦ 0 ]

flag_small : (more : Bool) → flag more ≤ 1
flag_small true = omega arith
flag_small false = omega arith

flag_told : (more : Bool) → eqb (flag more) 1 ≡ more
flag_told true = refl
flag_told false = refl

-- two words tell the candidate
pub word_candidate : (ws : List ℕ) (k : ℕ) (c : Candidate) → Packs c → field ws k cursor_field ≡ cursor_word c → field ws k own_field ≡ c.clock.0 → candidate_of ws k ≡ c
word_candidate ws k c packs word own =
    let m = flag_small c.more in
    rw (word, own, half (junction_base * c.cursor + c.junction) (flag c.more) m, rest (junction_base * c.cursor + c.junction) (flag c.more) m, over c.cursor c.junction packs.junction, under c.cursor c.junction packs.junction, flag_told c.more)

module _ (ws ws' : List ℕ) (n : ℕ) (kept : (p : ℕ) → p < label_words * n → get_or ws' p 0 ≡ get_or ws p 0) where
  -- where all words of labels 1 .. n are as they were, each word of theirs is
  pub kept_field : (f : ℕ) → f < label_words → Same f ws ws' n
  kept_field f small k low high = kept (at k f) (omega arith)

  pub kept_labels : SameLabels ws ws' n
  kept_labels = record {
    states = λ f small. kept_field f (omega arith);
    previous = kept_field previous_field (omega arith);
  }

pub same_label : (ws ws' : List ℕ) (n : ℕ) → SameLabels ws ws' n → (k : ℕ) → 1 ≤ k → k ≤ n → label_at ws' k ≡ label_at ws k
same_label ws ws' n same k low high =
    rw (word place_field (omega arith), word clock_field (omega arith), word spell_field (omega arith), word shift_field (omega arith), word week_field (omega arith))
  where
    word : (f : ℕ) → f < state_words → field ws' k f ≡ field ws k f
    word f small = same.states f small k low high

-- The labels as a list.
pub settled_more : (ws : List ℕ) (n : ℕ) → settled ws (n + 1) ≡ settled ws n ++ (label_at ws (n + 1) ∷ [])
unfolding settled
settled_more ws n = rw (add-one n)

pub settled_length : (ws : List ℕ) (n : ℕ) → length (settled ws n) ≡ n
unfolding settled
settled_length ws zero = refl
settled_length ws (suc n) = length-append (settled ws n) _ ∙ rw (settled_length ws n) (omega arith)

-- a list that grows at its end has at k - 1 what was put there k-th
grown : {A : Type 0} (l : List A) (a d : A) (k n : ℕ) → length l ≡ n → 1 ≤ k → k ≤ suc n → {b : A} → (k ≤ n → get_or l (k - 1) d ≡ b) → (k ≡ suc n → a ≡ b)
    → get_or (l ++ (a ∷ [])) (k - 1) d ≡ b
grown l a d k n e low high {b} old new = go (dec_le k n)
  where
    go : Dec (k ≤ n) → get_or (l ++ (a ∷ [])) (k - 1) d ≡ b
    go (yes h) = get_or-append l (a ∷ []) d (k - 1) (omega arith) ∙ old h
    go (no h) = get_or_at l a [] d (k - 1) (omega arith) ∙ new (omega arith)

pub settled_at : (ws : List ℕ) (n k : ℕ) (d : State) → 1 ≤ k → k ≤ n → get_or (settled ws n) (k - 1) d ≡ label_at ws k
unfolding settled
settled_at ws zero k d low high = absurd (omega arith)
settled_at ws (suc n) k d low high =
    grown (settled ws n) (label_at ws (suc n)) d k n (settled_length ws n) low high (λ h. settled_at ws n k d low h) (λ e. rw e)

pub settled_by_label : (ws ws' : List ℕ) (n : ℕ) → ((k : ℕ) → 1 ≤ k → k ≤ n → label_at ws' k ≡ label_at ws k) → settled ws' n ≡ settled ws n
unfolding settled
settled_by_label ws ws' zero same = refl
settled_by_label ws ws' (suc n) same =
    ap₂ (λ (l : List State) (a : State). l ++ (a ∷ [])) (settled_by_label ws ws' n (λ k low high. same k low (omega arith))) (same (suc n) (omega arith) (omega arith))

-- the list does not change where the labels do not
pub settled_same : (ws ws' : List ℕ) (n : ℕ) → SameLabels ws ws' n → settled ws' n ≡ settled ws n
settled_same ws ws' n same = settled_by_label ws ws' n (same_label ws ws' n same)

pub settled_set : (ws : List ℕ) (k f v n : ℕ) → parent_field ≤ f → f < label_words → (f ≡ previous_field → ⊥) → settled (set ws (at k f) v) n ≡ settled ws n
settled_set ws k f v n a b other = settled_same ws _ n (set_labels ws k f v n a b other)

pub settled_mem : (ws : List ℕ) (n k : ℕ) → 1 ≤ k → k ≤ n → Memᴰ (label_at ws k) (settled ws n)
unfolding settled
settled_mem ws zero k low high = absurd (omega arith)
settled_mem ws (suc n) k low high = go (dec_le k n) (settled_mem ws n k low)
  where
    go : Dec (k ≤ n) → (k ≤ n → Memᴰ (label_at ws k) (settled ws n)) → Memᴰ (label_at ws k) (settled ws n ++ (label_at ws (suc n) ∷ []))
    go (yes h) before = Memᴰ.append_left _ (before h)
    go (no h) before = let e : k ≡ suc n = omega arith in Memᴰ.append_right (settled ws n) (Memᴰ.head (rw e))

-- label a is the k-th of 1 .. n
pub record Numbered (ws : List ℕ) (n : ℕ) (a : State) : Type 0 where
  pub k : ℕ
  pub low : 1 ≤ k
  pub high : k ≤ n
  pub is : a ≡ label_at ws k

pub mem_settled : (ws : List ℕ) (n : ℕ) (a : State) → Memᴰ a (settled ws n) → Numbered ws n a
unfolding settled
mem_settled ws zero a m = absurd (Memᴰ.not-nil m)
mem_settled ws (suc n) a m =
    ⊎_elim (λ h. let t = mem_settled ws n a h in record { k = t.k; low = t.low; high = omega arith; is = t.is })
    (λ h. record { k = suc n; low = omega arith; high = omega arith; is = Memᴰ.eq_of_singleton h })
    (Memᴰ.append_cases (settled ws n) m)

-- What is read of each label as a list.
pub column_more : (read : List ℕ → ℕ → ℕ) (ws : List ℕ) (n : ℕ) → column read ws (n + 1) ≡ column read ws n ++ (read ws (n + 1) ∷ [])
unfolding column
column_more read ws n = rw (add-one n)

pub column_length : (read : List ℕ → ℕ → ℕ) (ws : List ℕ) (n : ℕ) → length (column read ws n) ≡ n
unfolding column
column_length read ws zero = refl
column_length read ws (suc n) = length-append (column read ws n) _ ∙ rw (column_length read ws n) (omega arith)

pub column_at : (read : List ℕ → ℕ → ℕ) (ws : List ℕ) (n k d : ℕ) → 1 ≤ k → k ≤ n → get_or (column read ws n) (k - 1) d ≡ read ws k
unfolding column
column_at read ws zero k d low high = absurd (omega arith)
column_at read ws (suc n) k d low high =
    grown (column read ws n) (read ws (suc n)) d k n (column_length read ws n) low high (λ h. column_at read ws n k d low h) (λ e. rw e)

pub column_same : (read : List ℕ → ℕ → ℕ) (ws ws' : List ℕ) (n : ℕ) → ((k : ℕ) → 1 ≤ k → k ≤ n → read ws' k ≡ read ws k) → column read ws' n ≡ column read ws n
unfolding column
column_same read ws ws' zero same = refl
column_same read ws ws' (suc n) same =
    ap₂ (λ (l : List ℕ) (a : ℕ). l ++ (a ∷ [])) (column_same read ws ws' n (λ k low high. same k low (omega arith))) (same (suc n) (omega arith) (omega arith))

-- The store of a new label.
puts_below : (ws : List ℕ) (i f : ℕ) (vs : List ℕ) (p : ℕ) → p < i + f → get_or (puts ws i f vs) p 0 ≡ get_or ws p 0
unfolding puts
puts_below ws i f [] p h = refl
puts_below ws i f (v ∷ vs) p h = puts_below (set ws (i + f) v) i (f + 1) vs p (omega arith) ∙ get_or-set_other ws (i + f) p v 0 (λ e. omega arith)

puts_at : (ws : List ℕ) (i f : ℕ) (vs : List ℕ) (g : ℕ) → i + f + length vs ≤ length ws → g < length vs → get_or (puts ws i f vs) (i + f + g) 0 ≡ get_or vs g 0
unfolding puts
puts_at ws i f [] g b h = absurd (omega arith)
puts_at ws i f (v ∷ vs) zero b h = rw (add-zero (i + f)) (puts_below _ i (f + 1) vs (i + f) (omega arith) ∙ get_or-set_same ws (i + f) v 0 (omega arith))
puts_at ws i f (v ∷ vs) (suc g) b h =
    let e : i + f + suc g ≡ i + (f + 1) + g = omega arith in rw e (puts_at (set ws (i + f) v) i (f + 1) vs g (simp length-set (omega arith)) (omega arith))

put_word : (ws : List ℕ) (n : ℕ) (vs : List ℕ) (f : ℕ) → label_words * n + length vs ≤ length ws → f < length vs → field (puts ws (label_words * n) 0 vs) (n + 1) f ≡ get_or vs f 0
put_word ws n vs f b h = let e : at (n + 1) f ≡ label_words * n + 0 + f = omega arith in rw e (puts_at ws (label_words * n) 0 vs f (omega arith) h)

-- all words of a new label
module _ (ws : List ℕ) (n : ℕ) (label : State) (parent : ℕ) (c : Candidate) (previous : ℕ) (packs : Packs c) (room : label_words * (n + 1) ≤ length ws) where
  abbrev words : List ℕ
  words = words_of label parent c (n + 1) previous

  abbrev ws' : List ℕ
  ws' = puts ws (label_words * n) 0 words

  word : (f : ℕ) → f < label_words → field ws' (n + 1) f ≡ get_or words f 0
  word f small = put_word ws n words f (omega arith) (omega arith)

  is_label : label_at ws' (n + 1) ≡ label
  is_label =
      let m = mark_high label.figures.marked in
      rw (word place_field (omega arith), word clock_field (omega arith), word spell_field (omega arith), word shift_field (omega arith), word week_field (omega arith), half label.junction (unmarked label.figures) m, rest label.junction (unmarked label.figures) m, mark_told label.figures.marked)

  is_candidate : candidate_of ws' (n + 1) ≡ c
  is_candidate = word_candidate ws' (n + 1) c packs (word cursor_field (omega arith)) (word own_field (omega arith))

  kept : (p : ℕ) → p < label_words * n → get_or ws' p 0 ≡ get_or ws p 0
  kept p h = puts_below ws (label_words * n) 0 words p (omega arith)

  link : field ws' (n + 1) previous_field ≡ previous
  link = word previous_field (omega arith)

  added : Added ws ws' n label parent c
  added = record {
    is_label = is_label;
    is_parent = word parent_field (omega arith);
    is_candidate = is_candidate;
    wins = word winner_field (omega arith);
    kept = kept;
    settled = settled_more ws' n ∙ ap₂ (λ (l : List State) (a : State). l ++ (a ∷ [])) (settled_same ws ws' n (kept_labels ws ws' n kept)) is_label;
  }

-- what the store of all its words says of a new label
pub label_stored :
    (ws ws' : List ℕ) (n : ℕ) (label : State) (parent : ℕ) (c : Candidate) (previous : ℕ) → Packs c → label_words * (n + 1) ≤ length ws
    → ws' ≡ puts ws (label_words * n) 0 (words_of label parent c (n + 1) previous)
    → Added ws ws' n label parent c × (previous_of ws' (n + 1) ≡ previous)
label_stored ws ws' n label parent c previous packs room e =
    rw e (added ws n label parent c previous packs room, link ws n label parent c previous packs room)

-- a column is longer by what is read of the new label, where what it reads of the others has stayed
pub column_added :
    (read : List ℕ → ℕ → ℕ) (ws ws' : List ℕ) (n : ℕ) → ((k : ℕ) → 1 ≤ k → k ≤ n → read ws' k ≡ read ws k)
    → column read ws' (n + 1) ≡ column read ws n ++ (read ws' (n + 1) ∷ [])
column_added read ws ws' n same =
    column_more read ws' n ∙ ap (λ (l : List ℕ). l ++ (read ws' (n + 1) ∷ [])) (column_same read ws ws' n same)
