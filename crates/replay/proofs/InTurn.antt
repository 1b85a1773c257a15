-- A trace and then another: the same as both in one, where no pause goes on from the first to the second. Assumes nothing.
use mathlib.Core.Path.{◌≡◌, ◌∙◌, refl, sym, ap, ap₂, subst, subst₂}
use mathlib.Core.Bool.{Bool, true, false, not, ◌&&◌, ◌||◌}
use mathlib.Core.List.{List, [], ◌∷◌, ◌++◌}
use mathlib.Core.Logic.{⊎_elim}
use Prim.Native.Nat.{ℕ, zero, suc, ◌+◌, ◌*◌, ◌-◌, ◌%◌, ◌≤◌, ◌<◌}
use native.Mathlib.Nat.{add-zero, zero-add, suc-add}
use native.Mathlib.Omega.{arith}
use borrow.Author.Tests.{not-true}
use lib.Dec.{T}
use lib.ListN.{length, length-append}
use Rattle.booleans.proofs.Tests.{cases, T_true}
use Rattle.words.proofs.Joined.{word_within, word_past}
use Rattle.theory.specs.Figures.{none_above}
use Rattle.driving.specs.declared.Figures.{Figures}
use Rattle.driving.specs.declared.Rules.{Rules}
use Rattle.driving.specs.Hours.{wheel_figures, wheel_limits}
use Rattle.replay.specs.declared.TraceRecord.{TraceRecord}
use Rattle.replay.specs.Trace.{is_driving, is_pause, pause_of, paused_before, joined, trace_record_bytes, trace_record_at, records_from, record_count, first_records, records_of}
use Rattle.replay.specs.Replay.{after_activity, after_each, up_to_date, is_odd, is_past, is_stopped}
use Rattle.replay.specs.InTurn.{begins_with_pause, ends_in_pause, none_goes_on}
use Rattle.replay.proofs.Joining.{before_pause, before_other, before_none, joined_pause, joined_other}

-- Lists of records.
each_both : (rules : Rules) (rs ss : List TraceRecord) (f : Figures) → after_each rules (rs ++ ss) f ≡ after_each rules ss (after_each rules rs f)
unfolding after_each
each_both rules [] ss f = refl
each_both rules (r ∷ rs) ss f = each_both rules rs ss (after_activity rules r f)

-- a pause in front of what begins with no pause, as it is joined
first_joined : (rs : List TraceRecord) → begins_with_pause rs ≡ false → begins_with_pause (joined rs) ≡ false
unfolding joined
first_joined [] none_first = refl
first_joined (r ∷ rs) none_first = rw (none_first, joined) none_first

alone : (seconds : ℕ) (rs : List TraceRecord) → begins_with_pause rs ≡ false → paused_before seconds rs ≡ pause_of seconds ∷ rs
alone seconds [] none_first = before_none seconds
alone seconds (r ∷ rs) none_first = before_other seconds r rs none_first

-- what is in front of a list that is not empty is in front of it and of all that follows
before_both : (seconds : ℕ) (r : TraceRecord) (rs ss : List TraceRecord) → paused_before seconds (r ∷ rs ++ ss) ≡ paused_before seconds (r ∷ rs) ++ ss
before_both seconds r rs ss =
    ⊎_elim
    (λ (is : is_pause r ≡ true). before_pause seconds r (rs ++ ss) is ∙ ap (λ (l : List TraceRecord). l ++ ss) (sym (before_pause seconds r rs is)))
    (λ (is : is_pause r ≡ false). before_other seconds r (rs ++ ss) is ∙ ap (λ (l : List TraceRecord). l ++ ss) (sym (before_other seconds r rs is)))
    (cases (is_pause r))

-- joining leaves no list empty that was not
record Begins (l : List TraceRecord) : Type 0 where
  head : TraceRecord
  tail : List TraceRecord
  is : l ≡ head ∷ tail

before_begins : (seconds : ℕ) (rs : List TraceRecord) → Begins (paused_before seconds rs)
before_begins seconds [] = record { head = pause_of seconds; tail = []; is = before_none seconds }
before_begins seconds (r ∷ rs) =
    ⊎_elim
    (λ (is : is_pause r ≡ true). record { head = pause_of (seconds + r.seconds); tail = rs; is = before_pause seconds r rs is })
    (λ (is : is_pause r ≡ false). record { head = pause_of seconds; tail = r ∷ rs; is = before_other seconds r rs is })
    (cases (is_pause r))

joined_begins : (r : TraceRecord) (rs : List TraceRecord) → Begins (joined (r ∷ rs))
joined_begins r rs =
    ⊎_elim
    (λ (is : is_pause r ≡ true). let front = before_begins r.seconds (joined rs) in record { head = front.head; tail = front.tail; is = joined_pause r rs is ∙ front.is })
    (λ (is : is_pause r ≡ false). record { head = r; tail = joined rs; is = joined_other r rs is })
    (cases (is_pause r))

before_joined : (seconds : ℕ) (r : TraceRecord) (rs ss : List TraceRecord) → paused_before seconds (joined (r ∷ rs) ++ ss) ≡ paused_before seconds (joined (r ∷ rs)) ++ ss
before_joined seconds r rs ss = let front = joined_begins r rs in rw front.is (before_both seconds front.head front.tail ss)

joined_one : (r : TraceRecord) (ss : List TraceRecord) → T (none_goes_on (r ∷ []) ss) → joined (r ∷ ss) ≡ joined (r ∷ []) ++ joined ss
unfolding joined paused_before ends_in_pause
joined_one r ss apart =
    ⊎_elim
    (λ (is : is_pause r ≡ true).
    let none_first : begins_with_pause ss ≡ false = not-true _ (T_true (rw is at apart)) in
    joined_pause r ss is ∙ alone r.seconds (joined ss) (first_joined ss none_first) ∙ ap (λ (l : List TraceRecord). l ++ joined ss) (sym (joined_pause r [] is)))
    (λ (is : is_pause r ≡ false). joined_other r ss is ∙ ap (λ (l : List TraceRecord). l ++ joined ss) (sym (joined_other r [] is)))
    (cases (is_pause r))

joined_both : (rs ss : List TraceRecord) → T (none_goes_on rs ss) → joined (rs ++ ss) ≡ joined rs ++ joined ss
unfolding joined ends_in_pause
joined_both [] ss apart = refl
joined_both (r ∷ []) ss apart = joined_one r ss apart
joined_both (r ∷ s ∷ rs) ss apart =
    ⊎_elim
    (λ (is : is_pause r ≡ true).
    joined_pause r (s ∷ rs ++ ss) is ∙ ap (paused_before r.seconds) (joined_both (s ∷ rs) ss apart) ∙ before_joined r.seconds s rs (joined ss)
    ∙ ap (λ (l : List TraceRecord). l ++ joined ss) (sym (joined_pause r (s ∷ rs) is)))
    (λ (is : is_pause r ≡ false).
    joined_other r (s ∷ rs ++ ss) is ∙ ap (λ (l : List TraceRecord). r ∷ l) (joined_both (s ∷ rs) ss apart)
    ∙ ap (λ (l : List TraceRecord). l ++ joined ss) (sym (joined_other r (s ∷ rs) is)))
    (cases (is_pause r))

pub up_to_date_both : (rules : Rules) (rs ss : List TraceRecord) (f : Figures) → T (none_goes_on rs ss) → up_to_date rules (rs ++ ss) f ≡ up_to_date rules ss (up_to_date rules rs f)
up_to_date_both rules rs ss f apart = ap (λ (l : List TraceRecord). after_each rules l f) (joined_both rs ss apart) ∙ each_both rules (joined rs) (joined ss) f

-- Records of bytes.
records_same : (a b : List ℕ) (p q n : ℕ) → ((i : ℕ) → i < n → trace_record_at a (p + i) ≡ trace_record_at b (q + i)) → records_from a p n ≡ records_from b q n
unfolding records_from
records_same a b p q zero same = refl
records_same a b p q (suc n) same =
    ap₂ (λ (r : TraceRecord) (rs : List TraceRecord). r ∷ rs)
    (subst₂ (λ (x y : ℕ). trace_record_at a x ≡ trace_record_at b y) (add-zero p) (add-zero q) (same 0 (omega arith)))
    (records_same a b (p + 1) (q + 1) n (λ i below. subst₂ (λ (x y : ℕ). trace_record_at a x ≡ trace_record_at b y) (one_on p i) (one_on q i) (same (suc i) (omega arith))))
  where
    one_on : (p i : ℕ) → p + suc i ≡ p + 1 + i
    one_on p i = omega arith

records_both : (a : List ℕ) (k n m : ℕ) → records_from a k (n + m) ≡ records_from a k n ++ records_from a (k + n) m
unfolding records_from
records_both a k zero m = ap₂ (records_from a) (sym (add-zero k)) (zero-add m)
records_both a k (suc n) m =
    let on : k + 1 + n ≡ k + suc n = omega arith in
    ap (records_from a k) (suc-add n m) ∙ ap (λ (rs : List TraceRecord). trace_record_at a k ∷ rs) (records_both a (k + 1) n m ∙ ap (λ (x : ℕ). records_from a (k + 1) n ++ records_from a x m) on)

begins_same : (a : List ℕ) (n m : ℕ) → 1 ≤ n → 1 ≤ m → begins_with_pause (first_records a n) ≡ begins_with_pause (first_records a m)
unfolding records_from
begins_same a zero m low-n low-m = absurd (omega arith)
begins_same a (suc n) zero low-n low-m = absurd (omega arith)
begins_same a (suc n) (suc m) low-n low-m = refl

-- a record that is refused where the figures after it are these
abbrev stops : Rules → TraceRecord → Figures → Bool
stops rules r f = is_odd r || (is_driving r && not (none_above (wheel_figures f) (wheel_limits rules)))

module _ (one two : List ℕ) (whole : length one % trace_record_bytes ≡ 0) where
  pub count_both : record_count (one ++ two) ≡ record_count one + record_count two
  count_both = simp length-append (omega arith)

  pub record_one : (k : ℕ) → 1 ≤ k → k ≤ record_count one → trace_record_at (one ++ two) k ≡ trace_record_at one k
  record_one k low high = rw (word_within one two (trace_record_bytes * (k - 1)) (omega arith), word_within one two (trace_record_bytes * (k - 1) + 4) (omega arith))

  pub record_two : (k : ℕ) → 1 ≤ k → trace_record_at (one ++ two) (record_count one + k) ≡ trace_record_at two k
  record_two k low =
      let first : trace_record_bytes * (record_count one + k - 1) ≡ length one + trace_record_bytes * (k - 1) = omega arith in
      let second : trace_record_bytes * (record_count one + k - 1) + 4 ≡ length one + (trace_record_bytes * (k - 1) + 4) = omega arith in
      rw (second, first, word_past one two (length one) (trace_record_bytes * (k - 1)) refl, word_past one two (length one) (trace_record_bytes * (k - 1) + 4) refl)

  first_one : (k : ℕ) → k ≤ record_count one → first_records (one ++ two) k ≡ first_records one k
  first_one k high = records_same (one ++ two) one 1 1 k (λ i below. record_one (1 + i) (omega arith) (omega arith))

  first_both : (k : ℕ) → first_records (one ++ two) (record_count one + k) ≡ records_of one ++ first_records two k
  first_both k =
      records_both (one ++ two) 1 (record_count one) k
      ∙ ap₂ ◌++◌ (first_one (record_count one) (omega arith))
      (records_same (one ++ two) two (1 + record_count one) 1 k
      (λ i below. let on : record_count one + (1 + i) ≡ 1 + record_count one + i = omega arith in subst (λ (x : ℕ). trace_record_at (one ++ two) x ≡ trace_record_at two (1 + i)) on (record_two (1 + i) (omega arith))))

  -- the first's records are refused as they were
  pub stopped_one : (rules : Rules) (f : Figures) (k : ℕ) → 1 ≤ k → k ≤ record_count one → is_stopped (one ++ two) rules f k ≡ is_stopped one rules f k
  unfolding is_stopped is_past
  stopped_one rules f k low high = ap₂ (λ (r : TraceRecord) (rs : List TraceRecord). stops rules r (up_to_date rules rs f)) (record_one k low high) (first_one k high)

  module _ (rules : Rules) (f : Figures) (apart : T (none_goes_on (records_of one) (records_of two))) where
    abbrev between : Figures
    between = up_to_date rules (records_of one) f

    -- and the second's from the figures that the first leaves
    pub stopped_two : (k : ℕ) → 1 ≤ k → k ≤ record_count two → is_stopped (one ++ two) rules f (record_count one + k) ≡ is_stopped two rules between k
    unfolding is_stopped is_past
    stopped_two k low high =
        ap₂ (stops rules) (record_two k low)
        (ap (λ (rs : List TraceRecord). up_to_date rules rs f) (first_both k)
        ∙ up_to_date_both rules (records_of one) (first_records two k) f (rw (begins_same two k (record_count two) low (omega arith)) apart))

    pub figures_both : up_to_date rules (records_of (one ++ two)) f ≡ up_to_date rules (records_of two) between
    figures_both =
        ap (λ (n : ℕ). up_to_date rules (first_records (one ++ two) n) f) count_both
        ∙ ap (λ (rs : List TraceRecord). up_to_date rules rs f) (first_both (record_count two))
        ∙ up_to_date_both rules (records_of one) (records_of two) f apart
