-- The reply to two traces in one, from the replies to one and then the other. Assumes nothing.
use mathlib.Core.Path.{◌≡◌, ◌∙◌, refl, sym, ap, ap₂, subst}
use mathlib.Core.Bool.{Bool, true, false, not}
use mathlib.Core.List.{List, [], ◌∷◌, ◌++◌}
use mathlib.Core.Logic.{⊎_elim}
use mathlib.Core.Option.{Option, none, some}
use Prim.Native.Nat.{ℕ, ◌+◌, ◌-◌, ◌%◌, ◌≤◌, ◌<◌}
use native.Mathlib.Omega.{arith}
use borrow.Author.Tests.{leb-true, leb-false, eq-eqb}
use lib.Dec.{T, leb, eqb}
use lib.ListN.{length, length-append}
use Rattle.booleans.specs.Pick.{pick}
use Rattle.booleans.proofs.Tests.{cases}
use Rattle.replies.specs.declared.Reply.{Reply}
use Rattle.replies.specs.First.{Test, refused_or, first_of, placed, NoneFits}
use Rattle.replies.specs.Told.{succeeded, refused_at}
use Rattle.replies.proofs.First.{NoneBelow, lowest_none, lowest_found, lowest_some, lowest_is_none, none_at_all}
use Rattle.driving.specs.declared.Figures.{Figures}
use Rattle.driving.specs.declared.Rules.{Rules}
use Rattle.driving.proofs.Accepted.{sound_figures_pass}
use Rattle.replay.specs.declared.TraceRecord.{TraceRecord}
use Rattle.replay.specs.Trace.{trace_record_bytes, trace_record_at, record_count, records_of}
use Rattle.replay.specs.Replay.{up_to_date, torn_trace, is_odd, is_stopped, first_stopped, placed_where, replay_tests, replay_reply, figures_after}
use Rattle.replay.specs.InTurn.{none_goes_on, behind}
use Rattle.replay.specs.Steps.{start_tests, trace_tests}
use Rattle.replay.proofs.Replays.{figures_accepted}
use Rattle.replay.proofs.Accepted.{untorn_whole, whole_trace, none_below, leaves_sound}
use Rattle.replay.proofs.InTurn.{count_both, record_one, record_two, stopped_one, stopped_two, figures_both}

-- a place with so many before it
abbrev further : ℕ → Option ℕ → Option ℕ
further n none = none
further n (some place) = some (n + place)

-- refusals of both in one, each where the second's is, with what is before it
abbrev EachBehind : List ℕ → List Test → List Test → Type 0
EachBehind one [] [] = Unit {0}
EachBehind one [] (u ∷ us) = ⊥
EachBehind one (t ∷ ts) [] = ⊥
EachBehind one (t ∷ ts) (u ∷ us) =
    (t.number ≡ u.number) × (t.place ≡ further (pick (eqb u.number 21) (length one) (record_count one)) u.place) × EachBehind one ts us

first_behind : (one : List ℕ) (ts us : List Test) (s s' : Reply) → EachBehind one ts us → s ≡ behind one s' → first_of ts s ≡ behind one (first_of us s')
unfolding first_of
first_behind one [] [] s s' each last = last
first_behind one [] (u ∷ us) s s' each last = absurd each
first_behind one (t ∷ ts) [] s s' each last = absurd each
first_behind one (t ∷ ts) (u ∷ us) s s' each last = at u.place each.0 each.1 (first_behind one ts us s s' each.2 last)
  where
    at : (p : Option ℕ) → t.number ≡ u.number → t.place ≡ further (pick (eqb u.number 21) (length one) (record_count one)) p → first_of ts s ≡ behind one (first_of us s')
        → refused_or t.number t.place (first_of ts s) ≡ behind one (refused_or u.number p (first_of us s'))
    at none same_number is later = rw is later
    at (some place) same_number is later = rw (is, same_number)

placed_further : (fits : Bool) (n place : ℕ) → placed fits (n + place) ≡ further n (placed fits place)
placed_further true n place = refl
placed_further false n place = refl

where_further : (fits fits' : ℕ → Bool) (n : ℕ) (p : Option ℕ) → ((k : ℕ) → p ≡ some k → fits (n + k) ≡ fits' k) → placed_where fits (further n p) ≡ further n (placed_where fits' p)
where_further fits fits' n none same = refl
where_further fits fits' n (some k) same = rw (same k refl) (placed_further (fits' k) n k)

module _ (one two : List ℕ) (rules : Rules) (f : Figures) (passes : NoneFits (replay_tests one rules f)) (apart : T (none_goes_on (records_of one) (records_of two))) where
  abbrev left : Figures
  left = up_to_date rules (records_of one) f

  whole : length one % trace_record_bytes ≡ 0
  whole = whole_trace one rules f passes

  -- the first record refused of both is that of the second
  below : (k : ℕ) → k ≤ record_count two → NoneBelow (is_stopped two rules left) 1 (1 + k) → NoneBelow (is_stopped (one ++ two) rules f) 1 (1 + (record_count one + k))
  below k high none-second x low within =
      ⊎_elim
      (λ (first : leb x (record_count one) ≡ true).
      let in_first : x ≤ record_count one = leb-true x (record_count one) first in
      stopped_one one two whole rules f x low in_first ∙ none_below one rules f passes x low (omega arith))
      (λ (second : leb x (record_count one) ≡ false).
      let in_second : record_count one < x = leb-false x (record_count one) second in
      let at : record_count one + (x - record_count one) ≡ x = omega arith in
      subst (λ (y : ℕ). is_stopped (one ++ two) rules f y ≡ false) at
      (stopped_two one two whole rules f apart (x - record_count one) (omega arith) (omega arith) ∙ none-second (x - record_count one) (omega arith) (omega arith)))
      (cases (leb x (record_count one)))

  stopped_both : first_stopped (one ++ two) rules f ≡ further (record_count one) (first_stopped two rules left)
  stopped_both = at (first_stopped two rules left) refl
    where
      count : record_count (one ++ two) ≡ record_count one + record_count two
      count = count_both one two whole

      at : (p : Option ℕ) → first_stopped two rules left ≡ p → first_stopped (one ++ two) rules f ≡ further (record_count one) p
      at none e =
          let none-second = lowest_is_none (is_stopped two rules left) 1 (record_count two) e in
          lowest_none (is_stopped (one ++ two) rules f) 1 (record_count (one ++ two)) (λ x low within. below (record_count two) (omega arith) none-second x low (omega (arith, count)))
      at (some k) e =
          let least = lowest_some (is_stopped two rules left) 1 (record_count two) k e in
          lowest_found (is_stopped (one ++ two) rules f) 1 (record_count (one ++ two)) (record_count one + k) (omega (arith, least)) (omega (arith, count, least))
          (λ x low within. below (k - 1) (omega (arith, least)) (λ y low within. least.before y low (omega (arith, least.low))) x low (omega (arith, least.low)))
          (stopped_two one two whole rules f apart k least.low (omega (arith, least.high)) ∙ least.here)

  torn_both : torn_trace (one ++ two) ≡ further (length one) (torn_trace two)
  torn_both =
      let total : length (one ++ two) ≡ length one + length two = length-append one two in
      let same : length (one ++ two) % trace_record_bytes ≡ length two % trace_record_bytes = omega (arith, total, whole) in
      ap₂ (λ (n m : ℕ). placed (not (eqb n 0)) m) same total ∙ placed_further (not (eqb (length two % trace_record_bytes) 0)) (length one) (length two)

  record_both : (k : ℕ) → first_stopped two rules left ≡ some k → trace_record_at (one ++ two) (record_count one + k) ≡ trace_record_at two k
  record_both k e = record_two one two whole k (lowest_some (is_stopped two rules left) 1 (record_count two) k e).low

  placed_both : (fits : TraceRecord → Bool) →
      placed_where (λ k. fits (trace_record_at (one ++ two) k)) (first_stopped (one ++ two) rules f) ≡ further (record_count one) (placed_where (λ k. fits (trace_record_at two k)) (first_stopped two rules left))
  placed_both fits =
      ap (placed_where (λ k. fits (trace_record_at (one ++ two) k))) stopped_both
      ∙ where_further _ _ (record_count one) (first_stopped two rules left) (λ k e. ap fits (record_both k e))

  each : EachBehind one (replay_tests (one ++ two) rules f) (replay_tests two rules left)
  each = (
    refl,
    passes.0 ∙ sym (ap (further _) passes.0),
    (
      refl,
      passes.1.0 ∙ sym (ap (further _) (sound_figures_pass left rules (leaves_sound one rules f passes))),
      (
        refl,
        torn_both,
        (
          refl,
          placed_both is_odd,
          (refl, placed_both (λ r. not (is_odd r)), tt),
        ),
      ),
    ),
  )

  pub reply_both : replay_reply (one ++ two) rules f ≡ behind one (replay_reply two rules left)
  reply_both =
      first_behind one (replay_tests (one ++ two) rules f) (replay_tests two rules left) (succeeded (record_count (one ++ two)) 0) (succeeded (record_count two) 0) each
      (ap (λ (n : ℕ). succeeded n 0) (count_both one two whole))

  pub figures_after_both : (replay_reply two rules left).number ≡ 0 → figures_after (one ++ two) rules f ≡ figures_after two rules left
  figures_after_both done =
      figures_accepted (one ++ two) rules f (ap (λ (r : Reply). r.number) reply_both ∙ done) ∙ figures_both one two whole rules f apart ∙ sym (figures_accepted two rules left done)

-- What the first alone refuses.
first_same : (ts us vs : List Test) (s s' : Reply) → ¬ ((first_of (ts ++ us) s).number ≡ 0) → (¬ ((first_of us s).number ≡ 0) → first_of us s ≡ first_of vs s') → first_of (ts ++ us) s ≡ first_of (ts ++ vs) s'
unfolding first_of
first_same [] us vs s s' refused same = same refused
first_same (t ∷ ts) us vs s s' refused same = by t.place refl (λ refused. first_same ts us vs s s' refused same)
  where
    by : (p : Option ℕ) → t.place ≡ p → (¬ ((first_of (ts ++ us) s).number ≡ 0) → first_of (ts ++ us) s ≡ first_of (ts ++ vs) s')
        → refused_or t.number t.place (first_of (ts ++ us) s) ≡ refused_or t.number t.place (first_of (ts ++ vs) s')
    by none is later = rw is (later (λ e. refused (rw is e)))
    by (some place) is later = rw is

-- 22 where the record is odd, else 23
abbrev whichever : Bool → ℕ
whichever true = 22
whichever false = 23

module _ (one two : List ℕ) (rules : Rules) (f : Figures) (untorn-one : torn_trace one ≡ none) (untorn-two : torn_trace two ≡ none) where
  whole_one : length one % trace_record_bytes ≡ 0
  whole_one = untorn_whole one untorn-one

  untorn_both : torn_trace (one ++ two) ≡ none
  untorn_both =
      let whole_both : length (one ++ two) % trace_record_bytes ≡ 0 = omega (arith, length-append one two, whole_one, untorn_whole two untorn-two) in
      ap (λ (b : Bool). placed (not b) (length (one ++ two))) (eq-eqb _ _ whole_both)

  -- the record refused is told alike, by whichever refusal it is
  told_at : (trace : List ℕ) (k : ℕ) (s : Reply) → torn_trace trace ≡ none → first_stopped trace rules f ≡ some k →
      first_of (trace_tests trace rules f) s ≡ refused_at (whichever (is_odd (trace_record_at trace k))) k
  unfolding first_of
  told_at trace k s whole stopped = by (is_odd (trace_record_at trace k)) refl
    where
      by : (odd : Bool) → is_odd (trace_record_at trace k) ≡ odd → first_of (trace_tests trace rules f) s ≡ refused_at (whichever odd) k
      by true is = rw (whole, stopped, is)
      by false is = rw (whole, stopped, is)

  -- what the first refuses, both in one refuse likewise
  pub reply_first : ¬ ((replay_reply one rules f).number ≡ 0) → replay_reply one rules f ≡ replay_reply (one ++ two) rules f
  reply_first refused = first_same (start_tests rules f) (trace_tests one rules f) (trace_tests (one ++ two) rules f) _ _ refused (λ refused. at (first_stopped one rules f) refl refused)
    where
      at : (p : Option ℕ) → first_stopped one rules f ≡ p → ¬ ((first_of (trace_tests one rules f) (succeeded (record_count one) 0)).number ≡ 0)
          → first_of (trace_tests one rules f) (succeeded (record_count one) 0) ≡ first_of (trace_tests (one ++ two) rules f) (succeeded (record_count (one ++ two)) 0)
      at none e refused = absurd (refused (ap (λ (r : Reply). r.number) (none_at_all (trace_tests one rules f) (succeeded (record_count one) 0) (untorn-one, (rw e refl, (rw e refl, tt))))))
      at (some k) e refused =
          let least = lowest_some (is_stopped one rules f) 1 (record_count one) k e in
          let in_both : first_stopped (one ++ two) rules f ≡ some k =
          lowest_found (is_stopped (one ++ two) rules f) 1 (record_count (one ++ two)) k least.low (omega (arith, least.high, count_both one two whole_one))
          (λ x low within. stopped_one one two whole_one rules f x low (omega (arith, least.high)) ∙ least.before x low within)
          (stopped_one one two whole_one rules f k least.low (omega (arith, least.high)) ∙ least.here) in
          told_at one k (succeeded (record_count one) 0) untorn-one e
          ∙ ap (λ (r : TraceRecord). refused_at (whichever (is_odd r)) k) (sym (record_one one two whole_one k least.low (omega (arith, least.high))))
          ∙ sym (told_at (one ++ two) k (succeeded (record_count (one ++ two)) 0) untorn_both in_both)
