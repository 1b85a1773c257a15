-- Record by record, the figures are those of the whole trace. Assumes nothing.
use mathlib.Core.Path.{◌≡◌, ◌∙◌, refl, sym, ap}
use mathlib.Core.Bool.{true, false}
use mathlib.Core.List.{List, [], ◌∷◌, ◌++◌}
use mathlib.Core.Logic.{⊎_elim}
use Prim.Native.Nat.{ℕ, zero, suc, ◌+◌}
use native.Mathlib.Numerals.{add-one}
use native.Mathlib.Omega.{arith}
use borrow.Author.Tests.{ltb-false}
use lib.Dec.{ltb}
use Rattle.booleans.proofs.Tests.{cases}
use Rattle.driving.specs.declared.Figures.{Figures}
use Rattle.driving.specs.declared.Rules.{Rules}
use Rattle.driving.specs.Accepted.{SoundRules}
use Rattle.driving.specs.Hours.{driven_on}
use Rattle.replay.specs.declared.TraceRecord.{TraceRecord}
use Rattle.replay.specs.declared.Underway.{Underway}
use Rattle.replay.specs.Trace.{is_driving, is_pause, paused_before, joined, trace_record_at, records_from, first_records}
use Rattle.replay.specs.Replay.{after_activity, after_each, up_to_date, most_seconds}
use Rattle.replay.specs.Steps.{begun, lengthened, settled, step_on}
use Rattle.replay.proofs.Joining.{before_other, joined_pause, joined_other, paused_twice, no_pause, no_pause_before, long_pause_before}

-- the records of a list, one after the other
abbrev pub ran : Rules → Underway → List TraceRecord → Underway
ran rules u [] = u
ran rules u (r ∷ rs) = ran rules (step_on rules u r) rs

pub ran_more : (rules : Rules) (u : Underway) (rs : List TraceRecord) (r : TraceRecord) → ran rules u (rs ++ r ∷ []) ≡ step_on rules (ran rules u rs) r
ran_more rules u [] r = refl
ran_more rules u (s ∷ rs) r = ran_more rules (step_on rules u s) rs r

-- the three kinds of record
pub on_pause : (rules : Rules) (u : Underway) (r : TraceRecord) → is_pause r ≡ true → step_on rules u r ≡ record { figures = u.figures; pause = record { 0 = lengthened u.pause.0 r.seconds } }
on_pause rules u r is = rw is

pub on_driving : (rules : Rules) (u : Underway) (r : TraceRecord) → is_pause r ≡ false → is_driving r ≡ true → step_on rules u r ≡ begun (driven_on r.seconds (settled rules u))
on_driving rules u r no_pause drives = rw (no_pause, drives)

pub on_work : (rules : Rules) (u : Underway) (r : TraceRecord) → is_pause r ≡ false → is_driving r ≡ false → step_on rules u r ≡ begun (settled rules u)
on_work rules u r no_pause no_drive = rw (no_pause, no_drive)

pub on_other : (rules : Rules) (u : Underway) (r : TraceRecord) → is_pause r ≡ false → step_on rules u r ≡ begun (after_activity rules r (settled rules u))
on_other rules u r is =
    ⊎_elim
    (λ (drives : is_driving r ≡ true). on_driving rules u r is drives ∙ rw drives)
    (λ (no_drive : is_driving r ≡ false). on_work rules u r is no_drive ∙ rw (is, no_drive))
    (cases (is_driving r))

module _ (rules : Rules) (sound : SoundRules rules) where
  -- a pause that stops at the longest that any rule asks for is as good as the whole
  lengthened_before : (p s : ℕ) (rs : List TraceRecord) (f : Figures) → after_each rules (paused_before (lengthened p s) rs) f ≡ after_each rules (paused_before (p + s) rs) f
  lengthened_before p s rs f =
      ⊎_elim
      (λ (short : ltb (p + s) most_seconds ≡ true). rw short)
      (λ (long : ltb (p + s) most_seconds ≡ false). rw long (long_pause_before rules sound most_seconds (p + s) rs f (omega arith) (ltb-false (p + s) most_seconds long)))
      (cases (ltb (p + s) most_seconds))

  ran_settles : (u : Underway) (rs : List TraceRecord) → settled rules (ran rules u rs) ≡ after_each rules (paused_before u.pause.0 (joined rs)) u.figures
  unfolding after_each paused_before joined
  ran_settles u [] = refl
  ran_settles u (r ∷ rs) =
      ⊎_elim
      (λ (is : is_pause r ≡ true).
      ap (λ (v : Underway). settled rules (ran rules v rs)) (on_pause rules u r is)
      ∙ ran_settles (record { figures = u.figures; pause = record { 0 = lengthened u.pause.0 r.seconds } }) rs
      ∙ lengthened_before u.pause.0 r.seconds (joined rs) u.figures
      ∙ ap (λ (l : List TraceRecord). after_each rules l u.figures) (sym (paused_twice u.pause.0 r.seconds (joined rs)) ∙ ap (paused_before u.pause.0) (sym (joined_pause r rs is))))
      (λ (is : is_pause r ≡ false).
      let next = after_activity rules r (settled rules u) in
      ap (λ (v : Underway). settled rules (ran rules v rs)) (on_other rules u r is)
      ∙ ran_settles (begun next) rs
      ∙ no_pause_before rules sound (joined rs) next
      ∙ ap (λ (l : List TraceRecord). after_each rules l u.figures) (sym (before_other u.pause.0 r (joined rs) is) ∙ ap (paused_before u.pause.0) (sym (joined_other r rs is))))
      (cases (is_pause r))

  pub ran_up_to_date : (f : Figures) (rs : List TraceRecord) → settled rules (ran rules (begun f) rs) ≡ up_to_date rules rs f
  ran_up_to_date f rs = ran_settles (begun f) rs ∙ no_pause_before rules sound (joined rs) f

-- one record more is the next record behind the others
pub records_more : (trace : List ℕ) (k n : ℕ) → records_from trace k (suc n) ≡ records_from trace k n ++ trace_record_at trace (k + n) ∷ []
unfolding records_from
records_more trace k zero = ap (λ (j : ℕ). trace_record_at trace j ∷ []) same
  where
    same : k ≡ k + 0
    same = omega arith
records_more trace k (suc n) = ap (λ (rs : List TraceRecord). trace_record_at trace k ∷ rs) (records_more trace (k + 1) n ∙ ap (λ (j : ℕ). records_from trace (k + 1) n ++ trace_record_at trace j ∷ []) same)
  where
    same : k + 1 + n ≡ k + suc n
    same = omega arith

pub first_more : (trace : List ℕ) (n : ℕ) → first_records trace (n + 1) ≡ first_records trace n ++ trace_record_at trace (n + 1) ∷ []
first_more trace n =
    let same : 1 + n ≡ n + 1 = omega arith in
    ap (records_from trace 1) (add-one n) ∙ records_more trace 1 n ∙ ap (λ (j : ℕ). first_records trace n ++ trace_record_at trace j ∷ []) same
