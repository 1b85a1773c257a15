-- Neighbouring pauses as one, and the figures after them. Assumes nothing.
use mathlib.Core.Path.{◌≡◌, ◌∙◌, refl, sym, ap, ap₂}
use mathlib.Core.Bool.{Bool, true, false, not, ◌&&◌}
use mathlib.Core.List.{List, [], ◌∷◌}
use mathlib.Core.Logic.{⊎_elim}
use Prim.Native.Nat.{ℕ, ◌+◌, ◌≤◌, ◌<◌}
use native.Mathlib.Omega.{arith}
use borrow.Author.Tests.{le-leb, lt-leb, ne_eqb, eqb-true}
use lib.Dec.{T, leb}
use Rattle.booleans.proofs.Tests.{cases}
use Rattle.driving.specs.declared.Figures.{Figures}
use Rattle.driving.specs.declared.Rules.{Rules}
use Rattle.driving.specs.Accepted.{SoundRules}
use Rattle.driving.specs.Hours.{has_split, after_break, after_rest, after_first, after_second, after_weekly}
use Rattle.replay.specs.declared.TraceRecord.{TraceRecord}
use Rattle.replay.specs.Trace.{driving, pause, is_driving, is_pause, pause_of, paused_before, joined}
use Rattle.replay.specs.Replay.{after_short_pause, after_pause, after_each, most_seconds}

-- a pause is no driving
pub pause_no_driving : (r : TraceRecord) → is_pause r ≡ true → is_driving r ≡ false
pause_no_driving r is = ne_eqb r.activity driving (λ e. omega (arith, eqb-true r.activity pause is))

pub driving_no_pause : (r : TraceRecord) → is_driving r ≡ true → is_pause r ≡ false
driving_no_pause r is = ne_eqb r.activity pause (λ e. omega (arith, eqb-true r.activity driving is))

-- a pause that is too short for a second part is none, marked or not
pub too_short : (marked : Bool) {long : Bool} → long ≡ false → (marked && long) ≡ false
too_short true short = short
too_short false short = refl

-- a pause by its length
module _ (rules : Rules) (seconds : ℕ) (f : Figures) where
  pub clears_all : rules.weekly_rest.0 ≤ seconds → after_pause rules seconds f ≡ after_weekly f
  clears_all weekly = rw (le-leb rules.weekly_rest.0 seconds weekly)

  pub clears_both : seconds < rules.weekly_rest.0 → rules.rest_time.0 ≤ seconds → after_pause rules seconds f ≡ after_rest f
  clears_both no-weekly rests = rw (lt-leb rules.weekly_rest.0 seconds no-weekly, le-leb rules.rest_time.0 seconds rests)

  pub clears_spell : seconds < rules.weekly_rest.0 → seconds < rules.rest_time.0 → rules.break_time.0 ≤ seconds → after_pause rules seconds f ≡ after_break f
  clears_spell no-weekly no-rest breaks =
      rw (lt-leb rules.weekly_rest.0 seconds no-weekly, lt-leb rules.rest_time.0 seconds no-rest, le-leb rules.break_time.0 seconds breaks)

  pub is_short : seconds < rules.weekly_rest.0 → seconds < rules.rest_time.0 → seconds < rules.break_time.0 → after_pause rules seconds f ≡ after_short_pause rules seconds f
  is_short no-weekly no-rest no-break =
      rw (lt-leb rules.weekly_rest.0 seconds no-weekly, lt-leb rules.rest_time.0 seconds no-rest, lt-leb rules.break_time.0 seconds no-break)

  -- one shorter than the break, by the split, the mark and the parts
  pub no_part : has_split rules ≡ false → after_short_pause rules seconds f ≡ f
  no_part no-split = rw no-split

  pub second_part_lem : has_split rules ≡ true → f.marked ≡ true → leb rules.second_part.0 seconds ≡ true → after_short_pause rules seconds f ≡ after_second f
  second_part_lem split marked long = rw (split, marked, long)

  pub first_part : has_split rules ≡ true → (f.marked && leb rules.second_part.0 seconds) ≡ false → rules.first_part.0 ≤ seconds → after_short_pause rules seconds f ≡ after_first f
  first_part split no_second firsts = rw (split, no_second, le-leb rules.first_part.0 seconds firsts)

  pub neither_part : has_split rules ≡ true → (f.marked && leb rules.second_part.0 seconds) ≡ false → seconds < rules.first_part.0 → after_short_pause rules seconds f ≡ f
  neither_part split no_second no-first = rw (split, no_second, lt-leb rules.first_part.0 seconds no-first)

-- a pause in front of what begins with a pause, and of what does not
pub before_pause : (seconds : ℕ) (r : TraceRecord) (rs : List TraceRecord) → is_pause r ≡ true → paused_before seconds (r ∷ rs) ≡ pause_of (seconds + r.seconds) ∷ rs
unfolding paused_before
before_pause seconds r rs is = rw (is, paused_before)

pub before_other : (seconds : ℕ) (r : TraceRecord) (rs : List TraceRecord) → is_pause r ≡ false → paused_before seconds (r ∷ rs) ≡ pause_of seconds ∷ r ∷ rs
unfolding paused_before
before_other seconds r rs is = rw (is, paused_before)

pub before_none : (seconds : ℕ) → paused_before seconds [] ≡ pause_of seconds ∷ []
unfolding paused_before
before_none seconds = refl

pub joined_pause : (r : TraceRecord) (rs : List TraceRecord) → is_pause r ≡ true → joined (r ∷ rs) ≡ paused_before r.seconds (joined rs)
unfolding joined
joined_pause r rs is = rw (is, joined)

pub joined_other : (r : TraceRecord) (rs : List TraceRecord) → is_pause r ≡ false → joined (r ∷ rs) ≡ r ∷ joined rs
unfolding joined
joined_other r rs is = rw (is, joined)

-- two pauses in front are one of both lengths
pub paused_twice : (a b : ℕ) (rs : List TraceRecord) → paused_before a (paused_before b rs) ≡ paused_before (a + b) rs
paused_twice a b [] = ap (paused_before a) (before_none b) ∙ before_pause a (pause_of b) [] refl ∙ sym (before_none (a + b))
paused_twice a b (r ∷ rs) =
    ⊎_elim
    (λ (is : is_pause r ≡ true).
    let sum : a + (b + r.seconds) ≡ a + b + r.seconds = omega arith in
    ap (paused_before a) (before_pause b r rs is) ∙ before_pause a (pause_of (b + r.seconds)) rs refl
    ∙ ap (λ (s : ℕ). pause_of s ∷ rs) sum ∙ sym (before_pause (a + b) r rs is))
    (λ (is : is_pause r ≡ false).
    ap (paused_before a) (before_other b r rs is) ∙ before_pause a (pause_of b) (r ∷ rs) refl ∙ sym (before_other (a + b) r rs is))
    (cases (is_pause r))

-- Joined, no two neighbours are pauses. No proof cites it: it says what `joined` makes.
abbrev pub no_neighbours : List TraceRecord → Bool
no_neighbours [] = true
no_neighbours (r ∷ []) = true
no_neighbours (r ∷ s ∷ rs) = let rest = no_neighbours (s ∷ rs) in not (is_pause r && is_pause s) && rest

before_apart : (seconds : ℕ) (rs : List TraceRecord) → T (no_neighbours rs) → T (no_neighbours (paused_before seconds rs))
before_apart seconds [] apart = rw (before_none seconds) tt
before_apart seconds (r ∷ []) apart =
    ⊎_elim (λ (is : is_pause r ≡ true). rw (before_pause seconds r [] is) tt) (λ (is : is_pause r ≡ false). rw (before_other seconds r [] is, is) tt) (cases (is_pause r))
before_apart seconds (r ∷ s ∷ rs) apart =
    ⊎_elim
    (λ (is : is_pause r ≡ true). rw (before_pause seconds r (s ∷ rs) is) (rw is at apart))
    (λ (is : is_pause r ≡ false). rw (before_other seconds r (s ∷ rs) is, is) (rw is at apart))
    (cases (is_pause r))

other_apart : (r : TraceRecord) (rs : List TraceRecord) → is_pause r ≡ false → T (no_neighbours rs) → T (no_neighbours (r ∷ rs))
other_apart r [] is apart = tt
other_apart r (s ∷ rs) is apart = rw is apart

pub joined_apart : (rs : List TraceRecord) → T (no_neighbours (joined rs))
unfolding joined
joined_apart [] = tt
joined_apart (r ∷ rs) =
    ⊎_elim
    (λ (is : is_pause r ≡ true). rw (joined_pause r rs is) (before_apart r.seconds (joined rs) (joined_apart rs)))
    (λ (is : is_pause r ≡ false). rw (joined_other r rs is) (other_apart r (joined rs) is (joined_apart rs)))
    (cases (is_pause r))

-- the pause that a list begins with, 0 where it begins with none, and what is behind it
abbrev front_pause : List TraceRecord → ℕ
front_pause [] = 0
front_pause (r ∷ rs) = elim (is_pause r) [ true ↦ r.seconds | false ↦ 0 ]

abbrev behind_pause : List TraceRecord → List TraceRecord
behind_pause [] = []
behind_pause (r ∷ rs) = elim (is_pause r) [ true ↦ rs | false ↦ r ∷ rs ]

-- a pause in front is judged with the one that it is joined to
in_front : (rules : Rules) (a : ℕ) (rs : List TraceRecord) (f : Figures) → after_each rules (paused_before a rs) f ≡ after_each rules (behind_pause rs) (after_pause rules (a + front_pause rs) f)
unfolding after_each paused_before
in_front rules a [] f = let same : a ≡ a + 0 = omega arith in ap (λ (s : ℕ). after_pause rules s f) same
in_front rules a (r ∷ rs) f =
    ⊎_elim
    (λ (is : is_pause r ≡ true). rw (is, paused_before, front_pause, behind_pause) refl)
    (λ (is : is_pause r ≡ false).
    let same : a ≡ a + 0 = omega arith in
    rw (is, paused_before, front_pause, behind_pause) (ap (λ (s : ℕ). after_each rules (r ∷ rs) (after_pause rules s f)) same))
    (cases (is_pause r))

module _ (rules : Rules) (sound : SoundRules rules) where
  -- no pause changes nothing, since with a split each part is at least 1; one that is longer than any rule asks for clears what the longest
  -- does
  pub no_pause : (f : Figures) → after_pause rules 0 f ≡ f
  no_pause f =
      is_short rules 0 f (omega (arith, sound)) (omega (arith, sound)) (omega (arith, sound))
      ∙ ⊎_elim
      (λ (split : has_split rules ≡ true). neither_part rules 0 f split (too_short f.marked (lt-leb _ _ (sound.second_low split))) (sound.first_low split))
      (λ (no-split : has_split rules ≡ false). no_part rules 0 f no-split)
      (cases (has_split rules))

  long_pause : (a b : ℕ) (f : Figures) → most_seconds ≤ a → most_seconds ≤ b → after_pause rules a f ≡ after_pause rules b f
  long_pause a b f long-a long-b = clears_all rules a f (omega (arith, sound)) ∙ sym (clears_all rules b f (omega (arith, sound)))

  unpaused : (rs : List TraceRecord) (f : Figures) → after_each rules (behind_pause rs) (after_pause rules (front_pause rs) f) ≡ after_each rules rs f
  unfolding after_each
  unpaused [] f = no_pause f
  unpaused (r ∷ rs) f =
      ⊎_elim
      (λ (is : is_pause r ≡ true). rw (is, front_pause, behind_pause, pause_no_driving r is) refl)
      (λ (is : is_pause r ≡ false).
      let none_in_front : front_pause (r ∷ rs) ≡ 0 = rw (is, front_pause) in
      let all_behind : behind_pause (r ∷ rs) ≡ r ∷ rs = rw (is, behind_pause) in
      ap₂ (λ (l : List TraceRecord) (s : ℕ). after_each rules l (after_pause rules s f)) all_behind none_in_front ∙ ap (after_each rules (r ∷ rs)) (no_pause f))
      (cases (is_pause r))

  pub no_pause_before : (rs : List TraceRecord) (f : Figures) → after_each rules (paused_before 0 rs) f ≡ after_each rules rs f
  no_pause_before rs f =
      let same : 0 + front_pause rs ≡ front_pause rs = omega arith in
      in_front rules 0 rs f ∙ ap (λ (s : ℕ). after_each rules (behind_pause rs) (after_pause rules s f)) same ∙ unpaused rs f

  pub long_pause_before : (a b : ℕ) (rs : List TraceRecord) (f : Figures) → most_seconds ≤ a → most_seconds ≤ b → after_each rules (paused_before a rs) f ≡ after_each rules (paused_before b rs) f
  long_pause_before a b rs f long-a long-b =
      in_front rules a rs f ∙ ap (after_each rules (behind_pause rs)) (long_pause (a + front_pause rs) (b + front_pause rs) f (omega arith) (omega arith)) ∙ sym (in_front rules b rs f)
