-- When a banned road may be entered, whichever days are ban days. Assumes nothing.
use mathlib.Core.Path.{◌≡◌, refl}
use mathlib.Core.Bool.{Bool, true, false, ◌&&◌}
use mathlib.Core.Logic.{⊎_elim}
use Prim.Native.Nat.{ℕ, ◌+◌, ◌*◌, ◌≤◌, ◌<◌}
use native.Mathlib.Omega.{arith}
use borrow.Author.Tests.{ltb-true, ltb-false, lt-ltb, le-ltb}
use lib.Dec.{ltb}
use Rattle.booleans.proofs.Tests.{cases, and_true}
use Rattle.calendar.specs.Gate.{day_seconds, day_of, time_of, opening_time, opened_by}

-- 22:00 of the day
abbrev evening : ℕ → ℕ
evening c = day_seconds * day_of c + opening_time

second_fails : (a : Bool) {b : Bool} → b ≡ false → (a && b) ≡ false
second_fails true e = e
second_fails false e = refl

module _ (banned : ℕ → Bool) where
  abbrev shut : ℕ → Bool
  shut c = banned (day_of c) && ltb (time_of c) opening_time

  shut_queues : (c : ℕ) → shut c ≡ true → opened_by banned c ≡ evening c
  shut_queues c e = rw e

  open_enters : (c : ℕ) → shut c ≡ false → opened_by banned c ≡ c
  open_enters c e = rw e

  -- the gate's three cases: a ban day before 22:00, another day, and from 22:00 on
  pub ban_queues : (c : ℕ) → banned (day_of c) ≡ true → time_of c < opening_time → opened_by banned c ≡ evening c
  ban_queues c ban early = shut_queues c (rw (ban, lt-ltb (time_of c) opening_time early))

  pub free_enters : (c : ℕ) → banned (day_of c) ≡ false → opened_by banned c ≡ c
  free_enters c free = open_enters c (rw free)

  pub late_enters : (c : ℕ) → opening_time ≤ time_of c → opened_by banned c ≡ c
  late_enters c late = open_enters c (second_fails (banned (day_of c)) (le-ltb (time_of c) opening_time late))

  -- who queues comes before 22:00
  before_evening : (c : ℕ) → shut c ≡ true → c < evening c
  before_evening c e = omega (arith, ltb-true (time_of c) opening_time (and_true {a = banned (day_of c)} e).1)

  -- nobody enters before coming
  pub no_earlier : (c : ℕ) → c ≤ opened_by banned c
  no_earlier c =
      ⊎_elim
      (λ (e : shut c ≡ true). rw (shut_queues c e) (omega (arith, before_evening c e)))
      (λ (e : shut c ≡ false). rw (open_enters c e) (omega arith))
      (cases (shut c))

  -- nor queues longer than from 00:00 to 22:00
  pub within_queue : (c : ℕ) → opened_by banned c ≤ c + opening_time
  within_queue c =
      ⊎_elim
      (λ (e : shut c ≡ true). rw (shut_queues c e) (omega arith))
      (λ (e : shut c ≡ false). rw (open_enters c e) (omega arith))
      (cases (shut c))

  -- a later lorry queues as long, if it comes before 22:00 of that day
  same_evening : (c d : ℕ) → shut c ≡ true → c ≤ d → d < evening c → opened_by banned d ≡ evening c
  same_evening c d e later soon =
      let day : day_of d ≡ day_of c = omega arith in
      rw (← day) (ban_queues d (rw day (and_true {a = banned (day_of c)} e).0) (omega arith))

  -- who comes no later enters no later
  pub monotone : (c d : ℕ) → c ≤ d → opened_by banned c ≤ opened_by banned d
  monotone c d later =
      ⊎_elim
      (λ (e : shut c ≡ true).
      ⊎_elim
      (λ (soon : ltb d (evening c) ≡ true). rw (shut_queues c e, same_evening c d e later (ltb-true _ _ soon)) (omega arith))
      (λ (late : ltb d (evening c) ≡ false). rw (shut_queues c e) (omega (arith, no_earlier d, ltb-false d (evening c) late)))
      (cases (ltb d (evening c))))
      (λ (e : shut c ≡ false). rw (open_enters c e) (omega (arith, no_earlier d)))
      (cases (shut c))

  -- the gate is open when it says: who has queued does not queue again
  pub opens : (c : ℕ) → opened_by banned (opened_by banned c) ≡ opened_by banned c
  opens c =
      ⊎_elim
      (λ (e : shut c ≡ true).
      rw (shut_queues c e) (late_enters (evening c) (omega arith)))
      (λ (e : shut c ≡ false). rw (open_enters c e) (open_enters c e))
      (cases (shut c))
