-- The laws of "the lowest" and of "the first refusal that fits". Assumes nothing.
use mathlib.Core.Path.{◌≡◌, ◌∙◌, refl, sym, ap}
use mathlib.Core.Bool.{Bool, true, false, ◌&&◌}
use mathlib.Core.List.{List, [], ◌∷◌, ◌++◌, append_assoc, append-nil}
use mathlib.Core.Logic.{⊎_elim}
use mathlib.Core.Option.{Option, none, some}
use Prim.Native.Nat.{ℕ, zero, suc, ◌+◌, ◌≤◌, ◌<◌}
use native.Mathlib.Omega.{arith}
use native.Mathlib.Nat.{add-zero, zero-add, suc-add, eq-or-lt_of_le}
use lib.Dec.{T, eqb, ltb, lit≤}
use Rattle.booleans.proofs.Tests.{cases, not_both, some_not_none, T_true, and_l, and_r}
use Rattle.replies.specs.declared.Reply.{Reply}
use Rattle.replies.specs.declared.Refusal.{Refusal}
use Rattle.replies.specs.declared.Refusal.TheVariants.{ShortMap, StrangeMap, Oversize, Misfit, BadJunction, BadRoad, BrokenChain, BadLettering, BadOrder, BadRules, BadTrip, Full, NoRoad, ShortSheet, TornSheet, ForeignMove, Overrun, FalseFigure, Stray, UnknownName, TornTrace, OddRecord, PastLimit, UnknownRoad, BadBans}
use Rattle.std.specs.Prelude.{Result, Ok, Err}
use Rattle.replies.specs.Told.{refused_at, succeeded, told_refusal, told_check}
use Rattle.replies.specs.First.{Test, refused_or, first_of, lowest, NoneFits, Refuses, Tried}

-- it is none of the numbers from k below i
abbrev pub NoneBelow : (ℕ → Bool) → ℕ → ℕ → Type 0
NoneBelow fits k i = (x : ℕ) → k ≤ x → x < i → fits x ≡ false

-- one more number that it is not
pub one_more : (fits : ℕ → Bool) {k i : ℕ} → NoneBelow fits k i → fits i ≡ false → NoneBelow fits k (i + 1)
one_more fits {k} {i} before here x low high =
    ⊎_elim (λ (e : x ≡ i). rw e here) (λ (l : x < i). before x low l) (eq-or-lt_of_le (at_most high))
  where
    at_most : x < i + 1 → x ≤ i
    at_most h = omega arith

pub lowest_none : (fits : ℕ → Bool) (k n : ℕ) → NoneBelow fits k (k + n) → lowest fits k n ≡ none
unfolding lowest
lowest_none fits k zero none_fits = refl
lowest_none fits k (suc n) none_fits =
    rw (none_fits k (omega arith) (omega arith), lowest)
    (lowest_none fits (k + 1) n (λ x low high. none_fits x (omega arith) (omega arith)))

pub lowest_found : (fits : ℕ → Bool) (k n i : ℕ) → k ≤ i → i < k + n → NoneBelow fits k i → fits i ≡ true → lowest fits k n ≡ some i
unfolding lowest
lowest_found fits k zero i low high before here = absurd (omega arith)
lowest_found fits k (suc n) i low high before here =
    ⊎_elim
    (λ (at-k : fits k ≡ true).
    let same : k ≡ i = ⊎_elim (λ e. e) (λ l. absurd (not_both at-k (before k (omega arith) l))) (eq-or-lt_of_le low) in
    rw (at-k, lowest) (ap some same))
    (λ (not_k : fits k ≡ false).
    let later : k + 1 ≤ i = ⊎_elim (λ e. absurd (not_both here (rw e at not_k))) (λ l. omega arith) (eq-or-lt_of_le low) in
    rw (not_k, lowest) (lowest_found fits (k + 1) n i later (omega arith) (λ x l h. before x (omega arith) h) here))
    (cases (fits k))

-- numbers that it is not are passed over
pub lowest_past : (fits : ℕ → Bool) (k m n : ℕ) → NoneBelow fits k (k + m) → lowest fits k (m + n) ≡ lowest fits (k + m) n
unfolding lowest
lowest_past fits k zero n none_fits = rw (add-zero k, zero-add n) refl
lowest_past fits k (suc m) n none_fits =
    let next : k + 1 + m ≡ k + suc m = omega arith in
    rw (suc-add m n, none_fits k (omega arith) (omega arith), lowest)
    (lowest_past fits (k + 1) m n (λ x low high. none_fits x (omega arith) (omega arith)) ∙ ap (λ (i : ℕ). lowest fits i n) next)

-- what a lowest place says: it is one of the numbers, the test holds there and at none before
pub record Lowest (fits : ℕ → Bool) (k n i : ℕ) : Type 0 where
  pub low : k ≤ i
  pub high : i < k + n
  pub here : fits i ≡ true
  pub before : NoneBelow fits k i

pub lowest_some : (fits : ℕ → Bool) (k n i : ℕ) → lowest fits k n ≡ some i → Lowest fits k n i
unfolding lowest
lowest_some fits k zero i e = absurd (some_not_none (sym e))
lowest_some fits k (suc n) i e =
    ⊎_elim
    (λ (at-k : fits k ≡ true).
    let same : k ≡ i = cc (rw (at-k, lowest) at e) in
    record { low = omega arith; high = omega arith; here = rw (← same) at-k; before = λ x low high. absurd (omega arith) })
    (λ (not_k : fits k ≡ false).
    let rest = lowest_some fits (k + 1) n i (rw (not_k, lowest) at e) in
    record {
      low = omega arith;
      high = omega arith;
      here = rest.here;
      before = λ x low high.
          ⊎_elim (λ (same : k ≡ x). rw (← same) not_k) (λ (l : k < x). rest.before x (omega arith) high) (eq-or-lt_of_le low);
    })
    (cases (fits k))

pub lowest_is_none : (fits : ℕ → Bool) (k n : ℕ) → lowest fits k n ≡ none → NoneBelow fits k (k + n)
unfolding lowest
lowest_is_none fits k zero e x low high = absurd (omega arith)
lowest_is_none fits k (suc n) e x low high =
    ⊎_elim
    (λ (at-k : fits k ≡ true). absurd (some_not_none (rw (at-k, lowest) at e)))
    (λ (not_k : fits k ≡ false).
    ⊎_elim
    (λ (same : k ≡ x). rw (← same) not_k)
    (λ (l : k < x). lowest_is_none fits (k + 1) n (rw (not_k, lowest) at e) x (omega arith) (omega arith))
    (eq-or-lt_of_le low))
    (cases (fits k))

-- the first refusal that fits is passed over where it does not
pub passed_over : (t : Test) (ts : List Test) (success : Reply) → t.place ≡ none → first_of (t ∷ ts) success ≡ first_of ts success
unfolding first_of
passed_over t ts success e = rw e

-- a list of which none fits is passed over
pub none_fits : (ts rest : List Test) (success : Reply) → NoneFits ts → first_of (ts ++ rest) success ≡ first_of rest success
unfolding first_of
none_fits [] rest success all = refl
none_fits (t ∷ ts) rest success all = rw all.0 (none_fits ts rest success all.1)

-- every refusal of the list has a number that passes the test
abbrev pub every_number : (ℕ → Bool) → List Test → Bool
every_number passes [] = true
every_number passes (t ∷ ts) = let rest = every_number passes ts in passes t.number && rest

-- where the numbers of a list all pass a test that the number told fails, none of the list fits
pub none_told : (passes : ℕ → Bool) (ts us : List Test) (success : Reply) → T (every_number passes ts) → passes (first_of (ts ++ us) success).number ≡ false → NoneFits ts
unfolding first_of
none_told passes [] us success all fails = tt
none_told passes (t ∷ ts) us success all fails = at t.place refl (none_told passes ts us success (and_r (passes t.number) _ all))
  where
    at : (p : Option ℕ) → t.place ≡ p → (passes (first_of (ts ++ us) success).number ≡ false → NoneFits ts) → (t.place ≡ none) × NoneFits ts
    at none is_none go = (is_none, go (rw (is_none, refused_or) at fails))
    at (some place) is_some go = absurd (not_both (T_true (and_l (passes t.number) _ all)) (rw (is_some, refused_or) at fails))

-- what the numbers of a list and the success's all pass, the number told passes
pub told_passes : (passes : ℕ → Bool) (ts : List Test) (success : Reply) → T (every_number passes ts) → T (passes success.number) → T (passes (first_of ts success).number)
unfolding first_of
told_passes passes [] success all last = last
told_passes passes (t ∷ ts) success all last = at t.place (told_passes passes ts success (and_r (passes t.number) _ all) last)
  where
    at : (p : Option ℕ) → T (passes (first_of ts success).number) → T (passes (refused_or t.number p (first_of ts success)).number)
    at none later = later
    at (some place) later = and_l (passes t.number) _ all

-- refusals number from 1, so a reply of number 0 says that none of them fits
abbrev pub Numbered : List Test → Type 0
Numbered ts = T (every_number (ltb 0) ts)

pub none_fitted : (ts : List Test) (success : Reply) → Numbered ts → (first_of ts success).number ≡ 0 → NoneFits ts
none_fitted ts success from_1 e = none_told (ltb 0) ts [] success from_1 (rw (append-nil ts, e) refl)

pub refusal_number : (why : Refusal) → 1 ≤ (told_refusal why).number
refusal_number (ShortMap p) = lit≤ tt
refusal_number StrangeMap = lit≤ tt
refusal_number (Oversize p) = lit≤ tt
refusal_number (Misfit p) = lit≤ tt
refusal_number (BadJunction p) = lit≤ tt
refusal_number (BadRoad p) = lit≤ tt
refusal_number (BrokenChain p) = lit≤ tt
refusal_number (BadLettering p) = lit≤ tt
refusal_number (BadOrder p) = lit≤ tt
refusal_number (BadRules p) = lit≤ tt
refusal_number (BadTrip p) = lit≤ tt
refusal_number (Full p) = lit≤ tt
refusal_number (NoRoad p) = lit≤ tt
refusal_number (ShortSheet p) = lit≤ tt
refusal_number (TornSheet p) = lit≤ tt
refusal_number (ForeignMove p) = lit≤ tt
refusal_number (Overrun p) = lit≤ tt
refusal_number (FalseFigure p) = lit≤ tt
refusal_number (Stray p) = lit≤ tt
refusal_number (UnknownName p) = lit≤ tt
refusal_number (TornTrace p) = lit≤ tt
refusal_number (OddRecord p) = lit≤ tt
refusal_number (PastLimit p) = lit≤ tt
refusal_number (UnknownRoad p) = lit≤ tt
refusal_number (BadBans p) = lit≤ tt

refuses : (ts : List Test) (why : Refusal) → first_of ts (succeeded 0 0) ≡ told_refusal why → Refuses ts why
unfolding first_of
refuses [] why e rest success = absurd (omega (arith, refusal_number why, ap (λ (r : Reply). r.number) e))
refuses (t ∷ ts) why e rest success = at t.place refl (λ e. refuses ts why e rest success)
  where
    at : (p : Option ℕ) → t.place ≡ p → (first_of ts (succeeded 0 0) ≡ told_refusal why → first_of (ts ++ rest) success ≡ told_refusal why)
        → refused_or t.number t.place (first_of (ts ++ rest) success) ≡ told_refusal why
    at none is_none go = rw is_none (go (rw (is_none, refused_or) at e))
    at (some place) is_some go = rw is_some (rw (is_some, refused_or) at e)

-- an operation's answer says which refusals of its list fit
pub tried : (ts : List Test) (answer : Result (Unit {0}) Refusal) → Numbered ts → told_check answer ≡ first_of ts (succeeded 0 0) → Tried ts answer
tried ts (Ok done) from_1 e = none_fitted ts (succeeded 0 0) from_1 (sym (ap (λ (r : Reply). r.number) e))
tried ts (Err why) from_1 e = refuses ts why (sym e)

-- the first refusal that fits is said
pub stops_at : (t : Test) (ts : List Test) (success : Reply) {place : ℕ} → t.place ≡ some place → first_of (t ∷ ts) success ≡ refused_at t.number place
unfolding first_of
stops_at t ts success e = rw e

-- what is said where none fits: the first of a second list
pub first_append : (ts us : List Test) (success : Reply) → first_of (ts ++ us) success ≡ first_of ts (first_of us success)
unfolding first_of
first_append [] us success = refl
first_append (t ∷ ts) us success = ap (refused_or t.number t.place) (first_append ts us success)

-- it matters only there
pub first_same : (ts : List Test) {one other : Reply} → (NoneFits ts → one ≡ other) → first_of ts one ≡ first_of ts other
unfolding first_of
first_same [] same = same tt
first_same (t ∷ ts) {one} {other} same = at t.place refl (λ rest. first_same ts rest)
  where
    at : (o : Option ℕ) → t.place ≡ o → ((NoneFits ts → one ≡ other) → first_of ts one ≡ first_of ts other) → first_of (t ∷ ts) one ≡ first_of (t ∷ ts) other
    at none is_none go = rw is_none (go (λ all. same (is_none, all)))
    at (some place) is_some go = rw is_some refl

-- lists that are tried one after the other
pub refuses_more : (ts us : List Test) (why : Refusal) → Refuses ts why → Refuses (ts ++ us) why
refuses_more ts us why refused rest success = rw (append_assoc ts us rest) (refused (us ++ rest) success)

pub refuses_after : (ts us : List Test) (why : Refusal) → NoneFits ts → Refuses us why → Refuses (ts ++ us) why
refuses_after ts us why None-first refused rest success =
    rw (append_assoc ts us rest) (none_fits ts (us ++ rest) success None-first ∙ refused rest success)

pub none_of_both : (ts us : List Test) → NoneFits ts → NoneFits us → NoneFits (ts ++ us)
none_of_both [] us None-first none-second = none-second
none_of_both (t ∷ ts) us None-first none-second = (None-first.0, none_of_both ts us None-first.1 none-second)

-- where none of two lists fits, none of the first does, and none of the second
pub none_before : (ts us : List Test) → NoneFits (ts ++ us) → NoneFits ts
none_before [] us none_fits = tt
none_before (t ∷ ts) us none_fits = (none_fits.0, none_before ts us none_fits.1)

pub none_behind : (ts us : List Test) → NoneFits (ts ++ us) → NoneFits us
none_behind [] us none_fits = none_fits
none_behind (t ∷ ts) us none_fits = none_behind ts us none_fits.1

-- the place that a list has under a number; where none of the list fits, none
abbrev pub place_under : ℕ → List Test → Option ℕ
place_under k [] = none
place_under k (t ∷ ts) = elim (eqb k t.number) [ true ↦ t.place | false ↦ place_under k ts ]

pub none_under : (k : ℕ) (ts : List Test) → NoneFits ts → place_under k ts ≡ none
none_under k [] all = refl
none_under k (t ∷ ts) all = by (eqb k t.number) (none_under k ts all.1)
  where
    by : (b : Bool) → place_under k ts ≡ none → ◌≡◌ {A = Option ℕ} (elim b [ true ↦ t.place | false ↦ place_under k ts ]) none
    by true later = all.0
    by false later = later

pub none_at_all : (ts : List Test) (success : Reply) → NoneFits ts → first_of ts success ≡ success
unfolding first_of
none_at_all [] success all = refl
none_at_all (t ∷ ts) success all = rw all.0 (none_at_all ts success all.1)
