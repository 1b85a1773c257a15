-- A reply that is the first refusal to fit tells just that. Assumes nothing.
use mathlib.Core.Path.{◌≡◌, refl, sym, ap, ◌∙◌}
use mathlib.Core.List.{List, [], ◌∷◌}
use mathlib.Core.Option.{Option, none, some}
use Prim.Native.Nat.{ℕ, zero, suc, ◌≤◌}
use native.Mathlib.Omega.{arith}
use Rattle.replies.specs.declared.Reply.{Reply}
use Rattle.replies.specs.First.{Test, ◌at◌, refused_or, first_of}
use Rattle.replies.specs.Told.{refused_at}
use Rattle.replies.proofs.First.{Numbered, none_fits, none_fitted, none_at_all, stops_at}
use Rattle.demands.specs.Refused.{FirstToFit, RepliesBy}

same_test : (t : Test) {p : ℕ} (k place : ℕ) → t.place ≡ some p → refused_at t.number p ≡ refused_at k place → t ≡ (k at some place)
same_test t k place e f = λ i. record { number = ap (λ (r : Reply). r.number) f i; place = (e ∙ ap (λ (r : Reply). some r.place) f) i }

-- one more that does not fit before it
one_before : (t : Test) {ts : List Test} {k place : ℕ} → t.place ≡ none → FirstToFit ts k place → FirstToFit (t ∷ ts) k place
one_before t is_none fits =
    record { before = t ∷ fits.before; after = fits.after; listed = ap (λ (l : List Test). t ∷ l) fits.listed; none_before = (is_none, fits.none_before) }

-- what is told is the first to fit
told_first : (ts : List Test) (success : Reply) → success.number ≡ 0 → (k place : ℕ) → 1 ≤ k → first_of ts success ≡ refused_at k place → FirstToFit ts k place
unfolding first_of
told_first [] success is-0 k place low e = absurd (omega (arith, ap (λ (r : Reply). r.number) e))
told_first (t ∷ ts) success is-0 k place low e = by t.place refl (told_first ts success is-0 k place low)
  where
    by : (o : Option ℕ) → t.place ≡ o → (first_of ts success ≡ refused_at k place → FirstToFit ts k place) → FirstToFit (t ∷ ts) k place
    by none is_none go = one_before t is_none (go (rw (is_none, refused_or) at e))
    by (some p) is_some go =
        let same : t ≡ (k at some place) = same_test t k place is_some (rw (is_some, refused_or) at e) in
        record { before = []; after = ts; listed = ap (λ (x : Test). x ∷ ts) same; none_before = tt }

-- and the first to fit is told
first_told : (ts : List Test) (success : Reply) {k place : ℕ} → FirstToFit ts k place → first_of ts success ≡ refused_at k place
first_told ts success {k} {place} fits =
    ap (λ (l : List Test). first_of l success) fits.listed
    ∙ none_fits fits.before ((k at some place) ∷ fits.after) success fits.none_before
    ∙ stops_at (k at some place) fits.after success refl

pub replies_by : {reply : Reply} (ts : List Test) (success : Reply) → success.number ≡ 0 → Numbered ts → reply ≡ first_of ts success → RepliesBy ts reply
replies_by {reply} ts success is-0 from_1 is =
    record {
      refuses = λ k place low. (λ e. told_first ts success is-0 k place low (sym is ∙ e), λ fits. is ∙ first_told ts success fits);
      succeeds = (
        λ e. none_fitted ts success from_1 (sym (ap (λ (r : Reply). r.number) is) ∙ e),
        λ all. ap (λ (r : Reply). r.number) (is ∙ none_at_all ts success all) ∙ is-0,
      );
    }

-- a reply's number is 0 or not
pub by_number : {A : Type 0} (number : ℕ) → (number ≡ 0 → A) → (¬ (number ≡ 0) → A) → A
by_number zero done else = done refl
by_number (suc n) done else = else (λ e. omega arith)
