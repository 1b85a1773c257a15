-- The roads that a chain reaches: the chain's list holds just these where the links rise. Assumes nothing.
use mathlib.Core.Path.{◌≡◌, refl, sym}
use mathlib.Core.Bool.{true, false}
use mathlib.Core.Logic.{◌⊎◌, inl, inr, ⊎_elim}
use Prim.Native.Nat.{ℕ, zero, suc, ◌+◌, ◌≤◌, ◌<◌}
use native.Mathlib.Omega.{arith}
use borrow.Author.Tests.{eqb-true, eq-eqb}
use lib.Dec.{eqb}
use Rattle.booleans.proofs.Tests.{cases, not_both}
use Rattle.mapcheck.specs.Chain.{chain_from, among}
use Rattle.mapcheck.specs.Links.{Reaches, here, later, Rising}

-- a chain that reaches a road begins with one
pub begins : {next : ℕ → ℕ} {a v : ℕ} → Reaches next a v → 1 ≤ a
begins (here low) = low
begins (later low on) = low

-- what is reached is a road
pub reached_low : {next : ℕ → ℕ} {a v : ℕ} → Reaches next a v → 1 ≤ v
reached_low (here low) = low
reached_low (later low on) = reached_low on

-- what is reached and is not the first is reached from the next
pub onward : {next : ℕ → ℕ} {a v : ℕ} → Reaches next a v → (a ≡ v → ⊥) → Reaches next (next a) v
onward (here low) other = absurd (other refl)
onward (later low on) other = on

-- what is reached from a reached road is reached
pub through : {next : ℕ → ℕ} {a b v : ℕ} → Reaches next a b → Reaches next b v → Reaches next a v
through (here low) on = on
through (later low rest) on = later low (through rest on)

-- a road that a chain reaches lies between the chain's first road and the last of all
pub record Between (R a v : ℕ) : Type 0 where
  -- the chain begins with a road
  pub some : 1 ≤ a
  -- no road reached is below the first
  pub low : a ≤ v
  -- none is above the last
  pub high : v ≤ R

-- with links that rise
pub between : {next : ℕ → ℕ} {R a v : ℕ} → Rising next R → Reaches next a v → a ≤ R → Between R a v
between rising (here low) most = record { some = low; low = omega arith; high = most }
between rising (later {a = a} low on) most =
    let rest = between rising on (rising.within a low most) in
    let above : a < _ = rising.rises a low most rest.some in
    record { some = low; low = omega arith; high = rest.high }

-- of two roads of one chain the earlier reaches the later
pub earlier : {next : ℕ → ℕ} {R a r v : ℕ} → Rising next R → Reaches next a r → Reaches next a v → a ≤ R → r ≤ v → Reaches next r v
earlier rising (here low) to-v most l = to-v
earlier {next} {R} rising (later {a = a} {v = r} low on) to-v most l =
    let within : next a ≤ R = rising.within a low most in
    let above : a < next a = rising.rises a low most (begins on) in
    let bounds = between rising on within in
    earlier rising on (onward to-v (λ same. omega arith)) within l

-- what the list of a chain holds is reached
pub on_chain : (next : ℕ → ℕ) (n a v : ℕ) → among v (chain_from next n a) ≡ true → Reaches next a v
unfolding chain_from among
on_chain next zero a v e = absurd (not_both e refl)
on_chain next (suc n) zero v e = absurd (not_both e refl)
on_chain next (suc n) (suc k) v e =
    ⊎_elim
    (λ (same : eqb v (suc k) ≡ true). rw (eqb-true v (suc k) same) (here {a = suc k} (omega arith)))
    (λ (other : eqb v (suc k) ≡ false). later (omega arith) (on_chain next n (next (suc k)) v (rw other at e)))
    (cases (eqb v (suc k)))

-- a list long enough holds all that is reached
pub holds : (next : ℕ → ℕ) (R n a v : ℕ) → Rising next R → a ≤ R → R + 1 ≤ a + n → Reaches next a v → among v (chain_from next n a) ≡ true
unfolding chain_from among
holds next R zero a v rising most long on = absurd (omega arith)
holds next R (suc n) zero v rising most long on = absurd (omega (arith, begins on))
holds next R (suc n) (suc k) v rising most long on =
    ⊎_elim
    (λ (same : eqb v (suc k) ≡ true). rw same)
    (λ (other : eqb v (suc k) ≡ false).
    let on' : Reaches next (next (suc k)) v = onward on (λ e. not_both (eq-eqb v (suc k) (sym e)) other) in
    let above : suc k < next (suc k) = rising.rises (suc k) (omega arith) most (begins on') in
    rw other (holds next R n (next (suc k)) v rising (rising.within (suc k) (omega arith) most) (omega arith) on'))
    (cases (eqb v (suc k)))

-- the list of R roads holds all that is reached from a road
pub chain_holds : (next : ℕ → ℕ) (R a v : ℕ) → Rising next R → a ≤ R → Reaches next a v → among v (chain_from next R a) ≡ true
chain_holds next R a v rising most on = holds next R R a v rising most (omega (arith, begins on)) on

-- what the list of R roads lacks is not reached
pub chain_lacks : (next : ℕ → ℕ) (R a v : ℕ) → Rising next R → a ≤ R → among v (chain_from next R a) ≡ false → Reaches next a v → ⊥
chain_lacks next R a v rising most lacks on = not_both (chain_holds next R a v rising most on) lacks

-- a road is reached from a or it is not
pub reached_or_not : (next : ℕ → ℕ) (R a v : ℕ) → Rising next R → a ≤ R → Reaches next a v ⊎ (Reaches next a v → ⊥)
reached_or_not next R a v rising most =
    ⊎_elim (λ e. inl (on_chain next R a v e)) (λ e. inr (chain_lacks next R a v rising most e)) (cases (among v (chain_from next R a)))
