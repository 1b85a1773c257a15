-- The refused word is the lowest one that a broken rule is charged to. Assumes nothing.
use mathlib.Core.Path.{◌≡◌, refl, sym}
use mathlib.Core.Bool.{Bool, true, false}
use mathlib.Core.List.{List, [], ◌∷◌, ◌++◌}
use mathlib.Core.Logic.{⊎_elim}
use mathlib.Core.Option.{Option, none, some}
use Prim.Native.Nat.{ℕ, ◌+◌, ◌≤◌, ◌<◌}
use native.Mathlib.Omega.{arith}
use lib.Dec.{eqb}
use borrow.Author.Tests.{eq-eqb, ne_eqb}
use Rattle.booleans.proofs.Tests.{cases}
use Rattle.replies.specs.First.{lowest}
use Rattle.replies.proofs.First.{lowest_none, lowest_found}
use Rattle.driving.specs.declared.Order.{Order}
use Rattle.driving.specs.declared.Rules.{Rules}
use Rattle.driving.specs.Order.{Rule, first_broken, limit_rules, end_rules, figure_rules, bad_rules, bad_trip}
use Rattle.driving.proofs.Accepted.{AllKept, all_kept}

-- a rule of the list is charged to the word and broken
abbrev pub broken_at : List Rule → ℕ → Bool
broken_at [] w = false
broken_at (r ∷ rs) w =
    elim r.kept [ true ↦ broken_at rs w | false ↦ elim (eqb r.word w) [ true ↦ true | false ↦ broken_at rs w ] ]

-- the words of the list rise, from `low` on and below `high`
abbrev pub Rising : ℕ → ℕ → List Rule → Type 0
Rising low high [] = Unit {0}
Rising low high (r ∷ rs) = (low ≤ r.word) × (r.word < high) × Rising r.word high rs

kept_nowhere : (rs : List Rule) → AllKept rs → (x : ℕ) → broken_at rs x ≡ false
kept_nowhere [] all x = refl
kept_nowhere (r ∷ rs) all x = simp all.0 (kept_nowhere rs all.1 x)

below_low : (rs : List Rule) (low high x : ℕ) → Rising low high rs → x < low → broken_at rs x ≡ false
below_low [] low high x rise l = refl
below_low (r ∷ rs) low high x rise l =
    let rest = below_low rs r.word high x rise.2 (omega arith) in
    ⊎_elim
    (λ (kept : r.kept ≡ true). simp kept rest)
    (λ (broken : r.kept ≡ false). simp (broken, ne_eqb r.word x (λ e. omega arith)) rest)
    (cases r.kept)

record Charged (rs : List Rule) (low high w : ℕ) : Type 0 where
  from : low ≤ w
  to : w < high
  here : broken_at rs w ≡ true
  before : (x : ℕ) → x < w → broken_at rs x ≡ false

charged : (rs : List Rule) (low high w : ℕ) → Rising low high rs → first_broken rs ≡ some w → Charged rs low high w
unfolding first_broken
charged [] low high w rise e = let z : ◌≡◌ {A = ℕ} 0 1 = cc in absurd (omega arith)
charged (r ∷ rs) low high w rise e =
    ⊎_elim
    (λ (kept : r.kept ≡ true).
    let rest = charged rs r.word high w rise.2 (simp kept at e) in
    record { from = omega arith; to = rest.to; here = simp kept rest.here; before = λ x l. simp kept (rest.before x l) })
    (λ (broken : r.kept ≡ false).
    let same : r.word ≡ w = cc (simp broken at e) in
    record {
      from = omega arith;
      to = omega arith;
      here = simp (broken, eq-eqb r.word w same);
      before = λ x l. simp (broken, ne_eqb r.word x (λ n. omega arith)) (below_low rs r.word high x rise.2 (omega arith));
    })
    (cases r.kept)

pub first_lowest : (rs : List Rule) (low n : ℕ) → Rising low (low + n) rs → first_broken rs ≡ lowest (broken_at rs) low n
first_lowest rs low n rise = by (first_broken rs) refl
  where
    by : (p : Option ℕ) → first_broken rs ≡ p → first_broken rs ≡ lowest (broken_at rs) low n
    by none e = rw e (sym (lowest_none (broken_at rs) low n (λ x l h. kept_nowhere rs (all_kept rs e) x)))
    by (some w) e =
        let c = charged rs low (low + n) w rise e in
        rw e (sym (lowest_found (broken_at rs) low n w c.from c.to (λ x l h. c.before x h) c.here))

pub rules_lowest : (r : Rules) → bad_rules r ≡ lowest (broken_at (limit_rules r)) 6 8
unfolding bad_rules
rules_lowest r = first_lowest (limit_rules r) 6 8 (omega arith)

pub trip_lowest : (junctions : ℕ) (o : Order) → bad_trip junctions o ≡ lowest (broken_at (end_rules junctions o ++ figure_rules o.figures o.rules)) 0 15
unfolding bad_trip
trip_lowest junctions o = first_lowest (end_rules junctions o ++ figure_rules o.figures o.rules) 0 15 (omega arith)
