-- One pass over the roads finds the lowest broken one: what is due on each chain, and the least road noticed on a chain
-- that is not its from-junction's. Assumes nothing.
use mathlib.Core.Path.{◌≡◌, refl, sym}
use mathlib.Core.Bool.{Bool, true, false, not, ◌&&◌}
use mathlib.Core.List.{List}
use mathlib.Core.Logic.{◌⊎◌, inl, inr, ⊎_elim}
use mathlib.Core.Option.{Option, none, some}
use Prim.Native.Nat.{ℕ, ◌+◌, ◌≤◌, ◌<◌}
use native.Mathlib.Omega.{arith}
use borrow.Author.Tests.{eqb-true, eqb-false, ne_eqb, ltb-true, ltb-false, not-true}
use lib.Dec.{eqb, ltb}
use lib.ListN.{length, get_or, set}
use lib.Seq.{get_or-set_same, get_or-set_other}
use Rattle.booleans.proofs.Tests.{cases, not_both, and_true, or_cases, or_right}
use Rattle.replies.specs.First.{lowest}
use Rattle.replies.proofs.First.{lowest_some, lowest_is_none}
use Rattle.roadmap.specs.Format.{junction_count, road_count, first_road, next_road, road_from}
use Rattle.mapcheck.specs.Chain.{among, chain, is_some, on_another, broken_chain_at}
use Rattle.mapcheck.specs.Links.{Reaches, here, later, Links, Foreign, Broken, MapLinks, MapBroken}
use Rattle.mapcheck.specs.Due.{note, Rest, Due, MapDue}
use Rattle.mapcheck.proofs.Reaches.{onward, Between, between, on_chain, chain_holds, chain_lacks}

-- two numbers are the same or not
same_or_not : (a b : ℕ) → (a ≡ b) ⊎ (a ≡ b → ⊥)
same_or_not a b = ⊎_elim (λ e. inl (eqb-true a b e)) (λ e. inr (eqb-false a b e)) (cases (eqb a b))

-- what is noticed now: no more than before, at most a foreign road that falls due, and one of the two
pub record Noted (from : ℕ → ℕ) (j v D n : ℕ) : Type 0 where
  -- the least noticed does not rise
  pub no_more : n ≤ D
  -- a foreign road that falls due is noticed
  pub at_most : 1 ≤ v → (from v ≡ j → ⊥) → n ≤ v
  -- the least is as before, or the foreign road that falls due
  pub either : (n ≡ D) ⊎ ((1 ≤ v) × (from v ≡ j → ⊥) × (n ≡ v))

-- that is what note tells
pub noted : (from : ℕ → ℕ) (j v D : ℕ) → Noted from j v D (note from j v D)
unfolding note
noted from j v D =
    ⊎_elim
    (λ (none : eqb v 0 ≡ true).
    rw (none, note) (record { no_more = omega arith; at_most = λ low other. absurd (omega (arith, eqb-true v 0 none)); either = inl refl }))
    (λ (road : eqb v 0 ≡ false).
    ⊎_elim
    (λ (own : eqb (from v) j ≡ true).
    rw (road, own, note)
    (record { no_more = omega arith; at_most = λ low other. absurd (other (eqb-true (from v) j own)); either = inl refl }))
    (λ (other : eqb (from v) j ≡ false).
    ⊎_elim
    (λ (less : ltb v D ≡ true).
    rw (road, other, less, note)
    (record {
      no_more = omega (arith, ltb-true v D less);
      at_most = λ low o. omega arith;
      either = inr (omega (arith, eqb-false v 0 road), eqb-false (from v) j other, refl);
    }))
    (λ (more : ltb v D ≡ false).
    rw (road, other, more, note)
    (record { no_more = omega arith; at_most = λ low o. omega (arith, ltb-false v D more); either = inl refl }))
    (cases (ltb v D)))
    (cases (eqb (from v) j)))
    (cases (eqb v 0))

module _ (first next from : ℕ → ℕ) (J R : ℕ) where
  -- road v falls due on j's chain, and the other chains stay
  falls_due : (due : List ℕ) (b r D j v : ℕ) → 1 ≤ j → j ≤ J → j < length due → Rest next R r (first j) v
      → ((i : ℕ) → 1 ≤ i → i < b → (i ≡ j → ⊥) → Rest next R r (first i) (get_or due i 0)) → r ≤ D → D ≤ R + 1
      → (D ≤ R → Foreign first next from J D)
      → ((i : ℕ) → 1 ≤ i → i < b → (i ≡ j → ⊥) → 1 ≤ get_or due i 0 → (from (get_or due i 0) ≡ i → ⊥) → D ≤ get_or due i 0)
      → Due first next from J R (set due j v) b r (note from j v D)
  falls_due due b r D j v low high fits mine others above most foreign noticed =
      record {
        rest = λ i l h.
            ⊎_elim
            (λ (same : i ≡ j). rw (same, get_or-set_same due j v 0 fits) mine)
            (λ (other : i ≡ j → ⊥). rw (get_or-set_other due j i v 0 other) (others i l h other))
            (same_or_not i j);
        above = ⊎_elim (λ e. omega arith) (λ p. omega (arith, mine.ahead p.0)) said.either;
        most = omega (arith, said.no_more);
        foreign = λ road.
            ⊎_elim
            (λ (same : note from j v D ≡ D). rw same (foreign (omega arith)))
            (λ (p : (1 ≤ v) × (from v ≡ j → ⊥) × (note from j v D ≡ v)).
            rw p.2 (j, low, high, λ e. p.1 (sym e), mine.of_chain v (mine.ahead p.0) (here p.0)))
            said.either;
        noticed = λ i l h.
            ⊎_elim
            (λ (same : i ≡ j). rw (same, get_or-set_same due j v 0 fits) said.at_most)
            (λ (other : i ≡ j → ⊥).
            rw (get_or-set_other due j i v 0 other) (λ road strange. omega (arith, said.no_more, noticed i l h other road strange)))
            (same_or_not i j);
      }
    where
      said : Noted from j v D (note from j v D)
      said = noted from j v D

  -- the chain of junction b is begun: its first road v falls due
  pub due_first : {due : List ℕ} {b c D v n : ℕ} → Links first next from J R → Due first next from J R due b 1 D → 1 ≤ b → b ≤ J → b < length due
      → c ≡ b + 1 → v ≡ first b → n ≡ note from b v D → Due first next from J R (set due b v) c 1 n
  due_first {due} {b} {D = D} links before low high fits next-b is-first least =
      rw (least, is-first, next-b)
      (falls_due due (b + 1) 1 D b (first b) low high fits
      (record {
        within = links.firsts b low high;
        ahead = λ road. road;
        left = λ v l on. on;
        of_chain = λ v l on. on;
      })
      (λ i l h other. before.rest i l (omega arith)) before.above before.most before.foreign
      (λ i l h other. before.noticed i l (omega arith)))

  -- a road that is due on the chain of its from-junction j, and noticed on no other, is passed: the next road v falls due
  pub due_next : {due : List ℕ} {r D j v n : ℕ} → Links first next from J R → Due first next from J R due (J + 1) r D → 1 ≤ r → r ≤ R
      → J < length due → (r ≡ D → ⊥) → j ≡ from r → get_or due j 0 ≡ r → v ≡ next r → n ≡ note from j v D
      → Due first next from J R (set due j v) (J + 1) (r + 1) n
  due_next {due} {r} {D} links before low high fits unseen is-from due-there is-next least =
      rw (least, is-next, is-from)
      (falls_due due (J + 1) (r + 1) D (from r) (next r) from_low from_high (omega (arith, from_high))
      (record {
        within = links.rising.within r low high;
        ahead = λ road. omega (arith, links.rising.rises r low high road);
        left = λ v l on. onward (rw own at (mine.left v (omega arith) on)) (λ e. omega arith);
        of_chain = λ v l on. mine.of_chain v (omega arith) (rw own (later low on));
      })
      (λ i l h other. passed i l h other) (omega (arith, before.above)) before.most before.foreign
      (λ i l h other. before.noticed i l h))
    where
      own : get_or due (from r) 0 ≡ r
      own = rw is-from at due-there

      from_low : 1 ≤ from r
      from_low = links.from_low r low high

      from_high : from r ≤ J
      from_high = links.from_high r low high

      mine : Rest next R r (first (from r)) (get_or due (from r) 0)
      mine = before.rest (from r) from_low (omega (arith, from_high))

      -- another chain has r not due, for it would have been noticed
      passed : (i : ℕ) → 1 ≤ i → i < J + 1 → (i ≡ from r → ⊥) → Rest next R (r + 1) (first i) (get_or due i 0)
      passed i l h other =
          let theirs = before.rest i l h in
          record {
            within = theirs.within;
            ahead = λ road.
                ⊎_elim
                (λ (same : get_or due i 0 ≡ r).
                absurd (unseen (omega (arith, before.above, before.noticed i l h road (λ e. other (cc))))))
                (λ (not-r : get_or due i 0 ≡ r → ⊥). omega (arith, theirs.ahead road))
                (same_or_not (get_or due i 0) r);
            left = λ v low' on. theirs.left v (omega arith) on;
            of_chain = λ v low' on. theirs.of_chain v (omega arith) on;
          }

  module _ (due : List ℕ) (r D : ℕ) (links : Links first next from J R) (before : Due first next from J R due (J + 1) r D) (low : 1 ≤ r) (high : r ≤ R) where
    -- a chain that reaches r has it due
    reached_due : (j : ℕ) → 1 ≤ j → j ≤ J → Reaches next (first j) r → get_or due j 0 ≡ r
    reached_due j l h on =
        let rest = before.rest j l (omega arith) in
        let left : Reaches next (get_or due j 0) r = rest.left r (omega arith) on in
        let bounds : Between R (get_or due j 0) r = between links.rising left rest.within in
        omega (arith, rest.ahead bounds.some)

    -- a road noticed on another's chain is broken
    pub noticed_broken : r ≡ D → Broken first next from J r
    noticed_broken e = inr (rw (← e) at (before.foreign (omega arith)))

    -- a road that is not due on its own chain is broken
    pub undue_broken : (get_or due (from r) 0 ≡ r → ⊥) → Broken first next from J r
    undue_broken undue = inl (λ on. undue (reached_due (from r) (links.from_low r low high) (links.from_high r low high) on))

    -- any other road is not
    pub due_unbroken : (r ≡ D → ⊥) → get_or due (from r) 0 ≡ r → Broken first next from J r → ⊥
    due_unbroken unseen own (inl off) =
        off
        ((before.rest (from r) (links.from_low r low high) (omega (arith, links.from_high r low high))).of_chain r (omega arith)
        (rw own (here low)))
    due_unbroken unseen own (inr (j, l, h, other, on)) =
        let e : get_or due j 0 ≡ r = reached_due j l h on in
        unseen
        (omega (arith, before.above, before.noticed j l (omega arith) (omega arith) (λ same. other (cc))))

-- an answer that is some place, and one that is none
is_some_lem : (o : Option ℕ) → is_some o ≡ true → (i : ℕ) × (o ≡ some i)
is_some_lem none e = absurd (not_both e refl)
is_some_lem (some i) e = (i, refl)

not_some : (o : Option ℕ) → is_some o ≡ false → o ≡ none
not_some none e = refl
not_some (some i) e = absurd (not_both refl e)

module _ (map : List ℕ) (links : MapLinks map) (r : ℕ) (low : 1 ≤ r) (high : r ≤ road_count map) where
  -- the test of one junction's chain
  abbrev strays : ℕ → Bool
  strays j = not (eqb j (road_from map r)) && among r (chain map j)

  -- a broken road is told as one
  pub broken_told : MapBroken map r → broken_chain_at map r ≡ true
  unfolding broken_chain_at
  broken_told (inl off) =
      ⊎_elim
      (λ (held : among r (chain map (road_from map r)) ≡ true).
      absurd (off (on_chain (next_road map) (road_count map) (first_road map (road_from map r)) r held)))
      (λ (lacking : among r (chain map (road_from map r)) ≡ false). rw lacking)
      (cases (among r (chain map (road_from map r))))
  broken_told (inr (j, l, h, other, on)) =
      or_right (not (among r (chain map (road_from map r))))
      (⊎_elim (λ e. e)
      (λ (e : on_another map r ≡ false).
      absurd
      (not_both strays_j
      (lowest_is_none strays 1 (junction_count map) (not_some (lowest strays 1 (junction_count map)) e) j l (omega arith))))
      (cases (on_another map r)))
    where
      strays_j : strays j ≡ true
      strays_j =
          rw (ne_eqb j (road_from map r) other)
          (chain_holds (next_road map) (road_count map) (first_road map j) r links.rising (links.firsts j l h) on)

  -- what is told as broken is
  pub told_broken : broken_chain_at map r ≡ true → MapBroken map r
  unfolding broken_chain_at
  told_broken e =
      ⊎_elim
      (λ off.
      inl
      (chain_lacks (next_road map) (road_count map) (first_road map (road_from map r)) r links.rising
      (links.firsts (road_from map r) (links.from_low r low high) (links.from_high r low high)) (not-true (among r (chain map (road_from map r))) off)))
      (λ on. inr (astray (is_some_lem (lowest strays 1 (junction_count map)) on)))
      (or_cases (not (among r (chain map (road_from map r)))) (on_another map r) e)
    where
      astray : (i : ℕ) × (lowest strays 1 (junction_count map) ≡ some i) → Foreign (first_road map) (next_road map) (road_from map) (junction_count map) r
      astray (j, e) =
          let at = lowest_some strays 1 (junction_count map) j e in
          let apart = and_true {a = not (eqb j (road_from map r))} {b = among r (chain map j)} at.here in (
            j,
            at.low,
            omega (arith, at.high),
            eqb-false j (road_from map r) (not-true (eqb j (road_from map r)) apart.0),
            on_chain (next_road map) (road_count map) (first_road map j) r apart.1,
          )

  -- a road that is not broken is told as sound
  pub unbroken_told : (MapBroken map r → ⊥) → broken_chain_at map r ≡ false
  unbroken_told sound = ⊎_elim (λ e. absurd (sound (told_broken e))) (λ e. e) (cases (broken_chain_at map r))

  -- what is told as sound is not broken
  pub told_unbroken : broken_chain_at map r ≡ false → MapBroken map r → ⊥
  told_unbroken e broken = not_both (broken_told broken) e

  module _ (due : List ℕ) (D : ℕ) (before : MapDue map due (junction_count map + 1) r D) where
    -- the pass stops at a road noticed on another's chain
    pub noticed_told : r ≡ D → broken_chain_at map r ≡ true
    noticed_told e =
        broken_told
        (noticed_broken (first_road map) (next_road map) (road_from map) (junction_count map) (road_count map) due r D links before low high e)

    -- and at a road that is not due on its own chain
    pub undue_told : (get_or due (road_from map r) 0 ≡ r → ⊥) → broken_chain_at map r ≡ true
    undue_told undue =
        broken_told
        (undue_broken (first_road map) (next_road map) (road_from map) (junction_count map) (road_count map) due r D links before low high undue)

    -- and passes any other
    pub due_told : (r ≡ D → ⊥) → get_or due (road_from map r) 0 ≡ r → broken_chain_at map r ≡ false
    due_told unseen own =
        unbroken_told
        (due_unbroken (first_road map) (next_road map) (road_from map) (junction_count map) (road_count map) due r D links before low high unseen own)
