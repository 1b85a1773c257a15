-- The chains of a map with no broken road list each junction's roads in rising order, and chains made of the lowest roads
-- have no broken one. Assumes nothing.
use mathlib.Core.Path.{◌≡◌, ◌∙◌, refl, sym, ap}
use mathlib.Core.Bool.{true, false}
use mathlib.Core.List.{List, [], ◌∷◌}
use mathlib.Core.Logic.{◌⊎◌, inl, inr, ⊎_elim}
use Prim.Native.Nat.{ℕ, zero, suc, ◌+◌, ◌-◌, ◌≤◌, ◌<◌}
use native.Mathlib.Omega.{arith}
use native.Mathlib.Nat.{eq-or-lt_of_le}
use borrow.Author.Tests.{eqb-true, eqb-false}
use lib.Dec.{eqb}
use Rattle.booleans.proofs.Tests.{cases}
use Rattle.replies.proofs.First.{NoneBelow}
use Rattle.roadmap.specs.Format.{junction_count, road_count, first_road, next_road, road_from}
use Rattle.mapcheck.specs.Chain.{chain_from, chain, broken_chain_at}
use Rattle.mapcheck.specs.Listed.{roads_from, lowest_from}
use Rattle.mapcheck.specs.Links.{Reaches, here, later, Rising, Links, Unbroken, MapLinks}
use Rattle.mapcheck.proofs.Reaches.{begins, reached_low, onward, through, earlier, Between, between, reached_or_not}
use Rattle.mapcheck.proofs.Due.{told_unbroken, unbroken_told}

-- no road, no chain
chain_end : (next : ℕ → ℕ) (most : ℕ) → chain_from next most 0 ≡ []
unfolding chain_from
chain_end next zero = refl
chain_end next (suc most) = refl

-- a road, and then the chain of its next
chain_road : (next : ℕ → ℕ) (most d : ℕ) → 1 ≤ d → chain_from next (suc most) d ≡ d ∷ chain_from next most (next d)
unfolding chain_from
chain_road next most zero low = absurd (omega arith)
chain_road next most (suc k) low = refl

-- the chain from d on holds just the roads of j from k on
record Holds (next from : ℕ → ℕ) (R j k d : ℕ) : Type 0 where
  -- d is 0 or a road
  within : d ≤ R
  -- from k on
  ahead : 1 ≤ d → k ≤ d
  -- what the chain reaches is j's
  own : (v : ℕ) → k ≤ v → v ≤ R → Reaches next d v → from v ≡ j
  -- and what is j's is reached
  all : (v : ℕ) → k ≤ v → v ≤ R → from v ≡ j → Reaches next d v

-- so its list is their list
listed : (next from : ℕ → ℕ) (R j : ℕ) → Rising next R → (most k n d : ℕ) → n ≤ most → 1 ≤ k → k + n ≡ R + 1 → Holds next from R j k d
    → chain_from next most d ≡ roads_from from j k n
unfolding roads_from
listed next from R j rising most k zero d long low ends holds =
    let none : d ≡ 0 = at_end (eq-or-lt_of_le {n = 0} {m = d} (omega arith)) in
    rw none (chain_end next most)
  where
    at_end : (0 ≡ d) ⊎ (0 < d) → d ≡ 0
    at_end (inl e) = sym e
    at_end (inr l) = absurd (omega (arith, holds.ahead (omega arith), holds.within))
listed next from R j rising zero k (suc n) d long low ends holds = absurd (omega arith)
listed next from R j rising (suc most) k (suc n) d long low ends holds =
    ⊎_elim
    (λ (mine : eqb (from k) j ≡ true).
    let on : Reaches next d k = holds.all k (omega arith) (omega arith) (eqb-true (from k) j mine) in
    let bounds : Between R d k = between rising on holds.within in
    let is_k : d ≡ k = omega (arith, holds.ahead bounds.some) in
    let high : k ≤ R = omega arith in
    rw (mine, roads_from, is_k)
    (chain_road next most k low
    ∙ ap (λ (l : List ℕ). k ∷ l)
    (listed next from R j rising most (k + 1) n (next k) (omega arith) (omega arith) (omega arith)
    (record {
      within = rising.within k low high;
      ahead = λ road. omega (arith, rising.rises k low high road);
      own = λ v l h reached. holds.own v (omega arith) h (rw is_k (later low reached));
      all = λ v l h e. onward (rw is_k at (holds.all v (omega arith) h e)) (λ same. omega arith);
    }))))
    (λ (other : eqb (from k) j ≡ false).
    let high : k ≤ R = omega arith in
    let not_k : d ≡ k → ⊥ = λ e. eqb-false (from k) j other (holds.own k (omega arith) high (rw e (here low))) in
    rw (other, roads_from)
    (listed next from R j rising (suc most) (k + 1) n d (omega arith) (omega arith) (omega arith)
    (record {
      within = holds.within;
      ahead = λ road. omega (arith, holds.ahead road);
      own = λ v l h reached. holds.own v (omega arith) h reached;
      all = λ v l h e. holds.all v (omega arith) h e;
    })))
    (cases (eqb (from k) j))

-- what the lowest road from j of the n from k on is: 0, or the lowest road
pub record LowestFrom (from : ℕ → ℕ) (j k n x : ℕ) : Type 0 where
  -- it is below the end
  pub high : x < k + n
  -- a road is one from k on
  pub low : 1 ≤ x → k ≤ x
  -- and from j
  pub own : 1 ≤ x → from x ≡ j
  -- where there is a road from j, it is a road and no higher
  pub least : (v : ℕ) → k ≤ v → v < k + n → from v ≡ j → (1 ≤ x) × (x ≤ v)

-- the lowest road is that
pub lowest_from_lem : (from : ℕ → ℕ) (j k n : ℕ) → 1 ≤ k → LowestFrom from j k n (lowest_from from j k n)
unfolding lowest_from
lowest_from_lem from j k zero from_1 =
    record {
      high = omega arith;
      low = λ road. absurd (omega arith);
      own = λ road. absurd (omega arith);
      least = λ v l h e. absurd (omega arith);
    }
lowest_from_lem from j k (suc n) from_1 =
    ⊎_elim
    (λ (mine : eqb (from k) j ≡ true).
    rw (mine, lowest_from)
    (record {
      high = omega arith;
      low = λ road. omega arith;
      own = λ road. eqb-true (from k) j mine;
      least = λ v l h e. (from_1, l);
    }))
    (λ (other : eqb (from k) j ≡ false).
    let rest = lowest_from_lem from j (k + 1) n (omega arith) in
    rw (other, lowest_from)
    (record {
      high = omega (arith, rest.high);
      low = λ road. omega (arith, rest.low road);
      own = rest.own;
      least = λ v l h e.
          ⊎_elim
          (λ (same : k ≡ v). absurd (eqb-false (from k) j other (rw same e)))
          (λ (above : k < v). rest.least v (omega arith) (omega arith) e)
          (eq-or-lt_of_le l);
    }))
    (cases (eqb (from k) j))

-- the chains are made of the lowest roads: a junction's first is its lowest, and a road's next the lowest after it from
-- the same junction
pub record Made (first next from : ℕ → ℕ) (J R : ℕ) : Type 0 where
  -- first is the lowest road from j
  pub first_lowest : (j : ℕ) → 1 ≤ j → j ≤ J → first j ≡ lowest_from from j 1 R
  -- next is the lowest after r from r's from-junction
  pub next_lowest : (r : ℕ) → 1 ≤ r → r ≤ R → next r ≡ lowest_from from (from r) (r + 1) (R - r)
  -- a road's from-junction is at least 1
  pub from_low : (r : ℕ) → 1 ≤ r → r ≤ R → 1 ≤ from r
  -- and at most J
  pub from_high : (r : ℕ) → 1 ≤ r → r ≤ R → from r ≤ J

-- two numbers that are each at most the other where that is a road
same_road : (a b : ℕ) → (1 ≤ a → (1 ≤ b) × (b ≤ a)) → (1 ≤ b → (1 ≤ a) × (a ≤ b)) → a ≡ b
same_road zero zero down up = refl
same_road zero (suc b) down up = absurd (omega (arith, up (omega arith)))
same_road (suc a) zero down up = absurd (omega (arith, down (omega arith)))
same_road (suc a) (suc b) down up = omega (arith, down (omega arith), up (omega arith))

module _ (first next from : ℕ → ℕ) (J R : ℕ) (links : Links first next from J R) (unbroken : Unbroken first next from J R) where
  -- what a junction's chain reaches is the junction's own
  pub reached_own : (j v : ℕ) → 1 ≤ j → j ≤ J → Reaches next (first j) v → from v ≡ j
  reached_own j v low high on =
      let bounds = between links.rising on (links.firsts j low high) in
      ⊎_elim
      (λ e. eqb-true (from v) j e)
      (λ e.
      absurd (unbroken v (reached_low on) bounds.high (inr (j, low, high, λ same. eqb-false (from v) j e (sym same), on))))
      (cases (eqb (from v) j))

  -- and each road is reached from its from-junction
  pub own_reached : (v : ℕ) → 1 ≤ v → v ≤ R → Reaches next (first (from v)) v
  own_reached v low high =
      ⊎_elim (λ on. on) (λ off. absurd (unbroken v low high (inl off)))
      (reached_or_not next R (first (from v)) v links.rising
      (links.firsts (from v) (links.from_low v low high) (links.from_high v low high)))

  -- a junction's chain is its roads, rising
  pub chain_listed : (j : ℕ) → 1 ≤ j → j ≤ J → chain_from next R (first j) ≡ roads_from from j 1 R
  chain_listed j low high =
      listed next from R j links.rising R 1 R (first j) (omega arith) (omega arith) (omega arith)
      (record {
        within = links.firsts j low high;
        ahead = λ road. road;
        own = λ v l h on. reached_own j v low high on;
        all = λ v l h e. rw e at (own_reached v l h);
      })

  -- a junction's first road is its lowest
  first_made : (j : ℕ) → 1 ≤ j → j ≤ J → first j ≡ lowest_from from j 1 R
  first_made j low high = same_road (first j) x down up
    where
      -- the lowest road from j
      x : ℕ
      x = lowest_from from j 1 R

      at : LowestFrom from j 1 R x
      at = lowest_from_lem from j 1 R (omega arith)

      within : first j ≤ R
      within = links.firsts j low high

      down : 1 ≤ first j → (1 ≤ x) × (x ≤ first j)
      down road =
          at.least (first j) road (omega (arith, within))
          (reached_own j (first j) low high (here road))

      up : 1 ≤ x → (1 ≤ first j) × (first j ≤ x)
      up road =
          let on : Reaches next (first j) x = rw (at.own road) at (own_reached x road (omega (arith, at.high))) in
          (begins on, (between links.rising on within).low)

  -- a road's next is the lowest after it from the same junction
  next_made : (r : ℕ) → 1 ≤ r → r ≤ R → next r ≡ lowest_from from (from r) (r + 1) (R - r)
  next_made r low high = same_road (next r) x down up
    where
      -- the lowest after r from the same junction
      x : ℕ
      x = lowest_from from (from r) (r + 1) (R - r)

      at : LowestFrom from (from r) (r + 1) (R - r) x
      at = lowest_from_lem from (from r) (r + 1) (R - r) (omega arith)

      within : next r ≤ R
      within = links.rising.within r low high

      from_within : first (from r) ≤ R
      from_within = links.firsts (from r) (links.from_low r low high) (links.from_high r low high)

      to_r : Reaches next (first (from r)) r
      to_r = own_reached r low high

      down : 1 ≤ next r → (1 ≤ x) × (x ≤ next r)
      down road =
          at.least (next r) (omega (arith, links.rising.rises r low high road)) (omega (arith, within))
          (reached_own (from r) (next r) (links.from_low r low high) (links.from_high r low high)
          (through to_r (later low (here road))))

      up : 1 ≤ x → (1 ≤ next r) × (next r ≤ x)
      up road =
          let above : r + 1 ≤ x = at.low road in
          let to_x : Reaches next (first (from r)) x =
          rw (at.own road) at (own_reached x road (omega (arith, at.high))) in
          let on : Reaches next (next r) x =
          onward (earlier links.rising to_r to_x from_within (omega arith)) (λ same. omega arith) in
          (begins on, (between links.rising on within).low)

  -- the chains are made of the lowest roads, so there is one way to make them
  pub unbroken_made : Made first next from J R
  unbroken_made =
      record { first_lowest = first_made; next_lowest = next_made; from_low = links.from_low; from_high = links.from_high }

module _ (first next from : ℕ → ℕ) (J R : ℕ) (made : Made first next from J R) where
  -- what first is
  first_is : (j : ℕ) → 1 ≤ j → j ≤ J → LowestFrom from j 1 R (first j)
  first_is j low high = rw (made.first_lowest j low high) (lowest_from_lem from j 1 R (omega arith))

  -- what next is
  next_is : (r : ℕ) → 1 ≤ r → r ≤ R → LowestFrom from (from r) (r + 1) (R - r) (next r)
  next_is r low high = rw (made.next_lowest r low high) (lowest_from_lem from (from r) (r + 1) (R - r) (omega arith))

  -- such links are sound
  pub made_links : Links first next from J R
  made_links =
      record {
        firsts = λ j low high. omega (arith, (first_is j low high).high);
        from_low = made.from_low;
        from_high = made.from_high;
        rising = record {
          within = λ r low high. omega (arith, (next_is r low high).high);
          rises = λ r low high road. omega (arith, (next_is r low high).low road);
        };
      }

  -- a chain stays with its first road's junction
  stays : {a v : ℕ} → Reaches next a v → a ≤ R → from v ≡ from a
  stays (here low) most = refl
  stays (later {a = a} low on) most =
      let at = next_is a low most in
      stays on (omega (arith, at.high)) ∙ at.own (begins on)

  -- a road reaches each later one of its junction
  goes_on : (n a v : ℕ) → v < a + n → 1 ≤ a → a ≤ v → v ≤ R → from v ≡ from a → Reaches next a v
  goes_on zero a v near low below high same = absurd (omega arith)
  goes_on (suc n) a v near low below high same =
      ⊎_elim
      (λ (e : a ≡ v). rw (← e) (here low))
      (λ (l : a < v).
      let at = next_is a low (omega arith) in
      let road : (1 ≤ next a) × (next a ≤ v) = at.least v (omega arith) (omega arith) same in
      let ahead : a + 1 ≤ next a = at.low road.0 in
      later low (goes_on n (next a) v (omega arith) road.0 road.1 high (same ∙ sym (at.own road.0))))
      (eq-or-lt_of_le below)

  -- and no road is broken
  pub made_unbroken : Unbroken first next from J R
  made_unbroken r low high (inl off) =
      let j_low : 1 ≤ from r = made.from_low r low high in
      let j_high : from r ≤ J = made.from_high r low high in
      let at = first_is (from r) j_low j_high in
      let road : (1 ≤ first (from r)) × (first (from r) ≤ r) = at.least r low (omega arith) refl in
      off (goes_on (r + 1) (first (from r)) r (omega arith) road.0 road.1 high (sym (at.own road.0)))
  made_unbroken r low high (inr (j, l, h, other, on)) =
      let at = first_is j l h in
      other (sym (stays on (omega (arith, at.high)) ∙ at.own (begins on)))

-- the test tells no road of the map
abbrev pub MapUnbroken : List ℕ → Type 0
MapUnbroken map = NoneBelow (broken_chain_at map) 1 (1 + road_count map)

-- the map's chains are made of the lowest roads
abbrev pub MapMade : List ℕ → Type 0
MapMade map = Made (first_road map) (next_road map) (road_from map) (junction_count map) (road_count map)

module _ (map : List ℕ) (links : MapLinks map) where
  -- where the test tells no road, none is broken
  pub none_broken : MapUnbroken map → Unbroken (first_road map) (next_road map) (road_from map) (junction_count map) (road_count map)
  none_broken told r low high = told_unbroken map links r low high (told r low (omega arith))

  -- and the other way
  pub none_told : Unbroken (first_road map) (next_road map) (road_from map) (junction_count map) (road_count map) → MapUnbroken map
  none_told unbroken r low high = unbroken_told map links r low (omega arith) (unbroken r low (omega arith))

  -- an accepted map's chain is the junction's roads, rising
  pub map_listed : MapUnbroken map → (j : ℕ) → 1 ≤ j → j ≤ junction_count map → chain map j ≡ roads_from (road_from map) j 1 (road_count map)
  map_listed told =
      chain_listed (first_road map) (next_road map) (road_from map) (junction_count map) (road_count map) links (none_broken told)

  -- an accepted map's links are those that chain making writes
  pub map_made : MapUnbroken map → MapMade map
  map_made told =
      unbroken_made (first_road map) (next_road map) (road_from map) (junction_count map) (road_count map) links (none_broken told)

-- a map whose links are those that chain making writes has sound links
pub made_map_links : (map : List ℕ) → MapMade map → MapLinks map
made_map_links map made = made_links (first_road map) (next_road map) (road_from map) (junction_count map) (road_count map) made

-- and no broken road
pub made_map_unbroken : (map : List ℕ) → MapMade map → MapUnbroken map
made_map_unbroken map made =
    none_told map (made_map_links map made)
    (made_unbroken (first_road map) (next_road map) (road_from map) (junction_count map) (road_count map) made)
