-- A map whose links are put anew keeps all its other words, and the two passes put the links that chain making owes.
-- Assumes nothing.
use mathlib.Core.Path.{◌≡◌, ◌∙◌, refl, sym, ap, fun_ext}
use mathlib.Core.List.{List}
use mathlib.Core.Logic.{◌⊎◌, inl, inr, ⊎_elim}
use Prim.Native.Nat.{ℕ, suc, ◌+◌, ◌*◌, ◌-◌, ◌≤◌, ◌<◌}
use native.Mathlib.Omega.{arith}
use native.Mathlib.Nat.{add-zero}
use borrow.Author.Tests.{ltb-true, ltb-false, eq-eqb, ne_eqb}
use lib.Dec.{ltb}
use lib.ListN.{length, get_or}
use Rattle.booleans.proofs.Tests.{cases}
use Rattle.words.specs.Word.{word_at, put_at}
use Rattle.roadmap.specs.declared.Sizes.{Sizes}
use Rattle.roadmap.specs.Format.{HasSizes, map_header_bytes, junction_bytes, road_bytes, format, junction_count, road_count, name_bytes, junction_at, road_at, length_needed, junction_word, road_word, first_road, next_road, road_from}
use Rattle.mapcheck.specs.Listed.{lowest_from}
use Rattle.mapedit.specs.Chaining.{put_all, first_link, next_link, next_at, chained}
use Rattle.mapedit.specs.Passes.{cleared, linked_before, FromKnown}
use Rattle.mapedit.proofs.PutAll.{Fit, ByteApart, ApartFrom, Spread, put_commute, length_put_all, put_all_byte, put_all_word, put_past, put_last, later, put_all_read, put_all_twice, put_over}

below_or_not : (a b : ℕ) → (a < b) ⊎ (b ≤ a)
below_or_not a b = ⊎_elim (λ e. inl (ltb-true a b e)) (λ e. inr (ltb-false a b e)) (cases (ltb a b))

pub firsts_spread : Spread junction_at
firsts_spread i j low before = omega arith

pub nexts_spread : (map : List ℕ) → Spread (next_at map)
nexts_spread map i j low before = omega arith

-- the map with every first road put anew, and the next of the n roads from k on
abbrev pub links : List ℕ → (ℕ → ℕ) → (ℕ → ℕ) → ℕ → ℕ → List ℕ
links map first next k n = put_all (next_at map) next k n (put_all junction_at first 1 (junction_count map) map)

module _ (map : List ℕ) (whole : length map ≡ length_needed map) (first next : ℕ → ℕ) (k n : ℕ) (from_1 : 1 ≤ k) (within : k + n ≤ road_count map + 1) where
  -- the map afterwards
  abbrev after : List ℕ
  after = links map first next k n

  -- and between the two
  abbrev half : List ℕ
  half = put_all junction_at first 1 (junction_count map) map

  half_length : length half ≡ length map
  half_length = length_put_all junction_at first 1 (junction_count map) map

  firsts_fit : Fit junction_at 1 (junction_count map) (length map)
  firsts_fit i l h = omega arith

  nexts_fit : Fit (next_at map) k n (length half)
  nexts_fit i l h = omega (arith, half_length)

  pub links_length : length after ≡ length map
  links_length = length_put_all (next_at map) next k n half ∙ half_length

  -- a byte of no link stays
  pub links_byte : (p : ℕ) → ByteApart junction_at 1 (junction_count map) p → ByteApart (next_at map) k n p → get_or after p 0 ≡ get_or map p 0
  links_byte p firsts nexts =
      put_all_byte (next_at map) next k n half p nexts_fit nexts
      ∙ put_all_byte junction_at first 1 (junction_count map) map p firsts_fit firsts

  links_word : (q : ℕ) → ApartFrom junction_at 1 (junction_count map) q → ApartFrom (next_at map) k n q → word_at after q ≡ word_at map q
  links_word q firsts nexts =
      put_all_word (next_at map) next k n half q nexts_fit nexts
      ∙ put_all_word junction_at first 1 (junction_count map) map q firsts_fit firsts

  -- the header stays
  header : (q : ℕ) → q + 4 ≤ map_header_bytes → word_at after q ≡ word_at map q
  header q low = links_word q (λ i l h. inr (omega arith)) (λ i l h. inr (omega arith))

  pub links_format : format after ≡ format map
  unfolding format
  links_format = header 0 (omega arith)

  pub links_junctions : junction_count after ≡ junction_count map
  unfolding junction_count
  links_junctions = header 4 (omega arith)

  pub links_roads : road_count after ≡ road_count map
  unfolding road_count
  links_roads = header 8 (omega arith)

  pub links_names : name_bytes after ≡ name_bytes map
  unfolding name_bytes
  links_names = header 12 (omega arith)

  pub links_sizes : (sizes : Sizes) → HasSizes map sizes → HasSizes after sizes
  links_sizes sizes has =
      record {
        junctions = rw links_junctions has.junctions;
        roads = rw links_roads has.roads;
        names = rw links_names has.names;
        few_junctions = has.few_junctions;
        few_roads = has.few_roads;
        few_names = has.few_names;
        whole = omega (arith, links_length, links_junctions, links_roads, links_names);
      }

  -- a junction's other words stay
  pub links_junction : (j offset : ℕ) → 1 ≤ j → j ≤ junction_count map → 4 ≤ offset → offset ≤ 12 → junction_word after j offset ≡ junction_word map j offset
  unfolding junction_word
  links_junction j offset from_one high low most =
      links_word (junction_at j + offset)
      (λ i l h. ⊎_elim (λ (b : j < i). inr (omega arith)) (λ (b : i ≤ j). inl (omega arith)) (below_or_not j i))
      (λ i l h. inr (omega arith))

  -- and so do a road's
  pub links_road : (r offset : ℕ) → offset ≤ 12 → road_word after r offset ≡ road_word map r offset
  unfolding road_word
  links_road r offset most =
      rw links_junctions
      (links_word (road_at map r + offset) (λ i l h. inl (omega arith))
      (λ i l h. ⊎_elim (λ (b : i < r). inl (omega arith)) (λ (b : r ≤ i). inr (omega arith)) (below_or_not i r)))

  pub links_from : road_from after ≡ road_from map
  links_from = fun_ext (λ r. links_road r 0 (omega arith))

  -- the links are read back
  pub links_first : (j : ℕ) → 1 ≤ j → j ≤ junction_count map → first_road after j ≡ first j
  unfolding junction_word
  links_first j low high =
      rw (add-zero (junction_at j))
      (put_all_word (next_at map) next k n half (junction_at j) nexts_fit (λ i l h. inr (omega arith))
      ∙ put_all_read junction_at first firsts_spread 1 (junction_count map) map j (omega arith) firsts_fit low (omega arith))

  pub links_next : (r : ℕ) → k ≤ r → r < k + n → next_road after r ≡ next r
  unfolding road_word
  links_next r low high =
      rw links_junctions
      (put_all_read (next_at map) next (nexts_spread map) k n half r from_1 nexts_fit low high)

-- the roads from k on are linked, n of them
abbrev pub linked : List ℕ → ℕ → ℕ → List ℕ
linked map k n = links map (λ j. lowest_from (road_from map) j k n) (next_link map) k n

module _ (from : ℕ → ℕ) (r n : ℕ) where
  -- road r is the lowest of its own junction from r on
  lowest_own : lowest_from from (from r) r (suc n) ≡ r
  unfolding lowest_from
  lowest_own = rw (eq-eqb (from r) (from r) refl, lowest_from)

  -- and is not another's
  lowest_other : (j : ℕ) → (j ≡ from r → ⊥) → lowest_from from j (r + 1) n ≡ lowest_from from j r (suc n)
  unfolding lowest_from
  lowest_other j other = rw (ne_eqb (from r) j (λ e. other (sym e)), lowest_from)

-- the links of a map with so many junctions and roads
abbrev chained_by : ℕ → ℕ → (ℕ → ℕ) → List ℕ → List ℕ
chained_by junctions roads from s =
    put_all (λ r. map_header_bytes + junction_bytes * junctions + road_bytes * (r - 1) + 16) (λ r. lowest_from from (from r) (r + 1) (roads - r)) 1 roads
    (put_all junction_at (λ j. lowest_from from j 1 roads) 1 junctions s)

module _ (s : List ℕ) where
  chained_by_lem : (junctions roads : ℕ) (from : ℕ → ℕ) → junction_count s ≡ junctions → road_count s ≡ roads → road_from s ≡ from
      → chained s ≡ chained_by junctions roads from s
  unfolding chained
  chained_by_lem junctions roads from is-j is-r is_f = λ i. chained_by (is-j i) (is-r i) (is_f i) s

  cleared_by : (junctions : ℕ) → junction_count s ≡ junctions → cleared s ≡ put_all junction_at (λ j. 0) 1 junctions s
  unfolding cleared
  cleared_by junctions is-j = rw is-j

  -- what is put where a road is linked
  linked_by : (map : List ℕ) (r first : ℕ) → junction_count s ≡ junction_count map → road_from s r ≡ road_from map r → first_road s (road_from map r) ≡ first
      → linked_before s r ≡ put_at (put_at s (next_at map r) first) (junction_at (road_from map r)) r
  unfolding linked_before
  linked_by map r first is-j is_f is-first = rw (is_f, is-first, is-j)

module _ (map : List ℕ) (whole : length map ≡ length_needed map) where
  -- one more road is linked
  pub linked_more : (r : ℕ) → 1 ≤ r → r ≤ road_count map → FromKnown map r
      → linked_before (linked map (r + 1) (road_count map - r)) r ≡ linked map r (suc (road_count map - r))
  unfolding put_all
  linked_more r low high known =
      linked_by (linked map (r + 1) n) map r (next_link map r)
      (links_junctions map whole old (next_link map) (r + 1) n (omega arith) (omega arith))
      (links_road map whole old (next_link map) (r + 1) n (omega arith) (omega arith) r 0 (omega arith))
      (links_first map whole old (next_link map) (r + 1) n (omega arith) (omega arith) j known.low known.high)
      ∙ ap (λ (l : List ℕ). put_at l (junction_at j) r)
      (put_past (next_at map) (next_link map) (r + 1) n half_way (next_at map r) (next_link map r)
      (later (next_at map) (next_link map) (nexts_spread map) (r + 1) n r low (omega arith)))
      ∙ put_past (next_at map) (next_link map) (r + 1) n (put_at half_way (next_at map r) (next_link map r)) (junction_at j) r
      (λ i l h. inr (omega (arith, known)))
      ∙ ap (λ (l : List ℕ). put_all (next_at map) (next_link map) (r + 1) n l)
      (put_commute half_way (next_at map r) (next_link map r) (junction_at j) r (inr (omega (arith, known)))
      ∙ ap (λ (l : List ℕ). put_at l (next_at map r) (next_link map r)) first_put)
    where
      -- the roads linked so far
      n : ℕ
      n = road_count map - r

      -- the junction
      j : ℕ
      j = road_from map r

      old : ℕ → ℕ
      old i = lowest_from (road_from map) i (r + 1) n

      new : ℕ → ℕ
      new i = lowest_from (road_from map) i r (suc n)

      half_way : List ℕ
      half_way = put_all junction_at old 1 (junction_count map) map

      first_put : put_at half_way (junction_at j) r ≡ put_all junction_at new 1 (junction_count map) map
      first_put =
          ap (λ (v : ℕ). put_at half_way (junction_at j) v) (sym (lowest_own (road_from map) r n))
          ∙ put_over junction_at old new firsts_spread 1 (junction_count map) map j (omega arith) known.low (omega (arith, known))
          (lowest_other (road_from map) r n)

  -- at first no road is linked
  pub linked_none : cleared map ≡ linked map (road_count map + 1) 0
  unfolding cleared put_all lowest_from
  linked_none = refl

  -- and at last all are
  pub linked_all : linked map 1 (road_count map) ≡ chained map
  unfolding chained
  linked_all = refl

  -- what is cleared is that
  cleared_links : cleared map ≡ links map (λ j. 0) (λ r. 0) 1 0
  unfolding cleared put_all
  cleared_links = refl

  pub cleared_sizes : (sizes : Sizes) → HasSizes map sizes → HasSizes (cleared map) sizes
  cleared_sizes sizes has =
      rw cleared_links (links_sizes map whole (λ j. 0) (λ r. 0) 1 0 (omega arith) (omega arith) sizes has)

  cleared_from : road_from (cleared map) ≡ road_from map
  cleared_from = rw cleared_links (links_from map whole (λ j. 0) (λ r. 0) 1 0 (omega arith) (omega arith))

  cleared_junctions : junction_count (cleared map) ≡ junction_count map
  cleared_junctions = rw cleared_links (links_junctions map whole (λ j. 0) (λ r. 0) 1 0 (omega arith) (omega arith))

  cleared_roads : road_count (cleared map) ≡ road_count map
  cleared_roads = rw cleared_links (links_roads map whole (λ j. 0) (λ r. 0) 1 0 (omega arith) (omega arith))

  pub cleared_known : (r : ℕ) → FromKnown map r → FromKnown (cleared map) r
  cleared_known r known =
      let same : road_from (cleared map) r ≡ road_from map r = ap (λ (f : ℕ → ℕ). f r) cleared_from in
      record { low = omega (arith, known); high = omega (arith, known, cleared_junctions) }

  -- clearing twice is clearing once
  pub cleared_twice : cleared (cleared map) ≡ cleared map
  unfolding cleared
  cleared_twice =
      cleared_by (cleared map) (junction_count map) cleared_junctions
      ∙ put_all_twice junction_at (λ j. 0) (λ j. 0) firsts_spread 1 (junction_count map) map (omega arith)

  -- what was cleared before is chained the same
  pub chained_cleared : chained (cleared map) ≡ chained map
  unfolding cleared chained
  chained_cleared =
      chained_by_lem (cleared map) (junction_count map) (road_count map) (road_from map) cleared_junctions cleared_roads cleared_from
      ∙ ap (λ (l : List ℕ). put_all (next_at map) (next_link map) 1 (road_count map) l)
      (put_all_twice junction_at (λ j. 0) (first_link map) firsts_spread 1 (junction_count map) map (omega arith))

-- one more junction is cleared
pub clear_more : (map : List ℕ) {s after : List ℕ} {j n at : ℕ} → 1 ≤ j → n ≡ j → s ≡ put_all junction_at (λ i. 0) 1 (j - 1) map → at ≡ junction_at j
    → after ≡ put_at s at 0 → after ≡ put_all junction_at (λ i. 0) 1 n map
clear_more map {j = j} {n = n} low count before is-at is-after =
    let more : n ≡ suc (j - 1) = omega arith in
    rw (is-after, before, is-at, more) (sym (put_last junction_at (λ i. 0) 1 (j - 1) j map (omega arith)))

-- the second pass before road r, with map as it was and s as it is
module _ (map : List ℕ) (sizes : Sizes) (has : HasSizes map sizes) (r : ℕ) (high : r ≤ sizes.roads) {s : List ℕ} (is-s : s ≡ linked map (r + 1) (sizes.roads - r)) where
  so_far : s ≡ linked map (r + 1) (road_count map - r)
  so_far = is-s ∙ ap (λ (n : ℕ). linked map (r + 1) (n - r)) has.roads

  -- the counts are as they were
  pub still_sized : HasSizes s sizes
  still_sized = rw so_far (links_sizes map has.whole _ _ (r + 1) (road_count map - r) (omega arith) (omega arith) sizes has)

  -- and so is the road's from-junction
  pub still_known : FromKnown map r → FromKnown s r
  still_known known =
      let same : road_from s r ≡ road_from map r =
      rw so_far (links_road map has.whole _ _ (r + 1) (road_count map - r) (omega arith) (omega arith) r 0 (omega arith)) in
      let count : junction_count s ≡ junction_count map = sym still_sized.junctions ∙ has.junctions in
      record { low = omega (arith, known); high = omega (arith, known) }

  -- the road is linked
  pub linked_less : 1 ≤ r → FromKnown map r → {after : List ℕ} → after ≡ linked_before s r → after ≡ linked map (r - 1 + 1) (sizes.roads - (r - 1))
  linked_less low known is-after =
      let less : sizes.roads - (r - 1) ≡ suc (road_count map - r) = omega (arith, has) in
      let road : r - 1 + 1 ≡ r = omega arith in
      is-after ∙ ap (λ (l : List ℕ). linked_before l r) so_far
      ∙ linked_more map has.whole r low (omega (arith, has)) known
      ∙ sym (rw (less, road))
