-- The map with a road struck: the road leads back to where it begins, and every other word and byte is as it was.
-- Assumes nothing.
use mathlib.Core.Path.{◌≡◌, fun_ext}
use mathlib.Core.Bool.{true, false}
use mathlib.Core.List.{List}
use mathlib.Core.Logic.{◌⊎◌, inl, inr, ⊎_elim}
use Prim.Native.Nat.{ℕ, ◌+◌, ◌≤◌}
use native.Mathlib.Omega.{arith}
use borrow.Author.Tests.{ltb-true, ltb-false, eqb-true, eqb-false}
use lib.Dec.{eqb, ltb}
use lib.ListN.{length, get_or}
use Rattle.booleans.proofs.Tests.{cases}
use Rattle.words.specs.Word.{word_at}
use Rattle.words.proofs.Put.{Apart, length_put, put_byte_apart, put_same, put_apart}
use Rattle.roadmap.specs.Format.{map_header_bytes, format, junction_count, road_count, name_bytes, junction_at, road_at, length_needed, junction_word, road_word, road_from, road_to}
use Rattle.striking.specs.Striking.{to_at, struck}

module _ (map : List ℕ) (whole : length map ≡ length_needed map) (road : ℕ) (low : 1 ≤ road) (high : road ≤ road_count map) where
  -- the to-junction lies within the map
  fits : to_at map road + 4 ≤ length map
  fits = omega arith

  pub struck_length : length (struck map road) ≡ length map
  unfolding struck
  struck_length = length_put map (to_at map road) (road_from map road)

  -- a byte apart from the four of the road's to-junction is as it was
  pub struck_byte : (i : ℕ) → Apart (to_at map road) 4 i → get_or (struck map road) i 0 ≡ get_or map i 0
  unfolding struck
  struck_byte i apart = put_byte_apart map (to_at map road) (road_from map road) i fits apart

  -- and so is a word
  struck_word : (at : ℕ) → (at + 4 ≤ to_at map road) ⊎ (to_at map road + 4 ≤ at) → word_at (struck map road) at ≡ word_at map at
  unfolding struck
  struck_word at apart = put_apart map (to_at map road) (road_from map road) at fits apart

  -- the header stays
  header : (at : ℕ) → at + 4 ≤ map_header_bytes → word_at (struck map road) at ≡ word_at map at
  header at within = struck_word at (inl (omega arith))

  pub struck_format : format (struck map road) ≡ format map
  unfolding format
  struck_format = header 0 (omega arith)

  pub struck_junctions : junction_count (struck map road) ≡ junction_count map
  unfolding junction_count
  struck_junctions = header 4 (omega arith)

  pub struck_roads : road_count (struck map road) ≡ road_count map
  unfolding road_count
  struck_roads = header 8 (omega arith)

  pub struck_names : name_bytes (struck map road) ≡ name_bytes map
  unfolding name_bytes
  struck_names = header 12 (omega arith)

  -- every word of a junction
  pub struck_junction : (j offset : ℕ) → 1 ≤ j → j ≤ junction_count map → offset ≤ 12 → junction_word (struck map road) j offset ≡ junction_word map j offset
  unfolding junction_word
  struck_junction j offset from_1 within most = struck_word (junction_at j + offset) (inl (omega arith))

  -- a word of a road that is not the to-junction struck
  road_word_lem : (r offset : ℕ) → (road_at map r + offset + 4 ≤ to_at map road) ⊎ (to_at map road + 4 ≤ road_at map r + offset)
      → road_word (struck map road) r offset ≡ road_word map r offset
  unfolding road_word
  road_word_lem r offset apart = rw struck_junctions (struck_word (road_at map r + offset) apart)

  -- every word of another road
  other_road : (r offset : ℕ) → 1 ≤ r → (r ≡ road → ⊥) → offset ≤ 16 → road_word (struck map road) r offset ≡ road_word map r offset
  other_road r offset from_1 other most =
      road_word_lem r offset
      (⊎_elim
      (λ (e : ltb r road ≡ true). inl (omega (arith, ltb-true r road e)))
      (λ (e : ltb r road ≡ false). inr (omega (arith, ltb-false r road e, other)))
      (cases (ltb r road)))

  -- every word of a road but the to-junction
  pub struck_road : (r offset : ℕ) → 1 ≤ r → r ≤ road_count map → (offset ≡ 0) ⊎ (8 ≤ offset) → offset ≤ 16 → road_word (struck map road) r offset ≡ road_word map r offset
  struck_road r offset from_1 within but-to most =
      ⊎_elim
      (λ (e : eqb r road ≡ true).
      let same : r ≡ road = eqb-true r road e in
      road_word_lem r offset (⊎_elim (λ (from : offset ≡ 0). inl (omega arith)) (λ (behind : 8 ≤ offset). inr (omega arith)) but-to))
      (λ (e : eqb r road ≡ false). other_road r offset from_1 (eqb-false r road e) most)
      (cases (eqb r road))

  -- every road begins where it began, whatever its number
  pub struck_from : road_from (struck map road) ≡ road_from map
  struck_from =
      fun_ext
      (λ r.
      road_word_lem r 0
      (⊎_elim
      (λ (e : ltb road r ≡ true). inr (omega (arith, ltb-true road r e)))
      (λ (e : ltb road r ≡ false). inl (omega (arith, ltb-false road r e)))
      (cases (ltb road r))))

  -- the other roads lead where they led
  pub struck_other : (r : ℕ) → 1 ≤ r → r ≤ road_count map → (r ≡ road → ⊥) → road_to (struck map road) r ≡ road_to map r
  struck_other r from_1 within other = other_road r 4 from_1 other (omega arith)

  -- the word put is read back
  read_back : word_at (struck map road) (to_at map road) ≡ road_from map road
  unfolding struck
  read_back = put_same map (to_at map road) (road_from map road) fits

  -- this one leads back to where it begins
  pub struck_to : road_to (struck map road) road ≡ road_from map road
  unfolding road_word
  struck_to = rw struck_junctions read_back
