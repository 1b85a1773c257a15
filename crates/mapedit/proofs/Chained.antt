-- The map that chain making leaves: it passes the whole map check, nothing but the links differs, and an accepted map is
-- left as it is. Assumes nothing.
use mathlib.Core.Path.{◌≡◌, ◌∙◌, ap}
use mathlib.Core.Bool.{false}
use mathlib.Core.List.{List}
use mathlib.Core.Logic.{inl, inr}
use Prim.Native.Nat.{ℕ, ◌+◌, ◌≤◌, ◌<◌}
use native.Mathlib.Omega.{arith}
use native.Mathlib.Nat.{add-zero}
use lib.ListN.{length, get_or}
use Rattle.words.proofs.Put.{Apart}
use Rattle.replies.specs.First.{NoneFits}
use Rattle.roadmap.specs.Format.{junction_count, road_count, junction_at, road_at, length_needed, junction_word, road_word}
use Rattle.mapcheck.specs.MapCheck.{chaining_tests, AcceptedMap}
use Rattle.mapcheck.proofs.Sound.{accepted_made}
use Rattle.mapcheck.proofs.Tried.{has_whole, unchained_sizes}
use Rattle.mapcheck.proofs.Kept.{Kept, kept_accepted}
use Rattle.mapedit.specs.Chaining.{put_all, first_link, next_link, next_at, chained}
use Rattle.mapedit.proofs.Linked.{links_length, links_byte, links_format, links_junctions, links_roads, links_names, links_junction, links_road, links_from, links_first, links_next}
use Rattle.mapedit.proofs.PutAll.{put_all_own}

module _ (map : List ℕ) (whole : length map ≡ length_needed map) where
  -- every byte that is in no junction's first road and in no road's next is as it was
  pub nothing_else : (p : ℕ) → ((j : ℕ) → 1 ≤ j → j ≤ junction_count map → Apart (junction_at j) 4 p)
      → ((r : ℕ) → 1 ≤ r → r ≤ road_count map → Apart (road_at map r + 16) 4 p) → get_or (chained map) p 0 ≡ get_or map p 0
  unfolding chained
  nothing_else p firsts nexts =
      links_byte map whole (first_link map) (next_link map) 1 (road_count map) (omega arith) (omega arith) p
      (λ j l h. firsts j l (omega arith)) (λ r l h. nexts r l (omega arith))

  -- and there are as many
  pub same_length : length (chained map) ≡ length map
  unfolding chained
  same_length = links_length map whole (first_link map) (next_link map) 1 (road_count map) (omega arith) (omega arith)

  kept : Kept map (chained map)
  unfolding chained
  kept =
      record {
        size = same_length;
        format = links_format map whole (first_link map) (next_link map) 1 (road_count map) (omega arith) (omega arith);
        junctions = links_junctions map whole (first_link map) (next_link map) 1 (road_count map) (omega arith) (omega arith);
        roads = links_roads map whole (first_link map) (next_link map) 1 (road_count map) (omega arith) (omega arith);
        names = links_names map whole (first_link map) (next_link map) 1 (road_count map) (omega arith) (omega arith);
        junction = links_junction map whole (first_link map) (next_link map) 1 (road_count map) (omega arith) (omega arith);
        road = λ r offset low high behind most. links_road map whole (first_link map) (next_link map) 1 (road_count map) (omega arith) (omega arith) r offset most;
        letter = λ i low. nothing_else i (λ j l h. inr (omega arith)) (λ r l h. inr (omega arith));
        from = links_from map whole (first_link map) (next_link map) 1 (road_count map) (omega arith) (omega arith);
        to = λ r low high. inl (links_road map whole (first_link map) (next_link map) 1 (road_count map) (omega arith) (omega arith) r 4 (omega arith));
        first = links_first map whole (first_link map) (next_link map) 1 (road_count map) (omega arith) (omega arith);
        next = λ r low high. links_next map whole (first_link map) (next_link map) 1 (road_count map) (omega arith) (omega arith) r low (omega arith);
      }

-- the map that chain making leaves passes the map check
pub passes : (map : List ℕ) → NoneFits (chaining_tests map) → AcceptedMap (chained map)
passes map fine = kept_accepted map (chained map) (kept map (has_whole map (unchained_sizes map fine))) false fine

-- a map that passes already is left as it is
pub accepted_stays : (map : List ℕ) → ((i : ℕ) → get_or map i 0 < 256) → AcceptedMap map → chained map ≡ map
unfolding chained junction_word road_word
accepted_stays map bytes accepted =
    let made = accepted_made map accepted in
    ap (λ (l : List ℕ). put_all (next_at map) (next_link map) 1 (road_count map) l)
    (put_all_own junction_at (first_link map) 1 (junction_count map) map bytes
    (λ j low high. rw add-zero at (made.first_lowest j low (omega arith))))
    ∙ put_all_own (next_at map) (next_link map) 1 (road_count map) map bytes (λ r low high. made.next_lowest r low (omega arith))
