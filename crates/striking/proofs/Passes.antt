-- The map with a road struck passes the map check. Assumes nothing.
use mathlib.Core.Path.{◌≡◌, ◌∙◌}
use mathlib.Core.Bool.{true, false}
use mathlib.Core.List.{List}
use mathlib.Core.Logic.{inl, inr, ⊎_elim}
use Prim.Native.Nat.{ℕ, ◌≤◌}
use native.Mathlib.Omega.{arith}
use borrow.Author.Tests.{eqb-true, eqb-false}
use lib.Dec.{eqb}
use lib.ListN.{length}
use Rattle.booleans.proofs.Tests.{cases}
use Rattle.roadmap.specs.Format.{road_count, length_needed}
use Rattle.mapcheck.specs.MapCheck.{AcceptedMap}
use Rattle.mapcheck.proofs.Listed.{MapMade}
use Rattle.mapcheck.proofs.Sound.{accepted_made}
use Rattle.mapcheck.proofs.Tried.{has_whole, accepted_sizes}
use Rattle.mapcheck.proofs.Kept.{Kept, kept_accepted}
use Rattle.striking.specs.Striking.{struck}
use Rattle.striking.proofs.Struck.{struck_length, struck_byte, struck_format, struck_junctions, struck_roads, struck_names, struck_junction, struck_road, struck_from, struck_other, struck_to}

module _ (map : List ℕ) (whole : length map ≡ length_needed map) (road : ℕ) (low : 1 ≤ road) (high : road ≤ road_count map) where
  kept : MapMade map → Kept map (struck map road)
  kept made =
      record {
        size = struck_length map whole road low high;
        format = struck_format map whole road low high;
        junctions = struck_junctions map whole road low high;
        roads = struck_roads map whole road low high;
        names = struck_names map whole road low high;
        junction = λ j offset from_1 within behind. struck_junction map whole road low high j offset from_1 within;
        road = λ r offset from_1 within behind most. struck_road map whole road low high r offset from_1 within (inr behind) (omega arith);
        letter = λ i behind. struck_byte map whole road low high i (inr (omega arith));
        from = struck_from map whole road low high;
        to = λ r from_1 within.
            ⊎_elim
            (λ (e : eqb r road ≡ true). inr (rw (eqb-true r road e) (struck_to map whole road low high)))
            (λ (e : eqb r road ≡ false). inl (struck_other map whole road low high r from_1 within (eqb-false r road e)))
            (cases (eqb r road));
        first = λ j from_1 within. struck_junction map whole road low high j 0 from_1 within (omega arith) ∙ made.first_lowest j from_1 within;
        next = λ r from_1 within.
            struck_road map whole road low high r 16 from_1 within (inr (omega arith)) (omega arith) ∙ made.next_lowest r from_1 within;
      }

-- a map that passes the map check still passes it
pub struck_passes : (map : List ℕ) → AcceptedMap map → (road : ℕ) → 1 ≤ road → road ≤ road_count map → AcceptedMap (struck map road)
struck_passes map accepted road low high =
    kept_accepted map (struck map road)
    (kept map (has_whole map (accepted_sizes map accepted)) road low high (accepted_made map accepted))
    true
    accepted
