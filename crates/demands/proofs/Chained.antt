-- What chain making leaves of a map that it does not refuse. Assumes nothing.
use mathlib.Core.Path.{◌≡◌, refl, sym, ap, ◌∙◌}
use mathlib.Core.Bool.{true, false}
use mathlib.Core.List.{List}
use mathlib.Core.Logic.{inl, inr, ⊎_elim}
use Prim.Native.Nat.{ℕ, ◌+◌}
use borrow.Author.Tests.{ltb-true, ltb-false}
use lib.Dec.{ltb}
use lib.ListN.{length, get_or}
use Rattle.std.specs.Prelude.{Result}
use Rattle.replies.specs.declared.Refusal.{Refusal}
use Rattle.booleans.proofs.Tests.{cases}
use Rattle.words.proofs.Put.{Apart}
use Rattle.replies.specs.declared.Reply.{Reply}
use Rattle.replies.specs.First.{NoneFits}
use Rattle.replies.specs.Told.{succeeded, told_check}
use Rattle.replies.proofs.First.{none_fitted}
use Rattle.roadmap.specs.Format.{length_needed}
use Rattle.mapcheck.specs.MapCheck.{chaining_tests, AcceptedMap}
use Rattle.mapcheck.proofs.Tried.{has_whole, unchained_sizes}
use Rattle.mapedit.specs.Chaining.{chained, chaining_reply, after_chaining, ChainMaking}
use Rattle.mapedit.proofs.Chained.{nothing_else, same_length, passes}
use Rattle.demands.specs.LinkBytes.{InWord, LinkByte, of_first, of_next}

-- a byte that is none of a word's four lies apart from it
pub apart : (at p : ℕ) → ¬ InWord at p → Apart at 4 p
apart at p outside =
    ⊎_elim
    (λ (before : ltb p at ≡ true). inl (ltb-true p at before))
    (λ (from : ltb p at ≡ false).
    ⊎_elim
    (λ (within : ltb p (at + 4) ≡ true). absurd (outside (ltb-false p at from, ltb-true p (at + 4) within)))
    (λ (behind : ltb p (at + 4) ≡ false). inr (ltb-false p (at + 4) behind))
    (cases (ltb p (at + 4))))
    (cases (ltb p at))

module _ {map map' : List ℕ} {answer : Result (Unit {0}) Refusal} (made : ChainMaking map map' answer) (done : (told_check answer).number ≡ 0) where
  number_0 : (chaining_reply map).number ≡ 0
  number_0 = sym (ap (λ (r : Reply). r.number) made.reply) ∙ done

  none_fit : NoneFits (chaining_tests map)
  unfolding chaining_reply
  none_fit = none_fitted (chaining_tests map) (succeeded 0 0) tt number_0

  is_chained : map' ≡ chained map
  unfolding after_chaining
  is_chained = made.bytes ∙ rw number_0 refl

  whole : length map ≡ length_needed map
  whole = has_whole map (unchained_sizes map none_fit)

  pub length_chained : length map' ≡ length map
  length_chained = ap length is_chained ∙ same_length map whole

  pub chained_passes : AcceptedMap map'
  chained_passes = rw is_chained (passes map none_fit)

  pub chained_else : (p : ℕ) → ¬ LinkByte map p → get_or map' p 0 ≡ get_or map p 0
  chained_else p no-link =
      ap (λ (s : List ℕ). get_or s p 0) is_chained
      ∙ nothing_else map whole p (λ j low high. apart _ p (λ at. no-link (of_first j low high at))) (λ r low high. apart _ p (λ at. no-link (of_next r low high at)))
