-- The order by rank is the order of the rank numbers, for figures that are words. Assumes nothing.
use mathlib.Core.Path.{◌≡◌, refl, sym, ◌∙◌}
use mathlib.Core.Bool.{true, false}
use Prim.Native.Nat.{◌≤◌, ◌<◌}
use borrow.Author.Tests.{leb-true, leb-false, le-leb}
use lib.Dec.{leb}
use Rattle.theory.proofs.Numbers.{number_top, number_rank}
use Rattle.states.specs.declared.State.{State}
use Rattle.states.specs.States.{rank_figures, ranks_no_higher}
use Rattle.states.specs.RankNumber.{word_base, Small, rank_number, rank_top}

module _ (b a : State) (B : Small b) (A : Small a) where
  rank_test : ranks_no_higher b a ≡ leb (rank_number b) (rank_number a)
  unfolding ranks_no_higher rank_number
  rank_test = number_rank word_base (rank_figures b) (rank_figures a) refl B A

  pub rank_low : ranks_no_higher b a ≡ true → rank_number b ≤ rank_number a
  rank_low h = leb-true _ _ (sym rank_test ∙ h)

  pub rank_high : ranks_no_higher b a ≡ false → rank_number a < rank_number b
  rank_high h = leb-false _ _ (sym rank_test ∙ h)

  pub number_low : rank_number b ≤ rank_number a → ranks_no_higher b a ≡ true
  number_low h = rank_test ∙ le-leb _ _ h

pub rank_top_lem : (s : State) → Small s → rank_number s < rank_top
unfolding rank_number rank_top
rank_top_lem s S = number_top word_base (rank_figures s) S
