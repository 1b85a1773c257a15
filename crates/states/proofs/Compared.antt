-- Rank is a total order, equal states are told apart from others, and covering is a preorder that ranks no higher. Assumes nothing.
use mathlib.Core.Path.{◌≡◌, refl, sym, ap, ◌∙◌}
use mathlib.Core.Bool.{true}
use mathlib.Core.List.{List, [], ◌∷◌}
use Prim.Native.Nat.{ℕ, ◌≤◌, ◌<◌}
use native.Mathlib.Omega.{arith}
use lib.Dec.{T, eqb, eqb→eq, eqb_refl}
use lib.ListN.{get_or}
use Rattle.booleans.proofs.Tests.{T_true, true_T, and_l, and_r, and_i}
use Rattle.theory.specs.Lists.{Order, Decides}
use Rattle.theory.specs.Figures.{none_above}
use Rattle.theory.proofs.Figures.{above_end, above_head, above_more, above_self, above_trans, above_both, above_first, above_rank, same_self, same_lists, rank_trans, rank_total, rank_antisym, rank_below, rank_head}
use Rattle.driving.specs.declared.Order as order
use Rattle.driving.proofs.Hours.{mark_told}
use Rattle.states.specs.declared.State.{State}
use Rattle.states.specs.States.{figures_of, times_of, limits_of, rank_figures, legal, same_state, covers, ranks_no_higher}

-- states with equal figures at equal junctions are equal
pub state_path : (b a : State) → rank_figures b ≡ rank_figures a → b ≡ a
state_path b a e =
    λ i.
    record {
      junction = at 5 i;
      clock = record { 0 = at 0 i };
      figures =
          record {
            spell = record { 0 = at 1 i };
            shift = record { 0 = at 2 i };
            week = record { 0 = at 3 i };
            marked = same_mark i;
          };
    }
  where
    at : (k : ℕ) → get_or (rank_figures b) k 0 ≡ get_or (rank_figures a) k 0
    at k = ap (λ (l : List ℕ). get_or l k 0) e

    same_mark : b.figures.marked ≡ a.figures.marked
    same_mark = sym (mark_told b.figures.marked) ∙ ap (λ (x : ℕ). eqb x 0) (at 4) ∙ mark_told a.figures.marked

-- rank is a total order
pub rank_order : Order ranks_no_higher
unfolding ranks_no_higher
rank_order =
    record {
      trans = λ x y z. rank_trans (rank_figures x) (rank_figures y) (rank_figures z);
      total = λ x y. rank_total (rank_figures x) (rank_figures y);
      antisym = λ x y p q. state_path x y (rank_antisym (rank_figures x) (rank_figures y) p q);
    }

-- a lower clock ranks no higher
pub lower_clock : (b a : State) → b.clock.0 < a.clock.0 → T (ranks_no_higher b a)
unfolding ranks_no_higher
lower_clock b a h = rank_below _ _ _ _ h

-- what ranks no higher has no later clock
pub rank_clock : (b a : State) → T (ranks_no_higher b a) → b.clock.0 ≤ a.clock.0
unfolding ranks_no_higher
rank_clock b a t = rank_head _ _ _ _ t

-- the test for equal states tells them
pub same_decides : Decides same_state
unfolding same_state
same_decides =
    record {
      same = λ x y t. state_path x y (same_lists (rank_figures x) (rank_figures y) t);
      self = λ x. same_self (rank_figures x);
    }

-- covering, taken apart and made
module _ (b a : State) where
  pub covers_junction : T (covers b a) → b.junction ≡ a.junction
  unfolding covers
  covers_junction t = eqb→eq b.junction a.junction (and_l (eqb b.junction a.junction) (none_above (figures_of b) (figures_of a)) t)

  pub covers_figures : T (covers b a) → T (none_above (figures_of b) (figures_of a))
  unfolding covers
  covers_figures t = and_r (eqb b.junction a.junction) (none_above (figures_of b) (figures_of a)) t

  pub covers_made : b.junction ≡ a.junction → T (none_above (figures_of b) (figures_of a)) → T (covers b a)
  unfolding covers
  covers_made e t = and_i (eqb b.junction a.junction) (none_above (figures_of b) (figures_of a)) (rw e (eqb_refl a.junction)) t

  -- what covers is no later
  pub covers_clock : T (covers b a) → b.clock.0 ≤ a.clock.0
  covers_clock t = above_head _ _ _ _ (covers_figures t)

  -- and ranks no higher
  pub covers_rank : T (covers b a) → T (ranks_no_higher b a)
  unfolding ranks_no_higher
  covers_rank t =
      above_rank (rank_figures b) (rank_figures a)
      (above_both (figures_of b) (figures_of a) (b.junction ∷ []) (a.junction ∷ []) (covers_figures t) (above_more b.junction a.junction [] [] (omega (arith, covers_junction t)) above_end))

pub covers_self : (s : State) → T (covers s s)
covers_self s = covers_made s s refl (above_self (figures_of s))

pub covers_trans : (c b a : State) → T (covers c b) → T (covers b a) → T (covers c a)
covers_trans c b a p q =
    covers_made c a (covers_junction c b p ∙ covers_junction b a q) (above_trans (figures_of c) (figures_of b) (figures_of a) (covers_figures c b p) (covers_figures b a q))

-- what has no figure above another's has no time above it
pub times_above : (b a : State) → T (none_above (figures_of b) (figures_of a)) → T (none_above (times_of b) (times_of a))
times_above b a t = above_first (times_of b) (times_of a) _ _ refl t

-- legal figures, as facts
module _ (o : order.Order) (s : State) where
  pub legal_within : legal o s ≡ true → T (none_above (times_of s) (limits_of o))
  unfolding legal
  legal_within e = true_T e

  pub within_legal : T (none_above (times_of s) (limits_of o)) → legal o s ≡ true
  unfolding legal
  within_legal t = T_true t

  -- so is what covers it
  pub covers_legal : (b : State) → T (covers b s) → legal o s ≡ true → legal o b ≡ true
  unfolding legal
  covers_legal b t e = T_true (above_trans _ _ _ (times_above b s (covers_figures b s t)) (legal_within e))

  pub legal_clock : legal o s ≡ true → s.clock.0 ≤ o.latest.0
  legal_clock e = above_head _ _ _ _ (legal_within e)
