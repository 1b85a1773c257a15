-- An order passes exactly when its length is 60 and its words keep the rules; the facts that later layers use. Assumes nothing.
use mathlib.Core.Path.{◌≡◌, refl}
use mathlib.Core.Bool.{Bool, true, false, not, ◌||◌}
use mathlib.Core.List.{List, [], ◌∷◌, ◌++◌}
use mathlib.Core.Logic.{⊎_elim}
use mathlib.Core.Option.{none}
use Prim.Native.Nat.{ℕ}
use lib.Dec.{lit≤, eqb}
use lib.ListN.{length}
use borrow.Author.Tests.{le-leb, leb-true, eq-eqb, eqb-true}
use Rattle.booleans.proofs.Tests.{cases, not_both, some_not_none}
use Rattle.replies.specs.First.{NoneFits}
use Rattle.replies.proofs.First.{none_under}
use Rattle.driving.specs.declared.Order.{Order}
use Rattle.driving.specs.declared.Figures.{Figures}
use Rattle.driving.specs.declared.Rules.{Rules}
use Rattle.driving.specs.Order.{Rule, first_broken, european_rules, part_taken, limit_rules, end_rules, figure_rules, bad_order, bad_rules, bad_figures, bad_trip, order_bytes, order_of, order_tests}
use Rattle.driving.specs.Hours.{has_split}
use Rattle.driving.specs.Accepted.{SoundRules, SoundFigures, AcceptedOrder}

-- every rule of the list is kept
abbrev pub AllKept : List Rule → Type 0
AllKept [] = Unit {0}
AllKept (r ∷ rs) = (r.kept ≡ true) × AllKept rs

pub all_kept : (rs : List Rule) → first_broken rs ≡ none → AllKept rs
unfolding first_broken
all_kept [] e = tt
all_kept (r ∷ rs) e =
    ⊎_elim
    (λ (kept : r.kept ≡ true). (kept, all_kept rs (simp kept at e)))
    (λ (broken : r.kept ≡ false). absurd (some_not_none (simp broken at e)))
    (cases r.kept)

pub none_broken : (rs : List Rule) → AllKept rs → first_broken rs ≡ none
unfolding first_broken
none_broken [] all = refl
none_broken (r ∷ rs) all = simp all.0 (none_broken rs all.1)

-- what stands in two lists put behind each other is kept in each, and the other way round
kept_first : (rs more : List Rule) → AllKept (rs ++ more) → AllKept rs
kept_first [] more all = tt
kept_first (r ∷ rs) more all = (all.0, kept_first rs more all.1)

kept_second : (rs more : List Rule) → AllKept (rs ++ more) → AllKept more
kept_second [] more all = all
kept_second (r ∷ rs) more all = kept_second rs more all.1

kept_both : (rs more : List Rule) → AllKept rs → AllKept more → AllKept (rs ++ more)
kept_both [] more first second = second
kept_both (r ∷ rs) more first second = (first.0, kept_both rs more first.1 second)

-- what a split asks is a rule of its own
asked : (split kept : Bool) → (not split || kept) ≡ true → split ≡ true → kept ≡ true
asked true kept e is = e
asked false kept e is = absurd (not_both is refl)

granted : (split kept : Bool) → (split ≡ true → kept ≡ true) → (not split || kept) ≡ true
granted true kept by = by refl
granted false kept by = refl

-- refusal 10 does not fit exactly the sound rules
pub rules_sound : (r : Rules) → bad_rules r ≡ none → SoundRules r
unfolding bad_rules
rules_sound r e =
    let kept = all_kept (limit_rules r) e in
    record {
      spell_limit_low = leb-true _ _ (search kept);
      break_low = leb-true _ _ (search kept);
      limits_rise = leb-true _ _ (search kept);
      shift_limit_high = leb-true _ _ (search kept);
      pauses_rise = leb-true _ _ (search kept);
      rest_high = leb-true _ _ (search kept);
      first_low = λ split. leb-true _ _ (asked (has_split r) _ (search kept) split);
      first_high = leb-true _ _ (search kept);
      second_low = λ split. leb-true _ _ (asked (has_split r) _ (search kept) split);
      second_high = leb-true _ _ (search kept);
      week_limit_low = leb-true _ _ (search kept);
      week_limit_high = leb-true _ _ (search kept);
      weekly_low = leb-true _ _ (search kept);
      weekly_high = leb-true _ _ (search kept);
    }

pub sound_rules_pass : (r : Rules) → SoundRules r → bad_rules r ≡ none
unfolding bad_rules
sound_rules_pass r s =
    let first : part_taken r r.first_part.0 ≡ true = granted _ _ (λ split. le-leb _ _ (s.first_low split)) in
    let second : part_taken r r.second_part.0 ≡ true = granted _ _ (λ split. le-leb _ _ (s.second_low split)) in
    none_broken (limit_rules r)
    (le-leb _ _ s.spell_limit_low, (le-leb _ _ s.break_low, (le-leb _ _ s.limits_rise, (le-leb _ _ s.shift_limit_high, (le-leb _ _ s.pauses_rise, (le-leb _ _ s.rest_high, (first, (le-leb _ _ s.first_high, (second, (le-leb _ _ s.second_high, (le-leb _ _ s.week_limit_low, (le-leb _ _ s.week_limit_high, (le-leb _ _ s.weekly_low, (le-leb _ _ s.weekly_high, tt))))))))))))))

pub european_sound : SoundRules european_rules
european_sound =
    record {
      spell_limit_low = lit≤ tt;
      limits_rise = lit≤ tt;
      shift_limit_high = lit≤ tt;
      break_low = lit≤ tt;
      pauses_rise = lit≤ tt;
      rest_high = lit≤ tt;
      first_low = λ split. lit≤ tt;
      first_high = lit≤ tt;
      second_low = λ split. lit≤ tt;
      second_high = lit≤ tt;
      week_limit_low = lit≤ tt;
      week_limit_high = lit≤ tt;
      weekly_low = lit≤ tt;
      weekly_high = lit≤ tt;
    }

-- the starting figures' part of refusal 11
figures_kept : (f : Figures) (r : Rules) → AllKept (figure_rules f r) → SoundFigures f r
figures_kept f r kept =
    record {
      spell_high = leb-true _ _ (search kept);
      figures_rise = leb-true _ _ (search kept);
      shift_high = leb-true _ _ (search kept);
      week_low = leb-true _ _ (search kept);
      week_high = leb-true _ _ (search kept);
    }

kept_figures : (f : Figures) (r : Rules) → SoundFigures f r → AllKept (figure_rules f r)
kept_figures f r s =
    (le-leb _ _ s.spell_high, (le-leb _ _ s.figures_rise, (le-leb _ _ s.shift_high, (le-leb _ _ s.week_low, (le-leb _ _ s.week_high, tt)))))

pub figures_sound : (f : Figures) (r : Rules) → bad_figures f r ≡ none → SoundFigures f r
unfolding bad_figures
figures_sound f r e = figures_kept f r (all_kept (figure_rules f r) e)

pub sound_figures_pass : (f : Figures) (r : Rules) → SoundFigures f r → bad_figures f r ≡ none
unfolding bad_figures
sound_figures_pass f r s = none_broken (figure_rules f r) (kept_figures f r s)

-- refusals 10 and 11 do not fit exactly the orders whose words keep every rule
pub order_sound : (junctions : ℕ) (o : Order) → bad_rules o.rules ≡ none → bad_trip junctions o ≡ none → AcceptedOrder junctions o
unfolding bad_trip
order_sound junctions o e10 e11 =
    let all = all_kept (end_rules junctions o ++ figure_rules o.figures o.rules) e11 in
    let kept = kept_first (end_rules junctions o) (figure_rules o.figures o.rules) all in
    record {
      source_low = leb-true _ _ (search kept);
      source_high = leb-true _ _ (search kept);
      target_low = leb-true _ _ (search kept);
      target_high = leb-true _ _ (search kept);
      times_rise = leb-true _ _ (search kept);
      latest_high = leb-true _ _ (search kept);
      sound_figures = figures_kept o.figures o.rules (kept_second (end_rules junctions o) (figure_rules o.figures o.rules) all);
      sound_rules = rules_sound o.rules e10;
    }

pub sound_trip_passes : (junctions : ℕ) (o : Order) → AcceptedOrder junctions o → bad_trip junctions o ≡ none
unfolding bad_trip
sound_trip_passes junctions o s =
    none_broken (end_rules junctions o ++ figure_rules o.figures o.rules)
    (kept_both (end_rules junctions o) (figure_rules o.figures o.rules)
    (le-leb _ _ s.source_low, (le-leb _ _ s.source_high, (le-leb _ _ s.target_low, (le-leb _ _ s.target_high, (le-leb _ _ s.times_rise, (le-leb _ _ s.latest_high, tt))))))
    (kept_figures o.figures o.rules s.sound_figures))

pub order_length_lem : (bytes : List ℕ) → bad_order bytes ≡ none → length bytes ≡ order_bytes
order_length_lem bytes e =
    ⊎_elim
    (λ (same : eqb (length bytes) order_bytes ≡ true). eqb-true _ _ same)
    (λ (other : eqb (length bytes) order_bytes ≡ false). absurd (some_not_none (simp other at e)))
    (cases (eqb (length bytes) order_bytes))

-- the order check passes exactly the orders of 60 bytes whose words keep every rule
pub order_accepted : (junctions : ℕ) (bytes : List ℕ) → NoneFits (order_tests junctions bytes) → AcceptedOrder junctions (order_of bytes)
order_accepted junctions bytes passed = order_sound junctions (order_of bytes) (none_under 10 (order_tests junctions bytes) passed) (none_under 11 (order_tests junctions bytes) passed)

pub accepted_passes : (junctions : ℕ) (bytes : List ℕ) → length bytes ≡ order_bytes → AcceptedOrder junctions (order_of bytes) → NoneFits (order_tests junctions bytes)
accepted_passes junctions bytes long s =
    (simp (eq-eqb (length bytes) order_bytes long), (sound_rules_pass (order_of bytes).rules s.sound_rules, (sound_trip_passes junctions (order_of bytes) s, tt)))
