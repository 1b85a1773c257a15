use Rattle.std.proofs.Common.{◌∙◌, refl, sym, ap, true}
use Rattle.booleans.proofs.Tests.{true_T}
use Rattle.states.specs.declared.State.{State}
use Rattle.states.proofs.Compared.{same_decides}
use Rattle.candidates.specs.Trying.{same, higher, lower}
use Rattle.candidates.proofs.Trials.{is_lower}
use Rattle.candidates.proofs.lower.Goals as goal

pub returns-then-same_state : goal.returns-then-same_state
returns-then-same_state c =
    same c.requires.fitting.1
    (sym c.result_by-before.ensures ∙ same_decides.same _ _ (true_T (sym c.same_state.ensures ∙ c.if-same_state.true)) ∙ c.requires.reached_value.0)

pub returns-then-ranks_no_higher : goal.returns-then-ranks_no_higher
returns-then-ranks_no_higher c =
    higher c.requires.fitting.1
    (rw (← c.result_by-before.ensures, ← c.requires.reached_value.0) (true_T (sym c.ranks_no_higher.ensures ∙ c.if-ranks_no_higher.true)))

pub returns : goal.returns
returns c =
    lower true _ _ (ap (λ (t : State). t.junction) c.requires.reached_value.0) (sym c.requires.reached_value.1 ∙ ap (λ (t : State). t.clock.0) c.requires.reached_value.0)
    (λ some. (rw (← c.result_by-before.ensures, ← c.requires.reached_value.0) (is_lower _ _ (sym c.ranks_no_higher.ensures ∙ c.if-ranks_no_higher.false)), refl))
