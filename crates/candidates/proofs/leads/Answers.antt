use Rattle.std.proofs.Common.{refl, ◌∙◌, sym, ap, subst, arith}
use Rattle.booleans.proofs.Tests.{true_T}
use lib.Dec.{T}
use Rattle.states.specs.declared.State.{State}
use Rattle.states.specs.States.{covers}
use Rattle.moves.specs.OpenRuns.{searched_trip}
use Rattle.candidates.specs.Candidates.{result_at}
use Rattle.candidates.specs.Trying.{allowed}
use Rattle.moves.proofs.Rising.{clock_high}
use Rattle.candidates.proofs.Searched.{sound, roads}
use Rattle.candidates.proofs.Rivals.{preceded}
use Rattle.candidates.proofs.leads.Goals as goal

pub allowed-requires : goal.allowed-requires
allowed-requires c = omega (arith, c.requires.contends.0.1.high, roads c.args.run.now)

-- its road is not banned, so it is entered at once
pub result_at-requires-clause-enters : goal.result_at-requires-clause-enters
result_at-requires-clause-enters c =
    let run = c.args.run.now in
    let range = c.requires.ranged.0 c.args.by.label c.requires.contends.0.0 c.if-before-by.false in
    rw (sym c.is_closed.ensures ∙ c.if-is_closed.false, c.read_label-label.ensures) (refl, omega (arith, clock_high _ (sound run) _ range))

pub returns-then-allowed : goal.returns-then-allowed
returns-then-allowed c told =
    let trip = searched_trip c.args.run.now in
    preceded c.args.run.now c.requires.contends.0.0 c.if-before-by.false c.requires.contends.0.1
    (ap (λ (l : State). allowed c.args.run.now.about l c.args.by.cursor) (sym c.read_label-label.ensures) ∙ sym c.allowed.ensures ∙ c.if-allowed.true) c.requires.contends.1
    (subst (λ (l : State). T (covers (result_at trip l c.args.by.cursor) c.args.reached)) c.read_label-label.ensures
    (subst (λ (z : State). T (covers z c.args.reached)) c.result_at.ensures (true_T (sym c.covers.ensures ∙ told))))
