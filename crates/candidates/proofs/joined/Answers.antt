use Rattle.std.proofs.Common.{◌≡◌, ap, refl, arith, ne_eqb, ◌<◌}
use Rattle.std.proofs.lemmas.Bool.Decides.{nat_tests}
use Rattle.states.specs.declared.State.{State}
use Rattle.candidates.proofs.Searched.{sound}
use Rattle.candidates.proofs.Trials.{some_best, joined_lower, joined_higher}
use Rattle.candidates.proofs.joined.Goals as goal

pub lower-requires-clause-fitting : goal.lower-requires-clause-fitting
lower-requires-clause-fitting c =
    let tied : c.args.reached.clock.0 ≡ c.args.best.clock.0 = grind (arith, nat_tests, c.if-eq.ensures) in
    (c.requires.fitting.0, some_best (sound c.args.run.now) c.requires.fitting.0 c.requires.fitting.1 (omega (arith, tied, ap (λ (t : State). t.clock.0) c.requires.reached_value)))

pub returns-then-lt : goal.returns-then-lt
returns-then-lt c =
    let early : c.args.reached.clock.0 < c.args.best.clock.0 = grind (arith, nat_tests, c.if-lt.ensures) in
    joined_lower (sound c.args.run.now) c.requires.fitting.0 c.requires.fitting.1
    (ap (λ (t : State). t.junction) c.requires.reached_value) (ap (λ (t : State). t.clock.0) c.requires.reached_value) early
    (λ some. rw (ne_eqb c.args.best.cursor 0 (λ none. omega arith)) refl)

pub returns : goal.returns
returns c =
    let late : c.args.best.clock.0 < c.args.reached.clock.0 = grind (arith, nat_tests, c.if-eq.ensures, c.if-lt.ensures) in
    joined_higher (sound c.args.run.now) c.requires.fitting.0 c.requires.fitting.1 (omega (arith, late, ap (λ (t : State). t.clock.0) c.requires.reached_value))
