-- The best stays but where the cursor names a legal move to a state above the bound that needs a turn.
use Rattle.std.proofs.Common.{◌∙◌, sym, subst, ◌<◌, arith}
use Rattle.std.proofs.lemmas.Bool.Decides.{nat_tests}
use Rattle.booleans.proofs.Tests.{not_both}
use Rattle.labels.specs.Lists.{Says}
use Rattle.moves.specs.OpenRuns.{searched_trip}
use Rattle.moves.proofs.Rising.{clock_high, range_after}
use Rattle.candidates.specs.Candidates.{move_at}
use Rattle.candidates.proofs.Searched.{tied, sound, roads}
use Rattle.candidates.proofs.Results.{allowed_offers, names}
use Rattle.candidates.proofs.Trials.{is_lower, kept_unnamed, kept_low, kept_later, kept_covered, kept_forestalled, tried_joined, none_covers}
use Rattle.candidates.proofs.Rivals.{forestalled_by}
use Rattle.candidates.proofs.weigh.Goals.{then-best, else-best}
use Rattle.candidates.proofs.weigh.Goals.{then-lt-via-then-lt, then-lt-via-else-lt+then-not-is_legal, then-lt-via-else-lt+else-not-is_legal+then-ranks_no_higher, then-lt-via-else-lt+else-not-is_legal+else-ranks_no_higher+then-covered, then-lt-via-else-lt+else-not-is_legal+else-ranks_no_higher+else-covered+then-forestalled}
use Rattle.candidates.proofs.weigh.Goals as goal

pub allowed-requires : goal.allowed-requires
allowed-requires c = omega (arith, c.requires.worth.0.high, roads c.args.run.now)

pub entry_at-entry-requires : goal.entry_at-entry-requires
entry_at-entry-requires c = clock_high _ (sound c.args.run.now) c.args.search.now.of.state c.requires.range_in

pub returns-then-not-allowed : goal.returns-then-not-allowed
returns-then-not-allowed c =
    kept_unnamed c.requires.worth.1
    (λ named. not_both (allowed_offers c.args.run.now c.requires.worth.0 ∙ named.offered) (sym c.allowed.ensures ∙ c.if-not-allowed.true))

pub covered-requires-clause-known : goal.covered-requires-clause-known
covered-requires-clause-known c =
    let trip = searched_trip c.args.run.now in
    let one = names c.args.run.now c.requires.worth.0 c.result_at-reached.ensures (sym c.allowed.ensures ∙ c.if-not-allowed.false) (sym c.is_legal.ensures ∙ c.if-not-is_legal.false) in
    let after = range_after trip (sound c.args.run.now) c.args.search.now.of.state (move_at trip c.args.search.now.of.state c.args.cursor) one.offered c.requires.range_in one.lawful in
    rw c.result_at-reached.ensures (omega (arith, c.requires.run_in_bounds, after.high))

pub covered-requires-clause-since_le_n : goal.covered-requires-clause-since_le_n
covered-requires-clause-since_le_n c = (omega arith, none_covers c.args.labels.now.words.now _)

pub returns-then-lt : goal.returns-then-lt
returns-then-lt c =
    elim c.then-lt.branch [
      -- legal or not, it is later than the best
      | then-lt-via-then-lt w ↦
          elim c.if-best.branch [
            | then-best v ↦
                let late : c.args.best.clock.0 < c.result_at-reached.result.clock.0 = grind (arith, nat_tests, v.lt.ensures, v.value-is, w.if-lt.true) in
                kept_later c.requires.worth.1 (sound c.args.run.now) v.if-best.true (rw c.result_at-reached.ensures at late)
            | else-best v ↦ absurd (not_both w.if-lt.true (v.value-is ∙ v.if-best.false))
          ]
      | then-lt-via-else-lt+then-not-is_legal w ↦
          kept_unnamed c.requires.worth.1
          (λ named. not_both named.lawful (rw (← c.result_at-reached.ensures, (tied c.args.run.now).order) (sym w.is_legal.ensures ∙ w.if-not-is_legal.true)))
      | then-lt-via-else-lt+else-not-is_legal+then-ranks_no_higher w ↦
          kept_low c.requires.worth.1 (rw (← c.result_at-reached.ensures, ← w.ranks_no_higher.ensures) w.if-ranks_no_higher.true)
      | then-lt-via-else-lt+else-not-is_legal+else-ranks_no_higher+then-covered w ↦
          kept_covered c.requires.worth.1 (rw (← c.result_at-reached.ensures) (subst (Says _) w.if-covered.true w.covered.ensures))
      | then-lt-via-else-lt+else-not-is_legal+else-ranks_no_higher+else-covered+then-forestalled w ↦
          kept_forestalled c.requires.worth.1
          (forestalled_by c.requires.before_le_n.0 (rw (← c.result_at-reached.ensures) (w.forestalled.ensures w.if-forestalled.true)))
    ]

pub joined-requires-clause-fitting : goal.joined-requires-clause-fitting
joined-requires-clause-fitting c = (
  c.requires.worth.1.found.held,
  names c.args.run.now c.requires.worth.0 c.result_at-reached.ensures (sym c.allowed.ensures ∙ c.if-not-allowed.false) (sym c.is_legal.ensures ∙ c.if-not-is_legal.false),
)

pub returns : goal.returns
returns c =
    tried_joined c.requires.worth.1
    (names c.args.run.now c.requires.worth.0 c.result_at-reached.ensures (sym c.allowed.ensures ∙ c.if-not-allowed.false) (sym c.is_legal.ensures ∙ c.if-not-is_legal.false))
    (rw (← c.result_at-reached.ensures) (is_lower _ _ (sym c.ranks_no_higher.ensures ∙ c.if-ranks_no_higher.false)))
    (rw (← c.result_at-reached.ensures) (subst (Says _) c.if-covered.false c.covered.ensures)) c.joined.ensures
