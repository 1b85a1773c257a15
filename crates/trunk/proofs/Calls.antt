-- Each call from its operation's contract: where the reply has no room, and where it has. Assumes nothing.
use mathlib.Core.Path.{◌≡◌, ◌∙◌, refl, ap}
use mathlib.Core.Bool.{Bool, true, false}
use mathlib.Core.List.{List, []}
use Prim.Native.Nat.{ℕ, ◌≤◌, ◌<◌}
use native.Mathlib.Omega.{arith}
use borrow.Author.Tests.{ne_eqb}
use lib.Dec.{eqb}
use lib.ListN.{length, get_or, set, take, drop, length-set}
use lib.Seq.{get_or-set_same, get_or-set_other}
use Rattle.std.specs.Prelude.{Result}
use Rattle.replies.specs.declared.Plan.{Plan}
use Rattle.replies.specs.declared.Refusal.{Refusal}
use Rattle.replies.specs.declared.Reply.{Reply}
use Rattle.replies.specs.declared.Timed.{Timed}
use Rattle.replies.specs.Told.{succeeded, told_check, told_plan, told_refusal, told_replaying, told_timing}
use Rattle.booleans.specs.Pick.{pick}
use Rattle.replies.proofs.First.{refusal_number}
use Rattle.roadmap.specs.Format.{name_length}
use Rattle.mapedit.specs.Name.{name_reply, name_at, name_part}
use Rattle.mapedit.proofs.Named.{length_named}
use Rattle.driving.specs.declared.Figures.{Figures}
use Rattle.replay.specs.Replay.{Replayed}
use Rattle.moves.specs.Given.{Given}
use Rattle.retiming.specs.Retiming.{Retimed}
use Rattle.trunk.specs.Written.{reply_put, part_put, rules_in, figures_in}
use Rattle.trunk.specs.Calls.{JudgingCall, PlanningCall, RetimeCall, NameCall, EditingCall, ReplayCall, name_put, figures_left}

-- nothing is written
module _ {reply : List ℕ} (short : length reply < 3) where
  pub judging_short : (tells : Reply) → JudgingCall tells reply reply
  judging_short tells = record { short = λ _. refl; told = λ room. absurd (omega arith) }

  pub planning_short : (Owes : Result Plan Refusal → Type 0) (words sheet : List ℕ) → PlanningCall Owes words words sheet sheet reply reply
  planning_short Owes words sheet = record { short = λ _. (refl, refl, refl); told = λ room. absurd (omega arith) }

  pub retime_short : (given : Given) (sheet out : List ℕ) → RetimeCall given sheet out out reply reply
  retime_short given sheet out = record { short = λ _. (refl, refl); told = λ room. absurd (omega arith) }

  pub name_short : (map : List ℕ) (junction : ℕ) (part : List ℕ) → NameCall map junction reply reply part part
  name_short map junction part =
      record { short = λ _. (refl, refl); short_part = λ _. (refl, refl); told = λ room _. absurd (omega arith) }

  pub editing_short : (Owes : Result (Unit {0}) Refusal → Type 0) (map : List ℕ) → EditingCall Owes map map reply reply
  editing_short Owes map = record { short = λ _. (refl, refl); told = λ room. absurd (omega arith) }

  pub replay_short : (trace rules figures : List ℕ) → ReplayCall trace rules figures figures reply reply
  replay_short trace rules figures =
      record { short = λ _. (refl, refl); short_rules = λ _. (refl, refl); short_figures = λ _. (refl, refl); told = λ room _ _. absurd (omega arith) }

pub name_short_part : {part : List ℕ} → length part < 2 → (map : List ℕ) (junction : ℕ) (reply : List ℕ) → NameCall map junction reply reply part part
name_short_part short map junction reply =
    record { short = λ _. (refl, refl); short_part = λ _. (refl, refl); told = λ _ room. absurd (omega arith) }

pub replay_short_rules : {rules : List ℕ} → length rules < 8 → (trace figures reply : List ℕ) → ReplayCall trace rules figures figures reply reply
replay_short_rules short trace figures reply =
    record { short = λ _. (refl, refl); short_rules = λ _. (refl, refl); short_figures = λ _. (refl, refl); told = λ _ room _. absurd (omega arith) }

pub replay_short_figures : {figures : List ℕ} → length figures < 4 → (trace rules reply : List ℕ) → ReplayCall trace rules figures figures reply reply
replay_short_figures short trace rules reply =
    record { short = λ _. (refl, refl); short_rules = λ _. (refl, refl); short_figures = λ _. (refl, refl); told = λ _ _ room. absurd (omega arith) }

-- the reply is written
module _ {reply reply' : List ℕ} {told : Reply} (room : 3 ≤ length reply) (written : reply' ≡ reply_put reply told) where
  pub judging_told : {tells : Reply} → told ≡ tells → JudgingCall tells reply reply'
  judging_told is = record { short = λ short. absurd (omega arith); told = λ _. written ∙ ap (reply_put reply) is }

  pub planning_told : {Owes : Result Plan Refusal → Type 0} {words words' sheet sheet' : List ℕ} (answer : Result Plan Refusal) → told ≡ told_plan answer → Owes answer
      → PlanningCall Owes words words' sheet sheet' reply reply'
  planning_told answer is owed =
      record { short = λ short. absurd (omega arith); told = λ _. (answer, owed, written ∙ ap (reply_put reply) is) }

  pub retime_told : {given : Given} {sheet out out' : List ℕ} {answer : Result Timed Refusal} → told ≡ told_timing answer
      → Retimed given sheet out out' answer → RetimeCall given sheet out out' reply reply'
  retime_told {answer = answer} is retimed =
      record { short = λ short. absurd (omega arith); told = λ _. (answer, retimed, written ∙ ap (reply_put reply) is) }

  pub name_told : {map : List ℕ} {junction : ℕ} {part part' : List ℕ} → 2 ≤ length part → told ≡ name_reply map junction → part' ≡ name_put map junction part
      → NameCall map junction reply reply' part part'
  name_told enough is placed =
      record {
        short = λ short. absurd (omega arith);
        short_part = λ short. absurd (omega arith);
        told = λ _ _. (written ∙ ap (reply_put reply) is, placed);
      }

  pub editing_told : {Owes : Result (Unit {0}) Refusal → Type 0} {map map' : List ℕ} (answer : Result (Unit {0}) Refusal) → told ≡ told_check answer → Owes answer → EditingCall Owes map map' reply reply'
  editing_told answer is owed =
      record { short = λ short. absurd (omega arith); told = λ _. (answer, owed, written ∙ ap (reply_put reply) is) }

  pub replay_told : {trace rules figures figures' : List ℕ} {answer : Result ℕ Refusal} {after : Figures} → 8 ≤ length rules → 4 ≤ length figures → told ≡ told_replaying answer
      → Replayed trace (rules_in rules) (figures_in figures) after answer → figures' ≡ figures_left (told_replaying answer) figures after → ReplayCall trace rules figures figures' reply reply'
  replay_told {answer = answer} {after = after} enough-rules enough-figures is replayed put =
      record {
        short = λ short. absurd (omega arith);
        short_rules = λ short. absurd (omega arith);
        short_figures = λ short. absurd (omega arith);
        told = λ _ _ _. (answer, after, replayed, put, written ∙ ap (reply_put reply) is);
      }

-- the place and the length of a name
module _ (map : List ℕ) (junction : ℕ) (part : List ℕ) where
  pub put_named : {from length : ℕ} → succeeded length 0 ≡ name_reply map junction → from ≡ name_at map junction → part_put part from length ≡ name_put map junction part
  put_named {from} {length} told is = rw (← told, is, length_named map junction told)

  pub put_refused : (why : Refusal) → told_refusal why ≡ name_reply map junction → part_put part 0 0 ≡ name_put map junction part
  put_refused why told = rw (← told, ne_eqb (told_refusal why).number 0 (λ e. omega (arith, refusal_number why)))

-- what stands at the numbers of a part
module _ (part : List ℕ) (from size : ℕ) (room : 2 ≤ length part) where
  part_from : get_or (part_put part from size) 0 0 ≡ from
  part_from = get_or-set_other (set part 0 from) 1 0 size 0 (λ e. omega arith) ∙ get_or-set_same part 0 from 0 (omega arith)

  part_length : get_or (part_put part from size) 1 0 ≡ size
  part_length = get_or-set_same (set part 0 from) 1 size 0 (simp length-set (omega arith))

spells_so : (named : Bool) (map part : List ℕ) (from size : ℕ) → 2 ≤ length part
    → let told = pick named (part_put part from size) (part_put part 0 0) in
    take (get_or told 1 0) (drop (get_or told 0 0) map) ≡ pick named (take size (drop from map)) []
spells_so true map part from size room = rw (part_from part from size room, part_length part from size room)
spells_so false map part from size room = rw (part_from part 0 0 room, part_length part 0 0 room)

-- the place and length told are the part of the map that the operation of the name returns
pub part_spells : (map : List ℕ) (junction : ℕ) (part : List ℕ) → 2 ≤ length part
    → let told = name_put map junction part in
    take (get_or told 1 0) (drop (get_or told 0 0) map) ≡ name_part map junction
unfolding name_part
part_spells map junction part room =
    spells_so (eqb (name_reply map junction).number 0) map part (name_at map junction) (name_length map junction) room

-- a refused trace leaves every word of the lent figures
pub replay_leaves : {figures figures' : List ℕ} (answer : Result ℕ Refusal) (after : Figures) → figures' ≡ figures_left (told_replaying answer) figures after
    → ¬ ((told_replaying answer).number ≡ 0) → figures' ≡ figures
replay_leaves answer after left refused = rw (ne_eqb (told_replaying answer).number 0 refused) at left
