-- What each call of the library owes: the reply, and every lent byte and word afterwards. Where the lent reply has no room for three
-- numbers, nothing at all is written. Assumes nothing.
use Rattle.std.specs.Prelude.{Result, ◌≡◌, List, ℕ, ◌≤◌, ◌<◌, eqb, length}
use Rattle.replies.specs.declared.Plan.{Plan}
use Rattle.replies.specs.declared.Refusal.{Refusal}
use Rattle.replies.specs.declared.Reply.{Reply}
use Rattle.replies.specs.declared.Timed.{Timed}
use Rattle.replies.specs.First.{first_of}
use Rattle.replies.specs.Told.{succeeded, told_check, told_plan, told_replaying, told_timing}
use Rattle.booleans.specs.Pick.{pick}
use Rattle.roadmap.specs.Format.{name_length}
use Rattle.mapcheck.specs.MapCheck.{map_tests}
use Rattle.driving.specs.declared.Figures.{Figures}
use Rattle.replay.specs.Replay.{Replayed}
use Rattle.striking.specs.Striking.{Striking}
use Rattle.mapedit.specs.Name.{name_reply, name_at}
use Rattle.mapedit.specs.Chaining.{ChainMaking}
use Rattle.moves.specs.Given.{Given}
use Rattle.moves.specs.RunTests.{order_check_tests}
use Rattle.retiming.specs.Retiming.{audit_reply, Retimed}
use Rattle.planner.specs.Planned.{Planned}
use Rattle.planner.specs.Preview.{Previewed}
use Rattle.trunk.specs.Written.{reply_put, part_put, rules_in, figures_in, figures_put}

-- the version of the library: of its calls, the formats that they read and write, and the numbers that they tell
abbrev pub library_version : ℕ
library_version = 2

-- a call that only judges: it writes nothing but what it tells
pub record JudgingCall (tells : Reply) (reply reply' : List ℕ) : Type 0 where
  pub short : length reply < 3 → reply' ≡ reply
  pub told : 3 ≤ length reply → reply' ≡ reply_put reply tells

abbrev pub MapCheckCall : List ℕ → List ℕ → List ℕ → Type 0
MapCheckCall map reply reply' = JudgingCall (first_of (map_tests map) (succeeded 0 0)) reply reply'

-- `junctions` and `roads` are J and R of the map that the order and its list are meant for
abbrev pub OrderCheckCall : List ℕ → List ℕ → ℕ → ℕ → List ℕ → List ℕ → Type 0
OrderCheckCall order bans junctions roads reply reply' =
    JudgingCall (first_of (order_check_tests junctions roads order bans) (succeeded 0 0)) reply reply'

abbrev pub AuditCall : Given → List ℕ → List ℕ → List ℕ → Type 0
AuditCall given sheet reply reply' = JudgingCall (audit_reply given sheet) reply reply'

-- a call that plans: its operation owes this of its answer
pub record PlanningCall (Owes : Result Plan Refusal → Type 0) (words words' sheet sheet' reply reply' : List ℕ) : Type 0 where
  pub short : length reply < 3 → (words' ≡ words) × (sheet' ≡ sheet) × (reply' ≡ reply)
  pub told : 3 ≤ length reply → (answer : Result Plan Refusal) × Owes answer × (reply' ≡ reply_put reply (told_plan answer))

abbrev pub PlanCall : Given → List ℕ → List ℕ → List ℕ → List ℕ → List ℕ → List ℕ → Type 0
PlanCall given words words' sheet sheet' reply reply' =
    PlanningCall (Planned given words words' sheet sheet') words words' sheet sheet' reply reply'

abbrev pub PreviewCall : Given → ℕ → List ℕ → List ℕ → List ℕ → List ℕ → List ℕ → List ℕ → Type 0
PreviewCall given road words words' sheet sheet' reply reply' =
    PlanningCall (Previewed given road words words' sheet sheet') words words' sheet sheet' reply reply'

pub record RetimeCall (given : Given) (sheet out out' reply reply' : List ℕ) : Type 0 where
  pub short : length reply < 3 → (out' ≡ out) × (reply' ≡ reply)
  pub told : 3 ≤ length reply
      → (answer : Result Timed Refusal) × Retimed given sheet out out' answer × (reply' ≡ reply_put reply (told_timing answer))

-- the name's place in the map and its length, 0 and 0 when refused
abbrev pub name_put : List ℕ → ℕ → List ℕ → List ℕ
name_put map junction part =
    pick (eqb (name_reply map junction).number 0)
    (part_put part (name_at map junction) (name_length map junction))
    (part_put part 0 0)

-- a lent part with no room for two numbers is as a reply with no room for three
pub record NameCall (map : List ℕ) (junction : ℕ) (reply reply' part part' : List ℕ) : Type 0 where
  pub short : length reply < 3 → (reply' ≡ reply) × (part' ≡ part)
  pub short_part : length part < 2 → (reply' ≡ reply) × (part' ≡ part)
  pub told : 3 ≤ length reply → 2 ≤ length part
      → (reply' ≡ reply_put reply (name_reply map junction)) × (part' ≡ name_put map junction part)

-- a call that changes a map: its operation owes this of its answer
pub record EditingCall (Owes : Result (Unit {0}) Refusal → Type 0) (map map' reply reply' : List ℕ) : Type 0 where
  pub short : length reply < 3 → (map' ≡ map) × (reply' ≡ reply)
  pub told : 3 ≤ length reply → (answer : Result (Unit {0}) Refusal) × Owes answer × (reply' ≡ reply_put reply (told_check answer))

abbrev pub ChainsCall : List ℕ → List ℕ → List ℕ → List ℕ → Type 0
ChainsCall map map' reply reply' = EditingCall (ChainMaking map map') map map' reply reply'

abbrev pub StrikeCall : List ℕ → ℕ → List ℕ → List ℕ → List ℕ → Type 0
StrikeCall map road map' reply reply' = EditingCall (Striking map road map') map map' reply reply'

-- the lent figures afterwards: up to date where the trace is accepted; a refused one leaves every word
abbrev pub figures_left : Reply → List ℕ → Figures → List ℕ
figures_left reply figures after = pick (eqb reply.number 0) (figures_put figures after) figures

-- lent rules of fewer than eight words, or figures of fewer than four, are as a reply with no room for three
pub record ReplayCall (trace rules figures figures' reply reply' : List ℕ) : Type 0 where
  pub short : length reply < 3 → (figures' ≡ figures) × (reply' ≡ reply)
  pub short_rules : length rules < 8 → (figures' ≡ figures) × (reply' ≡ reply)
  pub short_figures : length figures < 4 → (figures' ≡ figures) × (reply' ≡ reply)
  pub told : 3 ≤ length reply → 8 ≤ length rules → 4 ≤ length figures
      → (answer : Result ℕ Refusal) × (after : Figures) × Replayed trace (rules_in rules) (figures_in figures) after answer
      × (figures' ≡ figures_left (told_replaying answer) figures after) × (reply' ≡ reply_put reply (told_replaying answer))
