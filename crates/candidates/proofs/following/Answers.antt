use Rattle.std.proofs.Common.{◌≡◌, sym, ◌+◌, ◌-◌, ◌≤◌, ◌<◌, arith}
use Rattle.roadmap.specs.Format.{next_road}
use Rattle.driving.specs.Hours.{last_pause}
use Rattle.driving.specs.Pauses.{pause_number}
use Rattle.candidates.proofs.Searched.{tied, roads}
use Rattle.candidates.proofs.Roads.{next_road_lem, no_next_road, not_last, pause_next, past_parts, pause_last}
use Rattle.candidates.proofs.following.Goals.{in_default-pause_under-via-in-Rest+else-not-has_split, in_default-pause_under-via-in_default-pause_under}
use Rattle.candidates.proofs.following.Goals as goal

pub returns-in-0 : goal.returns-in-0
returns-in-0 c =
    let road : c.next_road.result ≡ next_road c.args.run.now.map.now c.args.cursor = rw (← c.road_map-map.ensures.bytes) c.next_road.ensures in
    let few : c.args.cursor ≤ c.args.run.now.about.sizes.roads = rw c.road_map-map.ensures.sizes at c.if-cursor-map.true in
    no_next_road c.args.run.now c.requires.worth few (omega (arith, road, c.in-0.is)) c.first_pause.ensures

pub returns-in_default : goal.returns-in_default
returns-in_default c =
    let road : c.next_road.result ≡ next_road c.args.run.now.map.now c.args.cursor = rw (← c.road_map-map.ensures.bytes) c.next_road.ensures in
    let few : c.args.cursor ≤ c.args.run.now.about.sizes.roads = rw c.road_map-map.ensures.sizes at c.if-cursor-map.true in
    rw road (next_road_lem c.args.run.now c.requires.worth few (omega (arith, road, c.in_default)))

pub pause_under-requires : goal.pause_under-requires
pause_under-requires c = (c.if-cursor-map.false, rw c.road_map-map.ensures.sizes (omega (arith, c.requires.worth.high, roads c.args.run.now)))

pub returns-in-WeeklyRest : goal.returns-in-WeeklyRest
returns-in-WeeklyRest c =
    let kind : 6 ≡ c.args.cursor - c.args.run.now.about.sizes.roads + 1 = rw (← c.road_map-map.ensures.sizes) (c.in-WeeklyRest.ensures) in
    pause_last c.requires.worth (omega (arith, kind, roads c.args.run.now)) (omega (arith, kind, roads c.args.run.now))

-- without a split
pub returns-in-Rest : goal.returns-in-Rest
returns-in-Rest c =
    let kind : 3 ≡ c.args.cursor - c.args.run.now.about.sizes.roads + 1 = rw (← c.road_map-map.ensures.sizes) (c.in-Rest.ensures) in
    past_parts c.requires.worth (omega (arith, kind, roads c.args.run.now)) (omega (arith, kind, roads c.args.run.now))
    (rw (tied c.args.run.now).order (sym (c.if-not-has_split.ensures)))

pub returns-in_default-pause_under : goal.returns-in_default-pause_under
returns-in_default-pause_under c =
    let more : c.args.run.now.about.sizes.roads < c.args.cursor = rw c.road_map-map.ensures.sizes at c.if-cursor-map.false in
    let kind : pause_number c.pause_under.result < last_pause =
    elim c.in_default-pause_under.branch [
      | in_default-pause_under-via-in-Rest+else-not-has_split w ↦ rw w.in-Rest.is (omega arith)
      | in_default-pause_under-via-in_default-pause_under w ↦ not_last _ w.in_default-pause_under.not-WeeklyRest
    ]
    in
    let next : c.args.cursor - c.args.run.now.about.sizes.roads + 1 < last_pause = rw (c.pause_under.ensures, c.road_map-map.ensures.sizes) at kind in
    pause_next c.requires.worth (omega (arith, more, roads c.args.run.now)) (omega (arith, more, next, roads c.args.run.now))
