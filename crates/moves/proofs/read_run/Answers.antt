use Rattle.std.proofs.Common.{List, ℕ, ◌≡◌, refl, arith, Ok, Err}
use Rattle.std.specs.Prelude.{Result, None}
use Rattle.std.proofs.lemmas.Result.{err_from_is_err_and}
use Rattle.replies.specs.declared.Refusal.{Refusal}
use Rattle.replies.specs.First.{first_of, NoneFits, Tried}
use Rattle.replies.specs.Told.{succeeded, told_check}
use Rattle.replies.proofs.First.{tried, refuses_more, refuses_after, none_of_both, none_under}
use Rattle.roadmap.specs.declared.Sizes.{Sizes}
use Rattle.roadmap.specs.Format.{junction_count, road_count, name_bytes}
use Rattle.mapcheck.specs.MapCheck.{map_tests}
use Rattle.mapcheck.proofs.Tried.{map_tried, accepted_sizes, has_header, has_sizes}
use Rattle.driving.specs.Order.{order_of, order_tests}
use Rattle.driving.proofs.Accepted.{order_length_lem, order_accepted}
use Rattle.bans.proofs.Accepted.{none_listed}
use Rattle.moves.specs.Runs.{Accepted}
use Rattle.moves.proofs.read_run.Goals as goal

-- the order check, by the counts that are read from the map
order_tried : (map order : List ℕ) (junctions : ℕ) (answer : Result (Unit {0}) Refusal) → junctions ≡ junction_count map
    → told_check answer ≡ first_of (order_tests junctions order) (succeeded 0 0) → Tried (order_tests (junction_count map) order) answer
order_tried map order junctions answer is told = rw (← is) (tried (order_tests junctions order) answer tt told)

-- what passes both is accepted, with no road struck
accepted_run : (map order : List ℕ) (sizes : Sizes) → NoneFits (map_tests map) → NoneFits (order_tests (junction_count map) order)
    → (sizes.junctions ≡ junction_count map) × (sizes.roads ≡ road_count map) × (sizes.names ≡ name_bytes map)
    → Accepted map (record { sizes = sizes; order = order_of order; struck = None })
accepted_run map order sizes mapped ordered read =
    record {
      sized = has_sizes map sizes (accepted_sizes map mapped) read;
      mapped = mapped;
      ordered = order_accepted (junction_count map) order ordered;
      known = omega arith;
    }

pub returns-in_err-check_map : goal.returns-in_err-check_map
returns-in_err-check_map c =
    let map = c.args.map.now in
    let p = err_from_is_err_and c.from_residual.result c.from_residual.ensures.1 in
    rw (p.1, p.2)
    (refuses_more (map_tests map) (order_tests (junction_count map) c.args.order.now) c.in_err-check_map.field-0.0
    (map_tried map (Err c.in_err-check_map.field-0.0) c.in_err-check_map.ensures))

pub sizes_of-sizes-requires : goal.sizes_of-sizes-requires
sizes_of-sizes-requires c =
    let map = c.args.map.now in has_header map (accepted_sizes map (map_tried map (Ok tt) c.in_ok-check_map.ensures))

pub returns-in_err-check_order : goal.returns-in_err-check_order
returns-in_err-check_order c =
    let map = c.args.map.now in
    let why = c.in_err-check_order.field-0.0 in
    let p = err_from_is_err_and c.from_residual-in_err-check_order.result c.from_residual-in_err-check_order.ensures.1 in
    rw (p.1, p.2)
    (refuses_after (map_tests map) (order_tests (junction_count map) c.args.order.now) why
    (map_tried map (Ok tt) c.in_ok-check_map.ensures)
    (order_tried map c.args.order.now c.sizes_of-sizes.result.junctions (Err why) c.sizes_of-sizes.ensures.0 c.in_err-check_order.ensures))

pub read_order-requires : goal.read_order-requires
read_order-requires c =
    let map = c.args.map.now in
    let order = c.args.order.now in
    order_length_lem order
    (none_under 9 (order_tests (junction_count map) order)
    (order_tried map order c.sizes_of-sizes.result.junctions (Ok tt) c.sizes_of-sizes.ensures.0 c.in_ok-check_order.ensures))

pub invariant_of-result : goal.invariant_of-result
invariant_of-result c =
    let map = c.args.map.now in
    let ordered = order_tried map c.args.order.now c.sizes_of-sizes.result.junctions (Ok tt) c.sizes_of-sizes.ensures.0 c.in_ok-check_order.ensures in
    record {
      accepted = rw c.read_order.ensures
          (accepted_run map c.args.order.now c.sizes_of-sizes.result (map_tried map (Ok tt) c.in_ok-check_map.ensures) ordered c.sizes_of-sizes.ensures);
      listed = none_listed (road_count map);
    }

pub returns : goal.returns
returns c =
    let map = c.args.map.now in
    let order = c.args.order.now in
    let mapped = map_tried map (Ok tt) c.in_ok-check_map.ensures in
    let ordered = order_tried map order c.sizes_of-sizes.result.junctions (Ok tt) c.sizes_of-sizes.ensures.0 c.in_ok-check_order.ensures in (
      record {
        accepted = rw c.read_order.ensures (accepted_run map order c.sizes_of-sizes.result mapped ordered c.sizes_of-sizes.ensures);
        none_struck = refl;
      },
      c.read_order.ensures,
      none_of_both (map_tests map) (order_tests (junction_count map) order) mapped ordered,
      refl,
    )
