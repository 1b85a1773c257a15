-- What a replay tells and leaves, by its contract alone; and of two in turn. Assumes nothing.
use mathlib.Core.Path.{◌≡◌, ◌∙◌, sym, ap}
use mathlib.Core.List.{List, ◌++◌}
use mathlib.Core.Option.{none}
use Prim.Native.Nat.{ℕ}
use lib.Dec.{T}
use Rattle.std.specs.Prelude.{Result}
use Rattle.replies.specs.declared.Refusal.{Refusal}
use Rattle.replies.specs.declared.Reply.{Reply}
use Rattle.replies.specs.First.{NoneFits}
use Rattle.replies.specs.Told.{succeeded, told_replaying}
use Rattle.replies.proofs.First.{none_fitted, none_at_all}
use Rattle.driving.specs.declared.Figures.{Figures}
use Rattle.driving.specs.declared.Rules.{Rules}
use Rattle.driving.specs.Order.{bad_figures}
use Rattle.driving.proofs.Accepted.{sound_figures_pass}
use Rattle.replay.specs.Trace.{record_count, records_of}
use Rattle.replay.specs.Replay.{up_to_date, torn_trace, replay_tests, replay_reply, figures_after, Replayed}
use Rattle.replay.specs.InTurn.{none_goes_on, behind}
use Rattle.replay.proofs.Replays.{figures_accepted}
use Rattle.replay.proofs.Accepted.{leaves_sound}
use Rattle.replay.proofs.Followed.{reply_both, figures_after_both, reply_first}

abbrev number : Reply → ℕ
number r = r.number

module _ {trace : List ℕ} {rules : Rules} {before after : Figures} {answer : Result ℕ Refusal} (replayed : Replayed trace rules before after answer) where
  module _ (done : (told_replaying answer).number ≡ 0) where
    done_reply : (replay_reply trace rules before).number ≡ 0
    done_reply = sym (ap number replayed.reply) ∙ done

    passed : NoneFits (replay_tests trace rules before)
    passed = none_fitted (replay_tests trace rules before) (succeeded (record_count trace) 0) tt done_reply

    pub told_accepted : told_replaying answer ≡ succeeded (record_count trace) 0
    told_accepted = replayed.reply ∙ none_at_all (replay_tests trace rules before) (succeeded (record_count trace) 0) passed

    pub left_accepted : after ≡ up_to_date rules (records_of trace) before
    left_accepted = replayed.figures ∙ figures_accepted trace rules before done_reply

    pub sound_left : bad_figures after rules ≡ none
    sound_left = ap (λ (f : Figures). bad_figures f rules) left_accepted ∙ sound_figures_pass (up_to_date rules (records_of trace) before) rules (leaves_sound trace rules before passed)

module _ {one two : List ℕ} {rules : Rules} {before between after after_both : Figures} {first second both : Result ℕ Refusal}
    (replayed-one : Replayed one rules before between first) (replayed-two : Replayed two rules between after second) (replayed-both : Replayed (one ++ two) rules before after_both both)
    (done : (told_replaying first).number ≡ 0) (apart : T (none_goes_on (records_of one) (records_of two))) where
  pub told_in_turn : told_replaying both ≡ behind one (told_replaying second)
  told_in_turn =
      replayed-both.reply ∙ reply_both one two rules before (passed replayed-one done) apart
      ∙ ap (behind one) (ap (replay_reply two rules) (sym (left_accepted replayed-one done)) ∙ sym replayed-two.reply)

  pub left_in_turn : (told_replaying second).number ≡ 0 → after_both ≡ after
  left_in_turn done-two =
      let at_between : (replay_reply two rules (up_to_date rules (records_of one) before)).number ≡ 0 =
      ap (λ (f : Figures). (replay_reply two rules f).number) (sym (left_accepted replayed-one done)) ∙ done_reply replayed-two done-two in
      replayed-both.figures ∙ figures_after_both one two rules before (passed replayed-one done) apart at_between
      ∙ ap (figures_after two rules) (sym (left_accepted replayed-one done)) ∙ sym replayed-two.figures

pub told_first : {one : List ℕ} (two : List ℕ) {rules : Rules} {before between after_both : Figures} {first both : Result ℕ Refusal} → Replayed one rules before between first → Replayed (one ++ two) rules before after_both both →
    ¬ ((told_replaying first).number ≡ 0) → torn_trace one ≡ none → torn_trace two ≡ none → told_replaying both ≡ told_replaying first
told_first {one} two {rules} {before} replayed-one replayed-both refused untorn-one untorn-two =
    replayed-both.reply ∙ sym (reply_first one two rules before untorn-one untorn-two (λ e. refused (ap number replayed-one.reply ∙ e))) ∙ sym replayed-one.reply
