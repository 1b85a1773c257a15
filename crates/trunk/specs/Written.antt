-- Where a caller of the library finds the reply, the place of a name, rules and figures. Assumes nothing.
use Rattle.std.specs.Prelude.{Bool, true, false, not, List, ℕ, eqb, get_or, set}
use Rattle.replies.specs.declared.Reply.{Reply}
use Rattle.driving.specs.declared.Figures.{Figures}
use Rattle.driving.specs.declared.Rules.{Rules}
use Rattle.driving.specs.Order.{rules_of}

-- number, place, arrival; the numbers after them stay
abbrev pub reply_put : List ℕ → Reply → List ℕ
reply_put lent reply = set (set (set lent 0 reply.number) 1 reply.place) 2 reply.arrival

-- a part of the map: where it starts, how long it is; the numbers after them stay
abbrev pub part_put : List ℕ → ℕ → ℕ → List ℕ
part_put lent from letters = set (set lent 0 from) 1 letters

-- rules, as words 6 to 13 of an order; the words after them are not read
abbrev pub rules_in : List ℕ → Rules
rules_in words =
    rules_of (get_or words 0 0) (get_or words 1 0) (get_or words 2 0) (get_or words 3 0) (get_or words 4 0) (get_or words 5 0) (get_or words 6 0) (get_or words 7 0)

-- figures: spell, shift, week, and the mark, which any number but 0 stands for; the words after them are not read
abbrev pub figures_in : List ℕ → Figures
figures_in words =
    record {
      spell = record { 0 = get_or words 0 0 };
      shift = record { 0 = get_or words 1 0 };
      week = record { 0 = get_or words 2 0 };
      marked = not (eqb (get_or words 3 0) 0);
    }

abbrev pub mark_word : Bool → ℕ
mark_word true = 1
mark_word false = 0

-- the same written; the words after them stay
abbrev pub figures_put : List ℕ → Figures → List ℕ
figures_put words f = set (set (set (set words 0 f.spell.0) 1 f.shift.0) 2 f.week.0) 3 (mark_word f.marked)
