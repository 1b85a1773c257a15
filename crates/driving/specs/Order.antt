-- The order: its fifteen words, the rules that they keep, and the refusals 9 to 11. Assumes nothing.
use Rattle.std.specs.Prelude.{ℕ, ◌*◌, Bool, true, false, not, ◌||◌, List, [], ◌∷◌, ◌++◌, leb, eqb, length}
use Rattle.std.proofs.Math.Option.{Option, none, some}
use Rattle.words.specs.Word.{word_at}
use Rattle.replies.specs.First.{Test, ◌at◌, placed}
use Rattle.driving.specs.declared.Order.{Order}
use Rattle.driving.specs.declared.Figures.{Figures}
use Rattle.driving.specs.declared.Rules.{Rules}
use Rattle.driving.specs.Hours.{has_split}

-- spell limit, break, shift limit, rest, first part, second part, week limit, weekly rest
abbrev pub rules_of : ℕ → ℕ → ℕ → ℕ → ℕ → ℕ → ℕ → ℕ → Rules
rules_of spell break shift rest first second week weekly =
    record {
      spell_limit = record { 0 = spell };
      break_time = record { 0 = break };
      shift_limit = record { 0 = shift };
      rest_time = record { 0 = rest };
      first_part = record { 0 = first };
      second_part = record { 0 = second };
      week_limit = record { 0 = week };
      weekly_rest = record { 0 = weekly };
    }

-- the European figures
abbrev pub european_rules : Rules
european_rules = rules_of 16200 2700 32400 39600 900 1800 201600 162000

-- the bytes of an order
abbrev pub order_bytes : ℕ
order_bytes = 60

-- word k of an order
abbrev pub order_word : List ℕ → ℕ → ℕ
order_word bytes k = word_at bytes (4 * k)

-- 0 source, 1 target, 2 departure, 3 latest arrival, 4 spell, 5 shift, 6 spell limit, 7 break, 8 shift limit, 9 rest,
-- 10 first part, 11 second part, 12 week limit, 13 weekly rest, 14 week; the start carries no mark
abbrev pub order_of : List ℕ → Order
order_of bytes =
    record {
      source = order_word bytes 0;
      target = order_word bytes 1;
      departure = record { 0 = order_word bytes 2 };
      latest = record { 0 = order_word bytes 3 };
      figures =
          record {
            spell = record { 0 = order_word bytes 4 };
            shift = record { 0 = order_word bytes 5 };
            week = record { 0 = order_word bytes 14 };
            marked = false;
          };
      rules =
          rules_of (order_word bytes 6) (order_word bytes 7) (order_word bytes 8) (order_word bytes 9) (order_word bytes 10) (order_word bytes 11) (order_word bytes 12) (order_word bytes 13);
    }

-- A rule is one ≤ sign: the word that it is charged to, and whether it is kept. A rule on one word is charged to that word, and one
-- between two words to the later, but a starting figure above its limit is charged itself.
pub record Rule : Type 0 where
  pub word : ℕ
  pub kept : Bool

infixr 40 ◌charged◌
abbrev pub ◌charged◌ : ℕ → Bool → Rule
word charged kept = record { word = word; kept = kept }

-- the word of the first rule of the list that is broken; the lists below rise by word, so it is the lowest word charged
unfoldable pub first_broken : List Rule → Option ℕ
first_broken [] = none
first_broken (r ∷ rs) = elim r.kept [ true ↦ first_broken rs | false ↦ some r.word ]

-- both parts zero means no split; otherwise a part is at least 1
abbrev pub part_taken : Rules → ℕ → Bool
part_taken r part = not (has_split r) || leb 1 part

-- words 6 to 13: 1 ≤ spell limit ≤ shift limit ≤ 1,000,000 and 1 ≤ break ≤ rest ≤ 1,000,000; with a split each part is 1 up to the break,
-- and a lone zero is charged itself; shift limit ≤ week limit ≤ 1,000,000 and rest ≤ weekly rest ≤ 1,000,000
abbrev pub limit_rules : Rules → List Rule
limit_rules r =
    (6 charged leb 1 r.spell_limit.0)
    ∷ (7 charged leb 1 r.break_time.0)
    ∷ (8 charged leb r.spell_limit.0 r.shift_limit.0)
    ∷ (8 charged leb r.shift_limit.0 1000000)
    ∷ (9 charged leb r.break_time.0 r.rest_time.0)
    ∷ (9 charged leb r.rest_time.0 1000000)
    ∷ (10 charged part_taken r r.first_part.0)
    ∷ (10 charged leb r.first_part.0 r.break_time.0)
    ∷ (11 charged part_taken r r.second_part.0)
    ∷ (11 charged leb r.second_part.0 r.break_time.0)
    ∷ (12 charged leb r.shift_limit.0 r.week_limit.0)
    ∷ (12 charged leb r.week_limit.0 1000000)
    ∷ (13 charged leb r.rest_time.0 r.weekly_rest.0)
    ∷ (13 charged leb r.weekly_rest.0 1000000)
    ∷ []

-- words 0 to 3: source and target are 1 to J, and departure ≤ latest ≤ 2,000,000,000
abbrev pub end_rules : ℕ → Order → List Rule
end_rules junctions o =
    (0 charged leb 1 o.source)
    ∷ (0 charged leb o.source junctions)
    ∷ (1 charged leb 1 o.target)
    ∷ (1 charged leb o.target junctions)
    ∷ (3 charged leb o.departure.0 o.latest.0)
    ∷ (3 charged leb o.latest.0 2000000000)
    ∷ []

-- words 4, 5 and 14: spell is at most its limit and at most shift, shift at most its limit and at most week, and week at most its limit
abbrev pub figure_rules : Figures → Rules → List Rule
figure_rules f r =
    (4 charged leb f.spell.0 r.spell_limit.0)
    ∷ (5 charged leb f.spell.0 f.shift.0)
    ∷ (5 charged leb f.shift.0 r.shift_limit.0)
    ∷ (14 charged leb f.shift.0 f.week.0)
    ∷ (14 charged leb f.week.0 r.week_limit.0)
    ∷ []

-- refusal 9, bad order: not 60 bytes
abbrev pub bad_order : List ℕ → Option ℕ
bad_order bytes = placed (not (eqb (length bytes) order_bytes)) (length bytes)

-- refusal 10, bad rules: words 6 to 13
unfoldable pub bad_rules : Rules → Option ℕ
bad_rules r = first_broken (limit_rules r)

-- refusal 11 for words 0 to 3 alone
unfoldable pub bad_ends : ℕ → Order → Option ℕ
bad_ends junctions o = first_broken (end_rules junctions o)

-- refusal 11 for words 4, 5 and 14 alone
unfoldable pub bad_figures : Figures → Rules → Option ℕ
bad_figures f r = first_broken (figure_rules f r)

-- refusal 11, bad trip: words 0 to 5, then 14
unfoldable pub bad_trip : ℕ → Order → Option ℕ
bad_trip junctions o = first_broken (end_rules junctions o ++ figure_rules o.figures o.rules)

-- the order check
abbrev pub order_tests : ℕ → List ℕ → List Test
order_tests junctions bytes =
    (9 at bad_order bytes)
    ∷ (10 at bad_rules (order_of bytes).rules)
    ∷ (11 at bad_trip junctions (order_of bytes))
    ∷ []
