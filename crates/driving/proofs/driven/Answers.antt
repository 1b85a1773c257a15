use Rattle.std.proofs.Common.{arith}
use Rattle.theory.proofs.Figures.{above_head, above_tail}
use Rattle.driving.proofs.driven.Goals as goal

pub overflow_add-result : goal.overflow_add-result
overflow_add-result c = omega (arith, above_head _ _ _ _ c.requires.0, c.requires.1)

pub overflow_add-result-2 : goal.overflow_add-result-2
overflow_add-result-2 c = omega (arith, above_head _ _ _ _ (above_tail _ _ _ _ c.requires.0), c.requires.1)

pub overflow_add-result-3 : goal.overflow_add-result-3
overflow_add-result-3 c =
    omega (arith, above_head _ _ _ _ (above_tail _ _ _ _ (above_tail _ _ _ _ c.requires.0)), c.requires.1)
