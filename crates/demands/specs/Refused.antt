-- Which refusal a reply tells. Document 01, "Replies". Assumes nothing.
use Rattle.std.specs.Prelude.{◌≡◌, List, ◌∷◌, ◌++◌, ◌↔◌, ℕ, ◌≤◌}
use Rattle.std.proofs.Math.Option.{some}
use Rattle.replies.specs.declared.Reply.{Reply}
use Rattle.replies.specs.First.{Test, ◌at◌, NoneFits}
use Rattle.replies.specs.Told.{refused_at}

-- refusal k of the list fits with this place, and none before it in the list fits
pub record FirstToFit (tests : List Test) (k place : ℕ) : Type 0 where
  pub before : List Test
  pub after : List Test
  pub listed : tests ≡ before ++ (k at some place) ∷ after
  pub none_before : NoneFits before

-- a reply by a list of refusals in order: each refusal is told exactly when it is the first to fit, and none is exactly when none fits
pub record RepliesBy (tests : List Test) (reply : Reply) : Type 0 where
  pub refuses : (k place : ℕ) → 1 ≤ k → (reply ≡ refused_at k place) ↔ FirstToFit tests k place
  pub succeeds : (reply.number ≡ 0) ↔ NoneFits tests
