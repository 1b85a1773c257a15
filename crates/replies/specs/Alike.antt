-- Two replies told alike, as a test that worked cases compute. Assumes nothing.
use Rattle.std.specs.Prelude.{Bool, ◌&&◌, eqb}
use Rattle.replies.specs.declared.Reply.{Reply}

abbrev pub same_reply : Reply → Reply → Bool
same_reply a b = eqb a.number b.number && (eqb a.place b.place && eqb a.arrival b.arrival)
