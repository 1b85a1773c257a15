-- The ten stores are those of `puts`, one after another.
use Rattle.std.proofs.Common.{refl}
use Rattle.labels.specs.LabelWords.{puts}
use Rattle.labels.proofs.store.Goals as goal

pub returns : goal.returns
unfolding puts
returns c = rw (c.unmarked-unmarked.ensures, c.cursor_word-cursor.ensures) refl
