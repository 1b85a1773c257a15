-- The label space: how many labels a lent run of words holds. Document 01, "Labels", and document 02, P5 and P7. Assumes nothing.
use Rattle.std.specs.Prelude.{ℕ, ◌/◌, min}

-- ten words make one label
abbrev pub label_words : ℕ
label_words = 10

abbrev pub most_labels : ℕ
most_labels = 1000000

-- the labels that fit are the smaller of 1,000,000 and the whole labels in the run
abbrev pub labels_that_fit : ℕ → ℕ
labels_that_fit words = min most_labels (words / label_words)
