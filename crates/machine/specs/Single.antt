-- Requests run singly, one after another, and the value that each one reads.
use Rattle.std.specs.Prelude.{ℕ, List, [], ◌∷◌}
use Rattle.lists.specs.Table.{update}
use Rattle.machine.specs.Setup.{Setup, Reply}

module _ (S : Setup) where
  open S use {Word, apply, address_of, operation_of}

  -- the words after the request t alone: "return the old value, store f(old)"
  unfoldable pub run_one : ℕ → (ℕ → Word) → ℕ → Word
  run_one t words = update words (address_of t) (apply (operation_of t) (words (address_of t)))

  unfoldable pub run_singly : List ℕ → (ℕ → Word) → ℕ → Word
  run_singly [] words = words
  run_singly (t ∷ ts) words = run_singly ts (run_one t words)

  -- what each of them reads, in their order
  unfoldable pub reads : List ℕ → (ℕ → Word) → List (Reply S)
  reads [] words = []
  reads (t ∷ ts) words = record { tag = t; value = words (address_of t) } ∷ reads ts (run_one t words)
