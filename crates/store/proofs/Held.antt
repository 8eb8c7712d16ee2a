-- How a queue's word and its length are read: as tags, but at level 0 of the requests as the engine's next request alone.
use Prim.Native.Nat.{ℕ, ◌<◌}
use mathlib.Core.Path.{◌≡◌, refl, sym, ap, ◌∙◌}
use mathlib.Core.List.{List, [], ◌∷◌}
use native.Mathlib.Omega.{arith}
use borrow.Author.Tests.{ne_eqb, eqb-true}
use lib.Dec.{eqb}
use lib.ListN.{length, get_or}
use Rattle.lists.specs.Choice.{choose}
use Rattle.lists.specs.Table.{down_from}
use Rattle.lists.proofs.Tests.{test-cases, eqb-cases, choose_no}
use Rattle.lists.proofs.Below.{length-down}
use Rattle.words.specs.Inner.Digits.{byte_in}
use Rattle.queue.specs.Inner.Queue.{tags_in}
use Rattle.store.specs.Inner.Layout.{at_request_lengths, at_requests}
use Rattle.store.specs.Inner.Memory.{grid_at, lengths_at, on_grid, next_at, requests_at}
use Rattle.store.proofs.Grid.{grid-same}

-- by level, word and length
abbrev pub Reading : Type 0
Reading = ℕ → ℕ → ℕ → List ℕ

abbrev pub as_tags : Reading
as_tags level word n = tags_in word n

abbrev pub alone : ℕ → ℕ → List ℕ
alone word n = choose (eqb n 0) [] (byte_in word 0 ∷ [])

abbrev pub as_requests : Reading
as_requests level word n = choose (eqb level 0) (alone word n) (tags_in word n)

-- the queues of a grid of words and of rows of lengths; `queues_at` is this of `as_tags`
abbrev pub held_at : Reading → ℕ → ℕ → List ℕ → ℕ → ℕ → List ℕ
held_at read lengths from m = on_grid (λ level position. read level (grid_at from m level position) (lengths_at lengths m level position))

pub requests-held : (m : List ℕ) → requests_at m ≡ held_at as_requests at_request_lengths at_requests m
requests-held m =
    grid-same _ _ (λ s p a b.
    let word = grid_at at_requests m s p in
    let n = lengths_at at_request_lengths m s p in
    eqb-cases (λ c. choose c (next_at m p) (tags_in word n) ≡ choose c (alone word n) (tags_in word n)) s 0 (λ e. rw e) (λ _. refl))

-- ---- what a reading says

pub requests-above : {level : ℕ} → 0 < level → (word n : ℕ) → as_requests level word n ≡ tags_in word n
requests-above {level} a word n = choose_no _ _ (ne_eqb level 0 (omega arith))

-- nothing is there just where the length is 0
pub record Told (read : Reading) : Type 0 where
  pub none : (level word : ℕ) → read level word 0 ≡ []
  pub short : (level word n : ℕ) → read level word n ≡ [] → n ≡ 0

pub tags-told : Told as_tags
unfolding down_from
tags-told = record { none = λ level word. refl; short = λ level word n e. sym (length-down n (byte_in word)) ∙ ap length e }

pub alone-none : (word n : ℕ) → eqb (length (alone word n)) 0 ≡ eqb n 0
alone-none word n = test-cases (λ b. eqb (length (choose b [] (byte_in word 0 ∷ []))) 0 ≡ b) (eqb n 0) (λ _. refl) (λ _. refl)

pub alone-first : (word n : ℕ) → 0 < length (alone word n) → get_or (alone word n) 0 0 ≡ byte_in word 0
alone-first word n =
    test-cases (λ b. 0 < length (choose b [] (byte_in word 0 ∷ [])) → get_or (choose b [] (byte_in word 0 ∷ [])) 0 0 ≡ byte_in word 0) (eqb n 0)
    (λ _ h. absurd (omega arith)) (λ _ _. refl)

pub requests-none : (level word n : ℕ) → eqb (length (as_requests level word n)) 0 ≡ eqb n 0
requests-none level word n =
    test-cases (λ b. eqb (length (choose b (alone word n) (tags_in word n))) 0 ≡ eqb n 0) (eqb level 0)
    (λ _. alone-none word n) (λ _. ap (λ (k : ℕ). eqb k 0) (length-down n (byte_in word)))

pub requests-told : Told as_requests
unfolding down_from
requests-told = record {
  none = λ level word. test-cases (λ b. choose b (alone word 0) (tags_in word 0) ≡ []) (eqb level 0) (λ _. refl) (λ _. refl);
  short = λ level word n e. eqb-true n 0 (sym (requests-none level word n) ∙ ap (λ (l : List ℕ). eqb (length l) 0) e);
}
