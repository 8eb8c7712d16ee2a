-- The starting words: one more, how many they are, and that each fits its bytes.
use Prim.Native.Nat.{ℕ, ◌^◌, ◌<◌}
use mathlib.Core.Path.{◌≡◌, refl, ◌∙◌}
use mathlib.Core.Logic.{◌≢◌}
use mathlib.Core.List.{List, [], ◌∷◌, ◌++◌}
use native.Mathlib.Decide.{ℕ_discrete}
use native.Mathlib.Omega.{arith}
use lib.ListN.{length, set, replicate, get_or, length-set, length-replicate, get_or-replicate}
use lib.Seq.{set_out, get_or-set_same, get_or-set_other}
use Rattle.lists.specs.Search.{All, nil, cons}
use Rattle.lists.proofs.Tests.{by_cases, below-cases}
use Rattle.trace.specs.Item.{Word}
use Rattle.trace.specs.Contents.{put_words, start_words}
use Rattle.trace.specs.Inner.Ranges.{WordBytes}

put-words-more : (memory : List ℕ) (ws : List Word) (w : Word) → put_words memory (ws ++ (w ∷ [])) ≡ set (put_words memory ws) w.address w.value
unfolding put_words
put-words-more memory [] w = refl
put-words-more memory (v ∷ ws) w = put-words-more (set memory v.address v.value) ws w

pub start-words-more : (ws : List Word) (w : Word) → start_words (ws ++ (w ∷ [])) ≡ set (start_words ws) w.address w.value
unfolding start_words
start-words-more ws w = put-words-more (replicate 256 0) ws w

-- there are 256
put-length : (ws : List Word) (memory : List ℕ) → length (put_words memory ws) ≡ length memory
unfolding put_words
put-length [] memory = refl
put-length (w ∷ ws) memory = put-length ws (set memory w.address w.value) ∙ length-set memory w.address w.value

pub start-length : (ws : List Word) → length (start_words ws) ≡ 256
unfolding start_words
start-length ws = put-length ws (replicate 256 0) ∙ length-replicate {A = ℕ} 256 0

-- each fits its bytes, as the word records do
set-low : (memory : List ℕ) (i v a n : ℕ) → v < n → get_or memory a 0 < n → get_or (set memory i v) a 0 < n
set-low memory i v a n low h = by_cases (ℕ_discrete a i)
    (λ (e : a ≡ i). below-cases i (length memory) (λ inside. rw (e, get_or-set_same) low) (λ outside. rw set_out h))
    (λ (d : a ≢ i). rw get_or-set_other h)

put_low : {ws : List Word} → All WordBytes ws → (memory : List ℕ) (a : ℕ) → get_or memory a 0 < 2 ^ 64 → get_or (put_words memory ws) a 0 < 2 ^ 64
unfolding put_words
put_low nil memory a h = h
put_low (cons {x = w} b bs) memory a h =
    put_low bs (set memory w.address w.value) a (set-low memory w.address w.value a (2 ^ 64) b.value_low h)

pub start-low : {ws : List Word} → All WordBytes ws → (a : ℕ) → a < 256 → get_or (start_words ws) a 0 < 2 ^ 64
unfolding start_words
start-low fit a l = put_low fit (replicate 256 0) a (omega (arith, get_or-replicate {A = ℕ} 256 a 0 0 l))
