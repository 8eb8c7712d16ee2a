-- Laws of requests run singly: of two lists one after another, and of a list of requests to one word.
use Prim.Native.Nat.{ℕ}
use mathlib.Core.Path.{◌≡◌, refl, ◌∙◌, ap}
use mathlib.Core.Logic.{◌≢◌, ◌⊎◌, inl, inr}
use mathlib.Core.List.Memᴰ
use mathlib.Core.List.{List, [], ◌∷◌, ◌++◌, Memᴰ}
use Rattle.lists.specs.Search.{All, nil, cons}
use Rattle.lists.proofs.Tables.{update_same, update_other}
use Rattle.machine.specs.Setup.{Setup, Reply}
use Rattle.machine.specs.Single.{run_one, run_singly, reads}
use Rattle.machine.proofs.Tags.{reply_tag}
use Rattle.machine.proofs.Served.{run_on, reads_on}

module _ (S : Setup) where
  open S use {Word, apply, address_of, operation_of}

  pub singly-append : (words : ℕ → Word) (xs ys : List ℕ) → run_singly S (xs ++ ys) words ≡ run_singly S ys (run_singly S xs words)
  unfolding run_singly
  singly-append words [] ys = refl
  singly-append words (t ∷ xs) ys = singly-append (run_one S t words) xs ys

  pub reads-append : (words : ℕ → Word) (xs ys : List ℕ) → reads S (xs ++ ys) words ≡ reads S xs words ++ reads S ys (run_singly S xs words)
  unfolding run_singly reads
  reads-append words [] ys = refl
  reads-append words (t ∷ xs) ys = ap (λ (l : List (Reply S)). record { tag = t; value = words (address_of t) } ∷ l) (reads-append (run_one S t words) xs ys)

  -- whoever reads is in the list
  pub reads-member : (r : Reply S) (xs : List ℕ) (words : ℕ → Word) → Memᴰ r (reads S xs words) → Memᴰ r.tag xs
  unfolding reads
  reads-member r [] words h = absurd (Memᴰ.not-nil h)
  reads-member r (t ∷ xs) words h = go (Memᴰ.cases_cons h) (reads-member r xs (run_one S t words))
    where
      go : (r ≡ record { tag = t; value = words (address_of t) }) ⊎ Memᴰ r (reads S xs (run_one S t words))
          → (Memᴰ r (reads S xs (run_one S t words)) → Memᴰ r.tag xs) → Memᴰ r.tag (t ∷ xs)
      go (inl e) f = Memᴰ.head (ap (reply_tag S) e)
      go (inr m) f = Memᴰ.tail (f m)

  -- ---- requests to one word
  module _ (a : ℕ) where
    one_at : (words : ℕ → Word) (t : ℕ) → address_of t ≡ a → run_one S t words a ≡ apply (operation_of t) (words a)
    unfolding run_one
    one_at words t e = rw e (update_same words a (apply (operation_of t) (words a)))

    pub singly-at : {ts : List ℕ} → All (λ u. address_of u ≡ a) ts → (words : ℕ → Word) → run_singly S ts words a ≡ run_on S ts (words a)
    unfolding run_singly
    singly-at nil words = refl
    singly-at (cons {x = t} {xs = ts} e es) words = singly-at es (run_one S t words) ∙ ap (run_on S ts) (one_at words t e)

    pub singly-elsewhere : (b : ℕ) → b ≢ a → {ts : List ℕ} → All (λ u. address_of u ≡ a) ts → (words : ℕ → Word) → run_singly S ts words b ≡ words b
    unfolding run_singly run_one
    singly-elsewhere b n nil words = refl
    singly-elsewhere b n (cons {x = t} {xs = ts} e es) words = singly-elsewhere b n es (run_one S t words) ∙ update_other words (address_of t) _ (λ z. n (z ∙ e))

    pub reads_at : {ts : List ℕ} → All (λ u. address_of u ≡ a) ts → (words : ℕ → Word) → reads S ts words ≡ reads_on S (words a) ts
    unfolding reads
    reads_at nil words = refl
    reads_at (cons {x = t} {xs = ts} e es) words = rw (reads_at es (run_one S t words), one_at words t e, e)
