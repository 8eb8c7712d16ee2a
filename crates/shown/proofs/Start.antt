-- The start: the view before the first event stands for the machine's state before it.
use Prim.Native.Nat.{ℕ, zero, suc, ◌+◌, ◌-◌, ◌<◌}
use mathlib.Core.Path.{◌≡◌, refl, ◌∙◌, ap, ap₂}
use mathlib.Core.List.{List, [], ◌∷◌, ◌++◌, map}
use native.Mathlib.Omega.{arith}
use lib.Dec.{eqb}
use Rattle.lists.specs.Choice.{choose}
use Rattle.lists.specs.Table.{list_below}
use Rattle.lists.specs.Search.{All, nil, cons, only}
use Rattle.lists.proofs.Tests.{test-cases}
use Rattle.lists.proofs.Every.{all_map}
use Rattle.view.specs.Inner.View.{View}
use Rattle.machine.specs.Setup.{Message}
use Rattle.machine.specs.State.{start, tags_below, asked, asked_by}
use Rattle.machine.specs.State as machine
use Rattle.shown.specs.Inner.Network.{Network, setup, tags_from}
use Rattle.shown.specs.Inner.Shown.{unissued, message_of, record_of, reply_of, tags_at, answer_of, shown}
use Rattle.shown.specs.Inner.Reached.{AtStart}
use Rattle.shown.proofs.Engines.{tags-within, next-unissued}

module _ (x : Network) where
  -- ---- the tags of the trace
  tags-longer : (n t : ℕ) → tags_from (suc n) t ≡ tags_from n t ++ ((t + n) ∷ [])
  unfolding tags_from
  tags-longer zero t = let z : t ≡ t + 0 = omega arith in ap (λ (u : ℕ). u ∷ []) z
  tags-longer (suc n) t =
      let z : suc t + n ≡ t + suc n = omega arith in ap (λ (l : List ℕ). t ∷ l) (tags-longer n (suc t) ∙ ap (λ (u : ℕ). tags_from n (suc t) ++ (u ∷ [])) z)

  tags-all : (n : ℕ) → tags_from n 0 ≡ tags_below n
  unfolding list_below tags_from
  tags-all zero = refl
  tags-all (suc n) = let z : 0 + n ≡ n = omega arith in tags-longer n 0 ∙ ap₂ (λ (l : List ℕ) (u : ℕ). l ++ (u ∷ [])) (tags-all n) z

  module _ (v : View) (A : AtStart x v) where
    -- the request t as it is issued
    message-asked : (t : ℕ) → t < x.R → message_of x v t ≡ asked (setup x) t
    message-asked t h = λ i. record { tag = t; address = A.fits.address_is t h i; operation = A.asked t h i }

    messages-asked : (e : ℕ) {ts : List ℕ} → All (λ u. u < x.R) ts → map (message_of x v) (only (λ u. eqb (x.engine_of u) e) ts) ≡ asked_by (setup x) e ts
    unfolding asked_by only
    messages-asked e nil = refl
    messages-asked e (cons {x = t} {xs = ts} h hs) = test-cases
        (λ b. map (message_of x v) (choose b (t ∷ only (λ u. eqb (x.engine_of u) e) ts) (only (λ u. eqb (x.engine_of u) e) ts))
        ≡ choose b (asked (setup x) t ∷ asked_by (setup x) e ts) (asked_by (setup x) e ts))
        (eqb (x.engine_of t) e)
        (λ _. ap₂ (λ (m : Message (setup x)) (l : List (Message (setup x))). m ∷ l) (message-asked t h) (messages-asked e hs))
        (λ _. messages-asked e hs)

    start-requests : (s p : ℕ) → map (message_of x v) (tags_at x v s p) ≡ machine.unissued (setup x) s p
    unfolding machine.unissued
    start-requests zero e =
        let z : x.R - 0 ≡ x.R = omega arith in
        ap (λ (l : List ℕ). map (message_of x v) (unissued x e l)) (A.first e)
        ∙ ap (map (message_of x v)) (next-unissued x e 0)
        ∙ rw z (messages-asked e (all_map (λ u h. omega arith) (tags-within x.R 0)))
        ∙ ap (asked_by (setup x) e) (tags-all x.R)
    start-requests (suc s) p = ap (map (message_of x v)) (A.quiet.no-requests s p)

    start-answers : (t : ℕ) → answer_of x v t ≡ (start (setup x) (λ a. 0)).answers t
    unfolding start
    start-answers t = rw (A.quiet.unanswered t)

    pub start-shows : (words : ℕ → ℕ) → shown x v words ≡ start (setup x) words
    unfolding shown start
    start-shows words = λ i. record {
      requests = λ s p. start-requests s p i;
      waits = λ s p. map (record_of x v) (A.quiet.no-waits s p i);
      replies = λ s p. map (reply_of x v) (A.quiet.no-replies s p i);
      words = words;
      order = A.quiet.no-order i;
      answers = λ t. start-answers t i;
      accesses = A.quiet.no-accesses i;
      merges = A.quiet.no-merges i;
    }
