-- The tags of a trace, and the state before the first event: nothing is issued, and everything that is to hold holds.
use Prim.Native.Nat.{ℕ, zero, suc, ◌+◌, ◌*◌, ◌≤◌, ◌<◌}
use mathlib.Core.Path.{◌≡◌, refl, sym, ◌∙◌, ap, ap₂}
use mathlib.Core.Logic.{◌≢◌}
use mathlib.Core.List.{List, [], ◌∷◌, ◌++◌}
use native.Mathlib.Decide.{ℕ_discrete, dec_lt}
use native.Mathlib.Omega.{arith}
use lib.Dec.{ltb}
use Rattle.lists.specs.Choice.{choose}
use Rattle.lists.specs.Table.{list_below}
use Rattle.lists.specs.Search.{All, nil, cons}
use Rattle.lists.specs.Count.{count, same, total_below}
use Rattle.lists.proofs.Tests.{by_cases, eqb-cases, ltb-cases}
use Rattle.lists.proofs.Every.{all_map, all_append}
use Rattle.lists.proofs.Counts.{same-yes, same-no, count-append, itself}
use Rattle.lists.proofs.Stacks.{concat, stack-lowest}
use Rattle.machine.specs.Setup.{Setup, Message}
use Rattle.machine.specs.State.{tags_below, asked, asked_by, unissued, start}
use Rattle.machine.specs.Single.{run_singly}
use Rattle.machine.specs.Inner.Lawful.{Lawful}
use Rattle.machine.proofs.Tags.{message_tag}
use Rattle.machine.proofs.Tree.{tree_of}
use Rattle.machine.proofs.Invariant.{Invariant, kept, kept_append, kept-none, segment}
use Rattle.machine.proofs.Places.{at_end, at_request, remaining, remaining-request, remaining-end, left, Held}
use Rattle.machine.proofs.Progress.{Live}

-- ---- the tags of a trace
tags-above : (n u : ℕ) → n ≤ u → count itself u (tags_below n) ≡ 0
unfolding list_below
tags-above zero u l = refl
tags-above (suc n) u l = let m : n ≢ u = (λ e. omega arith) in rw count-append (omega (arith, tags-above n u (omega arith), same-no m))

pub tags-below : (n u : ℕ) → u < n → count itself u (tags_below n) ≡ 1
unfolding list_below
tags-below zero u l = absurd (omega arith)
tags-below (suc n) u l = by_cases (ℕ_discrete n u)
    (λ (e : n ≡ u). rw (count-append, e) (omega (arith, tags-above u u (omega arith), same-yes u)))
    (λ (m : n ≢ u). rw count-append (omega (arith, tags-below n u (omega arith), same-no m)))

pub tags-once : (n u : ℕ) → count itself u (tags_below n) ≤ 1
tags-once n u = by_cases (dec_lt u n) (λ (l : u < n). omega (arith, tags-below n u l)) (λ (l : ¬ (u < n)). omega (arith, tags-above n u (omega arith)))

pub tags-inside : (n u : ℕ) → 1 ≤ count itself u (tags_below n) → u < n
tags-inside n u h = by_cases (dec_lt u n) (λ (l : u < n). l) (λ (l : ¬ (u < n)). absurd (omega (arith, tags-above n u (omega arith))))

module _ (S : Setup) where
  open S use {k, R, engine_of, address_of, position}

  -- ---- the requests of one engine
  asked-count : (e u : ℕ) (ts : List ℕ) → count (message_tag S) u (asked_by S e ts) ≤ count itself u ts
  unfolding asked_by
  asked-count e u [] = omega arith
  asked-count e u (t ∷ ts) =
      let others = asked_by S e ts in
      eqb-cases (λ b. count (message_tag S) u (choose b (asked S t ∷ others) others) ≤ same t u + count itself u ts) (engine_of t) e
      (λ _. omega (arith, asked-count e u ts)) (λ _. omega (arith, asked-count e u ts))

  -- every request stands with its engine
  pub asked-own : (u : ℕ) (ts : List ℕ) → count (message_tag S) u (asked_by S (engine_of u) ts) ≡ count itself u ts
  unfolding asked_by
  asked-own u [] = refl
  asked-own u (t ∷ ts) =
      let others = asked_by S (engine_of u) ts in
      eqb-cases (λ b. count (message_tag S) u (choose b (asked S t ∷ others) others) ≡ same t u + count itself u ts) (engine_of t) (engine_of u)
      (λ _. omega (arith, asked-own u ts)) (λ n. omega (arith, asked-own u ts, same-no (λ (e : t ≡ u). n (ap engine_of e))))

  -- a message of engine e as it is asked, with what holds of its tag
  abbrev pub Asked : (ℕ → Type 0) → ℕ → Message S → Type 0
  Asked P e m = P m.tag × (engine_of m.tag ≡ e) × (m ≡ asked S m.tag)

  pub asked-all : {P : ℕ → Type 0} (e : ℕ) {ts : List ℕ} → All P ts → All (Asked P e) (asked_by S e ts)
  unfolding asked_by
  asked-all e nil = nil
  asked-all {P} e (cons {x = t} {xs = ts} h hs) =
      eqb-cases (λ b. All (Asked P e) (choose b (asked S t ∷ asked_by S e ts) (asked_by S e ts))) (engine_of t) e
      (λ z. cons (h, z, refl) (asked-all e hs)) (λ _. asked-all e hs)

  abbrev tags : List (Message S) → List ℕ
  tags = concat (λ (m : Message S). m.tag ∷ [])

  -- at the start everything is in line
  asked-kept : Lawful S → (e a : ℕ) (ts : List ℕ) → kept S e a (tags (asked_by S (position e a 0) ts)) ≡ kept S e a ts
  unfolding asked_by
  asked-kept law e a [] = refl
  asked-kept law e a (t ∷ ts) =
      let others = asked_by S (position e a 0) ts in
      let first = kept_append S e a (t ∷ []) ts in
      eqb-cases (λ b. kept S e a (tags (choose b (asked S t ∷ others) others)) ≡ kept S e a (t ∷ ts)) (engine_of t) (position e a 0)
      (λ _. kept_append S e a (t ∷ []) _ ∙ ap (λ (l : List ℕ). kept S e a (t ∷ []) ++ l) (asked-kept law e a ts) ∙ sym first)
      (λ n. asked-kept law e a ts ∙ ap (λ (l : List ℕ). l ++ kept S e a ts) (sym (kept-none S e a {xs = t ∷ []} (cons (off n) nil))) ∙ sym first)
    where
      off : engine_of t ≢ position e a 0 → ¬ ((engine_of t ≡ e) × (address_of t ≡ a))
      off n h = n (sym (law.place-engine t) ∙ ap₂ (λ x y. position x y 0) h.0 h.1)

  -- ---- the places at the start
  unfoldable pub start_places : ℕ → ℕ
  start_places u = choose (ltb u R) 0 3

  place-request : (u : ℕ) → u < R → start_places u ≡ 0
  unfolding start_places
  place-request u l = ltb-cases (λ b. ◌≡◌ {A = ℕ} (choose b 0 3) 0) u R (λ _. refl) (λ h. absurd (omega arith))

  place_none : (u : ℕ) → R ≤ u → start_places u ≡ 3
  unfolding start_places
  place_none u l = ltb-cases (λ b. ◌≡◌ {A = ℕ} (choose b 0 3) 3) u R (λ h. absurd (omega arith)) (λ _. refl)

  place-cases : {G : Type 0} (u : ℕ) → (u < R → start_places u ≡ 0 → G) → (R ≤ u → start_places u ≡ 3 → G) → G
  place-cases u f g = by_cases (dec_lt u R) (λ (l : u < R). f l (place-request u l)) (λ (n : ¬ (u < R)). let l : R ≤ u = omega arith in g l (place_none u l))

  tags-placed : (n : ℕ) → n ≤ R → All (λ t. start_places t ≡ 0) (tags_below n)
  unfolding list_below
  tags-placed zero l = nil
  tags-placed (suc n) l = all_append (tags-placed n (omega arith)) (cons (place-request n l) nil)

  module _ (law : Lawful S) (words : ℕ → S.Word) where
    start-invariant : Invariant S words start_places (start S words)
    unfolding start unissued tree_of run_singly
    start-invariant = record {
      requested = elim [
        | zero ↦ λ p. all_map (λ m h. (h.0, (law.place-engine m.tag ∙ h.1, tt, (λ x. rw h.2), ap (λ (z : Message S). z.address) h.2)))
            (asked-all p (tags-placed R (omega arith)))
        | suc s ↦ λ p. nil
      ];
      requested_once = elim [ zero ↦ λ p u. omega (arith, asked-count p u (tags_below R), tags-once R u) | suc s ↦ λ p u. omega arith ];
      waiting = λ s p. nil;
      waiting_once = λ s p u. omega arith;
      replying = λ s p. nil;
      replying_once = λ s p u. omega arith;
      collected = λ t v e. (let z : ◌≡◌ {A = ℕ} 0 1 = cc in absurd (omega arith));
      memory = λ a. refl;
      line = λ e a.
          let only-unissued = stack-lowest (segment S (start S words) e a) (λ j. kept-none S e a nil) k in
          rw (kept-none S e a {xs = []} nil) (only-unissued ∙ asked-kept law e a (tags_below R));
    }

    start-held : Held S start_places (start S words)
    unfolding start unissued
    start-held = record {
      spot = λ u. place-cases u (λ _ e. at_request 0 (omega arith) e) (λ _ e. at_end e);
      known = λ u n. place-cases u (λ l _. l) (λ _ e. absurd (n e));
      in_requests = λ u s h. place-cases u
          (λ l e. let z : s ≡ 0 = omega arith in rw (z, law.place-engine u, asked-own u (tags_below R)) (omega (arith, tags-below R u l)))
          (λ _ e. absurd (omega arith));
      in_waits = λ u s h. place-cases u (λ _ e. absurd (omega arith)) (λ _ e. absurd (omega arith));
      in_replies = λ u s h. place-cases u (λ _ e. absurd (omega arith)) (λ _ e. absurd (omega arith));
      in_answers = λ u h l. place-cases u (λ _ e. absurd (omega arith)) (λ m _. absurd (omega arith));
    }

    start_left : (n : ℕ) → left S start_places n ≤ n * (2 * k + 2)
    unfolding total_below
    start_left zero = omega arith
    start_left (suc n) =
        let z : remaining S (start_places n) ≤ 2 * k + 2 =
        place-cases n (λ _ e. rw e (omega (arith, remaining-request S 0))) (λ _ e. rw e (omega (arith, remaining-end S))) in
        omega (arith, z, start_left n)

    pub start-live : Live S words (start S words) (R * (2 * k + 2))
    start-live = record { places = start_places; invariant = start-invariant; held = start-held; bound = start_left R }
