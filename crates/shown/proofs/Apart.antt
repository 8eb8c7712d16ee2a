-- Each tag stands in one place of the view at most, and there once, on its path: what `OnePlace` of the state that the view stands
-- for says of the view's lists of tags.
use Prim.Native.Nat.{ℕ, ◌≤◌, ◌<◌}
use mathlib.Core.Path.{◌≡◌, refl, sym, ap, subst, ◌∙◌}
use mathlib.Core.Logic.{◌≢◌}
use mathlib.Core.Bool.{Bool, true, false}
use mathlib.Core.List.{List, ◌∷◌}
use mathlib.Core.Option.{some, none}
use native.Mathlib.Decide.{ℕ_discrete, dec_lt}
use native.Mathlib.Omega.{arith}
use Rattle.lists.specs.Choice.{choose}
use Rattle.lists.specs.Search.{All, found}
use Rattle.lists.specs.Count.{count}
use Rattle.lists.specs.Inner.Pair.{Pair}
use Rattle.lists.proofs.Tests.{by_cases}
use Rattle.lists.proofs.Maps.{count_map}
use Rattle.lists.proofs.Counts.{counted-all, oldest-counted, found-counted}
use Rattle.view.specs.Inner.View.{View}
use Rattle.machine.specs.Setup.{Setup}
use Rattle.machine.specs.State.{State}
use Rattle.machine.specs.Run.{is_answered}
use Rattle.machine.specs.Order.{Where, requested, waiting, replying, answered, times, OnPath, OnePlace}
use Rattle.shown.specs.Inner.Network.{Network, setup}
use Rattle.shown.specs.Inner.Shown.{tags_at, shown, oldest_pair}

-- ---- two places are the same or not
two : {A : Type 0} (f : ℕ → ℕ → A) (l p l' p' : ℕ) → (f l p ≡ f l' p' → (l ≡ l') × (p ≡ p')) → Dec (f l p ≡ f l' p')
two f l p l' p' h =
    by_cases (ℕ_discrete l l')
    (λ (e : l ≡ l'). by_cases (ℕ_discrete p p') (λ (d : p ≡ p'). yes (rw (e, d))) (λ (n : p ≢ p'). no (λ z. n (h z).1)))
    (λ (n : l ≢ l'). no (λ z. n (h z).0))

abbrev pub kind_of : Where → ℕ
kind_of (requested s p) = 0
kind_of (waiting s p) = 1
kind_of (replying s p) = 2
kind_of answered = 3

-- places of two kinds differ
pub other-kind : (a b : Where) → kind_of a ≢ kind_of b → a ≢ b
other-kind a b n e = n (ap kind_of e)

pub where-discrete : (a b : Where) → Dec (a ≡ b)
where-discrete (requested l p) (requested l' p') = two requested l p l' p' (λ z. (cc, cc))
where-discrete (requested l p) (waiting l' p') = no (other-kind _ _ (λ e. omega arith))
where-discrete (requested l p) (replying l' p') = no (other-kind _ _ (λ e. omega arith))
where-discrete (requested l p) answered = no (other-kind _ _ (λ e. omega arith))
where-discrete (waiting l p) (requested l' p') = no (other-kind _ _ (λ e. omega arith))
where-discrete (waiting l p) (waiting l' p') = two waiting l p l' p' (λ z. (cc, cc))
where-discrete (waiting l p) (replying l' p') = no (other-kind _ _ (λ e. omega arith))
where-discrete (waiting l p) answered = no (other-kind _ _ (λ e. omega arith))
where-discrete (replying l p) (requested l' p') = no (other-kind _ _ (λ e. omega arith))
where-discrete (replying l p) (waiting l' p') = no (other-kind _ _ (λ e. omega arith))
where-discrete (replying l p) (replying l' p') = two replying l p l' p' (λ z. (cc, cc))
where-discrete (replying l p) answered = no (other-kind _ _ (λ e. omega arith))
where-discrete answered (requested l' p') = no (other-kind _ _ (λ e. omega arith))
where-discrete answered (waiting l' p') = no (other-kind _ _ (λ e. omega arith))
where-discrete answered (replying l' p') = no (other-kind _ _ (λ e. omega arith))
where-discrete answered answered = yes refl

-- and so do two of one kind, at two levels or two positions
pub request-elsewhere : (s p s' p' : ℕ) → ¬ ((s ≡ s') × (p ≡ p')) → requested s p ≢ requested s' p'
request-elsewhere s p s' p' n e = n (cc, cc)

pub wait-elsewhere : (s p s' p' : ℕ) → ¬ ((s ≡ s') × (p ≡ p')) → waiting s p ≢ waiting s' p'
wait-elsewhere s p s' p' n e = n (cc, cc)

-- ---- one place for each tag, of any state
module _ (S : Setup) (st : State S) (P : OnePlace S st) where
  abbrev at : ℕ → Where → ℕ
  at t w = times S st t w

  place-below : (t : ℕ) (w : Where) → 0 < at t w → t < S.R
  place-below t w h = by_cases (dec_lt t S.R) (λ (l : t < S.R). l) (λ (n : ¬ (t < S.R)). absurd (omega (arith, P.nowhere t (omega arith) w)))

  -- whoever stands at w is a request whose one place is w
  place_is : (t : ℕ) (w : Where) (h : 0 < at t w) → w ≡ (P.somewhere t (place-below t w h)).0
  place_is t w h =
      let z = P.somewhere t (place-below t w h) in
      by_cases (where-discrete w z.0) (λ (e : w ≡ z.0). e) (λ (n : w ≢ z.0). absurd (omega (arith, z.3 w n)))

  place-once : (t : ℕ) (w : Where) → at t w ≤ 1
  place-once t w = by_cases (dec_lt 0 (at t w))
      (λ (h : 0 < at t w). let one : at t w ≡ 1 = subst (λ v. at t v ≡ 1) (sym (place_is t w h)) (P.somewhere t (place-below t w h)).1 in omega arith)
      (λ (n : ¬ (0 < at t w)). omega arith)

  place-path : (t : ℕ) (w : Where) → 0 < at t w → OnPath S t w
  place-path t w h = subst (λ v. OnPath S t v) (sym (place_is t w h)) (P.somewhere t (place-below t w h)).2

  place-alone : (t : ℕ) (w w' : Where) → 0 < at t w → w' ≢ w → at t w' ≡ 0
  place-alone t w w' h n = (P.somewhere t (place-below t w h)).3 w' (λ e. n (e ∙ sym (place_is t w h)))

-- ---- of a view
module _ (x : Network) where
  -- how often the tag t stands there, in a wait record as the second
  abbrev pub tag_times : View → ℕ → Where → ℕ
  tag_times v t (requested s p) = count (λ (u : ℕ). u) t (tags_at x v s p)
  tag_times v t (waiting s p) = count (λ (r : Pair). r.second) t (v.waits s p)
  tag_times v t (replying s p) = count (λ (u : ℕ). u) t (v.replies s p)
  tag_times v t answered = choose (v.answered t) 1 0

  -- each tag stands in one place at most, and there once; it is a request's, and the place is on its path
  pub record Apart (v : View) : Type 0 where
    pub once : (t : ℕ) (w : Where) → tag_times v t w ≤ 1
    pub elsewhere : (t : ℕ) (w w' : Where) → 0 < tag_times v t w → w' ≢ w → tag_times v t w' ≡ 0
    pub below : (t : ℕ) (w : Where) → 0 < tag_times v t w → t < x.R
    pub path : (t : ℕ) (w : Where) → 0 < tag_times v t w → OnPath (setup x) t w

  times-shown : (v : View) (words : ℕ → ℕ) (t : ℕ) (w : Where) → times (setup x) (shown x v words) t w ≡ tag_times v t w
  unfolding shown
  times-shown v words t (requested s p) = count_map _ _ t (tags_at x v s p)
  times-shown v words t (waiting s p) = count_map _ _ t (v.waits s p)
  times-shown v words t (replying s p) = count_map _ _ t (v.replies s p)
  times-shown v words t answered = go (v.answered t)
    where
      go : (b : Bool) → choose {A = ℕ} (is_answered (setup x) (choose b (some (v.carried t).first) none)) 1 0 ≡ choose {A = ℕ} b 1 0
      go true = refl
      go false = refl

  pub tags-apart : (v : View) (words : ℕ → ℕ) → OnePlace (setup x) (shown x v words) → Apart v
  tags-apart v words P = record {
    once = λ t w. subst (λ n. n ≤ 1) (times-shown v words t w) (place-once (setup x) (shown x v words) P t w);
    elsewhere = λ t w w' h n.
        sym (times-shown v words t w') ∙ place-alone (setup x) (shown x v words) P t w w' (subst (λ n. 0 < n) (sym (times-shown v words t w)) h) n;
    below = λ t w h. place-below (setup x) (shown x v words) P t w (subst (λ n. 0 < n) (sym (times-shown v words t w)) h);
    path = λ t w h. place-path (setup x) (shown x v words) P t w (subst (λ n. 0 < n) (sym (times-shown v words t w)) h);
  }

  module _ (v : View) (A : Apart v) where
    -- ---- tags in queues and buffers are of requests
    pub waits-below : (s p : ℕ) → All (λ (r : Pair). r.second < x.R) (v.waits s p)
    waits-below s p = counted-all (λ (r : Pair). r.second) (λ t. t < x.R) (v.waits s p) (λ t h. A.below t (waiting s p) h)

    -- what stands in a queue or a buffer is not answered
    pub unanswered : (t : ℕ) (w : Where) → 0 < tag_times v t w → w ≢ answered → v.answered t ≡ false
    unanswered t w h n = go (v.answered t) (A.elsewhere t w answered h (λ e. n (sym e)))
      where
        go : (b : Bool) → ◌≡◌ {A = ℕ} (choose b 1 0) 0 → b ≡ false
        go true e = absurd (omega arith)
        go false e = refl

    pub answered-below : (t : ℕ) → v.answered t ≡ true → t < x.R
    answered-below t e = A.below t answered (rw e (omega arith))

  -- ---- where the oldest stands, and the record that a search finds
  module _ (v : View) (s p : ℕ) where
    pub oldest-requested : {t : ℕ} {rest : List ℕ} → tags_at x v s p ≡ t ∷ rest → 0 < tag_times v t (requested s p)
    oldest-requested is = oldest-counted (λ (u : ℕ). u) is

    pub oldest-replying : {t : ℕ} {rest : List ℕ} → v.replies s p ≡ t ∷ rest → 0 < tag_times v t (replying s p)
    oldest-replying is = oldest-counted (λ (u : ℕ). u) is

    pub pair-waiting : (t : ℕ) {older : List Pair} {r : Pair} {younger : List Pair} → oldest_pair t (v.waits s p) ≡ found older r younger →
        0 < tag_times v r.second (waiting s p)
    unfolding oldest_pair
    pair-waiting t is = found-counted (λ (r : Pair). r.second) _ (v.waits s p) is
