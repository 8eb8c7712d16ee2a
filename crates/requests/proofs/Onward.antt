-- A request goes on a level: what `issue` and `forward` ask for and promise, by the way taken. An issue is a forward from level 0.
use Prim.Native.Nat.{ℕ, suc, ◌+◌, ◌-◌, ◌≤◌, ◌<◌}
use mathlib.Core.Path.{◌≡◌, refl, sym, ap, subst, ◌∙◌}
use mathlib.Core.Logic.{◌≢◌}
use mathlib.Core.Bool.{Bool, true, false}
use mathlib.Core.List.{List, [], ◌∷◌}
use native.Mathlib.Numerals.{add-one}
use native.Mathlib.Omega.{arith}
use lib.Dec.{leb, ltb}
use lib.ListN.{length, get_or, drop}
use borrow.Author.Tests.{leb-true}
use Rattle.lists.specs.Choice.{choose, both}
use Rattle.lists.proofs.Lists.{first-is}
use Rattle.lists.proofs.Tables.{update2-other}
use Rattle.lists.proofs.Tests.{test-clash, both_true}
use Rattle.event.specs.Event.{Event}
use Rattle.wiring.specs.Inner.Path.{position_on}
use Rattle.view.specs.Inner.View.{Fixed, View, with_requests}
use Rattle.store.specs.Inner.Memory.{view, Becomes}
use Rattle.machine.specs.State.{State}
use Rattle.machine.specs.Steps.{forward_step}
use Rattle.machine.specs.Run.{run_events}
use Rattle.shown.specs.Inner.Network.{Network, setup}
use Rattle.shown.specs.Inner.Shown.{tags_at, shown}
use Rattle.shown.specs.Inner.Landing.{Came, came_merged, came_appended, came_refused, Landed}
use Rattle.shown.specs.Inner.Reached.{single, Stands}
use Rattle.shown.proofs.Rely.{merges-few}
use Rattle.shown.proofs.Reaching.{stands-sound}
use Rattle.shown.proofs.Rooms.{requests-few, waits-few}
use Rattle.shown.proofs.Events.{issue-is, forward-is}
use Rattle.shown.proofs.Forwards.{oldest-first, landed-fixed, landed-rounds, forward-apart, forward-full, forward-stays, forward-shows}
use Rattle.shown.proofs.Issues.{issue-shows}
use Rattle.node.specs.Inner.Node.{ApartAt}
use Rattle.moves.specs.Inner.Moves.{Ready, Moves, went_on, Went}
use Rattle.requests.specs.Inner.Arrivals.{MayArrive}

both-at-most : (a b c d : ℕ) → both (leb a b) (leb c d) ≡ true → (a ≤ b) × (c ≤ d)
both-at-most a b c d e = let h = both_true (leb a b) (leb c d) e in (leb-true a b h.0, leb-true c d h.1)

went-moved : (c : Came) → went_on c ≡ true → c ≢ came_refused
went-moved c e d = test-clash e (ap went_on d)

went-not : (c : Came) → went_on c ≡ false → c ≡ came_refused
went-not came_merged e = test-clash refl e
went-not came_appended e = test-clash refl e
went-not came_refused e = refl

-- "k 1 to 4; queue room Q 1 to 4; wait room W 0 to 8", and the counts of a run are small
rooms : {m : List ℕ} → Ready m → ((view m).fixed.q ≤ 4) × ((view m).fixed.w ≤ 8) × ((view m).merges < 65536)
rooms {m} R =
    let F = R.stands.fits in
    let merges = merges-few R.network (view m) F R.words (stands-sound R.stands) in
    (rw F.q-is F.ranges.Q-most, rw F.w-is F.ranges.W-most, omega (arith, merges))

pub levels-few : {m : List ℕ} → Ready m → (view m).fixed.k ≤ 4
levels-few {m} R = rw R.stands.fits.k-is R.stands.fits.ranges.k-most

-- a queue of the network is not longer than its room
pub queue-few : {m : List ℕ} → Ready m → (s p : ℕ) → 0 < s → length ((view m).requests s p) ≤ 8
queue-few {m} R s p up = let e : s ≡ suc (s - 1) = omega arith in rw e (omega (arith, requests-few R.stands (s - 1) p))

-- ---- the events take the oldest of level s, position p, on to the next level
pub record Going (m : List ℕ) (es : List Event) (s p t to : ℕ) : Type 0 where
  pub ready : Ready m
  pub rest : List ℕ
  pub is : (view m).requests s p ≡ t ∷ rest
  pub at : to ≡ position_on ((view m).fixed.path t) (s + 1)
  pub inside : (x : Network) (words : ℕ → ℕ) → Stands x (view m) words → s < x.k
  pub picks : (x : Network) (st : State (setup x)) → run_events (setup x) es st ≡ forward_step (setup x) s p st

module _ {m : List ℕ} {es : List Event} {s p t to : ℕ} (G : Going m es s p t to) where
  above : to ≡ position_on ((view m).fixed.path t) (suc s)
  above = rw add-one at G.at

  first : (x : Network) → (behind : List ℕ) × (tags_at x (view m) s p ≡ t ∷ behind)
  first x = oldest-first x (view m) s p t G.rest G.is

  going-apart : ApartAt t ((view m).requests (s + 1) to) ((view m).waits (s + 1) to)
  going-apart = let f = first G.ready.network in rw add-one (forward-apart G.ready.stands s p t f.0 f.1 to)

  going-few : (length ((view m).requests (s + 1) to) ≤ 4) × (length ((view m).waits (s + 1) to) ≤ 8)
  going-few = rw add-one (requests-few G.ready.stands s to, waits-few G.ready.stands (suc s) to)

  -- what is asked of it where it goes
  pub going-may : s + 1 < 5 → to < 16 → MayArrive (view m) t (s + 1) to
  going-may l p = ((omega arith, l, p, going-few.0, going-few.1), (rooms G.ready, going-apart))

  -- neither the queue nor the wait buffer has room
  pub full-moves : {r : Bool} →
      r ≡ both (leb (view m).fixed.q (length ((view m).requests (s + 1) to))) (leb (view m).fixed.w (length ((view m).waits (s + 1) to)))
      → r ≡ true → Moves es m m
  full-moves full taken = record {
    sized = G.ready.sized;
    moved = λ x words S. record { shows = stays x words S ∙ sym (G.picks x (shown x (view m) words)); fixed = refl; rounds = refl };
  }
    where
      stays : (x : Network) (words : ℕ → ℕ) → Stands x (view m) words → shown x (view m) words ≡ forward_step (setup x) s p (shown x (view m) words)
      stays x words S =
          let f = first x in
          let queue = length ((view m).requests (s + 1) to) in
          let waits = length ((view m).waits (s + 1) to) in
          let no_room = both-at-most (view m).fixed.q queue (view m).fixed.w waits (sym full ∙ taken) in
          forward-full S s p t f.0 f.1 (G.inside x words S) to above
          (rw (S.fits.q-is, add-one) at no_room.0) (rw (S.fits.w-is, add-one) at no_room.1)

  -- ---- it arrives there, or cannot
  module _ {m₁ : List ℕ} {r : Bool} (W : Went (view m) t (s + 1) to m₁ r) where
    landed : Landed (view m) t (suc s) to (view m₁) W.came
    landed = rw add-one at W.landed

    fixed-stays : (view m₁).fixed ≡ (view m).fixed
    fixed-stays = landed-fixed landed

    source_stays : (view m₁).requests s p ≡ (view m).requests s p
    source_stays = ap (λ (y : View). y.requests s p) landed.changes ∙ update2-other (view m).requests (suc s) to _ s p (λ e. omega (arith, e.0))

    -- it is still in the queue that it comes from
    pub source-filled : 0 < length ((view m₁).requests s p)
    source-filled = rw (source_stays, G.is) (omega arith)

    pub refused-moves : r ≡ false → Moves es m m₁
    refused-moves e = record {
      sized = W.sized;
      moved = λ x words S.
          let f = first x in
          let c = went-not W.came (sym W.told ∙ e) in record {
            shows = ap (λ (y : View). shown x y words) (W.landed.refusal c)
                ∙ forward-stays S s p t f.0 f.1 (G.inside x words S) to above landed c
                ∙ sym (G.picks x (shown x (view m) words));
            fixed = fixed-stays;
            rounds = landed-rounds landed;
          };
    }

    -- with the queue l in place of the one that it has left
    sent-moves : r ≡ true → (l : List ℕ)
        → ((x : Network) (words : ℕ → ℕ) → Stands x (view m) words → W.came ≢ came_refused
        → shown x (with_requests (view m₁) s p l) words ≡ forward_step (setup x) s p (shown x (view m) words))
        → {m₂ : List ℕ} → Becomes m₂ (with_requests (view m₁) s p l) → Moves es m m₂
    sent-moves e l shows B = record {
      sized = B.sized;
      moved = λ x words S. record {
        shows = ap (λ (y : View). shown x y words) B.holds
            ∙ shows x words S (went-moved W.came (sym W.told ∙ e))
            ∙ sym (G.picks x (shown x (view m) words));
        fixed = ap (λ (y : View). y.fixed) B.holds ∙ fixed-stays;
        rounds = ap (λ (y : View). y.rounds) B.holds ∙ landed-rounds landed;
      };
    }

-- ---- an issue
module _ {m : List ℕ} {e t to : ℕ} where
  pub issue-goes : Ready m → 0 < length ((view m).requests 0 e) → t ≡ get_or ((view m).requests 0 e) 0 0 → to ≡ position_on ((view m).fixed.path t) 1
      → Going m (single 0 0 e) 0 e t to
  issue-goes R h is at = record {
    ready = R;
    rest = drop 1 ((view m).requests 0 e);
    is = first-is ((view m).requests 0 e) t h is;
    at = at;
    inside = λ x words S. S.fits.ranges.k-least;
    picks = λ x st. issue-is (setup x) 0 0 e st refl;
  }

  -- the engine's next request takes its place
  pub issued-moves : Going m (single 0 0 e) 0 e t to → {m₁ : List ℕ} {r : Bool} → Went (view m) t 1 to m₁ r → r ≡ true → {n : ℕ} → n ≡ (view m).fixed.after t
      → {m₂ : List ℕ} → Becomes m₂ (with_requests (view m₁) 0 e (choose (ltb n (view m₁).fixed.count) (n ∷ []) [])) → Moves (single 0 0 e) m m₂
  issued-moves G {m₁} W c {n} after {m₂} B =
      sent-moves G W c (next (view m).fixed) (λ x words S d. issue-shows S e t G.rest G.is to G.at W.landed d)
      (subst (λ (l : List ℕ). Becomes m₂ (with_requests (view m₁) 0 e l)) next-is B)
    where
      next : Fixed → List ℕ
      next f = choose (ltb (f.after t) f.count) (f.after t ∷ []) []

      next-is : choose (ltb n (view m₁).fixed.count) (n ∷ []) [] ≡ next (view m).fixed
      next-is = rw (after, fixed-stays G W)

-- ---- a forward
module _ {m : List ℕ} {s p t to : ℕ} where
  pub forward-goes : Ready m → s < (view m).fixed.k → 0 < length ((view m).requests s p) → t ≡ get_or ((view m).requests s p) 0 0
      → to ≡ position_on ((view m).fixed.path t) (s + 1) → Going m (single 1 s p) s p t to
  forward-goes R l h is at = record {
    ready = R;
    rest = drop 1 ((view m).requests s p);
    is = first-is ((view m).requests s p) t h is;
    at = at;
    inside = λ x words S. omega (arith, S.fits.k-is);
    picks = λ x st. forward-is (setup x) 1 s p st refl;
  }

  -- it leaves its queue
  pub forwarded-moves : Going m (single 1 s p) s p t to → 0 < s → {m₁ : List ℕ} {r : Bool} → Went (view m) t (s + 1) to m₁ r → r ≡ true
      → {m₂ : List ℕ} → Becomes m₂ (with_requests (view m₁) s p (drop 1 ((view m₁).requests s p))) → Moves (single 1 s p) m m₂
  forwarded-moves G up {m₁} W c {m₂} B =
      sent-moves G W c G.rest (λ x words S d. forward-shows S s p t G.rest up (G.inside x words S) G.is to (above G) (landed G W) d)
      (subst (λ (l : List ℕ). Becomes m₂ (with_requests (view m₁) s p l)) (ap (drop 1) (source_stays G W ∙ G.is)) B)
