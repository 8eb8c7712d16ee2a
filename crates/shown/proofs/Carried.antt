-- What a list of tags shows rests on what its own tags carry: another table of what tags carry shows the same where the two agree on
-- the list. And what the view's lists show after one of them is replaced.
use Prim.Native.Nat.{ℕ, zero, suc, ◌<◌}
use mathlib.Core.Path.{◌≡◌, refl, ap, ap₂, ◌∙◌, fun_ext}
use mathlib.Core.Bool.{Bool, true, false}
use mathlib.Core.List.{List, [], ◌∷◌, ◌++◌, map}
use mathlib.Core.Option.{some, none}
use native.Mathlib.Omega.{arith}
use Rattle.lists.specs.Choice.{choose}
use Rattle.lists.specs.Table.{update2}
use Rattle.lists.specs.Count.{count}
use Rattle.lists.specs.Inner.Pair.{Pair}
use Rattle.lists.proofs.Tests.{clash}
use Rattle.lists.proofs.Every.{all_map}
use Rattle.lists.proofs.Tables.{update_same, update_other, update2-same, update2-other, update2-unique, update2-map}
use Rattle.lists.proofs.Maps.{map_same, map-append}
use Rattle.lists.proofs.Counts.{counted-all}
use Rattle.operation.specs.declared.Words.{Words}
use Rattle.view.specs.Inner.View.{View, with_carried, with_requests}
use Rattle.machine.specs.Setup.{Setup, Message, WaitRecord, Reply}
use Rattle.machine.specs.State.{State}
use Rattle.shown.specs.Inner.Network.{Network, setup}
use Rattle.shown.specs.Inner.Shown.{unissued, message_of, record_of, reply_of, answer_of, tags_at}

-- states with the same parts are the same
pub state-eq : {S : Setup} (a b : State S) → a.requests ≡ b.requests → a.waits ≡ b.waits → a.replies ≡ b.replies → a.words ≡ b.words →
    a.order ≡ b.order → a.answers ≡ b.answers → a.accesses ≡ b.accesses → a.merges ≡ b.merges → a ≡ b
state-eq a b p q r w o n c m = λ i. record { requests = p i; waits = q i; replies = r i; words = w i; order = o i; answers = n i; accesses = c i; merges = m i }

-- ---- two views of the same requests, that agree on what the tags of a list carry
module _ (x : Network) (v v' : View) where
  pub messages-same : v'.fixed ≡ v.fixed → (l : List ℕ) → ((u : ℕ) → 0 < count (λ (t : ℕ). t) u l → v'.carried u ≡ v.carried u) →
      map (message_of x v') l ≡ map (message_of x v) l
  messages-same f l h =
      map_same (message_of x v) (message_of x v')
      (counted-all (λ (t : ℕ). t) (λ u. message_of x v' u ≡ message_of x v u) l (λ u z. rw (f, h u z)))

  pub records-same : (l : List Pair) → ((u : ℕ) → 0 < count (λ (r : Pair). r.second) u l → v'.carried u ≡ v.carried u) →
      map (record_of x v') l ≡ map (record_of x v) l
  records-same l h =
      map_same (record_of x v) (record_of x v')
      (all_map (λ r e. rw e) (counted-all (λ (r : Pair). r.second) (λ u. v'.carried u ≡ v.carried u) l h))

  pub replies-same : (l : List ℕ) → ((u : ℕ) → 0 < count (λ (t : ℕ). t) u l → v'.carried u ≡ v.carried u) → map (reply_of x v') l ≡ map (reply_of x v) l
  replies-same l h =
      map_same (reply_of x v) (reply_of x v')
      (counted-all (λ (t : ℕ). t) (λ u. reply_of x v' u ≡ reply_of x v u) l (λ u z. rw (h u z)))

  -- what an answered request carries
  pub answers-same : v'.answered ≡ v.answered → ((u : ℕ) → v.answered u ≡ true → v'.carried u ≡ v.carried u) → answer_of x v' ≡ answer_of x v
  answers-same f h = fun_ext (λ u. ap (λ g. choose (g u) (some (v'.carried u).first) none) f ∙ go u (v.answered u) refl)
    where
      go : (u : ℕ) (b : Bool) → v.answered u ≡ b → choose b (some (v'.carried u).first) none ≡ choose b (some (v.carried u).first) none
      go u true e = rw (h u e)
      go u false e = refl

-- ---- one tag carries something else: what stands in lists without that tag is shown as it was
module _ (x : Network) (v : View) (t : ℕ) (c : Words) where
  -- what is counted where t is not keeps what it carries
  pub carried-kept : {A : Type 0} (key : A → ℕ) (l : List A) → count key t l ≡ 0 → (u : ℕ) → 0 < count key u l → (with_carried v t c).carried u ≡ v.carried u
  carried-kept key l z u h = update_other v.carried t c (λ e. (let y : count key u l ≡ 0 = rw e z in omega arith))

  pub carried_here : (with_carried v t c).carried t ≡ c
  carried_here = update_same v.carried t c

  pub messages-kept : (l : List ℕ) → count (λ (u : ℕ). u) t l ≡ 0 → map (message_of x (with_carried v t c)) l ≡ map (message_of x v) l
  messages-kept l z = messages-same x v (with_carried v t c) refl l (carried-kept (λ (u : ℕ). u) l z)

  pub records-kept : (l : List Pair) → count (λ (r : Pair). r.second) t l ≡ 0 → map (record_of x (with_carried v t c)) l ≡ map (record_of x v) l
  records-kept l z = records-same x v (with_carried v t c) l (carried-kept (λ (r : Pair). r.second) l z)

  pub replies-kept : (l : List ℕ) → count (λ (u : ℕ). u) t l ≡ 0 → map (reply_of x (with_carried v t c)) l ≡ map (reply_of x v) l
  replies-kept l z = replies-same x v (with_carried v t c) l (carried-kept (λ (u : ℕ). u) l z)

  pub answers-kept : v.answered t ≡ false → answer_of x (with_carried v t c) ≡ answer_of x v
  answers-kept n = answers-same x v (with_carried v t c) refl (λ u e. update_other v.carried t c (λ d. clash (cc)))

  -- by level and position, where t stands in none of the lists
  pub messages-framed : (f : ℕ → ℕ → List ℕ) → ((s p : ℕ) → count (λ (u : ℕ). u) t (f s p) ≡ 0) →
      ◌≡◌ {A = ℕ → ℕ → List (Message (setup x))} (λ s p. map (message_of x (with_carried v t c)) (f s p)) (λ s p. map (message_of x v) (f s p))
  messages-framed f z = fun_ext (λ s. fun_ext (λ p. messages-kept (f s p) (z s p)))

  pub records-framed : (f : ℕ → ℕ → List Pair) → ((s p : ℕ) → count (λ (r : Pair). r.second) t (f s p) ≡ 0) →
      ◌≡◌ {A = ℕ → ℕ → List (WaitRecord (setup x))} (λ s p. map (record_of x (with_carried v t c)) (f s p)) (λ s p. map (record_of x v) (f s p))
  records-framed f z = fun_ext (λ s. fun_ext (λ p. records-kept (f s p) (z s p)))

  pub replies-framed : (f : ℕ → ℕ → List ℕ) → ((s p : ℕ) → count (λ (u : ℕ). u) t (f s p) ≡ 0) →
      ◌≡◌ {A = ℕ → ℕ → List (Reply (setup x))} (λ s p. map (reply_of x (with_carried v t c)) (f s p)) (λ s p. map (reply_of x v) (f s p))
  replies-framed f z = fun_ext (λ s. fun_ext (λ p. replies-kept (f s p) (z s p)))

-- ---- a queue is replaced
module _ (x : Network) (v : View) where
  -- the tags of a level and position, of the list in its queue
  abbrev pub tags_in : ℕ → ℕ → List ℕ → List ℕ
  tags_in zero e l = unissued x e l
  tags_in (suc s) p l = l

  -- above the engines the queue is the list
  pub tags-above : (s p : ℕ) → 0 < s → tags_at x v s p ≡ v.requests s p
  tags-above zero p h = absurd (omega arith)
  tags-above (suc s) p h = refl

  pub tags-updated : (s p : ℕ) (l : List ℕ) → tags_at x (with_requests v s p l) ≡ update2 (tags_at x v) s p (tags_in s p l)
  tags-updated s p l = update2-unique (tags_at x v) (tags_at x (with_requests v s p l)) s p (tags_in s p l) (here s p) elsewhere
    where
      here : (s p : ℕ) → tags_at x (with_requests v s p l) s p ≡ tags_in s p l
      here zero p = ap (unissued x p) (update2-same v.requests 0 p l)
      here (suc s) p = update2-same v.requests (suc s) p l

      elsewhere : (i j : ℕ) → ¬ ((i ≡ s) × (j ≡ p)) → tags_at x (with_requests v s p l) i j ≡ tags_at x v i j
      elsewhere zero j n = ap (unissued x j) (update2-other v.requests s p l zero j n)
      elsewhere (suc i) j n = update2-other v.requests s p l (suc i) j n

  pub tags-replaced : (s p : ℕ) (l : List ℕ) → 0 < s → tags_at x (with_requests v s p l) ≡ update2 (tags_at x v) s p l
  tags-replaced zero p l h = absurd (omega arith)
  tags-replaced (suc s) p l h = tags-updated (suc s) p l

  -- what the machine sees of tables of tags
  abbrev pub messages_in : (ℕ → ℕ → List ℕ) → ℕ → ℕ → List (Message (setup x))
  messages_in f i j = map (message_of x v) (f i j)

  abbrev pub records_in : (ℕ → ℕ → List Pair) → ℕ → ℕ → List (WaitRecord (setup x))
  records_in f i j = map (record_of x v) (f i j)

  abbrev pub replies_in : (ℕ → ℕ → List ℕ) → ℕ → ℕ → List (Reply (setup x))
  replies_in f i j = map (reply_of x v) (f i j)

  -- and with one of them replaced
  pub messages-updated : (f : ℕ → ℕ → List ℕ) (s p : ℕ) (l : List ℕ) → messages_in (update2 f s p l) ≡ update2 (messages_in f) s p (map (message_of x v) l)
  messages-updated = update2-map (map (message_of x v))

  pub records-updated : (f : ℕ → ℕ → List Pair) (s p : ℕ) (l : List Pair) → records_in (update2 f s p l) ≡ update2 (records_in f) s p (map (record_of x v) l)
  records-updated = update2-map (map (record_of x v))

  pub replies-updated : (f : ℕ → ℕ → List ℕ) (s p : ℕ) (l : List ℕ) → replies_in (update2 f s p l) ≡ update2 (replies_in f) s p (map (reply_of x v) l)
  replies-updated = update2-map (map (reply_of x v))

  -- a tag that stands in no reply queue comes to the end of one, with a value
  pub replies-pushed : (t : ℕ) (c : Words) → ((s p : ℕ) → count (λ (u : ℕ). u) t (v.replies s p) ≡ 0) → (s p : ℕ) →
      ◌≡◌ {A = ℕ → ℕ → List (Reply (setup x))} (λ i j. map (reply_of x (with_carried v t c)) (update2 v.replies s p (v.replies s p ++ (t ∷ [])) i j))
      (update2 (λ i j. map (reply_of x v) (v.replies i j)) s p (map (reply_of x v) (v.replies s p) ++ (record { tag = t; value = c.first } ∷ [])))
  replies-pushed t c z s p =
      update2-map (map (reply_of x (with_carried v t c))) v.replies s p (v.replies s p ++ (t ∷ []))
      ∙ ap (update2 (λ i j. map (reply_of x (with_carried v t c)) (v.replies i j)) s p) (map-append (reply_of x (with_carried v t c)) (v.replies s p) (t ∷ []))
      ∙ ap₂ (λ (f : ℕ → ℕ → List (Reply (setup x))) (r : Reply (setup x)). update2 f s p (f s p ++ (r ∷ [])))
      (replies-framed x v t c v.replies z)
      (ap {B = Reply (setup x)} (λ (w : Words). record { tag = t; value = w.first }) (carried_here x v t c))
