-- One read more: what stands in the buffer is what the reader gave so far.
use Rattle.std.proofs.Common.{◌≡◌, ℕ, ◌+◌, ◌≤◌, List, ◌++◌, Option, length, take, sym, ap, subst, ◌∙◌, le_refl, length-take-le}
use Rattle.std.proofs.lemmas.List.{take-append-le}
use Rattle.std.proofs.lemmas.Slice.{take-put_mid_below}
use Rattle.std.proofs.Math.Seq.{take-append-add}
use Rattle.std.specs.Io.KnownBytes.{Consumes, Keeps}
use Rattle.std.proofs.KnownBytes.{Consumes-trans, Consumes-kept}
use borrow.Rule.Slice.PartMut.{put_mid, post_of}

module _ (a b c : Option (List ℕ)) (at room : ℕ) (xs ys : List ℕ) (within : at ≤ length xs) (before : Consumes a b (take at xs)) where
  -- the room behind `at` bytes becomes ys, of which n were read
  pub read-more : (n : ℕ) → n ≤ length ys → Consumes b c (take n ys) → Consumes a c (take (at + n) (put_mid at room xs ys))
  read-more n fits read =
      let front : length (take at xs) ≡ at = length-take-le at xs within in
      let all : take (at + n) (put_mid at room xs ys) ≡ take at xs ++ take n ys =
      ap (λ (k : ℕ). take (k + n) (put_mid at room xs ys)) (sym front) ∙ take-append-add (take at xs) (ys ++ post_of at room xs) n
      ∙ ap (λ (l : List ℕ). take at xs ++ l) (take-append-le n ys (post_of at room xs) fits) in
      subst (Consumes a c) (sym all) (Consumes-trans a b c _ _ before read)

  -- nothing was read
  pub read-none : Keeps b c → Consumes a c (take at (put_mid at room xs ys))
  read-none kept = subst (Consumes a c) (sym (take-put_mid_below at room xs ys at (le_refl at) within)) (Consumes-kept a b c _ before kept)
