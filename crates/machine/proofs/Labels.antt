-- A label for each key: what holds of elements with a label when the label of another key changes.
use Prim.Native.Nat.{ℕ}
use mathlib.Core.Path.{◌≡◌, sym, ◌∙◌, ap}
use mathlib.Core.Logic.{◌≢◌}
use mathlib.Core.List.{List}
use Rattle.lists.specs.Search.{All}
use Rattle.lists.specs.Table.{update}
use Rattle.lists.proofs.Tables.{update_other}
use Rattle.lists.proofs.Every.{all_map, all-map2}

module _ {A : Type 0} (key : A → ℕ) (label : ℕ → ℕ) (t c : ℕ) {R : A → Type 0} where
  pub relabel : (v : ℕ) {xs : List A} → All (λ x. (label (key x) ≡ c) × R x) xs → All (λ x. key x ≢ t) xs → All (λ x. (update label t v (key x) ≡ c) × R x) xs
  relabel v h n = all-map2 (λ x k m. (update_other label t v m ∙ k.0, k.1)) h n

  pub away : {xs : List A} → label t ≢ c → All (λ x. (label (key x) ≡ c) × R x) xs → All (λ x. key x ≢ t) xs
  away n h = all_map (λ x k e. n (sym (ap label e) ∙ k.0)) h
